-- Laws of parts: where the input is cut changes nothing. Assumes nothing.
use mathlib.Core.Path.{◌≡◌, refl, sym, ◌∙◌}
use mathlib.Core.List.{List, [], ◌∷◌, ◌++◌}
use Prim.Native.Nat.{ℕ}
use lib.IntN.{ℤ}
use Rattle.program.specs.Turns.{Put}
use Rattle.program.specs.Reader.{together, Fed, step, feed, feed_parts}

module _ {X : Type 0} (put : X → ℤ → Put X) where
  -- a part, then another
  pub feed_append : (f : Fed X) (xs ys : List ℕ) → feed put f (xs ++ ys) ≡ feed put (feed put f xs) ys
  unfolding feed
  feed_append f [] ys = refl
  feed_append f (b ∷ xs) ys = feed_append (step put f b) xs ys

  -- one byte more
  pub feed_snoc : (f : Fed X) (bs : List ℕ) (b : ℕ) → feed put f (bs ++ (b ∷ [])) ≡ step put (feed put f bs) b
  unfolding feed
  feed_snoc f bs b = feed_append f bs (b ∷ [])

  -- any parts are as good as one
  pub parts : (f : Fed X) (ps : List (List ℕ)) → feed_parts put f ps ≡ feed put f (together ps)
  unfolding feed feed_parts together
  parts f [] = refl
  parts f (p ∷ ps) = parts (feed put f p) ps ∙ sym (feed_append f p (together ps))
