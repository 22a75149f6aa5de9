-- A slot of a pool that was lent and came back; a row cleared whole. Assumes nothing.
use mathlib.Core.Path.{◌≡◌, refl, ◌∙◌, ap, ap₂}
use mathlib.Core.List.{List, ◌++◌}
use Prim.Native.Nat.{ℕ, ◌+◌, ◌-◌, ◌*◌, ◌≤◌}
use native.Mathlib.Omega.{arith}
use lib.ListN.{length, take, drop, replicate, length-take, length-drop}
use lib.Seq.{drop-drop}
use Rattle.document.specs.declared.sizes.Sizes.{Sizes}
use Rattle.layout.specs.Writes.{put_part, put_row}
use Rattle.layout.proofs.Lent.{span}

-- f applied to the n elements from i on, where start and width were computed
pub put_lent : (xs : List ℕ) (i k a n : ℕ) → i ≡ a → k ≡ n → (f : List ℕ → List ℕ) (ys : List ℕ) → ys ≡ f (take (i + k - i) (drop i xs)) → take i xs ++ (ys ++ drop (i + k - i) (drop i xs)) ≡ put_part xs a n (f (take n (drop a xs)))
unfolding put_part
put_lent xs i k a n p q f ys e =
    ap₂ (λ (u v : List ℕ). take i xs ++ (u ++ v)) (e ∙ ap (λ (j : ℕ). f (take j (drop i xs))) (span i k)) (ap (λ (j : ℕ). drop j (drop i xs)) (span i k) ∙ drop-drop k i xs)
    ∙ ap₂ (λ (u v : ℕ). take u xs ++ (f (take v (drop u xs)) ++ drop (u + v) xs)) p q

-- a row filled with zeros
pub free_put : (rows : List ℕ) (h : Sizes) (r i : ℕ) → i ≡ r * h.m → r * h.m + h.m ≤ length rows → (ys : List ℕ) → ys ≡ replicate (length (take (i + h.m - i) (drop i rows))) 0
    → take i rows ++ (ys ++ drop (i + h.m - i) (drop i rows)) ≡ put_row h rows r (replicate h.m 0)
free_put rows h r i e l ys f =
    put_lent rows i h.m (r * h.m) h.m e refl (λ (w : List ℕ). replicate (length w) 0) ys f
    ∙ ap (λ (k : ℕ). put_row h rows r (replicate k 0)) (simp (length-take, length-drop) (omega arith))
