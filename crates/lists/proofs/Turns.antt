-- Ids in turn: so far, and from there on. Assumes nothing.
use mathlib.Core.Path.{◌≡◌, refl, sym, ap, ap₂, ◌∙◌}
use mathlib.Core.List.{List, [], ◌∷◌}
use mathlib.Core.Bool.{Bool}
use Prim.Native.Nat.{ℕ, zero, suc, ◌+◌, ◌≤◌, ◌<◌}
use native.Mathlib.Nat.{not-suc-le-zero, le_of_suc-le-suc}
use native.Mathlib.Numerals.{add-one}
use native.Mathlib.Omega.{arith}
use lib.IntN.{ℤ, pos}
use lib.ListN.{length, get_or, take, drop}
use mir.Val.{bool_byte}
use Rattle.sums.proofs.Counts.{byte_le}
use Rattle.lists.specs.declared.insert.Inserted.{Inserted}
use Rattle.lists.specs.Inserts.{inserted_of, then_rest, in_turn, all_next}
use Rattle.document.specs.Refusals.{number}
use Rattle.document.specs.Results.{Truth}
use Rattle.std.specs.Prelude.{Err, Ok}
use Rattle.document.specs.declared.refusal.Refusal.{Refusal}

drop_here : (i : ℕ) (zs : List ℤ) → i < length zs → drop i zs ≡ get_or zs i (pos 0) ∷ drop (suc i) zs
drop_here i [] l = absurd (not-suc-le-zero l)
drop_here zero (z ∷ zs) l = refl
drop_here (suc i) (z ∷ zs) l = drop_here i zs (le_of_suc-le-suc l)

drop_none : (i : ℕ) (zs : List ℤ) → length zs ≤ i → drop i zs ≡ []
drop_none zero [] l = refl
drop_none (suc i) [] l = refl
drop_none zero (z ∷ zs) l = absurd (not-suc-le-zero l)
drop_none (suc i) (z ∷ zs) l = drop_none i zs (le_of_suc-le-suc l)

-- after i ids that were taken, f of them new
abbrev ahead : ℕ → ℕ → Inserted → Inserted
ahead i f a = inserted_of (i + a.taken) (f + a.fresh) a.stop

ahead_none : (t f n : ℕ) → inserted_of t f n ≡ ahead 0 0 (inserted_of t f n)
ahead_none t f n =
    let i : t ≡ 0 + t = omega arith in
    let g : f ≡ 0 + f = omega arith in
    ap₂ (λ (v w : ℕ). inserted_of v w n) i g

ahead_rest : (r : Truth) (a : Inserted) → then_rest r a ≡ ahead 0 0 (then_rest r a)
ahead_rest (Ok b) a = ahead_none (suc a.taken) (bool_byte b + a.fresh) a.stop
ahead_rest (Err n) a = ahead_none 0 0 (number n)

module _ {A : Type 0} (answer : A → ℤ → Truth) (next : A → ℤ → A) where
  -- of zs from q on the first i are taken, f of them new, and led to p
  pub record Turned (q : A) (zs : List ℤ) (i f : ℕ) (p : A) : Type 0 where
    pub rest : in_turn answer next q zs ≡ ahead i f (in_turn answer next p (drop i zs))
    pub led : p ≡ all_next next q (take i zs)

  rest_none : (q : A) (zs : List ℤ) → in_turn answer next q zs ≡ ahead 0 0 (in_turn answer next q zs)
  unfolding in_turn
  rest_none q [] = ahead_none 0 0 0
  rest_none q (z ∷ zs) = ahead_rest (answer q z) (in_turn answer next (next q z) zs)

  pub turned_none : (q : A) (zs : List ℤ) → Turned q zs 0 0 q
  unfolding all_next
  turned_none q zs = record { rest = rest_none q zs; led = refl }

  next_last : (q : A) (i : ℕ) (zs : List ℤ) → i < length zs → all_next next q (take (suc i) zs) ≡ next (all_next next q (take i zs)) (get_or zs i (pos 0))
  unfolding all_next
  next_last q i [] l = absurd (not-suc-le-zero l)
  next_last q zero (z ∷ zs) l = refl
  next_last q (suc i) (z ∷ zs) l = next_last (next q z) i zs (le_of_suc-le-suc l)

  module _ (q : A) (zs : List ℤ) (i f : ℕ) (p : A) (t : Turned q zs i f p) where
    module _ (l : i < length zs) (z : ℤ) (e : z ≡ get_or zs i (pos 0)) where
      here : in_turn answer next q zs ≡ ahead i f (then_rest (answer p z) (in_turn answer next (next p z) (drop (suc i) zs)))
      unfolding in_turn
      here =
          t.rest ∙ ap (λ (r : List ℤ). ahead i f (in_turn answer next p r)) (drop_here i zs l)
          ∙ ap (λ (y : ℤ). ahead i f (then_rest (answer p y) (in_turn answer next (next p y) (drop (suc i) zs)))) (sym e)

      -- one more
      pub turned_next : (b : Bool) (p' : A) → answer p z ≡ Ok b → p' ≡ next p z → Turned q zs (i + 1) (f + bool_byte b) p'
      turned_next b p' a m =
          let r = in_turn answer next p' (drop (suc i) zs) in
          let j : i + suc r.taken ≡ suc i + r.taken = omega arith in
          let g : f + (bool_byte b + r.fresh) ≡ f + bool_byte b + r.fresh = omega arith in
          let u = add-one i in record {
            rest =
                here
                ∙ ap₂ (λ (v : Truth) (y : A). ahead i f (then_rest v (in_turn answer next y (drop (suc i) zs)))) a (sym m)
                ∙ ap₂ (λ (v w : ℕ). inserted_of v w r.stop) j g
                ∙ ap (λ (k : ℕ). ahead k (f + bool_byte b) (in_turn answer next p' (drop k zs))) (sym u);
            led = m ∙ ap₂ next t.led e ∙ sym (next_last q i zs l) ∙ ap (λ (k : ℕ). all_next next q (take k zs)) (sym u);
          }

      -- the next is refused
      pub turned_refused : (n : Refusal) → answer p z ≡ Err n → inserted_of i f (number n) ≡ in_turn answer next q zs
      turned_refused n a =
          let j : i ≡ i + 0 = omega arith in
          let g : f ≡ f + 0 = omega arith in
          ap₂ (λ (v w : ℕ). inserted_of v w (number n)) j g
          ∙ sym (here ∙ ap (λ (v : Truth). ahead i f (then_rest v (in_turn answer next (next p z) (drop (suc i) zs)))) a)

    -- there is no next
    pub turned_all : length zs ≤ i → inserted_of i f 0 ≡ in_turn answer next q zs
    unfolding in_turn
    turned_all l =
        let j : i ≡ i + 0 = omega arith in
        let g : f ≡ f + 0 = omega arith in
        ap₂ (λ (v w : ℕ). inserted_of v w 0) j g
        ∙ sym (t.rest ∙ ap (λ (r : List ℤ). ahead i f (in_turn answer next p r)) (drop_none i zs l))

  -- ---- how it ends

  -- every id is taken, or the next one is refused where those before it led
  pub data Ending (q : A) (zs : List ℤ) (a : Inserted) : Type 0 where
    whole : a.taken ≡ length zs → a.stop ≡ 0 → Ending q zs a
    stopped : a.taken < length zs → (n : Refusal) → answer (all_next next q (take a.taken zs)) (get_or zs a.taken (pos 0)) ≡ Err n → a.stop ≡ number n → Ending q zs a

  ending_next : (q : A) (z : ℤ) (zs : List ℤ) (a : Inserted) (r : Truth) → answer q z ≡ r → Ending (next q z) zs a → Ending q (z ∷ zs) (then_rest r a)
  unfolding all_next
  ending_next q z zs a (Ok b) e (whole t n) = whole (ap suc t) n
  ending_next q z zs a (Ok b) e (stopped l n s d) = let h : suc a.taken < suc (length zs) = omega arith in stopped h n s d
  ending_next q z zs a (Err n) e h = let h : 0 < suc (length zs) = omega arith in stopped h n e refl

  pub ending : (q : A) (zs : List ℤ) → Ending q zs (in_turn answer next q zs)
  unfolding in_turn
  ending q [] = whole refl refl
  ending q (z ∷ zs) = ending_next q z zs (in_turn answer next (next q z) zs) (answer q z) refl (ending (next q z) zs)

  -- of those that were taken some were new
  fresh_next : (r : Truth) (a : Inserted) → a.fresh ≤ a.taken → (then_rest r a).fresh ≤ (then_rest r a).taken
  fresh_next (Ok b) a l = omega (arith, byte_le b)
  fresh_next (Err n) a l = omega arith

  pub fresh_few : (q : A) (zs : List ℤ) → (in_turn answer next q zs).fresh ≤ (in_turn answer next q zs).taken
  unfolding in_turn
  fresh_few q [] = omega arith
  fresh_few q (z ∷ zs) = fresh_next (answer q z) (in_turn answer next (next q z) zs) (fresh_few (next q z) zs)
