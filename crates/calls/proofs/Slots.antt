-- Rows and pages that are taken: a step moves one chunk. Assumes nothing.
use mathlib.Core.Path.{◌≡◌, refl, sym, ap, subst, ◌∙◌}
use mathlib.Core.Logic.{◌≢◌}
use mathlib.Core.Bool.{Bool, true, false, cond}
use Prim.Native.Nat.{ℕ}
use lib.Dec.{eqb}
use borrow.Author.Tests.{eqb-true, ne_eqb}
use Rattle.sums.specs.Ids.{Ids}
use Rattle.layout.specs.Mem.{Mem}
use Rattle.layout.specs.Entries.{place_of}
use Rattle.layout.specs.Lowest.{Moves, place_in, TakesLowest, TakesRising}
use Rattle.layout.specs.Follows.{Follows}
use Rattle.document.specs.declared.sizes.Sizes.{Sizes}
use Rattle.layout.specs.declared.place.Place.{Place}
use Rattle.layout.specs.declared.place.Place.TheVariants.{Absent, Sparse, Dense}
use Rattle.steps.specs.Effects.{Becomes}

-- ---- nothing is taken

moves_not : (x : Mem) (p : Place) → Moves x p p
moves_not x Absent = tt
moves_not x (Sparse r l) = refl
moves_not x (Dense p) = refl

pub places_stay : (x y : Mem) → ((c : ℕ) → place_in y c ≡ place_in x c) → TakesLowest x y
places_stay x y e c = subst (Moves x (place_in x c)) (sym (e c)) (moves_not x (place_in x c))

pub takes_none : (x : Mem) → TakesLowest x x
takes_none x c = moves_not x (place_in x c)

-- chunk c alone moves
pub record Turn (x y : Mem) (c : ℕ) : Type 0 where
  pub takes : TakesLowest x y
  pub others : (i : ℕ) → i ≢ c → place_in y i ≡ place_in x i

pub turn_none : (x : Mem) (c : ℕ) → Turn x x c
turn_none x c = record { takes = takes_none x; others = λ i d. refl }

pub rising_none : {x : Mem} → Follows x → (n : ℕ) → TakesRising x x n
rising_none {x} w n = record {
  up_to = λ k. x;
  first = refl;
  last = refl;
  follows = λ k l. w;
  takes = λ k l. takes_none x;
  others = λ k l c d. refl;
}

-- ---- a step of chunk c to the place q

module _ {x y : Mem} {c : ℕ} {q : Place} {os : Ids} (b : Becomes x y c q os) where
  place_is : (i : ℕ) → place_in y i ≡ cond (eqb i c) q (place_in x i)
  place_is i = ap (λ (h : Sizes). place_of h y.table i) b.head_is ∙ b.places_is i

  others_stay : (i : ℕ) → i ≢ c → place_in y i ≡ place_in x i
  others_stay i d = place_is i ∙ ap (λ (t : Bool). cond t q (place_in x i)) (ne_eqb i c d)

  pub becomes_takes : Moves x (place_in x c) q → TakesLowest x y
  becomes_takes m i = subst (Moves x (place_in x i)) (sym (place_is i)) (go (eqb i c) refl)
    where
      go : (t : Bool) → eqb i c ≡ t → Moves x (place_in x i) (cond t q (place_in x i))
      go true e = subst (λ (j : ℕ). Moves x (place_in x j) q) (sym (eqb-true i c e)) m
      go false e = moves_not x (place_in x i)

  pub turn_becomes : Moves x (place_in x c) q → Turn x y c
  turn_becomes m = record { takes = becomes_takes m; others = others_stay }
