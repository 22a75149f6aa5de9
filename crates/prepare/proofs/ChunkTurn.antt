-- One chunk's turn: the place that is found is the chunk's. Assumes nothing.
use mathlib.Core.Path.{◌≡◌, sym, ◌∙◌, ap, subst}
use mathlib.Core.List.{List}
use mathlib.Core.Bool.{false}
use Prim.Native.Nat.{ℕ, ◌<◌}
use Rattle.layout.specs.Places.{decoded, has_page}
use Rattle.layout.specs.Entries.{word_of, place_of}
use Rattle.layout.specs.Short.{word_in}
use Rattle.document.specs.declared.sizes.Sizes.{Sizes}
use Rattle.layout.specs.declared.place.Place.{Place}
use Rattle.prepare.specs.Ready.{RowInside}
use Rattle.layout.specs.Found.{Word}
use Rattle.std.specs.Prelude.{Err, Ok}
use Rattle.document.specs.declared.refusal.Refusal.{Refusal}

-- ---- the word that is found

module _ (h : Sizes) (t : List ℕ) (c : ℕ) (has : word_in t c ≡ Ok (word_of h t c)) (r : Word) (is : r ≡ word_in t c) where
  pub never_bad : (n : Refusal) → r ≡ Err n → ⊥
  never_bad n e = absurd cc

  pub place_is : (w : ℕ) (p q : Place) → r ≡ Ok w → p ≡ decoded w → p ≡ q → q ≡ place_of h t c
  place_is w p q e f g = sym g ∙ f ∙ ap decoded (let i : w ≡ word_of h t c = cc in i)

-- page p is there for a place that is not dense
pub page_there : (h : Sizes) (p : ℕ) (q s : Place) → q ≡ s → (has_page s ≡ false → p < h.p) → has_page q ≡ false → p < h.p
page_there h p q s e f g = f (ap has_page (sym e) ∙ g)

-- a row that is the chunk's place lies inside its pool
pub inside_same : (h : Sizes) (p q : Place) → p ≡ q → RowInside h q → RowInside h p
inside_same h p q e i = subst (RowInside h) (sym e) i
