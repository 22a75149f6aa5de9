-- The lowest free row and page.
use Rattle.std.specs.Prelude.{ℕ, zero, suc, ◌-◌, List, cond, eqb}
use Rattle.layout.specs.Sizes.{rows_from, pages_from}
use Rattle.layout.specs.Places.{row_owner, page_owner}
use Rattle.document.specs.declared.sizes.Sizes.{Sizes}

-- the first of the k places from i whose owner is 0, else the one past them
unfoldable pub first_free : (ℕ → ℕ) → ℕ → ℕ → ℕ
first_free f i zero = i
first_free f i (suc k) = cond (eqb (f i) 0) i (first_free f (suc i) k)

-- looked for from the header's word on: in memory that follows the layout nothing below it is free
abbrev pub free_row_in : Sizes → List ℕ → ℕ
free_row_in h t = first_free (row_owner h t) (rows_from t) (h.r - rows_from t)

abbrev pub free_page_in : Sizes → List ℕ → ℕ
free_page_in h t = first_free (page_owner h t) (pages_from t) (h.p - pages_from t)
