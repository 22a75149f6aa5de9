-- What a plan writes, slice by slice, is what the plan does to memory. Assumes nothing.
use mathlib.Core.Path.{◌≡◌, sym, ◌∙◌, ap, ap₂}
use mathlib.Core.List.{List, ◌++◌}
use mathlib.Core.Bool.{true}
use Prim.Native.Nat.{ℕ, ◌+◌, ◌-◌, ◌*◌}
use lib.ListN.{take, drop}
use Rattle.sparse.specs.Edit.{inserted_at}
use Rattle.dense.specs.Bits.{with_bit, with_row}
use Rattle.layout.specs.Mem.{mem}
use Rattle.document.specs.Sizes.{top}
use Rattle.layout.specs.Sizes.{wide, header_at}
use Rattle.layout.specs.Places.{encoded, row_part, page_part}
use Rattle.document.specs.declared.sizes.Sizes.{Sizes}
use Rattle.layout.specs.declared.place.Place.TheVariants.{Sparse}
use Rattle.layout.specs.Writes.{put_word, put_row, put_page}
use Rattle.layout.proofs.Lent.{span}
use Rattle.steps.proofs.Lent.{put_lent}
use Rattle.calls.specs.Insert.{acted, told}
use Rattle.calls.specs.Planned.{InsertPlan}
use Rattle.calls.specs.declared.plan.Plan.TheVariants.{Enter}
use Rattle.std.specs.Prelude.{Ok}

-- page p filled from row r
pub turn_put : (pages rows : List ℕ) (h : Sizes) (r p l o i j k : ℕ) → i ≡ r * h.m → j ≡ p * wide h → k ≡ wide h → (ys : List ℕ)
    → ys ≡ with_bit (with_row (take (j + k - j) (drop j pages)) (take (i + h.m - i) (drop i rows)) (top h) l) o
    → take j pages ++ (ys ++ drop (j + k - j) (drop j pages)) ≡ put_page h pages p (with_bit (with_row (page_part h pages p) (row_part h rows r) (top h) l) o)
turn_put pages rows h r p l o i j k ei ej ek ys f =
    put_lent pages j k (p * wide h) (wide h) ej ek (λ (w : List ℕ). with_bit (with_row w (take (i + h.m - i) (drop i rows)) (top h) l) o) ys f
    ∙ ap (λ (row : List ℕ). put_page h pages p (with_bit (with_row (page_part h pages p) row (top h) l) o))
    (ap (λ (n : ℕ). take n (drop i rows)) (span i h.m) ∙ ap (λ (n : ℕ). take h.m (drop n rows)) ei)

-- offset o at place k of row r, whose start i and width n were read
pub enter_put : (rows : List ℕ) (h : Sizes) (r l k o n i : ℕ) → n ≡ h.m → i ≡ r * n → (ys : List ℕ) → ys ≡ inserted_at (take (i + n - i) (drop i rows)) l k o
    → take i rows ++ (ys ++ drop (i + n - i) (drop i rows)) ≡ put_row h rows r (inserted_at (row_part h rows r) l k o)
enter_put rows h r l k o n i en ei ys f =
    put_lent rows i n (r * h.m) h.m (ei ∙ ap (λ (m : ℕ). r * m) en) en (λ (row : List ℕ). inserted_at row l k o) ys f

-- ---- the plan

module _ (pages rows b t : List ℕ) (c o : ℕ) (q : InsertPlan) where
  pub act_enter : (r l k : ℕ) (s u : List ℕ) → q ≡ Ok (Enter r l k)
      → s ≡ put_row (header_at t) rows r (inserted_at (row_part (header_at t) rows r) l k o) → u ≡ put_word (header_at t) t c (encoded (Sparse r (l + 1)))
      → told (Ok true) (mem pages s b u) ≡ acted (mem pages rows b t) c o q
  act_enter r l k s u e f g =
      ap₂ (λ (i j : List ℕ). told (Ok true) (mem pages i b j)) f g ∙ ap (acted (mem pages rows b t) c o) (sym e)
