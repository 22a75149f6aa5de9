-- Inserts on any memory: a plan by rows and pages, and what it does.
use Rattle.std.specs.Prelude.{ℕ, ◌+◌, List, Bool, true, false, cond, ◌&&◌, ℤ, length, leb, ltb, eqb, Option, Some, None, Result, Ok, Err}
use Rattle.numbers.specs.Ids.{split_of}
use Rattle.sparse.specs.Search.{spot_in}
use Rattle.sparse.specs.Edit.{inserted_at}
use Rattle.dense.specs.Bits.{is_set, with_bit, with_row}
use Rattle.document.specs.Sizes.{top}
use Rattle.document.specs.Refusals.{not_laid_out, is_ranked, overflow_full, rows_full, pages_full, not_prepared}
use Rattle.layout.specs.Mem.{Mem, mem}
use Rattle.layout.specs.Sizes.{head, mode_at, over_count}
use Rattle.layout.specs.Places.{decoded, encoded, row_part, page_part}
use Rattle.layout.specs.Short.{word_in, spot_fits}
use Rattle.layout.specs.Free.{free_row_in, free_page_in}
use Rattle.layout.specs.Tests.{head_is}
use Rattle.layout.specs.Writes.{put_word, put_row, put_page}
use Rattle.layout.specs.declared.place.Place.{Place}
use Rattle.layout.specs.declared.place.Place.TheVariants.{Absent, Sparse, Dense}
use Rattle.steps.specs.Steps.{rowed, paged}
use Rattle.calls.specs.Reading.{shift_ok}
use Rattle.calls.specs.Planned.{InsertPlan}
use Rattle.calls.specs.declared.plan.Plan.TheVariants.{Begin, Enter, Known, Mark, Turn}
use Rattle.document.specs.Results.{Truth}
use Rattle.layout.specs.Found.{Word}

-- ---- the plan of an insert into an open set

-- the lowest free row and page
abbrev pub free_row : Mem → ℕ
free_row x = free_row_in (head x) x.table

abbrev pub free_page : Mem → ℕ
free_page x = free_page_in (head x) x.table

-- an absent chunk c starts sparse: an overflow entry, then a row
abbrev pub start_chunk : Mem → ℕ → InsertPlan
start_chunk x c =
    cond (head_is (head x) x)
    (cond (leb (head x).d c && leb (head x).v (over_count x.table)) (Err overflow_full)
    (cond (ltb (free_row x) (head x).r) (Ok (Begin (free_row x))) (Err rows_full)))
    (Err not_laid_out)

-- a full row r of l members becomes dense: a page
abbrev pub turn_dense : Mem → ℕ → ℕ → InsertPlan
turn_dense x r l =
    cond (head_is (head x) x && ltb r (head x).r)
    (cond (ltb (free_page x) (head x).p) (Ok (Turn r l (free_page x))) (Err pages_full))
    (Err not_laid_out)

-- row r of l members, searched for the offset: a member is never a promotion
abbrev pub into_row : Mem → ℕ → ℕ → Result ℕ ℕ → InsertPlan
into_row x r l (Ok i) = Ok Known
into_row x r l (Err k) = cond (ltb l (head x).m) (Ok (Enter r l k)) (turn_dense x r l)

abbrev pub mark_plan : Mem → ℕ → ℕ → InsertPlan
mark_plan x o p = cond (is_set (page_part (head x) x.pages p) o) (Ok Known) (Ok (Mark p))

-- offset o of chunk c, which is at a place
abbrev pub into_place : Mem → ℕ → ℕ → Place → InsertPlan
into_place x c o Absent = start_chunk x c
into_place x c o (Sparse r l) = into_row x r l (spot_in (row_part (head x) x.rows r) l o)
into_place x c o (Dense p) = mark_plan x o p

-- the prepared insert: only into a dense chunk
abbrev pub into_dense : Mem → ℕ → Place → InsertPlan
into_dense x o Absent = Err not_prepared
into_dense x o (Sparse r l) = Err not_prepared
into_dense x o (Dense p) = mark_plan x o p

-- a place's row or page is one of the sizes' and lies inside its slice
abbrev pub inside_slices : Mem → Place → Bool
inside_slices x q = spot_fits (head x) (length x.pages) (length x.rows) q

-- by the place that a chunk's word names; 3 where it is not inside its slice
abbrev pub by_word : Mem → (Place → InsertPlan) → Word → InsertPlan
by_word x plan (Ok w) = cond (inside_slices x (decoded w)) (plan (decoded w)) (Err not_laid_out)
by_word x plan (Err n) = Err n

unfoldable pub insert_plan : Mem → ℕ → ℕ → InsertPlan
insert_plan x c o = by_word x (into_place x c o) (word_in x.table c)

unfoldable pub prepared_plan : Mem → ℕ → ℕ → InsertPlan
prepared_plan x c o = by_word x (into_dense x o) (word_in x.table c)

-- ---- what is answered, and memory after

pub record Told : Type 0 where
  pub answer : Truth
  pub after : Mem

abbrev pub told : Truth → Mem → Told
told a x = record { answer = a; after = x }

-- offset o in page p
abbrev pub bit_put : Mem → ℕ → ℕ → Mem
bit_put x o p = mem (put_page (head x) x.pages p (with_bit (page_part (head x) x.pages p) o)) x.rows x.blocks x.table

-- offset o of chunk c at place k of row r, which had l members
abbrev pub entered : Mem → ℕ → ℕ → ℕ → ℕ → ℕ → Mem
entered x c o r l k =
    mem x.pages (put_row (head x) x.rows r (inserted_at (row_part (head x) x.rows r) l k o)) x.blocks
    (put_word (head x) x.table c (encoded (Sparse r (l + 1))))

-- page p with the l members of row r and offset o
abbrev pub turned : Mem → ℕ → ℕ → ℕ → ℕ → List ℕ
turned x o r l p = with_bit (with_row (page_part (head x) x.pages p) (row_part (head x) x.rows r) (top (head x)) l) o

-- the plan for offset o of chunk c, carried out
abbrev pub acted : Mem → ℕ → ℕ → InsertPlan → Told
acted x c o (Err n) = told (Err n) x
acted x c o (Ok Known) = told (Ok false) x
acted x c o (Ok (Mark p)) = told (Ok true) (bit_put x o p)
acted x c o (Ok (Enter r l k)) = told (Ok true) (entered x c o r l k)
acted x c o (Ok (Begin r)) = told (Ok true) (rowed (head x) x c r 1 (inserted_at (row_part (head x) x.rows r) 0 0 o))
acted x c o (Ok (Turn r l p)) = told (Ok true) (paged (head x) x c (Sparse r l) p (turned x o r l p))

-- ---- the calls

-- 3, then 4, then what an open set does
abbrev pub if_open : Mem → Told → Told
if_open x t =
    cond (shift_ok x.table && leb (mode_at x.table) 1)
    (cond (eqb (mode_at x.table) 1) (told (Err is_ranked) x) t)
    (told (Err not_laid_out) x)

-- `set_if_new`
abbrev pub insert_at : Mem → Option (ℕ × ℕ) → Told
insert_at x (Some (c, o)) = acted x c o (insert_plan x c o)
insert_at x None = told (Ok false) x

unfoldable pub insert_by : Mem → ℤ → Told
insert_by x z = if_open x (insert_at x (split_of (head x).s z))

-- the prepared insert
abbrev pub prepared_at : Mem → Option (ℕ × ℕ) → Told
prepared_at x (Some (c, o)) = acted x c o (prepared_plan x c o)
prepared_at x None = told (Err not_prepared) x

unfoldable pub prepared_by : Mem → ℤ → Told
prepared_by x z = if_open x (prepared_at x (split_of (head x).s z))
