-- Union on any two memories: judged before anything is written, then chunks whose result is dense, then rows. The destination is x, the source y.
use Rattle.std.specs.Prelude.{ℕ, zero, suc, ◌+◌, ◌-◌, List, Bool, true, false, cond, not, ◌&&◌, ◌||◌, length, take, leb, ltb, eqb, Ok, Err}
use Rattle.sums.specs.Ids.{count}
use Rattle.sparse.specs.Edit.{copied}
use Rattle.sparse.specs.Union as sparse
use Rattle.dense.specs.Bits.{with_row, or_words}
use Rattle.document.specs.Sizes.{top}
use Rattle.document.specs.Refusals.{not_laid_out, is_ranked, sizes_differ, overflow_full, rows_full, pages_full}
use Rattle.document.specs.Union.{Join, merge_from, merge, same_shape}
use Rattle.document.specs.declared.sizes.Sizes.{Sizes}
use Rattle.layout.specs.Mem.{Mem, mem}
use Rattle.layout.specs.Sizes.{head, mode_at, over_count}
use Rattle.layout.specs.Places.{decoded, has_row, has_page, row_part, page_part}
use Rattle.layout.specs.Entries.{entries, chunk_at, place_at}
use Rattle.layout.specs.Short.{word_in}
use Rattle.layout.specs.SetUp.{fresh}
use Rattle.layout.specs.Tests.{rows_owned, pages_owned, walked}
use Rattle.layout.specs.Writes.{put_page}
use Rattle.layout.specs.declared.place.Place.{Place}
use Rattle.layout.specs.declared.place.Place.TheVariants.{Absent, Sparse, Dense}
use Rattle.steps.specs.Steps.{rowed}
use Rattle.calls.specs.Insert.{free_row, free_page}
use Rattle.calls.specs.Prepare.{into_page}
use Rattle.document.specs.Results.{Outcome}
use Rattle.layout.specs.Found.{Word}

-- ---- where a chunk stands

-- a place that is not one of the sizes' is none: the walk rules that out
abbrev pub fits : Sizes → Place → Bool
fits h Absent = true
fits h (Sparse r l) = ltb r h.r && leb l h.m
fits h (Dense p) = ltb p h.p

abbrev pub fitted : Sizes → Place → Place
fitted h q = cond (fits h q) q Absent

abbrev pub named : Sizes → Word → Place
named h (Ok w) = fitted h (decoded w)
named h (Err n) = Absent

-- chunk c of the destination; entry e of the source and its chunk
unfoldable pub standing : Mem → ℕ → Place
standing x c = named (head x) (word_in x.table c)

unfoldable pub source : Mem → ℕ → Place
source y e = fitted (head y) (place_at (head y) y.table e)

abbrev pub source_chunk : Mem → ℕ → ℕ
source_chunk y e = chunk_at (head y) y.table e

abbrev pub source_entries : Mem → ℕ
source_entries y = entries (head y) y.table

abbrev pub is_placed : Place → Bool
is_placed q = has_row q || has_page q

-- the union of l offsets of row r and k offsets of the source's row i
abbrev pub rows_union : Mem → Mem → ℕ → ℕ → ℕ → ℕ → List ℕ
rows_union x y r l i k = sparse.union (take l (row_part (head x) x.rows r)) (take k (row_part (head y) y.rows i))

-- whether the union of a chunk, here and there, is dense
abbrev pub union_dense : Mem → Mem → Place → Place → Bool
union_dense x y o Absent = false
union_dense x y Absent (Sparse i k) = false
union_dense x y (Sparse r l) (Sparse i k) = ltb (head x).m (length (rows_union x y r l i k))
union_dense x y (Dense p) (Sparse i k) = true
union_dense x y o (Dense p) = true

-- ---- what the map after needs: of each entry of the source, 0 or 1

unfoldable pub new_entry : Mem → Mem → ℕ → Bool
new_entry x y e = is_placed (source y e) && (leb (head x).d (source_chunk y e) && not (is_placed (standing x (source_chunk y e))))

unfoldable pub new_row : Mem → Mem → ℕ → Bool
new_row x y e = has_row (source y e) && not (is_placed (standing x (source_chunk y e)))

unfoldable pub freed_row : Mem → Mem → ℕ → Bool
freed_row x y e = union_dense x y (standing x (source_chunk y e)) (source y e) && has_row (standing x (source_chunk y e))

unfoldable pub new_page : Mem → Mem → ℕ → Bool
new_page x y e = union_dense x y (standing x (source_chunk y e)) (source y e) && not (has_page (standing x (source_chunk y e)))

abbrev pub over_after : Mem → Mem → ℕ
over_after x y = over_count x.table + count (new_entry x y) (source_entries y)

abbrev pub rows_after : Mem → Mem → ℕ
rows_after x y = rows_owned (head x) x.table + count (new_row x y) (source_entries y) - count (freed_row x y) (source_entries y)

abbrev pub pages_after : Mem → Mem → ℕ
pages_after x y = pages_owned (head x) x.table + count (new_page x y) (source_entries y)

-- 6, 7, 8
unfoldable pub judged : Mem → Mem → Outcome
judged x y =
    cond (ltb (head x).v (over_after x y)) (Err overflow_full)
    (cond (ltb (head x).r (rows_after x y)) (Err rows_full)
    (cond (ltb (head x).p (pages_after x y)) (Err pages_full) (Ok tt)))

-- ---- first pass: chunks whose result is dense

-- the page that a chunk has, or takes: the lowest free one
abbrev pub page_of : Mem → Place → ℕ
page_of x Absent = free_page x
page_of x (Sparse r l) = free_page x
page_of x (Dense p) = p

-- a page with the source's members of the chunk: a copy where there was none here
abbrev pub with_source : Mem → Place → List ℕ → Place → List ℕ
with_source y o page Absent = page
with_source y o page (Sparse i k) = with_row page (row_part (head y) y.rows i) (top (head y)) k
with_source y Absent page (Dense p) = page_part (head y) y.pages p
with_source y (Sparse r l) page (Dense p) = or_words page (page_part (head y) y.pages p)
with_source y (Dense q) page (Dense p) = or_words page (page_part (head y) y.pages p)

-- page p with them
abbrev pub joined_page : Mem → Mem → Place → ℕ → Place → Mem
joined_page x y o p q = mem (put_page (head x) x.pages p (with_source y o (page_part (head x) x.pages p) q)) x.rows x.blocks x.table

-- chunk c, here at o and there at q: made dense as preparation does it, then the source's members
abbrev pub densely : Mem → Mem → ℕ → Place → Place → Mem
densely x y c o q =
    cond (union_dense x y o q && ltb (page_of x o) (head x).p) (joined_page (into_page (head x) x c (page_of x o) o) y o (page_of x o) q) x

-- the source's entries in turn
unfoldable pub dense_to : Mem → Mem → ℕ → Mem
dense_to x y zero = x
dense_to x y (suc e) = densely (dense_to x y e) y (source_chunk y e) (standing (dense_to x y e) (source_chunk y e)) (source y e)

-- ---- second pass: chunks whose result is sparse

-- a new one takes the lowest free row
abbrev pub row_copied : Mem → Mem → ℕ → ℕ → ℕ → ℕ → Mem
row_copied x y c r i k =
    cond (ltb r (head x).r) (rowed (head x) x c r k (copied (row_part (head y) y.rows i) (row_part (head x) x.rows r) k)) x

-- one that is there stays in its row
abbrev pub row_joined : Mem → Mem → ℕ → ℕ → ℕ → ℕ → ℕ → Mem
row_joined x y c r l i k =
    cond (leb (length (rows_union x y r l i k)) (head x).m)
    (rowed (head x) x c r (length (rows_union x y r l i k)) (sparse.on_front (rows_union x y r l i k) (row_part (head x) x.rows r)))
    x

abbrev pub sparsely : Mem → Mem → ℕ → Place → Place → Mem
sparsely x y c o Absent = x
sparsely x y c o (Dense p) = x
sparsely x y c Absent (Sparse i k) = row_copied x y c (free_row x) i k
sparsely x y c (Sparse r l) (Sparse i k) = row_joined x y c r l i k
sparsely x y c (Dense p) (Sparse i k) = x

unfoldable pub sparse_to : Mem → Mem → ℕ → Mem
sparse_to x y zero = x
sparse_to x y (suc e) = sparsely (sparse_to x y e) y (source_chunk y e) (standing (sparse_to x y e) (source_chunk y e)) (source y e)

-- both passes
unfoldable pub united_by : Mem → Mem → Mem
united_by x y = sparse_to (dense_to x y (source_entries y)) y (source_entries y)

-- ---- the calls

-- an answer, and both memories after the call
pub record Met : Type 0 where
  pub answer : Outcome
  pub here : Mem
  pub there : Mem

abbrev pub met : Outcome → Mem → Mem → Met
met a x y = record { answer = a; here = x; there = y }

-- 4: a ranked destination, of `merge` a ranked source too
abbrev pub barred_by : Mem → Mem → Join → Bool
barred_by x y merge_from = eqb (mode_at x.table) 1
barred_by x y merge = eqb (mode_at x.table) 1 || eqb (mode_at y.table) 1

-- the source after an accepted call: as set_up of its sizes leaves it after `merge`
abbrev pub left_by : Mem → Join → Mem
left_by y merge_from = y
left_by y merge = fresh (head y) y

abbrev pub met_if : Mem → Mem → Join → Outcome → Met
met_if x y j (Ok tt) = met (Ok tt) (united_by x y) (left_by y j)
met_if x y j (Err n) = met (Err n) x y

-- 3 by the destination's walk, then by the source's, 4, 10, then 6, 7, 8
unfoldable pub union_plan : Mem → Mem → Join → Outcome
union_plan x y j =
    cond (walked x && walked y)
    (cond (barred_by x y j) (Err is_ranked) (cond (same_shape (head x) (head y)) (judged x y) (Err sizes_differ)))
    (Err not_laid_out)

unfoldable pub union_by : Mem → Mem → Join → Met
union_by x y j = met_if x y j (union_plan x y j)
