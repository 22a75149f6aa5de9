-- `pre_allocate` on any memory: judged by arithmetic, then chunk after chunk made dense.
use Rattle.std.specs.Prelude.{◌≡◌, ℕ, zero, suc, ◌+◌, ◌-◌, ◌/◌, ◌≤◌, List, false, cond, ◌&&◌, ℤ, pos, negsuc, ltb, eqb, Ok, Err}
use Rattle.sums.specs.Ids.{count}
use Rattle.dense.specs.Bits.{with_row}
use Rattle.layout.specs.Mem.{Mem}
use Rattle.document.specs.Sizes.{top}
use Rattle.document.specs.Refusals.{not_laid_out, is_ranked, overflow_full, pages_full}
use Rattle.layout.specs.Sizes.{over_start, head, mode_at, over_count}
use Rattle.layout.specs.Places.{has_page, row_part, page_part}
use Rattle.layout.specs.Entries.{entries, chunk_at, place_at, place_of}
use Rattle.layout.specs.Short.{over_place}
use Rattle.layout.specs.Free.{free_page_in}
use Rattle.layout.specs.Meaning.{ranked}
use Rattle.layout.specs.Tests.{Walked, walked}
use Rattle.layout.specs.SetUp.{Did, did}
use Rattle.document.specs.declared.sizes.Sizes.{Sizes}
use Rattle.layout.specs.declared.place.Place.{Place}
use Rattle.layout.specs.declared.place.Place.TheVariants.{Absent, Sparse, Dense}
use Rattle.steps.specs.Steps.{paged}

-- the lowest free page, P where there is none
abbrev pub lowest_page : Sizes → Mem → ℕ
lowest_page h x = free_page_in h x.table

-- chunk c into page p, with the members of its row; a dense one stays where it is
abbrev pub into_page : Sizes → Mem → ℕ → ℕ → Place → Mem
into_page h x c p Absent = paged h x c Absent p (page_part h x.pages p)
into_page h x c p (Sparse r l) = paged h x c (Sparse r l) p (with_row (page_part h x.pages p) (row_part h x.rows r) (top h) l)
into_page h x c p (Dense q) = x

-- chunk c made dense: it takes the lowest free page
abbrev pub densed : Sizes → Mem → ℕ → Mem
densed h x c = into_page h x c (lowest_page h x) (place_of h x.table c)

-- chunks 0 to n - 1 made dense, in rising order
unfoldable pub densed_to : Sizes → Mem → ℕ → Mem
densed_to h x zero = x
densed_to h x (suc n) = densed h (densed_to h x n) n

-- how many a maximum asks for: chunks 0 to its own, none where it is negative
abbrev pub chunks_to : Sizes → ℤ → ℕ
chunks_to h (pos n) = n / top h + 1
chunks_to h (negsuc n) = 0

-- overflow entries and pages that are needed once chunks 0 to c are dense
unfoldable pub over_needed : Sizes → List ℕ → ℕ → ℕ
over_needed h t c = over_count t - over_place t (over_start h.d) (over_count t) (c + 1) + (c + 1 - h.d)

unfoldable pub pages_needed : Sizes → List ℕ → ℕ → ℕ
pages_needed h t c = count (λ (e : ℕ). ltb c (chunk_at h t e) && has_page (place_at h t e)) (entries h t) + (c + 1)

-- what the tests below leave: an open set that passed the walk, with room for chunks 0 to c dense
pub record HasRoom (x : Mem) (c : ℕ) : Type 0 where
  pub walks : Walked x (head x)
  pub mode : ranked x ≡ false
  pub over : over_needed (head x) x.table c ≤ (head x).v
  pub pages : pages_needed (head x) x.table c ≤ (head x).p

-- 6 before 8; 7 can't arise
abbrev pub prepare_to : Sizes → Mem → ℕ → Did
prepare_to h x c =
    cond (ltb h.v (over_needed h x.table c)) (did (Err overflow_full) x)
    (cond (ltb h.p (pages_needed h x.table c)) (did (Err pages_full) x)
    (did (Ok tt) (densed_to h x (c + 1))))

abbrev pub prepare_id : Mem → ℤ → Did
prepare_id x (pos n) = prepare_to (head x) x (n / top (head x))
prepare_id x (negsuc n) = did (Ok tt) x

-- 3, then 4, then the maximum
unfoldable pub prepare_by : Mem → ℤ → Did
prepare_by x z =
    cond (walked x) (cond (eqb (mode_at x.table) 1) (did (Err is_ranked) x) (prepare_id x z)) (did (Err not_laid_out) x)
