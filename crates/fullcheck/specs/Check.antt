-- The layout's rules past the walk over the table (10, 11, 12, 14, 15, 16), each as a test of one place over its range, in the order of docs/LAYOUT.md.
use Rattle.std.specs.Prelude.{◌≡◌, ℕ, ◌+◌, ◌*◌, ◌-◌, ◌≤◌, ◌<◌, List, Bool, true, cond, not, ◌&&◌, ◌||◌, length, get_or, leb, ltb, eqb}
use Rattle.sums.specs.Sums.{sum_to}
use Rattle.sums.specs.Rules.{all_to}
use Rattle.dense.specs.Bits.{bits_to}
use Rattle.layout.specs.Mem.{Mem}
use Rattle.document.specs.Sizes.{InRange, top}
use Rattle.layout.specs.Sizes.{wide, blocks_of, table_size, head, over_count, total_at}
use Rattle.layout.specs.Places.{row_part, page_part, row_owner, page_owner}
use Rattle.layout.specs.Entries.{entries, chunk_at, prefix_at, place_at}
use Rattle.layout.specs.Follows.{Owned, size_of}
use Rattle.layout.specs.Tests.{zeros, ranked_at, walked}
use Rattle.document.specs.declared.sizes.Sizes.{Sizes}
use Rattle.layout.specs.declared.place.Place.{Place}
use Rattle.layout.specs.declared.place.Place.TheVariants.{Absent, Sparse, Dense}

-- what the walk has shown of the table
pub record WalkShown (h : Sizes) (t : List ℕ) : Type 0 where
  pub sizes : InRange h
  pub in_table : table_size h ≤ length t
  pub over_fits : over_count t ≤ h.v
  pub places : (e : ℕ) → e < entries h t → Owned h t (chunk_at h t e) (place_at h t e)

-- 10: the i-th of a row's l offsets is below u, and below the next
unfoldable pub offset_is : List ℕ → ℕ → ℕ → ℕ → Bool
offset_is row u l i = ltb (get_or row i 0) u && (leb l (i + 1) || ltb (get_or row i 0) (get_or row (i + 1) 0))

unfoldable pub list_is : Sizes → List ℕ → ℕ → Bool
list_is h row l = all_to (offset_is row (top h) l) l && zeros row l (h.m - l)

abbrev pub list_at : Sizes → List ℕ → Place → Bool
list_at h rows Absent = true
list_at h rows (Sparse r l) = list_is h (row_part h rows r) l
list_at h rows (Dense p) = true

unfoldable pub row_is : Sizes → List ℕ → List ℕ → ℕ → Bool
row_is h rows t e = list_at h rows (place_at h t e)

-- 11, 12: a row, a page without an owner holds zeros
unfoldable pub free_row_is : Sizes → List ℕ → List ℕ → ℕ → Bool
free_row_is h rows t r = not (eqb (row_owner h t r) 0) || zeros rows (r * h.m) h.m

unfoldable pub free_page_is : Sizes → List ℕ → List ℕ → ℕ → Bool
free_page_is h pages t p = not (eqb (page_owner h t p) 0) || zeros pages (p * wide h) (wide h)

-- members of entry e
unfoldable pub size_of_entry : Sizes → List ℕ → List ℕ → ℕ → ℕ
size_of_entry h pages t e = size_of h pages (place_at h t e)

-- a count that only a ranked set keeps
abbrev pub kept_if : Bool → ℕ → ℕ
kept_if ranked n = cond ranked n 0

-- 14, 15: the prefix of entry e, and the total
unfoldable pub prefix_is : Sizes → List ℕ → List ℕ → ℕ → Bool
prefix_is h pages t e = eqb (prefix_at h t e) (kept_if (ranked_at t) (sum_to (size_of_entry h pages t) e))

unfoldable pub total_is : Sizes → List ℕ → List ℕ → Bool
total_is h pages t = eqb (total_at t) (kept_if (ranked_at t) (sum_to (size_of_entry h pages t) (entries h t)))

-- 16: the count of block b of a page, whose counts stand from a
unfoldable pub block_is : List ℕ → List ℕ → Bool → ℕ → ℕ → Bool
block_is page blocks ranked a b = eqb (get_or blocks (a + b) 0) (kept_if ranked (bits_to page (512 * b)))

unfoldable pub page_blocks : Sizes → List ℕ → List ℕ → Bool → ℕ → Bool
page_blocks h pages blocks ranked p = all_to (block_is (page_part h pages p) blocks ranked (p * blocks_of h)) (blocks_of h)

-- what the test of the block counts has shown of pages and counts
pub record BlocksShown (h : Sizes) (pages blocks : List ℕ) (ranked : Bool) : Type 0 where
  pub in_pages : h.p * wide h ≤ length pages
  pub in_blocks : h.p * blocks_of h ≤ length blocks
  pub right : all_to (page_blocks h pages blocks ranked) h.p ≡ true

-- what is left of the rule, by slice
unfoldable pub rows_are : Sizes → List ℕ → List ℕ → Bool
rows_are h rows t = all_to (row_is h rows t) (entries h t) && all_to (free_row_is h rows t) h.r

unfoldable pub ranks_are : Sizes → List ℕ → List ℕ → Bool
ranks_are h pages t = all_to (prefix_is h pages t) (entries h t) && total_is h pages t

unfoldable pub rest_is : Sizes → Mem → Bool
rest_is h x =
    rows_are h x.rows x.table
    && all_to (free_page_is h x.pages x.table) h.p
    && ranks_are h x.pages x.table
    && all_to (page_blocks h x.pages x.blocks (ranked_at x.table)) h.p

-- the whole check
unfoldable pub checked : Mem → Bool
checked x = walked x && rest_is (head x) x
