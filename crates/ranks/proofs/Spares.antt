-- Ranking and leaving it write nothing past the sizes, on any memory. Assumes nothing.
use mathlib.Core.List.{List}
use mathlib.Core.Bool.{cond}
use Prim.Native.Nat.{ℕ, zero, suc, ◌+◌, ◌*◌, ◌≤◌}
use native.Mathlib.Omega.{arith}
use lib.ListN.{length, set}
use lib.Dec.{eqb}
use Rattle.sums.specs.Sums.{sum_to}
use Rattle.layout.specs.Mem.{Mem}
use Rattle.layout.specs.Sizes.{blocks_of, table_size, head, mode_at, over_count}
use Rattle.layout.specs.Entries.{entries}
use Rattle.layout.specs.Follows.{members_at}
use Rattle.layout.specs.Tests.{walked}
use Rattle.layout.specs.SetUp.{did}
use Rattle.layout.specs.Spare.{Beyond, Spare}
use Rattle.document.specs.declared.sizes.Sizes.{Sizes}
use Rattle.layout.proofs.Tests.{walked_of}
use Rattle.layout_laws.proofs.Spares.{beyond_same, beyond_then, header_beyond, prefix_beyond, zeroed_beyond, spare_same, spare_if}
use Rattle.ranks.specs.Form.{prefixed, headed, blocked_to, to_ranked, to_open, rank_up_by, open_by}
use Rattle.ranks.proofs.Blocks.{blocks_length, blocks_past}
use Rattle.document.specs.Refusals.{is_open, is_ranked, not_laid_out}
use Rattle.std.specs.Prelude.{Err, Ok}

-- ---- the writes

module _ (h : Sizes) (t : List ℕ) where
  pub prefixed_beyond : (f : ℕ → ℕ) (n : ℕ) → n ≤ h.d + h.v → Beyond (table_size h) t (prefixed h t f n)
  unfolding prefixed
  prefixed_beyond f zero l = beyond_same
  prefixed_beyond f (suc e) l = beyond_then (prefixed_beyond f e (omega arith)) (prefix_beyond h (prefixed h t f e) e (f e) (omega arith))

  pub marked_beyond : (mode total : ℕ) → Beyond (table_size h) t (headed t mode total)
  marked_beyond mode total = beyond_then (header_beyond h t 8 total (omega arith)) (header_beyond h (set t 8 total) 6 mode (omega arith))

pub blocked_beyond : (h : Sizes) (pages blocks : List ℕ) (n : ℕ) → Beyond (n * blocks_of h) blocks (blocked_to h pages blocks n)
blocked_beyond h pages blocks n = record { long = blocks_length h pages blocks n; same = blocks_past h pages blocks n }

-- ---- both forms

module _ (h : Sizes) (x : Mem) (fits : over_count x.table ≤ h.v) where
  table_beyond : (f : ℕ → ℕ) (mode total : ℕ) → Beyond (table_size h) x.table (headed (prefixed h x.table f (entries h x.table)) mode total)
  table_beyond f mode total =
      let n = entries h x.table in
      beyond_then (prefixed_beyond h x.table f n (omega arith)) (marked_beyond h (prefixed h x.table f n) mode total)

  pub ranked_spare : Spare h x (to_ranked h x)
  unfolding to_ranked
  ranked_spare =
      record {
        pages = beyond_same;
        rows = beyond_same;
        blocks = blocked_beyond h x.pages x.blocks h.p;
        table = table_beyond (sum_to (members_at h x)) 1 (sum_to (members_at h x) (entries h x.table));
      }

  pub open_spare : h.p * blocks_of h ≤ length x.blocks → Spare h x (to_open h x)
  unfolding to_open
  open_spare room =
      record {
        pages = beyond_same;
        rows = beyond_same;
        blocks = zeroed_beyond (h.p * blocks_of h) x.blocks room;
        table = table_beyond (λ (_ : ℕ). 0) 0 0;
      }

-- ---- the calls

module _ (x : Mem) where
  pub rank_up_by_spare : Spare (head x) x (rank_up_by x).after
  unfolding rank_up_by
  rank_up_by_spare =
      spare_if (walked x) (cond (eqb (mode_at x.table) 1) (did (Err is_ranked) x) (did (Ok tt) (to_ranked (head x) x))) (did (Err not_laid_out) x)
      (λ w. spare_if (eqb (mode_at x.table) 1) (did (Err is_ranked) x) (did (Ok tt) (to_ranked (head x) x)) (λ m. spare_same)
      (λ m. ranked_spare (head x) x ((walked_of x).sound w).over_fits))
      (λ w. spare_same)

  pub open_by_spare : Spare (head x) x (open_by x).after
  unfolding open_by
  open_by_spare =
      spare_if (walked x) (cond (eqb (mode_at x.table) 1) (did (Ok tt) (to_open (head x) x)) (did (Err is_open) x)) (did (Err not_laid_out) x)
      (λ w. spare_if (eqb (mode_at x.table) 1) (did (Ok tt) (to_open (head x) x)) (did (Err is_open) x)
      (λ m. open_spare (head x) x ((walked_of x).sound w).over_fits ((walked_of x).sound w).room.in_blocks) (λ m. spare_same))
      (λ w. spare_same)
