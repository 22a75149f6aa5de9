-- `into_ranked` and leaving the ranked form on any memory: a walk, then folds over entries and pages.
use Rattle.std.specs.Prelude.{ℕ, zero, suc, ◌+◌, ◌*◌, List, cond, set, eqb, Ok, Err}
use Rattle.sums.specs.Sums.{sum_to}
use Rattle.dense.specs.Bits.{bits_to}
use Rattle.layout.specs.Mem.{Mem, mem}
use Rattle.layout.specs.Sizes.{blocks_of, head, mode_at}
use Rattle.layout.specs.Places.{page_part}
use Rattle.layout.specs.Entries.{entries, prefix_place}
use Rattle.layout.specs.Follows.{members_at}
use Rattle.layout.specs.Tests.{walked}
use Rattle.layout.specs.SetUp.{Did, did, zeroed}
use Rattle.layout.specs.Writes.{put_mode, put_total}
use Rattle.document.specs.Refusals.{not_laid_out, is_ranked, is_open}
use Rattle.document.specs.declared.sizes.Sizes.{Sizes}

-- f e as the prefix of entry e, for the first n
unfoldable pub prefixed : Sizes → List ℕ → (ℕ → ℕ) → ℕ → List ℕ
prefixed h t f zero = t
prefixed h t f (suc e) = set (prefixed h t f e) (prefix_place h e) (f e)

-- the mode and the members in all
abbrev pub headed : List ℕ → ℕ → ℕ → List ℕ
headed t mode total = put_mode (put_total t total) mode

-- the counts of blocks 0 to n - 1 of page p, written from its place on
unfoldable pub blocked : Sizes → List ℕ → List ℕ → ℕ → ℕ → List ℕ
blocked h pages blocks p zero = blocks
blocked h pages blocks p (suc b) = set (blocked h pages blocks p b) (p * blocks_of h + b) (bits_to (page_part h pages p) (512 * b))

-- of pages 0 to n - 1
unfoldable pub blocked_to : Sizes → List ℕ → List ℕ → ℕ → List ℕ
blocked_to h pages blocks zero = blocks
blocked_to h pages blocks (suc p) = blocked h pages (blocked_to h pages blocks p) p (blocks_of h)

unfoldable pub to_ranked : Sizes → Mem → Mem
to_ranked h x =
    mem x.pages x.rows (blocked_to h x.pages x.blocks h.p)
    (headed (prefixed h x.table (sum_to (members_at h x)) (entries h x.table)) 1 (sum_to (members_at h x) (entries h x.table)))

unfoldable pub to_open : Sizes → Mem → Mem
to_open h x =
    mem x.pages x.rows (zeroed (h.p * blocks_of h) x.blocks)
    (headed (prefixed h x.table (λ (_ : ℕ). 0) (entries h x.table)) 0 0)

-- 3, then 4
unfoldable pub rank_up_by : Mem → Did
rank_up_by x = cond (walked x) (cond (eqb (mode_at x.table) 1) (did (Err is_ranked) x) (did (Ok tt) (to_ranked (head x) x))) (did (Err not_laid_out) x)

-- 3, then 5
unfoldable pub open_by : Mem → Did
open_by x = cond (walked x) (cond (eqb (mode_at x.table) 1) (did (Ok tt) (to_open (head x) x)) (did (Err is_open) x)) (did (Err not_laid_out) x)
