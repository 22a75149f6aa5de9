-- How large the counts of judging get, and the verdict on them. Assumes nothing.
use mathlib.Core.Path.{◌≡◌, ap, subst}
use mathlib.Core.List.{List}
use mathlib.Core.Bool.{not}
use Prim.Native.Nat.{ℕ, ◌+◌, ◌-◌, ◌≤◌, ◌<◌}
use native.Mathlib.Omega.{arith}
use lib.Dec.{eqb}
use borrow.Author.Tests.{lt-ltb, le-ltb}
use Rattle.sums.proofs.Counts.{count_le}
use Rattle.document.specs.Refusals.{pages_full}
use Rattle.document.specs.declared.sizes.Sizes.{Sizes}
use Rattle.layout.specs.Mem.{Mem}
use Rattle.layout.specs.Sizes.{head, over_count}
use Rattle.layout.specs.Places.{row_owner, page_owner}
use Rattle.layout.specs.Tests.{rows_owned, pages_owned}
use Rattle.unions.specs.Union.{source_entries, new_entry, new_row, freed_row, new_page, over_after, rows_after, pages_after, judged}
use Rattle.merge_plan.specs.Judging.{Passed, Small, growth_to}
use Rattle.merge_plan.specs.declared.judge.Growth.{Growth}
use Rattle.std.specs.Prelude.{Err}

-- ---- the counts

pub grown_small : (x y : Mem) (e : ℕ) (n : Growth) → n ≡ growth_to x y e → e ≤ 327680 → Small n
unfolding growth_to
grown_small x y e n en l = record {
  entries = omega (arith, ap (λ (k : Growth). k.entries) en, count_le (new_entry x y) e);
  rows = omega (arith, ap (λ (k : Growth). k.rows) en, count_le (new_row x y) e);
  freed = omega (arith, ap (λ (k : Growth). k.freed) en, count_le (freed_row x y) e);
  pages = omega (arith, ap (λ (k : Growth). k.pages) en, count_le (new_page x y) e);
}

-- what there is
pub owned_small : (t : List ℕ) (h : Sizes) → {rows : List ℕ} → Passed h rows t → (rows_owned h t ≤ 65536) × (pages_owned h t ≤ 65536)
owned_small t h s = (
  omega (arith, s.sizes.r_high, count_le (λ (r : ℕ). not (eqb (row_owner h t r) 0)) h.r),
  omega (arith, s.sizes.p_high, count_le (λ (p : ℕ). not (eqb (page_owner h t p) 0)) h.p),
)

-- ---- the verdict

-- 8, by what there is and what is needed
Full : Mem → Sizes → Growth → Type 0
Full x h n = (over_count x.table + n.entries ≤ h.v) × (rows_owned h x.table + n.rows - n.freed ≤ h.r) × (h.p < pages_owned h x.table + n.pages)

pub judged_eight : (x y : Mem) (h : Sizes) → h ≡ head x → (n : Growth) → n ≡ growth_to x y (source_entries y) → over_count x.table + n.entries ≤ h.v
    → rows_owned h x.table + n.rows - n.freed ≤ h.r → h.p < pages_owned h x.table + n.pages → Err pages_full ≡ judged x y
unfolding judged growth_to Full
judged_eight x y h eh n en a b c =
    let f = subst (Full x (head x)) en (subst (λ (k : Sizes). Full x k n) eh (a, b, c)) in
    rw (le-ltb (head x).v (over_after x y) f.0, le-ltb (head x).r (rows_after x y) f.1, lt-ltb (head x).p (pages_after x y) f.2)
