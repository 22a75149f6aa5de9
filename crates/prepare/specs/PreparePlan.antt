-- What preparation plans, on any memory: `prepare_by` before anything is written.
use Rattle.std.specs.Prelude.{ℕ, ◌/◌, List, cond, ℤ, pos, negsuc, ltb, eqb, Option, Some, None, Result, Ok, Err}
use Rattle.layout.specs.Mem.{Mem}
use Rattle.document.specs.Sizes.{top}
use Rattle.document.specs.Refusals.{not_laid_out, is_ranked, overflow_full, pages_full}
use Rattle.layout.specs.Sizes.{head, mode_at}
use Rattle.layout.specs.Tests.{walked}
use Rattle.document.specs.declared.sizes.Sizes.{Sizes}
use Rattle.calls.specs.Prepare.{over_needed, pages_needed}
use Rattle.document.specs.declared.refusal.Refusal.{Refusal}

-- chunks 0 to c: 6 before 8
unfoldable pub plan_to : Sizes → List ℕ → ℕ → Result (Option ℕ) Refusal
plan_to h t c = cond (ltb h.v (over_needed h t c)) (Err overflow_full) (cond (ltb h.p (pages_needed h t c)) (Err pages_full) (Ok (Some c)))

abbrev pub plan_id : Mem → ℤ → Result (Option ℕ) Refusal
plan_id x (pos n) = plan_to (head x) x.table (n / top (head x))
plan_id x (negsuc n) = Ok None

-- 3, then 4, then the maximum
unfoldable pub plan_prepare : Mem → ℤ → Result (Option ℕ) Refusal
plan_prepare x z = cond (walked x) (cond (eqb (mode_at x.table) 1) (Err is_ranked) (plan_id x z)) (Err not_laid_out)
