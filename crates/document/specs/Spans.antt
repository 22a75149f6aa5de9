-- The intervals of a plan record and its boundaries, which come from the caller.
use Rattle.std.specs.Prelude.{ℕ, ◌+◌, ◌-◌, ◌*◌, ◌^◌, min, List, Bool, cond, not, ◌&&◌, ℤ, pos, negsuc, length, get_or, leb, ltb, eqb, Ok, Err}
use Rattle.std.specs.Int.Signed.{le_z, lt_z}
use Rattle.sums.specs.Cuts.{parts, Interval, before, none, inside}
use Rattle.document.specs.Refusals.{not_laid_out, no_partition}
use Rattle.document.specs.declared.plan.Plan.{Plan}
use Rattle.document.specs.declared.plan.Span.{Span}
use Rattle.document.specs.declared.plan.Span.TheVariants.{Between, From}
use Rattle.document.specs.Results.{Ranked, Spanned}

-- the record: S is not 0, and the number of partitions is that of the total; the boundaries are as many as it needs
abbrev pub record_ok : Plan → Bool
record_ok p = not (eqb p.slots 0) && eqb p.partitions (parts p.total p.slots)

abbrev pub plan_ok : Plan → List ℤ → Bool
plan_ok p bs = record_ok p && leb (p.partitions - 1) (length bs)

-- the low end, the smallest i64 for partition 0, and the high end, excluded, or none
abbrev pub low_at : List ℤ → ℕ → ℤ
low_at bs k = cond (eqb k 0) (negsuc (2 ^ 63 - 1)) (get_or bs (k - 1) (pos 0))

abbrev pub span_at : Plan → List ℤ → ℕ → Span
span_at p bs k = cond (ltb (k + 1) p.partitions) (Between (low_at bs k) (get_or bs k (pos 0))) (From (low_at bs k))

-- `ids`: 3, then 12
unfoldable pub ids_answer : Plan → List ℤ → ℕ → Spanned
ids_answer p bs k =
    cond (plan_ok p bs) (cond (ltb k p.partitions) (Ok (span_at p bs k)) (Err no_partition)) (Err not_laid_out)

-- `ranks`: kS and the count min(S, total - kS)
unfoldable pub ranks_answer : Plan → ℕ → Ranked
ranks_answer p k =
    cond (record_ok p)
    (cond (ltb k p.partitions) (Ok (record { first = k * p.slots; count = min p.slots (p.total - k * p.slots) })) (Err no_partition))
    (Err not_laid_out)

-- a span as an interval of the plan's theory
abbrev pub interval_of : Span → Interval
interval_of (Between lo hi) = record { low = lo; high = before hi }
interval_of (From lo) = record { low = lo; high = none }

-- `in_partition`: id ≥ low and, if there is a high end, id < high
abbrev pub in_partition : ℤ → Span → Bool
in_partition id i = inside id (interval_of i)

-- `range_meets`: max ≥ low and, if there is a high end, min < high
abbrev pub range_meets : ℤ → ℤ → Span → Bool
range_meets from to (Between low high) = le_z low to && lt_z from high
range_meets from to (From low) = le_z low to
