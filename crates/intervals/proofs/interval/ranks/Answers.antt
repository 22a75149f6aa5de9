-- A first rank within the total can't overflow. Assumes nothing.
use mathlib.Core.Path.{◌∙◌, sym}
use native.Mathlib.Omega.{arith}
use Rattle.intervals.proofs.Rounded.{first_within}
use Rattle.intervals.proofs.interval.ranks.Goals as goal

pub overflow_mul-first : goal.overflow_mul-first
overflow_mul-first c =
    let p = c.args.p in let l = first_within p _ (sym c.record_ok.ensures ∙ c.if-not-record_ok.false) c.if-p-k.false in record { fits = omega arith }

pub overflow_sub-p : goal.overflow_sub-p
overflow_sub-p c = first_within _ _ (sym c.record_ok.ensures ∙ c.if-not-record_ok.false) c.if-p-k.false
