-- The wrapped answer; the claim fits an i64. Assumes nothing.
use mathlib.Core.Path.{◌∙◌, ap}
use lib.IntN.{ℤ}
use mir.Facts.{to_z-of_z}
use Rattle.numbers.specs.Budget.{file_bounded_max_id}
use Rattle.intervals.proofs.Signs.{read}
use Rattle.exports.proofs.number.bp_file_bounded_max_id.Goals as goal

pub returns : goal.returns
returns c =
    let a = c.args in let r = c.file_bounded_max_id in read r.result r.type_inv ∙ r.ensures ∙ ap (λ (z : ℤ). file_bounded_max_id z a.length a.per) (to_z-of_z c.ranges.claim)
