-- Word j is the j-th part between spaces. Assumes nothing.
use mathlib.Core.Path.{refl}
use Rattle.std.proofs.Common.{rules, tests}
use Rattle.std.proofs.lemmas.Iterator.Consumers.{nth_from_yields_List}
use Rattle.std.proofs.lemmas.Iterator.Splits.{YieldsList-from_slice_split}
use Rattle.lines.proofs.Splits.{is_space, nth_law}
use Rattle.lines.proofs.words.word.Goals as goal

pub returns : goal.returns
returns c =
    nth_law c.args.j c.args.line.now c.nth.result _ c.unwrap_or.result (nth_from_yields_List _ _ _ c.nth.ensures.ran (YieldsList-from_slice_split _ is_space c.args.line.now c.split.ensures.rest c.split.ensures.done c.split.ensures.closure (λ x b q k. search (rules, tests)))) c.unwrap_or.ensures refl
