-- The fold is the reader's own. Assumes nothing.
use mathlib.Core.Path.{◌∙◌}
use Rattle.std.proofs.Common.{rules, tests}
use Rattle.std.proofs.lemmas.Iterator.{YieldsList-from_slice}
use Rattle.std.proofs.lemmas.Iterator.Consumers.{fold_from_yields_List}
use Rattle.lines.specs.Reader.{next}
use Rattle.lines.proofs.Splits.{kept_law}
use Rattle.lines.proofs.words.kept.Goals as goal

pub returns : goal.returns
returns c =
    let steps = YieldsList-from_slice _ c.iter.ensures.rest in
    fold_from_yields_List _ next _ _ c.fold.ensures.ran steps (λ a x b q k. search (rules, tests)) ∙ kept_law _
