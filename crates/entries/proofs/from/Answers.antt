-- Below D by index, past it by search. Assumes nothing.
use Rattle.std.proofs.Common.{arith}
use Rattle.std.proofs.lemmas.Grind.{common_steps}
use Rattle.calls.specs.Range.{entry_from}
use Rattle.entries.proofs.from.Goals as goal

pub returns-then-c-h : goal.returns-then-c-h
unfolding entry_from
returns-then-c-h c = (λ p r b. grind (arith, common_steps), grind (arith, common_steps))

pub returns-else-c-h : goal.returns-else-c-h
unfolding entry_from
returns-else-c-h c = (λ p r b. grind (arith, common_steps), grind (arith, common_steps))
