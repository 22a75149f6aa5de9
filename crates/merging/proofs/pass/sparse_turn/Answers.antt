-- The chunk of the entry, where it stands here and there, and its turn. Assumes nothing.
use native.Mathlib.Omega.{arith}
use Rattle.std.proofs.lemmas.Grind.{common_steps}
use Rattle.merging.proofs.pass.sparse_turn.Goals as goal

pub returns : goal.returns
returns c = λ p b sp sb. let turn = c.sparsely.ensures p b sp sb c.args.stable.now c.requires.1.source in grind (arith, common_steps)
