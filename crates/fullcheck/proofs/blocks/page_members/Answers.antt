-- The counts are right: the last one is of the blocks before the last.
use Prim.Native.Nat.{◌*◌}
use native.Mathlib.Omega.{arith}
use Rattle.dense.proofs.Counts.{bits_le}
use Rattle.fullcheck.proofs.Running.{members_are}
use Rattle.fullcheck.proofs.blocks.page_members.Goals as goal

pub overflow_add-result : goal.overflow_add-result
overflow_add-result c =
    let a = c.args in
    let p = c.requires in
    omega (arith, members_are a.page.now a.blocks.now a.a a.n p.4 _ _ _ p.2 c.from.ensures c.at.ensures c.block_if.ensures, bits_le a.page.now (512 * a.n), p.3)

pub returns : goal.returns
returns c = let a = c.args in let p = c.requires in members_are a.page.now a.blocks.now a.a a.n p.4 _ _ _ p.2 c.from.ensures c.at.ensures c.block_if.ensures
