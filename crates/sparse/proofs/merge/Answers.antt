use Rattle.std.proofs.Common.{arith}
use Rattle.std.proofs.lemmas.Grind.{common_steps}
use Rattle.sparse.specs.Union.{on_front}
use Rattle.sparse.proofs.Merges.{merged_step, merged_rest_a, merged_rest_b}
use Rattle.sparse.proofs.merge.Goals as goal

pub loop-i-preserved : goal.loop-i-preserved
loop-i-preserved c =
    let s = merged_step _ _ _ _ c.loop-i-test.true c.if-j-b.true in
    record {
      i_in = grind arith;
      j_in = grind arith;
      k_in = grind arith;
      made = grind (arith, common_steps, s);
      kept = grind (arith, common_steps, s);
      past = grind (arith, common_steps);
    }

pub returns-then-i-a : goal.returns-then-i-a
unfolding on_front
returns-then-i-a c =
    let s = merged_rest_a c.args.a.now c.args.b.now c.loop-i.i c.loop-i.j (grind arith) in
    (grind (arith, common_steps, s), grind (arith, common_steps, s), grind (arith, common_steps, s))

pub returns : goal.returns
unfolding on_front
returns c =
    let s = merged_rest_b c.args.a.now c.args.b.now c.loop-i.i c.loop-i.j c.if-i-a.false in
    (grind (arith, common_steps, s), grind (arith, common_steps, s), grind (arith, common_steps, s))
