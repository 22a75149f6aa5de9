-- The first ids are taken, and memory is where they lead.
use Prim.Native.Nat.{◌≤◌}
use Rattle.layout.specs.Mem.{mem}
use Rattle.lists.proofs.Inserting.{Sofar}
use Rattle.lists.proofs.insert.insert_all.Given as goal

abbrev pub invariant-loop-taken : goal.invariant-loop-taken
invariant-loop-taken l = record {
  few : l.fresh ≤ l.taken;
  sofar : Sofar (mem l.initial.pages l.initial.rows l.initial.blocks l.initial.table) l.ids l.taken l.fresh (mem l.pages l.rows l.blocks l.table);
}
