-- Chunks 0 to i - 1 are done, as the fold does them, and p is the lowest page that is free now; the measure is what is left of them. Assumes nothing.
use Rattle.prepare.proofs.Steady.{Underway}
use Rattle.prepare.proofs.write.make_all.Given as goal

abbrev pub invariant-loop-i : goal.invariant-loop-i
invariant-loop-i l = Underway l.h l.initial.pages l.initial.rows l.initial.table l.c l.pages l.rows l.table l.p l.i
