-- What is left of the part is taken from here on.
use mathlib.Core.Path.{◌≡◌}
use lib.ListN.{drop}
use Rattle.layout.specs.Mem.{mem}
use Rattle.program.specs.Reader.{fed, feed}
use Rattle.intake.specs.Puts.{put_by}
use Rattle.intake.proofs.input.take.Given as goal

abbrev pub invariant-loop-b : goal.invariant-loop-b
invariant-loop-b l =
    feed put_by (fed l.at (mem l.pages l.rows l.blocks l.table)) (drop l.b-index l.part) ≡ feed put_by (fed l.fn.i (mem l.fn.pages l.fn.rows l.fn.blocks l.fn.table)) l.part
