use Rattle.std.proofs.Common.{◌≡◌, ◌∙◌, sym, true, arith, ◌+◌, ◌≤◌}
use Rattle.layout.specs.Sizes.{header_at}
use Rattle.layout.specs.Entries.{word_at}
use Rattle.layout.specs.Eight.{eight_absent}
use Rattle.layout.proofs.Eights.{absent_there, absent_each}
use Rattle.entries.proofs.Runs.{passed_over}
use Rattle.entries.proofs.next_used.Goals as goal

pub loop-i-preserved-then-eight_absent : goal.loop-i-preserved-then-eight_absent
loop-i-preserved-then-eight_absent c =
    let t = c.args.table.now in
    let h = header_at t in
    let v = c.loop-i.invariant in
    let e : eight_absent t c.direct-d.result c.loop-i.i ≡ true = sym c.eight_absent.ensures ∙ c.if-eight_absent.true in
    let n : c.loop-i.i + 8 ≤ h.d = absent_there h t c.loop-i.i _ c.direct-d.ensures e in
    (omega arith, omega arith, passed_over (λ j. word_at h t j) c.args.e c.loop-i.i 8 v.2 (absent_each h t c.loop-i.i _ c.direct-d.ensures e))
