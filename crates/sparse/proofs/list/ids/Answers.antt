use native.Mathlib.Omega.{arith}
use mathlib.Core.Path.{◌≡◌, ◌∙◌}
use Rattle.sparse.proofs.Listed.{listing_start, listing_turn, listing_end}
use Rattle.sparse.proofs.list.ids.Goals as goal

pub loop-i-init : goal.loop-i-init
loop-i-init c = listing_start _ _ _ _ _ _ _ _ c.below-first.ensures c.requires.3

pub loop-i-preserved : goal.loop-i-preserved
loop-i-preserved c =
    let l = c.loop-i in listing_turn _ _ _ _ _ _ _ _ l.out l.i l.invariant _ _ c.requires.1 c.requires.2 (omega arith) (omega arith) (omega arith) c.from.ensures

pub returns : goal.returns
returns c =
    let l = c.loop-i in
    let e : l.i ≡ c.min-n.result = omega arith in
    let p = listing_end _ _ _ _ _ _ _ _ l.out l.i l.invariant (e ∙ c.min-n.ensures) in (p.0, omega arith)
