use mathlib.Core.Path.{sym, subst}
use native.Mathlib.Omega.{arith}
use Rattle.document.specs.Sizes.{InRange}
use Rattle.prepare.proofs.Steady.{sound_few, sound_range, underway_none, underway_turn, underway_more, underway_end}
use Rattle.prepare.proofs.write.make_all.Goals as goal

pub free_page-p-requires : goal.free_page-p-requires
free_page-p-requires c =
    (let known : InRange c.read-h.result = subst InRange (sym c.read-h.ensures) (sound_range c.args.pages.now c.args.rows.now c.args.table.now c.args.c c.requires) in known)

pub loop-i-init : goal.loop-i-init
loop-i-init c =
    let a = c.args in
    underway_none c.read-h.result a.pages.now a.rows.now a.table.now a.c c.read-h.ensures _ c.free_page-p.ensures

pub make_dense-requires : goal.make_dense-requires
make_dense-requires c =
    (underway_turn _ _ _ _ c.args.c c.requires _ _ _ _ c.loop-i.i c.loop-i.invariant (omega (arith, c.loop-i-test.true)))

pub next_page-p-requires : goal.next_page-p-requires
next_page-p-requires c =
    (let known : InRange c.read-h.result = subst InRange (sym c.read-h.ensures) (sound_range c.args.pages.now c.args.rows.now c.args.table.now c.args.c c.requires) in known)

pub loop-i-preserved : goal.loop-i-preserved
loop-i-preserved c =
    let k = c.make_dense in
    underway_more _ _ _ _ c.args.c c.requires _ _ _ _ c.loop-i.i c.loop-i.invariant
    (omega (arith, c.loop-i-test.true)) _ _ _ _ k.auto.pages k.auto.rows k.auto.table k.ensures c.next_page-p.ensures

pub returns : goal.returns
returns c =
    underway_end _ _ _ _ c.args.c c.requires _ _ _ _ c.loop-i.i c.loop-i.invariant (omega (arith, c.loop-i-test.false))

pub overflow_add-i-end : goal.overflow_add-i-end
overflow_add-i-end c = omega (arith, sound_few c.args.pages.now c.args.rows.now c.args.table.now c.args.c c.requires)
