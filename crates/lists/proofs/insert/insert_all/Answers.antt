use mathlib.Core.Path.{◌≡◌, refl}
use native.Mathlib.Omega.{arith}
use lib.IntN.{pos}
use lib.ListN.{length, get_or}
use mir.Syntax.{w64}
use mir.Val.{SFits}
use borrow.Author.Rules.{rules}
use Rattle.sums.proofs.Counts.{byte_le}
use Rattle.layout.specs.Mem.{mem}
use Rattle.lists.proofs.Inserting.{sofar_none, sofar_next, sofar_refused, sofar_all, at_id}
use Rattle.lists.proofs.insert.insert_all.Goals as goal

pub loop-taken-init : goal.loop-taken-init
loop-taken-init c = let a = c.args in record { few = omega arith; sofar = sofar_none (mem a.pages.now a.rows.now a.blocks.now a.table.now) a.ids.now }

pub loop-taken-preserved : goal.loop-taken-preserved
loop-taken-preserved c =
    let a = c.args in
    let l = c.loop-taken in
    let y = mem l.pages l.rows l.blocks l.table in
    let fits : SFits w64 (get_or a.ids.now l.taken (pos 0)) = search rules in
    let s = sofar_next (mem a.pages.now a.rows.now a.blocks.now a.table.now) a.ids.now l.taken l.fresh y l.invariant.sofar c.loop-taken-test.true _ refl _ _ c.in-Ok.b (at_id y _ fits c.one.ensures) c.in-Ok.is in
    record { few = omega (arith, byte_le c.in-Ok.b); sofar = rw c.from-fresh.ensures s }

pub returns-in-Err : goal.returns-in-Err
returns-in-Err c =
    let a = c.args in
    let l = c.loop-taken in
    let y = mem l.pages l.rows l.blocks l.table in
    let fits : SFits w64 (get_or a.ids.now l.taken (pos 0)) = search rules in
    rw c.number.ensures (sofar_refused (mem a.pages.now a.rows.now a.blocks.now a.table.now) a.ids.now l.taken l.fresh y l.invariant.sofar c.loop-taken-test.true _ refl _ _ c.in-Err.n (at_id y _ fits c.one.ensures) c.in-Err.is)

pub returns : goal.returns
returns c =
    let a = c.args in
    let l = c.loop-taken in
    let e : length a.ids.now ≡ l.taken = omega arith in
    rw e (sofar_all (mem a.pages.now a.rows.now a.blocks.now a.table.now) a.ids.now l.taken l.fresh (mem l.pages l.rows l.blocks l.table) l.invariant.sofar c.loop-taken-test.false)
