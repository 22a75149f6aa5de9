-- A refusal changes nothing; else all four slices are made fresh. Assumes nothing.
use Rattle.std.proofs.lemmas.Result.{err_from_is_err_and}
use Rattle.layout.specs.Mem.{mem}
use Rattle.layout.specs.SetUp.{sizes_of}
use Rattle.layout_writes.proofs.SetUps.{refused, good, done}
use Rattle.contracts.proofs.SetUps.{sets_up}
use Rattle.idset.proofs.setup.set_up.Goals as goal

pub returns-in_err-allowed : goal.returns-in_err-allowed
returns-in_err-allowed c =
    let a = c.args in
    let h = sizes_of a.s a.m a.d a.v a.r a.p in
    let x = mem a.pages.now a.rows.now a.blocks.now a.table.now in
    let p = err_from_is_err_and c.from_residual.result c.from_residual.ensures.1 in
    rw (p.1, p.2) (sets_up h x (refused h x _ c.in_err-allowed.ensures))

pub make_fresh-requires : goal.make_fresh-requires
make_fresh-requires c =
    let a = c.args in
    good (sizes_of a.s a.m a.d a.v a.r a.p) (mem a.pages.now a.rows.now a.blocks.now a.table.now) c.in_ok-allowed.ensures

pub returns : goal.returns
returns c =
    let a = c.args in
    let h = sizes_of a.s a.m a.d a.v a.r a.p in
    let x = mem a.pages.now a.rows.now a.blocks.now a.table.now in
    sets_up h x (done h x c.in_ok-allowed.ensures _ c.make_fresh.ensures)
