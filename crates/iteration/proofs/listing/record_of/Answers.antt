-- A record that is not full ends; a full one by whether a member lies past its last id. Assumes nothing.
use borrow.Author.Rules.{rules}
use lib.Signed.{mag}
use Rattle.layout.specs.Mem.{mem}
use mathlib.Core.Path.{refl}
use Prim.Native.Nat.{◌^◌, ◌<◌}
use native.Mathlib.Omega.{arith}
use Rattle.calls.specs.Iteration.{last_id}
use Rattle.iteration.proofs.Nexts.{next_fits}
use Rattle.iteration.proofs.Records.{not_largest, record_goes}
use Rattle.iteration.proofs.listing.record_of.Goals as goal

pub overflow_add-result : goal.overflow_add-result
overflow_add-result c =
    let a = c.args in
    let f : mag (last_id a.ids) < 2 ^ 63 = omega arith in
    next_fits (last_id a.ids) (record { sfits = f })
    (not_largest (mem a.pages.now a.rows.now a.blocks.now a.table.now) a.ids a.k a.start c.ranges.start c.if-count-lt64.false f _ (rw c.if-more.true at c.in-Ok.ensures) c.requires refl)

pub returns-then-more : goal.returns-then-more
returns-then-more c =
    let a = c.args in
    let f : mag (last_id a.ids) < 2 ^ 63 = omega arith in
    record_goes (mem a.pages.now a.rows.now a.blocks.now a.table.now) a.ids a.k a.start c.ranges.start c.if-count-lt64.false f _ (rw c.if-more.true at c.in-Ok.ensures) c.requires refl _ (search rules)
