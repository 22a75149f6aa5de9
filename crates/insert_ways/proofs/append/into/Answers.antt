-- The row that a direct entry names, and the place behind its members. Assumes nothing.
use mathlib.Core.Path.{sym, ◌∙◌, ap}
use Prim.Native.Nat.{◌+◌, ◌<◌}
use native.Mathlib.Omega.{arith}
use lib.ListN.{length}
use Rattle.layout.specs.Mem.{mem}
use Rattle.calls.proofs.Spots.{offset_narrow}
use Rattle.insert_ways.proofs.Appends.{row_part, place_in, word_small, append_told}
use Rattle.insert_ways.proofs.append.into.Goals as goal
use Rattle.std.specs.Prelude.{Ok}

pub is_next-requires : goal.is_next-requires
is_next-requires c =
    let a = c.args in
    let r = c.requires in
    let x = mem a.pages.now a.rows.now c.args.blocks.now a.table.now in
    (row_part x c.in-Ok.w _ _ _ (sym (ap Ok c.in-Ok-Row.field-0-is) ∙ c.in-Ok-Row.ensures), offset_narrow a.s a.o r.0 r.1 r.4)

pub overflow_add-a : goal.overflow_add-a
overflow_add-a c =
    let a = c.args in
    let x = mem a.pages.now a.rows.now c.args.blocks.now a.table.now in
    let p : c.in-Ok-Row.a + c.in-Ok-Row.l < length a.rows.now = place_in x c.in-Ok.w _ _ _ (sym (ap Ok c.in-Ok-Row.field-0-is) ∙ c.in-Ok-Row.ensures) a.o (c.is_next.ensures c.if-not-is_next.false) in
    omega (arith, c.well_formed)

pub append-requires : goal.append-requires
append-requires c =
    let a = c.args in
    let r = c.requires in
    let x = mem a.pages.now a.rows.now c.args.blocks.now a.table.now in
    let i = c.is_next.ensures c.if-not-is_next.false in
    let p = place_in x c.in-Ok.w _ _ _ (sym (ap Ok c.in-Ok-Row.field-0-is) ∙ c.in-Ok-Row.ensures) a.o i in
    let s = word_small x c.in-Ok.w _ _ _ (sym (ap Ok c.in-Ok-Row.field-0-is) ∙ c.in-Ok-Row.ensures) a.o i in
    (p, offset_narrow a.s a.o r.0 r.1 r.4, s, r.3, omega (arith, c.if-direct-c.false, c.direct.ensures))

pub returns : goal.returns
returns c =
    let a = c.args in
    let m = c.append.ensures in
    append_told a.pages.now a.rows.now c.args.blocks.now a.table.now a.c a.o c.in-Ok.w c.in-Ok.ensures _ _ _ (sym (ap Ok c.in-Ok-Row.field-0-is) ∙ c.in-Ok-Row.ensures)
    (c.is_next.ensures c.if-not-is_next.false) _ _ m.0 m.1
