-- The chunk into its page, and then the source's members. Assumes nothing.
use native.Mathlib.Omega.{arith}
use Rattle.std.proofs.lemmas.Grind.{common_steps}
use Rattle.layout.specs.Mem.{mem}
use Rattle.merge_chunk.proofs.Heads.{head_into}
use Rattle.merge_chunk.proofs.densely.Goals as goal

pub returns : goal.returns
returns c =
    λ b sb st e.
    let a = c.args in
    let x = mem a.pages.now a.rows.now b a.table.now in
    let into = c.into_page.ensures b in
    let join = c.join_page.ensures sb st e in
    let same = head_into a.h x a.c c.page_or-k.result a.o in
    grind (arith, common_steps)
