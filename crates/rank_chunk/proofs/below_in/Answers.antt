-- Nothing in no part; a search in a row; one block of a page.
use mathlib.Core.Path.{◌≡◌, subst}
use mathlib.Core.List.{[]}
use lib.ListN.{length}
use Rattle.layout.specs.Mem.{mem}
use Rattle.layout.specs.Found.{Spotted}
use Rattle.layout.specs.declared.find.Spot.TheVariants.{Row}
use Rattle.std.specs.Prelude.{Ok}
use Rattle.rank_chunk.specs.Part.{HasBlock}
use Rattle.rank_chunk.proofs.Belows.{below_row}
use Rattle.rank_chunk.proofs.below_in.Goals as goal

pub returns-in-Row : goal.returns-in-Row
returns-in-Row c =
    let a = c.args in
    let w = c.in-Row in
    let e : ◌≡◌ {A = Spotted} a.q (Ok (Row w.a w.n w.l)) = cc in
    let r = subst (HasBlock (length a.pages.now) (length a.rows.now) a.o) e c.requires in
    below_row (mem a.pages.now a.rows.now a.blocks.now []) a.o a.q w.a w.n w.l _ e r.1 r.2 c.below.ensures
