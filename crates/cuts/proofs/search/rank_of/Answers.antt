-- The id is passed on as an i64; after the walk there is no refusal.
use Rattle.numbers.proofs.Signs.{signed_hop}
use Rattle.layout.specs.Mem.{mem}
use Rattle.cuts.proofs.Boundaries.{rank_number, never_refused}
use Rattle.cuts.proofs.search.rank_of.Goals as goal

pub unwrap-requires : goal.unwrap-requires
unwrap-requires c =
    let a = c.args in never_refused (mem a.pages.now a.rows.now a.blocks.now a.table.now) c.requires.0 a.n _ _ (signed_hop _ _ c.signed.ensures c.requires.1) c.rank.ensures

pub returns : goal.returns
returns c =
    let a = c.args in rank_number (mem a.pages.now a.rows.now a.blocks.now a.table.now) c.requires.0 a.n _ _ (signed_hop _ _ c.signed.ensures c.requires.1) c.rank.ensures _ c.unwrap.ensures
