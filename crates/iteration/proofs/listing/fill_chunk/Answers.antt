-- From the chunk's first id, at the offset at which the chunk is clipped. Assumes nothing.
use Rattle.entries.proofs.Runs.{run}
use Rattle.entries.proofs.Clips.{shift_is, below_is}
use Rattle.iteration.proofs.Fills.{chunk_within, first_below}
use Rattle.iteration.proofs.listing.fill_chunk.Goals as goal

pub shifted-base-requires : goal.shifted-base-requires
shifted-base-requires c =
    let a = c.args in
    (shift_is (run a.table.now c.requires.0) c.shift-s.ensures, first_below a.table.now _ _ c.requires.0 c.shift-s.ensures c.requires.1)

pub fill_at-requires : goal.fill_at-requires
fill_at-requires c =
    let a = c.args in
    let r = run a.table.now c.requires.0 in
    let e = c.shift-s.ensures in
    (r.low, r.high, chunk_within a.table.now _ _ c.requires.0 e c.requires.1 _ c.shifted-base.ensures, below_is e c.low-from.ensures.1, c.requires.2)
