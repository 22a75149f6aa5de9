-- The straight line of tests is the definition. Assumes nothing.
use Rattle.layout.proofs.Heads.{room_passes}
use Rattle.layout.proofs.head.has_room.Goals as goal

pub returns : goal.returns
returns c = room_passes _ _ _ _ _ _ _ _ c.page_at.ensures c.row_at.ensures c.block_at.ensures
