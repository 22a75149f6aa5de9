-- The page as a part of the pool, with its bit. Assumes nothing.
use native.Mathlib.Omega.{arith}
use Rattle.numbers.proofs.Powers.{powers}
use Rattle.insert_writes.proofs.mark_page.Goals as goal

pub mark-requires : goal.mark-requires
mark-requires c =
    (omega (arith, c.scaled-a.ensures, c.pow2-n.ensures, c.requires.fits), omega (arith, c.pow2-n.ensures, c.requires.offset, (powers c.args.h.s c.requires.low c.requires.high).words))
