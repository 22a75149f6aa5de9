-- One block count, and the words of one block.
use mathlib.Core.Path.{◌≡◌}
use Prim.Native.Nat.{◌+◌, ◌/◌}
use lib.ListN.{get_or}
use native.Mathlib.Omega.{arith}
use Rattle.rank_chunk.proofs.Belows.{block_small, page_below}
use Rattle.rank_chunk.proofs.in_page.Goals as goal

pub overflow_add-result : goal.overflow_add-result
overflow_add-result c = omega (arith, block_small _ _ _ c.rank_within.ensures)

pub returns : goal.returns
returns c =
    let k : c.from.result ≡ get_or c.args.blocks.now (c.args.a / 8 + c.args.o / 512) 0 = grind arith in
    (page_below _ _ _ _ _ _ _ _ (omega (arith, c.in-Some.ensures.lookup)) k c.block_at-words.ensures c.rank_within.ensures, omega (arith, block_small _ _ _ c.rank_within.ensures))
