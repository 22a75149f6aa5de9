-- The rows and pages that each call takes, from memory x to memory y.
use Rattle.document.specs.Calls.{Call, insert, put, prepared, prepare, rank_up, leave}
use Rattle.layout.specs.Mem.{Mem}
use Rattle.layout.specs.Sizes.{head}
use Rattle.layout.specs.Lowest.{TakesLowest, TakesRising}
use Rattle.calls.specs.Prepare.{chunks_to}

-- preparation is a call over several chunks
abbrev pub Takes : Mem → Call → Mem → Type 0
Takes x (insert z) y = TakesLowest x y
Takes x (put z) y = TakesLowest x y
Takes x (prepared z) y = TakesLowest x y
Takes x (prepare z) y = TakesRising x y (chunks_to (head x) z)
Takes x rank_up y = TakesLowest x y
Takes x leave y = TakesLowest x y
