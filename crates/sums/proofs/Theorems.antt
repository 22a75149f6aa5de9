-- Demand 3 for every set of ids and every S, 0 read as 1. Assumes nothing.
use Prim.Native.Nat.{ℕ}
use Rattle.sums.specs.Ids.{Ids, total}
use Rattle.sums.specs.Cuts.{parts, part}
use Rattle.sums.specs.Planned.{Planned}
use Rattle.sums.proofs.Parts.{part_covers, part_once, part_members}
use Rattle.sums.proofs.Held.{part_held}
use Rattle.sums.proofs.Cuttings.{cutting_least, parts_cutting}

pub planned : (P : Ids) (S : ℕ) → Planned P S (parts (total P) S) (part P S)
planned P S = record {
  covers = λ z f. let c = part_covers P S z f in (c.0, c.1, c.2, λ j l h. part_once P S z f j c.0 l c.1 h c.2);
  members = part_members P S;
  counts = part_held P S;
  fewest = λ m other c. cutting_least P S m other c;
  cutting = parts_cutting P S;
}
