-- The plan of a union, way by way. Assumes nothing.
use mathlib.Core.Path.{◌≡◌, refl}
use mathlib.Core.Bool.{true}
use Prim.Native.Nat.{◌-◌, ◌^◌, ◌≤◌}
use native.Mathlib.Omega.{arith}
use lib.Pow.{pow_mono}
use Rattle.document.specs.Sizes.{last_chunk}
use Rattle.layout.specs.Mem.{Mem}
use Rattle.layout.specs.Sizes.{head}
use Rattle.layout.specs.Tests.{Walked, walked}
use Rattle.layout.proofs.Tests.{walked_of}
use Rattle.unions.proofs.Standing.{chunk_in}
use Rattle.merge_plan.specs.Judging.{Passed}

-- ---- a side that passed the walk

walked_passed : {x : Mem} → Walked x (head x) → Passed (head x) x.rows x.table
walked_passed {x} w = record {
  sizes = w.sizes;
  header = refl;
  in_rows = w.room.in_rows;
  over = omega (arith, w.over_fits, w.sizes.v_high);
  chunks = λ e l.
      let p : last_chunk (head x) ≤ 2 ^ 62 = pow_mono {i = 63 - (head x).s} {j = 62} (omega (arith, w.sizes.s_low)) in
      omega (arith, chunk_in w e l);
}

pub passed : (x : Mem) → walked x ≡ true → Passed (head x) x.rows x.table
passed x e = walked_passed ((walked_of x).sound e)
