-- Judging is document 01's verdict on the map of the union, and what it accepts has room. Assumes nothing.
use mathlib.Core.Path.{◌≡◌, refl, ◌∙◌}
use mathlib.Core.Bool.{Bool, true, false, cond}
use Prim.Native.Nat.{◌≤◌}
use native.Mathlib.Omega.{arith}
use lib.Dec.{ltb}
use borrow.Author.Tests.{ltb-false}
use Rattle.document.specs.Refusals.{overflow_full, rows_full, pages_full}
use Rattle.document.specs.Room.{overflows, sparses, denses, verdict}
use Rattle.document.specs.Insert.{done}
use Rattle.document.specs.Union.{union_map, same_shape}
use Rattle.layout.specs.Mem.{Mem}
use Rattle.layout.specs.Sizes.{head}
use Rattle.layout.specs.Meaning.{state_of}
use Rattle.layout.specs.Follows.{Follows}
use Rattle.unions.specs.Union.{over_after, rows_after, pages_after, judged}
use Rattle.unions.proofs.Counts.{over_after_law, rows_after_law, pages_after_law}
use Rattle.document.specs.Results.{Outcome}
use Rattle.std.specs.Prelude.{Err, Ok}

-- 6, 7, 8 by what is full
abbrev refused_by : Bool → Bool → Bool → Outcome
refused_by over rows pages = cond over (Err overflow_full) (cond rows (Err rows_full) (cond pages (Err pages_full) (Ok tt)))

done_by : (a b c : Bool)
    → refused_by a b c ≡ done (cond a (Err overflow_full) (cond b (Err rows_full) (cond c (Err pages_full) (Ok true))))
done_by true b c = refl
done_by false true c = refl
done_by false false true = refl
done_by false false false = refl

none_full : (a b c : Bool) → refused_by a b c ≡ Ok tt → (a ≡ false) × (b ≡ false) × (c ≡ false)
none_full true b c e = absurd cc
none_full false true c e = absurd cc
none_full false false true e = absurd cc
none_full false false false e = (refl, refl, refl)

-- accepted: what is needed is there, on any two memories
pub judged_room : (x y : Mem) → judged x y ≡ Ok tt → (over_after x y ≤ (head x).v) × (rows_after x y ≤ (head x).r) × (pages_after x y ≤ (head x).p)
unfolding judged
judged_room x y e =
    let f = none_full (ltb (head x).v (over_after x y)) (ltb (head x).r (rows_after x y)) (ltb (head x).p (pages_after x y)) e in
    (ltb-false (head x).v (over_after x y) f.0, ltb-false (head x).r (rows_after x y) f.1, ltb-false (head x).p (pages_after x y) f.2)

module _ {x y : Mem} (w : Follows x) (v : Follows y) (same : same_shape (head x) (head y) ≡ true) where
  pub judged_is : judged x y ≡ done (verdict (head x) (union_map (state_of x) (state_of y)) (Ok true))
  unfolding judged verdict
  judged_is =
      let k = union_map (state_of x) (state_of y) in
      (λ i. refused_by (ltb (head x).v (over_after_law w v same i)) (ltb (head x).r (rows_after_law w v same i)) (ltb (head x).p (pages_after_law w v same i)))
      ∙ done_by (ltb (head x).v (overflows (head x) k)) (ltb (head x).r (sparses (head x) k)) (ltb (head x).p (denses (head x) k))

  -- the map of the union has room
  pub union_room : judged x y ≡ Ok tt
      → (overflows (head x) (union_map (state_of x) (state_of y)) ≤ (head x).v)
      × (sparses (head x) (union_map (state_of x) (state_of y)) ≤ (head x).r)
      × (denses (head x) (union_map (state_of x) (state_of y)) ≤ (head x).p)
  union_room e =
      let f = judged_room x y e in
      let a = f.0 in
      let b = f.1 in
      let c = f.2 in
      let p = over_after_law w v same in
      let q = rows_after_law w v same in
      let r = pages_after_law w v same in
      (omega arith, omega arith, omega arith)
