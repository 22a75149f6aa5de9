-- Ids clipped to a chunk of u ids: its first offset that is not below an id, its last that is not above one. Assumes nothing.
use mathlib.Core.Path.{◌≡◌, refl, ap}
use mathlib.Core.Bool.{Bool, true, false, cond}
use Prim.Native.Nat.{ℕ, ◌+◌, ◌-◌, ◌*◌, ◌/◌, ◌%◌, ◌≤◌, ◌<◌}
use native.Mathlib.Nat.{mod-lt, div-add-mod'}
use native.Mathlib.Omega.{arith}
use lib.Dec.{eqb}
use borrow.Author.Tests.{eqb-true, eqb-false}
use Rattle.layout_laws.proofs.Sizes.{slot_inside}
use Rattle.calls.specs.Range.{clip_low, clip_high}

-- offset a of chunk c, and every id of the chunk or past it that is not below lo
pub record First (u lo c a : ℕ) : Type 0 where
  pub inside : a < u
  pub above : lo ≤ c * u + a
  pub first : (n : ℕ) → c * u ≤ n → lo ≤ n → c * u + a ≤ n

pub clip_low_law : (u lo c : ℕ) → 0 < u → lo / u ≤ c → First u lo c (clip_low u lo c)
clip_low_law u lo c some l = go (eqb c (lo / u)) refl (mod-lt lo some) (div-add-mod' lo u)
  where
    go : (b : Bool) → eqb c (lo / u) ≡ b → lo % u < u → lo / u * u + lo % u ≡ lo → First u lo c (cond b (lo % u) 0)
    go true e m d =
        let q = ap (λ (k : ℕ). k * u) (eqb-true c (lo / u) e) in
        record { inside = m; above = omega arith; first = λ n a b. omega arith }
    go false e m d =
        let q = slot_inside (lo / u) c u (let f = eqb-false c (lo / u) e in omega arith) in
        record { inside = some; above = omega arith; first = λ n a b. omega arith }

-- offset b of chunk c, and every offset of it whose id is not above hi
pub record Last (u hi c b : ℕ) : Type 0 where
  pub inside : b < u
  pub below : c * u + b ≤ hi
  pub last : (o : ℕ) → o < u → c * u + o ≤ hi → o ≤ b

pub clip_high_law : (u hi c : ℕ) → 0 < u → c ≤ hi / u → Last u hi c (clip_high u hi c)
clip_high_law u hi c some l = go (eqb c (hi / u)) refl (mod-lt hi some) (div-add-mod' hi u)
  where
    go : (b : Bool) → eqb c (hi / u) ≡ b → hi % u < u → hi / u * u + hi % u ≡ hi → Last u hi c (cond b (hi % u) (u - 1))
    go true e m d =
        let q = ap (λ (k : ℕ). k * u) (eqb-true c (hi / u) e) in
        record { inside = m; below = omega arith; last = λ o a b. omega arith }
    go false e m d =
        let q = slot_inside c (hi / u) u (let f = eqb-false c (hi / u) e in omega arith) in
        record { inside = omega arith; below = omega arith; last = λ o a b. omega arith }

-- no id of a chunk past hi's is hi or less
pub past_high : (u hi c o : ℕ) → 0 < u → hi / u < c → c * u + o ≤ hi → ⊥
past_high u hi c o some l h =
    let m = mod-lt hi some in
    let d = div-add-mod' hi u in
    let q = slot_inside (hi / u) c u l in
    omega arith

-- a later id is in no earlier chunk
pub chunk_mono : (u a b : ℕ) → 0 < u → a ≤ b → b / u < a / u → ⊥
chunk_mono u a b some l h =
    let d = div-add-mod' a u in
    past_high u b (a / u) (a % u) some h (omega arith)
