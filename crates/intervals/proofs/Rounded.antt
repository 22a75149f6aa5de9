-- The number of partitions, by a quotient that can't overflow, and a partition's first rank within the total. Assumes nothing.
use mathlib.Core.Path.{◌≡◌, refl, ap}
use mathlib.Core.Bool.{Bool, true, false, not, ◌&&◌}
use Prim.Native.Nat.{ℕ, zero, suc, ◌+◌, ◌-◌, ◌*◌, ◌/◌, ◌^◌, ◌≤◌, ◌<◌}
use native.Mathlib.Nat.{add-div_right, div-eq_of_lt, div-le_self}
use native.Mathlib.Omega.{arith}
use lib.Dec.{eqb}
use borrow.Author.Tests.{eqb-true, eqb-false}
use mir.Syntax.{w64}
use mir.Val.{Fits}
use Rattle.sums.specs.Cuts.{size, parts}
use Rattle.sums.proofs.Rounding.{parts_tight}
use Rattle.document.specs.Spans.{record_ok}
use Rattle.document.specs.declared.plan.Plan.{Plan}

pub parts_none : (t s : ℕ) → t ≡ 0 → 1 ≡ parts t s
parts_none t s e =
    let z : size s - 1 < size s = omega arith in
    let d = div-eq_of_lt z in
    let q : (t + (size s - 1)) / size s ≡ (size s - 1) / size s = ap (λ (k : ℕ). k / size s) (omega arith) in
    omega arith

-- one more than the quotient of t - 1
pub parts_some : (t s g : ℕ) → (t ≡ 0 → ⊥) → g ≡ size s → (t - 1) / g + 1 ≡ parts t s
parts_some t s g n e =
    let z : 0 < size s = omega arith in
    let d = add-div_right (t - 1) z in
    let q : (t + (size s - 1)) / size s ≡ (t - 1 + size s) / size s = ap (λ (k : ℕ). k / size s) (omega arith) in
    let r : (t - 1) / g ≡ (t - 1) / size s = ap (λ (k : ℕ). (t - 1) / k) e in
    omega arith

pub parts_fits : (t g : ℕ) → (t ≡ 0 → ⊥) → t < 2 ^ 64 → Fits w64 ((t - 1) / g + 1)
parts_fits t g n l = record { fits = omega (arith, div-le_self (t - 1) g) }

-- ---- a plan's record that passes its test

both : (a b : Bool) → (a && b) ≡ true → (a ≡ true) × (b ≡ true)
both true b e = (refl, e)
both false b e = absurd (let z : ◌≡◌ {A = ℕ} 0 1 = cc in omega arith)

not_zero : (s : ℕ) → not (eqb s 0) ≡ true → size s ≡ s
not_zero s h = go (eqb s 0) refl h
  where
    go : (b : Bool) → eqb s 0 ≡ b → not b ≡ true → size s ≡ s
    go true e q = absurd (let z : ◌≡◌ {A = ℕ} 0 1 = cc in omega arith)
    go false e q = let n = eqb-false s 0 e in omega arith

-- a partition's first rank is not past the total
pub first_within : (p : Plan) (k : ℕ) → record_ok p ≡ true → k < p.partitions → k * p.slots ≤ p.total
first_within p k h l = go k l
  where
    tests : (not (eqb p.slots 0) ≡ true) × (eqb p.partitions (parts p.total p.slots) ≡ true)
    tests = both (not (eqb p.slots 0)) (eqb p.partitions (parts p.total p.slots)) h

    go : (k : ℕ) → k < p.partitions → k * p.slots ≤ p.total
    go zero m = omega arith
    go (suc j) m =
        let e = eqb-true p.partitions (parts p.total p.slots) tests.1 in
        let z : suc j * size p.slots ≡ suc j * p.slots = ap (λ (s : ℕ). suc j * s) (not_zero p.slots tests.0) in
        let t = parts_tight p.total p.slots (suc j) (omega arith) (omega arith) in
        omega arith
