-- The least id with m members below it: it is there up to the total, there is one, and its order says how many members lie below. Assumes nothing.
use mathlib.Core.Path.{◌≡◌, refl}
use mathlib.Core.Logic.{◌↔◌}
use mathlib.Core.Bool.{Bool, true, false, cond}
use Prim.Native.Nat.{ℕ, zero, suc, ◌-◌, ◌^◌, ◌≤◌, ◌<◌}
use native.Mathlib.Nat.{lt_of_not-le}
use native.Mathlib.Omega.{arith}
use Rattle.sums.specs.Rules.{Decides}
use Rattle.sums.specs.Ids.{Ids, count, total}
use Rattle.sums.specs.Cuts.{Least, least_to, least}
use Rattle.sums.proofs.Rules.{leb_of}
use Rattle.sums.proofs.Counts.{count_zero, count_suc, count_mono, byte_le}

-- fewer members below y than below x: y comes first
pub count_before : (P : Ids) (x y : ℕ) → count P y < count P x → y < x
count_before P x y l = lt_of_not-le (λ (h : x ≤ y). let c = count_mono P x y h in omega arith)

-- ---- it is there

pub least_zero : (P : Ids) → Least P 0 0
least_zero P = record { enough = omega arith; first = λ y h. omega arith }

-- too few below n, enough below n + 1
pub least_at : (P : Ids) (m n : ℕ) → count P n < m → m ≤ count P (suc n) → Least P m (suc n)
least_at P m n l g = record { enough = g; first = λ y h. count_before P y n (omega arith) }

-- what a turn of the search down asks of its test
turn : (P : Ids) (m n : ℕ) (b : Bool) → Decides b (m ≤ count P n) → m ≤ count P (suc n) → (m ≤ count P n → Least P m (least_to P m n)) → Least P m (cond b (least_to P m n) (suc n))
turn P m n true d h r = r (d.sound refl)
turn P m n false d h r = least_at P m n (lt_of_not-le (λ (l : m ≤ count P n). let z : ◌≡◌ {A = Bool} false true = d.whole l in let y : ◌≡◌ {A = ℕ} 0 1 = cc in omega arith)) h

least_to_law : (P : Ids) (m n : ℕ) → m ≤ count P n → Least P m (least_to P m n)
unfolding least_to
least_to_law P m zero h = let e : m ≡ 0 = omega (arith, count_zero P) in rw e (least_zero P)
least_to_law P m (suc n) h = turn P m n _ (leb_of m (count P n)) h (least_to_law P m n)

pub least_is : (P : Ids) (m : ℕ) → m ≤ total P → Least P m (least P m)
unfolding least total
least_is P m = least_to_law P m (2 ^ 63)

-- ---- what it says

-- it is at most y exactly when y has m members below it
pub least_iff : {P : Ids} {m x : ℕ} → Least P m x → (y : ℕ) → (x ≤ y) ↔ (m ≤ count P y)
least_iff {P} {m} {x} l y = ((λ h. let e = l.enough in let c = count_mono P x y h in omega arith), l.first y)

pub least_above : {P : Ids} {m x : ℕ} → Least P m x → (y : ℕ) → (y < x) ↔ (count P y < m)
least_above {P} {m} {x} l y = (
  (λ h. lt_of_not-le (λ (k : m ≤ count P y). let f = l.first y k in omega arith)),
  λ h. count_before P x y (let e = l.enough in omega arith),
)

-- there is one
pub least_one : {P : Ids} {m x y : ℕ} → Least P m x → Least P m y → x ≡ y
least_one {P} {m} {x} {y} l k = let a = l.first y k.enough in let b = k.first x l.enough in omega arith

pub least_eq : (P : Ids) (m x : ℕ) → m ≤ total P → Least P m x → least P m ≡ x
least_eq P m x h l = least_one (least_is P m h) l

-- exactly m members lie below it
pub count_least : {P : Ids} {m x : ℕ} → Least P m x → count P x ≡ m
count_least {P} {m} {x = zero} l = let e = l.enough in omega (arith, count_zero P)
count_least {P} {m} {x = suc n} l = let f = (least_above l n).0 (omega arith) in let e = l.enough in omega (arith, count_suc P n, byte_le (P n))

-- it rises with m
pub least_mono : {P : Ids} {a b x y : ℕ} → Least P a x → Least P b y → a ≤ b → x ≤ y
least_mono {P} {a} {b} {x} {y} l k h = l.first y (let e = k.enough in omega arith)

-- short of the count below n + 1, it is at most n
least_within : {P : Ids} {m x : ℕ} → Least P m x → (n : ℕ) → m < count P (suc n) → x ≤ n
least_within {P} l n h = l.first n (omega (arith, count_suc P n, byte_le (P n)))

-- short of the total, it is at most the largest i64
pub least_fits : (P : Ids) (m : ℕ) → m < total P → least P m ≤ 2 ^ 63 - 1
unfolding total
least_fits P m h = least_within (least_is P m (omega arith)) (2 ^ 63 - 1) h
