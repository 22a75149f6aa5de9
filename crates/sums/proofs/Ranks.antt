-- Ranks of ids: they rise, a member raises them by one, they number the members from 0 up to the total, and they decide a range test. Assumes nothing.
use mathlib.Core.Path.{◌≡◌, refl, ap}
use mathlib.Core.Bool.{Bool, true, false}
use Prim.Native.Nat.{ℕ, zero, suc, ◌^◌, ◌≤◌, ◌<◌}
use native.Mathlib.Omega.{arith}
use lib.Dec.{ltb}
use borrow.Author.Tests.{leb-true, le-leb, ltb-true, ltb-false, lt-ltb}
use lib.IntN.{ℤ, pos, negsuc, suc_ℤ}
use lib.Signed.{le_z}
use mir.Syntax.{w64}
use mir.Val.{bool_byte, SFits}
use Rattle.sums.specs.Rules.{Decides}
use Rattle.sums.specs.Ids.{Ids, has, count, total, rank, any_in_range}
use Rattle.sums.specs.Cuts.{Least}
use Rattle.sums.proofs.Counts.{count_zero, count_suc, count_mono, byte_le}
use Rattle.sums.proofs.Least.{count_before, least_at}

-- ---- ids of 0 or more

pub count_member : (P : Ids) (n : ℕ) → P n ≡ true → count P (suc n) ≡ suc (count P n)
count_member P n e = let b : bool_byte (P n) ≡ 1 = ap bool_byte e in omega (arith, count_suc P n)

pub count_gap : (P : Ids) (n : ℕ) → P n ≡ false → count P (suc n) ≡ count P n
count_gap P n e = let b : bool_byte (P n) ≡ 0 = ap bool_byte e in omega (arith, count_suc P n)

-- fewer members below a than below b: one lies from a up to b
pub count_some : (P : Ids) (a b : ℕ) → count P a < count P b → (j : ℕ) × (a ≤ j) × (j < b) × (P j ≡ true)
count_some P a zero l = absurd (omega (arith, count_zero P))
count_some P a (suc b) l = go (P b) refl (count_some P a b)
  where
    go : (c : Bool) → P b ≡ c → (count P a < count P b → (j : ℕ) × (a ≤ j) × (j < b) × (P j ≡ true)) → (j : ℕ) × (a ≤ j) × (j < suc b) × (P j ≡ true)
    go true e r = (b, (let h = count_before P (suc b) a l in omega arith), omega arith, e)
    go false e r = let f = r (omega (arith, count_gap P b e)) in (f.0, f.1, (let h = f.2 in omega arith), f.3)

-- the member that comes after k others, and that there is one
pub nth_to : (P : Ids) (k n : ℕ) → k < count P n → (j : ℕ) × (j < n) × (P j ≡ true) × (count P j ≡ k)
nth_to P k zero l = absurd (omega (arith, count_zero P))
nth_to P k (suc n) l = go (ltb k (count P n)) refl (nth_to P k n)
  where
    go : (b : Bool) → ltb k (count P n) ≡ b → (k < count P n → (j : ℕ) × (j < n) × (P j ≡ true) × (count P j ≡ k)) → (j : ℕ) × (j < suc n) × (P j ≡ true) × (count P j ≡ k)
    go true e r = let f = r (ltb-true k (count P n) e) in (f.0, (let h = f.1 in omega arith), f.2, f.3)
    go false e r = let f = count_some P n (suc n) (let h = ltb-false k (count P n) e in omega arith) in let d : f.0 ≡ n = omega arith in (n, omega arith, rw d at f.3, (let h = ltb-false k (count P n) e in omega (arith, count_suc P n, byte_le (P n))))

pub nth_member : (P : Ids) (k : ℕ) → k < total P → (n : ℕ) × (n < 2 ^ 63) × (P n ≡ true) × (count P n ≡ k)
unfolding total
nth_member P k l = nth_to P k (2 ^ 63) l

pub nth_one : (P : Ids) (m n : ℕ) → P m ≡ true → P n ≡ true → count P m ≡ count P n → m ≡ n
nth_one P m n p q e =
    let a = count_before P (suc n) m (omega (arith, count_member P n q)) in
    let b = count_before P (suc m) n (omega (arith, count_member P m p)) in
    omega arith

-- the id after it is the least with one more below
pub nth_least : (P : Ids) (n : ℕ) → P n ≡ true → Least P (suc (count P n)) (suc n)
nth_least P n e = least_at P (suc (count P n)) n (omega arith) (omega (arith, count_member P n e))

-- ---- all ids

pub rank_mono : (P : Ids) (a b : ℤ) → le_z a b ≡ true → rank P a ≤ rank P b
unfolding rank
rank_mono P (pos a) (pos b) e = count_mono P a b (leb-true a b e)
rank_mono P (pos a) (negsuc b) e = absurd (let z : ◌≡◌ {A = ℕ} 0 1 = cc in omega arith)
rank_mono P (negsuc a) b e = omega arith

pub rank_member : (P : Ids) (z : ℤ) → has P z ≡ true → rank P (suc_ℤ z) ≡ suc (rank P z)
unfolding rank
rank_member P (pos n) e = count_member P n e
rank_member P (negsuc n) e = absurd (let z : ◌≡◌ {A = ℕ} 0 1 = cc in omega arith)

pub rank_gap : (P : Ids) (z : ℤ) → has P z ≡ false → rank P (suc_ℤ z) ≡ rank P z
unfolding rank
rank_gap P (pos n) e = count_gap P n e
rank_gap P (negsuc zero) e = count_zero P
rank_gap P (negsuc (suc n)) e = refl

-- a member's rank is below the total
pub rank_below : (P : Ids) (z : ℤ) → SFits w64 z → has P z ≡ true → rank P z < total P
unfolding rank total
rank_below P (pos n) f e = let m = count_mono P (suc n) (2 ^ 63) f.sfits in omega (arith, count_member P n e)
rank_below P (negsuc n) f e = absurd (let z : ◌≡◌ {A = ℕ} 0 1 = cc in omega arith)

-- no rank is above it
pub rank_le : (P : Ids) (z : ℤ) → SFits w64 z → rank P z ≤ total P
unfolding rank total
rank_le P (pos n) f = let h = f.sfits in let m = count_mono P n (2 ^ 63) (omega arith) in omega arith
rank_le P (negsuc n) f = omega arith

-- ---- the range test

member_between : (P : Ids) (lo hi : ℤ) → rank P lo < rank P (suc_ℤ hi) → (z : ℤ) × (le_z lo z ≡ true) × (le_z z hi ≡ true) × (has P z ≡ true)
unfolding rank
member_between P (pos a) (pos b) l = let f = count_some P a (suc b) l in (pos f.0, le-leb a f.0 f.1, le-leb f.0 b (let h = f.2 in omega arith), f.3)
member_between P (negsuc a) (pos b) l = let f = count_some P 0 (suc b) (omega (arith, count_zero P)) in (pos f.0, refl, le-leb f.0 b (let h = f.2 in omega arith), f.3)
member_between P a (negsuc zero) l = absurd (omega (arith, count_zero P))
member_between P a (negsuc (suc b)) l = absurd (omega arith)

le_z_suc : (a b : ℤ) → le_z a b ≡ true → le_z (suc_ℤ a) (suc_ℤ b) ≡ true
le_z_suc (pos a) (pos b) e = le-leb (suc a) (suc b) (omega (arith, leb-true a b e))
le_z_suc (pos a) (negsuc b) e = absurd (let z : ◌≡◌ {A = ℕ} 0 1 = cc in omega arith)
le_z_suc (negsuc zero) (pos b) e = le-leb 0 (suc b) (omega arith)
le_z_suc (negsuc (suc a)) (pos b) e = refl
le_z_suc (negsuc zero) (negsuc zero) e = refl
le_z_suc (negsuc (suc a)) (negsuc zero) e = refl
le_z_suc (negsuc zero) (negsuc (suc b)) e = absurd (omega (arith, leb-true (suc b) 0 e))
le_z_suc (negsuc (suc a)) (negsuc (suc b)) e = le-leb b a (omega (arith, leb-true (suc b) (suc a) e))

-- yes exactly when a member lies in lo to hi
pub any_in_range_law : (P : Ids) (lo hi : ℤ) → Decides (any_in_range P lo hi) ((z : ℤ) × (le_z lo z ≡ true) × (le_z z hi ≡ true) × (has P z ≡ true))
unfolding any_in_range
any_in_range_law P lo hi = record {
  sound = λ h. member_between P lo hi (ltb-true (rank P lo) (rank P (suc_ℤ hi)) h);
  whole = λ f. lt-ltb (rank P lo) (rank P (suc_ℤ hi)) (let a = rank_mono P lo f.0 f.1 in let b = rank_mono P (suc_ℤ f.0) (suc_ℤ hi) (le_z_suc f.0 hi f.2) in omega (arith, rank_member P f.0 f.3));
}
