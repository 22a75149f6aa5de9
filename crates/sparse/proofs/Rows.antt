-- Laws of rows: members and counts below, place by place and where offsets rise. Assumes nothing.
use mathlib.Core.Path.{◌≡◌, refl, sym, ap, ◌∙◌}
use mathlib.Core.Logic.{◌⊎◌, inl, inr, ◌≢◌}
use mathlib.Core.Bool.{Bool, true, false, ◌||◌}
use mathlib.Core.List.{List}
use Prim.Native.Nat.{ℕ, zero, suc, ◌+◌, ◌≤◌, ◌<◌}
use native.Mathlib.Omega.{arith}
use Rattle.std.proofs.Math.Bool.{or_comm}
use lib.Dec.{ltb, eqb}
use lib.ListN.{get_or, take, drop}
use lib.Seq.{get_or-take, get_or-drop}
use mir.Val.{bool_byte}
use borrow.Author.Tests.{ltb-true, ltb-false, lt-ltb, le-ltb, eqb-true, eq-eqb, ne_eqb}
use Rattle.sums.specs.Ids.{Ids, count}
use Rattle.sums.specs.Rules.{Decides}
use Rattle.sums.proofs.Sums.{last_or}
use Rattle.sums.proofs.Counts.{count_zero, count_suc, count_ext, count_le, count_mono, count_change, count_full, count_none}
use Rattle.sparse.specs.Row.{Row, member, below_of, Rising}

-- a row that is a part of a pool
pub row_part : (pool : List ℕ) (a k j : ℕ) → j < k → get_or (take k (drop a pool)) j 0 ≡ get_or pool (a + j) 0
row_part pool a k j l = get_or-take k (drop a pool) j 0 l ∙ get_or-drop a pool j 0

-- ---- counts

pub count_front : (P : Ids) (n : ℕ) → count P (suc n) ≡ bool_byte (P 0) + count (λ (j : ℕ). P (suc j)) n
count_front P zero = omega (arith, count_suc P 0, count_zero P, count_zero (λ (j : ℕ). P (suc j)))
count_front P (suc n) = omega (arith, count_front P n, count_suc P (suc n), count_suc (λ (j : ℕ). P (suc j)) n)

pub count_first : (P : Ids) (n : ℕ) → 0 < count P n → (j : ℕ) × (j < n) × (P j ≡ true)
count_first P zero h = absurd (omega (arith, count_zero P))
count_first P (suc n) h = go (P n) refl (count_first P n)
  where
    go : (b : Bool) → P n ≡ b → (0 < count P n → (j : ℕ) × (j < n) × (P j ≡ true)) → (j : ℕ) × (j < suc n) × (P j ≡ true)
    go true e r = (n, omega arith, e)
    go false e r = let z : bool_byte (P n) ≡ 0 = ap bool_byte e in let w = r (omega (arith, count_suc P n)) in (w.0, omega (arith, w.1), w.2)

pub count_some : (P : Ids) (j n : ℕ) → j < n → P j ≡ true → 0 < count P n
count_some P j n l e = let z : bool_byte (P j) ≡ 1 = ap bool_byte e in omega (arith, count_suc P j, count_mono P (suc j) n l)

-- a test that says yes up to a point says yes at as many places as it counts
pub count_cut : (P : Ids) (n : ℕ) → ((i j : ℕ) → i < j → j < n → P j ≡ true → P i ≡ true) → (j : ℕ) → j < n → P j ≡ ltb j (count P n)
count_cut P zero h j l = absurd (omega arith)
count_cut P (suc n) h j l = go (P n) refl (last_or j n l) (count_cut P n (λ i k a b. h i k a (omega arith)) j)
  where
    go : (b : Bool) → P n ≡ b → (j < n) ⊎ (j ≡ n) → (j < n → P j ≡ ltb j (count P n)) → P j ≡ ltb j (count P (suc n))
    go true e (inl m) r =
        let f = count_full P n (λ i k. h i n k (omega arith) e) in
        let z : bool_byte (P n) ≡ 1 = ap bool_byte e in
        h j n m (omega arith) e ∙ sym (lt-ltb j (count P (suc n)) (omega (arith, count_suc P n)))
    go true e (inr m) r =
        let f = count_full P n (λ i k. h i n k (omega arith) e) in
        let z : bool_byte (P n) ≡ 1 = ap bool_byte e in
        ap P m ∙ e ∙ sym (lt-ltb j (count P (suc n)) (omega (arith, count_suc P n)))
    go false e (inl m) r =
        let z : bool_byte (P n) ≡ 0 = ap bool_byte e in
        let s : count P n ≡ count P (suc n) = omega (arith, count_suc P n) in
        r m ∙ ap (ltb j) s
    go false e (inr m) r =
        let z : bool_byte (P n) ≡ 0 = ap bool_byte e in
        ap P m ∙ e ∙ sym (le-ltb j (count P (suc n)) (omega (arith, count_suc P n, count_le P n)))

-- ---- members

-- two tests of the same statement are the same
pub same_test : (a b : Bool) {P Q : Type 0} → Decides a P → Decides b Q → (P → Q) → (Q → P) → a ≡ b
same_test true b d e f g = sym (e.whole (f (d.sound refl)))
same_test false true d e f g = d.whole (g (e.sound refl))
same_test false false d e f g = refl

pub member_of : (f : Row) (len x : ℕ) → Decides (member f len x) ((j : ℕ) × (j < len) × (f j ≡ x))
unfolding member
member_of f len x = record {
  sound = λ h. let w = count_first (λ (j : ℕ). eqb (f j) x) len (ltb-true 0 _ h) in (w.0, w.1, eqb-true (f w.0) x w.2);
  whole = λ w. lt-ltb 0 (count (λ (j : ℕ). eqb (f j) x) len) (count_some (λ (j : ℕ). eqb (f j) x) w.0 len w.1 (eq-eqb (f w.0) x w.2));
}

pub member_at : (f : Row) (len j : ℕ) → j < len → member f len (f j) ≡ true
member_at f len j l = (member_of f len (f j)).whole (j, l, refl)

pub member_ext : (f g : Row) (len x : ℕ) → ((j : ℕ) → j < len → f j ≡ g j) → member f len x ≡ member g len x
unfolding member
member_ext f g len x h = ap (ltb 0) (count_ext (λ (j : ℕ). eqb (f j) x) (λ (j : ℕ). eqb (g j) x) len (λ j l. ap (λ (y : ℕ). eqb y x) (h j l)))

pub member_none : (f : Row) (x : ℕ) → member f 0 x ≡ false
unfolding member
member_none f x = ap (ltb 0) (count_zero (λ (j : ℕ). eqb (f j) x))

pub some_or : (a : ℕ) (b : Bool) → ltb 0 (a + bool_byte b) ≡ (ltb 0 a || b)
some_or a b = go (ltb 0 a) b refl
  where
    go : (t b : Bool) → ltb 0 a ≡ t → ltb 0 (a + bool_byte b) ≡ (t || b)
    go true b e = let l = ltb-true 0 a e in lt-ltb 0 (a + bool_byte b) (omega arith)
    go false true e = lt-ltb 0 (a + 1) (omega arith)
    go false false e = let l = ltb-false 0 a e in le-ltb 0 (a + 0) (omega arith)

pub member_suc : (f : Row) (n x : ℕ) → member f (suc n) x ≡ (member f n x || eqb (f n) x)
unfolding member
member_suc f n x = ap (ltb 0) (count_suc (λ (j : ℕ). eqb (f j) x) n) ∙ some_or (count (λ (j : ℕ). eqb (f j) x) n) (eqb (f n) x)

pub member_front : (f : Row) (n x : ℕ) → member f (suc n) x ≡ (eqb (f 0) x || member (λ (j : ℕ). f (suc j)) n x)
unfolding member
member_front f n x =
    let c = count (λ (j : ℕ). eqb (f (suc j)) x) n in
    let e : count (λ (j : ℕ). eqb (f j) x) (suc n) ≡ c + bool_byte (eqb (f 0) x) = omega (arith, count_front (λ (j : ℕ). eqb (f j) x) n) in
    ap (ltb 0) e ∙ some_or c (eqb (f 0) x) ∙ or_comm (ltb 0 c) (eqb (f 0) x)

-- ---- counts below

pub below_le : (f : Row) (len x : ℕ) → below_of f len x ≤ len
unfolding below_of
below_le f len x = count_le (λ (j : ℕ). ltb (f j) x) len

pub below_ext : (f g : Row) (len x : ℕ) → ((j : ℕ) → j < len → f j ≡ g j) → below_of f len x ≡ below_of g len x
unfolding below_of
below_ext f g len x h = count_ext (λ (j : ℕ). ltb (f j) x) (λ (j : ℕ). ltb (g j) x) len (λ j l. ap (λ (y : ℕ). ltb y x) (h j l))

pub below_all : (f : Row) (len x : ℕ) → ((j : ℕ) → j < len → f j < x) → below_of f len x ≡ len
unfolding below_of
below_all f len x h = count_full (λ (j : ℕ). ltb (f j) x) len (λ j l. lt-ltb (f j) x (h j l))

-- ---- rising

-- by neighbours
pub rising_next : (f : Row) (len : ℕ) → ((i : ℕ) → suc i < len → f i < f (suc i)) → Rising f len
rising_next f len h i zero a b = absurd (omega arith)
rising_next f len h i (suc j) a b = go (last_or i j a) (rising_next f len h i j)
  where
    go : (i < j) ⊎ (i ≡ j) → (i < j → j < len → f i < f j) → f i < f (suc j)
    go (inl m) r = let s = h j b in let t = r m (omega arith) in omega arith
    go (inr e) r = let s = h j b in let t : f i ≡ f j = ap f e in omega arith

pub rising_ext : (f g : Row) (len : ℕ) → ((j : ℕ) → j < len → f j ≡ g j) → Rising f len → Rising g len
rising_ext f g len h r i j a b = let p = h i (omega arith) in let q = h j b in let s = r i j a b in omega arith

module _ (f : Row) (len : ℕ) (up : Rising f len) where
  -- the offsets below x are the first ones
  pub below_at : (x j : ℕ) → j < len → ltb (f j) x ≡ ltb j (below_of f len x)
  unfolding below_of
  below_at x = count_cut (λ (j : ℕ). ltb (f j) x) len (λ i j a b e. let s = up i j a b in lt-ltb (f i) x (let l = ltb-true (f j) x e in omega arith))

  pub below_before : (x j : ℕ) → j < len → j < below_of f len x → f j < x
  below_before x j l m = ltb-true (f j) x (below_at x j l ∙ lt-ltb j (below_of f len x) m)

  pub below_after : (x j : ℕ) → j < len → below_of f len x ≤ j → x ≤ f j
  below_after x j l m = ltb-false (f j) x (below_at x j l ∙ le-ltb j (below_of f len x) m)

  -- an offset's place is the number of smaller ones
  pub below_own : (j : ℕ) → j < len → below_of f len (f j) ≡ j
  below_own j l = go (ltb j (below_of f len (f j))) refl (ltb (below_of f len (f j)) j) refl
    where
      go : (a : Bool) → ltb j (below_of f len (f j)) ≡ a → (b : Bool) → ltb (below_of f len (f j)) j ≡ b → below_of f len (f j) ≡ j
      go true a b e = absurd (let s = below_before (f j) j l (ltb-true j _ a) in omega arith)
      go false a true e = absurd (let m = ltb-true (below_of f len (f j)) j e in let s = up (below_of f len (f j)) j m l in let t = below_after (f j) (below_of f len (f j)) (omega arith) (omega arith) in omega arith)
      go false a false e = let p = ltb-false j (below_of f len (f j)) a in let q = ltb-false (below_of f len (f j)) j e in omega arith

-- members below x are the offsets below x: each offset is one member
pub count_member : (f : Row) (len : ℕ) → Rising f len → (x : ℕ) → count (member f len) x ≡ below_of f len x
unfolding below_of
count_member f zero up x = count_none (member f 0) x (λ j l. member_none f j) ∙ sym (count_zero (λ (j : ℕ). ltb (f j) x))
count_member f (suc n) up x = go (ltb (f n) x) refl (count_member f n (λ i j a b. up i j a (omega arith)) x)
  where
    off : (j : ℕ) → j ≢ f n → member f (suc n) j ≡ member f n j
    off j d = member_suc f n j ∙ ap (λ (b : Bool). member f n j || b) (ne_eqb (f n) j (λ e. d (sym e))) ∙ or_comm (member f n j) false

    own : member f (suc n) (f n) ≡ true
    own = member_at f (suc n) n (omega arith)

    new : (b : Bool) → member f n (f n) ≡ b → bool_byte (member f n (f n)) ≡ 0
    new true e = absurd (let w = (member_of f n (f n)).sound e in let s = up w.0 n w.1 (omega arith) in let t = w.2 in omega arith)
    new false e = ap bool_byte e

    go : (b : Bool) → ltb (f n) x ≡ b → count (member f n) x ≡ count (λ (j : ℕ). ltb (f j) x) n → count (member f (suc n)) x ≡ count (λ (j : ℕ). ltb (f j) x) (suc n)
    go true e ih =
        let c = count_change (member f n) (member f (suc n)) (f n) x (ltb-true (f n) x e) (λ j l d. off j d) in
        let z = new (member f n (f n)) refl in
        let o : bool_byte (member f (suc n) (f n)) ≡ 1 = ap bool_byte own in
        let b : bool_byte (ltb (f n) x) ≡ 1 = ap bool_byte e in
        omega (arith, count_suc (λ (j : ℕ). ltb (f j) x) n)
    go false e ih =
        let g = ltb-false (f n) x e in
        let c = count_ext (member f (suc n)) (member f n) x (λ j l. off j (omega arith)) in
        let b : bool_byte (ltb (f n) x) ≡ 0 = ap bool_byte e in
        omega (arith, count_suc (λ (j : ℕ). ltb (f j) x) n)

-- all offsets below a bound: as many members below it as offsets, and none from it on
pub member_total : (f : Row) (len x : ℕ) → Rising f len → ((j : ℕ) → j < len → f j < x) → count (member f len) x ≡ len
member_total f len x up h = count_member f len up x ∙ below_all f len x h

pub member_small : (f : Row) (len s x : ℕ) → ((j : ℕ) → j < len → f j < s) → member f len x ≡ true → x < s
member_small f len s x h e = let w = (member_of f len x).sound e in let l = h w.0 w.1 in let q = w.2 in omega arith
