-- Rules over ranges: the equations, what a loop's turn adds, and the laws that build a `Decides` from its parts. Assumes nothing.
use mathlib.Core.Path.{◌≡◌, refl, sym, ◌∙◌, ap, ap₂}
use mathlib.Core.Bool.{Bool, true, false, not, ◌&&◌, ◌||◌}
use Prim.Native.Nat.{ℕ, zero, suc, ◌+◌, ◌≤◌, ◌<◌}
use native.Mathlib.Numerals.{add-one}
use native.Mathlib.Omega.{arith}
use borrow.Author.Count.{below_more}
use lib.Dec.{leb, ltb, eqb}
use borrow.Author.Tests.{leb-true, ltb-true, eqb-true, le-leb, lt-ltb, eq-eqb}
use Rattle.sums.specs.Rules.{all_to, Decides}

pub all_none : (f : ℕ → Bool) → true ≡ all_to f 0
unfolding all_to
all_none f = refl

-- a turn of a loop
pub all_more : (f : ℕ → Bool) (i : ℕ) (a b : Bool) → a ≡ all_to f i → b ≡ f i → (a && b) ≡ all_to f (i + 1)
unfolding all_to
all_more f i a b p q = ap₂ ◌&&◌ p q ∙ ap (all_to f) (sym (add-one i))

pub all_end : (f : ℕ → Bool) (i n : ℕ) (a : Bool) → a ≡ all_to f i → i ≤ n → n ≤ i → a ≡ all_to f n
all_end f i n a p h g = let e : i ≡ n = omega arith in p ∙ ap (all_to f) e

pub both : (a b : Bool) → (a && b) ≡ true → (a ≡ true) × (b ≡ true)
both true b h = (refl, h)
both false b h = absurd (let z : ◌≡◌ {A = ℕ} 0 1 = cc in omega arith)

-- The general law, and the laws that build one `Decides` from others.
module _ (f : ℕ → Bool) where
  all_sound : (n : ℕ) → all_to f n ≡ true → (i : ℕ) → i < n → f i ≡ true
  unfolding all_to
  all_sound zero h i l = absurd (omega arith)
  all_sound (suc n) h i l =
      let g = both (all_to f n) (f n) h in
      below_more (λ (k : ℕ). f k ≡ true) n (all_sound n g.0) g.1 i (rw add-one l)

  all_whole : (n : ℕ) → ((i : ℕ) → i < n → f i ≡ true) → all_to f n ≡ true
  unfolding all_to
  all_whole zero h = refl
  all_whole (suc n) h = ap₂ ◌&&◌ (all_whole n (λ (i : ℕ) (l : i < n). h i (omega arith))) (h n (omega arith))

pub all_of : (f : ℕ → Bool) (n : ℕ) {P : ℕ → Type 0} → ((i : ℕ) → i < n → Decides (f i) (P i)) → Decides (all_to f n) ((i : ℕ) → i < n → P i)
all_of f n d = record {
  sound = λ h i l. (d i l).sound (all_sound f n h i l);
  whole = λ p. all_whole f n (λ i l. (d i l).whole (p i l));
}

pub and_of : {a b : Bool} {P Q : Type 0} → Decides a P → Decides b Q → Decides (a && b) (P × Q)
and_of {a} {b} d e = record {
  sound = λ h. (d.sound (both a b h).0, e.sound (both a b h).1);
  whole = λ p. ap₂ ◌&&◌ (d.whole p.0) (e.whole p.1);
}

-- no to P is yes to its denial
not_sound : (a : Bool) {P : Type 0} → Decides a P → not a ≡ true → P → ⊥
not_sound true d h p = let z : ◌≡◌ {A = ℕ} 0 1 = cc in omega arith
not_sound false d h p = let e : false ≡ true = d.whole p in let z : ◌≡◌ {A = ℕ} 0 1 = cc in omega arith

not_whole : (a : Bool) {P : Type 0} → Decides a P → (P → ⊥) → not a ≡ true
not_whole true d n = absurd (n (d.sound refl))
not_whole false d n = refl

pub not_of : {a : Bool} {P : Type 0} → Decides a P → Decides (not a) (P → ⊥)
not_of {a} d = record { sound = not_sound a d; whole = not_whole a d }

-- "unless P, Q": the test a || b
unless_sound : (a b : Bool) {P Q : Type 0} → Decides a P → Decides b Q → (a || b) ≡ true → (P → ⊥) → Q
unless_sound true b d e h n = absurd (n (d.sound refl))
unless_sound false b d e h n = e.sound h

unless_whole : (a b : Bool) {P Q : Type 0} → Decides a P → Decides b Q → ((P → ⊥) → Q) → (a || b) ≡ true
unless_whole true b d e h = refl
unless_whole false b {P} d e h = e.whole (h (λ (p : P). let z : false ≡ true = d.whole p in let y : ◌≡◌ {A = ℕ} 0 1 = cc in omega arith))

pub unless_of : {a b : Bool} {P Q : Type 0} → Decides a P → Decides b Q → Decides (a || b) ((P → ⊥) → Q)
unless_of {a} {b} d e = record { sound = unless_sound a b d e; whole = unless_whole a b d e }

-- "if P, Q": the test not a || b
if_sound : (a b : Bool) {P Q : Type 0} → Decides a P → Decides b Q → (not a || b) ≡ true → P → Q
if_sound true b d e h p = e.sound h
if_sound false b d e h p = absurd (let z : false ≡ true = d.whole p in let y : ◌≡◌ {A = ℕ} 0 1 = cc in omega arith)

if_whole : (a b : Bool) {P Q : Type 0} → Decides a P → Decides b Q → (P → Q) → (not a || b) ≡ true
if_whole true b d e h = e.whole (h (d.sound refl))
if_whole false b d e h = refl

pub if_of : {a b : Bool} {P Q : Type 0} → Decides a P → Decides b Q → Decides (not a || b) (P → Q)
if_of {a} {b} d e = record { sound = if_sound a b d e; whole = if_whole a b d e }

pub same_of : {a : Bool} {P Q : Type 0} → Decides a P → (P → Q) → (Q → P) → Decides a Q
same_of d f g = record { sound = λ h. f (d.sound h); whole = λ q. d.whole (g q) }

-- two tests that decide one statement agree
pub same_test : {a b : Bool} {A : Type 0} → Decides a A → Decides b A → a ≡ b
same_test {a} {b} d e = go a refl b refl
  where
    go : (s : Bool) → a ≡ s → (t : Bool) → b ≡ t → a ≡ b
    go true p t q = p ∙ sym (e.whole (d.sound p))
    go false p true q = d.whole (e.sound q) ∙ sym q
    go false p false q = p ∙ sym q

pub bool_of : (b : Bool) → Decides b (b ≡ true)
bool_of b = record { sound = λ h. h; whole = λ h. h }

pub leb_of : (m n : ℕ) → Decides (leb m n) (m ≤ n)
leb_of m n = record { sound = leb-true m n; whole = le-leb m n }

pub ltb_of : (m n : ℕ) → Decides (ltb m n) (m < n)
ltb_of m n = record { sound = ltb-true m n; whole = lt-ltb m n }

pub eqb_of : (m n : ℕ) → Decides (eqb m n) (m ≡ n)
eqb_of m n = record { sound = eqb-true m n; whole = eq-eqb m n }
