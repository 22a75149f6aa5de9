-- Laws of numbers as text: the text of n, read back, is n. Assumes nothing.
use mathlib.Core.Path.{◌≡◌, refl, sym, ◌∙◌, ap}
use mathlib.Core.Bool.{Bool, true, false, cond, ◌&&◌}
use mathlib.Core.List.{List, [], ◌∷◌, ◌++◌}
use Prim.Native.Nat.{ℕ, zero, suc, ◌+◌, ◌-◌, ◌*◌, ◌/◌, ◌%◌, ◌^◌, ◌≤◌, ◌<◌}
use native.Mathlib.Nat.{pow-le-pow_right}
use native.Mathlib.Omega.{arith}
use lib.Dec.{leb, ltb}
use lib.ListN.{length, length-append}
use borrow.Author.Tests.{leb-true, leb-false, ltb-true, ltb-false, le-leb, lt-ltb, le-ltb}
use Rattle.lines.specs.Line.{is_digit, all_digits, value_from, value, size_line}
use Rattle.std.specs.Prelude.{Some, None}
use Rattle.io.specs.Digits.{hex_digit_ascii, last_digits, IsDigitCount}
use Rattle.spell.specs.Spell.{decimal_in, decimal}

-- ---- a digit behind others

all_behind : (xs : List ℕ) (b : ℕ) → all_digits xs ≡ true → is_digit b ≡ true → all_digits (xs ++ (b ∷ [])) ≡ true
unfolding all_digits
all_behind [] b h k = rw k
all_behind (x ∷ xs) b h k = both_true (is_digit x) (all_digits xs) (all_digits (xs ++ (b ∷ []))) h (λ r. all_behind xs b r k)
  where
    both_true : (p q r : Bool) → (p && q) ≡ true → (q ≡ true → r ≡ true) → (p && r) ≡ true
    both_true true q r e f = f e
    both_true false q r e f = e

value_behind : (v : ℕ) (xs : List ℕ) (b : ℕ) → value_from v (xs ++ (b ∷ [])) ≡ value_from v xs * 10 + (b - 48)
unfolding value_from
value_behind v [] b = refl
value_behind v (x ∷ xs) b = value_behind (v * 10 + (x - 48)) xs b

is_digit_law : (d : ℕ) → d < 10 → is_digit (48 + d) ≡ true
is_digit_law d h =
    let a : 48 ≤ 48 + d = omega arith in
    let b : 48 + d ≤ 57 = omega arith in
    rw (le-leb 48 (48 + d) a, le-leb (48 + d) 57 b)

-- ---- read back

record Reads (k n : ℕ) (t : List ℕ) : Type 0 where
  digits_only : all_digits t ≡ true
  its_value : value t ≡ n
  some : 1 ≤ length t
  most : length t ≤ k

one_digit : (k n : ℕ) → n < 10 → Reads (suc k) n ((48 + n) ∷ [])
unfolding all_digits value_from
one_digit k n h =
    record {
      digits_only = rw (is_digit_law n h);
      its_value = omega arith;
      some = omega arith;
      most = omega arith;
    }

one_more : (k n : ℕ) (t : List ℕ) → Reads k (n / 10) t → Reads (suc k) n (t ++ ((48 + n % 10) ∷ []))
one_more k n t r =
    let m : n % 10 < 10 = omega arith in
    let v : value (t ++ ((48 + n % 10) ∷ [])) ≡ value t * 10 + ((48 + n % 10) - 48) = value_behind 0 t (48 + n % 10) in
    let w : value t ≡ n / 10 = r.its_value in
    let l : length (t ++ ((48 + n % 10) ∷ [])) ≡ length t + 1 = length-append t ((48 + n % 10) ∷ []) in
    record {
      digits_only = all_behind t (48 + n % 10) r.digits_only (is_digit_law (n % 10) m);
      its_value = omega arith;
      some = omega arith;
      most = omega (arith, r.most);
    }

reads_by : (k n : ℕ) (t : Bool) → ltb n 10 ≡ t → (10 ≤ n → Reads k (n / 10) (decimal_in k (n / 10))) → Reads (suc k) n (cond t ((48 + n) ∷ []) (decimal_in k (n / 10) ++ ((48 + n % 10) ∷ [])))
reads_by k n true h more = one_digit k n (ltb-true n 10 h)
reads_by k n false h more = one_more k n (decimal_in k (n / 10)) (more (ltb-false n 10 h))

reads_in : (k n : ℕ) → n < 10 ^ suc k → Reads (suc k) n (decimal_in (suc k) n)
unfolding decimal_in
reads_in zero n h = reads_by zero n (ltb n 10) refl (λ (l : 10 ≤ n). absurd (omega arith))
reads_in (suc k) n h = reads_by (suc k) n (ltb n 10) refl (λ (l : 10 ≤ n). reads_in k (n / 10) (omega arith))

reads_decimal : (n : ℕ) → n < 2 ^ 64 → Reads 20 n (decimal n)
unfolding decimal
reads_decimal n h = reads_in 19 n (omega arith)

-- as S of the program's input
pub read_back : (n : ℕ) → n < 2 ^ 64 → size_line (decimal n) ≡ Some n
unfolding size_line
read_back n h =
    let r = reads_decimal n h in
    let w : value (decimal n) < 2 ^ 64 = omega (arith, r.its_value) in
    let t : (all_digits (decimal n) && (leb 1 (length (decimal n)) && (leb (length (decimal n)) 20 && ltb (value (decimal n)) (2 ^ 64)))) ≡ true
    = rw (r.digits_only, le-leb 1 (length (decimal n)) r.some, le-leb (length (decimal n)) 20 r.most, lt-ltb (value (decimal n)) (2 ^ 64) w) in
    ap (λ (b : Bool). cond b (Some (value (decimal n))) None) t ∙ ap Some r.its_value

-- ---- as the digits are found

last_digit : (n : ℕ) → hex_digit_ascii (n % 10) ≡ 48 + n % 10
last_digit n = let m : n % 10 < 10 = omega arith in rw (lt-ltb (n % 10) 10 m)

digits_are : (k f n : ℕ) → suc k ≤ f → n < 10 ^ suc k → (1 < suc k → 10 ^ k ≤ n) → last_digits 10 (suc k) n ≡ decimal_in f n
unfolding decimal_in
digits_are k zero n h a b = absurd (omega arith)
digits_are zero (suc f) n h a b =
    let l : n < 10 = omega arith in
    let e : n % 10 ≡ n = omega arith in
    ap (λ (d : ℕ). d ∷ []) (last_digit n ∙ ap (λ (d : ℕ). 48 + d) e) ∙ sym (rw (lt-ltb n 10 l))
digits_are (suc k) (suc f) n h a b =
    let p : 10 ^ suc k ≤ n = b (omega arith) in
    let q : 1 ≤ 10 ^ k = omega arith in
    let l : 10 ≤ n = omega arith in
    let low : n / 10 < 10 ^ suc k = omega arith in
    ap (λ (t : List ℕ). t ++ (hex_digit_ascii (n % 10) ∷ [])) (digits_are k f (n / 10) (omega arith) low (λ (_ : 1 < suc k). omega arith))
    ∙ ap (λ (d : ℕ). decimal_in f (n / 10) ++ (d ∷ [])) (last_digit n)
    ∙ sym (rw (le-ltb n 10 l))

pub fewest_are : (k n : ℕ) → IsDigitCount 10 1 n k → k ≤ 20 → last_digits 10 k n ≡ decimal n
unfolding decimal
fewest_are zero n w h = absurd (omega (arith, w.0))
fewest_are (suc k) n w h =
    let e : suc k - 1 ≡ k = omega arith in
    digits_are k 20 n h w.1 (λ (l : 1 < suc k). rw e at (w.2 l))

-- a u64 has at most 20 digits
pub fewest_few : (k n : ℕ) → IsDigitCount 10 1 n k → n < 2 ^ 64 → k ≤ 20
fewest_few k n w h = go (leb k 20) refl
  where
    go : (t : Bool) → leb k 20 ≡ t → k ≤ 20
    go true e = leb-true k 20 e
    go false e =
        let l : 20 < k = leb-false k 20 e in
        let p : 10 ^ (k - 1) ≤ n = w.2 (omega arith) in
        let q : 10 ^ 20 ≤ 10 ^ (k - 1) = pow-le-pow_right {n = 10} (omega arith) {i = 20} {j = k - 1} (omega arith) in
        absurd (omega arith)
