-- Counts of set bits: by words and fields of words, after each change, and over a range. Assumes nothing.
use mathlib.Core.Path.{◌≡◌, refl, sym, ap, ◌∙◌, subst}
use mathlib.Core.Logic.{◌≢◌}
use mathlib.Core.Bool.{Bool, true, false}
use mathlib.Core.List.{List}
use Prim.Native.Nat.{ℕ, zero, suc, ◌+◌, ◌-◌, ◌*◌, ◌/◌, ◌%◌, ◌^◌, ◌≤◌, ◌<◌, max}
use native.Mathlib.Nat.{mod-lt, mod-eq_of_lt, div-one}
use native.Mathlib.Omega.{arith}
use lib.Count.{ones}
use lib.Dec.{eqb, ltb}
use lib.Pow.{shr_lt}
use lib.ListN.{length, get_or, replicate, take}
use lib.Seq.{take_all}
use mir.Val.{bool_byte}
use borrow.Author.Tests.{ltb-true, ltb-false, lt-ltb}
use Rattle.std.specs.List.{sum_by}
use Rattle.std.proofs.lemmas.Bool.Decides.{nat_tests}
use Rattle.std.proofs.lemmas.List.Sums.{sum_by_more}
use Rattle.sums.specs.Sums.{sum_to}
use Rattle.sums.specs.Ids.{count}
use Rattle.sums.specs.Rules.{Decides}
use Rattle.sums.proofs.Sums.{sum_zero, sum_suc, sum_next, sum_ext, sum_none, sum_bound, sum_split, sum_mono, sum_change}
use Rattle.dense.specs.Bits.{digit, bit, is_set, bits_to, any_in, with_bit, with_row, or_words}
use Rattle.dense.proofs.Digits.{ones_field}
use Rattle.dense.proofs.Bits.{bit_lt, bit_at, bit_past, bit_with_same, bit_with_other, bit_zeros, bit_or_law, length_row, bit_row_other}

module _ (ws : List ℕ) where
  -- ---- as a sum

  pub bits_zero : bits_to ws 0 ≡ 0
  unfolding bits_to
  bits_zero = sum_zero (bit ws)

  pub bits_suc : (n : ℕ) → bits_to ws (suc n) ≡ bits_to ws n + bit ws n
  unfolding bits_to
  bits_suc n = sum_suc (bit ws) n

  pub bits_next : (n : ℕ) → bits_to ws (n + 1) ≡ bits_to ws n + bit ws n
  unfolding bits_to
  bits_next n = sum_next (bit ws) n

  pub bits_mono : (a b : ℕ) → a ≤ b → bits_to ws a ≤ bits_to ws b
  unfolding bits_to
  bits_mono a b l = sum_mono (bit ws) a b l

  pub bits_split : (a b : ℕ) → bits_to ws (a + b) ≡ bits_to ws a + sum_to (λ (j : ℕ). bit ws (a + j)) b
  unfolding bits_to
  bits_split a b = sum_split (bit ws) a b

  pub bits_le : (n : ℕ) → bits_to ws n ≤ n
  unfolding bits_to
  bits_le n = let b = sum_bound (bit ws) 1 n (λ j l. let p = bit_lt ws j in omega arith) in omega arith

  -- no bit past the last word
  pub bits_past : (n : ℕ) → 64 * length ws ≤ n → bits_to ws n ≡ bits_to ws (64 * length ws)
  bits_past n l =
      let k = n - 64 * length ws in
      let e : n ≡ 64 * length ws + k = omega arith in
      let z : sum_to (λ (j : ℕ). bit ws (64 * length ws + j)) k ≡ 0 = sum_none (λ (j : ℕ). bit ws (64 * length ws + j)) k (λ j h. bit_past ws (64 * length ws + j) (omega arith)) in
      let f = ap (bits_to ws) e in
      omega (arith, bits_split (64 * length ws) k)

  -- the same sum counts the plain set of offsets
  pub bits_count : (n : ℕ) → bits_to ws n ≡ count (is_set ws) n
  unfolding bits_to count is_set
  bits_count n = sum_ext (bit ws) (λ (j : ℕ). bool_byte (eqb (bit ws j) 1)) n (λ j l. let h = bit_lt ws j in grind (arith, nat_tests))

  -- ---- by words

  -- m bits of word i, from l on
  pub bits_field : (i l m : ℕ) → l + m ≤ 64 → bits_to ws (64 * i + (l + m)) ≡ bits_to ws (64 * i + l) + ones (get_or ws i 0 / 2 ^ l % 2 ^ m)
  bits_field i l m h =
      let w = get_or ws i 0 in
      let part : (k : ℕ) → k ≤ 64 → sum_to (λ (j : ℕ). bit ws (64 * i + j)) k ≡ sum_to (digit w) k = λ k g. sum_ext (λ (j : ℕ). bit ws (64 * i + j)) (digit w) k (λ b c. bit_at ws i b (omega arith)) in
      omega (arith, bits_split (64 * i) (l + m), bits_split (64 * i) l, part (l + m) h, part l (omega arith), ones_field w l m)

  pub bits_low : (i m : ℕ) → m ≤ 64 → bits_to ws (64 * i + m) ≡ bits_to ws (64 * i) + ones (get_or ws i 0 % 2 ^ m)
  bits_low i m h =
      let p : 64 * i + m ≡ 64 * i + (0 + m) = omega arith in
      let q : 64 * i + 0 ≡ 64 * i = omega arith in
      omega (arith, ap (bits_to ws) p, ap (bits_to ws) q, bits_field i 0 m (omega arith), ap (λ (x : ℕ). ones (x % 2 ^ m)) (div-one (get_or ws i 0)))

  -- from l on to the word's end
  pub bits_high : (i l : ℕ) → l ≤ 64 → get_or ws i 0 < 2 ^ 64 → bits_to ws (64 * (i + 1)) ≡ bits_to ws (64 * i + l) + ones (get_or ws i 0 / 2 ^ l)
  bits_high i l h g =
      let m = 64 - l in
      let w = get_or ws i 0 in
      let s : 64 ≡ m + l = omega arith in
      let p : 64 * (i + 1) ≡ 64 * i + (l + m) = omega arith in
      let f : w / 2 ^ l % 2 ^ m ≡ w / 2 ^ l = mod-eq_of_lt (shr_lt m l (subst (λ (x : ℕ). w < 2 ^ x) s g)) in
      omega (arith, ap (bits_to ws) p, bits_field i l m (omega arith), ap ones f)

  pub bits_word : (i : ℕ) → get_or ws i 0 < 2 ^ 64 → bits_to ws (64 * (i + 1)) ≡ bits_to ws (64 * i) + ones (get_or ws i 0)
  bits_word i h =
      let q : 64 * i + 0 ≡ 64 * i = omega arith in
      omega (arith, bits_high i 0 (omega arith) h, ap (bits_to ws) q, ap ones (div-one (get_or ws i 0)))

  -- the word counts add up to the count at each multiple of 64
  pub ones_front : (n : ℕ) → n ≤ length ws → ((i : ℕ) → i < n → get_or ws i 0 < 2 ^ 64) → sum_by ones (take n ws) ≡ bits_to ws (64 * n)
  ones_front zero l h = sym bits_zero
  ones_front (suc n) l h =
      let p : 64 * suc n ≡ 64 * (n + 1) = omega arith in
      let q : suc n ≡ n + 1 = omega arith in
      omega (arith, ap (bits_to ws) p, ap (λ (i : ℕ). sum_by ones (take i ws)) q, sum_by_more ones ws n 0 (omega arith), bits_word n (h n (omega arith)), ones_front n (omega arith) (λ i l. h i (omega arith)))

  -- and those of all words to the count of all bits
  pub ones_all : ((i : ℕ) → i < length ws → get_or ws i 0 < 2 ^ 64) → sum_by ones ws ≡ bits_to ws (64 * length ws)
  ones_all h = ap (sum_by ones) (sym (take_all (length ws) ws (omega arith))) ∙ ones_front (length ws) (omega arith) h

  -- ---- over a range

  -- nothing set from a to b
  pub bits_none : (a b : ℕ) → a ≤ b → ((j : ℕ) → a ≤ j → j < b → bit ws j ≡ 0) → bits_to ws b ≡ bits_to ws a
  bits_none a b l h =
      let k = b - a in
      let e : b ≡ a + k = omega arith in
      let z = sum_none (λ (j : ℕ). bit ws (a + j)) k (λ j g. h (a + j) (omega arith) (omega arith)) in
      omega (arith, ap (bits_to ws) e, bits_split a k)

  -- a set bit between makes the counts differ
  pub bits_between : (a b o : ℕ) → a ≤ o → o < b → bit ws o ≡ 1 → bits_to ws a < bits_to ws b
  bits_between a b o l g e = omega (arith, bits_mono a o l, bits_suc o, bits_mono (suc o) b g)

  pub none_between : (a b : ℕ) → bits_to ws b ≤ bits_to ws a → (j : ℕ) → a ≤ j → j < b → bit ws j ≡ 0
  none_between a b h j l g = omega (arith, bits_mono a j l, bits_suc j, bits_mono (suc j) b g)

  -- and counts that differ have one
  pub some_between : (a b : ℕ) → bits_to ws a < bits_to ws b → (o : ℕ) × (a ≤ o) × (o < b) × (bit ws o ≡ 1)
  some_between a zero h = absurd (omega (arith, bits_zero))
  some_between a (suc b) h = go (ltb (bits_to ws a) (bits_to ws b)) refl (some_between a b)
    where
      go : (t : Bool) → ltb (bits_to ws a) (bits_to ws b) ≡ t → (bits_to ws a < bits_to ws b → (o : ℕ) × (a ≤ o) × (o < b) × (bit ws o ≡ 1)) → (o : ℕ) × (a ≤ o) × (o < suc b) × (bit ws o ≡ 1)
      go true e r = let f = r (ltb-true (bits_to ws a) (bits_to ws b) e) in let l = f.2 in (f.0, f.1, omega arith, f.3)
      go false e r =
          let l = ltb-false (bits_to ws a) (bits_to ws b) e in
          (b, grind (arith, bits_mono (suc b) a), omega arith, omega (arith, bits_suc b, bit_lt ws b))

  -- `any_in` says yes exactly when some bit lies in the range
  pub any_decides : (lo hi : ℕ) → Decides (any_in ws lo hi) ((o : ℕ) × (lo ≤ o) × (o ≤ hi) × (bit ws o ≡ 1))
  unfolding any_in
  any_decides lo hi = record {
    sound = λ h. let f = some_between lo (hi + 1) (ltb-true (bits_to ws lo) (bits_to ws (hi + 1)) h) in (f.0, f.1, (let l = f.2 in omega arith), f.3);
    whole = λ p. lt-ltb (bits_to ws lo) (bits_to ws (hi + 1)) (bits_between lo (hi + 1) p.0 p.1 (let l = p.2 in omega arith) p.3);
  }

-- ---- after each change

-- lists whose bits are equal have equal counts
pub bits_ext : (xs ys : List ℕ) (n : ℕ) → ((j : ℕ) → j < n → bit xs j ≡ bit ys j) → bits_to xs n ≡ bits_to ys n
unfolding bits_to
bits_ext xs ys n h = sum_ext (bit xs) (bit ys) n h

pub bits_zeros : (k n : ℕ) → bits_to (replicate k 0) n ≡ 0
unfolding bits_to
bits_zeros k n = sum_none (bit (replicate k 0)) n (λ j l. bit_zeros k j)

pub bits_or : (xs ys : List ℕ) (n : ℕ) → n ≤ 64 * length xs → bits_to (or_words xs ys) n ≡ sum_to (λ (j : ℕ). max (bit xs j) (bit ys j)) n
unfolding bits_to
bits_or xs ys n l = sum_ext (bit (or_words xs ys)) (λ (j : ℕ). max (bit xs j) (bit ys j)) n (λ j h. bit_or_law xs ys j (omega arith))

module _ (ws : List ℕ) (o : ℕ) where
  -- one more, unless it was set
  pub bits_with : (n : ℕ) → o < 64 * length ws → o < n → bits_to (with_bit ws o) n + bit ws o ≡ bits_to ws n + 1
  unfolding bits_to
  bits_with n h l = let e = bit_with_same ws o h in omega (arith, sum_change (bit ws) (bit (with_bit ws o)) o n l (λ j g d. bit_with_other ws o j d))

  pub bits_with_below : (n : ℕ) → n ≤ o → bits_to (with_bit ws o) n ≡ bits_to ws n
  bits_with_below n l = bits_ext (with_bit ws o) ws n (λ j g. bit_with_other ws o j (omega arith))

  -- at any n, of a clear bit
  pub bits_with_new : (n : ℕ) → o < 64 * length ws → bit ws o ≡ 0 → bits_to (with_bit ws o) n ≡ bits_to ws n + bool_byte (ltb o n)
  bits_with_new n h e = go (ltb o n) refl
    where
      go : (t : Bool) → ltb o n ≡ t → bits_to (with_bit ws o) n ≡ bits_to ws n + bool_byte t
      go true g = omega (arith, bits_with n h (ltb-true o n g))
      go false g = omega (arith, bits_with_below n (ltb-false o n g))

-- a row of different offsets, none set before: below x there is one more for each of them that is below x
module _ (ws row : List ℕ) (u : ℕ) (fits : u ≤ 64 * length ws) (some : 0 < u) where
  row_step : (n x : ℕ) → bits_to (with_row ws row u n) x ≡ bits_to ws x + sum_to (λ (i : ℕ). bool_byte (ltb (get_or row i 0 % u) x)) n → bit (with_row ws row u n) (get_or row n 0 % u) ≡ 0 → bits_to (with_bit (with_row ws row u n) (get_or row n 0 % u)) x ≡ bits_to ws x + sum_to (λ (i : ℕ). bool_byte (ltb (get_or row i 0 % u) x)) (suc n)
  row_step n x ih z =
      let l = mod-lt (get_or row n 0) some in
      omega (arith, bits_with_new (with_row ws row u n) (get_or row n 0 % u) x (omega (arith, length_row ws row u n)) z, sum_suc (λ (i : ℕ). bool_byte (ltb (get_or row i 0 % u) x)) n)

  pub bits_row : (n x : ℕ) → ((i : ℕ) → i < n → bit ws (get_or row i 0 % u) ≡ 0) → ((i j : ℕ) → i < j → j < n → get_or row j 0 % u ≢ get_or row i 0 % u) → bits_to (with_row ws row u n) x ≡ bits_to ws x + sum_to (λ (i : ℕ). bool_byte (ltb (get_or row i 0 % u) x)) n
  unfolding with_row
  bits_row zero x h d = omega (arith, sum_zero (λ (i : ℕ). bool_byte (ltb (get_or row i 0 % u) x)))
  bits_row (suc n) x h d =
      row_step n x (bits_row n x (λ i l. h i (omega arith)) (λ i j l g. d i j l (omega arith)))
      (bit_row_other ws row u n (get_or row n 0 % u) (λ i l. d i n l (omega arith)) ∙ h n (omega arith))
