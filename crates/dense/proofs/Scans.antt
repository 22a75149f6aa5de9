-- What a look at one word shows: its share of a count, and whether a range has a bit. Assumes nothing.
use mathlib.Core.Path.{◌≡◌, refl, sym, ap, ◌∙◌, subst}
use mathlib.Core.Bool.{false, not, ◌||◌}
use mathlib.Core.List.{List, [], ◌∷◌}
use Prim.Native.Nat.{ℕ, ◌+◌, ◌-◌, ◌*◌, ◌/◌, ◌%◌, ◌^◌, ◌≤◌, ◌<◌}
use native.Mathlib.Nat.{zero-mul}
use native.Mathlib.Omega.{arith}
use lib.Count.{ones}
use lib.Dec.{eqb, ltb}
use lib.ListN.{length, get_or, take, drop, length-drop}
use lib.Seq.{length-take-le}
use borrow.Author.Tests.{le-ltb}
use Rattle.std.specs.List.{list_any, sum_by}
use Rattle.std.proofs.lemmas.Nat.{one_shl, zero_from_ones}
use Rattle.std.proofs.lemmas.Bool.Decides.{nat_tests}
use Rattle.std.proofs.lemmas.List.Sums.{sum_by-cons}
use Rattle.dense.specs.Bits.{bits_to, any_in}
use Rattle.dense.proofs.Digits.{ones_zero, shl_low, shl_none}
use Rattle.dense.proofs.Counts.{ones_all, bits_zero, bits_mono, bits_field, bits_low, bits_high}
use Rattle.dense.proofs.Parts.{word_part, bits_part}

-- some word is not 0 exactly if there are ones
words_any : (ws : List ℕ) → list_any (λ w. not (eqb w 0)) ws ≡ ltb 0 (sum_by ones ws)
words_any [] = refl
words_any (w ∷ ws) = grind (arith, nat_tests, sum_by-cons ones w ws, words_any ws, zero_from_ones w, ones_zero)

module _ (ws : List ℕ) where
  -- ---- a count

  -- the words before o's, and the digits of its word below it
  pub bits_below : (o : ℕ) → o / 64 < length ws → bits_to (take (o / 64) ws) (64 * length (take (o / 64) ws)) + ones (get_or ws (o / 64) 0 % (1 * 2 ^ (o % 64) % 2 ^ 64)) ≡ bits_to ws o
  bits_below o h =
      let i = o / 64 in
      let p : 64 * i + o % 64 ≡ o = omega arith in
      let q : 64 * 0 + 64 * i ≡ 64 * i = omega arith in
      let f : length (take i ws) ≡ i = length-take-le i ws (omega arith) in
      let m = ap (λ (x : ℕ). ones (get_or ws i 0 % x)) (one_shl (o % 64) 64 (omega arith)) in
      omega (arith, ap (λ (n : ℕ). bits_to (take i ws) (64 * n)) f, bits_part 0 i ws (64 * i) (omega arith), ap (bits_to ws) q, bits_zero ws, bits_low ws i (o % 64) (omega arith), ap (bits_to ws) p)

  -- ---- words between

  -- one of the words from a up to b is not 0 exactly if they have a bit
  pub any_between : (a b : ℕ) → a ≤ b → b ≤ length ws → ((i : ℕ) → get_or ws i 0 < 2 ^ 64) → list_any (λ w. not (eqb w 0)) (take (b - a) (drop a ws)) ≡ ltb (bits_to ws (64 * a)) (bits_to ws (64 * b))
  any_between a b l m h =
      let k = b - a in
      let part = take k (drop a ws) in
      let e : 64 * a + 64 * k ≡ 64 * b = omega arith in
      let f : length part ≡ k = length-take-le k (drop a ws) (omega (arith, length-drop a ws)) in
      let g : sum_by ones part ≡ bits_to part (64 * length part) = ones_all part (λ i q. subst (λ (w : ℕ). w < 2 ^ 64) (sym (word_part a k ws i (omega arith))) (h (a + i))) in
      words_any part ∙ grind (arith, nat_tests, ap (λ (n : ℕ). bits_to part (64 * n)) f, ap (bits_to ws) e, bits_part a k ws (64 * k) (omega arith))

  -- ---- a range

  tested : (y z a b : ℕ) → b ≡ a + ones z → (y ≡ 0 → z ≡ 0) → (z ≡ 0 → y ≡ 0) → not (eqb y 0) ≡ ltb a b
  tested y z a b e f g = grind (arith, nat_tests, zero_from_ones z, ones_zero)

  -- k digits pushed out at the top leave the low m of 64
  masked : (x m k a b : ℕ) → 64 ≡ m + k → b ≡ a + ones (x % 2 ^ m) → not (eqb (x * 2 ^ k % 2 ^ 64) 0) ≡ ltb a b
  masked x m k a b e p =
      let r : x * 2 ^ k % 2 ^ 64 ≡ x * 2 ^ k % 2 ^ (m + k) = ap (λ (j : ℕ). x * 2 ^ k % 2 ^ j) e in
      tested (x * 2 ^ k % 2 ^ 64) (x % 2 ^ m) a b p
      (λ z. shl_none x m k (sym r ∙ z))
      (λ z. r ∙ (shl_low x m k ∙ (ap (λ (y : ℕ). y * 2 ^ k) z ∙ zero-mul (2 ^ k))))

  pub any_empty : (lo hi : ℕ) → hi < lo → false ≡ any_in ws lo hi
  unfolding any_in
  any_empty lo hi l = sym (le-ltb (bits_to ws lo) (bits_to ws (hi + 1)) (bits_mono ws (hi + 1) lo (omega arith)))

  -- both ends in one word
  pub any_one : (lo hi : ℕ) → lo ≤ hi → lo / 64 ≡ hi / 64 → not (eqb (get_or ws (lo / 64) 0 / 2 ^ (lo % 64) * 2 ^ (63 - (hi - lo)) % 2 ^ 64) 0) ≡ any_in ws lo hi
  unfolding any_in
  any_one lo hi l s =
      let p : 64 * (lo / 64) + lo % 64 ≡ lo = omega arith in
      let q : 64 * (lo / 64) + (lo % 64 + (hi - lo + 1)) ≡ hi + 1 = omega arith in
      masked (get_or ws (lo / 64) 0 / 2 ^ (lo % 64)) (hi - lo + 1) (63 - (hi - lo)) (bits_to ws lo) (bits_to ws (hi + 1)) (omega arith)
      (omega (arith, bits_field ws (lo / 64) (lo % 64) (hi - lo + 1) (omega arith), ap (bits_to ws) p, ap (bits_to ws) q))

  -- the words between those of lo and hi
  abbrev pub between : ℕ → ℕ → List ℕ
  between lo hi = take (hi / 64 - (lo / 64 + 1)) (drop (lo / 64 + 1) ws)

  -- the first word from lo on, the words between, the last up to hi
  pub any_parts : (lo hi : ℕ) → lo / 64 < hi / 64 → hi < 64 * length ws → ((i : ℕ) → get_or ws i 0 < 2 ^ 64)
      → ((not (eqb (get_or ws (lo / 64) 0 / 2 ^ (lo % 64)) 0) || list_any (λ w. not (eqb w 0)) (between lo hi))
      || not (eqb (get_or ws (hi / 64) 0 * 2 ^ (63 - hi % 64) % 2 ^ 64) 0)) ≡ any_in ws lo hi
  unfolding any_in
  any_parts lo hi l r h =
      let i = lo / 64 in
      let j = hi / 64 in
      let y = get_or ws i 0 / 2 ^ (lo % 64) in
      let p : 64 * i + lo % 64 ≡ lo = omega arith in
      let q : 64 * j + (hi % 64 + 1) ≡ hi + 1 = omega arith in
      let first = tested y y (bits_to ws lo) (bits_to ws (64 * (i + 1))) (omega (arith, bits_high ws i (lo % 64) (omega arith) (h i), ap (bits_to ws) p)) (λ e. e) (λ e. e) in
      let between = any_between (i + 1) j (omega arith) (omega arith) h in
      let last = masked (get_or ws j 0) (hi % 64 + 1) (63 - hi % 64) (bits_to ws (64 * j)) (bits_to ws (hi + 1)) (omega arith) (omega (arith, bits_low ws j (hi % 64 + 1) (omega arith), ap (bits_to ws) q)) in
      grind (arith, nat_tests, bits_mono ws lo (64 * (i + 1)) (omega arith), bits_mono ws (64 * (i + 1)) (64 * j) (omega arith), bits_mono ws (64 * j) (hi + 1) (omega arith))
