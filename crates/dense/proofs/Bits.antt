-- Bits of a bit map: where each stands, and which are set after each change. Assumes nothing.
use mathlib.Core.Path.{◌≡◌, refl, sym, ap, ap₂, ◌∙◌}
use mathlib.Core.Logic.{◌⊎◌, inl, inr, ◌≢◌}
use mathlib.Core.Bool.{Bool, true, false}
use mathlib.Core.List.{List, [], ◌∷◌}
use Prim.Native.Nat.{ℕ, zero, suc, ◌+◌, ◌*◌, ◌/◌, ◌%◌, ◌^◌, ◌≤◌, ◌<◌, max}
use native.Mathlib.Nat.{mod-lt, zero-div}
use native.Mathlib.Omega.{arith}
use lib.Bits.{bit_or, or_zero_r}
use lib.Dec.{eqb}
use lib.ListN.{length, get_or, set, replicate, length-set, get_or-eq_default}
use lib.Seq.{set_out, get_or-set_same, get_or-set_other}
use borrow.Author.Tests.{eqb-true, eqb-false, eq-eqb, ne_eqb}
use Rattle.std.proofs.lemmas.Nat.Bits.{bit_at-lt, bit_at_or, bit_at-pow_same, bit_at-pow_other}
use Rattle.sums.specs.Rules.{Decides}
use Rattle.sums.proofs.Sums.{last_or}
use Rattle.dense.specs.Bits.{digit, bit, is_set, with_bit, or_words, with_row}

-- ---- where a bit stands

pub bit_lt : (ws : List ℕ) (o : ℕ) → bit ws o < 2
unfolding bit
bit_lt ws o = bit_at-lt (get_or ws (o / 64) 0) (o % 64)

-- digit b of word i
pub bit_at : (ws : List ℕ) (i b : ℕ) → b < 64 → bit ws (64 * i + b) ≡ digit (get_or ws i 0) b
unfolding bit
bit_at ws i b l =
    let p : (64 * i + b) / 64 ≡ i = omega arith in
    let q : (64 * i + b) % 64 ≡ b = omega arith in
    ap₂ (λ (x y : ℕ). digit (get_or ws x 0) y) p q

pub bit_past : (ws : List ℕ) (o : ℕ) → 64 * length ws ≤ o → bit ws o ≡ 0
unfolding bit
bit_past ws o l = ap (λ (w : ℕ). digit w (o % 64)) (get_or-eq_default ws 0 (omega arith)) ∙ ap (λ (x : ℕ). x % 2) (zero-div (2 ^ (o % 64)))

-- a set bit lies in the words
pub bit_inside : (ws : List ℕ) (o : ℕ) → bit ws o ≡ 1 → o < 64 * length ws
bit_inside ws o e = grind (arith, bit_past ws o)

-- ---- yes or no

pub is_set_one : (ws : List ℕ) (o : ℕ) → is_set ws o ≡ true → bit ws o ≡ 1
unfolding is_set
is_set_one ws o e = eqb-true (bit ws o) 1 e

pub one_is_set : (ws : List ℕ) (o : ℕ) → bit ws o ≡ 1 → is_set ws o ≡ true
unfolding is_set
one_is_set ws o e = eq-eqb (bit ws o) 1 e

pub clear_zero : (ws : List ℕ) (o : ℕ) → is_set ws o ≡ false → bit ws o ≡ 0
unfolding is_set
clear_zero ws o e = let n = eqb-false (bit ws o) 1 e in let l = bit_lt ws o in omega arith

pub zero_clear : (ws : List ℕ) (o : ℕ) → bit ws o ≡ 0 → is_set ws o ≡ false
unfolding is_set
zero_clear ws o e = ne_eqb (bit ws o) 1 (λ h. omega arith)

-- ---- one word changed

module _ (ws : List ℕ) (i v : ℕ) where
  pub bit_set_same : (o : ℕ) → i < length ws → o / 64 ≡ i → bit (set ws i v) o ≡ digit v (o % 64)
  unfolding bit
  bit_set_same o l e = ap (λ (x : ℕ). digit (get_or (set ws i v) x 0) (o % 64)) e ∙ ap (λ (w : ℕ). digit w (o % 64)) (get_or-set_same ws i v 0 l)

  pub bit_set_other : (o : ℕ) → o / 64 ≢ i → bit (set ws i v) o ≡ bit ws o
  unfolding bit
  bit_set_other o d = ap (λ (w : ℕ). digit w (o % 64)) (get_or-set_other ws i (o / 64) v 0 d)

-- ---- one bit set

with_word : (ws : List ℕ) (o j v : ℕ) → j ≢ o → o / 64 < length ws → v ≡ bit_or (get_or ws (o / 64) 0) (2 ^ (o % 64)) → (t : Bool) → eqb (j / 64) (o / 64) ≡ t → bit (set ws (o / 64) v) j ≡ bit ws j
unfolding bit
with_word ws o j v n l p true e =
    let s : j / 64 ≡ o / 64 = eqb-true (j / 64) (o / 64) e in
    let w = get_or ws (o / 64) 0 in
    let z = bit_at-pow_other (o % 64) (j % 64) (λ (h : j % 64 ≡ o % 64). n (omega arith)) in
    let d = bit_at_or w (2 ^ (o % 64)) (j % 64) in
    bit_set_same ws (o / 64) v j l s
    ∙ (ap (λ (x : ℕ). digit x (j % 64)) p
    ∙ ((let m : digit (bit_or w (2 ^ (o % 64))) (j % 64) ≡ digit w (j % 64) = omega arith in m)
    ∙ ap (λ (x : ℕ). digit (get_or ws x 0) (j % 64)) (sym s)))
with_word ws o j v n l p false e = bit_set_other ws (o / 64) v j (eqb-false (j / 64) (o / 64) e)

module _ (ws : List ℕ) (o : ℕ) where
  pub length_with : length (with_bit ws o) ≡ length ws
  unfolding with_bit
  length_with = length-set ws (o / 64) (bit_or (get_or ws (o / 64) 0) (2 ^ (o % 64)))

  -- an offset past the words changes nothing
  pub with_past : 64 * length ws ≤ o → with_bit ws o ≡ ws
  unfolding with_bit
  with_past l = set_out ws (o / 64) (bit_or (get_or ws (o / 64) 0) (2 ^ (o % 64))) (omega arith)

  pub bit_with_same : o < 64 * length ws → bit (with_bit ws o) o ≡ 1
  unfolding with_bit
  bit_with_same l =
      let v = bit_or (get_or ws (o / 64) 0) (2 ^ (o % 64)) in
      let d = bit_at_or (get_or ws (o / 64) 0) (2 ^ (o % 64)) (o % 64) in
      let a = bit_at-lt (get_or ws (o / 64) 0) (o % 64) in
      let p = bit_at-pow_same (o % 64) in
      bit_set_same ws (o / 64) v o (omega arith) refl ∙ (omega arith)

  with_inside : (j : ℕ) → j ≢ o → o < 64 * length ws → bit (with_bit ws o) j ≡ bit ws j
  unfolding with_bit
  with_inside j n l = with_word ws o j (bit_or (get_or ws (o / 64) 0) (2 ^ (o % 64))) n (omega arith) refl (eqb (j / 64) (o / 64)) refl

  pub bit_with_other : (j : ℕ) → j ≢ o → bit (with_bit ws o) j ≡ bit ws j
  bit_with_other j n = grind (arith, with_inside j n, with_past)

  -- no bit is lost
  pub bit_with_kept : (j : ℕ) → bit ws j ≡ 1 → bit (with_bit ws o) j ≡ 1
  bit_with_kept j e = grind (arith, bit_inside ws j, bit_with_same, bit_with_other j)

-- ---- a union

pub length_or : (xs ys : List ℕ) → length (or_words xs ys) ≡ length xs
unfolding or_words
length_or [] ys = refl
length_or (x ∷ xs) [] = refl
length_or (x ∷ xs) (y ∷ ys) = ap suc (length_or xs ys)

pub get_d_or : (xs ys : List ℕ) (i : ℕ) → i < length xs → get_or (or_words xs ys) i 0 ≡ bit_or (get_or xs i 0) (get_or ys i 0)
unfolding or_words
get_d_or [] ys i l = absurd (omega arith)
get_d_or (x ∷ xs) [] i l = sym (or_zero_r (get_or (x ∷ xs) i 0))
get_d_or (x ∷ xs) (y ∷ ys) zero l = refl
get_d_or (x ∷ xs) (y ∷ ys) (suc i) l = get_d_or xs ys i (omega arith)

-- set exactly where either was
pub bit_or_law : (xs ys : List ℕ) (o : ℕ) → o < 64 * length xs → bit (or_words xs ys) o ≡ max (bit xs o) (bit ys o)
unfolding bit
bit_or_law xs ys o l = ap (λ (w : ℕ). digit w (o % 64)) (get_d_or xs ys (o / 64) (omega arith)) ∙ bit_at_or (get_or xs (o / 64) 0) (get_or ys (o / 64) 0) (o % 64)

-- ---- nothing set

get_d_zeros : (n i : ℕ) → ◌≡◌ {A = ℕ} (get_or (replicate n 0) i 0) 0
get_d_zeros zero i = refl
get_d_zeros (suc n) zero = refl
get_d_zeros (suc n) (suc i) = get_d_zeros n i

pub bit_zeros : (n o : ℕ) → bit (replicate n 0) o ≡ 0
unfolding bit
bit_zeros n o = ap (λ (w : ℕ). digit w (o % 64)) (get_d_zeros n (o / 64)) ∙ ap (λ (x : ℕ). x % 2) (zero-div (2 ^ (o % 64)))

-- ---- a row's bits set

module _ (ws row : List ℕ) (u : ℕ) where
  pub length_row : (n : ℕ) → length (with_row ws row u n) ≡ length ws
  unfolding with_row
  length_row zero = refl
  length_row (suc n) = length_with (with_row ws row u n) (get_or row n 0 % u) ∙ length_row n

  pub bit_row_kept : (n j : ℕ) → bit ws j ≡ 1 → bit (with_row ws row u n) j ≡ 1
  unfolding with_row
  bit_row_kept zero j e = e
  bit_row_kept (suc n) j e = bit_with_kept (with_row ws row u n) (get_or row n 0 % u) j (bit_row_kept n j e)

  pub bit_row_other : (n j : ℕ) → ((i : ℕ) → i < n → j ≢ get_or row i 0 % u) → bit (with_row ws row u n) j ≡ bit ws j
  unfolding with_row
  bit_row_other zero j h = refl
  bit_row_other (suc n) j h = bit_with_other (with_row ws row u n) (get_or row n 0 % u) j (h n (omega arith)) ∙ bit_row_other n j (λ i l. h i (omega arith))

  module _ (fits : u ≤ 64 * length ws) (some : 0 < u) where
    inside : (n i : ℕ) → get_or row i 0 % u < 64 * length (with_row ws row u n)
    inside n i = let l = mod-lt (get_or row i 0) some in omega (arith, length_row n)

    new : (n i : ℕ) → (i < n) ⊎ (i ≡ n) → (i < n → bit (with_row ws row u n) (get_or row i 0 % u) ≡ 1) → bit (with_bit (with_row ws row u n) (get_or row n 0 % u)) (get_or row i 0 % u) ≡ 1
    new n i (inl m) r = bit_with_kept (with_row ws row u n) (get_or row n 0 % u) (get_or row i 0 % u) (r m)
    new n i (inr e) r = ap (λ (k : ℕ). bit (with_bit (with_row ws row u n) (get_or row n 0 % u)) (get_or row k 0 % u)) e ∙ bit_with_same (with_row ws row u n) (get_or row n 0 % u) (inside n n)

    pub bit_row_new : (n i : ℕ) → i < n → bit (with_row ws row u n) (get_or row i 0 % u) ≡ 1
    unfolding with_row
    bit_row_new zero i l = absurd (omega arith)
    bit_row_new (suc n) i l = new n i (last_or i n l) (bit_row_new n i)

    abbrev Either : ℕ → ℕ → Type 0
    Either n o = (bit ws o ≡ 1) ⊎ ((i : ℕ) × (i < n) × (get_or row i 0 % u ≡ o))

    only : (n o : ℕ) → (t : Bool) → eqb o (get_or row n 0 % u) ≡ t → bit (with_bit (with_row ws row u n) (get_or row n 0 % u)) o ≡ 1 → (bit (with_row ws row u n) o ≡ 1 → Either n o) → Either (suc n) o
    only n o true h e r = inr (n, omega arith, sym (eqb-true o (get_or row n 0 % u) h))
    only n o false h e r = more (r (sym (bit_with_other (with_row ws row u n) (get_or row n 0 % u) o (eqb-false o (get_or row n 0 % u) h)) ∙ e))
      where
        more : Either n o → Either (suc n) o
        more (inl p) = inl p
        more (inr q) = inr (q.0, (let l = q.1 in omega arith), q.2)

    pub bit_row_only : (n o : ℕ) → bit (with_row ws row u n) o ≡ 1 → (bit ws o ≡ 1) ⊎ ((i : ℕ) × (i < n) × (get_or row i 0 % u ≡ o))
    unfolding with_row
    bit_row_only zero o e = inl e
    bit_row_only (suc n) o e = only n o (eqb o (get_or row n 0 % u)) refl e (bit_row_only n o)

    back : (n o : ℕ) → Either n o → bit (with_row ws row u n) o ≡ 1
    back n o (inl p) = bit_row_kept n o p
    back n o (inr q) = ap (bit (with_row ws row u n)) (sym q.2) ∙ bit_row_new n q.0 q.1

    -- set after exactly if it was set, or is one of the offsets
    pub row_decides : (n o : ℕ) → Decides (is_set (with_row ws row u n) o) ((bit ws o ≡ 1) ⊎ ((i : ℕ) × (i < n) × (get_or row i 0 % u ≡ o)))
    row_decides n o = record {
      sound = λ h. bit_row_only n o (is_set_one (with_row ws row u n) o h);
      whole = λ e. one_is_set (with_row ws row u n) o (back n o e);
    }
