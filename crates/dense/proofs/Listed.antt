-- Set bits as ids, word by word: a turn of each loop that writes them. Assumes nothing.
use mathlib.Core.Path.{◌≡◌, refl, sym, ap, ap₂, ◌∙◌}
use mathlib.Core.Bool.{Bool, true, false, cond}
use mathlib.Core.List.{List, [], ◌∷◌, ◌++◌}
use Prim.Native.Nat.{ℕ, zero, suc, ◌+◌, ◌-◌, ◌*◌, ◌/◌, ◌%◌, ◌^◌, ◌≤◌, ◌<◌}
use native.Mathlib.Nat.{zero-div}
use native.Mathlib.Omega.{arith}
use lib.Bits.{bit_and}
use lib.Count.{count_trailing_zeros}
use lib.Dec.{eqb, ltb}
use lib.IntN.{ℤ}
use lib.ListN.{length, get_or, set}
use mir.Syntax.{w64}
use mir.Val.{to_z}
use mir.Facts.{to_z_pos}
use borrow.Author.Tests.{ltb-true, ltb-false}
use Rattle.sums.specs.Ids.{Ids}
use Rattle.sums.specs.Members.{members_in, plus, fill, fill_to}
use Rattle.sums.proofs.Filling.{members_yes, members_no, Left, left_start, left_same, left_put, left_then, left_none}
use Rattle.dense.specs.Bits.{digit, bit, is_set}
use Rattle.dense.proofs.Bits.{bit_at, one_is_set, zero_clear}
use Rattle.dense.proofs.Lowest.{lowest_lt, lowest_one, lowest_none, cleared_low, cleared_here, cleared_high, kept_low, kept_high}

-- ---- members of a run of ids

-- a run that starts with ids that are none
members_skip : (P : Ids) (k a n : ℕ) → ((j : ℕ) → a ≤ j → j < a + k → P j ≡ false) → members_in P a (k + n) ≡ members_in P (a + k) n
members_skip P zero a n h = let e : a ≡ a + 0 = omega arith in ap₂ (members_in P) e (let f : 0 + n ≡ n = omega arith in f)
members_skip P (suc k) a n h =
    let e : suc k + n ≡ suc (k + n) = omega arith in
    let f : suc a + k ≡ a + suc k = omega arith in
    ap (members_in P a) e
    ∙ (members_no P a (k + n) (h a (omega arith) (omega arith))
    ∙ (members_skip P k (suc a) n (λ j l g. h j (omega arith) (omega arith)) ∙ ap (λ (b : ℕ). members_in P b n) f))

members_split : (P : Ids) (k a n : ℕ) → members_in P a (k + n) ≡ members_in P a k ++ members_in P (a + k) n
unfolding members_in
members_split P zero a n = let e : a ≡ a + 0 = omega arith in ap₂ (members_in P) e (let f : 0 + n ≡ n = omega arith in f)
members_split P (suc k) a n =
    let e : suc k + n ≡ suc (k + n) = omega arith in
    let f : suc a + k ≡ a + suc k = omega arith in
    ap (members_in P a) e
    ∙ (ap (λ (l : List ℕ). cond (P a) (a ∷ l) l) (members_split P k (suc a) n ∙ ap (λ (b : ℕ). members_in P (suc a) k ++ members_in P b n) f) ∙ go (P a))
  where
    go : (b : Bool) → cond b (a ∷ (members_in P (suc a) k ++ members_in P (a + suc k) n)) (members_in P (suc a) k ++ members_in P (a + suc k) n) ≡ cond b (a ∷ members_in P (suc a) k) (members_in P (suc a) k) ++ members_in P (a + suc k) n
    go true = refl
    go false = refl

-- the same members, counted from d on
members_shift : (P Q : Ids) (b d n a : ℕ) → ((j : ℕ) → a ≤ j → j < a + n → Q j ≡ P (d + j)) → plus (b + d) (members_in Q a n) ≡ plus b (members_in P (d + a) n)
unfolding members_in plus
members_shift P Q b d zero a h = refl
members_shift P Q b d (suc n) a h =
    let f : d + suc a ≡ suc (d + a) = omega arith in
    ap (λ (t : Bool). plus (b + d) (cond t (a ∷ members_in Q (suc a) n) (members_in Q (suc a) n))) (h a (omega arith) (omega arith))
    ∙ go (P (d + a)) (members_shift P Q b d n (suc a) (λ j l g. h j (omega arith) (omega arith)) ∙ ap (λ (x : ℕ). plus b (members_in P x n)) f)
  where
    go : (t : Bool) → plus (b + d) (members_in Q (suc a) n) ≡ plus b (members_in P (suc (d + a)) n) → plus (b + d) (cond t (a ∷ members_in Q (suc a) n) (members_in Q (suc a) n)) ≡ plus b (cond t ((d + a) ∷ members_in P (suc (d + a)) n) (members_in P (suc (d + a)) n))
    go true e = let f : b + d + a ≡ b + (d + a) = omega arith in ap₂ ◌∷◌ f e
    go false e = e

members_ext : (P Q : Ids) (n a : ℕ) → ((j : ℕ) → a ≤ j → j < a + n → P j ≡ Q j) → members_in P a n ≡ members_in Q a n
unfolding members_in
members_ext P Q zero a h = refl
members_ext P Q (suc n) a h = ap₂ (λ (t : Bool) (l : List ℕ). cond t (a ∷ l) l) (h a (omega arith) (omega arith)) (members_ext P Q n (suc a) (λ j l g. h j (omega arith) (omega arith)))

plus_append : (b : ℕ) (xs ys : List ℕ) → plus b (xs ++ ys) ≡ plus b xs ++ plus b ys
unfolding plus
plus_append b [] ys = refl
plus_append b (x ∷ xs) ys = ap (λ (l : List ℕ). (b + x) ∷ l) (plus_append b xs ys)

-- ---- one word

-- its set bits
abbrev pub set_bits : ℕ → List ℕ
set_bits w = members_in (is_set (w ∷ [])) 0 64

bit_word : (w b : ℕ) → b < 64 → bit (w ∷ []) b ≡ digit w b
bit_word w b l = let e : b ≡ 64 * 0 + b = omega arith in ap (bit (w ∷ [])) e ∙ bit_at (w ∷ []) 0 b l

word_set : (w b : ℕ) → b < 64 → digit w b ≡ 1 → is_set (w ∷ []) b ≡ true
word_set w b l e = one_is_set (w ∷ []) b (bit_word w b l ∙ e)

word_clear : (w b : ℕ) → b < 64 → digit w b ≡ 0 → is_set (w ∷ []) b ≡ false
word_clear w b l e = zero_clear (w ∷ []) b (bit_word w b l ∙ e)

-- bits are the same where digits are
same_set : (v w : List ℕ) (a b : ℕ) → bit v a ≡ bit w b → is_set v a ≡ is_set w b
unfolding is_set
same_set v w a b e = ap (λ (x : ℕ). eqb x 1) e

bits_none : set_bits 0 ≡ []
unfolding members_in
bits_none = members_skip (is_set (0 ∷ [])) 64 0 0 (λ j l g. word_clear 0 j (omega arith) (ap (λ (x : ℕ). x % 2) (zero-div (2 ^ j))))

-- the lowest, then those of the word without it
bits_next : (w : ℕ) → 0 < w → w < 2 ^ 64 → set_bits w ≡ count_trailing_zeros 64 w ∷ set_bits (bit_and w (w - 1))
bits_next w some fits =
    let t = count_trailing_zeros 64 w in
    let v = bit_and w (w - 1) in
    let l = lowest_lt w some fits in
    let n = 63 - t in
    let e : 64 ≡ t + suc n = omega arith in
    let f : 64 ≡ suc t + n = omega arith in
    let z : 0 + t ≡ t = omega arith in
    let y : 0 + suc t ≡ suc t = omega arith in
    ap (members_in (is_set (w ∷ [])) 0) e
    ∙ (members_skip (is_set (w ∷ [])) t 0 (suc n) (λ j a b. word_clear w j (omega arith) (lowest_none w some fits j (omega arith)))
    ∙ (ap (λ (x : ℕ). members_in (is_set (w ∷ [])) x (suc n)) z
    ∙ (members_yes (is_set (w ∷ [])) t n (word_set w t l (lowest_one w some fits))
    ∙ ap (λ (r : List ℕ). t ∷ r)
    (members_ext (is_set (w ∷ [])) (is_set (v ∷ [])) n (suc t) (λ j a b. same_set (w ∷ []) (v ∷ []) j j (bit_word w j (omega arith) ∙ (sym (high j a) ∙ sym (bit_word v j (omega arith)))))
    ∙ sym (ap (members_in (is_set (v ∷ [])) 0) f
    ∙ (members_skip (is_set (v ∷ [])) (suc t) 0 n (λ j a b. word_clear v j (omega arith) (low j (ltb j t) refl (omega arith))) ∙ ap (λ (x : ℕ). members_in (is_set (v ∷ [])) x n) y))))))
  where
    low : (j : ℕ) (b : Bool) → ltb j (count_trailing_zeros 64 w) ≡ b → j < suc (count_trailing_zeros 64 w) → digit (bit_and w (w - 1)) j ≡ 0
    low j true e l = cleared_low w some fits j (ltb-true j (count_trailing_zeros 64 w) e)
    low j false e l = let m = ltb-false j (count_trailing_zeros 64 w) e in let s : j ≡ count_trailing_zeros 64 w = omega arith in ap (digit (bit_and w (w - 1))) s ∙ cleared_here w some fits

    high : (j : ℕ) → suc (count_trailing_zeros 64 w) ≤ j → digit (bit_and w (w - 1)) j ≡ digit w j
    high j l =
        let d = j - suc (count_trailing_zeros 64 w) in
        let s : j ≡ count_trailing_zeros 64 w + (1 + d) = omega arith in
        ap (digit (bit_and w (w - 1))) s ∙ (cleared_high w some fits d ∙ ap (digit w) (sym s))

-- the lowest of the bits that are left is written
pub bit_turn : (first : List ℤ) (k : ℕ) (all : List ℕ) (out : List ℤ) (n at rest t : ℕ) → Left first k all out n (plus at (set_bits rest))
    → t ≡ count_trailing_zeros 64 rest → (rest ≡ 0 → ⊥) → rest < 2 ^ 64 → at + 64 ≤ 2 ^ 63 → n < length out
    → Left first k all (set out n (to_z w64 (at + t))) (n + 1) (plus at (set_bits (bit_and rest (rest - 1))))
unfolding plus
bit_turn first k all out n at rest t h e d f g l =
    let b = lowest_lt rest (omega arith) f in
    let s : plus at (set_bits rest) ≡ (at + t) ∷ plus at (set_bits (bit_and rest (rest - 1))) =
    ap (plus at) (bits_next rest (omega arith) f) ∙ ap (λ (x : ℕ). (at + x) ∷ plus at (set_bits (bit_and rest (rest - 1)))) (sym e) in
    rw (to_z_pos w64 {n = at + t} (omega arith)) (left_put first k all out n (at + t) _ (left_same first k all out n _ _ h s) l)

-- no bit is left
pub bit_end : (first : List ℤ) (k : ℕ) (all : List ℕ) (out : List ℤ) (n at rest : ℕ) → Left first k all out n (plus at (set_bits rest)) → rest ≡ 0 → (out ≡ fill first k all) × (n ≡ fill_to first k all)
unfolding plus
bit_end first k all out n at rest h e = left_none first k all out n (left_same first k all out n _ _ h (ap (λ (r : ℕ). plus at (set_bits r)) e ∙ ap (plus at) bits_none))

-- ---- words

-- the ids of offsets from o on
abbrev pub asked : List ℕ → ℕ → ℕ → List ℕ
asked ws base o = plus base (members_in (is_set ws) o (64 * length ws - o))

asked_past : (ws : List ℕ) (base o : ℕ) → 64 * length ws ≤ o → asked ws base o ≡ []
unfolding members_in plus
asked_past ws base o l = let e : 64 * length ws - o ≡ 0 = omega arith in ap (λ (n : ℕ). plus base (members_in (is_set ws) o n)) e

-- x is word i without its bits below o
asked_word : (ws : List ℕ) (base i o x : ℕ) → i < length ws → 64 * i ≤ o → o ≤ 64 * i + 64 → ((j : ℕ) → j < 64 → 64 * i + j < o → digit x j ≡ 0)
    → ((j : ℕ) → j < 64 → o ≤ 64 * i + j → digit x j ≡ digit (get_or ws i 0) j) → asked ws base o ≡ plus (base + i * 64) (set_bits x) ++ asked ws base (64 * (i + 1))
asked_word ws base i o x l lo hi low high =
    let d = o - 64 * i in
    let n = 64 - d in
    let m = 64 * length ws - 64 * (i + 1) in
    let e : 64 * length ws - o ≡ n + m = omega arith in
    let f : o + n ≡ 64 * (i + 1) = omega arith in
    let g : 64 ≡ d + n = omega arith in
    let y : 0 + d ≡ d = omega arith in
    let z : 64 * i + d ≡ o = omega arith in
    let u : base + i * 64 ≡ base + 64 * i = omega arith in
    let word : plus (base + i * 64) (set_bits x) ≡ plus base (members_in (is_set ws) o n) =
    ap₂ (λ (b c : ℕ). plus b (members_in (is_set (x ∷ [])) 0 c)) u g
    ∙ (ap (plus (base + 64 * i))
    (members_skip (is_set (x ∷ [])) d 0 n (λ j a b. word_clear x j (omega arith) (low j (omega arith) (omega arith))) ∙ ap (λ (c : ℕ). members_in (is_set (x ∷ [])) c n) y)
    ∙ (members_shift (is_set ws) (is_set (x ∷ [])) base (64 * i) n d
    (λ j a b. same_set (x ∷ []) ws j (64 * i + j) (bit_word x j (omega arith) ∙ (high j (omega arith) (omega arith) ∙ sym (bit_at ws i j (omega arith)))))
    ∙ ap (λ (c : ℕ). plus base (members_in (is_set ws) c n)) z)) in
    ap (λ (c : ℕ). plus base (members_in (is_set ws) o c)) e
    ∙ (ap (plus base) (members_split (is_set ws) n o m)
    ∙ (plus_append base (members_in (is_set ws) o n) (members_in (is_set ws) (o + n) m)
    ∙ ap₂ ◌++◌ (sym word) (ap (λ (c : ℕ). plus base (members_in (is_set ws) c m)) f)))

-- nothing to write
pub asked_outside : (ws : List ℕ) (base from : ℕ) (out : List ℤ) (k : ℕ) → length ws ≤ from / 64 → k ≤ length out → (out ≡ fill out k (asked ws base from)) × (k ≡ fill_to out k (asked ws base from))
asked_outside ws base from out k l r =
    left_none out k (asked ws base from) out k (left_same out k (asked ws base from) out k _ _ (left_start out k (asked ws base from) r) (asked_past ws base from (omega arith)))

-- the word that an offset stands in, without its bits below
abbrev pub above : List ℕ → ℕ → ℕ
above ws o = get_or ws (o / 64) 0 / 2 ^ (o % 64) * 2 ^ (o % 64) % 2 ^ 64

pub asked_first : (ws : List ℕ) (base from : ℕ) (first : List ℤ) (k : ℕ) (out : List ℤ) (n : ℕ) → from / 64 < length ws → get_or ws (from / 64) 0 < 2 ^ 64 → k ≤ length first
    → (out ≡ fill first k (plus (base + from / 64 * 64) (set_bits (above ws from)))) × (n ≡ fill_to first k (plus (base + from / 64 * 64) (set_bits (above ws from))))
    → Left first k (asked ws base from) out n (asked ws base (64 * (from / 64 + 1)))
asked_first ws base from first k out n l f r h =
    left_then first k (asked ws base from) first k (plus (base + from / 64 * 64) (set_bits (above ws from))) (asked ws base (64 * (from / 64 + 1))) out n
    (left_same first k (asked ws base from) first k _ _ (left_start first k (asked ws base from) r)
    (asked_word ws base (from / 64) from (above ws from) l (omega arith) (omega arith) (λ j a b. kept_low (get_or ws (from / 64) 0) (from % 64) f j (omega arith)) high))
    h.0 h.1
  where
    high : (j : ℕ) → j < 64 → from ≤ 64 * (from / 64) + j → digit (above ws from) j ≡ digit (get_or ws (from / 64) 0) j
    high j a b =
        let d = j - from % 64 in
        let e : j ≡ from % 64 + d = omega arith in
        ap (digit (above ws from)) e ∙ (kept_high (get_or ws (from / 64) 0) (from % 64) f d ∙ ap (digit (get_or ws (from / 64) 0)) (sym e))

module _ (ws : List ℕ) (base : ℕ) (first : List ℤ) (k : ℕ) (all : List ℕ) (out : List ℤ) (n i : ℕ) (h : Left first k all out n (asked ws base (64 * i))) where
  pub asked_turn : (next : List ℤ) (m : ℕ) → i < length ws
      → (next ≡ fill out n (plus (base + i * 64) (set_bits (get_or ws i 0)))) × (m ≡ fill_to out n (plus (base + i * 64) (set_bits (get_or ws i 0))))
      → Left first k all next m (asked ws base (64 * (i + 1)))
  asked_turn next m l g =
      left_then first k all out n (plus (base + i * 64) (set_bits (get_or ws i 0))) (asked ws base (64 * (i + 1))) next m
      (left_same first k all out n _ _ h (asked_word ws base i (64 * i) (get_or ws i 0) l (omega arith) (omega arith) (λ j u v. absurd (omega arith)) (λ j u v. refl)))
      g.0 g.1

  pub asked_end : length ws ≤ i → (out ≡ fill first k all) × (n ≡ fill_to first k all)
  asked_end l = left_none first k all out n (left_same first k all out n _ _ h (asked_past ws base (64 * i) (omega arith)))
