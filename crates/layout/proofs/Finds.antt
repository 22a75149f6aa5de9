-- A chunk's word: a turn of the search among overflow ids, and each way to a word. Assumes nothing.
use mathlib.Core.Path.{◌≡◌, refl, sym, ◌∙◌, ap, ap₂}
use mathlib.Core.List.{List}
use mathlib.Core.Bool.{Bool, true, false, cond, not, ◌&&◌}
use Prim.Native.Nat.{ℕ, zero, suc, ◌+◌, ◌-◌, ◌*◌, ◌/◌, ◌≤◌, ◌<◌}
use native.Mathlib.Omega.{arith}
use lib.ListN.{length, get_or}
use lib.Dec.{leb, ltb, eqb}
use borrow.Author.Tests.{lt-ltb, le-ltb, le-leb, lt-leb, leb-true, eq-eqb, ne_eqb, not-true, not-false}
use Rattle.sums.proofs.Rules.{both}
use Rattle.layout.specs.Sizes.{direct_at, over_start, header_at, over_count}
use Rattle.layout.specs.Short.{lower_key, key_at, over_place, over_word, entries_in, direct_word, overflow_word, word_in}
use Rattle.document.specs.Refusals.{not_laid_out}
use Rattle.layout.specs.Found.{Word}
use Rattle.std.specs.Prelude.{Err, Ok}

-- ---- the search

abbrev middle : ℕ → ℕ → ℕ
middle lo hi = lo + (hi - lo) / 2

module _ (key : ℕ → ℕ) (c : ℕ) where
  -- one turn, where a says that lo is below hi and b that the middle key is below c
  turned : ℕ → ℕ → ℕ → Bool → Bool → ℕ
  turned turns lo hi a b = cond a (cond b (lower_key turns key c (middle lo hi + 1) hi) (lower_key turns key c lo (middle lo hi))) lo

  pub lower_up : (turns lo hi : ℕ) → lo < hi → key (middle lo hi) < c → lower_key (suc turns) key c lo hi ≡ lower_key turns key c (middle lo hi + 1) hi
  unfolding lower_key turned
  lower_up turns lo hi l g = ap₂ (turned turns lo hi) (lt-ltb lo hi l) (lt-ltb (key (middle lo hi)) c g)

  pub lower_down : (turns lo hi : ℕ) → lo < hi → c ≤ key (middle lo hi) → lower_key (suc turns) key c lo hi ≡ lower_key turns key c lo (middle lo hi)
  unfolding lower_key turned
  lower_down turns lo hi l g = ap₂ (turned turns lo hi) (lt-ltb lo hi l) (le-ltb (key (middle lo hi)) c g)

  pub lower_end : (turns lo hi : ℕ) → hi ≤ lo → lower_key turns key c lo hi ≡ lo
  unfolding lower_key turned
  lower_end zero lo hi l = refl
  lower_end (suc turns) lo hi l = ap (λ (a : Bool). turned turns lo hi a (ltb (key (middle lo hi)) c)) (le-ltb lo hi l)

-- lo to hi is left, and turns enough
pub record Halving (t : List ℕ) (a n c lo hi : ℕ) : Type 0 where
  pub turns : ℕ
  pub enough : hi - lo ≤ turns
  pub order : lo ≤ hi
  pub inside : hi ≤ n
  pub same : lower_key turns (key_at t a) c lo hi ≡ over_place t a n c

module _ (t : List ℕ) (a n c : ℕ) where
  pub halving_start : Halving t a n c 0 n
  halving_start = record { turns = n; enough = omega arith; order = omega arith; inside = omega arith; same = refl }

  module _ (lo hi v : ℕ) (h : Halving t a n c lo hi) (l : lo < hi) (e : v ≡ key_at t a (middle lo hi)) where
    pub halving_up : v < c → Halving t a n c (middle lo hi + 1) hi
    halving_up g = go h.turns h.enough h.same
      where
        go : (turns : ℕ) → hi - lo ≤ turns → lower_key turns (key_at t a) c lo hi ≡ over_place t a n c → Halving t a n c (middle lo hi + 1) hi
        go zero p q = absurd (omega arith)
        go (suc turns) p q = record {
          turns = turns;
          enough = omega arith;
          order = omega arith;
          inside = h.inside;
          same = sym (lower_up (key_at t a) c turns lo hi l (omega (arith, e))) ∙ q;
        }

    pub halving_down : c ≤ v → Halving t a n c lo (middle lo hi)
    halving_down g = go h.turns h.enough h.same
      where
        go : (turns : ℕ) → hi - lo ≤ turns → lower_key turns (key_at t a) c lo hi ≡ over_place t a n c → Halving t a n c lo (middle lo hi)
        go zero p q = absurd (omega arith)
        go (suc turns) p q = record {
          turns = turns;
          enough = omega arith;
          order = omega arith;
          inside = omega (arith, h.inside);
          same = sym (lower_down (key_at t a) c turns lo hi l (omega (arith, e))) ∙ q;
        }

  pub halving_end : (lo hi : ℕ) → Halving t a n c lo hi → hi ≤ lo → (lo ≡ over_place t a n c) × (lo ≤ n)
  halving_end lo hi h l = (sym (lower_end (key_at t a) c h.turns lo hi l) ∙ h.same, omega (arith, h.order, h.inside))

-- ---- whether the entries lie inside the table

no_and : (a b : Bool) → a ≡ false → (a && b) ≡ false
no_and a b e = ap (λ (x : Bool). x && b) e

and_no : (a b : Bool) → b ≡ false → (a && b) ≡ false
and_no true b e = e
and_no false b e = refl

module _ (t : List ℕ) (d n : ℕ) (e : n ≡ over_count t) where
  abbrev direct_ok : Bool
  direct_ok = leb d 262144

  abbrev over_ok : Bool
  over_ok = leb (over_count t) 65536

  abbrev long_ok : Bool
  long_ok = leb (over_start d + 3 * over_count t) (length t)

  abbrev fits_ok : Bool
  fits_ok = leb (over_count t) (header_at t).v

  pub entries_direct : 262144 < d → entries_in t d ≡ false
  entries_direct l = no_and (direct_ok && over_ok && long_ok) fits_ok (no_and (direct_ok && over_ok) long_ok (no_and direct_ok over_ok (lt-leb d 262144 l)))

  pub entries_over : 65536 < n → entries_in t d ≡ false
  entries_over l =
      no_and (direct_ok && over_ok && long_ok) fits_ok
      (no_and (direct_ok && over_ok) long_ok (and_no direct_ok over_ok (lt-leb (over_count t) 65536 (omega (arith, e)))))

  pub entries_long : length t < over_start d + 3 * n → entries_in t d ≡ false
  entries_long l =
      no_and (direct_ok && over_ok && long_ok) fits_ok
      (and_no (direct_ok && over_ok) long_ok (lt-leb (over_start d + 3 * over_count t) (length t) (omega (arith, e))))

  module _ (v : ℕ) (f : v ≡ (header_at t).v) where
    pub entries_fit : v < n → entries_in t d ≡ false
    entries_fit l = and_no (direct_ok && over_ok && long_ok) fits_ok (lt-leb (over_count t) (header_at t).v (omega (arith, e, f)))

    pub entries_all : d ≤ 262144 → n ≤ 65536 → over_start d + 3 * n ≤ length t → n ≤ v → entries_in t d ≡ true
    entries_all k l m g =
        ap₂ ◌&&◌
        (ap₂ ◌&&◌
        (ap₂ ◌&&◌ (le-leb d 262144 k) (le-leb (over_count t) 65536 (omega (arith, e))))
        (le-leb (over_start d + 3 * over_count t) (length t) (omega (arith, e))))
        (le-leb (over_count t) (header_at t).v (omega (arith, e, f)))

  -- the test as one line
  last_two : Bool → Bool
  last_two b = b && long_ok && fits_ok

  small_is : (b : Bool) → (leb d 262144 && leb n 65536) ≡ b → last_two b ≡ entries_in t d
  unfolding last_two
  small_is b h = ap last_two (sym h ∙ ap (λ (k : ℕ). leb d 262144 && leb k 65536) e)

  pub entries_no : not (leb d 262144 && leb n 65536) ≡ true → false ≡ entries_in t d
  unfolding last_two
  entries_no h = small_is false (not-true _ h)

  module _ (h : not (leb d 262144 && leb n 65536) ≡ false) where
    pub entries_rest : (v : ℕ) → v ≡ (header_at t).v → (leb (over_start d + 3 * n) (length t) && leb n v) ≡ entries_in t d
    unfolding last_two
    entries_rest v f = ap₂ (λ (k i : ℕ). leb (over_start d + 3 * k) (length t) && leb k i) e f ∙ small_is true (not-false _ h)

    pub entries_small : (d ≤ 262144) × (n ≤ 65536)
    entries_small = let a = both (leb d 262144) (leb n 65536) (not-false _ h) in (leb-true d 262144 a.0, leb-true n 65536 a.1)

-- what the test says
pub record EntriesIn (t : List ℕ) (d : ℕ) : Type 0 where
  pub direct : d ≤ 262144
  pub over : over_count t ≤ 65536
  pub fits : over_count t ≤ (header_at t).v
  pub long : over_start d + 3 * over_count t ≤ length t

pub entries_are_in : (t : List ℕ) (d : ℕ) → entries_in t d ≡ true → EntriesIn t d
entries_are_in t d e =
    let n = over_count t in
    let a = both (leb d 262144 && leb n 65536 && leb (over_start d + 3 * n) (length t)) (leb n (header_at t).v) e in
    let b = both (leb d 262144 && leb n 65536) (leb (over_start d + 3 * n) (length t)) a.0 in
    let c = both (leb d 262144) (leb n 65536) b.0 in
    record {
      direct = leb-true d 262144 c.0;
      over = leb-true n 65536 c.1;
      fits = leb-true n (header_at t).v a.1;
      long = leb-true (over_start d + 3 * n) (length t) b.1;
    }

-- ---- the word of an overflow entry

module _ (t : List ℕ) (a n c k : ℕ) where
  by_key : Bool → Bool → ℕ
  by_key b d = cond (b && d) (get_or t (a + 3 * k + 1) 0) 0

  pub word_out : n ≤ k → 0 ≡ over_word t a n c k
  unfolding by_key
  word_out l = ap (λ (b : Bool). by_key b (eqb (key_at t a k) c)) (sym (le-ltb k n l))

  module _ (l : k < n) (v : ℕ) (e : v ≡ key_at t a k) where
    pub word_other : (v ≡ c → ⊥) → 0 ≡ over_word t a n c k
    unfolding by_key
    word_other g = ap₂ by_key (sym (lt-ltb k n l)) (sym (ne_eqb v c g) ∙ ap (λ (i : ℕ). eqb i c) e)

    pub word_own : (w : ℕ) → v ≡ c → w ≡ get_or t (a + 3 * k + 1) 0 → w ≡ over_word t a n c k
    unfolding by_key
    word_own w g f = f ∙ ap₂ by_key (sym (lt-ltb k n l)) (sym (eq-eqb v c g) ∙ ap (λ (i : ℕ). eqb i c) e)

module _ (t : List ℕ) (d c : ℕ) where
  by_test : Bool → Word
  by_test a = cond a (Ok (over_word t (over_start d) (over_count t) c (over_place t (over_start d) (over_count t) c))) (Err not_laid_out)

  pub over_none : entries_in t d ≡ false → (Err not_laid_out) ≡ overflow_word t d c
  unfolding by_test
  over_none g = ap by_test (sym g)

  pub over_found : entries_in t d ≡ true → (n k w : ℕ) → n ≡ over_count t → k ≡ over_place t (over_start d) n c → w ≡ over_word t (over_start d) n c k
      → Ok w ≡ overflow_word t d c
  unfolding by_test
  over_found g n k w en ek ew =
      ap Ok (ew ∙ ap (over_word t (over_start d) n c) ek ∙ ap (λ (j : ℕ). over_word t (over_start d) j c (over_place t (over_start d) j c)) en)
      ∙ ap by_test (sym g)

-- ---- any chunk's word

module _ (t : List ℕ) (c d : ℕ) (e : d ≡ (header_at t).d) where
  pub in_overflow : d ≤ c → (w : Word) → w ≡ overflow_word t d c → w ≡ word_in t c
  unfolding word_in
  in_overflow l w f =
      f ∙ (ap (λ (i : ℕ). overflow_word t i c) e
      ∙ ap (λ (b : Bool). cond b (direct_word t c) (overflow_word t (header_at t).d c)) (sym (le-ltb c (header_at t).d (omega (arith, e)))))

  module _ (l : c < d) where
    direct : direct_word t c ≡ word_in t c
    unfolding word_in
    direct = ap (λ (b : Bool). cond b (direct_word t c) (overflow_word t (header_at t).d c)) (sym (lt-ltb c (header_at t).d (omega (arith, e))))

    pub in_table : direct_at c < length t → Ok (get_or t (direct_at c) 0) ≡ word_in t c
    in_table g = ap (λ (b : Bool). cond b (Ok (get_or t (direct_at c) 0)) (Err not_laid_out)) (sym (lt-ltb (direct_at c) (length t) g)) ∙ direct

    pub past_table : length t ≤ direct_at c → (Err not_laid_out) ≡ word_in t c
    past_table g = ap (λ (b : Bool). cond b (Ok (get_or t (direct_at c) 0)) (Err not_laid_out)) (sym (le-ltb (direct_at c) (length t) g)) ∙ direct
