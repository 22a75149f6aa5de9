-- Laws of lines: what the reader keeps of a line decides what the line says. Assumes nothing.
use mathlib.Core.Path.{◌≡◌, refl, sym, ◌∙◌, ap}
use mathlib.Core.Bool.{Bool, true, false, cond, ◌&&◌}
use mathlib.Core.List.{List, [], ◌∷◌, ◌++◌}
use Prim.Native.Nat.{ℕ, suc, ◌+◌, ◌-◌, ◌*◌, ◌^◌, ◌≤◌, ◌<◌}
use native.Mathlib.Omega.{arith}
use lib.Dec.{leb, ltb, eqb}
use lib.ListN.{length}
use Rattle.sums.proofs.Rules.{both}
use borrow.Author.Tests.{leb-true, ltb-true, eqb-true, le-leb, lt-ltb}
use Rattle.std.specs.Prelude.{Some, None}
use Rattle.lines.specs.Line.{is_digit, all_digits, value_from, size_line, positive, negative, id_line}
use Rattle.lines.specs.Reader.{digit_on, next, read_from, line_of, empty_in, size_in, within, signed_by, id_in}
use Rattle.lines.specs.declared.Line.{Line}
use Rattle.lines.specs.declared.Line.TheVariants.{Empty, Digits, Bad}

-- ---- by what is kept

pub by_kept : {K A : Type 0} (f : K → A) {l k : K} {r : A} → l ≡ k → r ≡ f k → r ≡ f l
by_kept f p e = e ∙ ap f (sym p)

-- ---- one byte more, at the end

read_snoc : (l : Line) (bs : List ℕ) (b : ℕ) → read_from l (bs ++ (b ∷ [])) ≡ next (read_from l bs) b
unfolding read_from
read_snoc l [] b = refl
read_snoc l (a ∷ bs) b = read_snoc (next l a) bs b

-- what feeding a byte does to a line
pub line_snoc : (bs : List ℕ) (b : ℕ) → line_of (bs ++ (b ∷ [])) ≡ next (line_of bs) b
unfolding line_of
line_snoc bs b = read_snoc Empty bs b

-- ---- a line with digits in it, to its end

value_grows : (v : ℕ) (bs : List ℕ) → v ≤ value_from v bs
unfolding value_from
value_grows v [] = omega arith
value_grows v (b ∷ bs) = omega (arith, value_grows (v * 10 + (b - 48)) bs)

bad_stays : (bs : List ℕ) → read_from Bad bs ≡ Bad
unfolding read_from next
bad_stays [] = refl
bad_stays (b ∷ bs) = bad_stays bs

-- what holds only where y does
no_more : (x y : Bool) → (x ≡ true → y ≡ true) → y ≡ false → x ≡ false
no_more true y h n = sym (h refl) ∙ n
no_more false y h n = refl

-- digits and number after all bytes
abbrev ended_by : Bool → Bool → ℕ → ℕ → Line
ended_by m a k w = cond (a && (leb k 20 && ltb w (2 ^ 64))) (Digits m k w) Bad

abbrev ended : Bool → ℕ → ℕ → List ℕ → Line
ended m n v bs = ended_by m (all_digits bs) (n + length bs) (value_from v bs)

module _ (m : Bool) (n v b : ℕ) (bs : List ℕ) where
  abbrev w : ℕ
  w = v * 10 + (b - 48)

  fits_before : ((is_digit b && all_digits bs) && (leb (n + suc (length bs)) 20 && ltb (value_from w bs) (2 ^ 64))) ≡ true → (is_digit b && (ltb n 20 && ltb w (2 ^ 64))) ≡ true
  fits_before h =
      let p = both (is_digit b && all_digits bs) _ h in
      let q = both (leb (n + suc (length bs)) 20) _ p.1 in
      let few : n < 20 = omega (arith, leb-true (n + suc (length bs)) 20 q.0) in
      let low : w < 2 ^ 64 = omega (arith, ltb-true (value_from w bs) (2 ^ 64) q.1, value_grows w bs) in
      rw ((both (is_digit b) (all_digits bs) p.0).0, lt-ltb n 20 few, lt-ltb w (2 ^ 64) low)

  step_no : (is_digit b && (ltb n 20 && ltb w (2 ^ 64))) ≡ false → read_from Bad bs ≡ ended m n v (b ∷ bs)
  unfolding all_digits value_from
  step_no h = bad_stays bs ∙ sym (ap (λ (t : Bool). cond t (Digits m (n + suc (length bs)) (value_from w bs)) Bad) (no_more _ _ fits_before h))

  step_yes : (is_digit b && (ltb n 20 && ltb w (2 ^ 64))) ≡ true → read_from (Digits m (n + 1) w) bs ≡ ended m (n + 1) w bs → read_from (Digits m (n + 1) w) bs ≡ ended m n v (b ∷ bs)
  unfolding all_digits value_from
  step_yes h e =
      let k : n + 1 + length bs ≡ n + suc (length bs) = omega arith in
      let d : is_digit b ≡ true = (both (is_digit b) _ h).0 in
      e ∙ ap (λ (j : ℕ). ended_by m (all_digits bs) j (value_from w bs)) k ∙ ap (λ (t : Bool). ended_by m (t && all_digits bs) (n + suc (length bs)) (value_from w bs)) (sym d)

  step_by : (t : Bool) → (is_digit b && (ltb n 20 && ltb w (2 ^ 64))) ≡ t → (n + 1 ≤ 20 → w < 2 ^ 64 → read_from (Digits m (n + 1) w) bs ≡ ended m (n + 1) w bs) → read_from (cond t (Digits m (n + 1) w) Bad) bs ≡ ended m n v (b ∷ bs)
  step_by true h rest =
      let p = both (is_digit b) _ h in
      let q = both (ltb n 20) _ p.1 in
      let few : n < 20 = ltb-true n 20 q.0 in
      step_yes h (rest (omega arith) (ltb-true w (2 ^ 64) q.1))
  step_by false h rest = step_no h

read_ended : (m : Bool) (n v : ℕ) (bs : List ℕ) → n ≤ 20 → v < 2 ^ 64 → read_from (Digits m n v) bs ≡ ended m n v bs
unfolding read_from next digit_on all_digits value_from
read_ended m n v [] h k =
    let e : n + 0 ≡ n = omega arith in
    sym (rw (e, le-leb n 20 h, lt-ltb v (2 ^ 64) k))
read_ended m n v (b ∷ bs) h k = step_by m n v b bs _ refl (λ f l. read_ended m (n + 1) (v * 10 + (b - 48)) bs f l)

-- ---- the first byte

module _ {A : Type 0} (f : Line → A) (g : List ℕ → A) (b : ℕ) (bs : List ℕ) where
  -- a line that begins with a minus, and one that does not
  by_first : (t : Bool) → eqb b 45 ≡ t → (eqb b 45 ≡ true → f (ended true 0 0 bs) ≡ g (b ∷ bs)) → (eqb b 45 ≡ false → f (ended false 0 0 (b ∷ bs)) ≡ g (b ∷ bs)) → f (read_from (cond t (Digits true 0 0) (digit_on false 0 0 b)) bs) ≡ g (b ∷ bs)
  unfolding read_from next
  by_first true h p q = ap f (read_ended true 0 0 bs (omega arith) (omega arith)) ∙ p h
  by_first false h p q = ap f (read_ended false 0 0 (b ∷ bs) (omega arith) (omega arith)) ∙ q h

-- ---- S

size_minus : (t : Bool) (k w : ℕ) → size_in (cond t (Digits true k w) Bad) ≡ None
size_minus true k w = refl
size_minus false k w = refl

size_plain : (t : Bool) (k w : ℕ) → size_in (cond t (Digits false k w) Bad) ≡ cond t (Some w) None
size_plain true k w = refl
size_plain false k w = refl

-- a minus is no digit
minus_no : (b : ℕ) (bs : List ℕ) → eqb b 45 ≡ true → all_digits (b ∷ bs) ≡ false
unfolding all_digits
minus_no b bs h = rw (eqb-true b 45 h)

size_after_minus : (b : ℕ) (bs : List ℕ) → eqb b 45 ≡ true → size_in (ended true 0 0 bs) ≡ size_line (b ∷ bs)
unfolding size_line
size_after_minus b bs h =
    size_minus (all_digits bs && (leb (0 + length bs) 20 && ltb (value_from 0 bs) (2 ^ 64))) (0 + length bs) (value_from 0 bs)
    ∙ sym (rw (minus_no b bs h))

size_digits : (bs : List ℕ) → leb 1 (length bs) ≡ true → size_in (ended false 0 0 bs) ≡ size_line bs
unfolding size_line
size_digits bs h =
    let z : 0 + length bs ≡ length bs = omega arith in
    size_plain (all_digits bs && (leb (0 + length bs) 20 && ltb (value_from 0 bs) (2 ^ 64))) (0 + length bs) (value_from 0 bs)
    ∙ rw (z, h)

size_none : None ≡ size_line []
unfolding size_line all_digits value_from
size_none = refl

-- what is kept of a line decides its number
pub size_says : (bs : List ℕ) → size_in (line_of bs) ≡ size_line bs
unfolding line_of read_from next
size_says [] = size_none
size_says (b ∷ bs) = by_first size_in size_line b bs _ refl (size_after_minus b bs) (λ h. size_digits (b ∷ bs) (le-leb 1 (suc (length bs)) (omega arith)))

-- ---- an id

id_under : (m : Bool) (k w : ℕ) (p q : Bool) → (q ≡ true → p ≡ true) → (leb 1 k && (leb k 19 && within m w)) ≡ q → id_in (cond p (Digits m k w) Bad) ≡ cond q (Some (signed_by m w)) None
id_under m k w true q h e = ap (λ (t : Bool). cond t (Some (signed_by m w)) None) e
id_under m k w false true h e = absurd (let z : false ≡ true = h refl in cc)
id_under m k w false false h e = refl

within_low : (m : Bool) (w : ℕ) → within m w ≡ true → w < 2 ^ 64
within_low true w h = omega (arith, leb-true w (2 ^ 63) h)
within_low false w h = omega (arith, ltb-true w (2 ^ 63) h)

id_ended : (m a : Bool) (k w : ℕ) → id_in (ended_by m a k w) ≡ cond (a && (leb 1 k && (leb k 19 && within m w))) (Some (signed_by m w)) None
id_ended m false k w = refl
id_ended m true k w = id_under m k w _ _ holds refl
  where
    holds : (leb 1 k && (leb k 19 && within m w)) ≡ true → (leb k 20 && ltb w (2 ^ 64)) ≡ true
    holds h =
        let p = both (leb k 19) _ (both (leb 1 k) _ h).1 in
        let few : k ≤ 20 = omega (arith, leb-true k 19 p.0) in
        rw (le-leb k 20 few, lt-ltb w (2 ^ 64) (within_low m w p.1))

id_after_minus : (b : ℕ) (bs : List ℕ) → eqb b 45 ≡ true → id_in (ended true 0 0 bs) ≡ id_line (b ∷ bs)
unfolding id_line negative
id_after_minus b bs h =
    let z : 0 + length bs ≡ length bs = omega arith in
    id_ended true (all_digits bs) (0 + length bs) (value_from 0 bs) ∙ rw (z, h)

id_digits : (b : ℕ) (bs : List ℕ) → eqb b 45 ≡ false → id_in (ended false 0 0 (b ∷ bs)) ≡ id_line (b ∷ bs)
unfolding id_line positive
id_digits b bs h =
    let z : 0 + suc (length bs) ≡ suc (length bs) = omega arith in
    id_ended false (all_digits (b ∷ bs)) (0 + length (b ∷ bs)) (value_from 0 (b ∷ bs)) ∙ rw (z, h)

-- what is kept of a line decides its id
pub id_says : (bs : List ℕ) → id_in (line_of bs) ≡ id_line bs
unfolding line_of read_from next id_line
id_says [] = refl
id_says (b ∷ bs) = by_first id_in id_line b bs _ refl (id_after_minus b bs) (id_digits b bs)

-- ---- no byte at all

abbrev pub is_nil : List ℕ → Bool
is_nil [] = true
is_nil (b ∷ bs) = false

bool_full : (t : Bool) (k l : Line) → empty_in k ≡ false → empty_in l ≡ false → empty_in (cond t k l) ≡ false
bool_full true k l p q = p
bool_full false k l p q = q

digit_full : (m : Bool) (n v b : ℕ) → empty_in (digit_on m n v b) ≡ false
unfolding digit_on
digit_full m n v b = bool_full (is_digit b && (ltb n 20 && ltb (v * 10 + (b - 48)) (2 ^ 64))) (Digits m (n + 1) (v * 10 + (b - 48))) Bad refl refl

next_full : (l : Line) (b : ℕ) → empty_in (next l b) ≡ false
unfolding next
next_full Empty b = bool_full (eqb b 45) (Digits true 0 0) (digit_on false 0 0 b) refl (digit_full false 0 0 b)
next_full (Digits m n v) b = digit_full m n v b
next_full Bad b = refl

read_full : (l : Line) (bs : List ℕ) → empty_in l ≡ false → empty_in (read_from l bs) ≡ false
unfolding read_from
read_full l [] h = h
read_full l (b ∷ bs) h = read_full (next l b) bs (next_full l b)

-- only a line of no bytes is kept as an empty one
pub empty_says : (bs : List ℕ) → empty_in (line_of bs) ≡ is_nil bs
unfolding line_of read_from
empty_says [] = refl
empty_says (b ∷ bs) = read_full (next Empty b) bs (next_full Empty b)
