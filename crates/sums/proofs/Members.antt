-- Members in order: a run of ids lists those of its ranks, the member of a rank is there, and places of a record hold what was written to them. Assumes nothing.
use mathlib.Core.Path.{◌≡◌, refl, sym, ap, ap₂, ◌∙◌}
use mathlib.Core.Logic.{◌⊎◌, inl, inr}
use mathlib.Core.Bool.{Bool, true, false, cond}
use mathlib.Core.List.{List, [], ◌∷◌, ◌++◌}
use Prim.Native.Nat.{ℕ, zero, suc, ◌+◌, ◌-◌, ◌^◌, ◌≤◌, ◌<◌}
use native.Mathlib.Nat.{zero-add, add-zero, suc-add, add-suc, eq-or-lt_of_le}
use native.Mathlib.Omega.{arith}
use lib.IntN.{ℤ, pos}
use lib.ListN.{length, get_or, take, set, length-set}
use lib.Seq.{take-nil, set_out, get_or-set_same, get_or-set_other}
use mir.Val.{bool_byte}
use Rattle.sums.specs.Ids.{Ids, count, total}
use Rattle.sums.specs.Cuts.{least}
use Rattle.sums.specs.Members.{members_in, nth, nth_from, plus, fill}
use Rattle.sums.proofs.Counts.{count_suc, count_mono}
use Rattle.sums.proofs.Least.{least_eq}
use Rattle.sums.proofs.Ranks.{count_member, count_gap, nth_member, nth_least}

-- ---- the members of a run

-- what a turn does: the id itself if it is a member
abbrev keep : Bool → ℕ → List ℕ → List ℕ
keep b a xs = cond b (a ∷ xs) xs

keep_append : (b : Bool) (a : ℕ) (xs ys : List ℕ) → keep b a (xs ++ ys) ≡ keep b a xs ++ ys
keep_append true a xs ys = refl
keep_append false a xs ys = refl

keep_plus : (b : Bool) (k a : ℕ) (xs : List ℕ) → plus k (keep b a xs) ≡ keep b (k + a) (plus k xs)
unfolding plus
keep_plus true k a xs = refl
keep_plus false k a xs = refl

keep_length : (b : Bool) (a : ℕ) (xs : List ℕ) → length (keep b a xs) ≡ bool_byte b + length xs
keep_length true a xs = omega arith
keep_length false a xs = omega arith

pub members_none : (P : Ids) (a n : ℕ) → ((j : ℕ) → a ≤ j → j < a + n → P j ≡ false) → members_in P a n ≡ []
unfolding members_in
members_none P a zero h = refl
members_none P a (suc n) h = ap₂ (λ (b : Bool) (xs : List ℕ). keep b a xs) (h a (omega arith) (omega arith)) (members_none P (suc a) n (λ j l m. h j (omega arith) (omega arith)))

pub members_ext : (P Q : Ids) (a n : ℕ) → ((j : ℕ) → a ≤ j → j < a + n → P j ≡ Q j) → members_in P a n ≡ members_in Q a n
unfolding members_in
members_ext P Q a zero h = refl
members_ext P Q a (suc n) h = ap₂ (λ (b : Bool) (xs : List ℕ). keep b a xs) (h a (omega arith) (omega arith)) (members_ext P Q (suc a) n (λ j l m. h j (omega arith) (omega arith)))

pub members_split : (P : Ids) (a n k : ℕ) → members_in P a (n + k) ≡ members_in P a n ++ members_in P (a + n) k
unfolding members_in
members_split P a zero k = ap₂ (members_in P) (sym (add-zero a)) (zero-add k)
members_split P a (suc n) k =
    let e : suc a + n ≡ a + suc n = omega arith in
    let ih = members_split P (suc a) n k ∙ ap (λ (x : ℕ). members_in P (suc a) n ++ members_in P x k) e in
    ap (members_in P a) (suc-add n k) ∙ ap (keep (P a) a) ih ∙ keep_append (P a) a (members_in P (suc a) n) (members_in P (a + suc n) k)

-- offsets whose chunk starts at b
pub members_plus : (P Q : Ids) (b a n : ℕ) → ((j : ℕ) → a ≤ j → j < a + n → Q j ≡ P (b + j)) → plus b (members_in Q a n) ≡ members_in P (b + a) n
unfolding members_in plus
members_plus P Q b a zero h = refl
members_plus P Q b a (suc n) h =
    let ih = members_plus P Q b (suc a) n (λ j l m. h j (omega arith) (omega arith)) ∙ ap (λ (x : ℕ). members_in P x n) (add-suc b a) in
    keep_plus (Q a) b a (members_in Q (suc a) n) ∙ ap₂ (λ (c : Bool) (xs : List ℕ). keep c (b + a) xs) (h a (omega arith) (omega arith)) ih

-- they are what the counts differ by
members_count : (P : Ids) (a n : ℕ) → count P a + length (members_in P a n) ≡ count P (a + n)
unfolding members_in
members_count P a zero = add-zero (count P a) ∙ ap (count P) (sym (add-zero a))
members_count P a (suc n) =
    let e : suc a + n ≡ a + suc n = omega arith in
    let c = members_count P (suc a) n ∙ ap (count P) e in
    omega (arith, keep_length (P a) a (members_in P (suc a) n), count_suc P a)

pub members_length : (P : Ids) (a n : ℕ) → length (members_in P a n) ≡ count P (a + n) - count P a
members_length P a n = omega (arith, members_count P a n)

-- ---- the member of a rank

pub nth_is : (P : Ids) (n : ℕ) → n < 2 ^ 63 → P n ≡ true → nth P (count P n) ≡ n
unfolding nth total
nth_is P n l e =
    let m = count_mono P (suc n) (2 ^ 63) l in
    let x : least P (suc (count P n)) ≡ suc n = least_eq P (suc (count P n)) (suc n) (omega (arith, count_member P n e)) (nth_least P n e) in
    omega arith

pub nth_has : (P : Ids) (k : ℕ) → k < total P → (P (nth P k) ≡ true) × (count P (nth P k) ≡ k) × (nth P k < 2 ^ 63)
nth_has P k l =
    let f = nth_member P k l in
    let e : f.0 ≡ nth P k = sym (nth_is P f.0 f.1 f.2) ∙ ap (nth P) f.3 in
    (rw e at f.2, rw e at f.3, rw e at f.1)

pub nth_from_split : (P : Ids) (f n k : ℕ) → nth_from P f (n + k) ≡ nth_from P f n ++ nth_from P (f + n) k
unfolding nth_from
nth_from_split P f zero k = ap₂ (nth_from P) (sym (add-zero f)) (zero-add k)
nth_from_split P f (suc n) k =
    let e : suc f + n ≡ f + suc n = omega arith in
    ap (nth_from P f) (suc-add n k) ∙ ap (λ (xs : List ℕ). nth P f ∷ xs) (nth_from_split P (suc f) n k ∙ ap (λ (x : ℕ). nth_from P (suc f) n ++ nth_from P x k) e)

pub nth_from_length : (P : Ids) (f n : ℕ) → length (nth_from P f n) ≡ n
unfolding nth_from
nth_from_length P f zero = refl
nth_from_length P f (suc n) = ap suc (nth_from_length P (suc f) n)

pub nth_from_at : (P : Ids) (f n i : ℕ) → i < n → get_or (nth_from P f n) i 0 ≡ nth P (f + i)
unfolding nth_from
nth_from_at P f zero i l = absurd (omega arith)
nth_from_at P f (suc n) zero l = ap (nth P) (sym (add-zero f))
nth_from_at P f (suc n) (suc i) l = let e : suc f + i ≡ f + suc i = omega arith in nth_from_at P (suc f) n i (omega arith) ∙ ap (nth P) e

-- the members of a run are those of its ranks
pub members_nth : (P : Ids) (a n : ℕ) → a + n ≤ 2 ^ 63 → members_in P a n ≡ nth_from P (count P a) (count P (a + n) - count P a)
unfolding members_in nth_from
members_nth P a zero l = let e : count P (a + 0) - count P a ≡ 0 = omega (arith, ap (count P) (add-zero a)) in ap (nth_from P (count P a)) (sym e)
members_nth P a (suc n) l = go (P a) refl (members_nth P (suc a) n (omega arith))
  where
    e : count P (suc a + n) ≡ count P (a + suc n)
    e = ap (count P) (suc-add a n ∙ sym (add-suc a n))

    go : (b : Bool) → P a ≡ b → members_in P (suc a) n ≡ nth_from P (count P (suc a)) (count P (suc a + n) - count P (suc a))
        → keep b a (members_in P (suc a) n) ≡ nth_from P (count P a) (count P (a + suc n) - count P a)
    go true h r =
        let c = count_member P a h in
        let m = count_mono P (suc a) (a + suc n) (omega arith) in
        let d : count P (a + suc n) - count P a ≡ suc (count P (suc a + n) - count P (suc a)) = omega (arith, e) in
        let i : a ≡ nth P (count P a) = sym (nth_is P a (omega arith) h) in
        ap₂ (λ (x : ℕ) (xs : List ℕ). x ∷ xs) i (r ∙ ap (λ (x : ℕ). nth_from P x (count P (suc a + n) - count P (suc a))) c) ∙ ap (nth_from P (count P a)) (sym d)
    go false h r =
        let c = count_gap P a h in
        let d : count P (suc a + n) - count P (suc a) ≡ count P (a + suc n) - count P a = omega (arith, e) in
        r ∙ ap₂ (nth_from P) c d

-- ---- places of a record

pub fill_length : (out : List ℤ) (k : ℕ) (ns : List ℕ) → length (fill out k ns) ≡ length out
unfolding fill
fill_length out k [] = refl
fill_length out k (n ∷ ns) = fill_length (set out k (pos n)) (suc k) ns ∙ length-set out k (pos n)

pub fill_full : (out : List ℤ) (k : ℕ) (ns : List ℕ) → length out ≤ k → fill out k ns ≡ out
unfolding fill
fill_full out k [] l = refl
fill_full out k (n ∷ ns) l = fill_full (set out k (pos n)) (suc k) ns (omega (arith, length-set out k (pos n))) ∙ set_out out k (pos n) l

pub fill_then : (out : List ℤ) (k : ℕ) (xs ys : List ℕ) → fill (fill out k xs) (k + length xs) ys ≡ fill out k (xs ++ ys)
unfolding fill
fill_then out k [] ys = ap (λ (j : ℕ). fill out j ys) (add-zero k)
fill_then out k (x ∷ xs) ys =
    let e : k + suc (length xs) ≡ suc k + length xs = omega arith in
    ap (λ (j : ℕ). fill (fill (set out k (pos x)) (suc k) xs) j ys) e ∙ fill_then (set out k (pos x)) (suc k) xs ys

pub fill_take : (out : List ℤ) (k : ℕ) (ns : List ℕ) → fill out k ns ≡ fill out k (take (length out - k) ns)
unfolding fill
fill_take out k [] = ap (fill out k) (sym (take-nil (length out - k)))
fill_take out k (n ∷ ns) = go (length out - k) refl (fill_take (set out k (pos n)) (suc k) ns)
  where
    to : List ℕ → List ℤ
    to = fill (set out k (pos n)) (suc k)

    go : (m : ℕ) → length out - k ≡ m → to ns ≡ to (take (length (set out k (pos n)) - suc k) ns) → to ns ≡ fill out k (take m (n ∷ ns))
    go zero e r = fill_full out k (n ∷ ns) (omega arith)
    go (suc m) e r = let d : length (set out k (pos n)) - suc k ≡ m = omega (arith, length-set out k (pos n)) in r ∙ ap (λ (j : ℕ). to (take j ns)) d

pub fill_other : (out : List ℤ) (k : ℕ) (ns : List ℕ) (i : ℕ) → (i < k) ⊎ (k + length ns ≤ i) → get_or (fill out k ns) i (pos 0) ≡ get_or out i (pos 0)
unfolding fill
fill_other out k [] i w = refl
fill_other out k (n ∷ ns) i (inl l) = fill_other (set out k (pos n)) (suc k) ns i (inl (omega arith)) ∙ get_or-set_other out k i (pos n) (pos 0) (omega arith)
fill_other out k (n ∷ ns) i (inr l) = fill_other (set out k (pos n)) (suc k) ns i (inr (omega arith)) ∙ get_or-set_other out k i (pos n) (pos 0) (omega arith)

pub fill_at : (out : List ℤ) (k : ℕ) (ns : List ℕ) (i : ℕ) → k ≤ i → i < k + length ns → i < length out → get_or (fill out k ns) i (pos 0) ≡ pos (get_or ns (i - k) 0)
unfolding fill
fill_at out k [] i a b l = absurd (omega arith)
fill_at out k (n ∷ ns) i a b l = go (eq-or-lt_of_le a) (λ w. fill_at (set out k (pos n)) (suc k) ns i w (omega arith) (omega (arith, length-set out k (pos n))))
  where
    to : List ℤ
    to = fill (set out k (pos n)) (suc k) ns

    go : (k ≡ i) ⊎ (k < i) → (k < i → get_or to i (pos 0) ≡ pos (get_or ns (i - suc k) 0)) → get_or to i (pos 0) ≡ pos (get_or (n ∷ ns) (i - k) 0)
    go (inl e) r =
        let z : 0 ≡ i - k = omega arith in
        let s : get_or (set out k (pos n)) i (pos 0) ≡ pos n = ap (λ (j : ℕ). get_or (set out k (pos n)) j (pos 0)) (sym e) ∙ get_or-set_same out k (pos n) (pos 0) (omega arith) in
        fill_other (set out k (pos n)) (suc k) ns i (inl (omega arith)) ∙ s ∙ ap (λ (j : ℕ). pos (get_or (n ∷ ns) j 0)) z
    go (inr w) r = let z : suc (i - suc k) ≡ i - k = omega arith in r w ∙ ap (λ (j : ℕ). pos (get_or (n ∷ ns) j 0)) z
