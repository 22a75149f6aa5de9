-- A row's offsets as ids: a turn of the loop that writes them, and where they rise, that they are the members in order. Assumes nothing.
use mathlib.Core.Path.{◌≡◌, refl, sym, ap, ap₂, ◌∙◌, subst}
use mathlib.Core.Logic.{◌⊎◌, inl, inr}
use mathlib.Core.Bool.{Bool, true, false}
use mathlib.Core.List.{List, [], ◌∷◌}
use Prim.Native.Nat.{ℕ, zero, suc, ◌+◌, ◌-◌, ◌*◌, ◌%◌, ◌^◌, ◌≤◌, ◌<◌, min}
use native.Mathlib.Nat.{add-zero, mod-lt, mod-eq_of_lt, one-mul}
use native.Mathlib.Omega.{arith}
use lib.Dec.{eqb, ltb, lit<}
use lib.IntN.{ℤ, pos}
use lib.ListN.{length, get_or, set, take, drop}
use lib.Seq.{get_or-take, get_or-drop}
use lib.Pow.{pow_pos, shl_exact}
use mir.Syntax.{w64}
use mir.Val.{to_z}
use mir.Facts.{to_z_pos}
use borrow.Author.Tests.{eqb-true, eqb-false, ltb-true, ltb-false}
use Rattle.sums.specs.Members.{members_in, plus, fill, fill_to}
use Rattle.sums.proofs.Sums.{last_or}
use Rattle.sums.proofs.Filling.{members_yes, members_no, Left, left_start, left_same, left_put, left_full, left_none}
use Rattle.sparse.specs.Row.{row_of, member, Rising}
use Rattle.sparse.specs.Search.{lower_of}
use Rattle.sparse.specs.Listed.{offsets_at, offsets_from}
use Rattle.std.proofs.lemmas.Bool.{cases_lt}
use Rattle.sparse.proofs.Rows.{member_of, below_le, below_before, below_after}
use Rattle.sparse.proofs.Searches.{lower_rising}

-- ---- the size as the machine has it

size_is : (s : ℕ) → s < 32 → 1 * 2 ^ s % 2 ^ 64 ≡ 2 ^ s
size_is s l = shl_exact 1 s 64 (lit< tt) (omega arith) ∙ one-mul (2 ^ s)

-- an id of the chunk
pub id_lt : (base x s : ℕ) → s < 32 → base + 2 ^ s ≤ 2 ^ 63 → base + x % (1 * 2 ^ s % 2 ^ 64) < 2 ^ 63
id_lt base x s l f = subst (λ (u : ℕ). base + x % u < 2 ^ 63) (sym (size_is s l)) (let m = mod-lt x (pow_pos s) in omega arith)

id_is : (base x s : ℕ) → s < 32 → base + 2 ^ s ≤ 2 ^ 63 → to_z w64 (base + x % (1 * 2 ^ s % 2 ^ 64)) ≡ pos (base + x % 2 ^ s)
id_is base x s l f = to_z_pos w64 (id_lt base x s l f) ∙ ap (λ (u : ℕ). pos (base + x % u)) (size_is s l)

-- ---- the loop

-- the ids asked for, and those of the places from i on
abbrev pub asked : List ℕ → ℕ → ℕ → ℕ → ℕ → List ℕ
asked row len x base s = plus base (offsets_from row len (2 ^ s) x)

abbrev pub rest : List ℕ → ℕ → ℕ → ℕ → ℕ → List ℕ
rest row len base s i = plus base (offsets_at row (2 ^ s) i (len - i))

-- i ids are written, those of the places from first + i on are left
pub record Listing (row : List ℕ) (len x base s first : ℕ) (old : List ℤ) (k : ℕ) (out : List ℤ) (i : ℕ) : Type 0 where
  pub left : Left old k (asked row len x base s) out (k + i) (rest row len base s (first + i))

module _ (row : List ℕ) (len x base s first : ℕ) (old : List ℤ) (k : ℕ) where
  pub listing_start : first ≡ lower_of row len x → k ≤ length old → Listing row len x base s first old k old 0
  unfolding offsets_from
  listing_start e l = record {
    left = simp add-zero (left_same old k (asked row len x base s) old k _ _ (left_start old k (asked row len x base s) l) (ap (rest row len base s) (sym e)));
  }

  module _ (out : List ℤ) (i : ℕ) (h : Listing row len x base s first old k out i) where
    next : first + i < len → rest row len base s (first + i) ≡ (base + get_or row (first + i) 0 % 2 ^ s) ∷ rest row len base s (first + (i + 1))
    unfolding plus offsets_at
    next l =
        let e : len - (first + i) ≡ suc (len - (first + (i + 1))) = omega arith in
        let f : suc (first + i) ≡ first + (i + 1) = omega arith in
        ap (λ (m : ℕ). plus base (offsets_at row (2 ^ s) (first + i) m)) e
        ∙ ap (λ (j : ℕ). (base + get_or row (first + i) 0 % 2 ^ s) ∷ plus base (offsets_at row (2 ^ s) j (len - (first + (i + 1))))) f

    pub listing_turn : (n v : ℕ) → s < 32 → base + 2 ^ s ≤ 2 ^ 63 → first + n ≤ len → i < n → k + i < length out → v ≡ get_or (take n (drop first row)) i 0 → Listing row len x base s first old k (set out (k + i) (to_z w64 (base + v % (1 * 2 ^ s % 2 ^ 64)))) (i + 1)
    listing_turn n v a f g l m d =
        let e : v ≡ get_or row (first + i) 0 = d ∙ get_or-take n (drop first row) i 0 l ∙ get_or-drop first row i 0 in
        let p = left_put old k (asked row len x base s) out (k + i) (base + get_or row (first + i) 0 % 2 ^ s) (rest row len base s (first + (i + 1))) (left_same old k (asked row len x base s) out (k + i) _ _ h.left (next (omega arith))) m in
        let j : k + i + 1 ≡ k + (i + 1) = omega arith in
        rw (e, id_is base (get_or row (first + i) 0) s a f) (record { left = rw (← j) p })

    none : len ≤ first + i → rest row len base s (first + i) ≡ []
    unfolding plus offsets_at
    none l = let z : len - (first + i) ≡ 0 = omega arith in ap (λ (m : ℕ). plus base (offsets_at row (2 ^ s) (first + i) m)) z

    -- the row has no more, or the record no place
    pub listing_end : i ≡ min (len - first) (length old - k) → (out ≡ fill old k (asked row len x base s)) × (k + i ≡ fill_to old k (asked row len x base s))
    listing_end e = go (cases_lt (k + i) (length out))
      where
        go : (k + i < length out) ⊎ (length out ≤ k + i) → (out ≡ fill old k (asked row len x base s)) × (k + i ≡ fill_to old k (asked row len x base s))
        go (inl l) = let g = h.left.long in left_none old k (asked row len x base s) out (k + i) (left_same old k (asked row len x base s) out (k + i) _ _ h.left (none (omega arith)))
        go (inr l) = left_full old k (asked row len x base s) out (k + i) (rest row len base s (first + i)) h.left l

-- ---- where offsets rise

module _ (row : List ℕ) (len u : ℕ) (up : Rising (row_of row) len) (small : (j : ℕ) → j < len → get_or row j 0 < u) where
  not_member : (x : ℕ) → ((j : ℕ) → j < len → get_or row j 0 ≡ x → ⊥) → member (row_of row) len x ≡ false
  not_member x h = go (member (row_of row) len x) refl
    where
      go : (b : Bool) → member (row_of row) len x ≡ b → member (row_of row) len x ≡ false
      go true e = absurd (let w = (member_of (row_of row) len x).sound e in h w.0 w.1 w.2)
      go false e = e

  -- the places before i hold offsets below a, those from i on none below it
  from : (m a i n : ℕ) → m ≡ u - a → i + n ≡ len → ((j : ℕ) → j < i → get_or row j 0 < a) → ((j : ℕ) → i ≤ j → j < len → a ≤ get_or row j 0) → members_in (member (row_of row) len) a m ≡ offsets_at row u i n
  unfolding members_in offsets_at
  from zero a i zero e f lo hi = refl
  from zero a i (suc n) e f lo hi = absurd (let p = hi i (omega arith) (omega arith) in let q = small i (omega arith) in omega arith)
  from (suc m) a i zero e f lo hi =
      members_no (member (row_of row) len) a m (not_member a (λ j l d. let p = lo j (omega arith) in omega arith))
      ∙ from m (suc a) i zero (omega arith) f (λ j l. let p = lo j l in omega arith) (λ j l g. absurd (omega arith))
  from (suc m) a i (suc n) e f lo hi = go (eqb (get_or row i 0) a) refl (λ i n. from m (suc a) i n (omega arith))
    where
      inside : i < len
      inside = omega arith

      above : (x j : ℕ) → x ≤ get_or row i 0 → i ≤ j → j < len → (b : Bool) → ltb i j ≡ b → x ≤ get_or row j 0
      above x j p l g true t = let q = up i j (ltb-true i j t) g in omega arith
      above x j p l g false t = let q = ltb-false i j t in let d : i ≡ j = omega arith in let r = ap (λ (y : ℕ). get_or row y 0) d in omega arith

      go : (b : Bool) → eqb (get_or row i 0) a ≡ b
          → ((i n : ℕ) → i + n ≡ len → ((j : ℕ) → j < i → get_or row j 0 < suc a) → ((j : ℕ) → i ≤ j → j < len → suc a ≤ get_or row j 0) → members_in (member (row_of row) len) (suc a) m ≡ offsets_at row u i n)
          → members_in (member (row_of row) len) a (suc m) ≡ get_or row i 0 % u ∷ offsets_at row u (suc i) n
      go true t r =
          let d = eqb-true (get_or row i 0) a t in
          let g = inside in
          members_yes (member (row_of row) len) a m ((member_of (row_of row) len a).whole (i, g, d))
          ∙ ap₂ ◌∷◌ (sym (mod-eq_of_lt (small i g) ∙ d))
          (r (suc i) n (omega arith) (λ j l. below j (last_or j i l)) (λ j l w. let q = up i j l w in omega arith))
        where
          below : (j : ℕ) → (j < i) ⊎ (j ≡ i) → get_or row j 0 < suc a
          below j (inl l) = let q = lo j l in omega arith
          below j (inr d) = let q = ap (λ (y : ℕ). get_or row y 0) d in let w = eqb-true (get_or row i 0) a t in omega arith
      go false t r =
          let d = eqb-false (get_or row i 0) a t in
          let g = inside in
          let q = hi i (omega arith) g in
          let p : suc a ≤ get_or row i 0 = omega arith in
          members_no (member (row_of row) len) a m (not_member a (λ j l y. apart p j l y (ltb j i) refl))
          ∙ r i (suc n) f (λ j l. let q = lo j l in omega arith) (λ j l w. above (suc a) j p l w (ltb i j) refl)
        where
          apart : suc a ≤ get_or row i 0 → (j : ℕ) → j < len → get_or row j 0 ≡ a → (b : Bool) → ltb j i ≡ b → ⊥
          apart p j l y true z = let q = lo j (ltb-true j i z) in omega arith
          apart p j l y false z = let q = above (suc a) j p (ltb-false j i z) l (ltb i j) refl in omega arith

-- the offsets that are not below a are the members from a on
pub offsets_members : (row : List ℕ) (len u a : ℕ) → Rising (row_of row) len → ((j : ℕ) → j < len → get_or row j 0 < u) → offsets_from row len u a ≡ members_in (member (row_of row) len) a (u - a)
unfolding offsets_from
offsets_members row len u a up small =
    let e = lower_rising row len up a in
    let l = below_le (row_of row) len a in
    sym (from row len u up small (u - a) a (lower_of row len a) (len - lower_of row len a) refl (omega arith)
    (λ j g. below_before (row_of row) len up a j (omega arith) (omega arith))
    (λ j g m. below_after (row_of row) len up a j m (omega arith)))
