-- Laws of the search: what it says on any content, and what it says where offsets rise. Assumes nothing.
use mathlib.Core.Path.{◌≡◌, refl, sym, ap, ap₂, ◌∙◌}
use mathlib.Core.Bool.{Bool, true, false, cond, ◌&&◌, ◌||◌}
use mathlib.Core.List.{List}
use Prim.Native.Nat.{ℕ, suc, ◌-◌, ◌≤◌, ◌<◌}
use native.Mathlib.Omega.{arith}
use lib.Dec.{ltb, leb, eqb, leb-suc-suc}
use lib.ListN.{get_or}
use borrow.Author.Tests.{ltb-true, ltb-false, lt-ltb, le-ltb, eqb-true, ne_eqb}
use Rattle.sums.specs.Rules.{Decides}
use Rattle.sums.proofs.Rules.{and_of, ltb_of, eqb_of, both}
use Rattle.std.specs.Prelude.{Result, Ok, Err}
use Rattle.sparse.specs.Row.{row_of, member, below_of, Rising}
use Rattle.sparse.specs.Search.{lower_of, place_if, found_in, search_in, spot_in, any_in}
use Rattle.sparse.proofs.Rows.{member_of, member_at, same_test, below_le, below_at, below_before, below_after, below_own, below_all}
use Rattle.sparse.proofs.Halving.{lower_le, lower_parts}

-- ---- any content

-- an offset above the last goes to the end
pub spot_end : (row : List ℕ) (len x : ℕ) → (len ≡ 0 → ⊥) → get_or row (len - 1) 0 < x → Err len ≡ spot_in row len x
unfolding spot_in
spot_end row len x e l = rw (ne_eqb len 0 e, lt-ltb (get_or row (len - 1) 0) x l) refl

module _ (row : List ℕ) (len x : ℕ) where
  -- what is found is there
  pub search_found : (i : ℕ) → search_in row len x ≡ Ok i → (i < len) × (get_or row i 0 ≡ x)
  unfolding search_in found_in
  search_found i e = go (ltb (lower_of row len x) len && eqb (get_or row (lower_of row len x) 0) x) refl e
    where
      go : (b : Bool) → (ltb (lower_of row len x) len && eqb (get_or row (lower_of row len x) 0) x) ≡ b → place_if b (lower_of row len x) ≡ Ok i → (i < len) × (get_or row i 0 ≡ x)
      go true t p =
          let k : lower_of row len x ≡ i = cc in
          let w = both _ _ t in
          let v = ltb-true (lower_of row len x) len w.0 in
          (omega arith, ap (λ (j : ℕ). get_or row j 0) (sym k) ∙ eqb-true (get_or row (lower_of row len x) 0) x w.1)
      go false t p = absurd cc

-- the place in an answer
abbrev pub place_of : Result ℕ ℕ → ℕ
place_of (Ok i) = i
place_of (Err i) = i

place_if_law : (b : Bool) (i : ℕ) → place_of (place_if b i) ≡ i
place_if_law true i = refl
place_if_law false i = refl

pub search_place : (row : List ℕ) (len x : ℕ) → place_of (search_in row len x) ≡ lower_of row len x
unfolding search_in
search_place row len x = place_if_law (found_in row len x) (lower_of row len x)

pub search_le : (row : List ℕ) (len x : ℕ) → place_of (search_in row len x) ≤ len
search_le row len x = omega (arith, search_place row len x, lower_le row len x)

pub spot_le : (row : List ℕ) (len x : ℕ) → place_of (spot_in row len x) ≤ len
unfolding spot_in
spot_le row len x = go (eqb len 0 || ltb (get_or row (len - 1) 0) x)
  where
    go : (b : Bool) → place_of (cond b (Err len) (search_in row len x)) ≤ len
    go true = omega arith
    go false = search_le row len x

-- a free place has room before it
pub search_free_le : (row : List ℕ) (len x i : ℕ) → search_in row len x ≡ Err i → i ≤ len
search_free_le row len x i e = let p = ap place_of e in let l = search_le row len x in omega arith

pub spot_free_le : (row : List ℕ) (len x i : ℕ) → spot_in row len x ≡ Err i → i ≤ len
spot_free_le row len x i e = let p = ap place_of e in let l = spot_le row len x in omega arith

-- ---- where offsets rise

module _ (row : List ℕ) (len : ℕ) (up : Rising (row_of row) len) where
  -- the place is the number of smaller offsets
  pub lower_rising : (x : ℕ) → lower_of row len x ≡ below_of (row_of row) len x
  lower_rising x = lower_parts row len x (below_of (row_of row) len x) (below_at (row_of row) len up x) (below_le (row_of row) len x)

  -- found exactly when a member
  pub found_rising : (x : ℕ) → found_in row len x ≡ member (row_of row) len x
  unfolding found_in
  found_rising x =
      let p = below_of (row_of row) len x in
      ap (λ (i : ℕ). ltb i len && eqb (get_or row i 0) x) (lower_rising x)
      ∙ same_test (ltb p len && eqb (get_or row p 0) x) (member (row_of row) len x) (and_of (ltb_of p len) (eqb_of (get_or row p 0) x)) (member_of (row_of row) len x)
      (λ w. (p, w.0, w.1))
      (λ w. let e : p ≡ w.0 = ap (below_of (row_of row) len) (sym w.2) ∙ below_own (row_of row) len up w.0 w.1 in (omega (arith, w.1), ap (λ (j : ℕ). get_or row j 0) e ∙ w.2))

  pub search_rising : (x : ℕ) → search_in row len x ≡ place_if (member (row_of row) len x) (below_of (row_of row) len x)
  unfolding search_in
  search_rising x = ap₂ place_if (found_rising x) (lower_rising x)

  -- an offset above the last is free at the end
  pub spot_rising : (x : ℕ) → spot_in row len x ≡ search_in row len x
  unfolding spot_in
  spot_rising x = go (eqb len 0 || ltb (get_or row (len - 1) 0) x) refl
    where
      all_below : (eqb len 0 || ltb (get_or row (len - 1) 0) x) ≡ true → (j : ℕ) → j < len → get_or row j 0 < x
      all_below e j l = by (ltb j (len - 1)) refl
        where
          top : get_or row (len - 1) 0 < x
          top = ltb-true (get_or row (len - 1) 0) x (ap (λ (b : Bool). b || ltb (get_or row (len - 1) 0) x) (sym (ne_eqb len 0 (λ z. omega arith))) ∙ e)

          by : (b : Bool) → ltb j (len - 1) ≡ b → get_or row j 0 < x
          by true m = let s = up j (len - 1) (ltb-true j (len - 1) m) (omega arith) in let t = top in omega arith
          by false m = let s = ltb-false j (len - 1) m in let d : j ≡ len - 1 = omega arith in let q = ap (λ (i : ℕ). get_or row i 0) d in let t = top in omega arith

      go : (b : Bool) → (eqb len 0 || ltb (get_or row (len - 1) 0) x) ≡ b → cond b (Err len) (search_in row len x) ≡ search_in row len x
      go true e =
          let a = below_all (row_of row) len x (all_below e) in
          let n : member (row_of row) len x ≡ false = not_there (member (row_of row) len x) refl in
          sym (search_rising x ∙ ap (λ (b : Bool). place_if b (below_of (row_of row) len x)) n ∙ ap Err a)
        where
          not_there : (b : Bool) → member (row_of row) len x ≡ b → member (row_of row) len x ≡ false
          not_there true m = absurd (let w = (member_of (row_of row) len x).sound m in let s = all_below e w.0 w.1 in let t = w.2 in omega arith)
          not_there false m = m
      go false e = refl

  -- more offsets below hi + 1 than below lo
  pub any_count : (lo hi : ℕ) → any_in row len lo hi ≡ ltb (below_of (row_of row) len lo) (below_of (row_of row) len (suc hi))
  unfolding any_in
  any_count lo hi =
      ap (λ (i : ℕ). ltb i len && leb (get_or row i 0) hi) (lower_rising lo) ∙ go (ltb p len) refl
    where
      p : ℕ
      p = below_of (row_of row) len lo

      go : (b : Bool) → ltb p len ≡ b → (ltb p len && leb (get_or row p 0) hi) ≡ ltb p (below_of (row_of row) len (suc hi))
      go true e =
          ap (λ (b : Bool). b && leb (get_or row p 0) hi) e
          ∙ sym (leb-suc-suc (get_or row p 0) hi) ∙ below_at (row_of row) len up (suc hi) p (ltb-true p len e)
      go false e =
          ap (λ (b : Bool). b && leb (get_or row p 0) hi) e
          ∙ sym (le-ltb p (below_of (row_of row) len (suc hi)) (let m = ltb-false p len e in omega (arith, below_le (row_of row) len (suc hi))))

  pub any_of_law : (lo hi : ℕ) → Decides (any_in row len lo hi) ((x : ℕ) × (lo ≤ x) × (x ≤ hi) × (member (row_of row) len x ≡ true))
  any_of_law lo hi = record { sound = λ h. sound (ltb-true p q (sym (any_count lo hi) ∙ h)); whole = λ w. any_count lo hi ∙ lt-ltb p q (whole w) }
    where
      p : ℕ
      p = below_of (row_of row) len lo

      q : ℕ
      q = below_of (row_of row) len (suc hi)

      sound : p < q → (x : ℕ) × (lo ≤ x) × (x ≤ hi) × (member (row_of row) len x ≡ true)
      sound m =
          let l : p < len = omega (arith, below_le (row_of row) len (suc hi)) in
          let b = below_before (row_of row) len up (suc hi) p l m in
          (get_or row p 0, below_after (row_of row) len up lo p l (omega arith), omega arith, member_at (row_of row) len p l)

      whole : (x : ℕ) × (lo ≤ x) × (x ≤ hi) × (member (row_of row) len x ≡ true) → p < q
      whole w = let v = (member_of (row_of row) len w.0).sound w.3 in go v.0 v.1 v.2 (ltb v.0 p) refl
        where
          go : (j : ℕ) → j < len → get_or row j 0 ≡ w.0 → (b : Bool) → ltb j p ≡ b → p < q
          go j l e true m = absurd (let s = below_before (row_of row) len up lo j l (ltb-true j p m) in let a = w.1 in omega arith)
          go j l e false m =
              let s = ltb-false j p m in
              let a = w.2 in
              let t : get_or row j 0 < suc hi = omega arith in
              let u = ltb-true j q (sym (below_at (row_of row) len up (suc hi) j l) ∙ lt-ltb (get_or row j 0) (suc hi) t) in
              omega arith

  -- what each answer says
  pub search_free : (x i : ℕ) → search_in row len x ≡ Err i → (i ≡ below_of (row_of row) len x) × (member (row_of row) len x ≡ false)
  search_free x i e = go (member (row_of row) len x) refl (sym (search_rising x) ∙ e)
    where
      go : (b : Bool) → member (row_of row) len x ≡ b → place_if (member (row_of row) len x) (below_of (row_of row) len x) ≡ Err i → (i ≡ below_of (row_of row) len x) × (member (row_of row) len x ≡ false)
      go true m p = absurd (let q : Ok (below_of (row_of row) len x) ≡ Err i = ap (λ (b : Bool). place_if b (below_of (row_of row) len x)) (sym m) ∙ p in cc)
      go false m p = (ap place_of (sym p ∙ ap (λ (b : Bool). place_if b (below_of (row_of row) len x)) m), m)

  pub search_member : (x i : ℕ) → search_in row len x ≡ Ok i → (i ≡ below_of (row_of row) len x) × (member (row_of row) len x ≡ true)
  search_member x i e = (ap place_of (sym e ∙ search_rising x) ∙ place_if_law (member (row_of row) len x) (below_of (row_of row) len x), let w = search_found row len x i e in (member_of (row_of row) len x).whole (i, w.0, w.1))
