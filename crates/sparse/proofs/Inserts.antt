-- What one insertion does to a row's members, counts and rising. Assumes nothing.
use mathlib.Core.Path.{◌≡◌, refl, sym, ap, subst, ◌∙◌}
use mathlib.Core.Logic.{◌⊎◌, inl, inr}
use mathlib.Core.Bool.{Bool, true, false, ◌||◌}
use mathlib.Core.List.{List}
use Prim.Native.Nat.{ℕ, zero, suc, ◌+◌, ◌≤◌, ◌<◌}
use native.Mathlib.Omega.{arith}
use lib.Dec.{ltb, eqb}
use lib.ListN.{length}
use mir.Val.{bool_byte}
use Rattle.sums.specs.Ids.{count}
use Rattle.sums.proofs.Sums.{Inserted, sum_insert}
use Rattle.sparse.specs.Row.{Row, row_of, member, below_of, Rising}
use Rattle.sparse.specs.Edit.{inserted_at}
use Rattle.sparse.specs.Search.{search_in}
use Rattle.std.specs.Prelude.{Err}
use Rattle.sparse.proofs.Rows.{some_or, member_at, member_small, below_before, below_after, count_member}
use Rattle.sparse.proofs.Searches.{search_free, search_free_le}
use Rattle.std.proofs.lemmas.Bool.{cases_lt}
use Rattle.sparse.proofs.Edits.{inserted_at_law}
use borrow.Author.Tests.{eqb-true}

module _ (f g : Row) (k n v : ℕ) (i : Inserted f g k n v) where
  -- a count over the row is one test more
  count_insert : (t : ℕ → Bool) → count (λ (j : ℕ). t (g j)) (suc n) ≡ count (λ (j : ℕ). t (f j)) n + bool_byte (t v)
  unfolding count
  count_insert t =
      sum_insert (λ (j : ℕ). bool_byte (t (f j))) (λ (j : ℕ). bool_byte (t (g j))) k n (bool_byte (t v))
      (record {
        fits = i.fits;
        below = λ j l. ap (λ (x : ℕ). bool_byte (t x)) (i.below j l);
        here = ap (λ (x : ℕ). bool_byte (t x)) i.here;
        above = λ j a b. ap (λ (x : ℕ). bool_byte (t x)) (i.above j a b);
      })

  -- members after are members before, and v
  pub member_insert : (x : ℕ) → member g (suc n) x ≡ (member f n x || eqb v x)
  unfolding member
  member_insert x = ap (ltb 0) (count_insert (λ (y : ℕ). eqb y x)) ∙ some_or (count (λ (j : ℕ). eqb (f j) x) n) (eqb v x)

  pub below_insert : (x : ℕ) → below_of g (suc n) x ≡ below_of f n x + bool_byte (ltb v x)
  unfolding below_of
  below_insert x = count_insert (λ (y : ℕ). ltb y x)

  -- put in between what is less and what is more
  rising_between : ((j : ℕ) → j < k → f j < v) → ((j : ℕ) → k ≤ j → j < n → v < f j) → Rising f n → Rising g (suc n)
  rising_between lo hi up a zero p q = absurd (omega arith)
  rising_between lo hi up a (suc b) p q = go (cases_lt (suc b) k) (cases_lt k (suc b)) (cases_lt a k) (cases_lt k a)
    where
      old : (j : ℕ) → k < suc j → suc j < suc n → g (suc j) ≡ f j
      old j c d = i.above j (omega arith) (omega arith)

      both_up : (a : ℕ) → k < a → a < suc b → k < suc b → g a < g (suc b)
      both_up zero c d e = absurd (omega arith)
      both_up (suc a) c d e = let x = old a c (omega arith) in let y = old b e q in let s = up a b (omega arith) (omega arith) in omega arith

      go : (suc b < k) ⊎ (k ≤ suc b) → (k < suc b) ⊎ (suc b ≤ k) → (a < k) ⊎ (k ≤ a) → (k < a) ⊎ (a ≤ k) → g a < g (suc b)
      go (inl c) d e m = let x = i.below a (omega arith) in let y = i.below (suc b) c in let s = up a (suc b) p (let w = i.fits in omega arith) in omega arith
      go (inr c) (inr d) e m =
          let z : suc b ≡ k = omega arith in
          let y : g (suc b) ≡ v = ap g z ∙ i.here in
          let x = i.below a (omega arith) in
          let s = lo a (omega arith) in
          omega arith
      go (inr c) (inl d) (inl e) m = let x = i.below a e in let y = old b d q in let s = up a b (omega arith) (omega arith) in omega arith
      go (inr c) (inl d) (inr e) (inr m) =
          let z : a ≡ k = omega arith in
          let x : g a ≡ v = ap g z ∙ i.here in
          let y = old b d q in
          let s = hi b (omega arith) (omega arith) in
          omega arith
      go (inr c) (inl d) (inr e) (inl m) = both_up a m p d

  -- a bound on the offsets
  pub small_insert : (s : ℕ) → ((j : ℕ) → j < n → f j < s) → v < s → (j : ℕ) → j < suc n → g j < s
  small_insert s h l j m = member_small_at (member_insert (g j))
    where
      member_small_at : member g (suc n) (g j) ≡ (member f n (g j) || eqb v (g j)) → g j < s
      member_small_at e = go (member f n (g j)) refl (sym e ∙ member_at g (suc n) j m)
        where
          go : (b : Bool) → member f n (g j) ≡ b → (member f n (g j) || eqb v (g j)) ≡ true → g j < s
          go true p q = member_small f n s (g j) h p
          go false p q = let d = eqb-true v (g j) (ap (λ (b : Bool). b || eqb v (g j)) (sym p) ∙ q) in omega arith

-- the place that the search gives for a value that is not there
module _ (f g : Row) (n v : ℕ) (i : Inserted f g (below_of f n v) n v) (up : Rising f n) (new : member f n v ≡ false) where
  pub rising_insert : Rising g (suc n)
  rising_insert =
      rising_between f g (below_of f n v) n v i
      (λ j l. below_before f n up v j (let w = i.fits in omega arith) l)
      (λ j a b. let s = below_after f n up v j b a in let d = apart j b in omega arith)
      up
    where
      apart : (j : ℕ) → j < n → v ≡ f j → ⊥
      apart j l e = let t : false ≡ true = sym new ∙ ap (member f n) e ∙ member_at f n j l in cc

  -- one member more
  pub count_member_insert : (x : ℕ) → count (member g (suc n)) x ≡ count (member f n) x + bool_byte (ltb v x)
  count_member_insert x = omega (arith, count_member g (suc n) rising_insert x, count_member f n up x, below_insert f g (below_of f n v) n v i x)

-- ---- the list after an insert at the place that the search gives

module _ (row : List ℕ) (len x at : ℕ) (room : len < length row) (free : search_in row len x ≡ Err at) where
  into : Inserted (row_of row) (row_of (inserted_at row len at x)) at len x
  into = inserted_at_law row len at x (search_free_le row len x at free) room

  pub inserted_member : (z : ℕ) → member (row_of (inserted_at row len at x)) (suc len) z ≡ (member (row_of row) len z || eqb x z)
  inserted_member = member_insert (row_of row) (row_of (inserted_at row len at x)) at len x into

  module _ (up : Rising (row_of row) len) where
    placed : Inserted (row_of row) (row_of (inserted_at row len at x)) (below_of (row_of row) len x) len x
    placed = subst (λ (k : ℕ). Inserted (row_of row) (row_of (inserted_at row len at x)) k len x) (search_free row len up x at free).0 into

    pub inserted_rising : Rising (row_of (inserted_at row len at x)) (suc len)
    inserted_rising = rising_insert (row_of row) (row_of (inserted_at row len at x)) len x placed up (search_free row len up x at free).1

    pub inserted_count : (z : ℕ) → count (member (row_of (inserted_at row len at x)) (suc len)) z ≡ count (member (row_of row) len) z + bool_byte (ltb x z)
    inserted_count = count_member_insert (row_of row) (row_of (inserted_at row len at x)) len x placed up (search_free row len up x at free).1
