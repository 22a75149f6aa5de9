-- `any_in_range` on memory that follows the layout: what the plain set says, and never a refusal. Assumes nothing.
use mathlib.Core.Path.{◌≡◌, refl, sym, ap, ◌∙◌}
use mathlib.Core.Logic.{◌⊎◌, inl, inr}
use mathlib.Core.Bool.{Bool, true, false, cond}
use Prim.Native.Nat.{ℕ, zero, suc, ◌+◌, ◌-◌, ◌*◌, ◌/◌, ◌%◌, ◌≤◌, ◌<◌}
use native.Mathlib.Nat.{mod-lt}
use native.Mathlib.Omega.{arith}
use lib.IntN.{ℤ, pos, negsuc}
use lib.Dec.{leb, ltb}
use borrow.Author.Tests.{leb-true, leb-false, ltb-true, ltb-false, lt-ltb, le-ltb}
use Rattle.sums.specs.Ids.{Ids, count, rank, any_in_range}
use Rattle.sums.specs.Rules.{Decides}
use Rattle.sums.proofs.Rules.{same_of, same_test}
use Rattle.sums.proofs.Sums.{last_or}
use Rattle.sums.proofs.Counts.{count_zero, count_mono}
use Rattle.sums.proofs.Ranks.{count_some, count_member}
use Rattle.sparse.proofs.Searches as sparse
use Rattle.dense.proofs.Counts.{any_decides}
use Rattle.dense.proofs.Bits.{is_set_one, one_is_set}
use Rattle.document.specs.Sizes.{top}
use Rattle.document.specs.Refusals.{not_laid_out}
use Rattle.document.specs.declared.sizes.Sizes.{Sizes}
use Rattle.layout.specs.Mem.{Mem}
use Rattle.layout.specs.Sizes.{head}
use Rattle.layout.specs.Places.{row_part, page_part}
use Rattle.layout.specs.Entries.{place_at}
use Rattle.layout.specs.Short.{spot_on}
use Rattle.layout.specs.Meaning.{offsets, holds}
use Rattle.layout.specs.Follows.{RowListed, Follows}
use Rattle.layout.specs.declared.place.Place.{Place}
use Rattle.layout.specs.declared.place.Place.TheVariants.{Absent, Sparse, Dense}
use Rattle.layout_laws.proofs.Entries.{laid_ordered, chunk_rising}
use Rattle.layout_laws.proofs.Members.{listed_rising}
use Rattle.calls.specs.Counts.{entries_of}
use Rattle.calls.specs.Range.{chunk_by, entry_from, clip_low, clip_high, any_at, any_entry, or_next, any_run, any_from, any_of, any_by}
use Rattle.calls.proofs.Clips.{clip_low_law, clip_high_law, past_high, chunk_mono}
use Rattle.calls.proofs.RangeEntries.{Entry, entry_id, some_ids, entries_fit, entry_spot, holds_entry, member_entry, from_cut}
use Rattle.document.specs.Results.{Truth}
use Rattle.std.specs.Prelude.{Err, Ok}

-- a yes or no that decides a statement
record Says (t : Truth) (A : Type 0) : Type 0 where
  yes : Bool
  is : t ≡ Ok yes
  decides : Decides yes A

no : {A : Type 0} → (A → ⊥) → Says (Ok false) A
no n = record { yes = false; is = refl; decides = record { sound = λ h. absurd cc; whole = λ a. absurd (n a) } }

says_same : {t : Truth} {A B : Type 0} → Says t A → (A → B) → (B → A) → Says t B
says_same s f g = record { yes = s.yes; is = s.is; decides = same_of s.decides f g }

-- the first that says yes, or the next
or_says : (t r : Truth) {A B C : Type 0} → Says t A → Says r B → (A → C) → (B → C) → (C → A ⊎ B) → Says (or_next t r) C
or_says t r {A} {B} {C} s n f g c = go s.yes refl
  where
    go : (b : Bool) → s.yes ≡ b → Says (or_next t r) C
    go true e =
        record {
          yes = true;
          is = ap (λ (q : Truth). or_next q r) (s.is ∙ ap Ok e);
          decides = record { sound = λ h. f (s.decides.sound e); whole = λ h. refl };
        }
    go false e =
        record {
          yes = n.yes;
          is = ap (λ (q : Truth). or_next q r) (s.is ∙ ap Ok e) ∙ n.is;
          decides = record { sound = λ h. g (n.decides.sound h); whole = λ h. one (c h) };
        }
      where
        one : A ⊎ B → n.yes ≡ true
        one (inl a) = absurd (let h : false ≡ true = sym e ∙ s.decides.whole a in cc)
        one (inr b) = n.decides.whole b

-- ---- one place

any_at_law : (h : Sizes) (x : Mem) (p : Place) → RowListed h x.rows p → (a b : ℕ)
    → Says (any_at x a b (spot_on h p)) ((o : ℕ) × (a ≤ o) × (o ≤ b) × (offsets h x p o ≡ true))
any_at_law h x Absent w a b = record { yes = false; is = refl; decides = record { sound = λ h. absurd cc; whole = λ q. q.3 } }
any_at_law h x (Sparse r l) w a b =
    let row = row_part h x.rows r in
    record { yes = _; is = refl; decides = sparse.any_of_law row l (listed_rising h row l w) a b }
any_at_law h x (Dense p) w a b =
    let page = page_part h x.pages p in
    record {
      yes = _;
      is = refl;
      decides = same_of (any_decides page a b) (λ q. (q.0, q.1, q.2, one_is_set page q.0 q.3)) (λ q. (q.0, q.1, q.2, is_set_one page q.0 q.3));
    }

-- ---- entries

-- entry e has an id in lo to hi
record Between (x : Mem) (lo hi e : ℕ) : Type 0 where
  off : ℕ
  inside : off < top (head x)
  low : lo ≤ chunk_by x e * top (head x) + off
  high : chunk_by x e * top (head x) + off ≤ hi
  here : offsets (head x) x (place_at (head x) x.table e) off ≡ true

module _ {x : Mem} (w : Follows x) (lo hi : ℕ) where
  any_entry_law : (e : ℕ) → e < entries_of x → lo / top (head x) ≤ chunk_by x e → chunk_by x e ≤ hi / top (head x) → Says (any_entry x lo hi e) (Between x lo hi e)
  unfolding any_entry
  any_entry_law e l p q =
      let u = top (head x) in
      let c = chunk_by x e in
      let a = clip_low u lo c in
      let b = clip_high u hi c in
      let first = clip_low_law u lo c (some_ids x) p in
      let last = clip_high_law u hi c (some_ids x) q in
      let s = any_at_law (head x) x (place_at (head x) x.table e) (w.lists e l) a b in
      says_same (record { yes = s.yes; is = ap (any_at x a b) (entry_spot w e l) ∙ s.is; decides = s.decides })
      (λ f.
      let i = f.1 in
      let j = f.2 in
      let m = last.inside in
      let n = first.above in
      let k = last.below in
      record { off = f.0; inside = omega arith; low = omega arith; high = omega arith; here = f.3 })
      (λ f. (f.off, (let i = first.first (c * u + f.off) (omega arith) f.low in omega arith), last.last f.off f.inside f.high, f.here))

  -- some entry of the n from e on
  abbrev Some : ℕ → ℕ → Type 0
  Some n e = (i : ℕ) × (e ≤ i) × (i < e + n) × Between x lo hi i

  -- none once chunks are past hi's
  past : (n e : ℕ) → e + n ≡ entries_of x → hi / top (head x) < chunk_by x e → Some n e → ⊥
  past n e q l s = go (last_or e s.0 (let a = s.1 in omega arith))
    where
      go : (e < s.0) ⊎ (e ≡ s.0) → ⊥
      go (inl m) =
          let r = chunk_rising (head x) x.table (laid_ordered w) e s.0 m (let a = s.2 in omega arith) in
          past_high (top (head x)) hi (chunk_by x s.0) s.3.off (some_ids x) (omega arith) s.3.high
      go (inr m) = past_high (top (head x)) hi (chunk_by x s.0) s.3.off (some_ids x) (let r = ap (chunk_by x) m in omega arith) s.3.high

  any_run_law : (n e : ℕ) → e + n ≡ entries_of x → ((i : ℕ) → e ≤ i → i < entries_of x → lo / top (head x) ≤ chunk_by x i) → Says (any_run x lo hi n e) (Some n e)
  unfolding any_run
  any_run_law zero e q f = no (λ s. let a = s.1 in let b = s.2 in omega arith)
  any_run_law (suc n) e q f = go (leb (chunk_by x e) (hi / top (head x))) refl (any_run_law n (suc e) (omega arith) (λ i a b. f i (omega arith) b))
    where
      split : Some (suc n) e → Between x lo hi e ⊎ Some n (suc e)
      split s = by (last_or e s.0 (let a = s.1 in omega arith))
        where
          by : (e < s.0) ⊎ (e ≡ s.0) → Between x lo hi e ⊎ Some n (suc e)
          by (inl m) = inr (s.0, m, (let b = s.2 in omega arith), s.3)
          by (inr m) = inl (rw m s.3)

      go : (b : Bool) → leb (chunk_by x e) (hi / top (head x)) ≡ b → Says (any_run x lo hi n (suc e)) (Some n (suc e))
          → Says (cond b (or_next (any_entry x lo hi e) (any_run x lo hi n (suc e))) (Ok false)) (Some (suc n) e)
      go true t r =
          or_says (any_entry x lo hi e) (any_run x lo hi n (suc e))
          (any_entry_law e (omega arith) (f e (omega arith) (omega arith)) (leb-true (chunk_by x e) (hi / top (head x)) t))
          r
          (λ s. (e, omega arith, omega arith, s))
          (λ s. (s.0, (let a = s.1 in omega arith), (let b = s.2 in omega arith), s.3))
          split
      go false t r = no (past (suc n) e q (leb-false (chunk_by x e) (hi / top (head x)) t))

  -- ---- members

  abbrev Member : Type 0
  Member = (n : ℕ) × (lo ≤ n) × (n ≤ hi) × (holds x n ≡ true)

  any_from_law : Says (any_from x lo hi) Member
  unfolding any_from
  any_from_law =
      let u = top (head x) in
      let k = entry_from x (lo / u) in
      let cut = from_cut w (lo / u) in
      says_same (any_run_law (entries_of x - k) k (let a = cut.fits in omega arith) cut.after)
      (λ s. (chunk_by x s.0 * u + s.3.off, s.3.low, s.3.high, holds_entry w s.0 s.3.off (let a = cut.fits in let b = s.2 in omega arith) s.3.inside ∙ s.3.here))
      back
    where
      back : Member → Some (entries_of x - entry_from x (lo / top (head x))) (entry_from x (lo / top (head x)))
      back m =
          let u = top (head x) in
          let k = entry_from x (lo / u) in
          let cut = from_cut w (lo / u) in
          let f = member_entry w m.0 m.3 in
          let e = f.0 in
          let i = f.1 in
          let q = entry_id i in
          let o = m.0 % u in
          let l = mod-lt m.0 (some_ids x) in (
            e,
            from e i (ltb e k) refl,
            (let a = i.there in let b = cut.fits in omega arith),
            record {
              off = o;
              inside = l;
              low = (let a = m.1 in omega arith);
              high = (let a = m.2 in omega arith);
              here = sym (holds_entry w e o i.there l) ∙ ap (holds x) q ∙ m.3;
            },
          )
        where
          from : (e : ℕ) → Entry x m.0 e → (b : Bool) → ltb e (entry_from x (lo / top (head x))) ≡ b → entry_from x (lo / top (head x)) ≤ e
          from e i true t =
              let a = (from_cut w (lo / top (head x))).before e (ltb-true e (entry_from x (lo / top (head x))) t) in
              let b = i.chunk in
              absurd (chunk_mono (top (head x)) lo m.0 (some_ids x) m.1 (omega arith))
          from e i false t = ltb-false e (entry_from x (lo / top (head x))) t

-- ---- the plain set's answer

count_between : (P : Ids) (lo hi : ℕ) → Decides (ltb (count P lo) (count P (suc hi))) ((n : ℕ) × (lo ≤ n) × (n ≤ hi) × (P n ≡ true))
count_between P lo hi = record {
  sound = λ h. let f = count_some P lo (suc hi) (ltb-true (count P lo) (count P (suc hi)) h) in (f.0, f.1, (let a = f.2 in omega arith), f.3);
  whole = λ f.
      lt-ltb (count P lo) (count P (suc hi))
      (let a = f.2 in
      let b = count_mono P lo f.0 f.1 in
      let c = count_mono P (suc f.0) (suc hi) (omega arith) in
      omega (arith, count_member P f.0 f.3));
}

module _ {x : Mem} (w : Follows x) where
  from_is : (lo hi : ℕ) → any_from x lo hi ≡ Ok (ltb (count (holds x) lo) (count (holds x) (suc hi)))
  from_is lo hi = let s = any_from_law w lo hi in s.is ∙ ap Ok (same_test s.decides (count_between (holds x) lo hi))

  of_is : (lo hi : ℤ) → any_of x lo hi ≡ Ok (any_in_range (holds x) lo hi)
  unfolding any_in_range rank
  of_is (pos a) (pos b) = go (ltb b a) refl
    where
      go : (t : Bool) → ltb b a ≡ t → cond t (Ok false) (any_from x a b) ≡ Ok (ltb (count (holds x) a) (count (holds x) (suc b)))
      go true e =
          let l = ltb-true b a e in
          ap Ok (sym (le-ltb (count (holds x) a) (count (holds x) (suc b)) (count_mono (holds x) (suc b) a (omega arith))))
      go false e = from_is a b
  of_is (negsuc a) (pos b) = from_is 0 b ∙ ap (λ (n : ℕ). Ok (ltb n (count (holds x) (suc b)))) (count_zero (holds x))
  of_is (pos a) (negsuc zero) = ap Ok (sym (le-ltb (count (holds x) a) (count (holds x) 0) (omega (arith, count_zero (holds x)))))
  of_is (pos a) (negsuc (suc b)) = ap Ok (sym (le-ltb (count (holds x) a) 0 (omega arith)))
  of_is (negsuc a) (negsuc zero) = ap Ok (sym (le-ltb 0 (count (holds x) 0) (omega (arith, count_zero (holds x)))))
  of_is (negsuc a) (negsuc (suc b)) = refl

  pub any_in_range_is : (lo hi : ℤ) → any_by x lo hi ≡ Ok (any_in_range (holds x) lo hi)
  unfolding any_by
  any_in_range_is lo hi = ap (λ (b : Bool). cond b (any_of x lo hi) (Err not_laid_out)) (entries_fit w) ∙ of_is lo hi
