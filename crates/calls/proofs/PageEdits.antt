-- A page that gets a row's members and a new offset: its bits, for every offset of a chunk. Assumes nothing.
use mathlib.Core.Path.{◌≡◌, refl, sym, ap, ◌∙◌}
use mathlib.Core.Logic.{◌⊎◌, inl, inr}
use mathlib.Core.List.{List}
use mathlib.Core.Bool.{Bool, true, false, ◌||◌}
use Prim.Native.Nat.{ℕ, ◌*◌, ◌%◌, ◌≤◌, ◌<◌}
use native.Mathlib.Nat.{mod-eq_of_lt}
use native.Mathlib.Omega.{arith}
use lib.ListN.{length, get_or, take, drop, replicate, length-replicate, get_or-replicate}
use lib.Pow.{pow_pos}
use lib.Seq.{ext_get_or}
use lib.Dec.{eqb}
use borrow.Author.Tests.{eqb-true, eqb-false, eq-eqb, ne_eqb}
use Rattle.sparse.specs.Row.{row_of, member}
use Rattle.sparse.proofs.Rows.{same_test, member_of}
use Rattle.dense.specs.Bits.{bit, is_set, with_bit, with_row}
use Rattle.dense.proofs.Bits.{bit_zeros, length_with, length_row, row_decides}
use Rattle.dense.proofs.Sets.{is_set_with}
use Rattle.document.specs.Sizes.{InRange, top}
use Rattle.layout.specs.Sizes.{wide}
use Rattle.layout.specs.Follows.{AllZero, Listed}
use Rattle.document.specs.declared.sizes.Sizes.{Sizes}
use Rattle.layout_laws.proofs.Sizes.{wide_top, slot_inside, part_at, part_length}

-- ---- one bit set

or_false : (b : Bool) → (b || false) ≡ b
or_false true = refl
or_false false = refl

or_true : (b : Bool) → (b || true) ≡ true
or_true true = refl
or_true false = refl

pub set_with : (ws : List ℕ) (o i : ℕ) → o < 64 * length ws → is_set (with_bit ws o) i ≡ (is_set ws i || eqb o i)
set_with ws o i l = is_set_with ws o i l ∙ go (eqb o i) refl
  where
    go : (b : Bool) → eqb o i ≡ b → (eqb i o || is_set ws i) ≡ (is_set ws i || b)
    go true e = ap (λ (t : Bool). t || is_set ws i) (eq-eqb i o (sym (eqb-true o i e))) ∙ sym (or_true (is_set ws i))
    go false e = ap (λ (t : Bool). t || is_set ws i) (ne_eqb i o (λ q. eqb-false o i e (sym q))) ∙ sym (or_false (is_set ws i))

-- ---- a free page

pub free_bits : (xs : List ℕ) (i n k : ℕ) → i < n → n * k ≤ length xs → AllZero xs (i * k) k → (o : ℕ) → bit (take k (drop (i * k) xs)) o ≡ 0
free_bits xs i n k l r z o =
    let s = slot_inside i n k l in
    let long = part_length xs (i * k) k (omega arith) in
    let zeros : take k (drop (i * k) xs) ≡ replicate k 0 =
    ext_get_or 0 (take k (drop (i * k) xs)) (replicate k 0) (long ∙ sym (length-replicate {A = ℕ} k 0))
    (λ j m. part_at xs (i * k) k j (omega arith) ∙ z j (omega arith) ∙ sym (get_or-replicate {A = ℕ} k j 0 0 (omega arith))) in
    ap (λ (ws : List ℕ). bit ws o) zeros ∙ bit_zeros k o

-- ---- a row's members in a free page

module _ (h : Sizes) (z : InRange h) (page row : List ℕ) (l : ℕ) (long : length page ≡ wide h) (clear : (o : ℕ) → bit page o ≡ 0) (w : Listed h row l) where
  abbrev filled : List ℕ
  filled = with_row page row (top h) l

  pub length_filled : length filled ≡ wide h
  length_filled = length_row page row (top h) l ∙ long

  place_is : (i : ℕ) → i < l → get_or row i 0 % top h ≡ get_or row i 0
  place_is i m = mod-eq_of_lt (w.below i m)

  pub set_filled : (o : ℕ) → is_set filled o ≡ member (row_of row) l o
  set_filled o =
      let t = wide_top h z in
      same_test (is_set filled o) (member (row_of row) l o)
      (row_decides page row (top h) (omega arith) (pow_pos h.s) l o)
      (member_of (row_of row) l o)
      to
      (λ q. inr (q.0, q.1, place_is q.0 q.1 ∙ q.2))
    where
      to : (bit page o ≡ 1) ⊎ ((i : ℕ) × (i < l) × (get_or row i 0 % top h ≡ o)) → (i : ℕ) × (i < l) × (get_or row i 0 ≡ o)
      to (inl e) = absurd (let c = clear o in omega arith)
      to (inr q) = (q.0, q.1, sym (place_is q.0 q.1) ∙ q.2)

  -- and a new offset
  pub set_turned : (o : ℕ) → o < top h → (i : ℕ) → is_set (with_bit filled o) i ≡ (member (row_of row) l i || eqb o i)
  set_turned o m i =
      let t = wide_top h z in
      let n = length_filled in
      set_with filled o i (omega arith) ∙ ap (λ (b : Bool). b || eqb o i) (set_filled i)

  pub length_turned : (o : ℕ) → length (with_bit filled o) ≡ wide h
  length_turned o = length_with filled o ∙ length_filled
