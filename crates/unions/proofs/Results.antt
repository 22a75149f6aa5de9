-- A chunk of the union, by where it stands here and there: its members, how many they are, and its kind. Assumes nothing.
use mathlib.Core.Path.{◌≡◌, refl, sym, ap, ap₂, subst, ◌∙◌}
use mathlib.Core.List.{List}
use mathlib.Core.Bool.{Bool, true, false, cond, ◌||◌}
use Prim.Native.Nat.{ℕ, ◌+◌, ◌-◌, ◌*◌, ◌^◌, ◌<◌}
use native.Mathlib.Omega.{arith}
use lib.Dec.{leb, ltb, eqb}
use lib.ListN.{length, get_or, take, length-take}
use lib.Seq.{get_or-take}
use borrow.Author.Tests.{eqb-true, leb-true, leb-false, lt-ltb, le-ltb}
use Rattle.sums.specs.Ids.{count}
use Rattle.sums.proofs.Counts.{count_ext}
use Rattle.sums.proofs.Rules.{both}
use Rattle.sparse.specs.Row.{row_of, member, Rising}
use Rattle.sparse.proofs.Rows.{member_ext, member_total, rising_ext}
use Rattle.sparse.proofs.Unions.{among, member_union, small_union, rising_union}
use Rattle.document.specs.Sizes.{top, last_chunk}
use Rattle.document.specs.State as state
use Rattle.document.specs.State.{Kind, absent, sparse, dense}
use Rattle.document.specs.Union.{either, union_size, joined, union_map, same_shape}
use Rattle.layout.specs.Mem.{Mem}
use Rattle.layout.specs.Sizes.{head}
use Rattle.layout.specs.Places.{row_part}
use Rattle.layout.specs.Entries.{place_of}
use Rattle.layout.specs.Meaning.{offsets, holds, kind_of, kinds, state_of}
use Rattle.layout.specs.Follows.{Listed, RowListed, Follows}
use Rattle.layout.specs.declared.place.Place.{Place}
use Rattle.layout.specs.declared.place.Place.TheVariants.{Absent, Sparse, Dense}
use Rattle.layout_laws.proofs.Sizes.{row_length}
use Rattle.layout_laws.proofs.Walked.{laid_walked}
use Rattle.layout_laws.proofs.Owners.{row_of_law}
use Rattle.layout_laws.proofs.Members.{holds_at, listed_rising, listed_of}
use Rattle.unions.specs.Union.{is_placed, rows_union, union_dense}

-- ---- the offsets of one sparse chunk, as a list

abbrev pub offsets_of : Mem → ℕ → ℕ → List ℕ
offsets_of x r l = take l (row_part (head x) x.rows r)

module _ {x : Mem} (w : Follows x) (c r l : ℕ) (e : place_of (head x) x.table c ≡ Sparse r l) where
  row_listed : Listed (head x) (row_part (head x) x.rows r) l
  row_listed = subst (RowListed (head x) x.rows) e (listed_of w c)

  offset_at : (j : ℕ) → j < l → get_or (row_part (head x) x.rows r) j 0 ≡ get_or (offsets_of x r l) j 0
  offset_at j m = sym (get_or-take l (row_part (head x) x.rows r) j 0 m)

  pub offsets_length : length (offsets_of x r l) ≡ l
  offsets_length =
      let o = row_of_law (laid_walked w) c r l e in
      let a = row_length (head x) x w.room r o.there in
      let b = o.short in
      let t = length-take l (row_part (head x) x.rows r) in
      omega arith

  pub offsets_rise : Rising (row_of (offsets_of x r l)) (length (offsets_of x r l))
  offsets_rise =
      subst (Rising (row_of (offsets_of x r l))) (sym offsets_length)
      (rising_ext (row_of (row_part (head x) x.rows r)) (row_of (offsets_of x r l)) l offset_at
      (listed_rising (head x) (row_part (head x) x.rows r) l row_listed))

  pub offsets_below : (j : ℕ) → j < length (offsets_of x r l) → get_or (offsets_of x r l) j 0 < top (head x)
  offsets_below j m =
      let n = offsets_length in
      let a = offset_at j (omega arith) in
      let b = row_listed.below j (omega arith) in
      omega arith

  pub offsets_among : (o : ℕ) → among (offsets_of x r l) o ≡ offsets (head x) x (Sparse r l) o
  offsets_among o =
      ap (λ (n : ℕ). member (row_of (offsets_of x r l)) n o) offsets_length
      ∙ sym (member_ext (row_of (row_part (head x) x.rows r)) (row_of (offsets_of x r l)) l o offset_at)

-- ---- two memories of one shape

module _ (x y : Mem) (same : same_shape (head x) (head y) ≡ true) where
  shapes : (eqb (head x).s (head y).s ≡ true) × (eqb (head x).m (head y).m ≡ true)
  shapes = both (eqb (head x).s (head y).s) (eqb (head x).m (head y).m) same

  pub same_s : (head x).s ≡ (head y).s
  same_s = eqb-true (head x).s (head y).s shapes.0

  pub same_m : (head x).m ≡ (head y).m
  same_m = eqb-true (head x).m (head y).m shapes.1

  pub same_top : top (head x) ≡ top (head y)
  same_top = ap (λ (s : ℕ). 2 ^ s) same_s

  pub same_last : last_chunk (head x) ≡ last_chunk (head y)
  same_last = ap (λ (s : ℕ). 2 ^ (63 - s)) same_s

  -- offset o of chunk c of the union
  pub either_at : (c o : ℕ) → o < top (head x)
      → either (holds x) (holds y) (c * top (head x) + o)
      ≡ (offsets (head x) x (place_of (head x) x.table c) o || offsets (head y) y (place_of (head y) y.table c) o)
  unfolding either
  either_at c o l =
      ap₂ ◌||◌ (holds_at x c o l) (ap (λ (t : ℕ). holds y (c * t + o)) same_top ∙ holds_at y c o (let t = same_top in omega arith))

  pub union_size_law : (c : ℕ)
      → union_size (state_of x) (state_of y) c
      ≡ count (λ (o : ℕ). offsets (head x) x (place_of (head x) x.table c) o || offsets (head y) y (place_of (head y) y.table c) o) (top (head x))
  unfolding union_size
  union_size_law c =
      count_ext (λ (o : ℕ). either (holds x) (holds y) (c * top (head x) + o))
      (λ (o : ℕ). offsets (head x) x (place_of (head x) x.table c) o || offsets (head y) y (place_of (head y) y.table c) o) (top (head x)) (either_at c)

-- ---- sparse here and there

module _ {x y : Mem} (w : Follows x) (v : Follows y) (same : same_shape (head x) (head y) ≡ true) (c r l i k : ℕ)
    (here : place_of (head x) x.table c ≡ Sparse r l) (there : place_of (head y) y.table c ≡ Sparse i k) where
  pub rows_rise : Rising (row_of (rows_union x y r l i k)) (length (rows_union x y r l i k))
  rows_rise = rising_union (offsets_of x r l) (offsets_of y i k) (offsets_rise w c r l here) (offsets_rise v c i k there)

  pub rows_below : (j : ℕ) → j < length (rows_union x y r l i k) → get_or (rows_union x y r l i k) j 0 < top (head x)
  rows_below =
      small_union (top (head x)) (offsets_of x r l) (offsets_of y i k) (offsets_below w c r l here)
      (λ j m. let t = same_top x y same in let b = offsets_below v c i k there j m in omega arith)

  pub rows_among : (o : ℕ) → among (rows_union x y r l i k) o ≡ (offsets (head x) x (Sparse r l) o || offsets (head y) y (Sparse i k) o)
  rows_among o = member_union o (offsets_of x r l) (offsets_of y i k) ∙ ap₂ ◌||◌ (offsets_among w c r l here o) (offsets_among v c i k there o)

  pub rows_size : union_size (state_of x) (state_of y) c ≡ length (rows_union x y r l i k)
  rows_size =
      union_size_law x y same c
      ∙ count_ext (λ (o : ℕ). offsets (head x) x (place_of (head x) x.table c) o || offsets (head y) y (place_of (head y) y.table c) o)
      (among (rows_union x y r l i k)) (top (head x))
      (λ o m. ap₂ (λ (p q : Place). offsets (head x) x p o || offsets (head y) y q o) here there ∙ sym (rows_among o))
      ∙ member_total (row_of (rows_union x y r l i k)) (length (rows_union x y r l i k)) (top (head x)) rows_rise rows_below

-- ---- the kind

-- up to m members
sparse_up_to : (n m : ℕ) → cond (leb n m) sparse dense ≡ cond (ltb m n) dense sparse
sparse_up_to n m = go (leb n m) refl
  where
    go : (b : Bool) → leb n m ≡ b → cond b sparse dense ≡ cond (ltb m n) dense sparse
    go true e = ap (λ (b : Bool). cond b dense sparse) (sym (le-ltb m n (leb-true n m e)))
    go false e = ap (λ (b : Bool). cond b dense sparse) (sym (lt-ltb m n (leb-false n m e)))

dense_if : (b : Bool) → state.is_dense (cond b dense sparse) ≡ b
dense_if true = refl
dense_if false = refl

module _ {x y : Mem} (w : Follows x) (v : Follows y) (same : same_shape (head x) (head y) ≡ true) (c : ℕ) where
  abbrev here : Place
  here = place_of (head x) x.table c

  abbrev there : Place
  there = place_of (head y) y.table c

  kind_by : (o q : Place) → here ≡ o → there ≡ q → is_placed q ≡ true
      → joined (kind_of o) (kind_of q) (union_size (state_of x) (state_of y) c) (head x).m ≡ cond (union_dense x y o q) dense sparse
  kind_by o Absent a b p = absurd cc
  kind_by Absent (Sparse i k) a b p = refl
  kind_by (Sparse r l) (Sparse i k) a b p =
      ap (λ (n : ℕ). cond (leb n (head x).m) sparse dense) (rows_size w v same c r l i k a b) ∙ sparse_up_to (length (rows_union x y r l i k)) (head x).m
  kind_by (Dense p') (Sparse i k) a b p = refl
  kind_by Absent (Dense q) a b p = refl
  kind_by (Sparse r l) (Dense q) a b p = refl
  kind_by (Dense p') (Dense q) a b p = refl

  -- a chunk that the source has
  pub result_kind : is_placed there ≡ true → union_map (state_of x) (state_of y) c ≡ cond (union_dense x y here there) dense sparse
  unfolding union_map kinds
  result_kind p = kind_by here there refl refl p

  pub result_dense : is_placed there ≡ true → union_dense x y here there ≡ state.is_dense (union_map (state_of x) (state_of y) c)
  result_dense p = sym (ap state.is_dense (result_kind p) ∙ dense_if (union_dense x y here there))

-- one that it does not have keeps its kind
joined_absent : (k : Kind) (n m : ℕ) → joined k absent n m ≡ k
joined_absent absent n m = refl
joined_absent sparse n m = refl
joined_absent dense n m = refl

pub result_kept : (x y : Mem) (c : ℕ) → place_of (head y) y.table c ≡ Absent → union_map (state_of x) (state_of y) c ≡ kinds x c
unfolding union_map kinds
result_kept x y c e =
    ap (λ (q : Place). joined (kinds x c) (kind_of q) (union_size (state_of x) (state_of y) c) (head x).m) e
    ∙ joined_absent (kinds x c) (union_size (state_of x) (state_of y) c) (head x).m

-- either way, by places alone
abbrev pub kind_after : Mem → Mem → Place → Place → Kind
kind_after x y o Absent = kind_of o
kind_after x y o (Sparse i k) = cond (union_dense x y o (Sparse i k)) dense sparse
kind_after x y o (Dense p) = dense

dense_there : (x y : Mem) (o : Place) (p : ℕ) → union_dense x y o (Dense p) ≡ true
dense_there x y Absent p = refl
dense_there x y (Sparse r l) p = refl
dense_there x y (Dense q) p = refl

pub result_is : {x y : Mem} → Follows x → Follows y → same_shape (head x) (head y) ≡ true → (c : ℕ)
    → union_map (state_of x) (state_of y) c ≡ kind_after x y (place_of (head x) x.table c) (place_of (head y) y.table c)
unfolding kinds
result_is {x} {y} w v same c = go (place_of (head y) y.table c) refl
  where
    o : Place
    o = place_of (head x) x.table c

    given : (q : Place) → place_of (head y) y.table c ≡ q → is_placed q ≡ true → union_map (state_of x) (state_of y) c ≡ cond (union_dense x y o q) dense sparse
    given q e p = result_kind w v same c (ap is_placed e ∙ p) ∙ ap (λ (i : Place). cond (union_dense x y o i) dense sparse) e

    go : (q : Place) → place_of (head y) y.table c ≡ q → union_map (state_of x) (state_of y) c ≡ kind_after x y o q
    go Absent e = result_kept x y c e
    go (Sparse i k) e = given (Sparse i k) e refl
    go (Dense p) e = given (Dense p) e refl ∙ ap (λ (b : Bool). cond b dense sparse) (dense_there x y o p)
