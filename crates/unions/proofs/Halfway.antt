-- The set between the passes: chunks whose result is dense are as in the union, all others as they were. Assumes nothing.
use mathlib.Core.Path.{◌≡◌, refl, sym, ap, ap₂, ◌∙◌}
use mathlib.Core.Bool.{Bool, true, false, cond, ◌||◌}
use Prim.Native.Nat.{ℕ, ◌+◌, ◌*◌, ◌/◌, ◌%◌}
use lib.Dec.{leb}
use lib.Pow.{high}
use Rattle.sums.specs.Ids.{count}
use Rattle.sums.proofs.Counts.{count_ext}
use Rattle.document.specs.Sizes.{top}
use Rattle.document.specs.State.{Kind, absent, sparse, dense, is_present, is_sparse, is_dense, State}
use Rattle.document.specs.Union.{either, union_size, joined, union_map, same_shape, united}
use Rattle.document.specs.declared.sizes.Sizes.{Sizes}
use Rattle.layout.specs.Mem.{Mem}
use Rattle.layout.specs.Sizes.{head}
use Rattle.layout.specs.Entries.{place_of}
use Rattle.layout.specs.Meaning.{offsets, holds, kinds, state_of}
use Rattle.layout.specs.declared.place.Place.{Place}
use Rattle.layout.specs.declared.place.Place.TheVariants.{Absent}
use Rattle.unions.proofs.Results.{same_top, result_kept}
use Rattle.unions.proofs.Partly.{Has, Alike}
use Rattle.std.specs.Prelude.{Ok}

abbrev pub halfway : State → State → State
halfway q p = record {
  sizes = q.sizes;
  mode = q.mode;
  members = λ (n : ℕ). cond (is_dense (union_map q p (n / top q.sizes))) (either q.members p.members n) (q.members n);
  map = λ (c : ℕ). cond (is_dense (union_map q p c)) dense (q.map c);
}

-- ---- kinds: nothing that is there goes

joined_present : (a b : Kind) (n m : ℕ) → is_present a ≡ true → is_present (joined a b n m) ≡ true
joined_present absent b n m e = absurd cc
joined_present sparse absent n m e = refl
joined_present sparse sparse n m e = go (leb n m)
  where
    go : (t : Bool) → is_present (cond t sparse dense) ≡ true
    go true = refl
    go false = refl
joined_present sparse dense n m e = refl
joined_present dense b n m e = refl

joined_dense : (a b : Kind) (n m : ℕ) → is_dense a ≡ true → is_dense (joined a b n m) ≡ true
joined_dense absent b n m e = absurd cc
joined_dense sparse b n m e = absurd cc
joined_dense dense b n m e = refl

joined_there : (a b : Kind) (n m : ℕ) → is_dense b ≡ true → is_dense (joined a b n m) ≡ true
joined_there absent b n m e = e
joined_there sparse absent n m e = e
joined_there sparse sparse n m e = absurd cc
joined_there sparse dense n m e = refl
joined_there dense b n m e = refl

-- present, and not dense
sparse_of : (k : Kind) → is_present k ≡ true → is_dense k ≡ false → is_sparse k ≡ true
sparse_of absent p d = absurd cc
sparse_of sparse p d = refl
sparse_of dense p d = absurd cc

sparse_present : (k : Kind) → is_sparse k ≡ true → is_present k ≡ true
sparse_present absent e = absurd cc
sparse_present sparse e = refl
sparse_present dense e = absurd cc

pub dense_present : (k : Kind) → is_dense k ≡ true → is_present k ≡ true
dense_present absent e = absurd cc
dense_present sparse e = absurd cc
dense_present dense e = refl

pub dense_is : (k : Kind) → is_dense k ≡ true → dense ≡ k
dense_is absent e = absurd cc
dense_is sparse e = absurd cc
dense_is dense e = refl

module _ (q p : State) (c : ℕ) where
  abbrev after : Kind
  after = union_map q p c

  pub after_present : is_present (q.map c) ≡ true → is_present (union_map q p c) ≡ true
  unfolding union_map
  after_present = joined_present (q.map c) (p.map c) (union_size q p c) q.sizes.m

  pub after_dense : is_dense (q.map c) ≡ true → is_dense (union_map q p c) ≡ true
  unfolding union_map
  after_dense = joined_dense (q.map c) (p.map c) (union_size q p c) q.sizes.m

  -- a dense source
  pub after_there : is_dense (p.map c) ≡ true → is_dense (union_map q p c) ≡ true
  unfolding union_map
  after_there = joined_there (q.map c) (p.map c) (union_size q p c) q.sizes.m

  pub half_present : is_present ((halfway q p).map c) ≡ true → is_present (union_map q p c) ≡ true
  half_present e = go (is_dense after) refl e
    where
      go : (b : Bool) → is_dense after ≡ b → is_present (cond b dense (q.map c)) ≡ true → is_present after ≡ true
      go true d e = dense_present after d
      go false d e = after_present e

  pub half_dense : is_dense ((halfway q p).map c) ≡ true → is_dense (union_map q p c) ≡ true
  half_dense e = go (is_dense after) refl e
    where
      go : (b : Bool) → is_dense after ≡ b → is_dense (cond b dense (q.map c)) ≡ true → is_dense after ≡ true
      go true d e = d
      go false d e = after_dense e

  -- one that is not dense by now never is
  pub half_clear : is_dense ((halfway q p).map c) ≡ false → is_dense (union_map q p c) ≡ false
  half_clear e = go (is_dense after) refl e
    where
      go : (b : Bool) → is_dense after ≡ b → is_dense (cond b dense (q.map c)) ≡ false → is_dense after ≡ false
      go true d e = absurd cc
      go false d e = d

  pub half_sparse : is_sparse ((halfway q p).map c) ≡ true → is_sparse (union_map q p c) ≡ true
  half_sparse e = go (is_dense after) refl e
    where
      go : (b : Bool) → is_dense after ≡ b → is_sparse (cond b dense (q.map c)) ≡ true → is_sparse after ≡ true
      go true d e = absurd cc
      go false d e = sparse_of after (after_present (sparse_present (q.map c) e)) d

-- ---- chunk i: as it was, halfway, in the union

module _ (x y : Mem) (i : ℕ) where
  abbrev q : State
  q = state_of x

  abbrev p : State
  p = state_of y

  abbrev to_be : Kind
  to_be = union_map q p i

  -- its test
  test_at : (n : ℕ) → n / top (head x) ≡ i → is_dense (union_map q p (n / top (head x))) ≡ is_dense to_be
  test_at n e = ap (λ (c : ℕ). is_dense (union_map q p c)) e

  -- one that stays sparse, or absent
  pub half_not : is_dense (union_map (state_of x) (state_of y) i) ≡ false → Alike (head x) i (state_of x) (halfway (state_of x) (state_of y))
  half_not d = record {
    kind = sym (ap (λ (b : Bool). cond b dense (kinds x i)) d);
    members = λ n e. sym (ap (λ (b : Bool). cond b (either (holds x) (holds y) n) (holds x n)) (test_at n e ∙ d));
  }

  -- one that becomes dense
  pub half_all : is_dense (union_map (state_of x) (state_of y) i) ≡ true → Alike (head x) i (halfway (state_of x) (state_of y)) (united (state_of x) (state_of y) (Ok tt))
  half_all d = record {
    kind = ap (λ (b : Bool). cond b dense (kinds x i)) d ∙ dense_is to_be d;
    members = λ n e. ap (λ (b : Bool). cond b (either (holds x) (holds y) n) (holds x n)) (test_at n e ∙ d);
  }

  -- ---- one that the source does not have

  module _ (same : same_shape (head x) (head y) ≡ true) (none : place_of (head y) y.table i ≡ Absent) where
    none_holds : (n : ℕ) → n / top (head x) ≡ i → holds y n ≡ false
    unfolding holds
    none_holds n e =
        ap (λ (c : Place). offsets (head y) y c (n % top (head y)))
        (ap (place_of (head y) y.table) (ap (λ (t : ℕ). n / t) (sym (same_top x y same)) ∙ e) ∙ none)

    or_none : (b : Bool) → (b || false) ≡ b
    or_none true = refl
    or_none false = refl

    either_none : (n : ℕ) → n / top (head x) ≡ i → either (holds x) (holds y) n ≡ holds x n
    unfolding either
    either_none n e = ap (λ (b : Bool). holds x n || b) (none_holds n e) ∙ or_none (holds x n)

    same_kind : (b : Bool) → is_dense to_be ≡ b → cond b dense (kinds x i) ≡ kinds x i
    same_kind true d = dense_is to_be d ∙ result_kept x y i none
    same_kind false d = refl

    same_if : (n : ℕ) → n / top (head x) ≡ i → (b : Bool) → cond b (either (holds x) (holds y) n) (holds x n) ≡ holds x n
    same_if n e true = either_none n e
    same_if n e false = refl

    pub half_none : Alike (head x) i (state_of x) (halfway (state_of x) (state_of y))
    half_none = record {
      kind = sym (same_kind (is_dense to_be) refl);
      members = λ n e. sym (same_if n e (is_dense (union_map q p (n / top (head x)))));
    }

    pub all_none : Alike (head x) i (halfway (state_of x) (state_of y)) (united (state_of x) (state_of y) (Ok tt))
    all_none = record {
      kind = same_kind (is_dense to_be) refl ∙ sym (result_kept x y i none);
      members = λ n e. same_if n e (is_dense (union_map q p (n / top (head x)))) ∙ sym (either_none n e);
    }

-- ---- a chunk that is as it was: its union is that of the sets before

module _ (x y z : Mem) (same : same_shape (head x) (head y) ≡ true) (sizes : head z ≡ head x) (c : ℕ) (has : Has z c (state_of x)) where
  pub size_still : union_size (state_of z) (state_of y) c ≡ union_size (state_of x) (state_of y) c
  unfolding union_size either
  size_still =
      count_ext (λ (o : ℕ). holds z (c * top (head z) + o) || holds y (c * top (head z) + o))
      (λ (o : ℕ). holds x (c * top (head z) + o) || holds y (c * top (head z) + o)) (top (head z))
      (λ o l. ap (λ (b : Bool). b || holds y (c * top (head z) + o)) (has.members (c * top (head z) + o) (high c (head z).s l)))
      ∙ ap (λ (h : Sizes). count (λ (o : ℕ). holds x (c * top h + o) || holds y (c * top h + o)) (top h)) sizes

  pub map_still : union_map (state_of z) (state_of y) c ≡ union_map (state_of x) (state_of y) c
  unfolding union_map
  map_still =
      ap₂ (λ (k : Kind) (n : ℕ). joined k (kinds y c) n (head z).m) has.kind size_still
      ∙ ap (λ (h : Sizes). joined (kinds x c) (kinds y c) (union_size (state_of x) (state_of y) c) h.m) sizes

  -- what it has here and there
  pub members_still : (n : ℕ) → n / top (head z) ≡ c
      → (offsets (head z) z (place_of (head z) z.table c) (n % top (head z)) || offsets (head y) y (place_of (head y) y.table c) (n % top (head z)))
      ≡ either (holds x) (holds y) n
  unfolding holds either
  members_still n e =
      let t : top (head z) ≡ top (head y) = ap top sizes ∙ same_top x y same in
      ap₂ ◌||◌
      (ap (λ (i : ℕ). offsets (head z) z (place_of (head z) z.table i) (n % top (head z))) (sym e) ∙ has.members n e)
      (ap₂ (λ (i u : ℕ). offsets (head y) y (place_of (head y) y.table i) (n % u)) (sym e ∙ ap (λ (u : ℕ). n / u) t) t)
