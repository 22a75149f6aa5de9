-- The second pass: chunks whose result is sparse get there, dense ones are there already. Assumes nothing.
use mathlib.Core.Path.{◌≡◌, refl, sym, ap, ap₂, subst, ◌∙◌}
use mathlib.Core.Logic.{inr}
use mathlib.Core.Bool.{Bool, true, false, cond, ◌||◌}
use Prim.Native.Nat.{ℕ, zero, suc, ◌/◌, ◌%◌, ◌≤◌, ◌<◌}
use native.Mathlib.Omega.{arith}
use lib.ListN.{length}
use borrow.Author.Tests.{ltb-false}
use Rattle.document.specs.Sizes.{top, last_chunk}
use Rattle.document.specs.State as state
use Rattle.document.specs.State.{Kind, sparse, dense, State, is_present, is_sparse}
use Rattle.document.specs.Room.{overflows, sparses}
use Rattle.document.specs.Union.{either, union_map, same_shape, united}
use Rattle.document.specs.declared.sizes.Sizes.{Sizes}
use Rattle.layout.specs.Mem.{Mem}
use Rattle.layout.specs.Sizes.{head}
use Rattle.layout.specs.Entries.{place_of}
use Rattle.layout.specs.Meaning.{offsets, holds, kind_of, kinds, ranked, state_of}
use Rattle.layout.specs.Follows.{Follows}
use Rattle.layout.specs.Lowest.{Moves}
use Rattle.layout.specs.declared.place.Place.{Place}
use Rattle.layout.specs.declared.place.Place.TheVariants.{Absent, Sparse, Dense}
use Rattle.layout_laws.proofs.Walked.{laid_walked}
use Rattle.steps.specs.Effects.{EntryFor}
use Rattle.calls.specs.Insert.{free_row}
use Rattle.layout.proofs.FirstFree.{lowest}
use Rattle.unions.specs.Union.{standing, source, source_chunk, source_entries, is_placed, rows_union, union_dense, sparsely, sparse_to}
use Rattle.unions.proofs.Standing.{standing_is, source_of}
use Rattle.unions.proofs.Results.{result_kind}
use Rattle.unions.proofs.SparseTurns.{copied_turn, rows_turn}
use Rattle.unions.proofs.Rooms.{row_there, entry_there}
use Rattle.unions.proofs.Partly.{Has, Alike, alike_back, has_alike, Goes, goes_nowhere, Partly, partly_kinds, partly_next, partly_more}
use Rattle.unions.proofs.Halfway.{halfway, after_there, half_present, half_dense, half_clear, half_sparse}
use Rattle.unions.proofs.Halfway.{half_not, half_all, all_none, map_still, members_still}
use Rattle.unions.proofs.FirstPass.{far_still, shape_still, open_still, kind_at}
use Rattle.std.specs.Prelude.{Ok}

module _ (x : Mem) {y : Mem} (mode : ranked x ≡ false) (v : Follows y) (same : same_shape (head x) (head y) ≡ true)
    (over : overflows (head x) (union_map (state_of x) (state_of y)) ≤ (head x).v) (rows : sparses (head x) (union_map (state_of x) (state_of y)) ≤ (head x).r) where
  abbrev map : ℕ → Kind
  map = union_map (state_of x) (state_of y)

  abbrev half : State
  half = halfway (state_of x) (state_of y)

  abbrev whole : State
  whole = united (state_of x) (state_of y) (Ok tt)

  -- ---- a turn

  module _ (e : ℕ) (l : e < source_entries y) (z : Mem) (s : Partly x y half whole e z) where
    abbrev c : ℕ
    c = source_chunk y e

    abbrev f : Follows z
    f = s.follows

    far : c < last_chunk (head z)
    far = far_still x y v same z s.sizes e l

    shape : same_shape (head z) (head y) ≡ true
    shape = shape_still x y v same z s.sizes

    has : Has z c half
    has = partly_next s (laid_walked v) l

    under_present : (i : ℕ) → is_present (kinds z i) ≡ true → is_present (map i) ≡ true
    under_present = partly_kinds s (λ (i : ℕ) (k : Kind). is_present k ≡ true → is_present (map i) ≡ true) (half_present (state_of x) (state_of y)) (λ i a. a)

    under_sparse : (i : ℕ) → is_sparse (kinds z i) ≡ true → is_sparse (map i) ≡ true
    under_sparse = partly_kinds s (λ (i : ℕ) (k : Kind). is_sparse k ≡ true → is_sparse (map i) ≡ true) (half_sparse (state_of x) (state_of y)) (λ i a. a)

    -- ---- one that is there already

    stays : Alike (head x) c half whole → Goes sparse z z c whole
    stays a = goes_nowhere f (has_alike has (subst (λ (h : Sizes). Alike h c half whole) (sym s.sizes) a))

    -- ---- one that becomes or stays sparse

    module _ (o : Place) (at : place_of (head z) z.table c ≡ o) (clear : state.is_dense (kind_of o) ≡ false) (i k : ℕ)
        (from : place_of (head y) y.table c ≡ Sparse i k) where
      -- it is as it was before the call
      was : Has z c (state_of x)
      was =
          has_alike has
          (subst (λ (h : Sizes). Alike h c half (state_of x)) (sym s.sizes)
          (alike_back (half_not x y c (half_clear (state_of x) (state_of y) c (ap state.is_dense (sym has.kind ∙ kind_at z c o at) ∙ clear)))))

      not_dense : state.is_dense (map c) ≡ false
      not_dense = half_clear (state_of x) (state_of y) c (ap state.is_dense (sym has.kind ∙ kind_at z c o at) ∙ clear)

      result : cond (union_dense z y o (Sparse i k)) dense sparse ≡ map c
      result =
          ap₂ (λ (u j : Place). cond (union_dense z y u j) dense sparse) (sym at) (sym from)
          ∙ sym (result_kind f v shape c (ap is_placed from))
          ∙ map_still x y z same s.sizes c was

      stays_sparse : union_dense z y o (Sparse i k) ≡ false
      stays_sparse = go (union_dense z y o (Sparse i k)) result
        where
          go : (b : Bool) → cond b dense sparse ≡ map c → b ≡ false
          go true g = absurd (let d = ap state.is_dense g ∙ not_dense in cc)
          go false g = refl

      sparse_is : sparse ≡ map c
      sparse_is = ap (λ (b : Bool). cond b dense sparse) (sym stays_sparse) ∙ result

      members : (n : ℕ) → n / top (head z) ≡ c
          → (offsets (head z) z o (n % top (head z)) || offsets (head y) y (Sparse i k) (n % top (head z))) ≡ either (holds x) (holds y) n
      members n g =
          ap₂ (λ (u j : Place). offsets (head z) z u (n % top (head z)) || offsets (head y) y j (n % top (head z))) (sym at) (sym from)
          ∙ members_still x y z same s.sizes c was n g

    begins : place_of (head z) z.table c ≡ Absent → (i k : ℕ) → place_of (head y) y.table c ≡ Sparse i k
        → Goes sparse z (sparsely z y c Absent (Sparse i k)) c whole
    begins at i k from =
        record {
          place = Sparse (free_row z) k;
          inside = offsets (head y) y (Sparse i k);
          becomes = copied_turn f (open_still x z s.mode mode) v shape c far i k from at there entry;
          moves = subst (λ (u : Place). Moves z u (Sparse (free_row z) k)) (sym at) (lowest f.rows_full_to there);
          lands = inr refl;
          kind = is;
          members = members Absent at refl i k from;
        }
      where
        is : sparse ≡ map c
        is = sparse_is Absent at refl i k from

        there : free_row z < (head z).r
        there =
            row_there f map c far under_sparse (subst (λ (h : Sizes). sparses h map ≤ h.r) (sym s.sizes) rows) (ap is_sparse (kind_at z c Absent at))
            (ap is_sparse (sym is))

        entry : EntryFor (head z) z.table c
        entry =
            entry_there f map c far under_present (subst (λ (h : Sizes). overflows h map ≤ h.v) (sym s.sizes) over) (ap is_present (kind_at z c Absent at))
            (ap is_present (sym is))

    joins : (r m : ℕ) → place_of (head z) z.table c ≡ Sparse r m → (i k : ℕ) → place_of (head y) y.table c ≡ Sparse i k
        → Goes sparse z (sparsely z y c (Sparse r m) (Sparse i k)) c whole
    joins r m at i k from =
        record {
          place = Sparse r (length (rows_union z y r m i k));
          inside = λ (n : ℕ). offsets (head z) z (Sparse r m) n || offsets (head y) y (Sparse i k) n;
          becomes = rows_turn f (open_still x z s.mode mode) v shape c far i k from r m at
              (ltb-false (head z).m (length (rows_union z y r m i k)) (stays_sparse (Sparse r m) at refl i k from));
          moves = subst (λ (u : Place). Moves z u (Sparse r (length (rows_union z y r m i k)))) (sym at) refl;
          lands = inr refl;
          kind = sparse_is (Sparse r m) at refl i k from;
          members = members (Sparse r m) at refl i k from;
        }

    by_places : (o q : Place) → place_of (head z) z.table c ≡ o → place_of (head y) y.table c ≡ q → Goes sparse z (sparsely z y c o q) c whole
    by_places o Absent at from = stays (all_none x y c same from)
    by_places o (Dense p) at from = stays (half_all x y c (after_there (state_of x) (state_of y) c (ap state.is_dense (kind_at y c (Dense p) from))))
    by_places Absent (Sparse i k) at from = begins at i k from
    by_places (Sparse r m) (Sparse i k) at from = joins r m at i k from
    by_places (Dense p) (Sparse i k) at from =
        stays (half_all x y c (half_dense (state_of x) (state_of y) c (ap state.is_dense (sym has.kind ∙ kind_at z c (Dense p) at))))

    pub second_turn : Goes sparse z (sparsely z y (source_chunk y e) (standing z (source_chunk y e)) (source y e)) (source_chunk y e) (united (state_of x) (state_of y) (Ok tt))
    second_turn =
        by_places (standing z c) (source y e) (sym (standing_is (laid_walked f) c)) (sym (source_of (laid_walked v) e l))

  -- ---- all of them, after a first pass

  module _ (mid : Mem) (first : Partly x y half whole 0 mid) where
    pub second_pass : (e : ℕ) → e ≤ source_entries y → Partly x y (halfway (state_of x) (state_of y)) (united (state_of x) (state_of y) (Ok tt)) e (sparse_to mid y e)
    unfolding sparse_to
    second_pass zero l = first
    second_pass (suc e) l = go (sparse_to mid y e) (second_pass e (omega arith))
      where
        go : (z : Mem) → Partly x y half whole e z → Partly x y half whole (suc e) (sparsely z y (source_chunk y e) (standing z (source_chunk y e)) (source y e))
        go z s = partly_more s (laid_walked v) (omega arith) (second_turn e (omega arith) z s)
