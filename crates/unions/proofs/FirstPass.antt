-- The first pass: chunks whose result is dense get there, every other waits. Assumes nothing.
use mathlib.Core.Path.{◌≡◌, refl, sym, ap, subst, ◌∙◌}
use mathlib.Core.Logic.{inr}
use mathlib.Core.Bool.{Bool, true, false, cond, ◌||◌}
use Prim.Native.Nat.{ℕ, zero, suc, ◌/◌, ◌%◌, ◌≤◌, ◌<◌}
use native.Mathlib.Omega.{arith}
use lib.Dec.{eqb}
use Rattle.document.specs.Sizes.{top, last_chunk}
use Rattle.document.specs.State as state
use Rattle.document.specs.State.{Kind, dense, State, is_present}
use Rattle.document.specs.Room.{overflows, denses}
use Rattle.document.specs.Union.{either, union_map, same_shape}
use Rattle.document.specs.declared.sizes.Sizes.{Sizes}
use Rattle.layout.specs.Mem.{Mem}
use Rattle.layout.specs.Sizes.{head, mode_at}
use Rattle.layout.specs.Entries.{place_of}
use Rattle.layout.specs.Meaning.{offsets, holds, kind_of, kinds, ranked, state_of}
use Rattle.layout.specs.Follows.{Follows}
use Rattle.layout.specs.Lowest.{Moves}
use Rattle.layout.specs.declared.place.Place.{Place}
use Rattle.layout.specs.declared.place.Place.TheVariants.{Absent, Sparse, Dense}
use Rattle.layout_laws.proofs.Walked.{laid_walked}
use Rattle.layout_laws.proofs.Owners.{page_of_law}
use Rattle.steps.specs.Effects.{EntryFor}
use Rattle.calls.specs.Insert.{free_page}
use Rattle.layout.proofs.FirstFree.{lowest}
use Rattle.unions.specs.Union.{standing, source, source_chunk, source_entries, is_placed, union_dense, page_of, densely, dense_to}
use Rattle.unions.proofs.Standing.{standing_is, source_of, chunk_in}
use Rattle.unions.proofs.Results.{same_last, result_dense}
use Rattle.unions.proofs.DenseTurns.{dense_turn, dense_waits}
use Rattle.unions.proofs.Rooms.{page_there, entry_there}
use Rattle.unions.proofs.Partly.{Has, Alike, has_alike, Goes, goes_nowhere, Partly, partly_kinds, partly_none, partly_next, partly_more}
use Rattle.unions.proofs.Halfway.{halfway, dense_present, after_present, after_dense, half_present, half_dense}
use Rattle.unions.proofs.Halfway.{half_not, half_none, map_still, members_still}

-- ---- a turn's chunk, in memory of the same sizes and mode

module _ (x y : Mem) (v : Follows y) (same : same_shape (head x) (head y) ≡ true) (z : Mem) (sizes : head z ≡ head x) where
  pub far_still : (e : ℕ) → e < source_entries y → source_chunk y e < last_chunk (head z)
  far_still e l =
      subst (λ (h : Sizes). source_chunk y e < last_chunk h) (sym sizes) (let a = chunk_in (laid_walked v) e l in let b = same_last x y same in omega arith)

  pub shape_still : same_shape (head z) (head y) ≡ true
  shape_still = ap (λ (h : Sizes). same_shape h (head y)) sizes ∙ same

pub open_still : (x z : Mem) → mode_at z.table ≡ mode_at x.table → ranked x ≡ false → ranked z ≡ false
open_still x z e mode = ap (λ (m : ℕ). eqb m 1) e ∙ mode

pub kind_at : (z : Mem) (c : ℕ) (o : Place) → place_of (head z) z.table c ≡ o → kinds z c ≡ kind_of o
unfolding kinds
kind_at z c o e = ap kind_of e

pub dense_placed : (x y : Mem) (o q : Place) → union_dense x y o q ≡ true → is_placed q ≡ true
dense_placed x y o Absent d = absurd cc
dense_placed x y o (Sparse i k) d = refl
dense_placed x y o (Dense p) d = refl

module _ {x y : Mem} (w : Follows x) (mode : ranked x ≡ false) (v : Follows y) (same : same_shape (head x) (head y) ≡ true)
    (over : overflows (head x) (union_map (state_of x) (state_of y)) ≤ (head x).v) (pages : denses (head x) (union_map (state_of x) (state_of y)) ≤ (head x).p) where
  abbrev map : ℕ → Kind
  map = union_map (state_of x) (state_of y)

  abbrev half : State
  half = halfway (state_of x) (state_of y)

  -- ---- a turn

  module _ (e : ℕ) (l : e < source_entries y) (z : Mem) (s : Partly x y (state_of x) half e z) where
    abbrev c : ℕ
    c = source_chunk y e

    abbrev q : Place
    q = place_of (head y) y.table c

    abbrev f : Follows z
    f = s.follows

    far : c < last_chunk (head z)
    far = far_still x y v same z s.sizes e l

    shape : same_shape (head z) (head y) ≡ true
    shape = shape_still x y v same z s.sizes

    has : Has z c (state_of x)
    has = partly_next s (laid_walked v) l

    -- the chunk's result, by the places that it has now
    result : is_placed q ≡ true → union_dense z y (place_of (head z) z.table c) q ≡ state.is_dense (map c)
    result p = result_dense f v shape c p ∙ ap state.is_dense (map_still x y z same s.sizes c has)

    under_present : (i : ℕ) → is_present (kinds z i) ≡ true → is_present (map i) ≡ true
    under_present =
        partly_kinds s (λ (i : ℕ) (k : Kind). is_present k ≡ true → is_present (map i) ≡ true) (after_present (state_of x) (state_of y))
        (half_present (state_of x) (state_of y))

    under_dense : (i : ℕ) → state.is_dense (kinds z i) ≡ true → state.is_dense (map i) ≡ true
    under_dense =
        partly_kinds s (λ (i : ℕ) (k : Kind). state.is_dense k ≡ true → state.is_dense (map i) ≡ true) (after_dense (state_of x) (state_of y))
        (half_dense (state_of x) (state_of y))

    -- ---- one that becomes dense

    module _ (o : Place) (at : place_of (head z) z.table c ≡ o) (d : state.is_dense (map c) ≡ true) where
      free : state.is_dense (kind_of o) ≡ false → free_page z < (head z).p
      free n =
          page_there f map c far under_dense (subst (λ (h : Sizes). denses h map ≤ h.p) (sym s.sizes) pages)
          (ap state.is_dense (kind_at z c o at) ∙ n) d

      entry : o ≡ Absent → EntryFor (head z) z.table c
      entry a =
          entry_there f map c far under_present (subst (λ (h : Sizes). overflows h map ≤ h.v) (sym s.sizes) over)
          (ap is_present (kind_at z c Absent (at ∙ a))) (dense_present (map c) d)

    page : (o : Place) → place_of (head z) z.table c ≡ o → state.is_dense (map c) ≡ true → page_of z o < (head z).p
    page Absent at d = free Absent at d refl
    page (Sparse r k) at d = free (Sparse r k) at d refl
    page (Dense p) at d = (page_of_law (laid_walked f) c p at).there

    takes : (o : Place) → page_of z o < (head z).p → Moves z o (Dense (page_of z o))
    takes Absent m = lowest f.pages_full_to m
    takes (Sparse r k) m = lowest f.pages_full_to m
    takes (Dense p) m = refl

    becoming : (o : Place) → place_of (head z) z.table c ≡ o → union_dense z y o q ≡ true → Goes dense z (densely z y c o q) c half
    becoming o at g =
        let p = page o at d in
        record {
          place = Dense (page_of z o);
          inside = λ (n : ℕ). offsets (head z) z o n || offsets (head y) y q n;
          becomes = dense_turn f (open_still x z s.mode mode) c far v shape o q at refl p (entry o at d) g;
          moves = subst (λ (i : Place). Moves z i (Dense (page_of z o))) (sym at) (takes o p);
          lands = inr refl;
          kind = sym (ap (λ (b : Bool). cond b dense (kinds x c)) d);
          members = λ n i.
              ap (λ (u : Place). offsets (head z) z u (n % top (head z)) || offsets (head y) y q (n % top (head z))) (sym at)
              ∙ members_still x y z same s.sizes c has n i
              ∙ sym (ap (λ (b : Bool). cond b (either (holds x) (holds y) n) (holds x n)) (ap (λ (u : ℕ). state.is_dense (map u)) (there n i) ∙ d));
        }
      where
        d : state.is_dense (map c) ≡ true
        d = sym (result (dense_placed z y o q g)) ∙ ap (λ (u : Place). union_dense z y u q) at ∙ g

        there : (n : ℕ) → n / top (head z) ≡ c → n / top (head x) ≡ c
        there n i = ap (λ (h : Sizes). n / top h) (sym s.sizes) ∙ i

    -- ---- any other

    alike : (i : Place) → q ≡ i → union_dense z y (place_of (head z) z.table c) q ≡ false → Alike (head x) c (state_of x) half
    alike Absent a g = half_none x y c same a
    alike (Sparse j k) a g = half_not x y c (sym (result (ap is_placed a)) ∙ g)
    alike (Dense p) a g = half_not x y c (sym (result (ap is_placed a)) ∙ g)

    waiting : union_dense z y (place_of (head z) z.table c) q ≡ false → Goes dense z z c half
    waiting g = goes_nowhere f (has_alike has (subst (λ (h : Sizes). Alike h c (state_of x) half) (sym s.sizes) (alike q refl g)))

    by_places : Goes dense z (densely z y c (place_of (head z) z.table c) q) c half
    by_places = go (union_dense z y (place_of (head z) z.table c) q) refl
      where
        go : (b : Bool) → union_dense z y (place_of (head z) z.table c) q ≡ b → Goes dense z (densely z y c (place_of (head z) z.table c) q) c half
        go true g = becoming (place_of (head z) z.table c) refl g
        go false g = subst (λ (n : Mem). Goes dense z n c half) (sym (dense_waits z y c (place_of (head z) z.table c) q g)) (waiting g)

    pub first_turn : Goes dense z (densely z y (source_chunk y e) (standing z (source_chunk y e)) (source y e)) (source_chunk y e) half
    first_turn =
        subst (λ (o : Place). Goes dense z (densely z y c o (source y e)) c half) (sym (standing_is (laid_walked f) c))
        (subst (λ (i : Place). Goes dense z (densely z y c (place_of (head z) z.table c) i) c half) (sym (source_of (laid_walked v) e l)) by_places)

  -- ---- all of them

  pub first_pass : (e : ℕ) → e ≤ source_entries y → Partly x y (state_of x) (halfway (state_of x) (state_of y)) e (dense_to x y e)
  unfolding dense_to
  first_pass zero l = partly_none w refl refl (λ i. record { kind = refl; members = λ n e. refl })
  first_pass (suc e) l = go (dense_to x y e) (first_pass e (omega arith))
    where
      go : (z : Mem) → Partly x y (state_of x) half e z → Partly x y (state_of x) half (suc e) (densely z y (source_chunk y e) (standing z (source_chunk y e)) (source y e))
      go z s = partly_more s (laid_walked v) (omega arith) (first_turn e (omega arith) z s)
