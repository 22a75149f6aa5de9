-- Chunks made dense one after the other, on any memory that passed the walk: what holds after n of them, and one more. Assumes nothing.
use mathlib.Core.Path.{◌≡◌, refl, sym, ap, subst, ◌∙◌}
use mathlib.Core.Logic.{◌≢◌}
use mathlib.Core.List.{List}
use mathlib.Core.Bool.{Bool, true, false, cond}
use Prim.Native.Nat.{ℕ, zero, suc, ◌+◌, ◌≤◌, ◌<◌}
use native.Mathlib.Omega.{arith}
use lib.ListN.{length}
use lib.Dec.{ltb, eqb}
use mir.Val.{bool_byte}
use borrow.Author.Tests.{ltb-true, ltb-false, eqb-true, eqb-false, lt-ltb, le-ltb, le-leb, eq-eqb, ne_eqb}
use Rattle.sums.specs.Ids.{count}
use Rattle.dense.specs.Bits.{with_row}
use Rattle.dense.proofs.Bits.{length_row}
use Rattle.layout.specs.Mem.{Mem}
use Rattle.document.specs.Sizes.{top, last_chunk}
use Rattle.layout.specs.Sizes.{wide, head, mode_at, over_count}
use Rattle.layout.specs.Places.{encoded, has_page, row_part, page_part, page_owner}
use Rattle.layout.specs.Entries.{place_of}
use Rattle.document.specs.State.{Kind, absent, sparse, dense, is_present, is_dense}
use Rattle.layout.specs.Meaning.{kind_of, kinds, ranked, state_of}
use Rattle.layout.specs.Tests.{Walked}
use Rattle.layout.specs.Lowest.{LowestPage}
use Rattle.document.specs.declared.sizes.Sizes.{Sizes}
use Rattle.layout.specs.declared.place.Place.{Place}
use Rattle.layout.specs.declared.place.Place.TheVariants.{Absent, Sparse, Dense}
use Rattle.layout.proofs.Places.{decoded_encoded_dense}
use Rattle.layout_laws.proofs.Sizes.{page_length}
use Rattle.layout_laws.proofs.ChunkCounts.{over_chunks, dense_pages}
use Rattle.steps.specs.Steps.{paged}
use Rattle.steps.specs.Effects.{EntryFor, PageFor}
use Rattle.steps.proofs.Moves.{Moved, mode_same, walked_step, head_same, kinds_step}
use Rattle.steps.proofs.Paged.{page_moved, paged_owner}
use Rattle.document.specs.Prepare.{dense_map}
use Rattle.document.specs.Room.{overflows, denses}
use Rattle.calls.specs.Prepare.{lowest_page, into_page, densed, densed_to}
use Rattle.layout.proofs.FirstFree.{taken, lowest, none_full}
use Rattle.calls.proofs.Verdicts.{Needs, needs}
use Rattle.calls.proofs.Needed.{overflows_le, denses_le, dense_more}

-- memory y after n chunks
pub record Reached (x : Mem) (n : ℕ) (y : Mem) : Type 0 where
  pub walked : Walked y (head y)
  pub sizes : head y ≡ head x
  pub mode : mode_at y.table ≡ mode_at x.table
  pub map : (i : ℕ) → kinds y i ≡ cond (ltb i n) dense (kinds x i)

pub reached_none : {x : Mem} → Walked x (head x) → Reached x 0 x
reached_none {x} w = record {
  walked = w;
  sizes = refl;
  mode = refl;
  map = λ i. ap (λ (b : Bool). cond b dense (kinds x i)) (sym (le-ltb i 0 (omega arith)));
}

-- ---- one chunk more

module _ (x : Mem) (mode : ranked x ≡ false) (c n : ℕ) (le : n ≤ c) (far : c < last_chunk (head x)) (y : Mem) (s : Reached x n y)
    (over : overflows (head x) (dense_map (state_of x) c) ≤ (head x).v) (pages : denses (head x) (dense_map (state_of x) c) ≤ (head x).p) where
  abbrev w : Walked y (head y)
  w = s.walked

  abbrev owner : ℕ → ℕ
  owner = page_owner (head y) y.table

  abbrev free : ℕ
  free = lowest_page (head y) y

  abbrev onward : ℕ → Kind
  onward = λ (i : ℕ). cond (eqb i n) dense (kinds y i)

  pub onward_is : (i : ℕ) → cond (eqb i n) dense (kinds y i) ≡ cond (ltb i (suc n)) dense (kinds x i)
  onward_is i = go (eqb i n) refl
    where
      go : (b : Bool) → eqb i n ≡ b → cond b dense (kinds y i) ≡ cond (ltb i (suc n)) dense (kinds x i)
      go true e = ap (λ (b : Bool). cond b dense (kinds x i)) (sym (lt-ltb i (suc n) (let q = eqb-true i n e in omega arith)))
      go false e = s.map i ∙ ap (λ (b : Bool). cond b dense (kinds x i)) (same (ltb i n) refl)
        where
          same : (b : Bool) → ltb i n ≡ b → ltb i n ≡ ltb i (suc n)
          same true q = q ∙ sym (lt-ltb i (suc n) (let a = ltb-true i n q in omega arith))
          same false q = q ∙ sym (le-ltb i (suc n) (let a = ltb-false i n q in let d = eqb-false i n e in omega arith))

  -- where chunk n was dense already
  pub same_map : kinds y n ≡ dense → (i : ℕ) → kinds y i ≡ cond (ltb i (suc n)) dense (kinds x i)
  same_map e i = same (eqb i n) refl ∙ onward_is i
    where
      same : (b : Bool) → eqb i n ≡ b → kinds y i ≡ cond (eqb i n) dense (kinds y i)
      same true q = ap (kinds y) (eqb-true i n q) ∙ e ∙ ap (λ (b : Bool). cond b dense (kinds y i)) (sym q)
      same false q = ap (λ (b : Bool). cond b dense (kinds y i)) (sym q)

  -- ---- room for it

  past_same : (i : ℕ) → c < i → onward i ≡ kinds x i
  past_same i l = onward_is i ∙ ap (λ (b : Bool). cond b dense (kinds x i)) (le-ltb i (suc n) (omega arith))

  over_at : overflows (head y) onward ≤ (head y).v
  over_at =
      let a : overflows (head y) (dense_map (state_of x) c) ≤ (head y).v =
      subst (λ (h : Sizes). overflows h (dense_map (state_of x) c) ≤ h.v) (sym s.sizes) over in
      let b = overflows_le (head y) onward (dense_map (state_of x) c) (λ i. dense_more x c is_present refl (onward i) i (past_same i)) in
      omega arith

  pages_at : denses (head y) onward ≤ (head y).p
  pages_at =
      let a : denses (head y) (dense_map (state_of x) c) ≤ (head y).p = subst (λ (h : Sizes). denses h (dense_map (state_of x) c) ≤ h.p) (sym s.sizes) pages in
      let b = denses_le (head y) onward (dense_map (state_of x) c) (λ i. dense_more x c is_dense refl (onward i) i (past_same i)) in
      omega arith

  pub inside : n < last_chunk (head y)
  inside = subst (λ (h : Sizes). n < last_chunk h) (sym s.sizes) (omega arith)

  more : (a : Kind) → kinds y n ≡ a → Needs (head y) (kinds y) onward n a dense
  more a e =
      needs (head y) (kinds y) onward n a dense inside (λ i d. ap (λ (b : Bool). cond b dense (kinds y i)) (ne_eqb i n d)) e
      (ap (λ (b : Bool). cond b dense (kinds y n)) (eq-eqb n n refl))

  denses_owned : denses (head y) (kinds y) ≡ count (taken owner) (head y).p
  unfolding denses
  denses_owned = dense_pages w

  overflows_used : overflows (head y) (kinds y) ≡ over_count y.table
  unfolding overflows
  overflows_used = over_chunks w

  pub page_free : (a : Kind) → kinds y n ≡ a → is_dense a ≡ false → lowest_page (head y) y < (head y).p
  page_free a e q =
      let z : bool_byte (is_dense a) ≡ 0 = ap bool_byte q in
      let m : denses (head y) onward + bool_byte (is_dense a) ≡ denses (head y) (kinds y) + 1 = (more a e).pages in
      let i = denses_owned in
      let p = pages_at in
      go (ltb free (head y).p) refl (omega arith)
    where
      go : (b : Bool) → ltb free (head y).p ≡ b → count (taken owner) (head y).p < (head y).p → free < (head y).p
      go true t l = ltb-true free (head y).p t
      go false t l = let c = none_full w.pages_full_to (ltb-false free (head y).p t) in absurd (omega arith)

  pub entry_free : kinds y n ≡ absent → EntryFor (head y) y.table n
  entry_free e l =
      let m : overflows (head y) onward + 0 ≡ overflows (head y) (kinds y) + 1 = (more absent e).over true (le-leb (head y).d n l) in
      let i = overflows_used in
      let p = over_at in
      omega arith

  -- ---- the page that a chunk which is not dense takes

  pub is_open : ranked y ≡ false
  is_open = ap (λ (m : ℕ). eqb m 1) s.mode ∙ mode

  pub page_low : lowest_page (head y) y < (head y).p → LowestPage y (lowest_page (head y) y)
  page_low = lowest w.pages_full_to

  pub kind_at : (q : Place) → place_of (head y) y.table n ≡ q → kinds y n ≡ kind_of q
  unfolding kinds
  kind_at q e = ap kind_of e

  pub place_free : (q : Place) → place_of (head y) y.table n ≡ q → has_page q ≡ false → lowest_page (head y) y < (head y).p
  place_free Absent e h = page_free absent (kind_at Absent e) refl
  place_free (Sparse r l) e h = page_free sparse (kind_at (Sparse r l) e) refl
  place_free (Dense p) e h = absurd cc

  pub page_for : (q : Place) → place_of (head y) y.table n ≡ q → has_page q ≡ false → PageFor (head y) y.table n q (lowest_page (head y) y)
  page_for q e h =
      PageFor.new_page h (page_low (place_free q e h)) (λ a. entry_free (kind_at q e ∙ ap kind_of a))

  module _ (q : Place) (is : place_of (head y) y.table n ≡ q) (k : has_page q ≡ false) (page : List ℕ) (long : length page ≡ wide (head y)) where
    moved : Moved (head y) y (paged (head y) y n q free page) n (encoded (Dense free))
    moved = page_moved (head y) y w n q free page (sym is) (place_free q is k) long (page_for q is k)

    reached_paged : Reached x (suc n) (paged (head y) y n q free page)
    reached_paged =
        let z = paged (head y) y n q free page in
        let v = encoded (Dense free) in
        let d = decoded_encoded_dense free in
        let same = head_same y z n v (Dense free) w is_open inside moved d in
        record {
          walked = subst (Walked z) (sym same) (walked_step (head y) y z n v w is_open inside moved);
          sizes = same ∙ s.sizes;
          mode = mode_same (head y) y z n v w is_open inside moved ∙ s.mode;
          map = λ i. kinds_step y z n v (Dense free) w is_open inside moved d i ∙ onward_is i;
        }

    owner_kept : (j : ℕ) → j ≢ free → page_owner (head y) (paged (head y) y n q free page).table j ≡ owner j
    owner_kept = paged_owner (head y) y w n q free page (sym is) (place_free q is k) long (page_for q is k)

  blank : lowest_page (head y) y < (head y).p → length (page_part (head y) y.pages free) ≡ wide (head y)
  blank l = page_length (head y) y w.room free l

  filled : (r l : ℕ) → lowest_page (head y) y < (head y).p
      → length (with_row (page_part (head y) y.pages free) (row_part (head y) y.rows r) (top (head y)) l) ≡ wide (head y)
  filled r l there = length_row (page_part (head y) y.pages free) (row_part (head y) y.rows r) (top (head y)) l ∙ blank there

  reached_into : (q : Place) → place_of (head y) y.table n ≡ q → Reached x (suc n) (into_page (head y) y n free q)
  reached_into Absent e = reached_paged Absent e refl (page_part (head y) y.pages free) (blank (place_free Absent e refl))
  reached_into (Sparse r l) e =
      reached_paged (Sparse r l) e refl (with_row (page_part (head y) y.pages free) (row_part (head y) y.rows r) (top (head y)) l)
      (filled r l (place_free (Sparse r l) e refl))
  reached_into (Dense p) e = record { walked = w; sizes = s.sizes; mode = s.mode; map = same_map (kind_at (Dense p) e) }

  pub reached_more : Reached x (suc n) (densed (head y) y n)
  reached_more = reached_into (place_of (head y) y.table n) refl

  -- every other page has the owner that it had
  into_owner : (q : Place) → place_of (head y) y.table n ≡ q → (j : ℕ) → j ≢ free → page_owner (head y) (into_page (head y) y n free q).table j ≡ owner j
  into_owner Absent e = owner_kept Absent e refl (page_part (head y) y.pages free) (blank (place_free Absent e refl))
  into_owner (Sparse r l) e =
      owner_kept (Sparse r l) e refl (with_row (page_part (head y) y.pages free) (row_part (head y) y.rows r) (top (head y)) l)
      (filled r l (place_free (Sparse r l) e refl))
  into_owner (Dense p) e = λ j d. refl

  pub turn_owner : (j : ℕ) → j ≢ lowest_page (head y) y → page_owner (head y) (densed (head y) y n).table j ≡ page_owner (head y) y.table j
  turn_owner = into_owner (place_of (head y) y.table n) refl

-- ---- all chunks from 0 to c

module _ {x : Mem} (w : Walked x (head x)) (mode : ranked x ≡ false) (c : ℕ) (far : c < last_chunk (head x))
    (over : overflows (head x) (dense_map (state_of x) c) ≤ (head x).v) (pages : denses (head x) (dense_map (state_of x) c) ≤ (head x).p) where
  pub reached : (n : ℕ) → n ≤ c + 1 → Reached x n (densed_to (head x) x n)
  unfolding densed_to
  reached zero l = reached_none w
  reached (suc n) l = go (densed_to (head x) x n) (reached n (omega arith))
    where
      go : (y : Mem) → Reached x n y → Reached x (suc n) (densed (head x) y n)
      go y s = subst (λ (h : Sizes). Reached x (suc n) (densed h y n)) s.sizes (reached_more x mode c n (omega arith) far y s over pages)
