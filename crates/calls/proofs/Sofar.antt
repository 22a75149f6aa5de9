-- Chunks made dense one after the other: what holds after n of them, and one more. Assumes nothing.
use mathlib.Core.Path.{◌≡◌, refl, sym, ap, subst, ◌∙◌}
use mathlib.Core.List.{List}
use mathlib.Core.Bool.{Bool, true, false, cond}
use Prim.Native.Nat.{ℕ, suc, ◌/◌, ◌%◌, ◌≤◌, ◌<◌}
use native.Mathlib.Omega.{arith}
use lib.Dec.{ltb, eqb}
use borrow.Author.Tests.{eqb-true, le-ltb}
use Rattle.dense.specs.Bits.{bit, is_set, with_row}
use Rattle.dense.proofs.Bits.{zero_clear}
use Rattle.layout.specs.Mem.{Mem}
use Rattle.document.specs.Sizes.{top, last_chunk}
use Rattle.layout.specs.Sizes.{wide, head, mode_at}
use Rattle.layout.specs.Places.{has_page, row_part, page_part}
use Rattle.layout.specs.Entries.{place_of}
use Rattle.document.specs.State.{dense}
use Rattle.layout.specs.Meaning.{offsets, holds, kinds, ranked, state_of}
use Rattle.layout.specs.Follows.{Listed, RowListed, Follows}
use Rattle.layout.specs.Lowest.{LowestPage, Moves}
use Rattle.layout.specs.declared.place.Place.{Place}
use Rattle.layout.specs.declared.place.Place.TheVariants.{Absent, Sparse, Dense}
use Rattle.layout_laws.proofs.Sizes.{page_length}
use Rattle.layout_laws.proofs.Members.{listed_of}
use Rattle.steps.specs.Steps.{paged}
use Rattle.steps.specs.Effects.{PagedOk, Becomes}
use Rattle.steps.proofs.Paged.{paged_becomes}
use Rattle.calls.specs.Prepare.{lowest_page, into_page, densed}
use Rattle.document.specs.Prepare.{dense_map}
use Rattle.document.specs.Room.{overflows, denses}
use Rattle.calls.proofs.Slots.{Turn, turn_none, turn_becomes}
use Rattle.calls.proofs.PageEdits.{free_bits, length_filled, set_filled}
use Rattle.layout_laws.proofs.Walked.{laid_walked}
use Rattle.calls.proofs.Reached.{Reached, onward_is, same_map, inside, is_open, page_low, kind_at, place_free, page_for}

-- memory y after n chunks
pub record Sofar (x : Mem) (n : ℕ) (y : Mem) : Type 0 where
  pub follows : Follows y
  pub sizes : head y ≡ head x
  pub mode : mode_at y.table ≡ mode_at x.table
  pub members : (i : ℕ) → holds y i ≡ holds x i
  pub map : (i : ℕ) → kinds y i ≡ cond (ltb i n) dense (kinds x i)

pub sofar_none : {x : Mem} → Follows x → Sofar x 0 x
sofar_none {x} w = record {
  follows = w;
  sizes = refl;
  mode = refl;
  members = λ i. refl;
  map = λ i. ap (λ (b : Bool). cond b dense (kinds x i)) (sym (le-ltb i 0 (omega arith)));
}

pub reached_of : {x y : Mem} {n : ℕ} → Sofar x n y → Reached x n y
reached_of s = record { walked = laid_walked s.follows; sizes = s.sizes; mode = s.mode; map = s.map }

-- ---- one chunk more

module _ (x : Mem) (mode : ranked x ≡ false) (c n : ℕ) (le : n ≤ c) (far : c < last_chunk (head x)) (y : Mem) (s : Sofar x n y)
    (over : overflows (head x) (dense_map (state_of x) c) ≤ (head x).v) (pages : denses (head x) (dense_map (state_of x) c) ≤ (head x).p) where
  abbrev w : Follows y
  w = s.follows

  abbrev r : Reached x n y
  r = reached_of s

  abbrev free : ℕ
  free = lowest_page (head y) y

  -- where chunk n was dense already
  pub sofar_dense : kinds y n ≡ dense → Sofar x (suc n) y
  sofar_dense e = record { follows = w; sizes = s.sizes; mode = s.mode; members = s.members; map = same_map x mode c n le far y r over pages e }

  -- ---- the page that a chunk which is not dense takes

  clear : (there : free < (head y).p) (o : ℕ) → bit (page_part (head y) y.pages free) o ≡ 0
  clear there = free_bits y.pages free (head y).p (wide (head y)) there w.room.in_pages (w.free_pages free there (page_low x mode c n le far y r over pages there).free)

  -- from the place q
  pub record TakesPage (q : Place) : Type 0 where
    pub there : free < (head y).p
    pub page : List ℕ
    pub ok : PagedOk y n q free page
    pub same : (o : ℕ) → is_set page o ≡ offsets (head y) y q o
    pub is : into_page (head y) y n free q ≡ paged (head y) y n q free page

  pub takes_page : (q : Place) → place_of (head y) y.table n ≡ q → has_page q ≡ false → TakesPage q
  takes_page Absent e h =
      let there = place_free x mode c n le far y r over pages Absent e refl in
      let page = page_part (head y) y.pages free in
      record {
        there = there;
        page = page;
        ok =
            record {
              set = record { follows = w; mode = is_open x mode c n le far y r over pages; chunk = inside x mode c n le far y r over pages };
              old_is = sym e;
              there = there;
              long = page_length (head y) y w.room free there;
              came = page_for x mode c n le far y r over pages Absent e refl;
            };
        same = λ o. zero_clear page o (clear there o);
        is = refl;
      }
  takes_page (Sparse i l) e h =
      let there = place_free x mode c n le far y r over pages (Sparse i l) e refl in
      let row = row_part (head y) y.rows i in
      let blank = page_part (head y) y.pages free in
      let listed : Listed (head y) row l = subst (RowListed (head y) y.rows) e (listed_of w n) in
      let long = page_length (head y) y w.room free there in
      record {
        there = there;
        page = with_row blank row (top (head y)) l;
        ok =
            record {
              set = record { follows = w; mode = is_open x mode c n le far y r over pages; chunk = inside x mode c n le far y r over pages };
              old_is = sym e;
              there = there;
              long = length_filled (head y) w.sizes blank row l long (clear there) listed;
              came = page_for x mode c n le far y r over pages (Sparse i l) e refl;
            };
        same = set_filled (head y) w.sizes blank row l long (clear there) listed;
        is = refl;
      }
  takes_page (Dense p) e h = absurd cc

  module _ (q : Place) (is : place_of (head y) y.table n ≡ q) (i : TakesPage q) where
    abbrev z : Mem
    z = paged (head y) y n q free i.page

    pub takes_becomes : Becomes y z n (Dense free) (is_set i.page)
    takes_becomes = paged_becomes y n q free i.page i.ok

    pub takes_is : densed (head y) y n ≡ z
    takes_is = ap (into_page (head y) y n free) is ∙ i.is

    kept : (j : ℕ) (t : Bool) → eqb (j / top (head y)) n ≡ t → cond t (is_set i.page (j % top (head y))) (holds y j) ≡ holds y j
    unfolding holds
    kept j true e =
        i.same (j % top (head y))
        ∙ ap (λ (p : Place). offsets (head y) y p (j % top (head y))) (sym (ap (place_of (head y) y.table) (eqb-true (j / top (head y)) n e) ∙ is))
    kept j false e = refl

    sofar_paged : Sofar x (suc n) z
    sofar_paged =
        let b = takes_becomes in
        record {
          follows = b.follows;
          sizes = b.head_is ∙ s.sizes;
          mode = b.mode_is ∙ s.mode;
          members = λ j. b.holds_is j ∙ kept j (eqb (j / top (head y)) n) refl ∙ s.members j;
          map = λ j. b.kinds_is j ∙ onward_is x mode c n le far y r over pages j;
        }

  -- ---- by the place of chunk n

  pub stays : (p : ℕ) → place_of (head y) y.table n ≡ Dense p → densed (head y) y n ≡ y
  stays p e = ap (into_page (head y) y n free) e

  at_place : (q : Place) → place_of (head y) y.table n ≡ q → Sofar x (suc n) (densed (head y) y n)
  at_place Absent e = let i = takes_page Absent e refl in subst (Sofar x (suc n)) (sym (takes_is Absent e i)) (sofar_paged Absent e i)
  at_place (Sparse r l) e = let i = takes_page (Sparse r l) e refl in subst (Sofar x (suc n)) (sym (takes_is (Sparse r l) e i)) (sofar_paged (Sparse r l) e i)
  at_place (Dense p) e = subst (Sofar x (suc n)) (sym (stays p e)) (sofar_dense (kind_at x mode c n le far y r over pages (Dense p) e))

  pub sofar_more : Sofar x (suc n) (densed (head y) y n)
  sofar_more = at_place (place_of (head y) y.table n) refl

  -- ---- what chunk n takes: the lowest free page, or nothing

  abbrev Takes : Mem → Type 0
  Takes z = Turn y z n

  page_takes : (q : Place) → place_of (head y) y.table n ≡ q → TakesPage q → Moves y q (Dense free) → Takes (densed (head y) y n)
  page_takes q e i m =
      subst Takes (sym (takes_is q e i)) (turn_becomes (takes_becomes q e i) (subst (λ (p : Place). Moves y p (Dense free)) (sym e) m))

  low : free < (head y).p → LowestPage y free
  low = page_low x mode c n le far y r over pages

  place_takes : (q : Place) → place_of (head y) y.table n ≡ q → Takes (densed (head y) y n)
  place_takes Absent e = let i = takes_page Absent e refl in page_takes Absent e i (low i.there)
  place_takes (Sparse r l) e = let i = takes_page (Sparse r l) e refl in page_takes (Sparse r l) e i (low i.there)
  place_takes (Dense p) e = subst Takes (sym (stays p e)) (turn_none y n)

  pub sofar_takes : Takes (densed (head y) y n)
  sofar_takes = place_takes (place_of (head y) y.table n) refl
