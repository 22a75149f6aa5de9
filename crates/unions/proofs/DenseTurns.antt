-- A turn of the first pass: a chunk whose result is dense goes into a page, then gets the source's members. Assumes nothing.
use mathlib.Core.Path.{◌≡◌, refl, sym, ap, subst, ◌∙◌}
use mathlib.Core.Logic.{◌⊎◌, inl, inr}
use mathlib.Core.List.{List}
use mathlib.Core.Bool.{Bool, true, false, cond, ◌&&◌, ◌||◌}
use Prim.Native.Nat.{ℕ, ◌-◌, ◌^◌, ◌%◌, ◌<◌}
use native.Mathlib.Nat.{mod-eq_of_lt}
use native.Mathlib.Omega.{arith}
use lib.ListN.{length, get_or}
use lib.Dec.{ltb}
use lib.Pow.{pow_pos}
use borrow.Author.Tests.{lt-ltb}
use Rattle.sums.specs.Ids.{Ids}
use Rattle.sparse.specs.Row.{row_of, member}
use Rattle.sparse.proofs.Rows.{same_test, member_of}
use Rattle.dense.specs.Bits.{bit, is_set, or_words, with_row}
use Rattle.dense.proofs.Bits.{is_set_one, one_is_set, clear_zero, length_row, length_or, bit_row_kept, row_decides}
use Rattle.dense.proofs.Sets.{is_set_or}
use Rattle.document.specs.Sizes.{InRange, top, last_chunk}
use Rattle.document.specs.Union.{same_shape}
use Rattle.document.specs.declared.sizes.Sizes.{Sizes}
use Rattle.layout.specs.Mem.{Mem, mem}
use Rattle.layout.specs.Sizes.{RoomIn, wide, head}
use Rattle.layout.specs.Places.{row_part, page_part}
use Rattle.layout.specs.Entries.{place_of}
use Rattle.layout.specs.Meaning.{offsets, ranked}
use Rattle.layout.specs.Follows.{Listed, RowListed, Follows}
use Rattle.layout.specs.Writes.{put_page}
use Rattle.layout.specs.declared.place.Place.{Place}
use Rattle.layout.specs.declared.place.Place.TheVariants.{Absent, Sparse, Dense}
use Rattle.layout_laws.proofs.Sizes.{wide_top, page_length}
use Rattle.layout_laws.proofs.Members.{listed_of}
use Rattle.layout_laws.proofs.Owners.{page_of_law, free_page_none}
use Rattle.layout_laws.proofs.Walked.{laid_walked}
use Rattle.steps.specs.Effects.{Open, EntryFor, PageFor, Becomes}
use Rattle.steps.proofs.Paged.{paged_becomes}
use Rattle.steps.proofs.Keeps.{still_open}
use Rattle.calls.specs.Insert.{free_page}
use Rattle.calls.specs.Prepare.{into_page}
use Rattle.layout.specs.Lowest.{LowestPage}
use Rattle.layout.proofs.FirstFree.{lowest}
use Rattle.unions.specs.Union.{union_dense, page_of, with_source, joined_page, densely}
use Rattle.unions.proofs.Results.{same_s, same_top}
use Rattle.unions.proofs.Stepwise.{becomes_same, place_after, offsets_after, becomes_as, becomes_then, page_anew}

-- ---- a row's members into a page

module _ (h : Sizes) (z : InRange h) (page row : List ℕ) (l : ℕ) (long : length page ≡ wide h) (w : Listed h row l) (o : ℕ) where
  place_is : (i : ℕ) → i < l → get_or row i 0 % top h ≡ get_or row i 0
  place_is i m = mod-eq_of_lt (w.below i m)

  pub set_row : is_set (with_row page row (top h) l) o ≡ (is_set page o || member (row_of row) l o)
  set_row = go (is_set page o) refl
    where
      go : (b : Bool) → is_set page o ≡ b → is_set (with_row page row (top h) l) o ≡ (b || member (row_of row) l o)
      go true e = one_is_set (with_row page row (top h) l) o (bit_row_kept page row (top h) l o (is_set_one page o e))
      go false e =
          let t = wide_top h z in
          same_test (is_set (with_row page row (top h) l) o) (member (row_of row) l o)
          (row_decides page row (top h) (omega arith) (pow_pos h.s) l o)
          (member_of (row_of row) l o)
          to
          (λ q. inr (q.0, q.1, place_is q.0 q.1 ∙ q.2))
        where
          to : (bit page o ≡ 1) ⊎ ((i : ℕ) × (i < l) × (get_or row i 0 % top h ≡ o)) → (i : ℕ) × (i < l) × (get_or row i 0 ≡ o)
          to (inl d) = absurd (let z = clear_zero page o e in omega arith)
          to (inr q) = (q.0, q.1, sym (place_is q.0 q.1) ∙ q.2)

-- ---- the source's members of chunk c, into a page

pub length_source : (y : Mem) → RoomIn (head y) y → (o q : Place) → ((p : ℕ) → q ≡ Dense p → p < (head y).p) → (page : List ℕ) → length page ≡ wide (head y)
    → length (with_source y o page q) ≡ wide (head y)
length_source y room o Absent inside page long = long
length_source y room o (Sparse i k) inside page long = length_row page (row_part (head y) y.rows i) (top (head y)) k ∙ long
length_source y room Absent (Dense p) inside page long = page_length (head y) y room p (inside p refl)
length_source y room (Sparse r l) (Dense p) inside page long = length_or page (page_part (head y) y.pages p) ∙ long
length_source y room (Dense r) (Dense p) inside page long = length_or page (page_part (head y) y.pages p) ∙ long

or_none : (b : Bool) → b ≡ (b || false)
or_none true = refl
or_none false = refl

module _ {y : Mem} (v : Follows y) (c : ℕ) (page : List ℕ) (long : length page ≡ wide (head y)) where
  abbrev there : Place
  there = place_of (head y) y.table c

  module _ (n : ℕ) (l : n < top (head y)) where
    or_page : (p : ℕ) → is_set (or_words page (page_part (head y) y.pages p)) n ≡ (is_set page n || is_set (page_part (head y) y.pages p) n)
    or_page p = let t = wide_top (head y) v.sizes in is_set_or page (page_part (head y) y.pages p) n (omega arith)

    -- a page that is copied takes the place of an empty one
    pub set_source : (o q : Place) → there ≡ q → (o ≡ Absent → is_set page n ≡ false)
        → is_set (with_source y o page q) n ≡ (is_set page n || offsets (head y) y q n)
    set_source o Absent e clear = or_none (is_set page n)
    set_source o (Sparse i k) e clear =
        set_row (head y) v.sizes page (row_part (head y) y.rows i) k long (subst (RowListed (head y) y.rows) e (listed_of v c)) n
    set_source Absent (Dense p) e clear = ap (λ (b : Bool). b || is_set (page_part (head y) y.pages p) n) (sym (clear refl))
    set_source (Sparse r k) (Dense p) e clear = or_page p
    set_source (Dense r) (Dense p) e clear = or_page p

-- ---- chunk c into a page, as preparation does it

module _ {x : Mem} (w : Follows x) (mode : ranked x ≡ false) (c : ℕ) (far : c < last_chunk (head x)) where
  abbrev here : Place
  here = place_of (head x) x.table c

  abbrev blank : List ℕ
  blank = page_part (head x) x.pages (free_page x)

  opened : Open x c
  opened = record { follows = w; mode = mode; chunk = far }

  low : free_page x < (head x).p → LowestPage x (free_page x)
  low = lowest w.pages_full_to

  clear : free_page x < (head x).p → (n : ℕ) → is_set blank n ≡ false
  clear l = free_page_none w (free_page x) l (low l).free

  long : free_page x < (head x).p → length blank ≡ wide (head x)
  long l = page_length (head x) x w.room (free_page x) l

  pub into_page_law : (o : Place) → here ≡ o → page_of x o < (head x).p → (o ≡ Absent → EntryFor (head x) x.table c)
      → Becomes x (into_page (head x) x c (page_of x o) o) c (Dense (page_of x o)) (offsets (head x) x o)
  into_page_law Absent e l room =
      becomes_as
      (paged_becomes x c Absent (free_page x) blank
      (record { set = opened; old_is = sym e; there = l; long = long l; came = PageFor.new_page refl (low l) room }))
      (offsets (head x) x Absent) (λ n m. clear l n)
  into_page_law (Sparse r k) e l room =
      let row = row_part (head x) x.rows r in
      let listed : Listed (head x) row k = subst (RowListed (head x) x.rows) e (listed_of w c) in
      becomes_as
      (paged_becomes x c (Sparse r k) (free_page x) (with_row blank row (top (head x)) k)
      (record {
        set = opened;
        old_is = sym e;
        there = l;
        long = length_row blank row (top (head x)) k ∙ long l;
        came = PageFor.new_page refl (low l) room;
      }))
      (offsets (head x) x (Sparse r k))
      (λ n m. set_row (head x) w.sizes blank row k (long l) listed n ∙ ap (λ (b : Bool). b || member (row_of row) k n) (clear l n))
  into_page_law (Dense p) e l room = becomes_same c (Dense p) w e

  -- ---- the turn

  module _ {y : Mem} (v : Follows y) (same : same_shape (head x) (head y) ≡ true) (o q : Place) (at : here ≡ o) (from : place_of (head y) y.table c ≡ q)
      (page : page_of x o < (head x).p) (entry : o ≡ Absent → EntryFor (head x) x.table c) where
    abbrev p : ℕ
    p = page_of x o

    abbrev z : Mem
    z = into_page (head x) x c p o

    first : Becomes x z c (Dense p) (offsets (head x) x o)
    first = into_page_law o at page entry

    abbrev was : List ℕ
    was = page_part (head z) z.pages p

    wide_same : wide (head y) ≡ wide (head z)
    wide_same = ap (λ (k : ℕ). 2 ^ (k - 6)) (sym (same_s x y same) ∙ sym (ap (λ (h : Sizes). h.s) first.head_is))

    was_long : length was ≡ wide (head y)
    was_long = page_length (head z) z first.follows.room p (page_of_law (laid_walked first.follows) c p (place_after first)).there ∙ sym wide_same

    abbrev now : List ℕ
    now = with_source y o was q

    second : Becomes z (mem (put_page (head z) z.pages p now) z.rows z.blocks z.table) c (Dense p) (is_set now)
    second =
        page_anew (still_open x z c c (Dense p) (offsets (head x) x o) opened first far) p (place_after first) now
        (length_source y v.room o q (λ i e. (page_of_law (laid_walked v) c i (from ∙ e)).there) was was_long ∙ wide_same)

    members : (n : ℕ) → n < top (head x) → is_set now n ≡ (offsets (head x) x o n || offsets (head y) y q n)
    members n l =
        let t = same_top x y same in
        let i = offsets_after first n l in
        set_source v c was was_long n (omega arith) o q from (λ e. i ∙ ap (λ (r : Place). offsets (head x) x r n) e)
        ∙ ap (λ (b : Bool). b || offsets (head y) y q n) i

    abbrev both : Ids
    both = λ (n : ℕ). offsets (head x) x o n || offsets (head y) y q n

    joined_turn : Becomes x (joined_page z y o p q) c (Dense p) both
    joined_turn = becomes_as (becomes_then first second) both members

    pub dense_turn : union_dense x y o q ≡ true → Becomes x (densely x y c o q) c (Dense p) (λ (n : ℕ). offsets (head x) x o n || offsets (head y) y q n)
    dense_turn d =
        subst (λ (t : Bool). Becomes x (cond (t && ltb p (head x).p) (joined_page z y o p q) x) c (Dense p) both) (sym d)
        (subst (λ (t : Bool). Becomes x (cond t (joined_page z y o p q) x) c (Dense p) both) (sym (lt-ltb p (head x).p page)) joined_turn)

-- any other chunk waits
pub dense_waits : (x y : Mem) (c : ℕ) (o q : Place) → union_dense x y o q ≡ false → densely x y c o q ≡ x
dense_waits x y c o q d =
    ap (λ (t : Bool). cond (t && ltb (page_of x o) (head x).p) (joined_page (into_page (head x) x c (page_of x o) o) y o (page_of x o) q) x) d
