-- Inserts write nothing past the sizes, on any memory. Assumes nothing.
use mathlib.Core.Path.{◌≡◌, refl, sym, ap, ◌∙◌}
use mathlib.Core.Logic.{◌≢◌}
use mathlib.Core.Bool.{Bool, true, false, cond, ◌&&◌}
use Prim.Native.Nat.{ℕ, ◌+◌, ◌*◌, ◌≤◌, ◌<◌}
use native.Mathlib.Omega.{arith}
use lib.IntN.{ℤ}
use lib.ListN.{length, get_or}
use lib.Dec.{leb, ltb, eqb}
use borrow.Author.Tests.{leb-false, le-leb, ltb-true}
use Rattle.sums.proofs.Rules.{both}
use Rattle.numbers.specs.Ids.{split_of}
use Rattle.sparse.specs.Search.{spot_in}
use Rattle.sparse.specs.Edit.{inserted_at}
use Rattle.sparse.proofs.Edits.{length_inserted}
use Rattle.sparse.proofs.Searches.{spot_free_le}
use Rattle.dense.specs.Bits.{is_set, with_bit, with_row}
use Rattle.dense.proofs.Bits.{length_with, length_row}
use Rattle.document.specs.Sizes.{top}
use Rattle.document.specs.Refusals.{not_laid_out, is_ranked, overflow_full, rows_full, pages_full}
use Rattle.document.specs.declared.sizes.Sizes.{Sizes}
use Rattle.layout.specs.Mem.{Mem}
use Rattle.layout.specs.Sizes.{wide, head, mode_at, over_count}
use Rattle.layout.specs.Places.{decoded, encoded, row_part, page_part}
use Rattle.layout.specs.Short.{word_in}
use Rattle.layout.specs.Tests.{head_is}
use Rattle.layout.specs.Spare.{Spare}
use Rattle.layout.specs.declared.place.Place.{Place}
use Rattle.layout.specs.declared.place.Place.TheVariants.{Absent, Sparse, Dense}
use Rattle.layout.proofs.Tests.{HeadIs, head_of}
use Rattle.layout_laws.proofs.Sizes.{part_length}
use Rattle.layout_laws.proofs.Spares.{EntryRoom, RowSlot, PageSlot, row_slot, page_slot, room_known, beyond_same, slot_beyond, put_word_beyond, spare_same}
use Rattle.steps.specs.Effects.{EntryFor}
use Rattle.steps.proofs.Spares.{room_for, rowed_spare, paged_spare}
use Rattle.calls.proofs.Places.{row_in, page_in}
use Rattle.calls.specs.Reading.{shift_ok}
use Rattle.calls.specs.Insert.{free_row, free_page, start_chunk, turn_dense, into_row, mark_plan, into_place, into_dense, inside_slices, by_word, insert_plan, prepared_plan}
use Rattle.calls.specs.Insert.{Told, told, turned, acted, if_open, insert_at, insert_by, prepared_at, prepared_by}
use Rattle.document.specs.declared.refusal.Refusal.{Refusal}
use Rattle.calls.specs.Planned.{InsertPlan}
use Rattle.calls.specs.declared.plan.Plan.TheVariants.{Begin, Enter, Known, Mark, Turn}
use Rattle.layout.specs.Found.{Word}
use Rattle.std.specs.Prelude.{Err, None, Ok, Option, Result, Some}

-- ---- a plan whose slots and entry are within the sizes

pub record EnterIn (x : Mem) (c r l k : ℕ) : Type 0 where
  pub row : RowSlot (head x) x r
  pub entry : EntryRoom (head x) x.table c
  pub place : k ≤ l
  pub short : l < (head x).m

pub record BeginIn (x : Mem) (c r : ℕ) : Type 0 where
  pub row : RowSlot (head x) x r
  pub entry : EntryRoom (head x) x.table c
  pub some : 1 ≤ (head x).m

pub record TurnIn (x : Mem) (c r p : ℕ) : Type 0 where
  pub row : RowSlot (head x) x r
  pub page : PageSlot (head x) x p
  pub entry : EntryRoom (head x) x.table c

abbrev pub Within : Mem → ℕ → InsertPlan → Type 0
Within x c (Err n) = Unit
Within x c (Ok Known) = Unit
Within x c (Ok (Mark p)) = PageSlot (head x) x p
Within x c (Ok (Enter r l k)) = EnterIn x c r l k
Within x c (Ok (Begin r)) = BeginIn x c r
Within x c (Ok (Turn r l p)) = TurnIn x c r p

module _ (x : Mem) (c o : ℕ) where
  row_long : (r : ℕ) → RowSlot (head x) x r → length (row_part (head x) x.rows r) ≡ (head x).m
  row_long r s = part_length x.rows (r * (head x).m) (head x).m s.inside

  page_long : (p : ℕ) → PageSlot (head x) x p → length (page_part (head x) x.pages p) ≡ wide (head x)
  page_long p s = part_length x.pages (p * wide (head x)) (wide (head x)) s.inside

  with_long : (p : ℕ) → PageSlot (head x) x p → length (with_bit (page_part (head x) x.pages p) o) ≡ wide (head x)
  with_long p s = length_with (page_part (head x) x.pages p) o ∙ page_long p s

  turned_long : (r l p : ℕ) → PageSlot (head x) x p → length (turned x o r l p) ≡ wide (head x)
  turned_long r l p s =
      let page = page_part (head x) x.pages p in
      let row = row_part (head x) x.rows r in
      length_with (with_row page row (top (head x)) l) o ∙ length_row page row (top (head x)) l ∙ page_long p s

  inserted_long : (r l k : ℕ) → RowSlot (head x) x r → k ≤ l → l < (head x).m → length (inserted_at (row_part (head x) x.rows r) l k o) ≡ (head x).m
  inserted_long r l k s place short = let e = row_long r s in length_inserted (row_part (head x) x.rows r) l k o place (omega arith) ∙ e

  pub acted_spare : (q : InsertPlan) → Within x c q → Spare (head x) x (acted x c o q).after
  acted_spare (Err n) w = spare_same
  acted_spare (Ok Known) w = spare_same
  acted_spare (Ok (Mark p)) w =
      record {
        pages = slot_beyond (head x).p x.pages p (wide (head x)) (with_bit (page_part (head x) x.pages p) o) w (with_long p w);
        rows = beyond_same;
        blocks = beyond_same;
        table = beyond_same;
      }
  acted_spare (Ok (Enter r l k)) w =
      let row = inserted_at (row_part (head x) x.rows r) l k o in
      record {
        pages = beyond_same;
        rows = slot_beyond (head x).r x.rows r (head x).m row w.row (inserted_long r l k w.row w.place w.short);
        blocks = beyond_same;
        table = put_word_beyond (head x) x.table c (encoded (Sparse r (l + 1))) w.entry;
      }
  acted_spare (Ok (Begin r)) w =
      let row = inserted_at (row_part (head x) x.rows r) 0 0 o in
      let m = w.some in
      rowed_spare (head x) x c w.entry r 1 row w.row (inserted_long r 0 0 w.row (omega arith) (omega arith))
  acted_spare (Ok (Turn r l p)) w = paged_spare (head x) x c w.entry (Sparse r l) p (turned x o r l p) w.row w.page (turned_long r l p w.page)

-- ---- the plan: each place that an insert goes on with is within the sizes

-- a plan that is kept to where a test holds
within_if : (x : Mem) (c : ℕ) (n : Refusal) (b : Bool) (q : InsertPlan) → (b ≡ true → Within x c q) → Within x c (cond b q (Err n))
within_if x c n true q w = w refl
within_if x c n false q w = tt

some_word : (w r l : ℕ) → decoded w ≡ Sparse r l → w ≢ 0
some_word w r l e z = let a : Absent ≡ Sparse r l = sym (ap decoded z) ∙ e in cc

module _ (x : Mem) (c : ℕ) where
  not_full : (leb (head x).d c && leb (head x).v (over_count x.table)) ≡ false → EntryFor (head x) x.table c
  not_full e l = go (leb (head x).d c) (le-leb (head x).d c l) (leb (head x).v (over_count x.table)) refl e
    where
      go : (a : Bool) → a ≡ true → (b : Bool) → leb (head x).v (over_count x.table) ≡ b → (a && b) ≡ false → over_count x.table < (head x).v
      go a p false q e = leb-false (head x).v (over_count x.table) q
      go true p true q e = absurd cc
      go false p true q e = absurd cc

  -- a new chunk: room for it was tested
  begin : InsertPlan
  begin = cond (ltb (free_row x) (head x).r) (Ok (Begin (free_row x))) (Err rows_full)

  begin_within : HeadIs (head x) x → EntryRoom (head x) x.table c → Within x c begin
  unfolding begin
  begin_within k entry =
      within_if x c rows_full (ltb (free_row x) (head x).r) (Ok (Begin (free_row x)))
      (λ e. record { row = row_slot (head x) x k.room (free_row x) (ltb-true (free_row x) (head x).r e); entry = entry; some = k.sizes.m_low })

  entry_within : HeadIs (head x) x → (b : Bool) → (leb (head x).d c && leb (head x).v (over_count x.table)) ≡ b
      → Within x c (cond b (Err overflow_full) begin)
  entry_within k true e = tt
  entry_within k false e = begin_within k (room_for (head x) x.table c (not_full e))

  start_within : Within x c (start_chunk x c)
  unfolding begin
  start_within =
      let full = leb (head x).d c && leb (head x).v (over_count x.table) in
      within_if x c not_laid_out (head_is (head x) x) (cond full (Err overflow_full) begin) (λ e. entry_within ((head_of (head x) x).sound e) full refl)

  -- a full row: so was the room for a page
  turn_within : (w r l : ℕ) → word_in x.table c ≡ Ok w → w ≢ 0 → Within x c (turn_dense x r l)
  turn_within w r l is some =
      let p = free_page x in
      within_if x c not_laid_out (head_is (head x) x && ltb r (head x).r) (cond (ltb p (head x).p) (Ok (Turn r l p)) (Err pages_full))
      (λ e. within_if x c pages_full (ltb p (head x).p) (Ok (Turn r l p))
      (λ f.
      let g = both (head_is (head x) x) (ltb r (head x).r) e in
      let k = (head_of (head x) x).sound g.0 in
      record {
        row = row_slot (head x) x k.room r (ltb-true r (head x).r g.1);
        page = page_slot (head x) x k.room p (ltb-true p (head x).p f);
        entry = room_known x.table c w some is;
      }))

module _ (x : Mem) (c o : ℕ) where
  row_within : (w r l : ℕ) → word_in x.table c ≡ Ok w → decoded w ≡ Sparse r l → inside_slices x (Sparse r l) ≡ true
      → (s : Result ℕ ℕ) → spot_in (row_part (head x) x.rows r) l o ≡ s → Within x c (into_row x r l s)
  row_within w r l is e good (Ok i) q = tt
  row_within w r l is e good (Err k) q = go (ltb l (head x).m) refl
    where
      go : (b : Bool) → ltb l (head x).m ≡ b → Within x c (cond b (Ok (Enter r l k)) (turn_dense x r l))
      go true f =
          record {
            row = record { there = (row_in x r l good).there; inside = (row_in x r l good).fits };
            entry = room_known x.table c w (some_word w r l e) is;
            place = spot_free_le (row_part (head x) x.rows r) l o k q;
            short = ltb-true l (head x).m f;
          }
      go false f = turn_within x c w r l is (some_word w r l e)

  page_within : (p : ℕ) → inside_slices x (Dense p) ≡ true → Within x c (mark_plan x o p)
  page_within p good = go (is_set (page_part (head x) x.pages p) o)
    where
      go : (b : Bool) → Within x c (cond b (Ok Known) (Ok (Mark p)))
      go true = tt
      go false = record { there = (page_in x p good).there; inside = (page_in x p good).fits }

  place_within : (w : ℕ) → word_in x.table c ≡ Ok w → (q : Place) → decoded w ≡ q → inside_slices x q ≡ true → Within x c (into_place x c o q)
  place_within w is Absent e good = start_within x c
  place_within w is (Sparse r l) e good = row_within w r l is e good (spot_in (row_part (head x) x.rows r) l o) refl
  place_within w is (Dense p) e good = page_within p good

  dense_within : (q : Place) → inside_slices x q ≡ true → Within x c (into_dense x o q)
  dense_within Absent good = tt
  dense_within (Sparse r l) good = tt
  dense_within (Dense p) good = page_within p good

  word_within : (plan : Place → InsertPlan) → ((w : ℕ) → word_in x.table c ≡ Ok w → inside_slices x (decoded w) ≡ true → Within x c (plan (decoded w)))
      → (u : Word) → word_in x.table c ≡ u → Within x c (by_word x plan u)
  word_within plan f (Ok w) e = within_if x c not_laid_out (inside_slices x (decoded w)) (plan (decoded w)) (f w e)
  word_within plan f (Err n) e = tt

  pub insert_within : Within x c (insert_plan x c o)
  unfolding insert_plan
  insert_within = word_within (into_place x c o) (λ w e good. place_within w e (decoded w) refl good) (word_in x.table c) refl

  pub prepared_within : Within x c (prepared_plan x c o)
  unfolding prepared_plan
  prepared_within = word_within (into_dense x o) (λ w e good. dense_within (decoded w) good) (word_in x.table c) refl

-- ---- the calls

told_if : {h : Sizes} {x : Mem} (b : Bool) (s t : Told) → Spare h x s.after → Spare h x t.after → Spare h x (cond b s t).after
told_if true s t p q = p
told_if false s t p q = q

open_spare : (x : Mem) (t : Told) → Spare (head x) x t.after → Spare (head x) x (if_open x t).after
open_spare x t s =
    told_if (shift_ok x.table && leb (mode_at x.table) 1) (cond (eqb (mode_at x.table) 1) (told (Err is_ranked) x) t) (told (Err not_laid_out) x)
    (told_if (eqb (mode_at x.table) 1) (told (Err is_ranked) x) t spare_same s)
    spare_same

module _ (x : Mem) where
  insert_at_spare : (q : Option (ℕ × ℕ)) → Spare (head x) x (insert_at x q).after
  insert_at_spare (Some (c, o)) = acted_spare x c o (insert_plan x c o) (insert_within x c o)
  insert_at_spare None = spare_same

  prepared_at_spare : (q : Option (ℕ × ℕ)) → Spare (head x) x (prepared_at x q).after
  prepared_at_spare (Some (c, o)) = acted_spare x c o (prepared_plan x c o) (prepared_within x c o)
  prepared_at_spare None = spare_same

  pub insert_by_spare : (z : ℤ) → Spare (head x) x (insert_by x z).after
  unfolding insert_by
  insert_by_spare z = open_spare x (insert_at x (split_of (get_or x.table 0 0) z)) (insert_at_spare (split_of (get_or x.table 0 0) z))

  pub prepared_by_spare : (z : ℤ) → Spare (head x) x (prepared_by x z).after
  unfolding prepared_by
  prepared_by_spare z = open_spare x (prepared_at x (split_of (get_or x.table 0 0) z)) (prepared_at_spare (split_of (get_or x.table 0 0) z))
