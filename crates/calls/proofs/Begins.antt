-- An insert into an absent chunk: it starts sparse in the lowest free row, or 6, or 7. Assumes nothing.
use mathlib.Core.Path.{◌≡◌, refl, sym, ap, subst, ◌∙◌}
use mathlib.Core.List.{List}
use mathlib.Core.Bool.{Bool, true, false, cond, ◌||◌, ◌&&◌}
use Prim.Native.Nat.{ℕ, ◌+◌, ◌*◌, ◌≤◌, ◌<◌}
use native.Mathlib.Omega.{arith}
use lib.IntN.{pos}
use lib.ListN.{length}
use lib.Dec.{leb, ltb, eqb}
use borrow.Author.Tests.{ltb-true, ltb-false, leb-true, leb-false}
use Rattle.sparse.specs.Row.{row_of, member, below_of}
use Rattle.sparse.specs.Edit.{inserted_at}
use Rattle.sparse.proofs.Rows.{member_none}
use Rattle.layout.specs.Mem.{Mem}
use Rattle.layout.specs.Sizes.{head, over_count}
use Rattle.layout.specs.Places.{row_part}
use Rattle.document.specs.State.{Kind, absent, sparse}
use Rattle.layout.specs.Meaning.{offsets, kinds, state_of}
use Rattle.layout.specs.Follows.{AllZero, Listed, Follows}
use Rattle.layout.specs.Lowest.{LowestRow, Moves}
use Rattle.layout.specs.declared.place.Place.{Place}
use Rattle.layout.specs.declared.place.Place.TheVariants.{Absent, Sparse}
use Rattle.layout_laws.proofs.Sizes.{row_length}
use Rattle.steps.specs.Steps.{rowed}
use Rattle.steps.specs.Effects.{EntryFor, RowFor, Becomes}
use Rattle.steps.proofs.Rowed.{rowed_becomes}
use Rattle.calls.specs.Insert.{free_row, start_chunk}
use Rattle.document.specs.Insert.{chunk_size, grown, new_answer}
use Rattle.document.specs.Room.{overflows, sparses, denses, verdict}
use Rattle.layout.proofs.FirstFree.{lowest, found_less, none_full}
use Rattle.calls.proofs.Verdicts.{verdict_six, verdict_seven, verdict_room, overflows_is, sparses_is, denses_fit, overflows_fit, Needs}
use Rattle.calls.proofs.RowEdits.{length_entered, member_entered, listed_entered, listed_free, first_place}
use Rattle.calls.proofs.Plans.{start_chunk_law}
use Rattle.calls.proofs.Grown.{refuses, grows}
use Rattle.calls.proofs.Wanted.{chunk, offset, placed, after, Good, Into, offset_in, open_at, holds_of, kind_of_law, wanted_new, grown_needs}
use Rattle.calls.specs.declared.plan.Plan.TheVariants.{Begin}
use Rattle.document.specs.Refusals.{overflow_full, rows_full}
use Rattle.std.specs.Prelude.{Err, Ok}

module _ {x : Mem} {n : ℕ} (i : Into x n) (e : placed x n ≡ Absent) where
  abbrev w : Follows x
  w = i.follows

  abbrev row : List ℕ
  row = row_part (head x) x.rows (free_row x)

  d : Needs (head x) (kinds x) (after x n) (chunk x n) absent sparse
  d = grown_needs i absent sparse (kind_of_law i Absent e) refl

  one_more : sparses (head x) (after x n) + 0 ≡ sparses (head x) (kinds x) + 1
  one_more = d.rows

  same_pages : denses (head x) (after x n) + 0 ≡ denses (head x) (kinds x) + 0
  same_pages = d.pages

  wanted : new_answer (state_of x) (pos n) ≡ verdict (head x) (after x n) (Ok true)
  wanted = wanted_new i (holds_of i Absent e)

  -- ---- a row is free

  module _ (there : free_row x < (head x).r) where
    low : LowestRow x (free_row x)
    low = lowest w.rows_full_to there

    zeros : AllZero x.rows (free_row x * (head x).m) (head x).m
    zeros = w.free_rows (free_row x) there low.free

    listed : Listed (head x) row 0
    listed = listed_free (head x) x (free_row x) zeros

    long : length row ≡ (head x).m
    long = row_length (head x) x w.room (free_row x) there

    room : 0 < (head x).m
    room = let m = w.sizes.m_low in omega arith

    first : below_of (row_of row) 0 (offset x n) ≡ 0
    first = first_place (head x) x (free_row x) zeros (offset x n)

    begun : (k : ℕ) → below_of (row_of row) 0 (offset x n) ≡ k → EntryFor (head x) x.table (chunk x n)
        → Becomes x (rowed (head x) x (chunk x n) (free_row x) 1 (inserted_at row 0 k (offset x n))) (chunk x n) (Sparse (free_row x) 1) (member (row_of (inserted_at row 0 k (offset x n))) 1)
    begun k q en =
        rowed_becomes x (chunk x n) (free_row x) 1 (inserted_at row 0 k (offset x n))
        (record {
          set = open_at i;
          there = there;
          some = omega arith;
          short = w.sizes.m_low;
          long = ap (λ (j : ℕ). length (inserted_at row 0 j (offset x n))) (sym q) ∙ length_entered (head x) row 0 (offset x n) listed long room;
          listed =
              subst (λ (j : ℕ). Listed (head x) (inserted_at row 0 j (offset x n)) 1) q
              (listed_entered (head x) row 0 (offset x n) listed long room (offset_in i) (member_none (row_of row) (offset x n)));
          came = RowFor.new_row e low en;
        })

    begin_good : overflows (head x) (after x n) ≤ (head x).v → EntryFor (head x) x.table (chunk x n) → Good x n (Ok (Begin (free_row x)))
    begin_good ov en =
        let s = sparses_is w in
        let u = found_less w.rows_full_to there in
        let p = denses_fit w in
        let m = one_more in
        let g = same_pages in
        grows n (Sparse (free_row x) 1) (member (row_of (inserted_at row 0 0 (offset x n))) 1) (begun 0 first en)
        (λ j l.
        ap (λ (k : ℕ). member (row_of (inserted_at row 0 k (offset x n))) 1 j) (sym first)
        ∙ member_entered (head x) row 0 (offset x n) listed long room j
        ∙ ap (λ (b : Bool). b || eqb (offset x n) j) (member_none (row_of row) j)
        ∙ ap (λ (q : Place). offsets (head x) x q j || eqb (offset x n) j) (sym e))
        (new_answer (state_of x) (pos n))
        (wanted ∙ verdict_room (head x) (after x n) (Ok true) ov (omega arith) (omega arith))
        (sym (ap (λ (k : Kind). grown k (chunk_size (state_of x) (chunk x n)) (head x).m) (kind_of_law i Absent e)))
        (subst (λ (q : Place). Moves x q (Sparse (free_row x) 1)) (sym e) low)

  -- ---- 7, 6

  seven : overflows (head x) (after x n) ≤ (head x).v → EntryFor (head x) x.table (chunk x n) → (b : Bool) → ltb (free_row x) (head x).r ≡ b → Good x n (cond b (Ok (Begin (free_row x))) (Err rows_full))
  seven ov en true q = begin_good (ltb-true (free_row x) (head x).r q) ov en
  seven ov en false q =
      let s = sparses_is w in
      let f = none_full w.rows_full_to (ltb-false (free_row x) (head x).r q) in
      let m = one_more in
      refuses x w (pos n) (new_answer (state_of x) (pos n)) rows_full (wanted ∙ verdict_seven (head x) (after x n) (Ok true) ov (omega arith))

  six : (a : Bool) → leb (head x).d (chunk x n) ≡ a → (b : Bool) → leb (head x).v (over_count x.table) ≡ b
      → Good x n (cond (a && b) (Err overflow_full) (cond (ltb (free_row x) (head x).r) (Ok (Begin (free_row x))) (Err rows_full)))
  six true p true q =
      let s = overflows_is w in
      let l = leb-true (head x).v (over_count x.table) q in
      let u : overflows (head x) (after x n) + 0 ≡ overflows (head x) (kinds x) + 1 = d.over true p in
      refuses x w (pos n) (new_answer (state_of x) (pos n)) overflow_full (wanted ∙ verdict_six (head x) (after x n) (Ok true) (omega arith))
  six true p false q =
      let s = overflows_is w in
      let l = leb-false (head x).v (over_count x.table) q in
      let u : overflows (head x) (after x n) + 0 ≡ overflows (head x) (kinds x) + 1 = d.over true p in
      seven (omega arith) (λ m. l) (ltb (free_row x) (head x).r) refl
  six false p b q =
      let s = overflows_fit w in
      let l = leb-false (head x).d (chunk x n) p in
      let u : overflows (head x) (after x n) + 0 ≡ overflows (head x) (kinds x) + 0 = d.over false p in
      seven (omega arith) (λ m. absurd (omega arith)) (ltb (free_row x) (head x).r) refl

  pub absent_good : Good x n (start_chunk x (chunk x n))
  absent_good = subst (Good x n) (sym (start_chunk_law w (chunk x n))) (six (leb (head x).d (chunk x n)) refl (leb (head x).v (over_count x.table)) refl)
