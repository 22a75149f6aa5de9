-- An insert into a sparse chunk of m members: it becomes dense in the lowest free page and its row is free, or 8. Assumes nothing.
use mathlib.Core.Path.{◌≡◌, refl, sym, ap, subst, ◌∙◌}
use mathlib.Core.List.{List}
use mathlib.Core.Bool.{Bool, true, false, cond, ◌||◌, ◌&&◌}
use Prim.Native.Nat.{ℕ, ◌+◌, ◌≤◌, ◌<◌}
use native.Mathlib.Omega.{arith}
use lib.IntN.{pos}
use lib.ListN.{length}
use lib.Dec.{leb, ltb, eqb}
use mir.Val.{bool_byte}
use borrow.Author.Tests.{ltb-true, ltb-false, le-ltb}
use Rattle.sparse.specs.Row.{row_of, member}
use Rattle.dense.specs.Bits.{bit, is_set, with_bit, with_row}
use Rattle.layout.specs.Mem.{Mem}
use Rattle.document.specs.Sizes.{top}
use Rattle.layout.specs.Sizes.{wide, head}
use Rattle.layout.specs.Places.{row_part, page_part}
use Rattle.document.specs.State.{sparse, dense}
use Rattle.layout.specs.Meaning.{offsets, kinds, state_of}
use Rattle.layout.specs.Follows.{Follows}
use Rattle.layout.specs.Lowest.{LowestPage, Moves}
use Rattle.layout.specs.declared.place.Place.{Place}
use Rattle.layout.specs.declared.place.Place.TheVariants.{Sparse, Dense}
use Rattle.layout_laws.proofs.Sizes.{page_length}
use Rattle.steps.specs.Steps.{paged}
use Rattle.steps.specs.Effects.{PageFor, Becomes}
use Rattle.steps.proofs.Paged.{paged_becomes}
use Rattle.calls.specs.Insert.{free_page, turn_dense}
use Rattle.document.specs.Insert.{new_answer}
use Rattle.document.specs.Room.{overflows, sparses, denses, verdict}
use Rattle.layout.proofs.FirstFree.{lowest, found_less, none_full}
use Rattle.calls.proofs.Verdicts.{verdict_eight, verdict_room, denses_is, sparses_fit, overflows_fit, Needs}
use Rattle.calls.proofs.PageEdits.{free_bits, set_turned, length_turned}
use Rattle.calls.proofs.Plans.{turn_dense_law}
use Rattle.calls.proofs.Grown.{refuses, grows}
use Rattle.calls.proofs.Wanted.{chunk, offset, placed, after, Good, Into, offset_in, open_at, holds_of, kind_of_law, wanted_new, grown_needs}
use Rattle.calls.proofs.Rowings.{own_row, own_listed, own_grown, own_kind}
use Rattle.calls.specs.declared.plan.Plan.TheVariants.{Turn}
use Rattle.document.specs.Refusals.{pages_full}
use Rattle.std.specs.Prelude.{Err, Ok}

module _ {x : Mem} {n : ℕ} (i : Into x n) (r l : ℕ) (e : placed x n ≡ Sparse r l) (full : (head x).m ≤ l) (new : member (row_of (row_part (head x) x.rows r)) l (offset x n) ≡ false) where
  abbrev w : Follows x
  w = i.follows

  abbrev row : List ℕ
  row = row_part (head x) x.rows r

  turned : Needs (head x) (kinds x) (after x n) (chunk x n) sparse dense
  turned = grown_needs i sparse dense (kind_of_law i (Sparse r l) e) (own_grown i r l e false (le-ltb l (head x).m full))

  same_over : overflows (head x) (after x n) + bool_byte (leb (head x).d (chunk x n) && true) ≡ overflows (head x) (kinds x) + bool_byte (leb (head x).d (chunk x n) && true)
  same_over = turned.over (leb (head x).d (chunk x n)) refl

  row_less : sparses (head x) (after x n) + 1 ≡ sparses (head x) (kinds x) + 0
  row_less = turned.rows

  page_more : denses (head x) (after x n) + 0 ≡ denses (head x) (kinds x) + 1
  page_more = turned.pages

  over_room : overflows (head x) (after x n) ≤ (head x).v
  over_room = let a = overflows_fit w in let u = same_over in omega arith

  row_room : sparses (head x) (after x n) ≤ (head x).r
  row_room = let a = sparses_fit w in let u = row_less in omega arith

  wanted : new_answer (state_of x) (pos n) ≡ verdict (head x) (after x n) (Ok true)
  wanted = wanted_new i (holds_of i (Sparse r l) e ∙ new)

  module _ (there : free_page x < (head x).p) where
    abbrev blank : List ℕ
    blank = page_part (head x) x.pages (free_page x)

    abbrev page' : List ℕ
    page' = with_bit (with_row blank row (top (head x)) l) (offset x n)

    low : LowestPage x (free_page x)
    low = lowest w.pages_full_to there

    long : length blank ≡ wide (head x)
    long = page_length (head x) x w.room (free_page x) there

    clear : (o : ℕ) → bit blank o ≡ 0
    clear = free_bits x.pages (free_page x) (head x).p (wide (head x)) there w.room.in_pages (w.free_pages (free_page x) there low.free)

    opened : Becomes x (paged (head x) x (chunk x n) (Sparse r l) (free_page x) page') (chunk x n) (Dense (free_page x)) (is_set page')
    opened =
        paged_becomes x (chunk x n) (Sparse r l) (free_page x) page'
        (record {
          set = open_at i;
          old_is = sym e;
          there = there;
          long = length_turned (head x) w.sizes blank row l long clear (own_listed i r l e) (offset x n);
          came = PageFor.new_page refl low (λ q. absurd cc);
        })

    turn_good : Good x n (Ok (Turn r l (free_page x)))
    turn_good =
        let f = found_less w.pages_full_to there in
        let p = denses_is w in
        let y = page_more in
        grows n (Dense (free_page x)) (is_set page') opened
        (λ j m. set_turned (head x) w.sizes blank row l long clear (own_listed i r l e) (offset x n) (offset_in i) j ∙ ap (λ (p : Place). offsets (head x) x p j || eqb (offset x n) j) (sym e))
        (new_answer (state_of x) (pos n))
        (wanted ∙ verdict_room (head x) (after x n) (Ok true) over_room row_room (omega arith))
        (own_kind i r l e false (le-ltb l (head x).m full))
        (subst (λ (q : Place). Moves x q (Dense (free_page x))) (sym e) low)

  eight : (b : Bool) → ltb (free_page x) (head x).p ≡ b → Good x n (cond b (Ok (Turn r l (free_page x))) (Err pages_full))
  eight true q = turn_good (ltb-true (free_page x) (head x).p q)
  eight false q =
      let f = none_full w.pages_full_to (ltb-false (free_page x) (head x).p q) in
      let p = denses_is w in
      let y = page_more in
      refuses x w (pos n) (new_answer (state_of x) (pos n)) pages_full (wanted ∙ verdict_eight (head x) (after x n) (Ok true) over_room row_room (omega arith))

  pub turn_plan : Good x n (turn_dense x r l)
  turn_plan = subst (Good x n) (sym (turn_dense_law w r l (own_row i r l e).there)) (eight (ltb (free_page x) (head x).p) refl)
