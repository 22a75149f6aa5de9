-- An insert, prepared or not, into a dense chunk: its bit is set. Assumes nothing.
use mathlib.Core.Path.{◌≡◌, refl, sym, ap, subst, ◌∙◌}
use mathlib.Core.List.{List}
use mathlib.Core.Bool.{Bool, true, false, cond, ◌||◌}
use Prim.Native.Nat.{ℕ, ◌+◌}
use native.Mathlib.Omega.{arith}
use lib.IntN.{pos}
use lib.ListN.{length}
use lib.Dec.{eqb}
use Rattle.dense.specs.Bits.{is_set, with_bit}
use Rattle.dense.proofs.Bits.{length_with}
use Rattle.layout.specs.Mem.{Mem, mem}
use Rattle.layout.specs.Sizes.{wide, page_owners_at, head}
use Rattle.layout.specs.Places.{encoded, page_part}
use Rattle.layout.specs.Entries.{word_of}
use Rattle.document.specs.State.{Kind, dense}
use Rattle.layout.specs.Meaning.{offsets, state_of}
use Rattle.layout.specs.Follows.{OwnsPage, Follows}
use Rattle.layout.specs.Lowest.{Moves}
use Rattle.layout.specs.declared.place.Place.{Place}
use Rattle.layout.specs.declared.place.Place.TheVariants.{Dense}
use Rattle.layout.proofs.Owners.{put_owner_same}
use Rattle.layout_laws.proofs.Entries.{laid_ordered}
use Rattle.layout_laws.proofs.Sizes.{wide_top, page_length}
use Rattle.layout_laws.proofs.Walked.{laid_walked}
use Rattle.layout_laws.proofs.Owners.{page_of_law}
use Rattle.layout.specs.Writes.{put_word, put_page_owner, put_page}
use Rattle.steps.specs.Steps.{paged}
use Rattle.steps.specs.Effects.{PageFor, Becomes}
use Rattle.steps.proofs.Paged.{paged_becomes}
use Rattle.calls.specs.Insert.{mark_plan, bit_put, acted}
use Rattle.document.specs.Insert.{chunk_size, grown, new_answer}
use Rattle.calls.proofs.Outcomes.{Inserts}
use Rattle.calls.proofs.PageEdits.{set_with}
use Rattle.calls.proofs.Plans.{dense_word, put_same}
use Rattle.calls.proofs.Grown.{grows}
use Rattle.calls.proofs.Wanted.{chunk, offset, placed, Says, Good, Into, offset_in, open_at, holds_of, kind_of_law, known_good, same_room}
use Rattle.calls.specs.declared.plan.Plan.TheVariants.{Known, Mark}
use Rattle.document.specs.Results.{Truth}
use Rattle.std.specs.Prelude.{Ok}

module _ {x : Mem} {n : ℕ} (i : Into x n) (q : ℕ) (e : placed x n ≡ Dense q) where
  abbrev w : Follows x
  w = i.follows

  abbrev page : List ℕ
  page = page_part (head x) x.pages q

  owns : OwnsPage (head x) x.table (chunk x n) q
  owns = page_of_law (laid_walked w) (chunk x n) q e

  page_long : length page ≡ wide (head x)
  page_long = page_length (head x) x w.room q owns.there

  -- the chunk stays where it was: its word and its page's owner are there already
  table_same : put_page_owner (head x) (put_word (head x) x.table (chunk x n) (encoded (Dense q))) q (chunk x n + 1) ≡ x.table
  table_same =
      let a = dense_word (word_of (head x) x.table (chunk x n)) q e in
      ap (λ (t : List ℕ). put_page_owner (head x) t q (chunk x n + 1)) (put_same (head x) x.table (laid_ordered w) (chunk x n) (encoded (Dense q)) a (omega arith))
      ∙ put_owner_same 10 (page_owners_at (head x)) x.table q (chunk x n + 1) owns.owner (omega arith)

  marked_is : paged (head x) x (chunk x n) (Dense q) q (with_bit page (offset x n)) ≡ bit_put x (offset x n) q
  unfolding paged
  marked_is = ap (mem (put_page (head x) x.pages q (with_bit page (offset x n))) x.rows x.blocks) table_same

  became : Becomes x (paged (head x) x (chunk x n) (Dense q) q (with_bit page (offset x n))) (chunk x n) (Dense q) (is_set (with_bit page (offset x n)))
  became =
      paged_becomes x (chunk x n) (Dense q) q (with_bit page (offset x n))
      (record { set = open_at i; old_is = sym e; there = owns.there; long = length_with page (offset x n) ∙ page_long; came = PageFor.own_page refl })

  pub mark_good : (wanted : Truth) → wanted ≡ Ok true → Says x (pos n) wanted (acted x (chunk x n) (offset x n) (Ok (Mark q)))
  mark_good wanted g =
      let t = wide_top (head x) w.sizes in
      let l = page_long in
      let o = offset_in i in
      subst (Inserts x (pos n) wanted (Ok true)) marked_is
      (grows n (Dense q) (is_set (with_bit page (offset x n))) became
      (λ j m. set_with page (offset x n) j (omega arith) ∙ ap (λ (p : Place). offsets (head x) x p j || eqb (offset x n) j) (sym e))
      wanted g
      (sym (ap (λ (k : Kind). grown k (chunk_size (state_of x) (chunk x n)) (head x).m) (kind_of_law i (Dense q) e)))
      (subst (λ (p : Place). Moves x p (Dense q)) (sym e) refl))

  dense_if : (b : Bool) → is_set page (offset x n) ≡ b → Good x n (cond b (Ok Known) (Ok (Mark q)))
  dense_if true s = known_good i (holds_of i (Dense q) e ∙ s)
  dense_if false s = mark_good (new_answer (state_of x) (pos n)) (same_room i dense (kind_of_law i (Dense q) e) refl (holds_of i (Dense q) e ∙ s))

  pub dense_good : Good x n (mark_plan x (offset x n) q)
  dense_good = dense_if (is_set page (offset x n)) refl
