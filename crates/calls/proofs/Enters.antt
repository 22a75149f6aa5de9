-- An insert into a sparse chunk with room: the row gets the offset, the word one member more. Assumes nothing.
use mathlib.Core.Path.{◌≡◌, refl, sym, ap, subst, ◌∙◌}
use mathlib.Core.List.{List}
use mathlib.Core.Bool.{true, false, ◌||◌}
use Prim.Native.Nat.{ℕ, suc, ◌+◌, ◌<◌}
use native.Mathlib.Numerals.{add-one}
use native.Mathlib.Omega.{arith}
use lib.IntN.{pos}
use lib.ListN.{get_or}
use lib.Dec.{eqb}
use borrow.Author.Tests.{lt-ltb}
use Rattle.sparse.specs.Row.{row_of, member, below_of}
use Rattle.sparse.specs.Edit.{inserted_at}
use Rattle.layout.specs.Mem.{Mem, mem}
use Rattle.layout.specs.Sizes.{row_owners_at, head}
use Rattle.layout.specs.Places.{encoded, row_part}
use Rattle.document.specs.State.{sparse}
use Rattle.layout.specs.Meaning.{offsets, state_of}
use Rattle.layout.specs.Follows.{Follows}
use Rattle.layout.specs.Lowest.{Moves}
use Rattle.layout.specs.declared.place.Place.{Place}
use Rattle.layout.specs.declared.place.Place.TheVariants.{Sparse}
use Rattle.layout_laws.proofs.Entries.{laid_ordered, word_of_none}
use Rattle.layout.specs.Writes.{put_word, put_row}
use Rattle.steps.specs.Steps.{rowed}
use Rattle.steps.specs.Effects.{RowFor, Becomes}
use Rattle.steps.proofs.Words.{put_word_law}
use Rattle.steps.proofs.Rowed.{rowed_becomes}
use Rattle.calls.specs.Insert.{entered}
use Rattle.document.specs.Insert.{new_answer}
use Rattle.calls.proofs.Outcomes.{Inserts}
use Rattle.calls.proofs.RowEdits.{length_entered, member_entered, listed_entered}
use Rattle.layout.proofs.Owners.{put_owner_same}
use Rattle.calls.proofs.Grown.{grows}
use Rattle.calls.proofs.Wanted.{chunk, offset, placed, Good, Into, offset_in, open_at, holds_of, kind_of_law, same_room}
use Rattle.calls.proofs.Rowings.{own_row, own_listed, own_long, own_word, own_grown, own_kind}
use Rattle.calls.specs.declared.plan.Plan.TheVariants.{Enter}
use Rattle.std.specs.Prelude.{Ok}

module _ {x : Mem} {n : ℕ} (i : Into x n) (r l : ℕ) (e : placed x n ≡ Sparse r l) (room : l < (head x).m) (new : member (row_of (row_part (head x) x.rows r)) l (offset x n) ≡ false) where
  abbrev w : Follows x
  w = i.follows

  abbrev row : List ℕ
  row = row_part (head x) x.rows r

  abbrev place : ℕ
  place = below_of (row_of row) l (offset x n)

  abbrev row' : List ℕ
  row' = inserted_at row l place (offset x n)

  fuller : Becomes x (rowed (head x) x (chunk x n) r (suc l) row') (chunk x n) (Sparse r (suc l)) (member (row_of row') (suc l))
  fuller =
      rowed_becomes x (chunk x n) r (suc l) row'
      (record {
        set = open_at i;
        there = (own_row i r l e).there;
        some = omega arith;
        short = omega arith;
        long = length_entered (head x) row l (offset x n) (own_listed i r l e) (own_long i r l e) room;
        listed = listed_entered (head x) row l (offset x n) (own_listed i r l e) (own_long i r l e) room (offset_in i) new;
        came = RowFor.own_row l e;
      })

  -- the row's owner is the chunk already
  owner_kept : get_or (put_word (head x) x.table (chunk x n) (encoded (Sparse r (suc l)))) (row_owners_at (head x) + r) 0 ≡ chunk x n + 1
  owner_kept =
      (put_word_law (head x) x.table (laid_ordered w) w.room.in_table w.over_fits (chunk x n) (encoded (Sparse r (suc l)))
      (λ none. absurd (let z = word_of_none (head x) x.table (chunk x n) none in let i = own_word i r l e in omega arith))
      ).owners (row_owners_at (head x) + r) (omega arith)
      ∙ (own_row i r l e).owner

  entered_is : rowed (head x) x (chunk x n) r (suc l) row' ≡ entered x (chunk x n) (offset x n) r l place
  unfolding rowed
  entered_is =
      ap (mem x.pages (put_row (head x) x.rows r row') x.blocks)
      (put_owner_same 9 (row_owners_at (head x)) (put_word (head x) x.table (chunk x n) (encoded (Sparse r (suc l)))) r (chunk x n + 1) owner_kept (omega arith)
      ∙ ap (λ (k : ℕ). put_word (head x) x.table (chunk x n) (encoded (Sparse r k))) (sym (add-one l)))

  pub enter_good : Good x n (Ok (Enter r l place))
  enter_good =
      subst (Inserts x (pos n) (new_answer (state_of x) (pos n)) (Ok true)) entered_is
      (grows n (Sparse r (suc l)) (member (row_of row') (suc l)) fuller
      (λ j m. member_entered (head x) row l (offset x n) (own_listed i r l e) (own_long i r l e) room j ∙ ap (λ (p : Place). offsets (head x) x p j || eqb (offset x n) j) (sym e))
      (new_answer (state_of x) (pos n))
      (same_room i sparse (kind_of_law i (Sparse r l) e) (own_grown i r l e true (lt-ltb l (head x).m room)) (holds_of i (Sparse r l) e ∙ new))
      (own_kind i r l e true (lt-ltb l (head x).m room))
      (subst (λ (q : Place). Moves x q (Sparse r (suc l))) (sym e) refl))
