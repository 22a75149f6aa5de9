-- An append: an offset behind a row's members, and a word that counts one more, are what the plan for it does. Assumes nothing.
use mathlib.Core.Path.{◌≡◌, sym, ◌∙◌, ap, ap₂}
use mathlib.Core.List.{List, ◌++◌}
use mathlib.Core.Bool.{Bool, true, cond}
use Prim.Native.Nat.{ℕ, ◌+◌, ◌-◌, ◌*◌, ◌≤◌, ◌<◌}
use native.Mathlib.Omega.{arith}
use lib.ListN.{length, get_or, set, take, drop, length-take, length-drop}
use lib.Seq.{drop-drop, get_or-take, get_or-drop}
use borrow.Author.Tests.{lt-ltb}
use borrow.Rule.Slice.PartMut.{set_mid_at}
use Rattle.sparse.specs.Search.{spot_in}
use Rattle.sparse.specs.Edit.{inserted_at}
use Rattle.sparse.proofs.Edits.{inserted_end}
use Rattle.sparse.proofs.Searches.{spot_end}
use Rattle.document.specs.declared.sizes.Sizes.{Sizes}
use Rattle.layout.specs.Mem.{mem}
use Rattle.layout.specs.Sizes.{header_at}
use Rattle.layout.specs.Places.{decoded, encoded, row_part}
use Rattle.layout.specs.Writes.{put_part, put_word, put_row}
use Rattle.layout.specs.declared.place.Place.TheVariants.{Sparse}
use Rattle.calls.specs.Insert.{turn_dense, into_row, into_place, acted, told}
use Rattle.calls.proofs.Plans.{sparse_word}
use Rattle.insert_writes.proofs.Acts.{act_enter}
use Rattle.calls.specs.declared.plan.Plan.TheVariants.{Enter}
use Rattle.std.specs.Prelude.{Err, Ok}

-- ---- the row

module _ (rows : List ℕ) (h : Sizes) (r l o a : ℕ) (start : a ≡ r * h.m) (room : l < h.m) (fits : r * h.m + h.m ≤ length rows) where
  abbrev row : List ℕ
  row = row_part h rows r

  row_long : length row ≡ h.m
  row_long = simp (length-take, length-drop) (omega arith)

  row_set : set row l o ≡ inserted_at row l l o
  row_set = inserted_end row l o (omega (arith, row_long))

  append_put : set rows (a + l) o ≡ put_row h rows r (inserted_at row l l o)
  unfolding put_part
  append_put =
      ap (λ (i : ℕ). set rows (i + l) o) start
      ∙ (sym (set_mid_at (r * h.m) h.m l rows o (omega (arith, row_long)))
      ∙ ap₂ (λ (u v : List ℕ). take (r * h.m) rows ++ (u ++ v)) row_set (drop-drop h.m (r * h.m) rows))

  last_is : 1 ≤ l → get_or row (l - 1) 0 ≡ get_or rows (a + (l - 1)) 0
  last_is s =
      get_or-take h.m (drop (r * h.m) rows) (l - 1) 0 (omega arith)
      ∙ (get_or-drop (r * h.m) rows (l - 1) 0 ∙ ap (λ (i : ℕ). get_or rows (i + (l - 1)) 0) (sym start))

  append_spot : 1 ≤ l → get_or rows (a + (l - 1)) 0 < o → Err l ≡ spot_in row l o
  append_spot s above = spot_end row l o (λ e. omega arith) (omega (arith, last_is s))

-- ---- the plan

module _ (pages rows b t : List ℕ) (c o w r l a : ℕ) (is : decoded w ≡ Sparse r l) (start : a ≡ r * (header_at t).m) (room : l < (header_at t).m)
    (fits : r * (header_at t).m + (header_at t).m ≤ length rows) (some : 1 ≤ l) (above : get_or rows (a + (l - 1)) 0 < o) where
  word_is : w + 1 ≡ encoded (Sparse r (l + 1))
  word_is = let e = sparse_word w r l is in omega arith

  plan_is : into_place (mem pages rows b t) c o (Sparse r l) ≡ Ok (Enter r l l)
  plan_is =
      let x = mem pages rows b t in
      ap (into_row x r l) (sym (append_spot rows (header_at t) r l o a start room fits some above))
      ∙ ap (λ (k : Bool). cond k (Ok (Enter r l l)) (turn_dense x r l)) (lt-ltb l (header_at t).m room)

  pub append_acts : (s u : List ℕ) → s ≡ set rows (a + l) o → u ≡ put_word (header_at t) t c (w + 1)
      → told (Ok true) (mem pages s b u) ≡ acted (mem pages rows b t) c o (into_place (mem pages rows b t) c o (Sparse r l))
  append_acts s u e f =
      act_enter pages rows b t c o (into_place (mem pages rows b t) c o (Sparse r l)) r l l s u plan_is
      (e ∙ append_put rows (header_at t) r l o a start room fits) (f ∙ ap (put_word (header_at t) t c) word_is)
