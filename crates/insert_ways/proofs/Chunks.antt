-- Which plan an insert into a chunk makes, by the chunk's word and the place that it names. Assumes nothing.
use mathlib.Core.Path.{◌≡◌, sym, ◌∙◌, ap, subst}
use mathlib.Core.List.{List}
use mathlib.Core.Bool.{Bool, cond, not}
use Prim.Native.Nat.{ℕ}
use lib.ListN.{take, drop}
use Rattle.dense.specs.Bits.{is_set, with_bit}
use Rattle.layout.specs.Mem.{Mem, mem}
use Rattle.layout.specs.Places.{decoded}
use Rattle.layout.specs.Short.{word_in}
use Rattle.layout.specs.declared.place.Place.{Place}
use Rattle.layout.specs.declared.place.Place.TheVariants.{Sparse, Dense}
use Rattle.layout.specs.Writes.{put_part}
use Rattle.calls.specs.Reading.{spot_by}
use Rattle.calls.specs.Insert.{into_place, into_dense, inside_slices, by_word, insert_plan, prepared_plan, acted, told}
use Rattle.calls.proofs.Places.{Names, row_at, page_at}
use Rattle.insert_ways.proofs.Marks.{page_marked}
use Rattle.calls.specs.Planned.{InsertPlan}
use Rattle.document.specs.Refusals.{not_laid_out}
use Rattle.layout.specs.declared.find.Spot.TheVariants.{Page, Row}
use Rattle.std.specs.Prelude.{Err, Ok}

-- ---- the row that a word names

pub named : (x : Mem) (w a n l r : ℕ) → Ok (Row a n l) ≡ spot_by x w → ((k j : ℕ) → decoded w ≡ Sparse k j → r ≡ k) → Names x w (Sparse r l)
named x w a n l r e f = let i = row_at x w a n l e in subst (λ (k : ℕ). Names x w (Sparse k l)) (sym (f i.row l i.names.is)) i.names

-- ---- by the chunk's word

module _ (x : Mem) (c : ℕ) (plan : Place → InsertPlan) (w : ℕ) (e : Ok w ≡ word_in x.table c) where
  by_place : (p : Place) → Names x w p → plan p ≡ by_word x plan (word_in x.table c)
  by_place p i =
      ap (λ (b : Bool). cond b (plan p) (Err not_laid_out)) (sym i.good)
      ∙ (ap (λ (q : Place). cond (inside_slices x q) (plan q) (Err not_laid_out)) (sym i.is) ∙ ap (by_word x plan) e)

module _ (x : Mem) (c o w : ℕ) (e : Ok w ≡ word_in x.table c) where
  pub put_place : (p : Place) → Names x w p → acted x c o (into_place x c o p) ≡ acted x c o (insert_plan x c o)
  unfolding insert_plan
  put_place p i = ap (acted x c o) (by_place x c (into_place x c o) w e p i)

  pub prepared_place : (p : Place) → Names x w p → acted x c o (into_dense x o p) ≡ acted x c o (prepared_plan x c o)
  unfolding prepared_plan
  prepared_place p i = ap (acted x c o) (by_place x c (into_dense x o) w e p i)

-- a bit of a page that was set on the spot
module _ (pages rows b t : List ℕ) (c o w : ℕ) (e : Ok w ≡ word_in t c) (a n : ℕ) (g : Ok (Page a n) ≡ spot_by (mem pages rows b t) w) (k : Bool) (p : List ℕ)
    (i : k ≡ not (is_set (take n (drop a pages)) o)) (j : p ≡ put_part pages a n (with_bit (take n (drop a pages)) o)) where
  pub put_page : told (Ok k) (mem p rows b t) ≡ acted (mem pages rows b t) c o (insert_plan (mem pages rows b t) c o)
  put_page =
      let x = mem pages rows b t in
      let q = page_at x w a n g in
      page_marked pages rows b t c o q.page a n q.start q.long k p i j ∙ put_place x c o w e (Dense q.page) q.names

  pub prepared_page : told (Ok k) (mem p rows b t) ≡ acted (mem pages rows b t) c o (prepared_plan (mem pages rows b t) c o)
  prepared_page =
      let x = mem pages rows b t in
      let q = page_at x w a n g in
      page_marked pages rows b t c o q.page a n q.start q.long k p i j ∙ prepared_place x c o w e (Dense q.page) q.names
