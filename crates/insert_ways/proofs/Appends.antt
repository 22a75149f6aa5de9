-- An offset that comes behind a row's members: it has a place there, and the append is what the insert does. Assumes nothing.
use mathlib.Core.Path.{◌≡◌, ◌∙◌}
use mathlib.Core.List.{List}
use mathlib.Core.Bool.{true}
use Prim.Native.Nat.{ℕ, ◌+◌, ◌^◌, ◌≤◌, ◌<◌}
use native.Mathlib.Omega.{arith}
use lib.ListN.{length, set}
use Rattle.layout.specs.Mem.{Mem, mem}
use Rattle.layout.specs.Sizes.{header_at}
use Rattle.layout.specs.Short.{word_in}
use Rattle.layout.specs.Writes.{put_word}
use Rattle.layout.specs.declared.place.Place.TheVariants.{Sparse}
use Rattle.calls.specs.Reading.{spot_by}
use Rattle.calls.specs.Insert.{insert_plan, acted, told}
use Rattle.calls.proofs.Places.{RowAt, RowIn, row_in, row_at}
use Rattle.calls.proofs.Plans.{sparse_word, sparse_below}
use Rattle.insert_writes.proofs.Appends.{append_acts}
use Rattle.insert_ways.specs.Ways.{Next}
use Rattle.insert_ways.proofs.Chunks.{put_place}
use Rattle.layout.specs.declared.find.Spot.TheVariants.{Row}
use Rattle.std.specs.Prelude.{Ok}

-- the row that a word names
module _ (x : Mem) (w a n l : ℕ) (e : Ok (Row a n l) ≡ spot_by x w) where
  at : RowAt x w a n l
  at = row_at x w a n l e

  within : RowIn x at.row l
  within = row_in x at.row l at.names.good

  pub row_part : a + n ≤ length x.rows
  row_part = let f = within.fits in let s = at.start in let g = at.long in omega arith

  module _ (o : ℕ) (i : Next x.rows a n l o) where
    pub place_in : a + l < length x.rows
    place_in = let f = row_part in let r = i.room in omega arith

    pub word_small : w < 2 ^ 28
    word_small =
        let f = sparse_word w at.row l at.names.is in
        let b = sparse_below w at.row l at.names.is in
        let r = i.room in
        let g = at.long in
        let s = within.small in
        omega arith

module _ (pages rows b t : List ℕ) (c o w : ℕ) (f : Ok w ≡ word_in t c) (a n l : ℕ) (e : Ok (Row a n l) ≡ spot_by (mem pages rows b t) w) (i : Next rows a n l o) where
  pub append_told : (s u : List ℕ) → s ≡ set rows (a + l) o → u ≡ put_word (header_at t) t c (w + 1)
      → told (Ok true) (mem pages s b u) ≡ acted (mem pages rows b t) c o (insert_plan (mem pages rows b t) c o)
  append_told s u p q =
      let x = mem pages rows b t in
      let r = at x w a n l e in
      let g = r.long in
      let m = i.room in
      append_acts pages rows b t c o w r.row l a r.names.is r.start (omega arith) (within x w a n l e).fits i.some i.above s u p q
      ∙ put_place x c o w f (Sparse r.row l) r.names
