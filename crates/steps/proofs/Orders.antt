-- A table whose ids rise, after a chunk's word and owners are written: ids rise still, and every other chunk has the place it had. Assumes nothing.
use mathlib.Core.Path.{◌≡◌, ap}
use mathlib.Core.Logic.{◌≢◌}
use mathlib.Core.List.{List}
use mathlib.Core.Bool.{Bool, false}
use Prim.Native.Nat.{ℕ, ◌+◌, ◌≤◌, ◌<◌}
use native.Mathlib.Omega.{arith}
use lib.ListN.{length}
use mir.Val.{bool_byte}
use Rattle.sums.specs.Ids.{count}
use Rattle.sparse.specs.Row.{Rising}
use Rattle.document.specs.Sizes.{last_chunk}
use Rattle.layout.specs.Mem.{Mem}
use Rattle.layout.specs.Sizes.{table_size, over_count}
use Rattle.layout.specs.Places.{decoded, encoded}
use Rattle.layout.specs.Entries.{entries, chunk_at, word_of, place_of}
use Rattle.layout.specs.Follows.{Key}
use Rattle.layout.specs.Writes.{put_word}
use Rattle.document.specs.declared.sizes.Sizes.{Sizes}
use Rattle.layout.specs.declared.place.Place.{Place}
use Rattle.layout.specs.declared.place.Place.TheVariants.{Absent, Sparse, Dense}
use Rattle.layout_laws.proofs.Entries.{Ordered, chunk_over, chunk_below, chunk_rising}
use Rattle.layout_laws.proofs.Crowds.{rising_least}
use Rattle.steps.specs.Steps.{left_owner, paged}
use Rattle.steps.proofs.Puts.{put_rising, put_all, put_sum, put_beside, put_beside_off}
use Rattle.steps.proofs.Table.{run_of, Wrote, row_owner_set, page_owner_set}
use Rattle.steps.proofs.Words.{put_word_law}

module _ (h : Sizes) (t t' : List ℕ) (c w : ℕ) (o : Ordered h t) (u : Wrote h t t' c w) where
  up : Rising (chunk_at h t) (entries h t)
  up = chunk_rising h t o

  up_after : Rising (chunk_at h t') (entries h t')
  up_after = put_rising (run_of h t) (run_of h t') c w up u.put

  pub wrote_ordered : c < last_chunk h → Ordered h t'
  wrote_ordered far = record { sizes = o.sizes; keys = key }
    where
      below : (e : ℕ) → e < entries h t' → chunk_at h t' e < last_chunk h
      below = put_all (run_of h t) (run_of h t') c w up (λ (k v : ℕ). k < last_chunk h) u.put (λ j l d. chunk_below h t o j l) far

      key : (j : ℕ) → j < over_count t' → Key h t' j
      key j l =
          let q = chunk_over h t' j in
          record {
            low = let g = rising_least (chunk_at h t') (entries h t') up_after (h.d + j) (omega arith) in omega arith;
            high = let g = below (h.d + j) (omega arith) in omega arith;
            rising = λ m. (let p = chunk_over h t' (j + 1) in let g = up_after (h.d + j) (h.d + (j + 1)) (omega arith) (omega arith) in omega arith);
          }

  pub wrote_place : place_of h t' c ≡ decoded w
  unfolding word_of
  wrote_place = ap decoded (put_beside (run_of h t) (run_of h t') c w up u.put)

  pub wrote_place_off : (i : ℕ) → i ≢ c → place_of h t' i ≡ place_of h t i
  unfolding word_of
  wrote_place_off i d = ap decoded (put_beside_off (run_of h t) (run_of h t') c w up u.put i d)

  -- entries of other chunks are as many as before
  pub wrote_count : (g : ℕ → Bool) → g c ≡ false → count (λ (e : ℕ). g (chunk_at h t' e)) (entries h t') ≡ count (λ (e : ℕ). g (chunk_at h t e)) (entries h t)
  unfolding count
  wrote_count g none =
      let z : bool_byte (g c) ≡ 0 = ap bool_byte none in
      let s = put_sum (run_of h t) (run_of h t') c w up (λ (k v : ℕ). bool_byte (g k)) z u.put in
      omega arith

-- the step into a page writes one word, owners aside
module _ (h : Sizes) (t : List ℕ) (c w : ℕ) where
  left_wrote : (u : List ℕ) → Wrote h t u c w → (q : Place) → Wrote h t (left_owner h u q) c w
  left_wrote u z Absent = z
  left_wrote u z (Sparse r l) = row_owner_set h t u c w z r 0
  left_wrote u z (Dense p) = z

pub paged_wrote : (h : Sizes) (x : Mem) → Ordered h x.table → table_size h ≤ length x.table → over_count x.table ≤ h.v → (c : ℕ)
    → (((e : ℕ) → e < entries h x.table → chunk_at h x.table e ≢ c) → over_count x.table < h.v)
    → (old : Place) (p : ℕ) (page : List ℕ) → Wrote h x.table (paged h x c old p page).table c (encoded (Dense p))
unfolding paged
paged_wrote h x o room fits c free old p page =
    let t = x.table in
    let w = encoded (Dense p) in
    let u = put_word h t c w in
    page_owner_set h t (left_owner h u old) c w (left_wrote h t c w u (put_word_law h t o room fits c w free).wrote old) p (c + 1)
