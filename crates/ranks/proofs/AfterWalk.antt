-- No rank of a ranked set that passed the walk refuses: every part lies in its pool, and every prefix is below 2^63. Assumes nothing.
use mathlib.Core.Path.{◌≡◌, refl, ap, ap₂, ◌∙◌}
use mathlib.Core.Bool.{Bool, true, cond, ◌&&◌}
use Prim.Native.Nat.{ℕ, ◌+◌, ◌*◌, ◌/◌, ◌%◌, ◌^◌, ◌<◌}
use native.Mathlib.Nat.{mod-lt, mul_assoc}
use native.Mathlib.Omega.{arith}
use lib.IntN.{pos}
use lib.ListN.{length, get_or, take, drop}
use lib.Dec.{leb, ltb}
use lib.Pow.{pow_pos}
use borrow.Author.Tests.{lt-ltb, le-leb}
use Rattle.numbers.specs.Ids.{split_of}
use Rattle.dense.specs.Bits.{bits_to}
use Rattle.document.specs.Sizes.{top}
use Rattle.layout.specs.Mem.{Mem}
use Rattle.layout.specs.Sizes.{wide, blocks_of, head, mode_at}
use Rattle.layout.specs.Places.{page_part}
use Rattle.layout.specs.Entries.{word_of, place_of}
use Rattle.layout.specs.Meaning.{ranked}
use Rattle.layout.specs.Follows.{Owned}
use Rattle.layout.specs.Tests.{Walked}
use Rattle.layout.specs.declared.place.Place.{Place}
use Rattle.layout.specs.declared.place.Place.TheVariants.{Absent, Sparse, Dense}
use Rattle.layout.specs.Short.{spot_on}
use Rattle.layout_laws.specs.Chunks.{first_rank}
use Rattle.layout_laws.proofs.Sizes.{blocks_wide, blocks_top, slot_inside}
use Rattle.layout_laws.proofs.Short.{owned_of, spot_is}
use Rattle.layout_laws.proofs.Walked.{first_fits}
use Rattle.calls.specs.Reading.{spot_by, shift_ok}
use Rattle.ranks.specs.Rank.{in_page, below_at, plus_before, rank_seat, rank_split, rank_by, below_place, rank_in}
use Rattle.ranks.proofs.Seats.{seat_is}
use Rattle.document.specs.Refusals.{is_open, not_laid_out}
use Rattle.layout.specs.Found.{Spotted}
use Rattle.std.specs.Prelude.{Err, Ok}

module _ {x : Mem} (w : Walked x (head x)) where
  pub tests_pass : (shift_ok x.table && leb (mode_at x.table) 1) ≡ true
  tests_pass = let z = w.sizes in ap₂ ◌&&◌ (ap₂ ◌&&◌ (le-leb 9 (head x).s z.s_low) (le-leb (head x).s 25 z.s_high)) (le-leb (mode_at x.table) 1 w.mode)

  -- ---- one chunk

  module _ (c o : ℕ) (l : o < top (head x)) where
    page_told : (p : ℕ) → p < (head x).p → in_page x (p * wide (head x)) (wide (head x)) o ≡ Ok (below_place x o (Dense p))
    page_told p m =
        let a = blocks_wide (head x) w.sizes in
        let b = blocks_top (head x) w.sizes in
        let n : o / 512 < blocks_of (head x) = omega arith in
        let e : p * wide (head x) / 8 ≡ p * blocks_of (head x) = omega (arith, mul_assoc p (blocks_of (head x)) 8, ap (λ (k : ℕ). p * k) a) in
        let i = w.room.in_blocks in
        let s = slot_inside p (head x).p (blocks_of (head x)) m in
        let block = bits_to (take 8 (drop (o / 512 * 8) (page_part (head x) x.pages p))) (o % 512) in
        ap (λ (k : ℕ). cond (ltb (k + o / 512) (length x.blocks)) (Ok (get_or x.blocks (k + o / 512) 0 + block)) (Err not_laid_out)) e
        ∙ ap (λ (t : Bool). cond t (Ok (get_or x.blocks (p * blocks_of (head x) + o / 512) 0 + block)) (Err not_laid_out))
        (lt-ltb (p * blocks_of (head x) + o / 512) (length x.blocks) (omega arith))

    pub below_told : (q : Place) → Owned (head x) x.table c q → below_at x o (spot_on (head x) q) ≡ Ok (below_place x o q)
    below_told Absent u = refl
    below_told (Sparse r k) u = refl
    below_told (Dense p) u = page_told p u.there

  -- ---- an id of 0 or more

  module _ (r : ranked x ≡ true) (n : ℕ) where
    abbrev c : ℕ
    c = n / top (head x)

    abbrev o : ℕ
    o = n % top (head x)

    -- what the chunk's seat says
    pub seat_told : plus_before (first_rank x (n / top (head x))) (below_at x (n % top (head x)) (spot_by x (word_of (head x) x.table (n / top (head x))))) ≡ Ok (rank_in x n)
    unfolding rank_in
    seat_told =
        let below = below_place x o (place_of (head x) x.table c) in
        ap (λ (q : Spotted). plus_before (first_rank x c) (below_at x o q)) (spot_is w c)
        ∙ ap (plus_before (first_rank x c)) (below_told c o (mod-lt n (pow_pos (head x).s)) (place_of (head x) x.table c) (owned_of w c))
        ∙ ap (λ (b : Bool). cond b (Ok (first_rank x c + below)) (Err not_laid_out)) (lt-ltb (first_rank x c) (2 ^ 63) (first_fits w r c))

    pub split_told : rank_split x (split_of (head x).s (pos n)) ≡ Ok (rank_in x n)
    split_told = ap (rank_seat x o) (seat_is w c) ∙ seat_told

    pub rank_told : rank_by x (pos n) ≡ Ok (rank_in x n)
    unfolding rank_by
    rank_told =
        let a = rank_split x (split_of (head x).s (pos n)) in
        ap₂ (λ (t b : Bool). cond t (cond b a (Err is_open)) (Err not_laid_out)) tests_pass r ∙ split_told
