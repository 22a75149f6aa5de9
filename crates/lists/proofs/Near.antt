-- A chunk after the walk: what is read of it without a test is what the single calls read. Assumes nothing.
use mathlib.Core.Path.{◌≡◌, sym, ap, ap₂, subst, ◌∙◌}
use mathlib.Core.Bool.{Bool, true, false, cond}
use mathlib.Core.List.{[]}
use Prim.Native.Nat.{ℕ, ◌+◌, ◌^◌, ◌<◌}
use native.Mathlib.Omega.{arith}
use lib.IntN.{ℤ}
use lib.ListN.{length, get_or}
use mir.Syntax.{w64}
use mir.Val.{SFits, bool_byte}
use borrow.Author.Tests.{lt-ltb}
use Rattle.numbers.specs.Ids.{split_of}
use Rattle.numbers.proofs.Signs.{hop}
use Rattle.document.specs.Sizes.{InRange}
use Rattle.document.specs.declared.sizes.Sizes.{Sizes}
use Rattle.layout.specs.Mem.{Mem, mem}
use Rattle.layout.specs.Sizes.{direct_at, head}
use Rattle.layout.specs.Places.{decoded}
use Rattle.layout.specs.Entries.{prefix_at, place_at, word_of, place_of}
use Rattle.layout.specs.Short.{word_in, spot_on}
use Rattle.layout.specs.Seat.{direct_seat, overflow_seat, seat_in}
use Rattle.layout.specs.Part.{Within}
use Rattle.layout.specs.Meaning.{ranked}
use Rattle.layout.specs.Tests.{Walked}
use Rattle.layout.specs.Follows.{Owned}
use Rattle.layout.specs.declared.place.Place.{Place}
use Rattle.layout_laws.specs.Chunks.{first_rank}
use Rattle.layout_laws.proofs.Entries.{walked_ordered, prefix_direct, word_of_direct}
use Rattle.layout_laws.proofs.Short.{word_in_is, owned_of, spot_is}
use Rattle.calls.specs.Reading.{spot_by, spot_if, has_at, has_split, get_by}
use Rattle.calls.proofs.Shifts.{chunk_small}
use Rattle.calls.proofs.Spots.{within_spot}
use Rattle.ranks.specs.Rank.{below_at, plus_before, rank_seat, rank_split, rank_by}
use Rattle.ranks.proofs.Seats.{seat_is}
use Rattle.rank_chunk.specs.Part.{HasBlock}
use Rattle.rank_chunk.proofs.Belows.{below_same, has_block}
use Rattle.lists.specs.Lists.{truth_number, amount_number}
use Rattle.lists.specs.Ways.{Judged}
use Rattle.lists.proofs.AfterWalk.{get_split, rank_split_law}
use Rattle.document.specs.Refusals.{not_laid_out}
use Rattle.document.specs.Results.{Amount, Truth}
use Rattle.layout.specs.Found.{Spotted, Word}
use Rattle.std.specs.Result.{result_unwrap_or}
use Rattle.std.specs.Prelude.{Err, None, Ok, Option, Some, ℕ}

-- what stands in place of a refusal
truth_is : (t : Truth) (b : Bool) → b ≡ result_unwrap_or t false → bool_byte b ≡ truth_number t
truth_is (Ok d) b e = ap bool_byte e
truth_is (Err n) b e = ap bool_byte e

amount_is : (a : Amount) (k : ℕ) → k ≡ result_unwrap_or a 0 → k ≡ amount_number a
amount_is (Ok n) k e = e
amount_is (Err n) k e = e

module _ {x : Mem} {h : Sizes} (j : Judged x h) where
  abbrev w : Walked x (head x)
  w = j.walks

  pub judged_range : InRange h
  judged_range = subst InRange (sym j.sizes) w.sizes

  -- ---- a chunk below D

  module _ (c : ℕ) (l : c < h.d) where
    below_direct : c < (head x).d
    below_direct = subst (λ (k : Sizes). c < k.d) j.sizes l

    entry_place : place_at h x.table c ≡ place_of (head x) x.table c
    entry_place =
        ap (λ (k : Sizes). place_at k x.table c) j.sizes ∙ ap decoded (sym (word_of_direct (head x) x.table (walked_ordered w) c below_direct))

    pub entry_owned : (q : Place) → q ≡ place_at h x.table c → Owned h x.table c q
    entry_owned q e = subst (λ (k : Sizes). Owned k x.table c q) (sym j.sizes) (subst (Owned (head x) x.table c) (sym (e ∙ entry_place)) (owned_of w c))

    pub entry_spot : (q : Place) → q ≡ place_at h x.table c → spot_on h q ≡ spot_by x (word_of (head x) x.table c)
    entry_spot q e = ap₂ spot_on j.sizes (e ∙ entry_place) ∙ sym (spot_is w c)

    -- the members of the chunks before it
    seat_here : seat_in x.table c ≡ Ok ((get_or x.table (direct_at c) 0), (get_or x.table (direct_at c + 1) 0))
    unfolding seat_in
    seat_here =
        let r = w.room.in_table in
        let d = below_direct in
        ap (λ (b : Bool). cond b (direct_seat x.table c) (overflow_seat x.table (head x).d c)) (lt-ltb c (head x).d d)
        ∙ ap (λ (b : Bool). cond b (Ok ((get_or x.table (direct_at c) 0), (get_or x.table (direct_at c + 1) 0))) (Err not_laid_out))
        (lt-ltb (direct_at c + 1) (length x.table) (omega arith))

    entry_prefix : prefix_at h x.table c ≡ first_rank x c
    entry_prefix =
        let e = sym seat_here ∙ seat_is w c in
        let p : ◌≡◌ {A = ℕ × ℕ} (get_or x.table (direct_at c) 0, get_or x.table (direct_at c + 1) 0) (word_of (head x) x.table c, first_rank x c) = cc in
        let f : get_or x.table (direct_at c + 1) 0 ≡ first_rank x c = ap (λ (q : ℕ × ℕ). q.1) p in
        ap (λ (k : Sizes). prefix_at k x.table c) j.sizes ∙ prefix_direct (head x) x.table c below_direct ∙ f

  -- ---- any chunk

  module _ (c : ℕ) where
    pub far_spot : (v : Word) (q : Spotted) → v ≡ word_in x.table c → q ≡ spot_if x v → q ≡ spot_by x (word_of (head x) x.table c)
    far_spot v q e f = f ∙ ap (spot_if x) (e ∙ word_in_is x w c)

    -- an offset of it
    module _ (o : ℕ) (m : o < 2 ^ h.s) (q : Spotted) (e : q ≡ spot_by x (word_of (head x) x.table c)) where
      shift : h.s ≡ (head x).s
      shift = ap (λ (k : Sizes). k.s) j.sizes

      pub spot_within : Within (length x.pages) (length x.rows) o q
      spot_within =
          let z = judged_range in
          subst (Within (length x.pages) (length x.rows) o) (sym e) (within_spot x h.s (word_of (head x) x.table c) o z.s_low z.s_high shift m)

      pub spot_block : HasBlock (length x.pages) (length x.rows) o q
      spot_block =
          let z = judged_range in
          subst (HasBlock (length x.pages) (length x.rows) o) (sym e) (has_block x o h.s (word_of (head x) x.table c) z.s_low z.s_high shift m)

      pub seat_placed : c < h.d → (n : ℕ) (k r : Amount) → n ≡ prefix_at h x.table c → k ≡ below_at (mem x.pages x.rows x.blocks []) o q → r ≡ plus_before n k
          → r ≡ rank_seat x o (seat_in x.table c)
      seat_placed l n k r en ek er =
          er ∙ ap₂ plus_before (en ∙ entry_prefix c l) (ek ∙ below_same x o q ∙ ap (below_at x o) e) ∙ sym (ap (rank_seat x o) (seat_is w c))

  -- ---- the number of one id, by where it lies

  module _ (z : ℤ) (q : (Option (ℕ × ℕ))) (e : q ≡ split_of h.s z) where
    lies : split_of (head x).s z ≡ q
    lies = ap (λ (k : Sizes). split_of k.s z) (sym j.sizes) ∙ sym e

    got_lies : get_by x z ≡ has_split x q
    got_lies = get_split w z ∙ ap (has_split x) lies

    rank_lies : ranked x ≡ true → rank_by x z ≡ rank_split x q
    rank_lies r = rank_split_law w r z ∙ ap (rank_split x) lies

  module _ (z : ℤ) where
    pub lies_small : SFits w64 z → (c o : ℕ) → Some (c, o) ≡ split_of h.s z → (c < 2 ^ 62) × (o < 2 ^ h.s)
    lies_small f c o e =
        let r = judged_range in
        chunk_small h.s z f (split_of h.s z) (sym (hop (split_of h.s) z f)) c o (record { low = r.s_low; high = r.s_high }) (sym e)

    pub got_negative : None ≡ split_of h.s z → 0 ≡ truth_number (get_by x z)
    got_negative e = sym (ap truth_number (got_lies z None e))

    pub rank_negative : ranked x ≡ true → None ≡ split_of h.s z → 0 ≡ amount_number (rank_by x z)
    rank_negative r e = sym (ap amount_number (rank_lies z None e r))

    module _ (c o : ℕ) (e : Some (c, o) ≡ split_of h.s z) where
      pub got_here : (q : Spotted) (t : Truth) (b : Bool) → q ≡ spot_by x (word_of (head x) x.table c) → t ≡ has_at x o q → b ≡ result_unwrap_or t false → bool_byte b ≡ truth_number (get_by x z)
      got_here q t b eq et eb = truth_is t b eb ∙ ap truth_number (et ∙ ap (has_at x o) (eq ∙ sym (ap (spot_if x) (word_in_is x w c))) ∙ sym (got_lies z (Some (c, o)) e))

      pub rank_here : ranked x ≡ true → (a : Amount) (k : ℕ) → a ≡ rank_seat x o (seat_in x.table c) → k ≡ result_unwrap_or a 0 → k ≡ amount_number (rank_by x z)
      rank_here r a k ea ek = amount_is a k ek ∙ ap amount_number (ea ∙ sym (rank_lies z (Some (c, o)) e r))
