-- Ranks of a set are ranks in the plain set that it stands for, for every id. Assumes nothing.
use mathlib.Core.Path.{◌≡◌, refl, sym, ap, ap₂, ◌∙◌}
use mathlib.Core.Bool.{Bool, true, false, cond}
use Prim.Native.Nat.{ℕ, ◌+◌, ◌/◌, ◌%◌, ◌<◌}
use native.Mathlib.Nat.{mod-lt}
use lib.IntN.{ℤ, pos, negsuc}
use lib.Pow.{pow_pos}
use Rattle.sums.specs.Ids.{count, rank, rank_if, total}
use Rattle.sums.specs.Ids as ids
use Rattle.numbers.specs.Ids.{split_of}
use Rattle.layout.specs.Mem.{Mem}
use Rattle.document.specs.Sizes.{top}
use Rattle.layout.specs.Sizes.{head, total_at}
use Rattle.layout.specs.Entries.{word_of, place_of}
use Rattle.layout.specs.Meaning.{holds, ranked, state_of}
use Rattle.layout.specs.Follows.{Follows}
use Rattle.document.specs.Refusals.{not_laid_out, is_open}
use Rattle.layout_laws.specs.Chunks.{first_rank}
use Rattle.layout_laws.proofs.Walked.{laid_walked}
use Rattle.layout_laws.proofs.Short.{owned_of, spot_is}
use Rattle.layout_laws.proofs.Members.{listed_of, count_rank}
use Rattle.layout_laws.proofs.Ranks.{first_rank_law, total_rank}
use Rattle.calls.specs.Reading.{spot_by, has_at}
use Rattle.calls.proofs.Readings.{has_at_law}
use Rattle.ranks.specs.Rank.{below_at, plus_before, rank_split, if_ranked, rank_by, perhaps_of, if_there, rank_if_seat, rank_if_split, rank_if_by, total_by, rank_in}
use Rattle.document.specs.Answers.{perhaps_rank, rank_answer, rank_if_answer, total_answer}
use Rattle.ranks.proofs.Seats.{seat_is}
use Rattle.ranks.proofs.Within.{below_is}
use Rattle.ranks.proofs.AfterWalk.{tests_pass, seat_told, split_told}
use Rattle.document.specs.Results.{Amount, Truth}
use Rattle.std.specs.Prelude.{Err, None, Ok, Result, Some}
use Rattle.document.specs.declared.refusal.Refusal.{Refusal}

-- ---- tests before an answer

module _ {x : Mem} (w : Follows x) where
  pub if_ranked_law : {A : Type 0} (a b : Result A Refusal) → (ranked x ≡ true → a ≡ b) → if_ranked x.table a ≡ cond (ranked x) b (Err is_open)
  if_ranked_law {A} a b h = ap (λ (t : Bool). cond t (cond (ranked x) a (Err is_open)) (Err not_laid_out)) (tests_pass (laid_walked w)) ∙ go (ranked x) refl
    where
      go : (t : Bool) → ranked x ≡ t → cond t a (Err is_open) ≡ cond t b (Err is_open)
      go true e = h e
      go false e = refl

  -- ---- the rank of an id of 0 or more

  module _ (r : ranked x ≡ true) where
    module _ (n : ℕ) where
      abbrev c : ℕ
      c = n / top (head x)

      abbrev o : ℕ
      o = n % top (head x)

      o_small : o < top (head x)
      o_small = mod-lt n (pow_pos (head x).s)

      in_count : rank_in x n ≡ count (holds x) n
      unfolding rank_in
      in_count =
          ap₂ ◌+◌ (sym (first_rank_law w r c)) (below_is w r o o_small c (place_of (head x) x.table c) (owned_of (laid_walked w) c) (listed_of w c))
          ∙ sym (count_rank w n)

      -- what the chunk's seat says
      rank_at : plus_before (first_rank x c) (below_at x o (spot_by x (word_of (head x) x.table c))) ≡ Ok (count (holds x) n)
      rank_at = seat_told (laid_walked w) r n ∙ ap Ok in_count

      has_here : has_at x o (spot_by x (word_of (head x) x.table c)) ≡ Ok (holds x n)
      unfolding holds
      has_here = ap (has_at x o) (spot_is (laid_walked w) c) ∙ has_at_law (head x) x (place_of (head x) x.table c) o (listed_of w c)

      rank_id : rank_split x (split_of (head x).s (pos n)) ≡ Ok (count (holds x) n)
      rank_id = split_told (laid_walked w) r n ∙ ap Ok in_count

      if_set : (b : Bool) (k : ℕ) → cond b (Ok (Some k)) (Ok None) ≡ perhaps_rank (cond b (ids.RankIf.ranked k) ids.RankIf.none)
      if_set true k = refl
      if_set false k = refl

      rank_if_id : rank_if_split x (split_of (head x).s (pos n)) ≡ perhaps_rank (rank_if (holds x) (pos n))
      unfolding rank_if rank
      rank_if_id =
          ap (rank_if_seat x o) (seat_is (laid_walked w) c)
          ∙ ap₂ (λ (b : Truth) (a : Amount). if_there b (perhaps_of a)) has_here rank_at
          ∙ if_set (holds x n) (count (holds x) n)

    rank_split_law : (z : ℤ) → rank_split x (split_of (head x).s z) ≡ Ok (rank (holds x) z)
    unfolding rank
    rank_split_law (pos n) = rank_id n
    rank_split_law (negsuc n) = refl

    rank_if_split_law : (z : ℤ) → rank_if_split x (split_of (head x).s z) ≡ perhaps_rank (rank_if (holds x) z)
    unfolding rank_if
    rank_if_split_law (pos n) = rank_if_id n
    rank_if_split_law (negsuc n) = refl

  pub rank_in_is : ranked x ≡ true → (n : ℕ) → rank_in x n ≡ count (holds x) n
  rank_in_is = in_count

  -- ---- the three calls

  pub rank_is : (z : ℤ) → rank_by x z ≡ rank_answer (state_of x) z
  unfolding rank_by rank_answer
  rank_is z = if_ranked_law (rank_split x (split_of (head x).s z)) (Ok (rank (holds x) z)) (λ r. rank_split_law r z)

  pub rank_if_is : (z : ℤ) → rank_if_by x z ≡ rank_if_answer (state_of x) z
  unfolding rank_if_by rank_if_answer
  rank_if_is z = if_ranked_law (rank_if_split x (split_of (head x).s z)) (perhaps_rank (rank_if (holds x) z)) (λ r. rank_if_split_law r z)

  pub total_is : total_by x ≡ total_answer (state_of x)
  unfolding total_by total_answer
  total_is = if_ranked_law (Ok (total_at x.table)) (Ok (total (holds x))) (λ r. ap Ok (total_rank w r))
