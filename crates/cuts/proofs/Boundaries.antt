-- A boundary fits an i64 on any memory; on memory that follows the layout it is the least id with its rank. Assumes nothing.
use mathlib.Core.Path.{◌≡◌, refl, sym, ap, subst, ◌∙◌}
use mathlib.Core.Bool.{true}
use Prim.Native.Nat.{ℕ, suc, ◌-◌, ◌^◌, ◌≤◌, ◌<◌}
use native.Mathlib.Omega.{arith}
use lib.IntN.{ℤ, pos}
use Rattle.sums.specs.Ids.{Ids, count, total}
use Rattle.sums.specs.Cuts.{Least}
use Rattle.sums.proofs.Counts.{count_suc, count_mono, byte_le}
use Rattle.layout.specs.Mem.{Mem}
use Rattle.layout.specs.Meaning.{holds, ranked}
use Rattle.layout.specs.Follows.{Follows}
use Rattle.ranks.specs.Rank.{rank_by, rank_in}
use Rattle.document.specs.Calls.{rank_of, many}
use Rattle.contracts.specs.Does.{Answers}
use Rattle.ranks.proofs.AfterWalk.{rank_told}
use Rattle.ranks.proofs.Ranks.{rank_in_is}
use Rattle.cuts.specs.Plan.{narrowed, Ready, boundary_by}
use Rattle.cuts.proofs.Narrowing.{First, narrowed_between, narrowed_first}
use Rattle.document.specs.Results.{Amount}
use Rattle.std.specs.Prelude.{Ok, IsOk}

pub boundary_below : (x : Mem) (m : ℕ) → boundary_by x m < 2 ^ 63
unfolding boundary_by
boundary_below x m = let l = narrowed_between (rank_in x) m 0 (2 ^ 63 - 1) (omega arith) in omega arith

same_amount : (a b : Amount) → many a ≡ many b → a ≡ b
same_amount a b e = cc

-- the rank that the code asked for, by its answer: a number, and never a refusal
module _ (x : Mem) (y : Ready x) (n : ℕ) (z : ℤ) (a : Amount) (q : z ≡ pos n) (h : Answers x (rank_of z) (many a)) where
  told : a ≡ Ok (rank_in x n)
  told = same_amount a (rank_by x z) h.by ∙ ap (rank_by x) q ∙ rank_told y.walks y.mode n

  pub rank_number : (k : ℕ) → a ≡ Ok k → k ≡ rank_in x n
  rank_number k d = let t = told in cc

  pub never_refused : IsOk a
  never_refused = subst IsOk (sym told) refl

-- short of the total, the largest i64 has rank enough
total_within : (P : Ids) (m n : ℕ) → m < count P (suc n) → m ≤ count P n
total_within P m n h = omega (arith, count_suc P n, byte_le (P n))

enough_at_end : (P : Ids) (m : ℕ) → m < total P → m ≤ count P (2 ^ 63 - 1)
unfolding total
enough_at_end P m h = total_within P m (2 ^ 63 - 1) h

-- ranks that count members: the first is the least
first_least : (P : Ids) (f : ℕ → ℕ) (m y : ℕ) → ((n : ℕ) → f n ≡ count P n) → First f m y → Least P m y
first_least P f m y e h = record { enough = (let a = h.enough in omega (arith, e y)); first = λ z l. h.first z (omega (arith, e z)) }

module _ {x : Mem} (w : Follows x) (r : ranked x ≡ true) where
  pub rank_count : (n : ℕ) → rank_in x n ≡ count (holds x) n
  rank_count = rank_in_is w r

  rank_mono : (a b : ℕ) → a ≤ b → rank_in x a ≤ rank_in x b
  rank_mono a b l = let c = count_mono (holds x) a b l in omega (arith, rank_count a, rank_count b)

  pub boundary_least : (m : ℕ) → m < total (holds x) → Least (holds x) m (boundary_by x m)
  unfolding boundary_by
  boundary_least m l =
      let h = enough_at_end (holds x) m l in
      first_least (holds x) (rank_in x) m (narrowed (rank_in x) m 0 (2 ^ 63 - 1)) rank_count
      (narrowed_first (rank_in x) m rank_mono 0 (2 ^ 63 - 1) (omega arith) (omega (arith, rank_count (2 ^ 63 - 1))) (λ y q. absurd (omega arith)))
