-- Every row of document 01's cases e to i holds: a row with its answers computed from its list holds by the laws of listed sets, and the plain_table is its own rows so computed. Assumes nothing.
use mathlib.Core.Path.{◌≡◌, refl}
use mathlib.Core.Logic.{⊎_elim}
use mathlib.Core.Bool.{Bool, true, cond, ◌&&◌}
use mathlib.Core.List.Memᴰ
use mathlib.Core.List.{List, [], ◌∷◌, Memᴰ}
use Prim.Native.Nat.{ℕ, ◌-◌, ◌*◌, ◌^◌, ◌<◌, min}
use lib.Dec.{ltb}
use borrow.Author.Tests.{ltb-true}
use lib.IntN.{suc_ℤ}
use Rattle.sums.specs.Ids.{has, total, RankIf, ranked}
use Rattle.sums.specs.Cuts.{size, parts}
use Rattle.sums.specs.Cases.{set_of, PlainCase, rank_of, rank_if_of, parts_of, boundaries_of, part_of, range_of, PartIs, PlainSays, plain_table}
use Rattle.sums.proofs.Rules.{both}
use Rattle.sums.proofs.Listed.{rises, below, rank_in, parts_in, boundaries_in, low_in, high_in, rank_listed, rank_if_listed, range_listed, parts_listed, boundaries_listed, part_listed, held_listed}

-- the row with its answers computed
abbrev computed : PlainCase → PlainCase
computed (rank_of xs x r) = rank_of xs x (rank_in xs x)
computed (rank_if_of xs x a) = rank_if_of xs x (cond (has (set_of xs) x) (ranked (rank_in xs x)) RankIf.none)
computed (parts_of xs S n) = parts_of xs S (parts_in xs S)
computed (boundaries_of xs S bs) = boundaries_of xs S (boundaries_in xs S (parts_in xs S - 1))
computed (part_of xs S k low high r n) = part_of xs S k (low_in xs S k) (high_in xs S k) (rank_in xs (low_in xs S k)) (min (size S) (below xs (2 ^ 63) - k * size S))
computed (range_of xs lo hi b) = range_of xs lo hi (ltb (rank_in xs lo) (rank_in xs (suc_ℤ hi)))

-- its list rises, and its part is there
abbrev proper : PlainCase → Bool
proper (rank_of xs x r) = rises xs
proper (rank_if_of xs x a) = rises xs
proper (parts_of xs S n) = rises xs
proper (boundaries_of xs S bs) = rises xs
proper (part_of xs S k low high r n) = rises xs && ltb k (parts_in xs S)
proper (range_of xs lo hi b) = rises xs

part_says : (xs : List ℕ) (S k : ℕ) → rises xs ≡ true → ltb k (parts_in xs S) ≡ true → PartIs (set_of xs) S k (low_in xs S k) (high_in xs S k) (rank_in xs (low_in xs S k)) (min (size S) (below xs (2 ^ 63) - k * size S))
part_says xs S k u t = record { there = l; ends = part_listed xs u S k l; first = rank_listed xs u (low_in xs S k); counts = held_listed xs u S k l }
  where
    l : k < parts (total (set_of xs)) S
    l = rw (parts_listed xs u S) (ltb-true k (parts_in xs S) t)

computed_says : (c : PlainCase) → proper c ≡ true → PlainSays (computed c)
computed_says (rank_of xs x r) u = rank_listed xs u x
computed_says (rank_if_of xs x a) u = rank_if_listed xs u x
computed_says (parts_of xs S n) u = parts_listed xs u S
computed_says (boundaries_of xs S bs) u = boundaries_listed xs u S
computed_says (part_of xs S k low high r n) u = let b = both (rises xs) (ltb k (parts_in xs S)) u in part_says xs S k b.0 b.1
computed_says (range_of xs lo hi b) u = range_listed xs u lo hi

abbrev all_computed : List PlainCase → List PlainCase
all_computed [] = []
all_computed (c ∷ cs) = computed c ∷ all_computed cs

abbrev all_proper : List PlainCase → Bool
all_proper [] = true
all_proper (c ∷ cs) = proper c && all_proper cs

all_say : (cs : List PlainCase) → all_computed cs ≡ cs → all_proper cs ≡ true → (c : PlainCase) → Memᴰ c cs → PlainSays c
all_say [] e u c m = absurd (Memᴰ.not-nil m)
all_say (x ∷ xs) e u c m =
    let b = both (proper x) (all_proper xs) u in
    let h : computed x ≡ x = cc in
    let t : all_computed xs ≡ xs = cc in
    ⊎_elim (λ (q : c ≡ x). rw q (rw h at (computed_says x b.0))) (λ (n : Memᴰ c xs). all_say xs t b.1 c n) (Memᴰ.cases_cons m)

table_computed : all_computed plain_table ≡ plain_table
unfolding set_of
table_computed = refl

-- every row of the plain_table holds
pub cases : (c : PlainCase) → Memᴰ c plain_table → PlainSays c
cases = all_say plain_table table_computed refl
