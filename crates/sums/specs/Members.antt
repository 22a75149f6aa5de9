-- Members in order: those of a run of ids, the one of a given rank, and lists of them written into the places of a record.
use Rattle.std.specs.Prelude.{cond, List, [], ◌∷◌, ℕ, zero, suc, ◌+◌, ◌-◌, min, ℤ, pos, length, set}
use Rattle.sums.specs.Ids.{Ids}
use Rattle.sums.specs.Cuts.{least}

-- those of the n ids from a on, ascending
unfoldable pub members_in : Ids → ℕ → ℕ → List ℕ
members_in P a zero = []
members_in P a (suc n) = cond (P a) (a ∷ members_in P (suc a) n) (members_in P (suc a) n)

-- the member of rank k: the least id with k + 1 members below it comes right after it
unfoldable pub nth : Ids → ℕ → ℕ
nth P k = least P (suc k) - 1

-- the n members from rank f on
unfoldable pub nth_from : Ids → ℕ → ℕ → List ℕ
nth_from P f zero = []
nth_from P f (suc n) = nth P f ∷ nth_from P (suc f) n

-- offsets as ids of a chunk whose first id is b
unfoldable pub plus : ℕ → List ℕ → List ℕ
plus b [] = []
plus b (n ∷ ns) = (b + n) ∷ plus b ns

-- numbers written as ids to the places from k on, as far as there are any, and the first place that is then unused
unfoldable pub fill : List ℤ → ℕ → List ℕ → List ℤ
fill out k [] = out
fill out k (n ∷ ns) = fill (set out k (pos n)) (suc k) ns

abbrev pub fill_to : List ℤ → ℕ → List ℕ → ℕ
fill_to out k ns = min (length out) (k + length ns)
