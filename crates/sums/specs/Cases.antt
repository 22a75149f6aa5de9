-- Document 01's worked cases e to i, rows of one plain_table, about sets that list their members.
use Rattle.std.specs.Prelude.{◌≡◌, Bool, true, false, ◌||◌, List, [], ◌∷◌, ℕ, ◌-◌, ◌^◌, ◌<◌, eqb, ℤ, pos, negsuc}
use Rattle.sums.specs.Ids.{Ids, total, rank, RankIf, rank_if, any_in_range}
use Rattle.sums.specs.Cuts.{parts, End, held, boundaries, part}

-- the set with the members listed
unfoldable pub set_of : List ℕ → Ids
set_of [] n = false
set_of (x ∷ xs) n = eqb n x || set_of xs n

-- a row: the members, what is asked, the answer
pub data PlainCase : Type 0 where
  -- the rank of an id
  rank_of : List ℕ → ℤ → ℕ → PlainCase
  -- what `rank_if_set` answers
  rank_if_of : List ℕ → ℤ → RankIf → PlainCase
  -- how many parts for S
  parts_of : List ℕ → ℕ → ℕ → PlainCase
  -- the boundaries for S
  boundaries_of : List ℕ → ℕ → List ℕ → PlainCase
  -- part k for S: low end, high end, first rank, count
  part_of : List ℕ → ℕ → ℕ → ℤ → End → ℕ → ℕ → PlainCase
  -- whether a member lies in a range
  range_of : List ℕ → ℤ → ℤ → Bool → PlainCase

-- part k is there, has these ends, and its members are n from rank r on
pub record PartIs (P : Ids) (S k : ℕ) (low : ℤ) (high : End) (r n : ℕ) : Type 0 where
  pub there : k < parts (total P) S
  pub ends : part P S k ≡ record { low = low; high = high }
  pub first : rank P low ≡ r
  pub counts : held P (part P S k) ≡ n

abbrev pub PlainSays : PlainCase → Type 0
PlainSays (rank_of xs x r) = rank (set_of xs) x ≡ r
PlainSays (rank_if_of xs x a) = rank_if (set_of xs) x ≡ a
PlainSays (parts_of xs S n) = parts (total (set_of xs)) S ≡ n
PlainSays (boundaries_of xs S bs) = boundaries (set_of xs) S ≡ bs
PlainSays (part_of xs S k low high r n) = PartIs (set_of xs) S k low high r n
PlainSays (range_of xs lo hi b) = any_in_range (set_of xs) lo hi ≡ b

abbrev largest : ℕ
largest = 2 ^ 63 - 1

abbrev smallest : ℤ
smallest = negsuc largest

abbrev four : List ℕ
four = 0 ∷ 5 ∷ 7 ∷ 9 ∷ []

abbrev ends : List ℕ
ends = 0 ∷ largest ∷ []

abbrev zero_alone : List ℕ
zero_alone = 0 ∷ []

abbrev pub plain_table : List PlainCase
plain_table =
    -- e
    rank_of four smallest 0
    ∷ rank_of four (negsuc 2) 0
    ∷ rank_of four (pos 0) 0
    ∷ rank_of four (pos 1) 1
    ∷ rank_of four (pos 9) 3
    ∷ rank_of four (pos 10) 4
    ∷ rank_of four (pos largest) 4
    ∷ rank_if_of four (pos 7) (RankIf.ranked 2)
    ∷ rank_if_of four (pos 8) RankIf.none
    ∷ rank_if_of four (negsuc 2) RankIf.none
    -- f
    ∷ boundaries_of four 2 (6 ∷ [])
    ∷ part_of four 2 0 smallest (End.before (pos 6)) 0 2
    ∷ part_of four 2 1 (pos 6) End.none 2 2
    ∷ boundaries_of four 3 (8 ∷ [])
    ∷ part_of four 3 0 smallest (End.before (pos 8)) 0 3
    ∷ part_of four 3 1 (pos 8) End.none 3 1
    ∷ parts_of four 0 4
    ∷ boundaries_of four 0 (1 ∷ 6 ∷ 8 ∷ [])
    ∷ part_of four 0 3 (pos 8) End.none 3 1
    ∷ boundaries_of four 4 []
    ∷ part_of four 4 0 smallest End.none 0 4
    -- g
    ∷ parts_of [] 0 1
    ∷ part_of [] 0 0 smallest End.none 0 0
    ∷ parts_of [] 3 1
    ∷ part_of [] 3 0 smallest End.none 0 0
    -- h
    ∷ rank_of ends (pos largest) 1
    ∷ rank_if_of ends (pos largest) (RankIf.ranked 1)
    ∷ boundaries_of ends 1 (1 ∷ [])
    ∷ part_of ends 1 0 smallest (End.before (pos 1)) 0 1
    ∷ part_of ends 1 1 (pos 1) End.none 1 1
    -- i
    ∷ range_of zero_alone smallest (pos largest) true
    ∷ range_of zero_alone (negsuc 4) (pos 0) true
    ∷ range_of zero_alone (pos 1) (pos 0) false
    ∷ range_of zero_alone (negsuc 4) (negsuc 0) false
    ∷ []
