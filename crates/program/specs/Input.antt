-- The program's input, from its bytes alone: S on line 1, then an id per line, up to the end or to the first line that is neither.
use Rattle.std.specs.Prelude.{cond, List, [], ◌∷◌, ℕ, ◌+◌, ◌-◌, ◌^◌, min, eqb, ℤ, Option, Some, None}
use Rattle.lines.specs.Line.{size_line, id_line}

-- ---- lines

-- the first line has b before it
abbrev pub begun : ℕ → List (List ℕ) → List (List ℕ)
begun b [] = (b ∷ []) ∷ []
begun b (l ∷ ls) = (b ∷ l) ∷ ls

-- each line ends in a newline, which the last one may lack; after the last newline there is no line without a byte
unfoldable pub lines_of : List ℕ → List (List ℕ)
lines_of [] = []
lines_of (b ∷ bs) = cond (eqb b 10) ([] ∷ lines_of bs) (begun b (lines_of bs))

-- ---- what they say

pub data Read : Type 0 where
  -- S, and the ids in turn
  whole : ℕ → List ℤ → Read
  -- the number of the first bad line, and the ids of the lines before it
  bad : ℕ → List ℤ → Read

-- lines are counted from 1, in a u64: no input has 2 ^ 64 lines
abbrev pub following : ℕ → ℕ
following n = min (n + 1) (2 ^ 64 - 1)

-- one more id, before the others
abbrev pub with_id : ℤ → Read → Read
with_id z (whole s zs) = whole s (z ∷ zs)
with_id z (bad n zs) = bad n (z ∷ zs)

-- line n says an id, or is bad; then the lines after it count no more
abbrev pub after_id : Option ℤ → ℕ → Read → Read
after_id (Some z) n rest = with_id z rest
after_id None n rest = bad n []

-- the lines from line n on
unfoldable pub ids_from : ℕ → ℕ → List (List ℕ) → Read
ids_from s n [] = whole s []
ids_from s n (l ∷ ls) = after_id (id_line l) n (ids_from s (following n) ls)

-- line 1 says S
abbrev pub after_size : Option ℕ → List (List ℕ) → Read
after_size (Some s) ls = ids_from s 2 ls
after_size None ls = bad 1 []

-- empty input has no line 1
abbrev pub read_lines : List (List ℕ) → Read
read_lines [] = bad 1 []
read_lines (l ∷ ls) = after_size (size_line l) ls

unfoldable pub read_plan : List ℕ → Read
read_plan bs = read_lines (lines_of bs)
