-- The range list: each mark by a test of the record's ends, low and high as they were.
use Rattle.std.specs.Prelude.{ℕ, List, [], ◌∷◌, map, Bool, cond, ℤ, Ok, Err}
use Rattle.sums.specs.Ids.{any_in_range}
use Rattle.document.specs.State.{State}
use Rattle.document.specs.Spans.{range_meets}
use Rattle.document.specs.declared.range.Range.{Range}
use Rattle.document.specs.declared.plan.Span.{Span}
use Rattle.document.specs.Results.{Outcome, Spanned}

-- low and high stay
abbrev pub marked : Range → Bool → Range
marked r b = record { low = r.low; high = r.high; mark = b }

abbrev pub marked_by : (ℤ → ℤ → Bool) → Range → Range
marked_by f r = marked r (f r.low r.high)

abbrev pub marks : (ℤ → ℤ → Bool) → List Range → List Range
marks f rs = map (marked_by f) rs

-- the same list as three of numbers: as many records as the shortest has, a mark is 0 or 1, and marks past them stay
unfoldable pub marks_in : (ℤ → ℤ → Bool) → List ℤ → List ℤ → List ℕ → List ℕ
marks_in f [] his ms = ms
marks_in f (lo ∷ los) [] ms = ms
marks_in f (lo ∷ los) (hi ∷ his) [] = []
marks_in f (lo ∷ los) (hi ∷ his) (m ∷ ms) = cond (f lo hi) 1 0 ∷ marks_in f los his ms

-- by `any_in_range`, of a set in either mode
abbrev pub hits : State → ℤ → ℤ → Bool
hits q lo hi = any_in_range q.members lo hi

-- by `range_meets`, of a partition that `ids` answers or refuses
abbrev pub meets_answer : Spanned → Outcome
meets_answer (Ok i) = Ok tt
meets_answer (Err n) = Err n

abbrev pub meets : Span → ℤ → ℤ → Bool
meets i lo hi = range_meets lo hi i

abbrev pub meets_marks : Spanned → List Range → List Range
meets_marks (Ok i) rs = marks (meets i) rs
meets_marks (Err n) rs = rs

abbrev pub meets_marks_in : Spanned → List ℤ → List ℤ → List ℕ → List ℕ
meets_marks_in (Ok i) los his ms = marks_in (meets i) los his ms
meets_marks_in (Err n) los his ms = ms
