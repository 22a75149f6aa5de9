-- The range list on any memory, and what its contracts say.
use mir.Syntax.{w64}
use Rattle.std.specs.Prelude.{◌≡◌, List, Bool, false, cond, ℕ, ℤ, FitsSigned, Ok, Err}
use Rattle.document.specs.RangeList.{marks, marks_in, hits, meets, meets_answer, meets_marks, meets_marks_in}
use Rattle.document.specs.Refusals.{not_laid_out}
use Rattle.document.specs.declared.range.Range.{Range}
use Rattle.layout.specs.Mem.{Mem}
use Rattle.layout.specs.Meaning.{state_of}
use Rattle.layout.specs.Follows.{Follows}
use Rattle.layout.specs.Tests.{walked}
use Rattle.calls.specs.Range.{any_by}
use Rattle.document.specs.Results.{Outcome, Spanned, Truth}

-- the yes of a range test; a refusal is none, and no range test is refused after the walk
abbrev pub is_yes : Truth → Bool
is_yes (Ok b) = b
is_yes (Err n) = false

abbrev pub hit_by : Mem → ℤ → ℤ → Bool
hit_by x lo hi = is_yes (any_by x lo hi)

-- 3 where the walk finds the table wrong
abbrev pub range_answer : Mem → Outcome
range_answer x = cond (walked x) (Ok tt) (Err not_laid_out)

-- a test of two numbers of 64 bits, where P says what it may answer, tells f of them
abbrev pub Tells : (ℤ → ℤ → Bool → Type 0) → (ℤ → ℤ → Bool) → Type 0
Tells P f = (lo hi : ℤ) (b : Bool) → FitsSigned w64 lo → FitsSigned w64 hi → P lo hi b → b ≡ f lo hi

-- ---- contracts

-- by range test of the set in memory x the call answers a and takes the list rs to the list rs'
pub record MarksByRange (x : Mem) (rs : List Range) (a : Outcome) (rs' : List Range) : Type 0 where
  pub said : a ≡ range_answer x
  pub list : rs' ≡ cond (walked x) (marks (hit_by x) rs) rs
  pub says : Follows x → (a ≡ (Ok tt)) × (rs' ≡ marks (hits (state_of x)) rs)

-- the same of lows, highs and marks
pub record EndsByRange (x : Mem) (los his : List ℤ) (ms : List ℕ) (a : Outcome) (ms' : List ℕ) : Type 0 where
  pub said : a ≡ range_answer x
  pub list : ms' ≡ cond (walked x) (marks_in (hit_by x) los his ms) ms
  pub says : Follows x → (a ≡ (Ok tt)) × (ms' ≡ marks_in (hits (state_of x)) los his ms)

-- by a partition that `ids` answers or refuses as i the call answers a and takes the list rs to the list rs'
pub record MarksByPartition (i : Spanned) (rs : List Range) (a : Outcome) (rs' : List Range) : Type 0 where
  pub said : a ≡ meets_answer i
  pub list : rs' ≡ meets_marks i rs

pub record EndsByPartition (i : Spanned) (los his : List ℤ) (ms : List ℕ) (a : Outcome) (ms' : List ℕ) : Type 0 where
  pub said : a ≡ meets_answer i
  pub list : ms' ≡ meets_marks_in i los his ms
