-- Calls over a list of ids: the single calls one after the other, on any memory, and what the contracts say.
use Rattle.std.specs.Prelude.{◌≡◌, List, [], ◌∷◌, Bool, cond, ℕ, ◌-◌, ◌^◌, ℤ, Some, None, Ok, Err}
use mir.Syntax.{w64}
use mir.Val.{SFits, bool_byte}
use Rattle.sums.specs.Ids.{has, rank, RankIf, ranked, none, rank_if}
use Rattle.document.specs.State.{State}
use Rattle.document.specs.Refusals.{not_laid_out, is_open}
use Rattle.layout.specs.Mem.{Mem}
use Rattle.layout.specs.Meaning as meaning
use Rattle.layout.specs.Meaning.{state_of}
use Rattle.layout.specs.Follows.{Follows}
use Rattle.layout.specs.Tests.{walked}
use Rattle.calls.specs.Reading.{get_by}
use Rattle.ranks.specs.Rank.{rank_by, rank_if_by}
use Rattle.document.specs.Results.{Amount, Outcome, Perhaps, Truth}

-- ---- calls that read a set

-- `get`, `rank` or `rank_if_set` of each id
pub data ListAsk : Type 0 where
  get_all : ListAsk
  rank_all : ListAsk
  rank_if_all : ListAsk

-- an answer as a number: no is 0 and yes is 1, a rank is itself, and none is 2^64 - 1. A refusal has none, and there is none after the walk
abbrev pub no_rank : ℕ
no_rank = 2 ^ 64 - 1

abbrev pub truth_number : Truth → ℕ
truth_number (Ok b) = bool_byte b
truth_number (Err c) = 0

abbrev pub amount_number : Amount → ℕ
amount_number (Ok k) = k
amount_number (Err c) = 0

abbrev pub perhaps_number : Perhaps → ℕ
perhaps_number (Ok (Some k)) = k
perhaps_number (Ok None) = no_rank
perhaps_number (Err c) = 0

-- what one id is answered
abbrev pub one_by : Mem → ListAsk → ℤ → ℕ
one_by x get_all z = truth_number (get_by x z)
one_by x rank_all z = amount_number (rank_by x z)
one_by x rank_if_all z = perhaps_number (rank_if_by x z)

-- as many answers as the shorter list has; answers past them stay
unfoldable pub answered : {A : Type 0} → (ℤ → A) → List ℤ → List A → List A
answered f [] ns = ns
answered f (z ∷ zs) [] = []
answered f (z ∷ zs) (n ∷ ns) = f z ∷ answered f zs ns

-- what may be answered of an id is f of it
abbrev pub Each : {A : Type 0} → (ℤ → A → Type 0) → (ℤ → A) → Type 0
Each {A} may f = (z : ℤ) (a : A) → SFits w64 z → may z a → a ≡ f z

-- 5 where ranks of an open set are asked for
abbrev pub open_answer : Bool → ListAsk → Outcome
open_answer mode get_all = Ok tt
open_answer mode rank_all = cond mode (Ok tt) (Err is_open)
open_answer mode rank_if_all = cond mode (Ok tt) (Err is_open)

-- 3 where the walk finds the table wrong
abbrev pub list_answer : Mem → ListAsk → Outcome
list_answer x k = cond (walked x) (open_answer (meaning.ranked x) k) (Err not_laid_out)

-- a refusal leaves all of them as they were
abbrev pub unless_refused : Outcome → List ℕ → List ℕ → List ℕ
unless_refused (Ok tt) new old = new
unless_refused (Err c) new old = old

-- ---- the same by the plain set

abbrev pub rank_if_number : RankIf → ℕ
rank_if_number (ranked k) = k
rank_if_number none = no_rank

abbrev pub one_of : State → ListAsk → ℤ → ℕ
one_of q get_all z = bool_byte (has q.members z)
one_of q rank_all z = rank q.members z
one_of q rank_if_all z = rank_if_number (rank_if q.members z)

-- on memory x the call k over ids answers a and takes the answers ns to ns'
pub record AnswersAll (x : Mem) (k : ListAsk) (ids : List ℤ) (ns : List ℕ) (a : Outcome) (ns' : List ℕ) : Type 0 where
  pub said : a ≡ list_answer x k
  pub list : ns' ≡ unless_refused a (answered (one_by x k) ids ns) ns
  pub says : Follows x → (a ≡ open_answer (state_of x).mode k) × (ns' ≡ unless_refused a (answered (one_of (state_of x) k) ids ns) ns)
