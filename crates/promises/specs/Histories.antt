-- Histories of any number of sets: from a set_up on, step after step, each one that its contract allows on the memory before it; a union takes in another set's history.
use Rattle.std.specs.Prelude.{◌≡◌, List, ℕ, ℤ, take, Ok, Err}
use Rattle.document.specs.Sizes.{InRange}
use Rattle.document.specs.State.{State, empty}
use Rattle.document.specs.Refusals.{outside_sizes, too_short}
use Rattle.document.specs.Calls.{Call, Ask, Said}
use Rattle.document.specs.Insert.{new_answer}
use Rattle.document.specs.Answers.{answer, after, reply}
use Rattle.document.specs.Union.{Join, union_answer, united, leftover}
use Rattle.document.specs.Plan.{PlansFor}
use Rattle.document.specs.RangeList.{marks, marks_in, hits}
use Rattle.document.specs.declared.range.Range.{Range}
use Rattle.document.specs.declared.sizes.Sizes.{Sizes}
use Rattle.layout.specs.Mem.{Mem}
use Rattle.layout.specs.Sizes.{RoomIn}
use Rattle.layout.specs.Meaning.{state_of}
use Rattle.layout.specs.Follows.{Follows}
use Rattle.contracts.specs.Does.{Does, Answers, SetsUp, Joins}
use Rattle.cuts.specs.Promise.{Plans}
use Rattle.range_list.specs.Marks.{MarksByRange, EndsByRange}
use Rattle.lists.specs.Lists.{ListAsk, open_answer, unless_refused, answered, one_of, AnswersAll}
use Rattle.lists.specs.Inserts.{in_turn, all_next, after_of, InsertsAll}
use Rattle.lists.specs.declared.insert.Inserted.{Inserted}
use Rattle.document.specs.Results.{Outcome, Planning}

-- a call on one set, its answer, and what it leaves of the set, of boundaries, of a range list or of a list of answers; a reading call and its answer
pub data Step : Type 0 where
  set_up : Sizes → Outcome → Mem → Step
  changed : Call → Said → Mem → Step
  read : Ask → Said → Step
  planned : ℕ → List ℤ → Planning → List ℤ → Step
  marks_set : List Range → Outcome → List Range → Step
  ends_set : List ℤ → List ℤ → List ℕ → Outcome → List ℕ → Step
  read_all : ListAsk → List ℤ → List ℕ → Outcome → List ℕ → Step
  inserted_all : List ℤ → Inserted → Mem → Step

-- one set's history
pub data Story : Type 0 where
  -- set_up of these sizes in some memory made this memory
  made : Sizes → Mem → Mem → Story
  -- and then a step
  then : Story → Step → Story
  -- the union, into this set, of one with a history of its own; both memories after it
  took : Story → Story → Join → Outcome → Mem → Mem → Story
  -- the other side of that: the history of the set that was taken in comes second, and goes on
  gave : Story → Story → Join → Outcome → Mem → Mem → Story

-- memory after it
abbrev pub last_by : Mem → Step → Mem
last_by x (set_up h a y) = y
last_by x (changed c a y) = y
last_by x (read k a) = x
last_by x (planned S bs a cs) = x
last_by x (marks_set rs a us) = x
last_by x (ends_set los his ms a ns) = x
last_by x (read_all k ids ns a us) = x
last_by x (inserted_all ids a y) = y

abbrev pub last : Story → Mem
last (made h x y) = y
last (then s t) = last_by (last s) t
last (took s t j a x y) = x
last (gave s t j a x y) = y

-- every contract allowed it
abbrev pub Stepped : Mem → Step → Type 0
Stepped x (set_up h a y) = SetsUp h x a y
Stepped x (changed c a y) = Does x c a y
Stepped x (read k a) = Answers x k a
Stepped x (planned S bs a cs) = Plans x S bs a cs
Stepped x (marks_set rs a us) = MarksByRange x rs a us
Stepped x (ends_set los his ms a ns) = EndsByRange x los his ms a ns
Stepped x (read_all k ids ns a us) = AnswersAll x k ids ns a us
Stepped x (inserted_all ids a y) = InsertsAll x ids a y

abbrev pub Happened : Story → Type 0
Happened (made h x y) = SetsUp h x (Ok tt) y
Happened (then s t) = Happened s × Stepped (last s) t
Happened (took s t j a x y) = Happened s × Happened t × Joins (last s) (last t) j a x y
Happened (gave s t j a x y) = Happened s × Happened t × Joins (last s) (last t) j a x y

-- ---- by document 01's words alone

-- an accepted set_up makes an empty open set, a refused one leaves the set
abbrev pub remade : State → Sizes → Outcome → State
remade q h (Ok tt) = empty h
remade q h (Err n) = q

abbrev pub described_by : State → Step → State
described_by q (set_up h a y) = remade q h a
described_by q (changed c a y) = after q c
described_by q (read k a) = q
described_by q (planned S bs a cs) = q
described_by q (marks_set rs a us) = q
described_by q (ends_set los his ms a ns) = q
described_by q (read_all k ids ns a us) = q
described_by q (inserted_all ids a y) = all_next after_of q (take a.taken ids)

-- the set after it
abbrev pub described : Story → State
described (made h x y) = empty h
described (then s t) = described_by (described s) t
described (took s t j a x y) = united (described s) (described t) a
described (gave s t j a x y) = leftover (described t) j a

-- 1, 2, or done
pub record RightSetUp (h : Sizes) (x : Mem) (a : Outcome) : Type 0 where
  pub outside : (InRange h → ⊥) → a ≡ Err outside_sizes
  pub short : InRange h → (RoomIn h x → ⊥) → a ≡ Err too_short
  pub made : InRange h → RoomIn h x → a ≡ (Ok tt)

-- every answer is document 01's
abbrev pub RightBy : Mem → State → Step → Type 0
RightBy x q (set_up h a y) = RightSetUp h x a
RightBy x q (changed c a y) = a ≡ answer q c
RightBy x q (read k a) = a ≡ reply q k
RightBy x q (planned S bs a cs) = PlansFor q S bs a cs
RightBy x q (marks_set rs a us) = (a ≡ (Ok tt)) × (us ≡ marks (hits q) rs)
RightBy x q (ends_set los his ms a ns) = (a ≡ (Ok tt)) × (ns ≡ marks_in (hits q) los his ms)
RightBy x q (read_all k ids ns a us) = (a ≡ open_answer q.mode k) × (us ≡ unless_refused a (answered (one_of q k) ids ns) ns)
RightBy x q (inserted_all ids a y) = a ≡ in_turn new_answer after_of q ids

abbrev pub AllRight : Story → Type 0
AllRight (made h x y) = Unit
AllRight (then s t) = AllRight s × RightBy (last s) (described s) t
AllRight (took s t j a x y) = AllRight s × AllRight t × (a ≡ union_answer (described s) (described t) j)
AllRight (gave s t j a x y) = AllRight s × AllRight t × (a ≡ union_answer (described s) (described t) j)

-- demand 2: memory follows the layout and stands for the set described, and every answer was document 01's
pub record Kept (s : Story) : Type 0 where
  pub follows : Follows (last s)
  pub state : state_of (last s) ≡ described s
  pub right : AllRight s
