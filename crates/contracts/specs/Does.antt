-- What the contract of every call on a set says: its model on any memory, and document 01's words on memory that follows the layout.
use Rattle.std.specs.Prelude.{◌≡◌, Bool, Ok, Err}
use Rattle.sums.specs.Rules.{Decides}
use Rattle.document.specs.State.{empty}
use Rattle.document.specs.Sizes.{InRange}
use Rattle.document.specs.Refusals.{outside_sizes, too_short}
use Rattle.document.specs.Calls.{Call, Said, whether, many, maybe, listed}
use Rattle.document.specs.Calls.{Ask, get, range_test, chunk_id, len, is_empty, has_any, chunk_count, iterate, rank_of, rank_if_set, total_count, check}
use Rattle.document.specs.Answers.{answer, after, reply}
use Rattle.document.specs.Union.{Join, union_answer, united, leftover}
use Rattle.document.specs.declared.sizes.Sizes.{Sizes}
use Rattle.layout.specs.Mem.{Mem}
use Rattle.layout.specs.Sizes.{RoomIn}
use Rattle.layout.specs.Meaning.{state_of}
use Rattle.layout.specs.Follows.{Follows}
use Rattle.layout.specs.SetUp.{did, set_up_by}
use Rattle.calls.specs.Reading.{get_by, chunk_of_by}
use Rattle.calls.specs.Counts.{len_by, is_empty_by, has_any_by, chunks_by}
use Rattle.calls.specs.Range.{any_by}
use Rattle.calls.specs.Iteration.{iter_by}
use Rattle.ranks.specs.Rank.{rank_by, rank_if_by, total_by}
use Rattle.unions.specs.Union.{met, union_by}
use Rattle.contracts.specs.Runs.{ran, ran_by}
use Rattle.document.specs.Results.{Outcome}

-- ---- calls that change a set

-- document 01's answer, and memory that follows the layout and stands for document 01's set
pub record Right (x : Mem) (c : Call) (a : Said) (y : Mem) : Type 0 where
  pub follows : Follows y
  pub said : a ≡ answer (state_of x) c
  pub state : state_of y ≡ after (state_of x) c

-- from memory x the call c answers a and leaves memory y
pub record Does (x : Mem) (c : Call) (a : Said) (y : Mem) : Type 0 where
  pub by : ran a y ≡ ran_by x c
  pub says : Follows x → Right x c a y

-- ---- calls that read one

-- the full check: yes exactly when memory follows the layout
pub record Checked (x : Mem) (a : Said) : Type 0 where
  pub yes : Bool
  pub said : a ≡ whether (Ok yes)
  pub decides : Decides yes (Follows x)

-- the model of a reading call
abbrev pub AskedBy : Mem → Ask → Said → Type 0
AskedBy x (get z) a = a ≡ whether (get_by x z)
AskedBy x (range_test lo hi) a = a ≡ whether (any_by x lo hi)
AskedBy x (chunk_id z) a = a ≡ maybe (chunk_of_by x z)
AskedBy x len a = a ≡ many (len_by x)
AskedBy x is_empty a = a ≡ whether (is_empty_by x)
AskedBy x has_any a = a ≡ whether (has_any_by x)
AskedBy x chunk_count a = a ≡ many (chunks_by x)
AskedBy x (iterate z) a = a ≡ listed (iter_by x z)
AskedBy x (rank_of z) a = a ≡ many (rank_by x z)
AskedBy x (rank_if_set z) a = a ≡ maybe (rank_if_by x z)
AskedBy x total_count a = a ≡ many (total_by x)
AskedBy x check a = Checked x a

-- on memory x the reading call k answers a
pub record Answers (x : Mem) (k : Ask) (a : Said) : Type 0 where
  pub by : AskedBy x k a
  pub says : Follows x → a ≡ reply (state_of x) k

-- ---- set_up

-- set_up with sizes h in memory x answers a and leaves memory y: 1, 2, or an empty open set
pub record SetsUp (h : Sizes) (x : Mem) (a : Outcome) (y : Mem) : Type 0 where
  pub by : did a y ≡ set_up_by h x
  pub outside : (InRange h → ⊥) → (a ≡ Err outside_sizes) × (y ≡ x)
  pub short : InRange h → (RoomIn h x → ⊥) → (a ≡ Err too_short) × (y ≡ x)
  pub made : InRange h → RoomIn h x → (a ≡ Ok tt) × Follows y × (state_of y ≡ empty h)

-- ---- union

-- document 01's answer, and both memories follow the layout and stand for document 01's sets
pub record RightUnion (x y : Mem) (j : Join) (a : Outcome) (x' y' : Mem) : Type 0 where
  pub follows : Follows x'
  pub source_follows : Follows y'
  pub said : a ≡ union_answer (state_of x) (state_of y) j
  pub state : state_of x' ≡ united (state_of x) (state_of y) a
  pub source_state : state_of y' ≡ leftover (state_of y) j a

-- the union into memory x of memory y answers a and leaves memories x' and y'
pub record Joins (x y : Mem) (j : Join) (a : Outcome) (x' y' : Mem) : Type 0 where
  pub by : met a x' y' ≡ union_by x y j
  pub says : Follows x → Follows y → RightUnion x y j a x' y'
