-- `insert_all`: the single inserts in turn, up to the first that is refused. By the model of one insert, and by document 01's words.
use Rattle.std.specs.Prelude.{◌≡◌, List, [], ◌∷◌, ℕ, suc, ◌+◌, ℤ, take, Ok, Err}
use mir.Val.{bool_byte}
use Rattle.document.specs.State.{State}
use Rattle.document.specs.Calls.{insert}
use Rattle.document.specs.Insert.{new_answer}
use Rattle.document.specs.Refusals.{number}
use Rattle.document.specs.Answers.{after}
use Rattle.layout.specs.Mem.{Mem}
use Rattle.layout.specs.Meaning.{state_of}
use Rattle.layout.specs.Follows.{Follows}
use Rattle.calls.specs.Insert.{insert_by}
use Rattle.lists.specs.declared.insert.Inserted.{Inserted}
use Rattle.document.specs.Results.{Truth}

-- how many ids were taken, how many of them were new, and what refused the next one: 0 where there is none
abbrev pub inserted_of : ℕ → ℕ → ℕ → Inserted
inserted_of t f n = record { taken = t; fresh = f; stop = n }

-- an id's answer, before what the ids behind it come to; a refusal is the last
abbrev pub then_rest : Truth → Inserted → Inserted
then_rest (Ok b) a = inserted_of (suc a.taken) (bool_byte b + a.fresh) a.stop
then_rest (Err n) a = inserted_of 0 0 (number n)

-- ids in turn, each answered where the ids before it led
unfoldable pub in_turn : {A : Type 0} → (A → ℤ → Truth) → (A → ℤ → A) → A → List ℤ → Inserted
in_turn answer next q [] = inserted_of 0 0 0
in_turn answer next q (z ∷ zs) = then_rest (answer q z) (in_turn answer next (next q z) zs)

-- where they lead
unfoldable pub all_next : {A : Type 0} → (A → ℤ → A) → A → List ℤ → A
all_next next q [] = q
all_next next q (z ∷ zs) = all_next next (next q z) zs

-- ---- one insert: on any memory, and into a plain set

abbrev pub answer_by : Mem → ℤ → Truth
answer_by x z = (insert_by x z).answer

abbrev pub after_by : Mem → ℤ → Mem
after_by x z = (insert_by x z).after

abbrev pub after_of : State → ℤ → State
after_of q z = after q (insert z)

-- ---- the contract

-- memory follows the layout and stands for the set with the ids that were taken
pub record RightAll (x : Mem) (ids : List ℤ) (a : Inserted) (y : Mem) : Type 0 where
  pub follows : Follows y
  pub said : a ≡ in_turn new_answer after_of (state_of x) ids
  pub state : state_of y ≡ all_next after_of (state_of x) (take a.taken ids)

-- from memory x the call over ids answers a and leaves memory y: the ids that were taken are in it
pub record InsertsAll (x : Mem) (ids : List ℤ) (a : Inserted) (y : Mem) : Type 0 where
  pub said : a ≡ in_turn answer_by after_by x ids
  pub left : y ≡ all_next after_by x (take a.taken ids)
  pub says : Follows x → RightAll x ids a y
