-- Calls over a list beside the single ones: the number that stands for an answer, and single inserts in turn as steps of a history.
use Rattle.std.specs.Prelude.{◌≡◌, List, [], ◌∷◌, ℕ, ℤ, Some, None, Ok, Err}
use Rattle.std.specs.Int.{w64}
use mir.Val.{SFits, bool_byte}
use Rattle.document.specs.Calls.{insert, Ask, get, rank_of, rank_if_set, Said, whether, that, many, maybe, listed}
use Rattle.contracts.specs.Runs.{ran_by}
use Rattle.lists.specs.Lists.{ListAsk, get_all, rank_all, rank_if_all, no_rank}
use Rattle.promises.specs.Histories.{changed, Story, then, last}

-- the single call that is asked of each id
abbrev pub ask_of : ListAsk → ℤ → Ask
ask_of get_all z = get z
ask_of rank_all z = rank_of z
ask_of rank_if_all z = rank_if_set z

-- n stands for an answer; nothing stands for a refusal
abbrev pub Number : Said → ℕ → Type 0
Number (whether (Ok b)) n = n ≡ bool_byte b
Number (whether (Err c)) n = ⊥
Number (that a) n = ⊥
Number (many (Ok k)) n = n ≡ k
Number (many (Err c)) n = ⊥
Number (maybe (Ok (Some k))) n = n ≡ k
Number (maybe (Ok None)) n = n ≡ no_rank
Number (maybe (Err c)) n = ⊥
Number (listed r) n = ⊥

-- every id is an i64
abbrev pub AllFit : List ℤ → Type 0
AllFit [] = Unit
AllFit (z ∷ zs) = SFits w64 z × AllFit zs

-- a history, and then `set_if_new` of each id in turn, with its answer and what it left
abbrev pub inserted_into : Story → List ℤ → Story
inserted_into s [] = s
inserted_into s (z ∷ zs) = inserted_into (then s (changed (insert z) (ran_by (last s) (insert z)).answer (ran_by (last s) (insert z)).after)) zs
