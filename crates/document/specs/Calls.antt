-- Every call that changes a set, every call that reads one, and what they say.
use Rattle.std.specs.Prelude.{◌≡◌, ℕ, zero, suc, ℤ, Some, None, Ok, Err}
use Rattle.std.specs.Int.{w64}
use Rattle.std.proofs.Common.{SFits}
use Rattle.document.specs.declared.answer.Listing.{Listing}
use Rattle.document.specs.Refusals.{number}
use Rattle.document.specs.Results.{Amount, Outcome, Perhaps, Truth}

pub data Call : Type 0 where
  -- `set_if_new`, `set`, the prepared insert, `pre_allocate`
  insert : ℤ → Call
  put : ℤ → Call
  prepared : ℤ → Call
  prepare : ℤ → Call
  -- `into_ranked`, and leaving the ranked form
  rank_up : Call
  leave : Call

pub data Ask : Type 0 where
  get : ℤ → Ask
  range_test : ℤ → ℤ → Ask
  chunk_id : ℤ → Ask
  len : Ask
  is_empty : Ask
  has_any : Ask
  chunk_count : Ask
  -- iteration from a start
  iterate : ℤ → Ask
  rank_of : ℤ → Ask
  rank_if_set : ℤ → Ask
  total_count : Ask
  -- the full check
  check : Ask

-- its id is an i64
abbrev pub Fitting : Call → Type 0
Fitting (insert z) = SFits w64 z
Fitting (put z) = SFits w64 z
Fitting (prepared z) = SFits w64 z
Fitting (prepare z) = SFits w64 z
Fitting rank_up = Unit
Fitting leave = Unit

-- yes or no; done; a number; a number or none; a record of ids
pub data Said : Type 0 where
  whether : Truth → Said
  that : Outcome → Said
  many : Amount → Said
  maybe : Perhaps → Said
  listed : Listing → Said

-- a refusal beside a record, 0 where there is none
abbrev pub Beside : ℕ → ℕ → Type 0
Beside zero n = ⊥
Beside (suc k) n = suc k ≡ n

-- that it says the refusal n
abbrev pub Refuses : Said → ℕ → Type 0
Refuses (whether (Ok b)) n = ⊥
Refuses (whether (Err k)) n = number k ≡ n
Refuses (that (Ok tt)) n = ⊥
Refuses (that (Err k)) n = number k ≡ n
Refuses (many (Ok k)) n = ⊥
Refuses (many (Err k)) n = number k ≡ n
Refuses (maybe (Ok (Some k))) n = ⊥
Refuses (maybe (Ok None)) n = ⊥
Refuses (maybe (Err k)) n = number k ≡ n
Refuses (listed r) n = Beside r.refusal n
