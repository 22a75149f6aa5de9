-- docs/LAYOUT.md, "What it stands for": which set memory stands for, entry by entry, and that it is one.
use Rattle.std.specs.Prelude.{◌≡◌, ◌≢◌, ℕ, ◌/◌, ◌%◌, ◌<◌, false}
use Rattle.document.specs.Sizes.{top}
use Rattle.document.specs.State.{absent, State}
use Rattle.layout.specs.Mem.{Mem}
use Rattle.layout.specs.Sizes.{head}
use Rattle.layout.specs.Entries.{entries, chunk_at, place_at}
use Rattle.layout.specs.Meaning.{offsets, kind_of, ranked, state_of}

-- chunk c stands in entry e
pub record InEntry (x : Mem) (e c : ℕ) : Type 0 where
  pub there : e < entries (head x) x.table
  pub chunk : chunk_at (head x) x.table e ≡ c

-- no entry has chunk c
abbrev pub NoEntry : Mem → ℕ → Type 0
NoEntry x c = (e : ℕ) → e < entries (head x) x.table → chunk_at (head x) x.table e ≢ c

-- a chunk has the kind and the offsets of its entry's place; a chunk without an entry is absent
pub record StandsFor (x : Mem) (a : State) : Type 0 where
  pub sizes : a.sizes ≡ head x
  pub mode : a.mode ≡ ranked x
  pub kind : (e c : ℕ) → InEntry x e c → a.map c ≡ kind_of (place_at (head x) x.table e)
  pub members : (e n : ℕ) → InEntry x e (n / top (head x)) → a.members n ≡ offsets (head x) x (place_at (head x) x.table e) (n % top (head x))
  pub no_kind : (c : ℕ) → NoEntry x c → a.map c ≡ absent
  pub no_members : (n : ℕ) → NoEntry x (n / top (head x)) → a.members n ≡ false

-- memory stands for its state, and for no other
pub record StandsForOne (x : Mem) : Type 0 where
  pub is : StandsFor x (state_of x)
  pub only : (a : State) → StandsFor x a → a ≡ state_of x
