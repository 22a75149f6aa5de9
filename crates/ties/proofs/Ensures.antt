-- A contract that asks nothing of the caller and ensures P; memory as a call's arguments have it.
use mathlib.Core.List.{List}
use Prim.Native.Nat.{ℕ}
use seplogic.Ra.Ura.{Ura}
use base.Logic.{emp}
use types.Logic.{Logic}
use contract.Monad.{fact}
use contract.Lifetimes.{Lfts}
use denote.Ref.{Bor, MutBor}
use denote.Triple.Entry.{Args, Res}
use denote.Triple.Clauses.{Ended, AtExit}
use denote.Triple.Spec.{Spec, exits}
use Rattle.layout.specs.Mem.{Mem, mem}

-- one of the four slices as `&`, and as `&mut`
abbrev Shared : Type 0
Shared = Bor (List ℕ)

abbrev Lent : Type 0
Lent = MutBor (List ℕ)

-- the four slices, first of a call's arguments: those of a call that reads
abbrev pub four : {B : Type 0} → Shared × (Shared × (Shared × (Shared × B))) → Mem
four a = mem a.0.now a.1.0.now a.1.1.0.now a.1.1.1.0.now

-- those of a call that changes a set
abbrev pub lent : {B : Type 0} → Lent × (Lent × (Lent × (Lent × B))) → Mem
lent a = mem a.0.now a.1.0.now a.1.1.0.now a.1.1.1.0.now

-- those of ranking and leaving, which change blocks and table alone
abbrev pub half : {B : Type 0} → Shared × (Shared × (Lent × (Lent × B))) → Mem
half a = mem a.0.now a.1.0.now a.1.1.0.now a.1.1.1.0.now

-- pages and rows as they were, blocks and table as they are
abbrev pub two : {B C D E : Type 0} → Shared × (Shared × B) → D × (E × (Lent × (Lent × C))) → Mem
two a e = mem a.0.now a.1.0.now e.1.1.0.now e.1.1.1.0.now

-- P is of arguments, result, and arguments at exit
module _ {M : Type 1} {𝓤 : Ura M} (𝓛 : Logic 𝓤) where
  abbrev pub Ensures : (T : Ended) → ((κs : Lfts T.signature.lifetimes) → Args T.signature κs → Res T.signature κs → AtExit T κs → Type 0) → Spec 𝓤 T.signature
  Ensures T P κs a = record { ghost = Unit {0}; requires = λ g. emp 𝓤; ensures = λ g r. exits 𝓛 T.signature T.kept κs a (λ e. fact 𝓤 (P κs a r e)) }
