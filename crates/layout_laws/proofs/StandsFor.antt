-- Memory that follows the layout stands for one set: a chunk's place is that of its entry, a chunk without an entry is absent. Assumes nothing.
use mathlib.Core.Path.{◌≡◌, refl, sym, ap, ◌∙◌}
use Prim.Native.Nat.{ℕ, ◌/◌, ◌%◌}
use mathlib.Core.Bool.{false}
use Rattle.document.specs.Sizes.{top}
use Rattle.document.specs.State.{absent, State}
use Rattle.layout.specs.Mem.{Mem}
use Rattle.layout.specs.Sizes.{head}
use Rattle.layout.specs.Places.{decoded}
use Rattle.layout.specs.Entries.{entries, chunk_at, place_at, place_of}
use Rattle.layout.specs.Meaning.{offsets, holds, kind_of, kinds, state_of}
use Rattle.layout.specs.Follows.{Follows}
use Rattle.layout.specs.declared.place.Place.{Place}
use Rattle.layout.specs.declared.place.Place.TheVariants.{Absent}
use Rattle.layout_laws.specs.StandsFor.{InEntry, NoEntry, StandsFor, StandsForOne}
use Rattle.layout_laws.proofs.Keys.{Sought, found, missed}
use Rattle.layout_laws.proofs.Entries.{Ordered, laid_ordered, place_of_at, entry_of, word_of_none}

-- ---- a chunk without an entry, on any memory

module _ (x : Mem) where
  pub place_none : (c : ℕ) → NoEntry x c → place_of (head x) x.table c ≡ Absent
  place_none c none = ap decoded (word_of_none (head x) x.table c none)

  pub kinds_none : (c : ℕ) → NoEntry x c → kinds x c ≡ absent
  unfolding kinds
  kinds_none c none = ap kind_of (place_none c none)

  pub holds_none : (n : ℕ) → NoEntry x (n / top (head x)) → holds x n ≡ false
  unfolding holds
  holds_none n none = ap (λ (q : Place). offsets (head x) x q (n % top (head x))) (place_none (n / top (head x)) none)

-- ---- a chunk in an entry, where their ids rise

module _ (x : Mem) (o : Ordered (head x) x.table) where
  pub place_entry : (e c : ℕ) → InEntry x e c → place_of (head x) x.table c ≡ place_at (head x) x.table e
  place_entry e c i = sym (ap (place_of (head x) x.table) i.chunk) ∙ place_of_at (head x) x.table o e i.there

  pub kinds_entry : (e c : ℕ) → InEntry x e c → kinds x c ≡ kind_of (place_at (head x) x.table e)
  unfolding kinds
  kinds_entry e c i = ap kind_of (place_entry e c i)

  pub holds_entry : (e n : ℕ) → InEntry x e (n / top (head x)) → holds x n ≡ offsets (head x) x (place_at (head x) x.table e) (n % top (head x))
  unfolding holds
  holds_entry e n i = ap (λ (q : Place). offsets (head x) x q (n % top (head x))) (place_entry e (n / top (head x)) i)

-- ---- one set

same_state : {a b : State} → a.sizes ≡ b.sizes → a.mode ≡ b.mode → ((n : ℕ) → a.members n ≡ b.members n) → ((c : ℕ) → a.map c ≡ b.map c) → a ≡ b
same_state p q r s = λ i. record { sizes = p i; mode = q i; members = λ (n : ℕ). r n i; map = λ (c : ℕ). s c i }

-- memory stands for at most one set
pub stands_once : (x : Mem) (a b : State) → StandsFor x a → StandsFor x b → a ≡ b
stands_once x a b p q =
    same_state (p.sizes ∙ sym q.sizes) (p.mode ∙ sym q.mode)
    (λ n. members n (entry_of (head x) x.table (n / top (head x)))) (λ c. kind c (entry_of (head x) x.table c))
  where
    members : (n : ℕ) → Sought (chunk_at (head x) x.table) (entries (head x) x.table) (n / top (head x)) → a.members n ≡ b.members n
    members n (found e l k) = let i : InEntry x e (n / top (head x)) = record { there = l; chunk = k } in p.members e n i ∙ sym (q.members e n i)
    members n (missed none) = p.no_members n none ∙ sym (q.no_members n none)

    kind : (c : ℕ) → Sought (chunk_at (head x) x.table) (entries (head x) x.table) c → a.map c ≡ b.map c
    kind c (found e l k) = let i : InEntry x e c = record { there = l; chunk = k } in p.kind e c i ∙ sym (q.kind e c i)
    kind c (missed none) = p.no_kind c none ∙ sym (q.no_kind c none)

pub stands_for : (x : Mem) → Ordered (head x) x.table → StandsFor x (state_of x)
stands_for x o =
    record {
      sizes = refl;
      mode = refl;
      kind = kinds_entry x o;
      members = holds_entry x o;
      no_kind = kinds_none x;
      no_members = holds_none x;
    }

pub stands_for_one : {x : Mem} → Follows x → StandsForOne x
stands_for_one {x} w =
    let s = stands_for x (laid_ordered w) in
    record { is = s; only = λ a t. stands_once x a (state_of x) t s }
