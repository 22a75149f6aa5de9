-- Where a chunk stands: what union reads of either memory is the layout's place, where the walk finds nothing wrong. Assumes nothing.
use mathlib.Core.Path.{◌≡◌, refl, sym, ap, ap₂, ◌∙◌}
use mathlib.Core.Logic.{◌≢◌}
use mathlib.Core.List.{List}
use mathlib.Core.Bool.{Bool, true, cond, ◌&&◌}
use Prim.Native.Nat.{ℕ, ◌<◌}
use borrow.Author.Tests.{lt-ltb, le-leb}
use Rattle.sparse.specs.Row.{Rising}
use Rattle.document.specs.Sizes.{last_chunk}
use Rattle.document.specs.declared.sizes.Sizes.{Sizes}
use Rattle.layout.specs.Mem.{Mem}
use Rattle.layout.specs.Sizes.{head}
use Rattle.layout.specs.Places.{decoded}
use Rattle.layout.specs.Entries.{entries, chunk_at, place_at, place_of}
use Rattle.layout.specs.Follows.{Owned}
use Rattle.layout.specs.Tests.{Walked}
use Rattle.layout.specs.declared.place.Place.{Place}
use Rattle.layout.specs.declared.place.Place.TheVariants.{Absent, Sparse, Dense}
use Rattle.layout_laws.proofs.Keys.{Sought, found, missed}
use Rattle.layout_laws.proofs.Entries.{walked_ordered, chunk_below, chunk_rising, chunk_once, place_of_at, entry_of, word_of_none}
use Rattle.layout_laws.proofs.Short.{word_in_is, owned_of}
use Rattle.unions.specs.Union.{fits, fitted, named, standing, source, source_chunk, source_entries, is_placed}

-- ---- a place that is a chunk's own is one of the sizes'

fits_owned : (h : Sizes) (t : List ℕ) (c : ℕ) (q : Place) → Owned h t c q → fits h q ≡ true
fits_owned h t c Absent u = refl
fits_owned h t c (Sparse r l) u = ap₂ ◌&&◌ (lt-ltb r h.r u.there) (le-leb l h.m u.short)
fits_owned h t c (Dense p) u = lt-ltb p h.p u.there

fitted_owned : (h : Sizes) (t : List ℕ) (c : ℕ) (q : Place) → Owned h t c q → fitted h q ≡ q
fitted_owned h t c q u = ap (λ (b : Bool). cond b q Absent) (fits_owned h t c q u)

placed_not : (q : Place) → q ≡ Absent → is_placed q ≢ true
placed_not q e p = cc (ap is_placed e)

module _ {x : Mem} (w : Walked x (head x)) where
  pub standing_is : (c : ℕ) → standing x c ≡ place_of (head x) x.table c
  unfolding standing
  standing_is c = ap (named (head x)) (word_in_is x w c) ∙ fitted_owned (head x) x.table c (place_of (head x) x.table c) (owned_of w c)

  -- ---- the source's entries

  pub source_is : (e : ℕ) → e < source_entries x → source x e ≡ place_at (head x) x.table e
  unfolding source
  source_is e l = fitted_owned (head x) x.table (source_chunk x e) (place_at (head x) x.table e) (w.places e l)

  -- an entry's place is its chunk's
  pub source_of : (e : ℕ) → e < source_entries x → source x e ≡ place_of (head x) x.table (source_chunk x e)
  source_of e l = source_is e l ∙ sym (place_of_at (head x) x.table (walked_ordered w) e l)

  pub chunk_in : (e : ℕ) → e < source_entries x → source_chunk x e < last_chunk (head x)
  chunk_in = chunk_below (head x) x.table (walked_ordered w)

  -- their chunk ids rise, so that no two have the same
  pub chunks_rise : Rising (source_chunk x) (source_entries x)
  chunks_rise = chunk_rising (head x) x.table (walked_ordered w)

  pub chunks_once : (i e : ℕ) → i < source_entries x → e < source_entries x → source_chunk x i ≡ source_chunk x e → i ≡ e
  chunks_once = chunk_once (head x) x.table (walked_ordered w)

-- ---- a chunk that is present has an entry

pub in_entry : (x : Mem) (c : ℕ) → place_of (head x) x.table c ≢ Absent → (e : ℕ) × (e < source_entries x) × (source_chunk x e ≡ c)
in_entry x c there = go (entry_of (head x) x.table c)
  where
    go : Sought (chunk_at (head x) x.table) (entries (head x) x.table) c → (e : ℕ) × (e < source_entries x) × (source_chunk x e ≡ c)
    go (found e l q) = (e, l, q)
    go (missed none) = absurd (there (ap decoded (word_of_none (head x) x.table c none)))

pub placed_entry : (x : Mem) (c : ℕ) → is_placed (place_of (head x) x.table c) ≡ true → (e : ℕ) × (e < source_entries x) × (source_chunk x e ≡ c)
placed_entry x c p = in_entry x c (λ q. placed_not (place_of (head x) x.table c) q p)
