-- Entries and ids, on memory that follows the layout: an entry's part and its chunk's ids, that every member has its entry, and where the entries from a chunk on begin. Assumes nothing.
use mathlib.Core.Path.{◌≡◌, sym, ap, ap₂, ◌∙◌}
use mathlib.Core.Bool.{true, false, ◌&&◌}
use Prim.Native.Nat.{ℕ, ◌+◌, ◌*◌, ◌/◌, ◌%◌, ◌<◌}
use native.Mathlib.Nat.{div-add-mod'}
use lib.Pow.{pow_pos}
use Rattle.layout.specs.Mem.{Mem}
use Rattle.document.specs.Sizes.{top}
use Rattle.layout.specs.Sizes.{head}
use Rattle.layout.specs.Places.{decoded}
use Rattle.layout.specs.Entries.{entries, chunk_at, place_at}
use Rattle.layout.specs.Short.{spot_on, spot_of}
use Rattle.layout.specs.Meaning.{offsets, holds}
use Rattle.layout.specs.Follows.{Follows}
use Rattle.layout.specs.declared.place.Place.{Place}
use Rattle.layout_laws.specs.Chunks as chunks
use Rattle.layout_laws.proofs.Keys.{Sought, found, missed, Cut}
use Rattle.layout_laws.proofs.Entries.{laid_ordered, place_of_at, entry_of, word_of_none}
use Rattle.layout_laws.proofs.Short.{spot_inside, entries_inside}
use Rattle.layout_laws.proofs.Places.{holds_absent}
use Rattle.layout_laws.proofs.Members.{holds_at}
use Rattle.layout_laws.proofs.Ranks.{entry_cut}
use Rattle.calls.specs.Reading.{spot_by}
use Rattle.calls.specs.Counts.{entries_ok, entries_of, word_by}
use Rattle.calls.specs.Range.{chunk_by, entry_from}
use Rattle.calls.proofs.Readings.{shift_ok_law}

-- id n lies in entry e's chunk
pub record Entry (x : Mem) (n e : ℕ) : Type 0 where
  pub there : e < entries_of x
  pub chunk : chunk_by x e ≡ n / top (head x)

-- the id at its offset
pub entry_id : {x : Mem} {n e : ℕ} → Entry x n e → chunk_by x e * top (head x) + n % top (head x) ≡ n
entry_id {x} {n} i = ap (λ (c : ℕ). c * top (head x) + n % top (head x)) i.chunk ∙ div-add-mod' n (top (head x))

pub some_ids : (x : Mem) → 0 < top (head x)
some_ids x = pow_pos (head x).s

module _ {x : Mem} (w : Follows x) where
  pub entries_fit : entries_ok x.table ≡ true
  entries_fit = ap₂ ◌&&◌ (shift_ok_law x w.sizes) (entries_inside x w.sizes w.room w.over_fits)

  pub entry_spot : (e : ℕ) → e < entries_of x → spot_by x (word_by x e) ≡ spot_on (head x) (place_at (head x) x.table e)
  unfolding spot_of
  entry_spot e l = spot_inside x (head x) w.sizes w.room (chunk_by x e) (place_at (head x) x.table e) (w.places e l)

  -- offset o of entry e's chunk
  pub holds_entry : (e o : ℕ) → e < entries_of x → o < top (head x)
      → holds x (chunk_by x e * top (head x) + o) ≡ offsets (head x) x (place_at (head x) x.table e) o
  holds_entry e o l m =
      holds_at x (chunk_by x e) o m ∙ ap (λ (p : Place). offsets (head x) x p o) (place_of_at (head x) x.table (laid_ordered w) e l)

  -- a member's chunk has an entry
  pub member_entry : (n : ℕ) → holds x n ≡ true → (e : ℕ) × Entry x n e
  member_entry n h = go (entry_of (head x) x.table (n / top (head x)))
    where
      go : Sought (chunk_at (head x) x.table) (entries_of x) (n / top (head x)) → (e : ℕ) × Entry x n e
      go (found e l q) = (e, record { there = l; chunk = q })
      go (missed m) =
          absurd (let f : false ≡ true = sym (holds_absent x n (ap decoded (word_of_none (head x) x.table (n / top (head x)) m))) ∙ h in
          cc)

  -- the entries from chunk c on
  pub from_cut : (c : ℕ) → Cut (chunk_at (head x) x.table) (entries (head x) x.table) (entry_from x c) c
  unfolding entry_from chunks.first_entry
  from_cut c = entry_cut (head x) x.table (laid_ordered w) c
