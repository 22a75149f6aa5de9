-- Owners of rows and pages after a chunk's word and an owner are written, and the room for a chunk's entry. Assumes nothing.
use mathlib.Core.Path.{◌≡◌, refl, ap}
use mathlib.Core.Logic.{◌≢◌}
use mathlib.Core.List.{List}
use mathlib.Core.Bool.{Bool, true, false, not}
use Prim.Native.Nat.{ℕ, ◌+◌, ◌<◌}
use native.Mathlib.Omega.{arith}
use lib.Dec.{ltb, eqb}
use mir.Val.{bool_byte}
use borrow.Author.Tests.{ltb-true, ltb-false, eq-eqb, ne_eqb}
use Rattle.sums.specs.Ids.{count}
use Rattle.sums.proofs.Counts.{count_change}
use Rattle.layout.specs.Sizes.{over_count}
use Rattle.layout.specs.Places.{decoded}
use Rattle.layout.specs.Entries.{entries, chunk_at, place_of}
use Rattle.document.specs.declared.sizes.Sizes.{Sizes}
use Rattle.layout.specs.declared.place.Place.TheVariants.{Absent}
use Rattle.layout_laws.proofs.Entries.{chunk_direct, word_of_none}
use Rattle.steps.specs.Effects.{EntryFor}

-- ---- room for an entry

module _ (h : Sizes) (t : List ℕ) (c : ℕ) (none : (e : ℕ) → e < entries h t → chunk_at h t e ≢ c) where
  -- a chunk without an entry is not direct
  pub entry_free : EntryFor h t c → over_count t < h.v
  entry_free f = go (ltb c h.d) refl
    where
      go : (b : Bool) → ltb c h.d ≡ b → over_count t < h.v
      go true e = let l = ltb-true c h.d e in absurd (none c (omega arith) (chunk_direct h t c l))
      go false e = f (ltb-false c h.d e)

  -- and is absent
  pub entry_none : place_of h t c ≡ Absent
  entry_none = ap decoded (word_of_none h t c none)

-- ---- owners counted

abbrev pub used : (ℕ → ℕ) → ℕ → ℕ
used owner n = count (λ (r : ℕ). not (eqb (owner r) 0)) n

pub taken : (w c : ℕ) → w ≡ c + 1 → bool_byte (not (eqb w 0)) ≡ 1
taken w c e = ap (λ (b : Bool). bool_byte (not b)) (ne_eqb w 0 (omega arith))

pub not_taken : (w : ℕ) → w ≡ 0 → bool_byte (not (eqb w 0)) ≡ 0
not_taken w e = ap (λ (b : Bool). bool_byte (not b)) (eq-eqb w 0 e)

-- one owner changed
pub used_change : (f g : ℕ → ℕ) (r n : ℕ) → r < n → ((j : ℕ) → j < n → j ≢ r → g j ≡ f j) → used g n + bool_byte (not (eqb (f r) 0)) ≡ used f n + bool_byte (not (eqb (g r) 0))
used_change f g r n l h = count_change (λ (j : ℕ). not (eqb (f j) 0)) (λ (j : ℕ). not (eqb (g j) 0)) r n l (λ j m d. ap (λ (w : ℕ). not (eqb w 0)) (h j m d))
