-- Laws of an id's chunk and offset: `split` answers exactly the chunk and the offset that the id lies at. Assumes nothing.
use mathlib.Core.Path.{◌≡◌, sym, ◌∙◌, ap, ap₂, subst}
use Prim.Native.Nat.{ℕ, ◌+◌, ◌-◌, ◌/◌, ◌%◌, ◌^◌, ◌≤◌, ◌<◌}
use native.Mathlib.Nat.{mod-lt}
use native.Mathlib.Omega.{arith}
use lib.IntN.{ℤ, pos, negsuc}
use lib.Pow.{split, shr_lt, pow_pos}
use mir.Syntax.{w64}
use mir.Val.{SFits, of_z, to_z}
use Rattle.numbers.specs.Ids.{split_of, id_of, Lies}
use Rattle.std.specs.Prelude.{Option, Some, None}
use Rattle.numbers.proofs.Powers.{pow_drop}
use Rattle.numbers.proofs.Slots.{slot_less, slot_of, slot_place}
use Rattle.numbers.proofs.Signs.{hop, pos_below}

-- ---- numbers

-- there and back
pub id_split : (s n : ℕ) → id_of s (n / 2 ^ s) (n % 2 ^ s) ≡ n
id_split s n = split n s

pub offset_below : (s n : ℕ) → n % 2 ^ s < 2 ^ s
offset_below s n = mod-lt n (pow_pos s)

-- the chunks of an i64 are those below 2 ^ (63 - s)
pub chunk_below : (s n : ℕ) → s ≤ 63 → n < 2 ^ 63 → n / 2 ^ s < 2 ^ (63 - s)
chunk_below s n h l = shr_lt (63 - s) s (rw (ap (λ (k : ℕ). 2 ^ k) e) l)
  where
    e : 63 - s + s ≡ 63
    e = omega arith

pub id_below : (s c off : ℕ) → s ≤ 63 → c < 2 ^ (63 - s) → off < 2 ^ s → id_of s c off < 2 ^ 63
id_below s c off h l m = rw (pow_drop s 63 h) at (slot_less (2 ^ s) c (2 ^ (63 - s)) off m l)

-- ---- ids

pub split_lies : (s : ℕ) (z : ℤ) (c off : ℕ) → Some (c, off) ≡ split_of s z → Lies s z c off
split_lies s (pos n) c off e =
    let e : (c, off) ≡ (n / 2 ^ s, n % 2 ^ s) = cc in
    let p : c ≡ n / 2 ^ s = ap (λ (r : ℕ × ℕ). r.0) e in
    let q : off ≡ n % 2 ^ s = ap (λ (r : ℕ × ℕ). r.1) e in
    record { id = ap pos (sym (id_split s n) ∙ ap₂ (id_of s) (sym p) (sym q)); within = rw q (offset_below s n) }
split_lies s (negsuc n) c off e = absurd cc

pub lies_split : (s : ℕ) (z : ℤ) (c off : ℕ) → Lies s z c off → split_of s z ≡ Some (c, off)
lies_split s z c off l = ap (split_of s) l.id ∙ ap₂ (λ (a b : ℕ). Some (a, b)) (slot_of (2 ^ s) c off l.within) (slot_place (2 ^ s) c off l.within)

-- one chunk, one offset
pub lies_once : (s : ℕ) (z : ℤ) (c off d at : ℕ) → Lies s z c off → Lies s z d at → (c ≡ d) × (off ≡ at)
lies_once s z c off d at l m =
    let e : Some (c, off) ≡ Some (d, at) = sym (lies_split s z c off l) ∙ lies_split s z d at m in
    let q : (c, off) ≡ (d, at) = cc in
    (ap (λ (r : ℕ × ℕ). r.0) q, ap (λ (r : ℕ × ℕ). r.1) q)

pub lies_below : (s : ℕ) (z : ℤ) (c off : ℕ) → s ≤ 63 → SFits w64 z → Lies s z c off → c < 2 ^ (63 - s)
lies_below s z c off h f l =
    rw (slot_of (2 ^ s) c off l.within) at (chunk_below s (id_of s c off) h (pos_below _ (rw l.id at f)))

-- ---- what a caller of `split` knows: any statement on the id goes by its two answers

negative_is : (s : ℕ) (P : ℤ → Type 0) (z : ℤ) → None ≡ split_of s z → ((k : ℕ) → P (negsuc k)) → P z
negative_is s P (pos m) e h = absurd cc
negative_is s P (negsuc k) e h = h k

module _ (s : ℕ) (z : ℤ) (f : SFits w64 z) (r : Option (ℕ × ℕ)) (e : r ≡ split_of s (to_z w64 (of_z w64 z))) where
  pub of_negative : (P : ℤ → Type 0) → r ≡ None → ((k : ℕ) → P (negsuc k)) → P z
  of_negative P q h = negative_is s P z (sym q ∙ e ∙ hop (split_of s) z f) h

  pub at_lies : (c off : ℕ) → r ≡ Some (c, off) → Lies s z c off
  at_lies c off q = split_lies s z c off (sym q ∙ e ∙ hop (split_of s) z f)

  pub of_at : (P : ℤ → Type 0) (c off : ℕ) → r ≡ Some (c, off) → P (pos (id_of s c off)) → P z
  of_at P c off q p = subst P (sym (at_lies c off q).id) p

  pub at_below : (c off : ℕ) → s ≤ 63 → r ≡ Some (c, off) → c < 2 ^ (63 - s)
  at_below c off h q = lies_below s z c off h f (at_lies c off q)
