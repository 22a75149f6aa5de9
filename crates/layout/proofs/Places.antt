-- A place's word: what it decodes to, that decoding undoes encoding, and how small its row, length or page is. Assumes nothing.
use mathlib.Core.Path.{◌≡◌, refl, sym, ◌∙◌, ap, ap₂}
use mathlib.Core.Bool.{Bool, true, false, cond}
use Prim.Native.Nat.{ℕ, ◌+◌, ◌-◌, ◌*◌, ◌/◌, ◌%◌, ◌≤◌, ◌<◌}
use native.Mathlib.Omega.{arith}
use lib.Dec.{ltb, eqb}
use borrow.Author.Tests.{lt-ltb, le-ltb, ltb-true, eq-eqb, ne_eqb}
use Rattle.layout.specs.Places.{decoded, encoded}
use Rattle.layout.specs.declared.place.Place.{Place}
use Rattle.layout.specs.declared.place.Place.TheVariants.{Absent, Sparse, Dense}

-- ---- decoding, way by way

picked : ℕ → Bool → Bool → Place
picked w a b = cond a Absent (cond b (Sparse ((w - 1) / 2048) ((w - 1) % 2048)) (Dense (w - 268435456)))

pub decoded_absent : (w : ℕ) → w ≡ 0 → Absent ≡ decoded w
unfolding picked
decoded_absent w h = ap (λ (a : Bool). picked w a (ltb w 268435456)) (sym (eq-eqb w 0 h))

pub decoded_sparse : (w : ℕ) → (w ≡ 0 → ⊥) → w < 268435456 → Sparse ((w - 1) / 2048) ((w - 1) % 2048) ≡ decoded w
unfolding picked
decoded_sparse w n h = ap₂ (picked w) (sym (ne_eqb w 0 n)) (sym (lt-ltb w 268435456 h))

pub decoded_dense : (w : ℕ) → 268435456 ≤ w → Dense (w - 268435456) ≡ decoded w
unfolding picked
decoded_dense w h = ap₂ (picked w) (sym (ne_eqb w 0 (λ (e : w ≡ 0). omega arith))) (sym (le-ltb w 268435456 h))

-- ---- decoding undoes encoding

pub decoded_encoded_sparse : (r l : ℕ) → r < 131071 → l < 2048 → decoded (encoded (Sparse r l)) ≡ Sparse r l
decoded_encoded_sparse r l h k =
    let w = 1 + (2048 * r + l) in
    let a : (w - 1) / 2048 ≡ r = omega arith in
    let b : (w - 1) % 2048 ≡ l = omega arith in
    sym (decoded_sparse w (λ (e : w ≡ 0). omega arith) (omega arith)) ∙ ap₂ Sparse a b

pub decoded_encoded_dense : (p : ℕ) → decoded (encoded (Dense p)) ≡ Dense p
decoded_encoded_dense p =
    let a : 268435456 + p - 268435456 ≡ p = omega arith in
    sym (decoded_dense (268435456 + p) (omega arith)) ∙ ap Dense a

-- ---- what a word can name

picked_sparse : (w : ℕ) (a b : Bool) (r l : ℕ) → picked w a b ≡ Sparse r l → (b ≡ true) × ((w - 1) / 2048 ≡ r) × ((w - 1) % 2048 ≡ l)
unfolding picked
picked_sparse w false true r l e = (refl, cc, cc)
picked_sparse w true b r l e = absurd (let z : ◌≡◌ {A = ℕ} 0 1 = cc in omega arith)
picked_sparse w false false r l e = absurd (let z : ◌≡◌ {A = ℕ} 0 1 = cc in omega arith)

-- a row, and a length of 11 bits
pub sparse_small : (w r l : ℕ) (q : Place) → q ≡ decoded w → q ≡ Sparse r l → (r ≤ 131071) × (l ≤ 2047)
unfolding picked
sparse_small w r l q e f =
    let g = picked_sparse w (eqb w 0) (ltb w 268435456) r l (sym e ∙ f) in
    let h : w < 268435456 = ltb-true w 268435456 g.0 in
    (omega (arith, g.1), omega (arith, g.2))
