-- Loops that write: what a turn stores, and what stands there at the end. Assumes nothing.
use mathlib.Core.Path.{◌≡◌, refl, sym, ap, ap₂, ◌∙◌}
use mathlib.Core.List.{List, [], ◌∷◌, ◌++◌, append-nil}
use Prim.Native.Nat.{ℕ, zero, suc, ◌+◌, ◌*◌, ◌/◌, ◌%◌, ◌^◌, ◌≤◌, ◌<◌}
use native.Mathlib.Nat.{zero-add}
use native.Mathlib.Numerals.{add-one}
use native.Mathlib.Omega.{arith}
use lib.Bits.{bit_or}
use lib.ListN.{length, get_or, set, take, drop_of_length-le}
use lib.Seq.{paste, paste-suc}
use Rattle.dense.specs.Bits.{or_words, with_bit, with_row}
use Rattle.std.proofs.lemmas.Nat.{one_shl}

-- ---- a union

pub or_none : (xs : List ℕ) → xs ≡ or_words xs []
unfolding or_words
or_none [] = refl
or_none (x ∷ xs) = refl

or_suc : (d s : List ℕ) (i : ℕ) → i < length d → i < length s → set (or_words d (take i s)) i (bit_or (get_or (or_words d (take i s)) i 0) (get_or s i 0)) ≡ or_words d (take (suc i) s)
unfolding or_words
or_suc [] s i l h = absurd (omega arith)
or_suc (x ∷ d) [] i l h = absurd (omega arith)
or_suc (x ∷ d) (y ∷ s) zero l h = ap (λ (r : List ℕ). bit_or x y ∷ r) (or_none d)
or_suc (x ∷ d) (y ∷ s) (suc i) l h = ap (λ (r : List ℕ). bit_or x y ∷ r) (or_suc d s i (omega arith) (omega arith))

pub or_more : (d s w : List ℕ) (i : ℕ) → i < length d → i < length s → w ≡ or_words d (take i s) → set w i (bit_or (get_or w i 0) (get_or s i 0)) ≡ or_words d (take (i + 1) s)
or_more d s w i l h e =
    ap (λ (z : List ℕ). set z i (bit_or (get_or z i 0) (get_or s i 0))) e
    ∙ (or_suc d s i l h ∙ ap (λ (k : ℕ). or_words d (take k s)) (sym (add-one i)))

pub or_all : (d s : List ℕ) (i : ℕ) → length d ≤ i → or_words d (take i s) ≡ or_words d s
unfolding or_words
or_all [] s i l = refl
or_all (x ∷ d) s zero l = absurd (omega arith)
or_all (x ∷ d) [] (suc i) l = refl
or_all (x ∷ d) (y ∷ s) (suc i) l = ap (λ (r : List ℕ). bit_or x y ∷ r) (or_all d s i (omega arith))

-- ---- a copy

pub copy_more : (d s w : List ℕ) (i : ℕ) → i < length d → i < length s → w ≡ paste d 0 s i → set w i (get_or s i 0) ≡ paste d 0 s (i + 1)
copy_more d s w i l h e =
    ap (λ (z : List ℕ). set z i (get_or s i 0)) e
    ∙ (ap (λ (k : ℕ). set (paste d 0 s i) k (get_or s i 0)) (sym (zero-add i))
    ∙ (paste-suc d 0 s i 0 (omega arith) h ∙ ap (paste d 0 s) (sym (add-one i))))

pub copy_all : (d s : List ℕ) (i : ℕ) → length d ≤ i → paste d 0 s i ≡ take i s
copy_all d s i l = ap (λ (r : List ℕ). take i s ++ r) (drop_of_length-le d {i = 0 + i} (omega arith)) ∙ append-nil (take i s)

-- ---- a row

-- one bit set, as the code has it
pub with_is : (ws : List ℕ) (o : ℕ) → set ws (o / 64) (bit_or (get_or ws (o / 64) 0) (1 * 2 ^ (o % 64) % 2 ^ 64)) ≡ with_bit ws o
unfolding with_bit
with_is ws o = ap (λ (x : ℕ). set ws (o / 64) (bit_or (get_or ws (o / 64) 0) x)) (one_shl (o % 64) 64 (omega arith))

row_suc : (d row : List ℕ) (u i : ℕ) → with_bit (with_row d row u i) (get_or row i 0 % u) ≡ with_row d row u (i + 1)
unfolding with_row
row_suc d row u i = ap (with_row d row u) (sym (add-one i))

pub row_more : (d row w : List ℕ) (s i o : ℕ) → s < 64 → o ≡ get_or row i 0 % (1 * 2 ^ s % 2 ^ 64) → w ≡ with_row d row (2 ^ s) i → set w (o / 64) (bit_or (get_or w (o / 64) 0) (1 * 2 ^ (o % 64) % 2 ^ 64)) ≡ with_row d row (2 ^ s) (i + 1)
row_more d row w s i o l e p =
    with_is w o
    ∙ (ap₂ with_bit p (e ∙ ap (λ (m : ℕ). get_or row i 0 % m) (one_shl s 64 l)) ∙ row_suc d row (2 ^ s) i)
