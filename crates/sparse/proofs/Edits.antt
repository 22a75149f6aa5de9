-- Laws of the edits: what each list then reads, and a turn of the loop that copies. Assumes nothing.
use mathlib.Core.Path.{◌≡◌, refl, sym, ap, ◌∙◌}
use mathlib.Core.List.{List, [], ◌∷◌, ◌++◌, append_assoc}
use Prim.Native.Nat.{ℕ, zero, suc, ◌+◌, ◌-◌, ◌≤◌, ◌<◌}
use native.Mathlib.Numerals.{add-one}
use native.Mathlib.Omega.{arith}
use lib.ListN.{length, get_or, take, drop, set, replicate, length-append, length-drop, length-replicate, get_or-replicate, get_or-append}
use Rattle.std.proofs.lemmas.Grind.{common_steps, elements}
use Rattle.std.proofs.lemmas.List.{set_at, take_more, set_split}
use lib.Seq.{paste, length-take-le, get_or-append-add, get_or-drop}
use Rattle.sums.proofs.Sums.{Inserted}
use Rattle.sparse.specs.Row.{row_of}
use Rattle.sparse.specs.Edit.{inserted_at, cleared, copied}

-- ---- clearing

module _ (row : List ℕ) (len : ℕ) (l : len ≤ length row) where
  zeros : List ℕ
  zeros = replicate {A = ℕ} len 0

  zeros_length : length zeros ≡ len
  unfolding zeros
  zeros_length = length-replicate {A = ℕ} len 0

  pub length_cleared : length (cleared row len) ≡ length row
  unfolding cleared zeros
  length_cleared = omega (arith, length-append zeros (drop len row), zeros_length, length-drop len row)

  pub cleared_first : (j : ℕ) → j < len → get_or (cleared row len) j 0 ≡ 0
  unfolding cleared zeros
  cleared_first j m = get_or-append zeros (drop len row) 0 j (omega (arith, zeros_length)) ∙ get_or-replicate {A = ℕ} len j 0 0 m

  pub cleared_beyond : (j : ℕ) → len ≤ j → get_or (cleared row len) j 0 ≡ get_or row j 0
  unfolding cleared zeros
  cleared_beyond j m =
      let e : length zeros + (j - len) ≡ j = omega (arith, zeros_length) in
      let d : len + (j - len) ≡ j = omega arith in
      ap (λ (i : ℕ). get_or (zeros ++ drop len row) i 0) (sym e)
      ∙ get_or-append-add zeros (drop len row) (j - len) 0 ∙ get_or-drop len row (j - len) 0 ∙ ap (λ (i : ℕ). get_or row i 0) d

-- ---- copying

pub copied_none : (src dst : List ℕ) → dst ≡ copied src dst 0
unfolding copied
copied_none src dst = refl

copied_suc : (src dst : List ℕ) (i : ℕ) → i < length src → i < length dst → set (copied src dst i) i (get_or src i 0) ≡ copied src dst (suc i)
unfolding copied
copied_suc [] dst i a b = absurd (omega arith)
copied_suc (x ∷ src) [] i a b = absurd (omega arith)
copied_suc (x ∷ src) (y ∷ dst) zero a b = refl
copied_suc (x ∷ src) (y ∷ dst) (suc i) a b = ap (λ (r : List ℕ). x ∷ r) (copied_suc src dst i (omega arith) (omega arith))

pub copied_more : (src dst now : List ℕ) (i : ℕ) → i < length src → i < length dst → now ≡ copied src dst i → set now i (get_or src i 0) ≡ copied src dst (i + 1)
copied_more src dst now i a b e = ap (λ (r : List ℕ). set r i (get_or src i 0)) e ∙ copied_suc src dst i a b ∙ ap (copied src dst) (sym (add-one i))

pub copied_end : (src dst now : List ℕ) (i len : ℕ) → now ≡ copied src dst i → i ≤ len → len ≤ i → now ≡ copied src dst len
copied_end src dst now i len e a b = let d : i ≡ len = omega arith in e ∙ ap (copied src dst) d

module _ (src dst : List ℕ) (len : ℕ) (l : len ≤ length src) (m : len ≤ length dst) where
  pub length_copied : length (copied src dst len) ≡ length dst
  unfolding copied
  length_copied = grind (arith, common_steps)

  pub copied_first : (j : ℕ) → j < len → get_or (copied src dst len) j 0 ≡ get_or src j 0
  unfolding copied
  copied_first j k = grind (arith, elements)

  pub copied_beyond : (j : ℕ) → len ≤ j → get_or (copied src dst len) j 0 ≡ get_or dst j 0
  unfolding copied
  copied_beyond j k = grind (arith, elements)

-- ---- inserting: the list

module _ (row : List ℕ) (len at x : ℕ) (fits : at ≤ len) (room : len < length row) where
  pub length_inserted : length (inserted_at row len at x) ≡ length row
  unfolding inserted_at
  length_inserted = grind (arith, common_steps)

  pub inserted_below : (j : ℕ) → j < at → get_or (inserted_at row len at x) j 0 ≡ get_or row j 0
  unfolding inserted_at
  inserted_below j l = grind (arith, elements)

  pub inserted_here : get_or (inserted_at row len at x) at 0 ≡ x
  unfolding inserted_at
  inserted_here = grind (arith, elements)

  pub inserted_above : (j : ℕ) → at ≤ j → j < len → get_or (inserted_at row len at x) (suc j) 0 ≡ get_or row j 0
  unfolding inserted_at
  inserted_above j a b = grind (arith, elements)

  pub inserted_beyond : (j : ℕ) → len < j → get_or (inserted_at row len at x) j 0 ≡ get_or row j 0
  unfolding inserted_at
  inserted_beyond j l = grind (arith, elements)

  pub inserted_at_law : Inserted (row_of row) (row_of (inserted_at row len at x)) at len x
  inserted_at_law = record { fits = fits; below = inserted_below; here = inserted_here; above = inserted_above }

-- ---- inserting: as the code does it

-- the tail copied up by one, and x over its first place
pub copied_up : (row : List ℕ) (len at x : ℕ) → at ≤ len → len < length row → set (paste row (at + 1) (drop at row) (len - at)) at x ≡ inserted_at row len at x
unfolding inserted_at
copied_up row len at x p q =
    let h : at < length row = omega arith in
    let n : at + 1 + (len - at) ≡ len + 1 = omega arith in
    rw (take_more row at 0 h, n)
    (simp append_assoc (set_at (take at row) (get_or row at 0) (take (len - at) (drop at row) ++ drop (len + 1) row) x at (length-take-le at row (omega arith))))

pub inserted_end : (row : List ℕ) (len x : ℕ) → len < length row → set row len x ≡ inserted_at row len len x
unfolding inserted_at
inserted_end row len x q = let z : len - len ≡ 0 = omega arith in rw (z, add-one, append_assoc) (set_split row len x q)
