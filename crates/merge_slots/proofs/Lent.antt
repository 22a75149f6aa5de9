-- Slots of the two pools that were lent, and what came back. Assumes nothing.
use mathlib.Core.Path.{◌≡◌, refl, sym, ap, ap₂, ◌∙◌}
use mathlib.Core.List.{List, ◌++◌}
use mathlib.Core.Bool.{Bool, true, false, cond}
use Prim.Native.Nat.{ℕ, ◌+◌, ◌-◌, ◌*◌, ◌≤◌}
use native.Mathlib.Omega.{arith}
use lib.ListN.{length, take, drop, length-append, take-append-drop}
use Rattle.std.proofs.Common.{append_assoc}
use lib.Seq.{take_at, drop-drop}
use lib.Dec.{leb}
use borrow.Author.Tests.{le-leb}
use Rattle.sparse.specs.Edit.{copied}
use Rattle.sparse.specs.Union.{union, on_front}
use Rattle.document.specs.declared.sizes.Sizes.{Sizes}
use Rattle.layout.specs.Places.{row_part}
use Rattle.layout.specs.Writes.{put_part, put_row}
use Rattle.std.proofs.lemmas.List.{drop-take}
use Rattle.layout_laws.proofs.Sizes.{part_length}
use Rattle.layout.proofs.Lent.{span}
use Rattle.steps.proofs.Lent.{put_lent}
use Rattle.steps.proofs.Fills.{put_back}

-- a part, where start and width were computed
pub part_lent : (xs : List ℕ) (i k a n : ℕ) → i ≡ a → k ≡ n → take (i + k - i) (drop i xs) ≡ take n (drop a xs)
part_lent xs i k a n p q = ap (λ (j : ℕ). take j (drop i xs)) (span i k) ∙ ap₂ (λ (u v : ℕ). take v (drop u xs)) p q

-- the front of row r written, and no more
module _ (rows : List ℕ) (h : Sizes) (r k : ℕ) (l : k ≤ h.m) where
  past_front : drop k (row_part h rows r) ++ drop (r * h.m + h.m) rows ≡ drop k (drop (r * h.m) rows)
  past_front =
      let xs = drop (r * h.m) rows in
      let n : k + (h.m - k) ≡ h.m = omega arith in
      let p = ap (λ (j : ℕ). drop k (take j xs)) (sym n) ∙ drop-take k (h.m - k) xs in
      let q = sym (drop-drop h.m (r * h.m) rows) ∙ ap (λ (j : ℕ). drop j xs) (sym n) ∙ sym (drop-drop (h.m - k) k xs) in
      ap₂ ◌++◌ p q ∙ take-append-drop (h.m - k) (drop k xs)

  pub front_put : (i : ℕ) → i ≡ r * h.m → (src ys : List ℕ) → ys ≡ take k src → take i rows ++ (ys ++ drop (i + k - i) (drop i rows)) ≡ put_row h rows r (copied src (row_part h rows r) k)
  unfolding put_part copied
  front_put i e src ys f =
      ap₂ (λ (u : List ℕ) (j : ℕ). take i rows ++ (u ++ drop j (drop i rows))) f (span i k)
      ∙ ap (λ (j : ℕ). take j rows ++ (take k src ++ drop k (drop j rows))) e
      ∙ ap (λ (u : List ℕ). take (r * h.m) rows ++ u) (ap (λ (v : List ℕ). take k src ++ v) (sym past_front) ∙ sym (append_assoc (take k src) _ _))

-- ---- a row that becomes a union

-- u, where it has room in a row
abbrev pub united_in : List ℕ → List ℕ → List ℕ
united_in u row = cond (leb (length u) (length row)) (on_front u row) row

-- u was written at the front of an array, both
module _ (u row out both : List ℕ) (n : ℕ) (count : n ≡ length u) (front : both ≡ on_front u out) where
  pub front_long : n ≤ length both
  unfolding on_front
  front_long = let e = ap length front ∙ length-append u (drop (length u) out) in omega arith

  front_taken : take n both ≡ u
  unfolding on_front
  front_taken = ap (take n) front ∙ take_at u (drop (length u) out) n (sym count)

  -- and copied over the row
  pub united_all : n ≤ length row → (ys : List ℕ) → ys ≡ take n both → ys ++ drop n row ≡ united_in u row
  unfolding on_front
  united_all l ys e =
      ap₂ (λ (v : List ℕ) (k : ℕ). v ++ drop k row) (e ∙ front_taken) count
      ∙ ap (λ (b : Bool). cond b (u ++ drop (length u) row) row) (sym (le-leb (length u) (length row) (omega arith)))

-- row r as a part of the pool
module _ (rows : List ℕ) (h : Sizes) (r i : ℕ) (at : i ≡ r * h.m) (inside : r * h.m + h.m ≤ length rows) (other : List ℕ) (l k n : ℕ) where
  abbrev lent : List ℕ
  lent = take (i + h.m - i) (drop i rows)

  abbrev row : List ℕ
  row = row_part h rows r

  same_row : lent ≡ row
  same_row = part_lent rows i h.m (r * h.m) h.m at refl

  unite_put : (b : Bool) (u : List ℕ) → put_row h rows r (cond b (on_front u row) row) ≡ cond b (put_row h rows r (on_front u row)) rows
  unite_put true u = refl
  unite_put false u = put_back rows (r * h.m) h.m

  pub join_put : (o : List ℕ) → o ≡ other → n ≡ length (union (take l (take (i + h.m - i) (drop i rows))) (take k o))
      → (ys : List ℕ) → ys ≡ united_in (union (take l (take (i + h.m - i) (drop i rows))) (take k o)) (take (i + h.m - i) (drop i rows))
      → (n ≡ length (union (take l (row_part h rows r)) (take k other)))
      × (take i rows ++ (ys ++ drop (i + h.m - i) (drop i rows))
      ≡ cond (leb (length (union (take l (row_part h rows r)) (take k other))) h.m) (put_row h rows r (on_front (union (take l (row_part h rows r)) (take k other)) (row_part h rows r))) rows)
  join_put o same count ys made =
      let u = union (take l row) (take k other) in (
        count ∙ ap₂ (λ (a b : List ℕ). length (union (take l a) (take k b))) same_row same,
        put_lent rows i h.m (r * h.m) h.m at refl (λ (w : List ℕ). united_in (union (take l w) (take k other)) w) ys
            (made ∙ ap (λ (b : List ℕ). united_in (union (take l lent) (take k b)) lent) same)
            ∙ ap (λ (m : ℕ). put_row h rows r (cond (leb (length u) m) (on_front u row) row)) (part_length rows (r * h.m) h.m inside)
            ∙ unite_put (leb (length u) h.m) u,
      )
