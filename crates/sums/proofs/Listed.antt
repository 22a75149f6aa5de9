-- Sets that list their members in rising order: counts, ranks, least ids and boundaries by computation on the list, so that no id is too large. Assumes nothing.
use mathlib.Core.Path.{◌≡◌, refl, sym, ap, ap₂, ◌∙◌}
use mathlib.Core.Logic.{◌≢◌}
use mathlib.Core.Bool.{Bool, true, false, cond, ◌&&◌, ◌||◌}
use mathlib.Core.List.{List, [], ◌∷◌, ◌++◌}
use Prim.Native.Nat.{ℕ, zero, suc, ◌+◌, ◌-◌, ◌*◌, ◌^◌, ◌≤◌, ◌<◌, min}
use native.Mathlib.Omega.{arith}
use lib.Dec.{leb, ltb, eqb}
use lib.ListN.{length, get_or}
use borrow.Author.Tests.{leb-true, leb-false, ltb-true, ltb-false, lt-ltb, le-ltb, eq-eqb, ne_eqb}
use lib.IntN.{ℤ, pos, negsuc, suc_ℤ}
use mir.Val.{bool_byte}
use Rattle.sums.specs.Ids.{Ids, has, count, total, rank, RankIf, ranked, rank_if, any_in_range}
use Rattle.sums.specs.Cuts.{least, size, parts, End, before, none, Interval, boundary, boundaries_to, boundaries, low_end, high_end, part, held}
use Rattle.sums.specs.Cases.{set_of}
use Rattle.sums.proofs.Rules.{both}
use Rattle.sums.proofs.Counts.{byte_le, count_none, count_ext, count_change}
use Rattle.sums.proofs.Least.{least_zero, least_eq}
use Rattle.sums.proofs.Ranks.{nth_least}
use Rattle.sums.proofs.Rounding.{parts_pos, parts_tight}
use Rattle.sums.proofs.Parts.{high_last, high_next}
use Rattle.sums.proofs.Held.{part_held}

-- ---- the list

-- from lo on, in rising order
abbrev pub rises_from : ℕ → List ℕ → Bool
rises_from lo [] = true
rises_from lo (x ∷ xs) = leb lo x && rises_from (suc x) xs

abbrev pub rises : List ℕ → Bool
rises = rises_from 0

-- how many are below n
abbrev pub below : List ℕ → ℕ → ℕ
below [] n = 0
below (x ∷ xs) n = bool_byte (ltb x n) + below xs n

-- element m - 1 plus 1, 0 for m = 0
abbrev pub least_in : List ℕ → ℕ → ℕ
least_in xs zero = 0
least_in xs (suc m) = suc (get_or xs m 0)

-- ---- its members

rises_out : (lo : ℕ) (xs : List ℕ) → rises_from lo xs ≡ true → (j : ℕ) → j < lo → set_of xs j ≡ false
unfolding set_of
rises_out lo [] r j l = refl
rises_out lo (x ∷ xs) r j l =
    let b = both (leb lo x) (rises_from (suc x) xs) r in
    let h = leb-true lo x b.0 in
    ap₂ ◌||◌ (ne_eqb j x (omega arith)) (rises_out (suc x) xs b.1 j (omega arith))

-- one member more
abbrev with : ℕ → Ids → Ids
with x P j = eqb j x || P j

with_other : (P : Ids) (x j : ℕ) → j ≢ x → with x P j ≡ P j
with_other P x j d = ap (λ (b : Bool). b || P j) (ne_eqb j x d)

count_with : (P : Ids) (x n : ℕ) → P x ≡ false → count (with x P) n ≡ bool_byte (ltb x n) + count P n
count_with P x n e = go (ltb x n) refl
  where
    go : (b : Bool) → ltb x n ≡ b → count (with x P) n ≡ bool_byte (ltb x n) + count P n
    go true q =
        let c = count_change P (with x P) x n (ltb-true x n q) (λ j l d. with_other P x j d) in
        let y : bool_byte (with x P x) ≡ 1 = ap (λ (b : Bool). bool_byte (b || P x)) (eq-eqb x x refl) in
        let z : bool_byte (P x) ≡ 0 = ap bool_byte e in
        rw q (omega arith)
    go false q =
        let l = ltb-false x n q in
        let c = count_ext (with x P) P n (λ j m. with_other P x j (omega arith)) in
        rw q (omega arith)

count_from : (lo : ℕ) (xs : List ℕ) → rises_from lo xs ≡ true → (n : ℕ) → count (set_of xs) n ≡ below xs n
unfolding set_of
count_from lo [] r n = count_none (set_of []) n (λ j l. refl)
count_from lo (x ∷ xs) r n =
    let b = both (leb lo x) (rises_from (suc x) xs) r in
    count_with (set_of xs) x n (rises_out (suc x) xs b.1 x (omega arith)) ∙ ap (λ (m : ℕ). bool_byte (ltb x n) + m) (count_from (suc x) xs b.1 n)

-- how many members are below n: how many of the list are
pub count_listed : (xs : List ℕ) → rises xs ≡ true → (n : ℕ) → count (set_of xs) n ≡ below xs n
count_listed = count_from 0

pub total_listed : (xs : List ℕ) → rises xs ≡ true → total (set_of xs) ≡ below xs (2 ^ 63)
unfolding total
total_listed xs r = count_listed xs r (2 ^ 63)

-- ---- its elements in order

below_none : (lo : ℕ) (xs : List ℕ) → rises_from lo xs ≡ true → (n : ℕ) → n ≤ lo → below xs n ≡ 0
below_none lo [] r n l = refl
below_none lo (x ∷ xs) r n l =
    let b = both (leb lo x) (rises_from (suc x) xs) r in
    let h = leb-true lo x b.0 in
    ap₂ (λ (t : Bool) (m : ℕ). bool_byte t + m) (le-ltb x n (omega arith)) (below_none (suc x) xs b.1 n (omega arith))

nth_from : (lo : ℕ) (xs : List ℕ) → rises_from lo xs ≡ true → (m : ℕ) → m < length xs → lo ≤ get_or xs m 0
nth_from lo [] r m l = absurd (omega arith)
nth_from lo (x ∷ xs) r zero l = leb-true lo x (both (leb lo x) (rises_from (suc x) xs) r).0
nth_from lo (x ∷ xs) r (suc m) l =
    let b = both (leb lo x) (rises_from (suc x) xs) r in
    let h = leb-true lo x b.0 in
    let i = nth_from (suc x) xs b.1 m (omega arith) in
    omega arith

-- element m has m before it
below_nth : (lo : ℕ) (xs : List ℕ) → rises_from lo xs ≡ true → (m : ℕ) → m < length xs → below xs (get_or xs m 0) ≡ m
below_nth lo [] r m l = absurd (omega arith)
below_nth lo (x ∷ xs) r zero l = ap₂ (λ (t : Bool) (m : ℕ). bool_byte t + m) (le-ltb x x (omega arith)) (below_none (suc x) xs (both (leb lo x) (rises_from (suc x) xs) r).1 x (omega arith))
below_nth lo (x ∷ xs) r (suc m) l =
    let b = both (leb lo x) (rises_from (suc x) xs) r in
    let i = nth_from (suc x) xs b.1 m (omega arith) in
    let h = below_nth (suc x) xs b.1 m (omega arith) in
    let t : bool_byte (ltb x (get_or xs m 0)) ≡ 1 = ap bool_byte (lt-ltb x (get_or xs m 0) i) in
    omega arith

or_true : (a : Bool) {b : Bool} → b ≡ true → (a || b) ≡ true
or_true true e = refl
or_true false e = e

nth_in : (xs : List ℕ) (m : ℕ) → m < length xs → set_of xs (get_or xs m 0) ≡ true
unfolding set_of
nth_in [] m l = absurd (omega arith)
nth_in (x ∷ xs) zero l = ap (λ (b : Bool). b || set_of xs x) (eq-eqb x x refl)
nth_in (x ∷ xs) (suc m) l = or_true (eqb (get_or xs m 0) x) (nth_in xs m (omega arith))

below_length : (xs : List ℕ) (n : ℕ) → below xs n ≤ length xs
below_length [] n = omega arith
below_length (x ∷ xs) n = let h = below_length xs n in omega (arith, byte_le (ltb x n))

-- ---- what is asked of the set, asked of the list

abbrev pub rank_in : List ℕ → ℤ → ℕ
rank_in xs (pos n) = below xs n
rank_in xs (negsuc n) = 0

abbrev pub parts_in : List ℕ → ℕ → ℕ
parts_in xs S = parts (below xs (2 ^ 63)) S

abbrev pub boundaries_in : List ℕ → ℕ → ℕ → List ℕ
boundaries_in xs S zero = []
boundaries_in xs S (suc k) = boundaries_in xs S k ++ (least_in xs (suc k * size S) ∷ [])

abbrev pub low_in : List ℕ → ℕ → ℕ → ℤ
low_in xs S zero = negsuc (2 ^ 63 - 1)
low_in xs S (suc k) = pos (least_in xs (suc k * size S))

abbrev pub high_in : List ℕ → ℕ → ℕ → End
high_in xs S k = cond (leb (parts_in xs S) (suc k)) none (before (pos (least_in xs (suc k * size S))))

module _ (xs : List ℕ) (r : rises xs ≡ true) where
  pub rank_listed : (z : ℤ) → rank (set_of xs) z ≡ rank_in xs z
  unfolding rank
  rank_listed (pos n) = count_listed xs r n
  rank_listed (negsuc n) = refl

  pub rank_if_listed : (z : ℤ) → rank_if (set_of xs) z ≡ cond (has (set_of xs) z) (ranked (rank_in xs z)) RankIf.none
  unfolding rank_if
  rank_if_listed z = ap (λ (n : ℕ). cond (has (set_of xs) z) (ranked n) RankIf.none) (rank_listed z)

  pub range_listed : (lo hi : ℤ) → any_in_range (set_of xs) lo hi ≡ ltb (rank_in xs lo) (rank_in xs (suc_ℤ hi))
  unfolding any_in_range
  range_listed lo hi = ap₂ ltb (rank_listed lo) (rank_listed (suc_ℤ hi))

  pub parts_listed : (S : ℕ) → parts (total (set_of xs)) S ≡ parts_in xs S
  parts_listed S = ap (λ (t : ℕ). parts t S) (total_listed xs r)

  -- element m - 1 plus 1
  pub least_listed : (m : ℕ) → m ≤ total (set_of xs) → least (set_of xs) m ≡ least_in xs m
  least_listed zero l = least_eq (set_of xs) 0 0 l (least_zero (set_of xs))
  least_listed (suc m) l =
      let h : m < length xs = omega (arith, total_listed xs r, below_length xs (2 ^ 63)) in
      let c = count_listed xs r (get_or xs m 0) ∙ below_nth 0 xs r m h in
      least_eq (set_of xs) (suc m) (suc (get_or xs m 0)) l (rw c at (nth_least (set_of xs) (get_or xs m 0) (nth_in xs m h)))

  module _ (S : ℕ) where
    pub boundary_listed : (k : ℕ) → suc k < parts (total (set_of xs)) S → boundary (set_of xs) S (suc k) ≡ least_in xs (suc k * size S)
    boundary_listed k l = least_listed (suc k * size S) (let h = parts_tight (total (set_of xs)) S (suc k) (omega arith) l in omega arith)

    boundaries_to_law : (k : ℕ) → k < parts (total (set_of xs)) S → boundaries_to (set_of xs) S k ≡ boundaries_in xs S k
    unfolding boundaries_to
    boundaries_to_law zero l = refl
    boundaries_to_law (suc k) l = ap₂ (λ (bs : List ℕ) (b : ℕ). bs ++ (b ∷ [])) (boundaries_to_law k (omega arith)) (boundary_listed k l)

    pub boundaries_listed : boundaries (set_of xs) S ≡ boundaries_in xs S (parts_in xs S - 1)
    boundaries_listed = boundaries_to_law (parts (total (set_of xs)) S - 1) (omega (arith, parts_pos (total (set_of xs)) S)) ∙ ap (λ (n : ℕ). boundaries_in xs S (n - 1)) (parts_listed S)

    low_listed : (k : ℕ) → k < parts (total (set_of xs)) S → low_end (set_of xs) S k ≡ low_in xs S k
    unfolding low_end
    low_listed zero l = refl
    low_listed (suc k) l = ap pos (boundary_listed k l)

    high_listed : (k : ℕ) → high_end (set_of xs) S k ≡ high_in xs S k
    high_listed k = go (leb (parts (total (set_of xs)) S) (suc k)) refl
      where
        to : Bool → End
        to b = cond b none (before (pos (least_in xs (suc k * size S))))

        same : leb (parts (total (set_of xs)) S) (suc k) ≡ leb (parts_in xs S) (suc k)
        same = ap (λ (n : ℕ). leb n (suc k)) (parts_listed S)

        go : (b : Bool) → leb (parts (total (set_of xs)) S) (suc k) ≡ b → high_end (set_of xs) S k ≡ to (leb (parts_in xs S) (suc k))
        go true e = high_last (set_of xs) S k (leb-true (parts (total (set_of xs)) S) (suc k) e) ∙ ap to (sym e ∙ same)
        go false e =
            let l = leb-false (parts (total (set_of xs)) S) (suc k) e in
            high_next (set_of xs) S k l ∙ ap (λ (b : ℕ). before (pos b)) (boundary_listed k l) ∙ ap to (sym e ∙ same)

    pub part_listed : (k : ℕ) → k < parts (total (set_of xs)) S → part (set_of xs) S k ≡ record { low = low_in xs S k; high = high_in xs S k }
    part_listed k l = ap₂ {C = Interval} (λ (a : ℤ) (b : End). record { low = a; high = b }) (low_listed k l) (high_listed k)

    pub held_listed : (k : ℕ) → k < parts (total (set_of xs)) S → held (set_of xs) (part (set_of xs) S k) ≡ min (size S) (below xs (2 ^ 63) - k * size S)
    held_listed k l = part_held (set_of xs) S k l ∙ ap (λ (t : ℕ). min (size S) (t - k * size S)) (total_listed xs r)
