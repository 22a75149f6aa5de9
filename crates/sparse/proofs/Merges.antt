-- Laws of the merge: its equations, one step without branches, the loops that write and count. Assumes nothing.
use mathlib.Core.Path.{◌≡◌, refl, sym, ap, ap₂, ◌∙◌}
use mathlib.Core.Bool.{Bool, true, false, cond}
use mathlib.Core.List.{List, [], ◌∷◌, ◌++◌}
use Prim.Native.Nat.{ℕ, suc, ◌+◌, ◌-◌, ◌≤◌, ◌<◌, min}
use native.Mathlib.Omega.{arith}
use lib.Dec.{ltb, leb}
use lib.ListN.{length, get_or, drop, length-drop, drop_of_length-le}
use lib.Seq.{drop-cons, drop-drop}
use mir.Val.{bool_byte}
use borrow.Author.Tests.{lt-ltb, le-ltb, leb-true, leb-false, le-leb}
use Rattle.sums.proofs.Counts.{byte_le}
use Rattle.sparse.specs.Union.{Merged, left, onto, merged, merged_head, union}

-- ---- equations

pub merged_none : (xs : List ℕ) → merged xs [] ≡ left xs
unfolding merged merged_head
merged_none [] = refl
merged_none (x ∷ xs) = refl

module _ (x : ℕ) (xs : List ℕ) (y : ℕ) (ys : List ℕ) where
  merged_by : (a b : Bool) → ltb x y ≡ a → ltb y x ≡ b → merged (x ∷ xs) (y ∷ ys) ≡ cond a (onto x (merged xs (y ∷ ys))) (cond b (onto y (merged (x ∷ xs) ys)) (onto x (merged xs ys)))
  unfolding merged merged_head
  merged_by a b p q =
      ap₂ (λ (s t : Bool). cond s (onto x (merged xs (y ∷ ys))) (cond t (onto y (merged (x ∷ xs) ys)) (onto x (merged xs ys)))) p q

  pub merged_less : x < y → merged (x ∷ xs) (y ∷ ys) ≡ onto x (merged xs (y ∷ ys))
  merged_less l = merged_by true (ltb y x) (lt-ltb x y l) refl

  pub merged_more : y < x → merged (x ∷ xs) (y ∷ ys) ≡ onto y (merged (x ∷ xs) ys)
  merged_more l = merged_by false true (le-ltb x y (omega arith)) (lt-ltb y x l)

  pub merged_same : x ≡ y → merged (x ∷ xs) (y ∷ ys) ≡ onto x (merged xs ys)
  merged_same e = merged_by false false (le-ltb x y (omega arith)) (le-ltb y x (omega arith))

-- ---- one step

abbrev pub passes : ℕ → ℕ → ℕ
passes x y = bool_byte (leb x y)

-- each list moves on by one at most, and one of them does
pub record Steps (x y : ℕ) : Type 0 where
  pub first : passes x y ≤ 1
  pub second : passes y x ≤ 1
  pub some : 1 ≤ passes x y + passes y x

pub steps : (x y : ℕ) → Steps x y
steps x y = record { first = byte_le (leb x y); second = byte_le (leb y x); some = go (leb x y) refl }
  where
    go : (b : Bool) → leb x y ≡ b → 1 ≤ passes x y + passes y x
    go true e = let z : passes x y ≡ 1 = ap bool_byte e in omega arith
    go false e = let z : passes y x ≡ 1 = ap bool_byte (le-leb y x (let l = leb-false x y e in omega arith)) in omega arith

step_by : (x : ℕ) (xs : List ℕ) (y : ℕ) (ys : List ℕ) (a b : Bool) → leb x y ≡ a → leb y x ≡ b → merged (x ∷ xs) (y ∷ ys) ≡ onto (min x y) (merged (drop (bool_byte a) (x ∷ xs)) (drop (bool_byte b) (y ∷ ys)))
step_by x xs y ys true true p q = let s = leb-true x y p in let t = leb-true y x q in let m : min x y ≡ x = omega arith in rw m (merged_same x xs y ys (omega arith))
step_by x xs y ys true false p q = let l = leb-false y x q in let m : min x y ≡ x = omega arith in rw m (merged_less x xs y ys l)
step_by x xs y ys false true p q = let l = leb-false x y p in let m : min x y ≡ y = omega arith in rw m (merged_more x xs y ys l)
step_by x xs y ys false false p q = absurd (let s = leb-false x y p in let t = leb-false y x q in omega arith)

module _ (xs ys : List ℕ) (i j : ℕ) (p : i < length xs) (q : j < length ys) where
  pub merged_step : merged (drop i xs) (drop j ys) ≡ onto (min (get_or xs i 0) (get_or ys j 0)) (merged (drop (i + passes (get_or xs i 0) (get_or ys j 0)) xs) (drop (j + passes (get_or ys j 0) (get_or xs i 0)) ys))
  merged_step =
      let x = get_or xs i 0 in
      let y = get_or ys j 0 in
      ap₂ merged (drop-cons xs i 0 p) (drop-cons ys j 0 q) ∙ step_by x (drop (suc i) xs) y (drop (suc j) ys) (leb x y) (leb y x) refl refl
      ∙ ap₂ (λ (s t : List ℕ). onto (min x y) (merged s t))
      (ap (drop (passes x y)) (sym (drop-cons xs i 0 p)) ∙ drop-drop (passes x y) i xs)
      (ap (drop (passes y x)) (sym (drop-cons ys j 0 q)) ∙ drop-drop (passes y x) j ys)

-- one list is used up: the other is left
pub merged_rest_a : (xs ys : List ℕ) (i j : ℕ) → length ys ≤ j → merged (drop i xs) (drop j ys) ≡ left (drop i xs)
merged_rest_a xs ys i j g = rw (drop_of_length-le ys g) (merged_none (drop i xs))

pub merged_rest_b : (xs ys : List ℕ) (i j : ℕ) → length xs ≤ i → merged (drop i xs) (drop j ys) ≡ left (drop j ys)
unfolding merged
merged_rest_b xs ys i j g = rw (drop_of_length-le xs g) refl

-- ---- counted

pub union_step : (xs ys : List ℕ) (i j : ℕ) → i < length xs → j < length ys → length (union (drop i xs) (drop j ys)) ≡ suc (length (union (drop (i + passes (get_or xs i 0) (get_or ys j 0)) xs) (drop (j + passes (get_or ys j 0) (get_or xs i 0)) ys)))
unfolding union
union_step xs ys i j p q = ap (λ (r : Merged). length (r.front ++ r.rest)) (merged_step xs ys i j p q)

pub union_rest_a : (xs ys : List ℕ) (i j : ℕ) → length ys ≤ j → length (union (drop i xs) (drop j ys)) ≡ length xs - i
unfolding union
union_rest_a xs ys i j g = ap (λ (r : Merged). length (r.front ++ r.rest)) (merged_rest_a xs ys i j g) ∙ length-drop i xs

pub union_rest_b : (xs ys : List ℕ) (i j : ℕ) → length xs ≤ i → length (union (drop i xs) (drop j ys)) ≡ length ys - j
unfolding union
union_rest_b xs ys i j g = ap (λ (r : Merged). length (r.front ++ r.rest)) (merged_rest_b xs ys i j g) ∙ length-drop j ys
