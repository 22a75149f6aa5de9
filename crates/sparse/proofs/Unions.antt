-- Laws of the union: its length, its members, its rising; and the rest appended to the front. Assumes nothing.
use mathlib.Core.Path.{◌≡◌, refl, sym, ap, ap₂, ◌∙◌}
use mathlib.Core.Logic.{◌⊎◌, inl, inr}
use mathlib.Core.Bool.{Bool, true, false, ◌||◌}
use mathlib.Core.List.{List, [], ◌∷◌, ◌++◌}
use Prim.Native.Nat.{ℕ, zero, suc, ◌+◌, ◌≤◌, ◌<◌, max}
use native.Mathlib.Omega.{arith}
use Rattle.std.proofs.Math.Bool.{or_assoc}
use Rattle.std.proofs.lemmas.Grind.{common_steps, elements}
use lib.Dec.{eqb}
use lib.ListN.{length, get_or, length-append}
use Rattle.sparse.specs.Row.{row_of, member, Rising}
use Rattle.sparse.specs.Union.{Merged, merged, union, on_front}
use Rattle.sparse.proofs.Rows.{member_none, member_front, member_at, member_small}
use Rattle.std.proofs.lemmas.Bool.{cases_lt}
use Rattle.sparse.proofs.Merges.{merged_none, merged_less, merged_more, merged_same}

-- ---- equations, and induction over them

pub union_none : (ys : List ℕ) → union [] ys ≡ ys
unfolding union merged
union_none ys = refl

pub union_all : (xs : List ℕ) → union xs [] ≡ xs
unfolding union
union_all xs = ap (λ (m : Merged). m.front ++ m.rest) (merged_none xs)

module _ (x : ℕ) (xs : List ℕ) (y : ℕ) (ys : List ℕ) where
  pub union_less : x < y → union (x ∷ xs) (y ∷ ys) ≡ x ∷ union xs (y ∷ ys)
  unfolding union
  union_less l = ap (λ (m : Merged). m.front ++ m.rest) (merged_less x xs y ys l)

  pub union_more : y < x → union (x ∷ xs) (y ∷ ys) ≡ y ∷ union (x ∷ xs) ys
  unfolding union
  union_more l = ap (λ (m : Merged). m.front ++ m.rest) (merged_more x xs y ys l)

  pub union_same : x ≡ y → union (x ∷ xs) (y ∷ ys) ≡ x ∷ union xs ys
  unfolding union
  union_same e = ap (λ (m : Merged). m.front ++ m.rest) (merged_same x xs y ys e)

module _ (P : List ℕ → List ℕ → List ℕ → Type 0) (none : (ys : List ℕ) → P [] ys ys) (all : (xs : List ℕ) → P xs [] xs)
    (less : (x : ℕ) (xs : List ℕ) (y : ℕ) (ys zs : List ℕ) → x < y → P xs (y ∷ ys) zs → P (x ∷ xs) (y ∷ ys) (x ∷ zs))
    (more : (x : ℕ) (xs : List ℕ) (y : ℕ) (ys zs : List ℕ) → y < x → P (x ∷ xs) ys zs → P (x ∷ xs) (y ∷ ys) (y ∷ zs))
    (same : (x : ℕ) (xs : List ℕ) (y : ℕ) (ys zs : List ℕ) → x ≡ y → P xs ys zs → P (x ∷ xs) (y ∷ ys) (x ∷ zs)) where
  head : (x : ℕ) (xs : List ℕ) → ((ys : List ℕ) → P xs ys (union xs ys)) → (ys : List ℕ) → P (x ∷ xs) ys (union (x ∷ xs) ys)
  head x xs r [] = rw union_all (all (x ∷ xs))
  head x xs r (y ∷ ys) = go (cases_lt x y) (cases_lt y x) (head x xs r ys)
    where
      go : (x < y) ⊎ (y ≤ x) → (y < x) ⊎ (x ≤ y) → P (x ∷ xs) ys (union (x ∷ xs) ys) → P (x ∷ xs) (y ∷ ys) (union (x ∷ xs) (y ∷ ys))
      go (inl l) b p = rw (union_less x xs y ys l) (less x xs y ys (union xs (y ∷ ys)) l (r (y ∷ ys)))
      go (inr l) (inl m) p = rw (union_more x xs y ys m) (more x xs y ys (union (x ∷ xs) ys) m p)
      go (inr l) (inr m) p = let e : x ≡ y = omega arith in rw (union_same x xs y ys e) (same x xs y ys (union xs ys) e (r ys))

  pub union_ind : (xs ys : List ℕ) → P xs ys (union xs ys)
  union_ind [] ys = rw union_none (none ys)
  union_ind (x ∷ xs) ys = head x xs (union_ind xs) ys

-- ---- its length

Long : List ℕ → List ℕ → List ℕ → Type 0
Long xs ys zs = (length zs ≤ length xs + length ys) × (length xs ≤ length zs) × (length ys ≤ length zs)

union_long : (xs ys : List ℕ) → Long xs ys (union xs ys)
unfolding Long
union_long =
    union_ind Long (λ ys. omega arith) (λ xs. omega arith)
    (λ x xs y ys zs l p. let a = p.0 in let b = p.1 in let c = p.2 in omega arith)
    (λ x xs y ys zs l p. let a = p.0 in let b = p.1 in let c = p.2 in omega arith)
    (λ x xs y ys zs l p. let a = p.0 in let b = p.1 in let c = p.2 in omega arith)

pub length_union_le : (xs ys : List ℕ) → length (union xs ys) ≤ length xs + length ys
unfolding Long
length_union_le xs ys = (union_long xs ys).0

pub length_union_ge : (xs ys : List ℕ) → max (length xs) (length ys) ≤ length (union xs ys)
unfolding Long
length_union_ge xs ys = let a = (union_long xs ys).1 in let b = (union_long xs ys).2 in omega arith

-- ---- its members

-- a list's own members
abbrev pub among : List ℕ → ℕ → Bool
among xs z = member (row_of xs) (length xs) z

among_cons : (x : ℕ) (xs : List ℕ) (z : ℕ) → among (x ∷ xs) z ≡ (eqb x z || among xs z)
among_cons x xs z = member_front (row_of (x ∷ xs)) (length xs) z

or_none : (b : Bool) → b ≡ (b || false)
or_none true = refl
or_none false = refl

or_right : (a b c : Bool) → (a || (b || c)) ≡ (b || (a || c))
or_right true true c = refl
or_right true false c = refl
or_right false b c = refl

or_both : (a b c : Bool) → (a || (b || c)) ≡ ((a || b) || (a || c))
or_both true b c = refl
or_both false b c = refl

-- a value is a member exactly of either
pub member_union : (z : ℕ) (xs ys : List ℕ) → among (union xs ys) z ≡ (among xs z || among ys z)
member_union z =
    union_ind (λ (xs ys zs : List ℕ). among zs z ≡ (among xs z || among ys z))
    (λ ys. ap (λ (b : Bool). b || among ys z) (sym (member_none (row_of []) z)))
    (λ xs. or_none (among xs z) ∙ ap (λ (b : Bool). among xs z || b) (sym (member_none (row_of []) z)))
    (λ x xs y ys zs l p.
    among_cons x zs z ∙ ap (λ (b : Bool). eqb x z || b) p ∙ sym (or_assoc (eqb x z) (among xs z) (among (y ∷ ys) z))
    ∙ ap (λ (b : Bool). b || among (y ∷ ys) z) (sym (among_cons x xs z)))
    (λ x xs y ys zs l p.
    among_cons y zs z ∙ ap (λ (b : Bool). eqb y z || b) p ∙ or_right (eqb y z) (among (x ∷ xs) z) (among ys z)
    ∙ ap (λ (b : Bool). among (x ∷ xs) z || b) (sym (among_cons y ys z)))
    (λ x xs y ys zs e p.
    among_cons x zs z ∙ ap (λ (b : Bool). eqb x z || b) p ∙ or_both (eqb x z) (among xs z) (among ys z)
    ∙ ap₂ ◌||◌ (sym (among_cons x xs z)) (ap (λ (k : ℕ). eqb k z || among ys z) e ∙ sym (among_cons y ys z)))

-- a bound on the offsets
pub small_union : (s : ℕ) (xs ys : List ℕ) → ((j : ℕ) → j < length xs → get_or xs j 0 < s) → ((j : ℕ) → j < length ys → get_or ys j 0 < s) → (j : ℕ) → j < length (union xs ys) → get_or (union xs ys) j 0 < s
small_union s xs ys h k j l = go (among xs v) refl (sym (member_union v xs ys) ∙ member_at (row_of (union xs ys)) (length (union xs ys)) j l)
  where
    v : ℕ
    v = get_or (union xs ys) j 0

    go : (b : Bool) → among xs v ≡ b → (among xs v || among ys v) ≡ true → v < s
    go true p q = member_small (row_of xs) (length xs) s v h p
    go false p q = member_small (row_of ys) (length ys) s v k (ap (λ (b : Bool). b || among ys v) (sym p) ∙ q)

-- ---- its rising

-- strictly rising from lo on, for induction
abbrev pub Up : ℕ → List ℕ → Type 0
Up lo [] = Unit {0}
Up lo (x ∷ xs) = (lo ≤ x) × Up (suc x) xs

up_from : (lo less : ℕ) (xs : List ℕ) → less ≤ lo → Up lo xs → Up less xs
up_from lo less [] l u = tt
up_from lo less (x ∷ xs) l u = (let a = u.0 in omega arith, u.1)

up_least : (lo : ℕ) (xs : List ℕ) → Up lo xs → (j : ℕ) → j < length xs → lo ≤ get_or xs j 0
up_least lo [] u j l = absurd (omega arith)
up_least lo (x ∷ xs) u zero l = u.0
up_least lo (x ∷ xs) u (suc j) l = let a = u.0 in let b = up_least (suc x) xs u.1 j (omega arith) in omega arith

pub up_rising : (lo : ℕ) (xs : List ℕ) → Up lo xs → Rising (row_of xs) (length xs)
up_rising lo [] u i j a b = absurd (omega arith)
up_rising lo (x ∷ xs) u i zero a b = absurd (omega arith)
up_rising lo (x ∷ xs) u zero (suc j) a b = up_least (suc x) xs u.1 j (omega arith)
up_rising lo (x ∷ xs) u (suc i) (suc j) a b = up_rising (suc x) xs u.1 i j (omega arith) (omega arith)

pub rising_up : (lo : ℕ) (xs : List ℕ) → ((j : ℕ) → j < length xs → lo ≤ get_or xs j 0) → Rising (row_of xs) (length xs) → Up lo xs
rising_up lo [] h r = tt
rising_up lo (x ∷ xs) h r =
    (h 0 (omega arith), rising_up (suc x) xs (λ j l. r 0 (suc j) (omega arith) (omega arith)) (λ i j a b. r (suc i) (suc j) (omega arith) (omega arith)))

up_union : (xs ys : List ℕ) → (lo : ℕ) → Up lo xs → Up lo ys → Up lo (union xs ys)
up_union =
    union_ind (λ (xs ys zs : List ℕ). (lo : ℕ) → Up lo xs → Up lo ys → Up lo zs)
    (λ ys lo u v. v)
    (λ xs lo u v. u)
    (λ x xs y ys zs l p lo u v. (u.0, p (suc x) u.1 (l, v.1)))
    (λ x xs y ys zs l p lo u v. (v.0, p (suc y) (l, u.1) v.1))
    (λ x xs y ys zs e p lo u v. (u.0, p (suc x) u.1 (up_from (suc y) (suc x) ys (omega arith) v.1)))

pub rising_union : (xs ys : List ℕ) → Rising (row_of xs) (length xs) → Rising (row_of ys) (length ys) → Rising (row_of (union xs ys)) (length (union xs ys))
rising_union xs ys r s = up_rising 0 (union xs ys) (up_union xs ys 0 (rising_up 0 xs (λ j l. omega arith) r) (rising_up 0 ys (λ j l. omega arith) s))

-- ---- written over a list's front

module _ (zs out : List ℕ) where
  pub front_at : (j : ℕ) → j < length zs → get_or (on_front zs out) j 0 ≡ get_or zs j 0
  unfolding on_front
  front_at j l = grind (arith, elements)

  pub front_past : (j : ℕ) → length zs ≤ j → get_or (on_front zs out) j 0 ≡ get_or out j 0
  unfolding on_front
  front_past j l = grind (arith, elements)

  pub length_front : length zs ≤ length out → length (on_front zs out) ≡ length out
  unfolding on_front
  length_front l = grind (arith, common_steps)

-- ---- the front, and the rest behind it

pub merged_le : (xs ys : List ℕ) → length (merged xs ys).front + length (merged xs ys).rest ≤ length xs + length ys
unfolding union
merged_le xs ys = omega (arith, length_union_le xs ys, length-append (merged xs ys).front (merged xs ys).rest)
