-- A part of a pool put in place: what is read inside it, outside it, and as a slot of a given width, for rows, pages and runs of table words alike. Assumes nothing.
use mathlib.Core.Path.{◌≡◌, refl, sym, ap, ◌∙◌}
use mathlib.Core.Logic.{◌⊎◌, inl, inr, ◌≢◌}
use mathlib.Core.List.{List, ◌++◌}
use mathlib.Core.Bool.{Bool, true, false}
use Prim.Native.Nat.{ℕ, suc, ◌+◌, ◌-◌, ◌*◌, ◌≤◌, ◌<◌}
use native.Mathlib.Nat.{suc-mul, mul-le-mul_right}
use native.Mathlib.Omega.{arith}
use lib.ListN.{length, get_or, take, drop, replicate, length-append, length-take, length-drop, length-replicate, get_or-replicate, get_or-append}
use lib.Seq.{length-take-le, take_at, drop_at, get_or-append-add, get_or-take, get_or-drop, ext_get_or}
use lib.Dec.{ltb}
use borrow.Author.Tests.{ltb-true, ltb-false}
use Rattle.layout.specs.Follows.{AllZero}
use Rattle.layout.specs.Writes.{put_part}

-- ---- slots of width m

-- slot r of a pool of n slots lies inside it
pub slot_in : (m n r len : ℕ) → r < n → n * m ≤ len → r * m + m ≤ len
slot_in m n r len l h = let x = mul-le-mul_right {m = suc r} {n = n} m l in omega (arith, suc-mul r m)

-- two slots have no element in common
pub slot_apart : (m r r' j : ℕ) → j < m → r' ≢ r → (r' * m + j < r * m) ⊎ (r * m + m ≤ r' * m + j)
slot_apart m r r' j l d = go (ltb r' r) refl
  where
    go : (b : Bool) → ltb r' r ≡ b → (r' * m + j < r * m) ⊎ (r * m + m ≤ r' * m + j)
    go true e = inl (let x = mul-le-mul_right {m = suc r'} {n = r} m (ltb-true r' r e) in omega (arith, suc-mul r' m))
    go false e = inr (let y = ltb-false r' r e in let x = mul-le-mul_right {m = suc r} {n = r'} m (omega arith) in omega (arith, suc-mul r m))

-- ---- n elements from a

module _ (xs : List ℕ) (a n : ℕ) (ys : List ℕ) (fits : length ys ≡ n) (room : a + n ≤ length xs) where
  front : length (take a xs) ≡ a
  front = length-take-le a xs (omega arith)

  pub length_put : length (put_part xs a n ys) ≡ length xs
  unfolding put_part
  length_put = simp (length-append, length-take, length-drop) (omega arith)

  pub put_in : (j : ℕ) → j < n → get_or (put_part xs a n ys) (a + j) 0 ≡ get_or ys j 0
  unfolding put_part
  put_in j l =
      let e : a + j ≡ length (take a xs) + j = omega (arith, front) in
      ap (λ (i : ℕ). get_or (take a xs ++ (ys ++ drop (a + n) xs)) i 0) e
      ∙ get_or-append-add (take a xs) (ys ++ drop (a + n) xs) j 0
      ∙ get_or-append ys (drop (a + n) xs) 0 j (omega arith)

  pub put_off : (i : ℕ) → (i < a) ⊎ (a + n ≤ i) → get_or (put_part xs a n ys) i 0 ≡ get_or xs i 0
  unfolding put_part
  put_off i (inl l) = get_or-append (take a xs) (ys ++ drop (a + n) xs) 0 i (omega (arith, front)) ∙ get_or-take a xs i 0 l
  put_off i (inr l) =
      let k = i - (a + n) in
      let e : i ≡ length (take a xs) + (length ys + k) = omega (arith, front) in
      let g : a + n + k ≡ i = omega arith in
      ap (λ (i : ℕ). get_or (take a xs ++ (ys ++ drop (a + n) xs)) i 0) e
      ∙ get_or-append-add (take a xs) (ys ++ drop (a + n) xs) (length ys + k) 0
      ∙ get_or-append-add ys (drop (a + n) xs) k 0
      ∙ get_or-drop (a + n) xs k 0
      ∙ ap (λ (i : ℕ). get_or xs i 0) g

  pub part_put : take n (drop a (put_part xs a n ys)) ≡ ys
  unfolding put_part
  part_put = ap (take n) (drop_at (take a xs) (ys ++ drop (a + n) xs) a front) ∙ take_at ys (drop (a + n) xs) n fits

-- ---- one slot of width m

module _ (xs : List ℕ) (m r : ℕ) (ys : List ℕ) (fits : length ys ≡ m) (room : r * m + m ≤ length xs) where
  pub slot_put : take m (drop (r * m) (put_part xs (r * m) m ys)) ≡ ys
  slot_put = part_put xs (r * m) m ys fits room

  slot_off : (r' : ℕ) → r' ≢ r → (j : ℕ) → j < m → get_or (put_part xs (r * m) m ys) (r' * m + j) 0 ≡ get_or xs (r' * m + j) 0
  slot_off r' d j l = put_off xs (r * m) m ys fits room (r' * m + j) (slot_apart m r r' j l d)

  -- every other slot is as it was
  pub slot_kept : (r' : ℕ) → r' ≢ r → take m (drop (r' * m) (put_part xs (r * m) m ys)) ≡ take m (drop (r' * m) xs)
  slot_kept r' d =
      let n = length_put xs (r * m) m ys fits room in
      ext_get_or 0 (take m (drop (r' * m) (put_part xs (r * m) m ys))) (take m (drop (r' * m) xs))
      (simp (length-take, length-drop) (omega arith))
      (λ j l.
      let s : j < m = omega (arith, length-take m (drop (r' * m) (put_part xs (r * m) m ys))) in
      get_or-take m (drop (r' * m) (put_part xs (r * m) m ys)) j 0 s
      ∙ get_or-drop (r' * m) (put_part xs (r * m) m ys) j 0
      ∙ slot_off r' d j s
      ∙ sym (get_or-take m (drop (r' * m) xs) j 0 s ∙ get_or-drop (r' * m) xs j 0))

  pub zero_kept : (r' : ℕ) → r' ≢ r → AllZero xs (r' * m) m → AllZero (put_part xs (r * m) m ys) (r' * m) m
  zero_kept r' d z j l = slot_off r' d j l ∙ z j l

-- a slot that is filled with zeros
pub zero_put : (xs : List ℕ) (m r : ℕ) → r * m + m ≤ length xs → AllZero (put_part xs (r * m) m (replicate m 0)) (r * m) m
zero_put xs m r room j l = put_in xs (r * m) m (replicate m 0) (length-replicate m 0) room j l ∙ get_or-replicate m j 0 0 l
