-- What set-up writes: zeros at the front of each slice, and the sizes on top of the table's. Assumes nothing.
use mathlib.Core.Path.{◌≡◌, ◌∙◌, ap}
use mathlib.Core.List.{List, ◌∷◌, ◌++◌}
use Prim.Native.Nat.{ℕ, zero, suc, ◌*◌, ◌-◌, ◌≤◌}
use native.Mathlib.Omega.{arith}
use lib.ListN.{length, take, drop, replicate}
use Rattle.std.proofs.lemmas.List.{length-take-le}
use Rattle.document.specs.declared.sizes.Sizes.{Sizes}
use Rattle.layout.specs.Mem.{Mem, mem}
use Rattle.layout.specs.SetUp.{zeroed, fresh_table, fresh}
use Rattle.layout.specs.Sizes.{RoomIn, wide, blocks_of, table_size}

module _ (n : ℕ) (xs front : List ℕ) (l : n ≤ length xs) (e : front ≡ replicate (length (take n xs)) 0) where
  zeros : front ≡ replicate n 0
  zeros = e ∙ ap (λ (k : ℕ). replicate k 0) (length-take-le n xs l)

  pub front_zeroed : front ++ drop n xs ≡ zeroed n xs
  unfolding zeroed
  front_zeroed = ap (λ (ys : List ℕ). ys ++ drop n xs) zeros

drop_zeros : (j n : ℕ) (ys : List ℕ) → j ≤ n → drop j (replicate n 0 ++ ys) ≡ replicate (n - j) 0 ++ ys
drop_zeros zero n ys h = let e : n ≡ n - 0 = omega arith in ap (λ (k : ℕ). replicate k 0 ++ ys) e
drop_zeros (suc j) zero ys h = absurd (omega arith)
drop_zeros (suc j) (suc n) ys h = let e : n - j ≡ suc n - suc j = omega arith in drop_zeros j n ys (omega arith) ∙ ap (λ (k : ℕ). replicate k 0 ++ ys) e

pub table_fresh : (h : Sizes) (t front w : List ℕ) → table_size h ≤ length t → front ≡ replicate (length (take (table_size h) t)) 0
    → w ≡ h.s ∷ h.m ∷ h.d ∷ h.v ∷ h.r ∷ h.p ∷ drop 6 (front ++ drop (table_size h) t) → w ≡ fresh_table h t
unfolding fresh_table
table_fresh h t front w l e f =
    let z = drop_zeros 6 (table_size h) (drop (table_size h) t) (omega arith) in
    f ∙ ap (λ (xs : List ℕ). h.s ∷ h.m ∷ h.d ∷ h.v ∷ h.r ∷ h.p ∷ xs) (ap (λ (ys : List ℕ). drop 6 (ys ++ drop (table_size h) t)) (zeros (table_size h) t front l e) ∙ z)

-- the four slices, each written by itself
pub all_fresh : (h : Sizes) (x : Mem) (a b d : ℕ) (pages rows blocks table : List ℕ) → RoomIn h x → a ≡ h.p * wide h → b ≡ h.r * h.m → d ≡ h.p * blocks_of h
    → pages ≡ replicate (length (take a x.pages)) 0 → rows ≡ replicate (length (take b x.rows)) 0 → blocks ≡ replicate (length (take d x.blocks)) 0 → table ≡ fresh_table h x.table
    → mem (pages ++ drop a x.pages) (rows ++ drop b x.rows) (blocks ++ drop d x.blocks) table ≡ fresh h x
unfolding fresh
all_fresh h x a b d pages rows blocks table s ea eb ed ep er ek et =
    cc (front_zeroed a x.pages pages (omega (arith, ea, s.in_pages)) ep, front_zeroed b x.rows rows (omega (arith, eb, s.in_rows)) er, front_zeroed d x.blocks blocks (omega (arith, ed, s.in_blocks)) ek)
