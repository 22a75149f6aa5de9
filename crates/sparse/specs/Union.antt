-- The union of two sorted lists of offsets, as the Rust's `union_sorted` makes it, on any content.
use Rattle.std.specs.Prelude.{cond, List, [], ◌∷◌, ◌++◌, ℕ, ltb, length, drop}

-- the front that is made while both lists last, and the rest of the one that lasts longer
pub record Merged : Type 0 where
  pub front : List ℕ
  pub rest : List ℕ

abbrev pub left : List ℕ → Merged
left zs = record { front = []; rest = zs }

abbrev pub onto : ℕ → Merged → Merged
onto x m = record { front = x ∷ m.front; rest = m.rest }

-- the list x ∷ xs with another: the lesser head goes on, of two equal heads one; `later` is xs merged with what is left of the other
unfoldable pub merged_head : ℕ → List ℕ → (List ℕ → Merged) → List ℕ → Merged
merged_head x xs later [] = left (x ∷ xs)
merged_head x xs later (y ∷ ys) =
    cond (ltb x y) (onto x (later (y ∷ ys)))
    (cond (ltb y x) (onto y (merged_head x xs later ys))
    (onto x (later ys)))

unfoldable pub merged : List ℕ → List ℕ → Merged
merged [] ys = left ys
merged (x ∷ xs) ys = merged_head x xs (merged xs) ys

-- once one list is used up, the rest of the other is appended as it stands
unfoldable pub union : List ℕ → List ℕ → List ℕ
union xs ys = (merged xs ys).front ++ (merged xs ys).rest

-- zs written over the front of out
unfoldable pub on_front : List ℕ → List ℕ → List ℕ
on_front zs out = zs ++ drop (length zs) out
