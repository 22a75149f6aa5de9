-- Iteration to its end: record after record, each next one from the next start that the last gave.
use Rattle.std.specs.Prelude.{◌≡◌, true, false, List, [], ◌∷◌, ◌++◌, ℕ, ◌<◌, ℤ, pos, length, get_or, take}
use Rattle.std.specs.Int.Signed.{le_z, lt_z}
use Rattle.std.specs.Int.{w64}
use Rattle.std.proofs.Common.{SFits}
use Rattle.sums.specs.Ids.{Ids, has}
use Rattle.document.specs.Iteration.{listing}
use Rattle.document.specs.declared.answer.Listing.{Listing}

-- the records of calls from start on, none after one with the mark
unfoldable pub Begun : Ids → ℤ → List Listing → Type 0
Begun P start [] = Unit
Begun P start (r ∷ rs) = (r ≡ listing P start) × (r.end ≡ true → rs ≡ []) × (r.end ≡ false → Begun P r.next rs)

-- the same up to the first with the mark, which is the last
unfoldable pub Chain : Ids → ℤ → List Listing → Type 0
Chain P start [] = ⊥
Chain P start (r ∷ rs) = (r ≡ listing P start) × (r.end ≡ true → rs ≡ []) × (r.end ≡ false → Chain P r.next rs)

-- the ids of each, one record after the other
unfoldable pub listed_ids : List Listing → List ℤ
listed_ids [] = []
listed_ids (r ∷ rs) = take r.count r.ids ++ listed_ids rs

-- z is a member not below start
pub record MemberFrom (P : Ids) (start z : ℤ) : Type 0 where
  pub fits : SFits w64 z
  pub member : has P z ≡ true
  pub from : le_z start z ≡ true

-- zs are exactly these members, rising, so each once
pub record ListsFrom (P : Ids) (start : ℤ) (zs : List ℤ) : Type 0 where
  pub rising : (i j : ℕ) → i < j → j < length zs → lt_z (get_or zs i (pos 0)) (get_or zs j (pos 0)) ≡ true
  pub only : (i : ℕ) → i < length zs → MemberFrom P start (get_or zs i (pos 0))
  pub every : (z : ℤ) → MemberFrom P start z → (i : ℕ) × (i < length zs) × (get_or zs i (pos 0) ≡ z)
