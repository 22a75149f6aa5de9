-- A sparse chunk that is to get a member: its row, its word, its size. Assumes nothing.
use mathlib.Core.Path.{◌≡◌, sym, ap, subst, ◌∙◌}
use mathlib.Core.Bool.{Bool, cond}
use Prim.Native.Nat.{ℕ, ◌+◌, ◌*◌}
use lib.ListN.{length}
use lib.Dec.{ltb}
use Rattle.layout.specs.Mem.{Mem}
use Rattle.layout.specs.Sizes.{head}
use Rattle.layout.specs.Places.{row_part}
use Rattle.layout.specs.Entries.{word_of}
use Rattle.document.specs.State.{Kind, sparse, dense}
use Rattle.layout.specs.Meaning.{kinds, state_of}
use Rattle.layout.specs.Follows.{OwnsRow, Listed, RowListed, size_of}
use Rattle.layout.specs.declared.place.Place.TheVariants.{Sparse}
use Rattle.layout_laws.proofs.Sizes.{row_length}
use Rattle.layout_laws.proofs.Walked.{laid_walked}
use Rattle.layout_laws.proofs.Owners.{row_of_law}
use Rattle.layout_laws.proofs.Members.{listed_of}
use Rattle.document.specs.Insert.{chunk_size, grown}
use Rattle.calls.proofs.Plans.{sparse_word}
use Rattle.calls.proofs.Grown.{chunk_size_law}
use Rattle.calls.proofs.Wanted.{chunk, placed, Into, kind_of_law}

module _ {x : Mem} {n : ℕ} (i : Into x n) (r l : ℕ) (e : placed x n ≡ Sparse r l) where
  pub own_row : OwnsRow (head x) x.table (chunk x n) r l
  own_row = row_of_law (laid_walked i.follows) (chunk x n) r l e

  pub own_listed : Listed (head x) (row_part (head x) x.rows r) l
  own_listed = subst (RowListed (head x) x.rows) e (listed_of i.follows (chunk x n))

  pub own_long : length (row_part (head x) x.rows r) ≡ (head x).m
  own_long = row_length (head x) x i.follows.room r own_row.there

  pub own_word : word_of (head x) x.table (chunk x n) ≡ 1 + (2048 * r + l)
  own_word = sparse_word (word_of (head x) x.table (chunk x n)) r l e

  own_size : chunk_size (state_of x) (chunk x n) ≡ l
  own_size = chunk_size_law i.follows (chunk x n) ∙ ap (size_of (head x) x.pages) e

  -- sparse while there is room
  pub own_grown : (b : Bool) → ltb l (head x).m ≡ b → grown sparse (chunk_size (state_of x) (chunk x n)) (head x).m ≡ cond b sparse dense
  own_grown b p = ap (λ (k : ℕ). cond (ltb k (head x).m) sparse dense) own_size ∙ ap (λ (t : Bool). cond t sparse dense) p

  pub own_kind : (b : Bool) → ltb l (head x).m ≡ b → cond b sparse dense ≡ grown (kinds x (chunk x n)) (chunk_size (state_of x) (chunk x n)) (head x).m
  own_kind b p = sym (ap (λ (k : Kind). grown k (chunk_size (state_of x) (chunk x n)) (head x).m) (kind_of_law i (Sparse r l) e) ∙ own_grown b p)
