-- A turn of the second pass: a chunk whose result is sparse takes a row, or stays in its own, with the source's members. Assumes nothing.
use mathlib.Core.Path.{◌≡◌, sym, ap, subst, ◌∙◌}
use mathlib.Core.List.{List}
use mathlib.Core.Bool.{Bool, true, false, cond, ◌||◌}
use Prim.Native.Nat.{ℕ, ◌+◌, ◌-◌, ◌≤◌, ◌<◌}
use native.Mathlib.Omega.{arith}
use lib.ListN.{length, get_or}
use borrow.Author.Tests.{lt-ltb, le-leb}
use Rattle.sparse.specs.Row.{row_of, member}
use Rattle.sparse.specs.Edit.{copied}
use Rattle.sparse.specs.Union.{on_front}
use Rattle.sparse.proofs.Rows.{member_ext}
use Rattle.sparse.proofs.Edits.{length_copied, copied_first, copied_beyond}
use Rattle.sparse.proofs.Unions.{length_union_ge, front_at, front_past, length_front}
use Rattle.document.specs.Sizes.{last_chunk}
use Rattle.document.specs.Union.{same_shape}
use Rattle.layout.specs.Mem.{Mem}
use Rattle.layout.specs.Sizes.{head}
use Rattle.layout.specs.Places.{row_part}
use Rattle.layout.specs.Entries.{place_of}
use Rattle.layout.specs.Meaning.{offsets, ranked}
use Rattle.layout.specs.Follows.{OwnsRow, Listed, RowListed, Follows}
use Rattle.layout.specs.declared.place.Place.TheVariants.{Absent, Sparse}
use Rattle.layout_laws.proofs.Sizes.{row_length}
use Rattle.layout_laws.proofs.Members.{listed_of}
use Rattle.layout_laws.proofs.Owners.{row_of_law, free_row_clear}
use Rattle.layout_laws.proofs.Walked.{laid_walked}
use Rattle.steps.specs.Steps.{rowed}
use Rattle.steps.specs.Effects.{Open, EntryFor, RowFor, Becomes}
use Rattle.steps.proofs.Rowed.{rowed_becomes}
use Rattle.calls.specs.Insert.{free_row}
use Rattle.layout.specs.Lowest.{LowestRow}
use Rattle.layout.proofs.FirstFree.{lowest}
use Rattle.unions.specs.Union.{rows_union, sparsely}
use Rattle.unions.proofs.Results.{same_m, same_top, offsets_of, offsets_length, rows_rise, rows_below, rows_among}
use Rattle.unions.proofs.Stepwise.{becomes_as}

-- ---- a chunk's row

module _ {x : Mem} (w : Follows x) (c r l : ℕ) (e : place_of (head x) x.table c ≡ Sparse r l) where
  abbrev row : List ℕ
  row = row_part (head x) x.rows r

  pub owns_row : OwnsRow (head x) x.table c r l
  owns_row = row_of_law (laid_walked w) c r l e

  pub row_long : length (row_part (head x) x.rows r) ≡ (head x).m
  row_long = row_length (head x) x w.room r owns_row.there

  pub row_listed : Listed (head x) (row_part (head x) x.rows r) l
  row_listed = subst (RowListed (head x) x.rows) e (listed_of w c)

-- ---- the turn

module _ {x y : Mem} (w : Follows x) (mode : ranked x ≡ false) (v : Follows y) (same : same_shape (head x) (head y) ≡ true)
    (c : ℕ) (far : c < last_chunk (head x)) (i k : ℕ) (from : place_of (head y) y.table c ≡ Sparse i k) where
  abbrev src : List ℕ
  src = row_part (head y) y.rows i

  opened : Open x c
  opened = record { follows = w; mode = mode; chunk = far }

  -- ---- an absent chunk: the source's row is copied

  module _ (at : place_of (head x) x.table c ≡ Absent) (there : free_row x < (head x).r) (entry : EntryFor (head x) x.table c) where
    abbrev free : List ℕ
    free = row_part (head x) x.rows (free_row x)

    abbrev new : List ℕ
    new = copied src free k

    low : LowestRow x (free_row x)
    low = lowest w.rows_full_to there

    free_long : length free ≡ (head x).m
    free_long = row_length (head x) x w.room (free_row x) there

    short : k ≤ (head x).m
    short = let s = (owns_row v c i k from).short in let e = same_m x y same in omega arith

    in_src : k ≤ length src
    in_src = let s = (owns_row v c i k from).short in let e = row_long v c i k from in omega arith

    in_free : k ≤ length free
    in_free = let s = short in let e = free_long in omega arith

    new_at : (j : ℕ) → j < k → get_or new j 0 ≡ get_or src j 0
    new_at = copied_first src free k in_src in_free

    new_listed : Listed (head x) new k
    new_listed = record {
      below = λ j l. let a = new_at j l in let b = (row_listed v c i k from).below j l in let t = same_top x y same in omega arith;
      rising = λ j l. let a = new_at j (omega arith) in let b = new_at (j + 1) l in let r = (row_listed v c i k from).rising j l in omega arith;
      rest = λ j l. copied_beyond src free k in_src in_free (k + j) (omega arith) ∙ free_row_clear w (free_row x) there low.free (k + j);
    }

    begun : Becomes x (rowed (head x) x c (free_row x) k new) c (Sparse (free_row x) k) (member (row_of new) k)
    begun =
        rowed_becomes x c (free_row x) k new
        (record {
          set = opened;
          there = there;
          some = (owns_row v c i k from).some;
          short = short;
          long = length_copied src free k in_src in_free ∙ free_long;
          listed = new_listed;
          came = RowFor.new_row at low entry;
        })

    pub copied_turn : Becomes x (sparsely x y c Absent (Sparse i k)) c (Sparse (free_row x) k) (offsets (head y) y (Sparse i k))
    copied_turn =
        subst (λ (t : Bool). Becomes x (cond t (rowed (head x) x c (free_row x) k new) x) c (Sparse (free_row x) k) (member (row_of src) k))
        (sym (lt-ltb (free_row x) (head x).r there))
        (becomes_as begun (member (row_of src) k) (λ n l. member_ext (row_of new) (row_of src) k n new_at))

  -- ---- a sparse one: the union of both lists, in its own row

  module _ (r l : ℕ) (at : place_of (head x) x.table c ≡ Sparse r l) (short : length (rows_union x y r l i k) ≤ (head x).m) where
    abbrev own : List ℕ
    own = row_part (head x) x.rows r

    abbrev all : List ℕ
    all = rows_union x y r l i k

    abbrev size : ℕ
    size = length all

    abbrev full : List ℕ
    full = on_front all own

    own_long : length own ≡ (head x).m
    own_long = row_long w c r l at

    least : l ≤ size
    least = let a = length_union_ge (offsets_of x r l) (offsets_of y i k) in let b = offsets_length w c r l at in omega arith

    full_at : (j : ℕ) → j < size → get_or full j 0 ≡ get_or all j 0
    full_at = front_at all own

    full_listed : Listed (head x) full size
    full_listed = record {
      below = λ j m. let a = full_at j m in let b = rows_below w v same c r l i k at from j m in omega arith;
      rising = λ j m.
          (let a = full_at j (omega arith) in
          let b = full_at (j + 1) m in
          let u = rows_rise w v same c r l i k at from j (j + 1) (omega arith) m in
          omega arith);
      rest = λ j m.
          (let g = least in
          let e : size + j ≡ l + (size + j - l) = omega arith in
          front_past all own (size + j) (omega arith) ∙ ap (λ (n : ℕ). get_or own n 0) e ∙ (row_listed w c r l at).rest (size + j - l) (omega arith));
    }

    members : (n : ℕ) → member (row_of full) size n ≡ (offsets (head x) x (Sparse r l) n || offsets (head y) y (Sparse i k) n)
    members n = member_ext (row_of full) (row_of all) size n full_at ∙ rows_among w v same c r l i k at from n

    fuller : Becomes x (rowed (head x) x c r size full) c (Sparse r size) (member (row_of full) size)
    fuller =
        rowed_becomes x c r size full
        (record {
          set = opened;
          there = (owns_row w c r l at).there;
          some = let g = least in let s = (owns_row w c r l at).some in omega arith;
          short = short;
          long = length_front all own (let e = own_long in omega arith) ∙ own_long;
          listed = full_listed;
          came = RowFor.own_row l at;
        })

    pub rows_turn : Becomes x (sparsely x y c (Sparse r l) (Sparse i k)) c (Sparse r (length (rows_union x y r l i k)))
        (λ (n : ℕ). offsets (head x) x (Sparse r l) n || offsets (head y) y (Sparse i k) n)
    rows_turn =
        subst
        (λ (t : Bool). Becomes x (cond t (rowed (head x) x c r size full) x) c (Sparse r size)
        (λ (n : ℕ). offsets (head x) x (Sparse r l) n || offsets (head y) y (Sparse i k) n))
        (sym (le-leb size (head x).m short))
        (becomes_as fuller (λ (n : ℕ). offsets (head x) x (Sparse r l) n || offsets (head y) y (Sparse i k) n) (λ n m. members n))
