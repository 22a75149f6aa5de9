-- Each turn of either pass, on any two memories that passed the tests: they still would, the sizes stay, and no row or page that a pass takes from is freed. Assumes nothing.
use mathlib.Core.Path.{◌≡◌, refl, sym, ap, subst, ◌∙◌}
use mathlib.Core.Logic.{◌⊎◌, inl, inr, ◌≢◌}
use mathlib.Core.List.{List}
use mathlib.Core.Bool.{Bool, true, false, cond, ◌&&◌}
use Prim.Native.Nat.{ℕ, zero, suc, ◌+◌, ◌-◌, ◌*◌, ◌^◌, ◌≤◌, ◌<◌}
use native.Mathlib.Omega.{arith}
use lib.ListN.{length, take, length-take}
use lib.Dec.{leb, ltb}
use borrow.Author.Tests.{ltb-true, leb-true}
use Rattle.sums.proofs.Rules.{both}
use Rattle.sparse.specs.Edit.{copied}
use Rattle.sparse.specs.Union as sparse
use Rattle.sparse.proofs.Edits.{length_copied}
use Rattle.sparse.proofs.Unions.{length_union_ge, length_front}
use Rattle.dense.specs.Bits.{with_row}
use Rattle.dense.proofs.Bits.{length_row, length_or}
use Rattle.document.specs.Sizes.{top, last_chunk}
use Rattle.document.specs.State.{is_present}
use Rattle.document.specs.declared.sizes.Sizes.{Sizes}
use Rattle.layout.specs.Mem.{Mem}
use Rattle.layout.specs.Sizes.{wide, head}
use Rattle.layout.specs.Places.{encoded, has_page, row_part, page_part, row_owner, page_owner}
use Rattle.layout.specs.Entries.{place_of}
use Rattle.layout.specs.Meaning.{kind_of, kinds}
use Rattle.layout.specs.Follows.{OwnsRow, OwnsPage, Owned}
use Rattle.layout.specs.declared.place.Place.{Place}
use Rattle.layout.specs.declared.place.Place.TheVariants.{Absent, Sparse, Dense}
use Rattle.layout.proofs.Added.{same_or}
use Rattle.layout.proofs.Parts.{slot_in, length_put}
use Rattle.layout.proofs.Places.{decoded_encoded_sparse, decoded_encoded_dense}
use Rattle.layout_laws.proofs.Sizes.{row_length, page_length}
use Rattle.layout_laws.proofs.Owners.{row_of_law}
use Rattle.steps.specs.Steps.{rowed, paged}
use Rattle.steps.specs.Effects.{RowFor, PageFor}
use Rattle.steps.proofs.Moves.{Moved}
use Rattle.steps.proofs.Rowed.{row_moved, rowed_owner}
use Rattle.steps.proofs.Paged.{page_moved, paged_owner}
use Rattle.calls.specs.Insert.{free_row, free_page}
use Rattle.calls.specs.Prepare.{into_page}
use Rattle.layout.specs.Lowest.{LowestPage}
use Rattle.layout.proofs.FirstFree.{lowest}
use Rattle.unions.specs.Union.{standing, source, source_chunk, source_entries, rows_union, union_dense, page_of, with_source, joined_page, densely, dense_to, row_copied, row_joined, sparsely, sparse_to}
use Rattle.unions.specs.Joinable.{Joinable}
use Rattle.unions.proofs.Standing.{standing_is, source_is, source_of, chunk_in}
use Rattle.unions.proofs.Results.{same_s, same_m, same_last}
use Rattle.unions.proofs.Joins.{entry_room, head_moved, joins_moved, joins_pages}

-- memory z after a turn: slots that had an owner have one
pub record Turned (owner : Sizes → List ℕ → ℕ → ℕ) (x y z : Mem) : Type 0 where
  pub joins : Joinable z y
  pub sizes : head z ≡ head x
  pub taken : (j : ℕ) → owner (head x) x.table j ≢ 0 → owner (head x) z.table j ≢ 0

pub turned_none : {owner : Sizes → List ℕ → ℕ → ℕ} {x y : Mem} → Joinable x y → Turned owner x y x
turned_none J = record { joins = J; sizes = refl; taken = λ j d. d }

turned_if : {owner : Sizes → List ℕ → ℕ → ℕ} {x y z : Mem} (b : Bool) → Joinable x y → (b ≡ true → Turned owner x y z) → Turned owner x y (cond b z x)
turned_if true J f = f refl
turned_if false J f = turned_none J

-- ---- entry e of the source

module _ {x y : Mem} (J : Joinable x y) (e : ℕ) (l : e < source_entries y) where
  abbrev c : ℕ
  c = source_chunk y e

  abbrev here : Place
  here = place_of (head x) x.table c

  far : c < last_chunk (head x)
  far = let a = chunk_in J.there e l in let b = same_last x y J.shape in omega arith

  -- a chunk that it has is present there
  there : (q : Place) → source y e ≡ q → is_present (kind_of q) ≡ true → is_present (kinds y c) ≡ true
  unfolding kinds
  there q s p = ap (λ (i : Place). is_present (kind_of i)) (sym (source_of J.there e l) ∙ s) ∙ p

  owned : (q : Place) → source y e ≡ q → Owned (head y) y.table c q
  owned q s = subst (Owned (head y) y.table c) (sym (source_is J.there e l) ∙ s) (J.there.places e l)

  absent_here : here ≡ Absent → is_present (kinds x c) ≡ false
  unfolding kinds
  absent_here o = ap (λ (i : Place). is_present (kind_of i)) o

  -- ---- into a page

  module _ (has : is_present (kinds y c) ≡ true) where
    module _ (o : Place) (at : here ≡ o) (k : has_page o ≡ false) (page : List ℕ) (long : length page ≡ wide (head x)) (room : free_page x < (head x).p) where
      abbrev after : Mem
      after = paged (head x) x c o (free_page x) page

      low : LowestPage x (free_page x)
      low = lowest J.here.pages_full_to room

      came : PageFor (head x) x.table c o (free_page x)
      came = PageFor.new_page k low (λ a. entry_room J c far (absent_here (at ∙ a)) has)

      moved : Moved (head x) x after c (encoded (Dense (free_page x)))
      moved = page_moved (head x) x J.here c o (free_page x) page (sym at) room long came

      owns : OwnsPage (head x) after.table c (free_page x)
      owns = subst (Owned (head x) after.table c) (decoded_encoded_dense (free_page x)) moved.owned

      page_taken : (j : ℕ) → page_owner (head x) x.table j ≢ 0 → page_owner (head x) after.table j ≢ 0
      page_taken j d = go (same_or j (free_page x))
        where
          go : (j ≡ free_page x) ⊎ (j ≢ free_page x) → page_owner (head x) after.table j ≢ 0
          go (inl q) = absurd (d (ap (page_owner (head x) x.table) q ∙ low.free))
          go (inr n) = λ q. d (sym (paged_owner (head x) x J.here c o (free_page x) page (sym at) room long came j n) ∙ q)

      turned_paged : Turned page_owner x y after
      turned_paged = record {
        joins = joins_moved J c (encoded (Dense (free_page x))) moved far has;
        sizes = head_moved J c (encoded (Dense (free_page x))) moved far has;
        taken = page_taken;
      }

    blank_long : free_page x < (head x).p → length (page_part (head x) x.pages (free_page x)) ≡ wide (head x)
    blank_long room = page_length (head x) x J.here.room (free_page x) room

    into_turned : (o : Place) → here ≡ o → page_of x o < (head x).p → Turned page_owner x y (into_page (head x) x c (page_of x o) o)
    into_turned Absent at room = turned_paged Absent at refl (page_part (head x) x.pages (free_page x)) (blank_long room) room
    into_turned (Sparse r k) at room =
        turned_paged (Sparse r k) at refl (with_row (page_part (head x) x.pages (free_page x)) (row_part (head x) x.rows r) (top (head x)) k)
        (length_row (page_part (head x) x.pages (free_page x)) (row_part (head x) x.rows r) (top (head x)) k ∙ blank_long room) room
    into_turned (Dense p) at room = turned_none J

  -- the source's members, into page p of z
  module _ (z : Mem) (sizes : head z ≡ head x) (K : Joinable z y) (p : ℕ) (room : p < (head x).p) where
    abbrev was : List ℕ
    was = page_part (head z) z.pages p

    inside : p < (head z).p
    inside = let a = ap (λ (h : Sizes). h.p) sizes in omega arith

    was_long : length (page_part (head z) z.pages p) ≡ wide (head z)
    was_long = page_length (head z) z K.here.room p inside

    wide_same : wide (head y) ≡ wide (head z)
    wide_same = ap (λ (k : ℕ). 2 ^ (k - 6)) (sym (same_s z y K.shape))

    source_long : (o q : Place) → source y e ≡ q → length (with_source y o was q) ≡ wide (head z)
    source_long o Absent s = was_long
    source_long o (Sparse i k) s = length_row was (row_part (head y) y.rows i) (top (head y)) k ∙ was_long
    source_long Absent (Dense i) s = page_length (head y) y J.there.room i (owned (Dense i) s).there ∙ wide_same
    source_long (Sparse r k) (Dense i) s = length_or was (page_part (head y) y.pages i) ∙ was_long
    source_long (Dense j) (Dense i) s = length_or was (page_part (head y) y.pages i) ∙ was_long

    joined_joins : (o q : Place) → source y e ≡ q → Joinable (joined_page z y o p q) y
    joined_joins o q s =
        joins_pages K _
        (length_put z.pages (p * wide (head z)) (wide (head z)) (with_source y o was q) (source_long o q s)
        (slot_in (wide (head z)) (head z).p p (length z.pages) inside K.here.room.in_pages))

  joined_turned : (o q : Place) → here ≡ o → source y e ≡ q → is_present (kind_of q) ≡ true → page_of x o < (head x).p
      → Turned page_owner x y (joined_page (into_page (head x) x c (page_of x o) o) y o (page_of x o) q)
  joined_turned o q at s has room =
      let t = into_turned (there q s has) o at room in
      record { joins = joined_joins (into_page (head x) x c (page_of x o) o) t.sizes t.joins (page_of x o) room o q s; sizes = t.sizes; taken = t.taken }

  -- a chunk whose result is dense is one that the source has
  dense_has : (o q : Place) → union_dense x y o q ≡ true → is_present (kind_of q) ≡ true
  dense_has o Absent d = absurd cc
  dense_has o (Sparse i k) d = refl
  dense_has o (Dense p) d = refl

  dense_by : (o q : Place) → here ≡ o → source y e ≡ q → Turned page_owner x y (densely x y c o q)
  dense_by o q at s =
      turned_if (union_dense x y o q && ltb (page_of x o) (head x).p) J
      (λ b. let g = both (union_dense x y o q) (ltb (page_of x o) (head x).p) b in
      joined_turned o q at s (dense_has o q g.0) (ltb-true (page_of x o) (head x).p g.1))

  pub dense_turned : Turned page_owner x y (densely x y (source_chunk y e) (standing x (source_chunk y e)) (source y e))
  dense_turned = dense_by (standing x c) (source y e) (sym (standing_is J.here c)) refl

  -- ---- into a row

  m_same : (head x).m ≡ (head y).m
  m_same = same_m x y J.shape

  module _ (has : is_present (kinds y c) ≡ true) (r k : ℕ) (row : List ℕ) (room : r < (head x).r) (some : 1 ≤ k) (short : k ≤ (head x).m) (long : length row ≡ (head x).m)
      (came : RowFor (head x) x.table c r) where
    abbrev then : Mem
    then = rowed (head x) x c r k row

    row_step : Moved (head x) x then c (encoded (Sparse r k))
    row_step = row_moved (head x) x J.here c r k row room some short long came

    word_back : Owned (head x) then.table c (Sparse r k)
    word_back =
        let z = J.here.sizes in
        let a = z.r_high in
        let b = z.m_high in
        subst (Owned (head x) then.table c) (decoded_encoded_sparse r k (omega arith) (omega arith)) row_step.owned

    row_taken : (j : ℕ) → row_owner (head x) x.table j ≢ 0 → row_owner (head x) then.table j ≢ 0
    row_taken j d = go (same_or j r)
      where
        mine : row_owner (head x) then.table r ≡ c + 1
        mine = word_back.owner

        go : (j ≡ r) ⊎ (j ≢ r) → row_owner (head x) then.table j ≢ 0
        go (inl q) = λ z. (let a = ap (row_owner (head x) then.table) q in let b = mine in omega arith)
        go (inr n) = λ q. d (sym (rowed_owner (head x) x J.here c r k row room some short long came j n) ∙ q)

    turned_rowed : Turned row_owner x y then
    turned_rowed = record {
      joins = joins_moved J c (encoded (Sparse r k)) row_step far has;
      sizes = head_moved J c (encoded (Sparse r k)) row_step far has;
      taken = row_taken;
    }

  copied_turned : (i k : ℕ) → here ≡ Absent → source y e ≡ Sparse i k → Turned row_owner x y (row_copied x y c (free_row x) i k)
  copied_turned i k at s =
      turned_if (ltb (free_row x) (head x).r) J
      (λ b. let room = ltb-true (free_row x) (head x).r b in
      let o = owned (Sparse i k) s in
      let has = there (Sparse i k) s refl in
      let m = m_same in
      let short : k ≤ (head x).m = (let a = o.short in omega arith) in
      let src = row_part (head y) y.rows i in
      let dst = row_part (head x) x.rows (free_row x) in
      let a = row_length (head y) y J.there.room i o.there in
      let d = row_length (head x) x J.here.room (free_row x) room in
      turned_rowed has (free_row x) k (copied src dst k) room o.some short (length_copied src dst k (omega arith) (omega arith) ∙ d)
      (RowFor.new_row at (lowest J.here.rows_full_to room) (entry_room J c far (absent_here at) has)))

  joined_row : (r n i k : ℕ) → here ≡ Sparse r n → source y e ≡ Sparse i k → Turned row_owner x y (row_joined x y c r n i k)
  joined_row r n i k at s =
      turned_if (leb (length (rows_union x y r n i k)) (head x).m) J
      (λ b. let mine : OwnsRow (head x) x.table c r n = row_of_law J.here c r n at in
      let row = row_part (head x) x.rows r in
      let u = rows_union x y r n i k in
      let short = leb-true (length u) (head x).m b in
      let d = row_length (head x) x J.here.room r mine.there in
      let f = length-take n row in
      let g = length_union_ge (take n row) (take k (row_part (head y) y.rows i)) in
      let v = mine.some in
      let w = mine.short in
      turned_rowed (there (Sparse i k) s refl) r (length u) (sparse.on_front u row) mine.there (omega arith) short
      (length_front u row (omega arith) ∙ d) (RowFor.own_row n at))

  sparse_by : (o q : Place) → here ≡ o → source y e ≡ q → Turned row_owner x y (sparsely x y c o q)
  sparse_by o Absent at s = turned_none J
  sparse_by o (Dense p) at s = turned_none J
  sparse_by Absent (Sparse i k) at s = copied_turned i k at s
  sparse_by (Sparse r n) (Sparse i k) at s = joined_row r n i k at s
  sparse_by (Dense p) (Sparse i k) at s = turned_none J

  pub sparse_turned : Turned row_owner x y (sparsely x y (source_chunk y e) (standing x (source_chunk y e)) (source y e))
  sparse_turned = sparse_by (standing x c) (source y e) (sym (standing_is J.here c)) refl

-- ---- all turns

pub record Kept (x y z : Mem) : Type 0 where
  pub joins : Joinable z y
  pub sizes : head z ≡ head x

module _ {x y : Mem} (J : Joinable x y) where
  pub dense_kept : (e : ℕ) → e ≤ source_entries y → Kept x y (dense_to x y e)
  unfolding dense_to
  dense_kept zero l = record { joins = J; sizes = refl }
  dense_kept (suc e) l =
      let k = dense_kept e (omega arith) in
      let t = dense_turned k.joins e l in
      record { joins = t.joins; sizes = t.sizes ∙ k.sizes }

  pub sparse_kept : (e : ℕ) → e ≤ source_entries y → Kept x y (sparse_to x y e)
  unfolding sparse_to
  sparse_kept zero l = record { joins = J; sizes = refl }
  sparse_kept (suc e) l =
      let k = sparse_kept e (omega arith) in
      let t = sparse_turned k.joins e l in
      record { joins = t.joins; sizes = t.sizes ∙ k.sizes }
