-- The step `rowed`: chunk c into row r. Assumes nothing.
use mathlib.Core.Path.{◌≡◌, refl, sym, ap, subst, ◌∙◌}
use mathlib.Core.Logic.{◌⊎◌, inl, inr, ◌≢◌}
use mathlib.Core.List.{List}
use mathlib.Core.Bool.{false, not}
use Prim.Native.Nat.{ℕ, ◌+◌, ◌*◌, ◌≤◌, ◌<◌}
use native.Mathlib.Omega.{arith}
use lib.ListN.{length, get_or}
use lib.Dec.{eqb}
use mir.Val.{bool_byte}
use Rattle.sums.proofs.Counts.{count_ext}
use Rattle.sparse.specs.Row.{row_of, member}
use Rattle.layout.specs.Mem.{Mem}
use Rattle.layout.specs.Sizes.{wide, row_owners_at, page_owners_at, head, over_count, rows_from, pages_from}
use Rattle.layout.specs.Places.{decoded, encoded, has_row, has_page, row_owner, page_owner}
use Rattle.layout.specs.Entries.{entries, chunk_at, place_of}
use Rattle.layout.specs.Meaning.{offsets}
use Rattle.layout.specs.Follows.{AllZero, Owned, Listed, RowListed, FullTo, Laid}
use Rattle.document.specs.declared.sizes.Sizes.{Sizes}
use Rattle.layout.specs.declared.place.Place.{Place}
use Rattle.layout.specs.declared.place.Place.TheVariants.{Absent, Sparse, Dense}
use Rattle.layout.proofs.Places.{decoded_encoded_sparse}
use Rattle.layout_laws.proofs.Entries.{walked_ordered}
use Rattle.layout_laws.proofs.Owners.{row_of_law}
use Rattle.layout_laws.proofs.Walked.{laid_walked}
use Rattle.layout.specs.Writes.{put_word, put_row_owner, put_row}
use Rattle.steps.specs.Steps.{rowed}
use Rattle.steps.specs.Effects.{RowFor, new_row, own_row, RowedOk, Becomes}
use Rattle.layout.proofs.Parts.{slot_in, length_put, slot_put, slot_kept, zero_kept}
use Rattle.layout.proofs.Added.{same_or}
use Rattle.layout.proofs.Owners.{full_same, put_owner_off, put_owner_here, put_owner_full}
use Rattle.steps.proofs.Table.{Worded, row_owner_set}
use Rattle.steps.proofs.Words.{put_word_law}
use Rattle.steps.proofs.Slots.{entry_free, entry_none, taken, not_taken, used_change}
use Rattle.steps.proofs.Moves.{Untouched, Moved}
use Rattle.steps.proofs.Keeps.{Stepped, becomes}
use Rattle.layout.specs.Tests.{rows_owned, pages_owned, Walked}

module _ (h : Sizes) (x : Mem) (W : Walked x h) (c r l : ℕ) (row : List ℕ) (there : r < h.r) (some : 1 ≤ l) (short : l ≤ h.m) (long : length row ≡ h.m) (came : RowFor h x.table c r) where
  -- the word, and the table with it
  w : ℕ
  w = encoded (Sparse r l)

  word_is : decoded w ≡ Sparse r l
  unfolding w
  word_is = let z = W.sizes in decoded_encoded_sparse r l (omega arith) (omega arith)

  worded : Worded h x.table (put_word h x.table c w) c w
  worded = put_word_law h x.table (walked_ordered W) W.room.in_table W.over_fits c w (λ none. free none came)
    where
      free : ((e : ℕ) → e < entries h x.table → chunk_at h x.table e ≢ c) → RowFor h x.table c r → over_count x.table < h.v
      free none (new_row a o f) = entry_free h x.table c none f
      free none (own_row k q) = absurd (let a = entry_none h x.table c none in let z : ◌≡◌ {A = ℕ} 0 1 = cc in omega arith)

  y : Mem
  y = rowed h x c r l row

  table_is : y.table ≡ put_row_owner h (put_word h x.table c w) r (c + 1)
  unfolding y w rowed
  table_is = refl

  rows_are : y.rows ≡ put_row h x.rows r row
  unfolding y rowed
  rows_are = refl

  inside : row_owners_at h + r < length (put_word h x.table c w)
  inside = let n = worded.wrote.len in let m = W.room.in_table in omega arith

  owner_here : row_owner h y.table r ≡ c + 1
  owner_here = ap (λ (u : List ℕ). row_owner h u r) table_is ∙ put_owner_here 9 (row_owners_at h) (put_word h x.table c w) r (c + 1) (omega arith) inside

  owner_off : (i : ℕ) → row_owners_at h ≤ i → i ≢ row_owners_at h + r → get_or y.table i 0 ≡ get_or x.table i 0
  owner_off i m d = ap (λ (u : List ℕ). get_or u i 0) table_is ∙ put_owner_off 9 (row_owners_at h) (put_word h x.table c w) r (c + 1) i (omega arith) d ∙ worded.owners i m

  row_off : (j : ℕ) → j ≢ r → row_owner h y.table j ≡ row_owner h x.table j
  row_off j d = owner_off (row_owners_at h + j) (omega arith) (omega arith)

  page_same : (p : ℕ) → page_owner h y.table p ≡ page_owner h x.table p
  page_same p = owner_off (page_owners_at h + p) (omega arith) (omega arith)

  room : r * h.m + h.m ≤ length x.rows
  room = slot_in h.m h.r r (length x.rows) there W.room.in_rows

  own_owner : (k : ℕ) → place_of h x.table c ≡ Sparse r k → row_owner h x.table r ≡ c + 1
  own_owner k q = (row_of_law W c r k q).owner

  -- no other chunk has this row
  owner_was : (i : ℕ) → i ≢ c → row_owner h x.table r ≢ i + 1
  owner_was i d e = go came
    where
      go : RowFor h x.table c r → ⊥
      go (new_row a o f) = let z = o.free in omega arith
      go (own_row k q) = let o = own_owner k q in d (omega arith)

  others : (i : ℕ) (q : Place) → i ≢ c → Owned h x.table i q → Untouched h x y q
  unfolding y rowed
  others i Absent d o = tt
  others i (Sparse j k) d o =
      let n : j ≢ r = λ e. owner_was i d (ap (row_owner h x.table) (sym e) ∙ o.owner) in
      (row_off j n, slot_kept x.rows h.m r row long room j n)
  others i (Dense p) d o = (page_same p, refl)

  rows_change : rows_owned h y.table + bool_byte (not (eqb (row_owner h x.table r) 0)) ≡ rows_owned h x.table + bool_byte (has_row (decoded w))
  rows_change =
      let a = used_change (row_owner h x.table) (row_owner h y.table) r h.r there (λ j m d. row_off j d) in
      let b = ap (λ (q : Place). bool_byte (has_row q)) word_is in
      omega (arith, taken (row_owner h y.table r) c owner_here)

  rows_count : rows_owned h y.table + bool_byte (has_row (place_of h x.table c)) ≡ rows_owned h x.table + bool_byte (has_row (decoded w))
  rows_count = go came
    where
      go : RowFor h x.table c r → rows_owned h y.table + bool_byte (has_row (place_of h x.table c)) ≡ rows_owned h x.table + bool_byte (has_row (decoded w))
      go (new_row q o f) = let a = ap (λ (q : Place). bool_byte (has_row q)) q in omega (arith, rows_change, not_taken (row_owner h x.table r) o.free)
      go (own_row k q) =
          let a = ap (λ (q : Place). bool_byte (has_row q)) q in
          omega (arith, rows_change, taken (row_owner h x.table r) c (own_owner k q))

  not_dense : has_page (place_of h x.table c) ≡ false
  not_dense = go came
    where
      go : RowFor h x.table c r → has_page (place_of h x.table c) ≡ false
      go (new_row q o f) = ap has_page q
      go (own_row k q) = ap has_page q

  pages_count : pages_owned h y.table + bool_byte (has_page (place_of h x.table c)) ≡ pages_owned h x.table + bool_byte (has_page (decoded w))
  pages_count =
      let a = count_ext (λ (p : ℕ). not (eqb (page_owner h y.table p) 0)) (λ (p : ℕ). not (eqb (page_owner h x.table p) 0)) h.p (λ p m. ap (λ (v : ℕ). not (eqb v 0)) (page_same p)) in
      let b = ap bool_byte not_dense in
      let e = ap (λ (q : Place). bool_byte (has_page q)) word_is in
      omega arith

  -- ---- nothing below the header's words is free

  rows_lower : row_owner h x.table r ≡ 0 → (j : ℕ) → j < r → row_owner h x.table j ≢ 0
  rows_lower z = go came
    where
      go : RowFor h x.table c r → (j : ℕ) → j < r → row_owner h x.table j ≢ 0
      go (new_row q o f) = o.lower
      go (own_row k q) = absurd (let a = own_owner k q in omega arith)

  rows_full : FullTo (row_owner h y.table) h.r (rows_from y.table)
  rows_full =
      let u = put_word h x.table c w in
      let same : (j : ℕ) → row_owner h u j ≡ row_owner h x.table j = λ j. worded.owners (row_owners_at h + j) (omega arith) in
      let n = worded.wrote.len in
      let m = W.room.in_table in
      subst (λ (t : List ℕ). FullTo (row_owner h t) h.r (rows_from t)) (sym table_is)
      (put_owner_full 9 (row_owners_at h) u r (c + 1) h.r (omega arith) there (omega arith)
      (full_same W.rows_full_to (worded.froms 9 (omega arith) (omega arith)) (λ j l. same j))
      (λ d z j l e. rows_lower (sym (same r) ∙ z) j l (sym (same j) ∙ e)))

  pages_full : FullTo (page_owner h y.table) h.p (pages_from y.table)
  pages_full =
      full_same W.pages_full_to
      (ap (λ (u : List ℕ). pages_from u) table_is ∙ put_owner_off 9 (row_owners_at h) (put_word h x.table c w) r (c + 1) 10 (omega arith) (omega arith)
      ∙ worded.froms 10 (omega arith) (omega arith)) (λ j l. page_same j)

  pub row_moved : Moved h x (rowed h x c r l row) c (encoded (Sparse r l))
  unfolding y w rowed
  row_moved =
      record {
        wrote = row_owner_set h x.table (put_word h x.table c w) c w worded.wrote r (c + 1);
        some = omega arith;
        rows_long = length_put x.rows (r * h.m) h.m row long room;
        pages_long = refl;
        blocks = refl;
        owned = subst (Owned h y.table c) (sym word_is) (record { there = there; some = some; short = short; owner = owner_here });
        others = others;
        rows_used = rows_count;
        pages_used = pages_count;
        rows_full_to = rows_full;
        pages_full_to = pages_full;
      }

  -- every other row has the owner that it had
  pub rowed_owner : (j : ℕ) → j ≢ r → row_owner h (rowed h x c r l row).table j ≡ row_owner h x.table j
  unfolding y
  rowed_owner = row_off

  -- ---- where rows are listed and free slots hold zeros

  module _ (L : Laid x h) (listed : Listed h row l) where
    rows_free : (j : ℕ) → j < h.r → row_owner h y.table j ≡ 0 → AllZero y.rows (j * h.m) h.m
    unfolding y rowed
    rows_free j m z = go (same_or j r)
      where
        go : (j ≡ r) ⊎ (j ≢ r) → AllZero (put_row h x.rows r row) (j * h.m) h.m
        go (inl e) = absurd (let a = ap (row_owner h y.table) e in let b = owner_here in omega arith)
        go (inr d) = zero_kept x.rows h.m r row long room j d (L.free_rows j m (sym (row_off j d) ∙ z))

    pages_free : (p : ℕ) → p < h.p → page_owner h y.table p ≡ 0 → AllZero y.pages (p * wide h) (wide h)
    unfolding y rowed
    pages_free p m z = L.free_pages p m (sym (page_same p) ∙ z)

    pub row_stepped : Stepped h x (rowed h x c r l row) c (encoded (Sparse r l))
    unfolding y w rowed
    row_stepped =
        record {
          moved = row_moved;
          listed = subst (RowListed h y.rows) (sym word_is) (subst (λ (u : List ℕ). Listed h u l) (sym (slot_put x.rows h.m r row long room)) listed);
          free_rows = rows_free;
          free_pages = pages_free;
        }

  row_offsets : (o : ℕ) → offsets h (rowed h x c r l row) (Sparse r l) o ≡ member (row_of row) l o
  unfolding rowed
  row_offsets o = ap (λ (u : List ℕ). member (row_of u) l o) (slot_put x.rows h.m r row long room)

  row_word : decoded (encoded (Sparse r l)) ≡ Sparse r l
  unfolding w
  row_word = word_is

-- the layout is kept, and chunk c is sparse with the members of the list
pub rowed_becomes : (x : Mem) (c r l : ℕ) (row : List ℕ) → RowedOk x c r l row → Becomes x (rowed (head x) x c r l row) c (Sparse r l) (member (row_of row) l)
rowed_becomes x c r l row k =
    let L = k.set.follows in
    let W = laid_walked L in
    becomes x (rowed (head x) x c r l row) c (encoded (Sparse r l)) (Sparse r l) (member (row_of row) l) k.set
    (row_stepped (head x) x W c r l row k.there k.some k.short k.long k.came L k.listed)
    (row_word (head x) x W c r l row k.there k.some k.short k.long k.came)
    (row_offsets (head x) x W c r l row k.there k.some k.short k.long k.came)
