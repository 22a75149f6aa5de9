-- The step `paged`: chunk c into page p; a row that it had is free again and filled with zeros. Assumes nothing.
use mathlib.Core.Path.{◌≡◌, refl, sym, ap, subst, ◌∙◌}
use mathlib.Core.Logic.{◌⊎◌, inl, inr, ◌≢◌}
use mathlib.Core.List.{List}
use mathlib.Core.Bool.{not}
use Prim.Native.Nat.{ℕ, ◌+◌, ◌*◌, ◌≤◌, ◌<◌}
use native.Mathlib.Omega.{arith}
use lib.ListN.{length, length-replicate}
use lib.Dec.{eqb}
use mir.Val.{bool_byte}
use Rattle.sums.proofs.Counts.{count_ext}
use Rattle.dense.specs.Bits.{is_set}
use Rattle.layout.specs.Mem.{Mem}
use Rattle.layout.specs.Sizes.{wide, row_owners_at, page_owners_at, head, over_count, rows_from, pages_from}
use Rattle.layout.specs.Places.{decoded, encoded, has_row, has_page, row_part, row_owner, page_owner}
use Rattle.layout.specs.Entries.{entries, chunk_at, place_of}
use Rattle.layout.specs.Meaning.{offsets}
use Rattle.layout.specs.Follows.{AllZero, OwnsRow, Owned, RowListed, FullTo, Laid}
use Rattle.layout.specs.Tests.{rows_owned, pages_owned, Walked}
use Rattle.document.specs.declared.sizes.Sizes.{Sizes}
use Rattle.layout.specs.declared.place.Place.{Place}
use Rattle.layout.specs.declared.place.Place.TheVariants.{Absent, Sparse, Dense}
use Rattle.layout.proofs.Places.{decoded_encoded_dense}
use Rattle.layout_laws.proofs.Entries.{walked_ordered}
use Rattle.layout_laws.proofs.Owners.{page_of_law}
use Rattle.layout_laws.proofs.Short.{owned_of}
use Rattle.layout_laws.proofs.Walked.{laid_walked}
use Rattle.layout.specs.Writes.{put_part, put_word, put_row_owner, put_page_owner}
use Rattle.steps.specs.Steps.{left_owner, left_row, paged}
use Rattle.steps.specs.Effects.{PageFor, new_page, own_page, PagedOk, Becomes}
use Rattle.layout.proofs.Parts.{slot_in, length_put, slot_put, slot_kept, zero_kept, zero_put}
use Rattle.layout.proofs.Added.{same_or}
use Rattle.layout.proofs.Owners.{full_same, put_owner_off, put_owner_here, put_owner_full}
use Rattle.steps.proofs.Table.{Wrote, Worded, row_owner_set, page_owner_set}
use Rattle.steps.proofs.Words.{put_word_law}
use Rattle.steps.proofs.Slots.{entry_free, entry_none, taken, not_taken, used_change}
use Rattle.steps.proofs.Moves.{Untouched, Moved}
use Rattle.steps.proofs.Keeps.{Stepped, becomes}

-- ---- the place that chunk c leaves, its word being written already

module _ (h : Sizes) (x : Mem) (W : Walked x h) (c w : ℕ) (u : List ℕ) (worded : Worded h x.table u c w) where
  room_for : (r : ℕ) → r < h.r → r * h.m + h.m ≤ length x.rows
  room_for r l = slot_in h.m h.r r (length x.rows) l W.room.in_rows

  left_wrote : (q : Place) → Wrote h x.table (left_owner h u q) c w
  left_wrote Absent = worded.wrote
  left_wrote (Sparse r l) = row_owner_set h x.table u c w worded.wrote r 0
  left_wrote (Dense p) = worded.wrote

  left_rows_long : (q : Place) → Owned h x.table c q → length (left_row h x.rows q) ≡ length x.rows
  left_rows_long Absent o = refl
  left_rows_long (Sparse r l) o = length_put x.rows (r * h.m) h.m _ (length-replicate h.m _) (room_for r o.there)
  left_rows_long (Dense p) o = refl

  left_page : (q : Place) → Owned h x.table c q → (p : ℕ) → page_owner h (left_owner h u q) p ≡ page_owner h x.table p
  left_page Absent o p = worded.owners (page_owners_at h + p) (omega arith)
  left_page (Sparse r l) o p =
      let k = o.there in
      put_owner_off 9 (row_owners_at h) u r 0 (page_owners_at h + p) (omega arith) (omega arith) ∙ worded.owners (page_owners_at h + p) (omega arith)
  left_page (Dense j) o p = worded.owners (page_owners_at h + p) (omega arith)

  row_same : (j : ℕ) → row_owner h u j ≡ row_owner h x.table j
  row_same j = worded.owners (row_owners_at h + j) (omega arith)

  left_off : (r j : ℕ) → j ≢ r → row_owner h (put_row_owner h u r 0) j ≡ row_owner h x.table j
  left_off r j d = put_owner_off 9 (row_owners_at h) u r 0 (row_owners_at h + j) (omega arith) (omega arith) ∙ row_same j

  left_here : (r : ℕ) → r < h.r → row_owner h (put_row_owner h u r 0) r ≡ 0
  left_here r l = put_owner_here 9 (row_owners_at h) u r 0 (omega arith) (let n = worded.wrote.len in let m = W.room.in_table in omega arith)

  -- it is no other chunk's
  left_other : (q : Place) → Owned h x.table c q → (i j k : ℕ) → i ≢ c → OwnsRow h x.table i j k →
      (row_owner h (left_owner h u q) j ≡ row_owner h x.table j) × (row_part h (left_row h x.rows q) j ≡ row_part h x.rows j)
  left_other Absent o i j k d e = (row_same j, refl)
  left_other (Sparse r l) o i j k d e =
      let a = o.owner in
      let b = e.owner in
      let n : j ≢ r = λ q. d (let z = ap (row_owner h x.table) q in omega arith) in
      (left_off r j n, slot_kept x.rows h.m r _ (length-replicate h.m _) (room_for r o.there) j n)
  left_other (Dense p) o i j k d e = (row_same j, refl)

  left_free : ((r : ℕ) → r < h.r → row_owner h x.table r ≡ 0 → AllZero x.rows (r * h.m) h.m)
      → (q : Place) → Owned h x.table c q → (j : ℕ) → j < h.r → row_owner h (left_owner h u q) j ≡ 0 → AllZero (left_row h x.rows q) (j * h.m) h.m
  left_free was Absent o j m z = was j m (sym (row_same j) ∙ z)
  left_free was (Sparse r l) o j m z = go (same_or j r)
    where
      go : (j ≡ r) ⊎ (j ≢ r) → AllZero (left_row h x.rows (Sparse r l)) (j * h.m) h.m
      go (inl e) = subst (λ (i : ℕ). AllZero (left_row h x.rows (Sparse r l)) (i * h.m) h.m) (sym e) (zero_put x.rows h.m r (room_for r o.there))
      go (inr d) = zero_kept x.rows h.m r _ (length-replicate h.m _) (room_for r o.there) j d (was j m (sym (left_off r j d) ∙ z))
  left_free was (Dense p) o j m z = was j m (sym (row_same j) ∙ z)

  rows_alike : (t : List ℕ) → ((j : ℕ) → j < h.r → row_owner h t j ≡ row_owner h x.table j) → rows_owned h t ≡ rows_owned h x.table
  rows_alike t f = count_ext (λ (j : ℕ). not (eqb (row_owner h t j) 0)) (λ (j : ℕ). not (eqb (row_owner h x.table j) 0)) h.r (λ j m. ap (λ (v : ℕ). not (eqb v 0)) (f j m))

  left_count : (q : Place) → Owned h x.table c q → rows_owned h (left_owner h u q) + bool_byte (has_row q) ≡ rows_owned h x.table
  left_count Absent o = let a = rows_alike u (λ j m. row_same j) in omega arith
  left_count (Sparse r l) o =
      let a = used_change (row_owner h x.table) (row_owner h (put_row_owner h u r 0)) r h.r o.there (λ j m d. left_off r j d) in
      omega (arith, taken (row_owner h x.table r) c o.owner, not_taken (row_owner h (put_row_owner h u r 0) r) (left_here r o.there))
  left_count (Dense p) o = let a = rows_alike u (λ j m. row_same j) in omega arith

  rows_full : FullTo (row_owner h u) h.r (rows_from u)
  rows_full = full_same W.rows_full_to (worded.froms 9 (omega arith) (omega arith)) (λ j l. row_same j)

  -- a row that is left lowers the word
  left_full : (q : Place) → Owned h x.table c q → FullTo (row_owner h (left_owner h u q)) h.r (rows_from (left_owner h u q))
  left_full Absent o = rows_full
  left_full (Sparse r l) o =
      let n = worded.wrote.len in
      let m = W.room.in_table in
      put_owner_full 9 (row_owners_at h) u r 0 h.r (omega arith) o.there (omega arith) rows_full (λ d. absurd (d refl))
  left_full (Dense p) o = rows_full

  left_from : (q : Place) → pages_from (left_owner h u q) ≡ pages_from x.table
  left_from Absent = worded.froms 10 (omega arith) (omega arith)
  left_from (Sparse r l) = put_owner_off 9 (row_owners_at h) u r 0 10 (omega arith) (omega arith) ∙ worded.froms 10 (omega arith) (omega arith)
  left_from (Dense p) = worded.froms 10 (omega arith) (omega arith)

-- ---- the step

module _ (h : Sizes) (x : Mem) (W : Walked x h) (c : ℕ) (old : Place) (p : ℕ) (page : List ℕ) (old_is : old ≡ place_of h x.table c) (there : p < h.p)
    (long : length page ≡ wide h) (came : PageFor h x.table c old p) where
  w : ℕ
  w = encoded (Dense p)

  word_is : decoded w ≡ Dense p
  unfolding w
  word_is = decoded_encoded_dense p

  mine : Owned h x.table c old
  mine = subst (Owned h x.table c) (sym old_is) (owned_of W c)

  t : List ℕ
  t = put_word h x.table c w

  worded : Worded h x.table t c w
  unfolding t
  worded = put_word_law h x.table (walked_ordered W) W.room.in_table W.over_fits c w (λ none. free none came)
    where
      free : ((e : ℕ) → e < entries h x.table → chunk_at h x.table e ≢ c) → PageFor h x.table c old p → over_count x.table < h.v
      free none (new_page n o f) = entry_free h x.table c none (f (old_is ∙ entry_none h x.table c none))
      free none (own_page q) = absurd (let a = old_is ∙ entry_none h x.table c none in let z : ◌≡◌ {A = ℕ} 0 1 = cc in omega arith)

  y : Mem
  y = paged h x c old p page

  table_is : y.table ≡ put_page_owner h (left_owner h t old) p (c + 1)
  unfolding y t w paged
  table_is = refl

  inside : page_owners_at h + p < length (left_owner h t old)
  inside = let n = (left_wrote h x W c w t worded old).len in let m = W.room.in_table in omega arith

  owner_here : page_owner h y.table p ≡ c + 1
  owner_here = ap (λ (u : List ℕ). page_owner h u p) table_is ∙ put_owner_here 10 (page_owners_at h) (left_owner h t old) p (c + 1) (omega arith) inside

  page_off : (j : ℕ) → j ≢ p → page_owner h y.table j ≡ page_owner h x.table j
  page_off j d =
      ap (λ (u : List ℕ). page_owner h u j) table_is
      ∙ put_owner_off 10 (page_owners_at h) (left_owner h t old) p (c + 1) (page_owners_at h + j) (omega arith) (omega arith)
      ∙ left_page h x W c w t worded old mine j

  row_left : (j : ℕ) → j < h.r → row_owner h y.table j ≡ row_owner h (left_owner h t old) j
  row_left j m = ap (λ (u : List ℕ). row_owner h u j) table_is ∙ put_owner_off 10 (page_owners_at h) (left_owner h t old) p (c + 1) (row_owners_at h + j) (omega arith) (omega arith)

  room : p * wide h + wide h ≤ length x.pages
  room = slot_in (wide h) h.p p (length x.pages) there W.room.in_pages

  own_owner : old ≡ Dense p → page_owner h x.table p ≡ c + 1
  own_owner q = (page_of_law W c p (sym old_is ∙ q)).owner

  -- no other chunk has this page
  owner_was : (i : ℕ) → i ≢ c → page_owner h x.table p ≢ i + 1
  owner_was i d e = go came
    where
      go : PageFor h x.table c old p → ⊥
      go (new_page n o f) = let z = o.free in omega arith
      go (own_page q) = let o = own_owner q in d (omega arith)

  others : (i : ℕ) (q : Place) → i ≢ c → Owned h x.table i q → Untouched h x y q
  unfolding y paged
  others i Absent d o = tt
  others i (Sparse j k) d o = let e = left_other h x W c w t worded old mine i j k d o in (row_left j o.there ∙ e.0, e.1)
  others i (Dense j) d o =
      let n : j ≢ p = λ e. owner_was i d (ap (page_owner h x.table) (sym e) ∙ o.owner) in
      (page_off j n, slot_kept x.pages (wide h) p page long room j n)

  rows_count : rows_owned h y.table + bool_byte (has_row (place_of h x.table c)) ≡ rows_owned h x.table + bool_byte (has_row (decoded w))
  rows_count =
      let a = count_ext (λ (j : ℕ). not (eqb (row_owner h y.table j) 0)) (λ (j : ℕ). not (eqb (row_owner h (left_owner h t old) j) 0)) h.r (λ j m. ap (λ (v : ℕ). not (eqb v 0)) (row_left j m)) in
      let b = ap (λ (q : Place). bool_byte (has_row q)) old_is in
      let e = ap (λ (q : Place). bool_byte (has_row q)) word_is in
      omega (arith, left_count h x W c w t worded old mine)

  pages_change : pages_owned h y.table + bool_byte (not (eqb (page_owner h x.table p) 0)) ≡ pages_owned h x.table + bool_byte (has_page (decoded w))
  pages_change =
      let a = used_change (page_owner h x.table) (page_owner h y.table) p h.p there (λ j m d. page_off j d) in
      let b = ap (λ (q : Place). bool_byte (has_page q)) word_is in
      omega (arith, taken (page_owner h y.table p) c owner_here)

  pages_count : pages_owned h y.table + bool_byte (has_page (place_of h x.table c)) ≡ pages_owned h x.table + bool_byte (has_page (decoded w))
  pages_count = go came
    where
      go : PageFor h x.table c old p → pages_owned h y.table + bool_byte (has_page (place_of h x.table c)) ≡ pages_owned h x.table + bool_byte (has_page (decoded w))
      go (new_page n o f) =
          let a = ap (λ (q : Place). bool_byte (has_page q)) old_is in
          let b = ap bool_byte n in
          omega (arith, pages_change, not_taken (page_owner h x.table p) o.free)
      go (own_page q) =
          let a = ap (λ (q : Place). bool_byte (has_page q)) (sym old_is ∙ q) in
          omega (arith, pages_change, taken (page_owner h x.table p) c (own_owner q))

  -- ---- nothing below the header's words is free

  rows_full_after : FullTo (row_owner h y.table) h.r (rows_from y.table)
  rows_full_after =
      full_same (left_full h x W c w t worded old mine)
      (ap (λ (u : List ℕ). rows_from u) table_is ∙ put_owner_off 10 (page_owners_at h) (left_owner h t old) p (c + 1) 9 (omega arith) (omega arith)) row_left

  pages_lower : page_owner h x.table p ≡ 0 → (j : ℕ) → j < p → page_owner h x.table j ≢ 0
  pages_lower z = go came
    where
      go : PageFor h x.table c old p → (j : ℕ) → j < p → page_owner h x.table j ≢ 0
      go (new_page n o f) = o.lower
      go (own_page q) = absurd (let a = own_owner q in omega arith)

  pages_full_after : FullTo (page_owner h y.table) h.p (pages_from y.table)
  pages_full_after =
      let u = left_owner h t old in
      let same : (j : ℕ) → page_owner h u j ≡ page_owner h x.table j = left_page h x W c w t worded old mine in
      let n = (left_wrote h x W c w t worded old).len in
      let m = W.room.in_table in
      subst (λ (v : List ℕ). FullTo (page_owner h v) h.p (pages_from v)) (sym table_is)
      (put_owner_full 10 (page_owners_at h) u p (c + 1) h.p (omega arith) there (omega arith)
      (full_same W.pages_full_to (left_from h x W c w t worded old) (λ j l. same j))
      (λ d z j l e. pages_lower (sym (same p) ∙ z) j l (sym (same j) ∙ e)))

  pub page_moved : Moved h x (paged h x c old p page) c (encoded (Dense p))
  unfolding y t w paged
  page_moved =
      record {
        wrote = page_owner_set h x.table (left_owner h t old) c w (left_wrote h x W c w t worded old) p (c + 1);
        some = omega arith;
        rows_long = left_rows_long h x W c w t worded old mine;
        pages_long = length_put x.pages (p * wide h) (wide h) page long room;
        blocks = refl;
        owned = subst (Owned h y.table c) (sym word_is) (record { there = there; owner = owner_here });
        others = others;
        rows_used = rows_count;
        pages_used = pages_count;
        rows_full_to = rows_full_after;
        pages_full_to = pages_full_after;
      }

  -- every other page has the owner that it had
  pub paged_owner : (j : ℕ) → j ≢ p → page_owner h (paged h x c old p page).table j ≡ page_owner h x.table j
  unfolding y
  paged_owner = page_off

  -- ---- where free slots hold zeros

  module _ (L : Laid x h) where
    rows_free : (j : ℕ) → j < h.r → row_owner h y.table j ≡ 0 → AllZero y.rows (j * h.m) h.m
    unfolding y paged
    rows_free j m z = left_free h x W c w t worded L.free_rows old mine j m (sym (row_left j m) ∙ z)

    pages_free : (j : ℕ) → j < h.p → page_owner h y.table j ≡ 0 → AllZero y.pages (j * wide h) (wide h)
    unfolding y paged
    pages_free j m z = go (same_or j p)
      where
        go : (j ≡ p) ⊎ (j ≢ p) → AllZero (put_part x.pages (p * wide h) (wide h) page) (j * wide h) (wide h)
        go (inl e) = absurd (let a = ap (page_owner h y.table) e in let b = owner_here in omega arith)
        go (inr d) = zero_kept x.pages (wide h) p page long room j d (L.free_pages j m (sym (page_off j d) ∙ z))

    pub page_stepped : Stepped h x (paged h x c old p page) c (encoded (Dense p))
    unfolding y w
    page_stepped =
        record {
          moved = page_moved;
          listed = subst (RowListed h y.rows) (sym word_is) tt;
          free_rows = rows_free;
          free_pages = pages_free;
        }

  page_offsets : (o : ℕ) → offsets h (paged h x c old p page) (Dense p) o ≡ is_set page o
  unfolding paged
  page_offsets o = ap (λ (u : List ℕ). is_set u o) (slot_put x.pages (wide h) p page long room)

-- the layout is kept, and chunk c is dense with the bits of the list
pub paged_becomes : (x : Mem) (c : ℕ) (old : Place) (p : ℕ) (page : List ℕ) → PagedOk x c old p page → Becomes x (paged (head x) x c old p page) c (Dense p) (is_set page)
paged_becomes x c old p page k =
    let L = k.set.follows in
    let W = laid_walked L in
    becomes x (paged (head x) x c old p page) c (encoded (Dense p)) (Dense p) (is_set page) k.set
    (page_stepped (head x) x W c old p page k.old_is k.there k.long k.came L)
    (decoded_encoded_dense p)
    (page_offsets (head x) x W c old p page k.old_is k.there k.long k.came)
