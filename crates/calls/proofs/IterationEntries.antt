-- The ids that a run over the entries writes, on memory that follows the layout: an entry's part has its chunk's members in order, and all entries have them all. Assumes nothing.
use mathlib.Core.Path.{◌≡◌, refl, sym, ap, ap₂, ◌∙◌}
use mathlib.Core.Logic.{◌⊎◌, inl, inr}
use mathlib.Core.Bool.{Bool, true, false, cond}
use mathlib.Core.List.{List, [], ◌++◌}
use Prim.Native.Nat.{ℕ, zero, suc, ◌+◌, ◌-◌, ◌*◌, ◌/◌, ◌^◌, ◌≤◌, ◌<◌, min}
use native.Mathlib.Nat.{mod-lt, div-add-mod', mul-le-mul_right}
use native.Mathlib.Omega.{arith}
use lib.IntN.{ℤ}
use lib.ListN.{length, length-append}
use lib.Dec.{ltb}
use borrow.Author.Tests.{ltb-true, ltb-false, lt-ltb}
use Rattle.sums.specs.Members.{members_in, plus, fill, fill_to}
use Rattle.sums.proofs.Sums.{last_or}
use Rattle.sums.proofs.Members.{members_none, members_split, members_plus, fill_length, fill_full, fill_then}
use Rattle.sparse.proofs.Listed.{offsets_members}
use Rattle.dense.specs.Bits.{is_set}
use Rattle.document.specs.Sizes.{top, last_chunk}
use Rattle.document.specs.Iteration.{blank}
use Rattle.layout.specs.Mem.{Mem}
use Rattle.layout.specs.Sizes.{wide, head}
use Rattle.layout.specs.Places.{row_part, page_part}
use Rattle.layout.specs.Entries.{place_at}
use Rattle.layout.specs.Short.{spot_on}
use Rattle.layout.specs.Meaning.{offsets, holds}
use Rattle.layout.specs.Follows.{RowListed, Follows}
use Rattle.layout.specs.declared.place.Place.{Place}
use Rattle.layout.specs.declared.place.Place.TheVariants.{Absent, Sparse, Dense}
use Rattle.layout_laws.proofs.Sizes.{all_ids, wide_top, slot_inside}
use Rattle.layout_laws.proofs.Entries.{laid_ordered, chunk_below, chunk_rising}
use Rattle.layout_laws.proofs.Members.{listed_rising}
use Rattle.calls.specs.Reading.{spot_by}
use Rattle.calls.specs.Counts.{entries_of, word_by}
use Rattle.calls.specs.Range.{chunk_by, entry_from, clip_low}
use Rattle.calls.specs.Iteration.{Filled, to, bad, filled_by, filled_at, fill_entry, and_next, fill_run, fill_from}
use Rattle.calls.proofs.Clips.{clip_low_law}
use Rattle.calls.proofs.RangeEntries.{Entry, entry_id, some_ids, entry_spot, holds_entry, member_entry, from_cut}

-- ---- places of a record

filled_none : (ids : List ℤ) (k : ℕ) → k ≤ length ids → to ids k ≡ filled_by ids k []
unfolding fill
filled_none ids k l = let e : k ≡ min (length ids) (k + 0) = omega arith in ap (to ids) e

filled_full : (ids : List ℤ) (k : ℕ) (ns : List ℕ) → k ≡ length ids → to ids k ≡ filled_by ids k ns
filled_full ids k ns q =
    let e : k ≡ min (length ids) (k + length ns) = omega arith in
    ap₂ to (sym (fill_full ids k ns (omega arith))) e

-- one list after the other
filled_then : (ids : List ℤ) (k : ℕ) (xs ys : List ℕ) → filled_by (fill ids k xs) (fill_to ids k xs) ys ≡ filled_by ids k (xs ++ ys)
filled_then ids k xs ys =
    let e : min (length (fill ids k xs)) (min (length ids) (k + length xs) + length ys) ≡ min (length ids) (k + length (xs ++ ys)) =
    omega (arith, fill_length ids k xs, length-append xs ys) in
    ap₂ to (go (ltb (k + length xs) (length ids)) refl) e
  where
    go : (b : Bool) → ltb (k + length xs) (length ids) ≡ b → fill (fill ids k xs) (min (length ids) (k + length xs)) ys ≡ fill ids k (xs ++ ys)
    go true t =
        let l = ltb-true (k + length xs) (length ids) t in
        let e : min (length ids) (k + length xs) ≡ k + length xs = omega arith in
        ap (λ (j : ℕ). fill (fill ids k xs) j ys) e ∙ fill_then ids k xs ys
    go false t =
        let l = ltb-false (k + length xs) (length ids) t in
        let s = fill_length ids k xs in
        fill_full (fill ids k xs) (min (length ids) (k + length xs)) ys (omega arith)
        ∙ sym (sym (fill_then ids k xs ys) ∙ fill_full (fill ids k xs) (k + length xs) ys (omega arith))

-- ---- one place

filled_at_law : {x : Mem} → Follows x → (p : Place) → RowListed (head x) x.rows p → (b a : ℕ) (ids : List ℤ) (k : ℕ) → k ≤ length ids
    → filled_at x b a ids k (spot_on (head x) p) ≡ filled_by ids k (plus b (members_in (offsets (head x) x p) a (top (head x) - a)))
unfolding plus
filled_at_law {x} w Absent r b a ids k l =
    filled_none ids k l ∙ ap (λ (ns : List ℕ). filled_by ids k (plus b ns)) (sym (members_none (offsets (head x) x Absent) a (top (head x) - a) (λ j m n. refl)))
filled_at_law {x} w (Sparse i l) r b a ids k m =
    let row = row_part (head x) x.rows i in
    ap (λ (ns : List ℕ). filled_by ids k (plus b ns)) (offsets_members row l (top (head x)) a (listed_rising (head x) row l r) r.below)
filled_at_law {x} w (Dense p) r b a ids k m =
    let t = wide_top (head x) w.sizes in
    let e : 64 * wide (head x) ≡ top (head x) = omega arith in
    ap (λ (n : ℕ). filled_by ids k (plus b (members_in (is_set (page_part (head x) x.pages p)) a (n - a)))) e

-- ---- entries

-- the first id of entry e's chunk that is not below lo
abbrev start_at : Mem → ℕ → ℕ → ℕ
start_at x lo e = chunk_by x e * top (head x) + clip_low (top (head x)) lo (chunk_by x e)

-- its members from there on, and those of the n entries from e on
abbrev ids_at : Mem → ℕ → ℕ → List ℕ
ids_at x lo e = members_in (holds x) (start_at x lo e) (top (head x) - clip_low (top (head x)) lo (chunk_by x e))

unfoldable ids_of : Mem → ℕ → ℕ → ℕ → List ℕ
ids_of x lo zero e = []
ids_of x lo (suc n) e = ids_at x lo e ++ ids_of x lo n (suc e)

module _ {x : Mem} (w : Follows x) (lo : ℕ) where
  fill_entry_law : (e : ℕ) → e < entries_of x → (ids : List ℤ) (k : ℕ) → k ≤ length ids → fill_entry x lo e ids k ≡ filled_by ids k (ids_at x lo e)
  unfolding fill_entry
  fill_entry_law e l ids k m =
      let u = top (head x) in
      let c = chunk_by x e in
      let a = clip_low u lo c in
      let p = place_at (head x) x.table e in
      ap (λ (b : Bool). cond b (filled_at x (c * u) a ids k (spot_by x (word_by x e))) bad) (lt-ltb c (last_chunk (head x)) (chunk_below (head x) x.table (laid_ordered w) e l))
      ∙ ap (filled_at x (c * u) a ids k) (entry_spot w e l)
      ∙ filled_at_law w p (w.lists e l) (c * u) a ids k m
      ∙ ap (filled_by ids k) (members_plus (holds x) (offsets (head x) x p) (c * u) a (u - a) (λ j i n. sym (holds_entry w e j l (omega arith))))

  fill_run_law : (n e : ℕ) → e + n ≡ entries_of x → (ids : List ℤ) (k : ℕ) → length ids ≡ 64 → k ≤ 64 → fill_run x lo n e ids k ≡ filled_by ids k (ids_of x lo n e)
  unfolding fill_run ids_of
  fill_run_law zero e q ids k s m = filled_none ids k (omega arith)
  fill_run_law (suc n) e q ids k s m = go (ltb k 64) refl (fill_run_law n (suc e) (omega arith))
    where
      go : (b : Bool) → ltb k 64 ≡ b
          → ((ids : List ℤ) (k : ℕ) → length ids ≡ 64 → k ≤ 64 → fill_run x lo n (suc e) ids k ≡ filled_by ids k (ids_of x lo n (suc e)))
          → cond b (and_next (fill_entry x lo e ids k) (fill_run x lo n (suc e))) (to ids k) ≡ filled_by ids k (ids_at x lo e ++ ids_of x lo n (suc e))
      go true t r =
          ap (λ (f : Filled). and_next f (fill_run x lo n (suc e))) (fill_entry_law e (omega arith) ids k (omega arith))
          ∙ r (fill ids k (ids_at x lo e)) (fill_to ids k (ids_at x lo e)) (fill_length ids k (ids_at x lo e) ∙ s) (omega arith)
          ∙ filled_then ids k (ids_at x lo e) (ids_of x lo n (suc e))
      go false t r = filled_full ids k (ids_at x lo e ++ ids_of x lo n (suc e)) (let l = ltb-false k 64 t in omega arith)

  -- ---- all members, from id b on

  -- the entries before e are below b, and entry e's ids are not
  record Upto (e b : ℕ) : Type 0 where
    low : lo ≤ b
    before : (i : ℕ) → i < e → chunk_by x i * top (head x) + top (head x) ≤ b
    next : e < entries_of x → b ≤ start_at x lo e
    from : (i : ℕ) → e ≤ i → i < entries_of x → lo / top (head x) ≤ chunk_by x i

  start_inside : (e : ℕ) → lo / top (head x) ≤ chunk_by x e → clip_low (top (head x)) lo (chunk_by x e) < top (head x)
  start_inside e l = (clip_low_law (top (head x)) lo (chunk_by x e) (some_ids x) l).inside

  chunk_le : (e i : ℕ) → e ≤ i → i < entries_of x → chunk_by x e * top (head x) ≤ chunk_by x i * top (head x)
  chunk_le e i l m = go (last_or e i (omega arith))
    where
      go : (e < i) ⊎ (e ≡ i) → chunk_by x e * top (head x) ≤ chunk_by x i * top (head x)
      go (inl n) = let r = chunk_rising (head x) x.table (laid_ordered w) e i n m in mul-le-mul_right (top (head x)) (omega arith)
      go (inr n) = let r = ap (λ (j : ℕ). chunk_by x j * top (head x)) n in omega arith

  -- no member from b on before entry e's ids
  gap : (e b : ℕ) → Upto e b → (j : ℕ) → b ≤ j → (e < entries_of x → j < start_at x lo e) → holds x j ≡ false
  gap e b up j l m = go (holds x j) refl
    where
      by : (i : ℕ) → Entry x j i → (t : Bool) → ltb i e ≡ t → ⊥
      by i f true t =
          let a = up.before i (ltb-true i e t) in
          let q = entry_id f in
          let o = mod-lt j (some_ids x) in
          omega arith
      by i f false t =
          let n = ltb-false i e t in
          let h = f.there in
          let a = chunk_le e i n h in
          let q = entry_id f in
          let c = up.low in
          let d = (clip_low_law (top (head x)) lo (chunk_by x e) (some_ids x) (up.from e (omega arith) (omega arith))).first j (omega arith) (omega arith) in
          let g = m (omega arith) in
          omega arith

      go : (t : Bool) → holds x j ≡ t → t ≡ false
      go true h = let f = member_entry w j h in absurd (by f.0 f.1 (ltb f.0 e) refl)
      go false h = refl

  after : (e b : ℕ) → e < entries_of x → Upto e b → Upto (suc e) (chunk_by x e * top (head x) + top (head x))
  after e b l up =
      let s = start_inside e (up.from e (omega arith) l) in
      let n = up.next l in
      let a = up.low in
      record {
        low = omega arith;
        before = λ i m. earlier i (last_or i e m);
        next = λ m. let r = chunk_rising (head x) x.table (laid_ordered w) e (suc e) (omega arith) m in
            let t = slot_inside (chunk_by x e) (chunk_by x (suc e)) (top (head x)) r in
            omega arith;
        from = λ i m. up.from i (omega arith);
      }
    where
      earlier : (i : ℕ) → (i < e) ⊎ (i ≡ e) → chunk_by x i * top (head x) + top (head x) ≤ chunk_by x e * top (head x) + top (head x)
      earlier i (inl m) =
          let d = up.before i m in
          let s = start_inside e (up.from e (omega arith) l) in
          let n = up.next l in
          omega arith
      earlier i (inr m) = let d = ap (λ (j : ℕ). chunk_by x j * top (head x)) m in omega arith

  -- no chunk ends past 2^63
  ends : (e : ℕ) → e < entries_of x → chunk_by x e * top (head x) + top (head x) ≤ 2 ^ 63
  ends e l =
      let a = slot_inside (chunk_by x e) (last_chunk (head x)) (top (head x)) (chunk_below (head x) x.table (laid_ordered w) e l) in
      let b = all_ids (head x) w.sizes in
      omega arith

  ids_are : (n e b : ℕ) → e + n ≡ entries_of x → Upto e b → ids_of x lo n e ≡ members_in (holds x) b (2 ^ 63 - b)
  unfolding ids_of
  ids_are zero e b q up = sym (members_none (holds x) b (2 ^ 63 - b) (λ j l m. gap e b up j l (λ n. absurd (omega arith))))
  ids_are (suc n) e b q up =
      joined (chunk_by x e * top (head x)) (clip_low (top (head x)) lo (chunk_by x e)) (start_inside e (up.from e (omega arith) (omega arith)))
      (up.next (omega arith)) (ends e (omega arith)) (λ j l m. gap e b up j l (λ i. m))
      (ids_are n (suc e) (chunk_by x e * top (head x) + top (head x)) (omega arith) (after e b (omega arith) up))
    where
      -- nothing, then the entry's, then the rest
      joined : (c a : ℕ) → a < top (head x) → b ≤ c + a → c + top (head x) ≤ 2 ^ 63 → ((j : ℕ) → b ≤ j → j < c + a → holds x j ≡ false) → {rest : List ℕ}
          → rest ≡ members_in (holds x) (c + top (head x)) (2 ^ 63 - (c + top (head x)))
          → members_in (holds x) (c + a) (top (head x) - a) ++ rest ≡ members_in (holds x) b (2 ^ 63 - b)
      joined c a l m h none r =
          let u = top (head x) in
          let end = 2 ^ 63 - (c + u) in
          let p : 2 ^ 63 - b ≡ (c + a - b) + ((u - a) + end) = omega arith in
          let s : b + (c + a - b) ≡ c + a = omega arith in
          let t : c + a + (u - a) ≡ c + u = omega arith in
          ap (λ (ns : List ℕ). members_in (holds x) (c + a) (u - a) ++ ns) (r ∙ ap (λ (k : ℕ). members_in (holds x) k end) (sym t))
          ∙ sym
          (ap (members_in (holds x) b) p
          ∙ members_split (holds x) b (c + a - b) ((u - a) + end)
          ∙ ap₂ ◌++◌ (members_none (holds x) b (c + a - b) (λ j i k. none j i (omega arith))) (ap (λ (k : ℕ). members_in (holds x) k ((u - a) + end)) s)
          ∙ members_split (holds x) (c + a) (u - a) end)

  -- ---- the run

  pub fill_from_law : fill_from x lo ≡ filled_by blank 0 (members_in (holds x) lo (2 ^ 63 - lo))
  unfolding fill_from
  fill_from_law =
      let k = entry_from x (lo / top (head x)) in
      let cut = from_cut w (lo / top (head x)) in
      let q : k + (entries_of x - k) ≡ entries_of x = (let a = cut.fits in omega arith) in
      fill_run_law (entries_of x - k) k q blank 0 refl (omega arith)
      ∙ ap (filled_by blank 0) (ids_are (entries_of x - k) k lo q begins)
    where
      begins : Upto (entry_from x (lo / top (head x))) lo
      begins =
          let u = top (head x) in
          let cut = from_cut w (lo / u) in
          record {
            low = omega arith;
            before = λ i m. (let a = slot_inside (chunk_by x i) (lo / u) u (cut.before i m) in let d = div-add-mod' lo u in omega arith);
            next = λ m. (clip_low_law u lo (chunk_by x (entry_from x (lo / u))) (some_ids x) (cut.after (entry_from x (lo / u)) (omega arith) m)).above;
            from = cut.after;
          }
