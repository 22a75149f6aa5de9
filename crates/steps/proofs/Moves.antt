-- A step on memory that passed the walk: what it changed, as one record, and that memory still passes it, with one chunk elsewhere. Assumes nothing.
use mathlib.Core.Path.{◌≡◌, refl, sym, ap, ◌∙◌}
use mathlib.Core.Logic.{◌⊎◌, inl, inr, ◌≢◌}
use mathlib.Core.Bool.{Bool, true, false, cond}
use Prim.Native.Nat.{ℕ, zero, suc, ◌+◌, ◌-◌, ◌*◌, ◌≤◌, ◌<◌}
use native.Mathlib.Omega.{arith}
use lib.ListN.{length, get_or}
use lib.Dec.{eqb}
use mir.Val.{bool_byte}
use borrow.Author.Tests.{eq-eqb, ne_eqb}
use Rattle.sums.specs.Ids.{count}
use Rattle.sparse.specs.Row.{Rising}
use Rattle.layout.specs.Mem.{Mem}
use Rattle.document.specs.Sizes.{last_chunk}
use Rattle.layout.specs.Sizes.{over_at, head, mode_at, over_count, rows_from, pages_from}
use Rattle.layout.specs.Places.{decoded, has_row, has_page, row_part, page_part, row_owner, page_owner}
use Rattle.layout.specs.Entries.{entries, chunk_at, word_at, place_at, word_of, place_of}
use Rattle.layout.specs.Meaning.{kind_of, kinds, ranked}
use Rattle.layout.specs.Follows.{AllZero, Key, Owned, FullTo}
use Rattle.layout.specs.Tests.{rows_owned, pages_owned, Walked}
use Rattle.document.specs.declared.sizes.Sizes.{Sizes}
use Rattle.layout.specs.declared.place.Place.{Place}
use Rattle.layout.specs.declared.place.Place.TheVariants.{Absent, Sparse, Dense}
use Rattle.layout_laws.proofs.Entries.{chunk_over, word_over, chunk_direct, Which, direct, over, which, walked_ordered, chunk_below, chunk_rising}
use Rattle.layout.proofs.Added.{same_or}
use Rattle.steps.proofs.Puts.{put_rising, put_all, put_sum, put_beside, put_beside_off}
use Rattle.steps.proofs.Table.{run_of, Wrote, header_kept}

-- a place whose slot is as it was
abbrev pub Untouched : Sizes → Mem → Mem → Place → Type 0
Untouched h x y Absent = Unit
Untouched h x y (Sparse r l) = (row_owner h y.table r ≡ row_owner h x.table r) × (row_part h y.rows r ≡ row_part h x.rows r)
Untouched h x y (Dense p) = (page_owner h y.table p ≡ page_owner h x.table p) × (page_part h y.pages p ≡ page_part h x.pages p)

-- y is x with the word w for chunk c, in a slot that is the chunk's own
pub record Moved (h : Sizes) (x y : Mem) (c w : ℕ) : Type 0 where
  pub wrote : Wrote h x.table y.table c w
  pub some : w ≢ 0
  pub rows_long : length y.rows ≡ length x.rows
  pub pages_long : length y.pages ≡ length x.pages
  pub blocks : y.blocks ≡ x.blocks
  pub owned : Owned h y.table c (decoded w)
  pub others : (i : ℕ) (q : Place) → i ≢ c → Owned h x.table i q → Untouched h x y q
  pub rows_used : rows_owned h y.table + bool_byte (has_row (place_of h x.table c)) ≡ rows_owned h x.table + bool_byte (has_row (decoded w))
  pub pages_used : pages_owned h y.table + bool_byte (has_page (place_of h x.table c)) ≡ pages_owned h x.table + bool_byte (has_page (decoded w))
  pub rows_full_to : FullTo (row_owner h y.table) h.r (rows_from y.table)
  pub pages_full_to : FullTo (page_owner h y.table) h.p (pages_from y.table)

-- ---- an untouched place

owned_kept : (h : Sizes) (x y : Mem) (i : ℕ) (q : Place) → Untouched h x y q → Owned h x.table i q → Owned h y.table i q
owned_kept h x y i Absent u o = tt
owned_kept h x y i (Sparse r l) u o = record { there = o.there; some = o.some; short = o.short; owner = u.0 ∙ o.owner }
owned_kept h x y i (Dense p) u o = record { there = o.there; owner = u.0 ∙ o.owner }

-- ---- the walk

-- a rising run has no key below its place
rising_ge : (f : ℕ → ℕ) (n : ℕ) → Rising f n → (e : ℕ) → e < n → e ≤ f e
rising_ge f n up zero l = omega arith
rising_ge f n up (suc e) l = let r = rising_ge f n up e (omega arith) in let s = up e (suc e) (omega arith) l in omega arith

module _ (h : Sizes) (x y : Mem) (c w : ℕ) (W : Walked x h) (mode : ranked x ≡ false) (far : c < last_chunk h) (s : Moved h x y c w) where
  pub up : Rising (chunk_at h x.table) (entries h x.table)
  up = chunk_rising h x.table (walked_ordered W)

  up_after : Rising (chunk_at h y.table) (entries h y.table)
  up_after = put_rising (run_of h x.table) (run_of h y.table) c w up s.wrote.put

  pub every : (P : ℕ → ℕ → Type 0) → ((j : ℕ) → j < entries h x.table → chunk_at h x.table j ≢ c → P (chunk_at h x.table j) (word_at h x.table j)) → P c w
      → (j : ℕ) → j < entries h y.table → P (chunk_at h y.table j) (word_at h y.table j)
  every P = put_all (run_of h x.table) (run_of h y.table) c w up P s.wrote.put

  high_after : (e : ℕ) → e < entries h y.table → chunk_at h y.table e < last_chunk h
  high_after = every (λ (k v : ℕ). k < last_chunk h) (λ j l d. chunk_below h x.table (walked_ordered W) j l) far

  key_after : (j : ℕ) → j < over_count y.table → Key h y.table j
  key_after j l =
      let q = chunk_over h y.table j in
      record {
        low = let g = rising_ge (chunk_at h y.table) (entries h y.table) up_after (h.d + j) (omega arith) in omega arith;
        high = let g = high_after (h.d + j) (omega arith) in omega arith;
        rising = λ m. (let p = chunk_over h y.table (j + 1) in let g = up_after (h.d + j) (h.d + (j + 1)) (omega arith) (omega arith) in omega arith);
      }

  word_after : (j : ℕ) → j < over_count y.table → get_or y.table (over_at h j + 1) 0 ≢ 0
  word_after j l z =
      let q = chunk_over h y.table j in
      let low = (key_after j l).low in
      every (λ (k v : ℕ). h.d ≤ k → v ≢ 0) (λ e m d. old e m (which h.d e)) (λ m. s.some) (h.d + j) (omega arith) (omega arith) (word_over h y.table j ∙ z)
    where
      old : (e : ℕ) → e < entries h x.table → Which h.d e → h.d ≤ chunk_at h x.table e → word_at h x.table e ≢ 0
      old e m (direct a) g = absurd (let q = chunk_direct h x.table e a in omega arith)
      old e m (over i q) g = λ z. W.words i (omega arith) (sym (ap (word_at h x.table) q ∙ word_over h x.table i) ∙ z)

  spare_after : AllZero y.table (over_at h (over_count y.table)) (3 * (h.v - over_count y.table))
  spare_after i l =
      let m = s.wrote.more in
      let f = s.wrote.fits in
      let k = 3 * (over_count y.table - over_count x.table) + i in
      let e : over_at h (over_count y.table) + i ≡ over_at h (over_count x.table) + k = omega arith in
      s.wrote.spare (over_at h (over_count y.table) + i) (omega arith) (omega arith) ∙ ap (λ (n : ℕ). get_or x.table n 0) e ∙ W.spare k (omega arith)

  place_after : (e : ℕ) → e < entries h y.table → Owned h y.table (chunk_at h y.table e) (place_at h y.table e)
  place_after =
      every (λ (k v : ℕ). Owned h y.table k (decoded v))
      (λ j l d. owned_kept h x y (chunk_at h x.table j) (place_at h x.table j) (s.others (chunk_at h x.table j) (place_at h x.table j) d (W.places j l)) (W.places j l))
      s.owned

  count_after : (g : Place → Bool) → g Absent ≡ false →
      count (λ (e : ℕ). g (place_at h y.table e)) (entries h y.table) + bool_byte (g (place_of h x.table c)) ≡ count (λ (e : ℕ). g (place_at h x.table e)) (entries h x.table) + bool_byte (g (decoded w))
  unfolding count word_of
  count_after g none = put_sum (run_of h x.table) (run_of h y.table) c w up (λ (k v : ℕ). bool_byte (g (decoded v))) (ap bool_byte none) s.wrote.put

  pub mode_same : mode_at y.table ≡ mode_at x.table
  mode_same = s.wrote.header 6 (omega arith) (omega arith)

  pub open_after : ranked y ≡ false
  open_after = ap (λ (i : ℕ). eqb i 1) mode_same ∙ mode

  -- an open set keeps no prefixes
  not_ranked : ranked y ≡ true → ⊥
  not_ranked e = let q = open_after in let z : ◌≡◌ {A = ℕ} 0 1 = cc in omega arith

  pub walked_step : Walked y h
  walked_step =
      let m = mode_same in
      let len = s.wrote.len in
      record {
        sizes = W.sizes;
        room =
            record {
              in_pages = let r = W.room.in_pages in let n = s.pages_long in omega arith;
              in_rows = let r = W.room.in_rows in let n = s.rows_long in omega arith;
              in_blocks = let r = W.room.in_blocks in let n = ap length s.blocks in omega arith;
              in_table = let r = W.room.in_table in omega arith;
            };
        mode = let r = W.mode in omega arith;
        unused = λ i l. s.wrote.unused i l ∙ W.unused i l;
        over_fits = s.wrote.fits;
        keys = key_after;
        words = word_after;
        spare = spare_after;
        places = place_after;
        rows_used = omega (arith, count_after has_row refl, s.rows_used, W.rows_used);
        pages_used = omega (arith, count_after has_page refl, s.pages_used, W.pages_used);
        rising = λ e. absurd (not_ranked e);
        total = λ e. absurd (not_ranked e);
        rows_full_to = s.rows_full_to;
        pages_full_to = s.pages_full_to;
      }

  -- ---- places, by chunk id

  pub place_step : place_of h y.table c ≡ decoded w
  unfolding word_of
  place_step = ap decoded (put_beside (run_of h x.table) (run_of h y.table) c w up s.wrote.put)

  pub place_step_off : (i : ℕ) → i ≢ c → place_of h y.table i ≡ place_of h x.table i
  unfolding word_of
  place_step_off i d = ap decoded (put_beside_off (run_of h x.table) (run_of h y.table) c w up s.wrote.put i d)

-- ---- what the map becomes

module _ (x y : Mem) (c w : ℕ) (q : Place) (W : Walked x (head x)) (mode : ranked x ≡ false) (far : c < last_chunk (head x)) (s : Moved (head x) x y c w)
    (place : decoded w ≡ q) where
  pub head_same : head y ≡ head x
  head_same = header_kept (head x) x.table y.table c w s.wrote

  pub here : place_of (head x) y.table c ≡ q
  here = place_step (head x) x y c w W mode far s ∙ place

  pub places_step : (i : ℕ) → place_of (head x) y.table i ≡ cond (eqb i c) q (place_of (head x) x.table i)
  places_step i = go (same_or i c)
    where
      go : (i ≡ c) ⊎ (i ≢ c) → place_of (head x) y.table i ≡ cond (eqb i c) q (place_of (head x) x.table i)
      go (inl e) = ap (place_of (head x) y.table) e ∙ here ∙ sym (ap (λ (b : Bool). cond b q (place_of (head x) x.table i)) (eq-eqb i c e))
      go (inr d) =
          place_step_off (head x) x y c w W mode far s i d
          ∙ sym (ap (λ (b : Bool). cond b q (place_of (head x) x.table i)) (ne_eqb i c d))

  pub kinds_step : (i : ℕ) → kinds y i ≡ cond (eqb i c) (kind_of q) (kinds x i)
  unfolding kinds
  kinds_step i = ap (λ (h : Sizes). kind_of (place_of h y.table i)) head_same ∙ ap kind_of (places_step i) ∙ under (eqb i c)
    where
      under : (b : Bool) → kind_of (cond b q (place_of (head x) x.table i)) ≡ cond b (kind_of q) (kind_of (place_of (head x) x.table i))
      under true = refl
      under false = refl
