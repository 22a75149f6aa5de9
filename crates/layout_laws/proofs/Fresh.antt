-- Memory as set_up leaves it follows the layout and stands for the empty set, open. Assumes nothing.
use mathlib.Core.Path.{◌≡◌, refl, sym, ap, subst, ◌∙◌}
use mathlib.Core.List.{List, ◌∷◌}
use mathlib.Core.Bool.{false, cond, not}
use Prim.Native.Nat.{ℕ, suc, ◌+◌, ◌-◌, ◌*◌, ◌/◌, ◌%◌, ◌≤◌, ◌<◌}
use native.Mathlib.Omega.{arith}
use lib.ListN.{length, get_or, drop, replicate, length-replicate, get_or-append}
use lib.Dec.{eqb}
use Rattle.sums.proofs.Counts.{count_none}
use Rattle.layout.specs.Mem.{Mem}
use Rattle.document.specs.Sizes.{InRange, top, last_chunk}
use Rattle.layout.specs.Sizes.{RoomIn, wide, blocks_of, over_at, direct_at, row_owners_at, page_owners_at, table_size, head, mode_at, over_count}
use Rattle.layout.specs.Places.{decoded, has_row, has_page, row_owner, page_owner}
use Rattle.layout.specs.Entries.{entries, chunk_at, prefix_at, place_at, place_of}
use Rattle.document.specs.State.{absent, is_present}
use Rattle.layout.specs.Meaning.{offsets, holds, kind_of, kinds, ranked, state_of}
use Rattle.document.specs.Answers.{chunks_in}
use Rattle.layout.specs.Follows.{AllZero, Owned, RowListed, when_ranked, FullTo, Laid, Follows}
use Rattle.layout.specs.SetUp.{fresh_table, fresh}
use Rattle.document.specs.declared.sizes.Sizes.{Sizes}
use Rattle.layout.specs.declared.place.Place.{Place}
use Rattle.layout.specs.declared.place.Place.TheVariants.{Absent}
use Rattle.layout.proofs.Zeroed.{front_past, front_length, zeros_at, zeroed_at, zeroed_length}
use Rattle.layout_laws.proofs.Entries.{word_direct, prefix_direct, place_of_any}
use Rattle.layout_laws.proofs.Sizes.{slot_inside}

-- ---- memory that is zero past the sizes

pub record Blank (y : Mem) (h : Sizes) : Type 0 where
  pub sizes : InRange h
  pub room : RoomIn h y
  pub table : (i : ℕ) → 6 ≤ i → i < table_size h → get_or y.table i 0 ≡ 0
  pub pages : (i : ℕ) → i < h.p * wide h → get_or y.pages i 0 ≡ 0
  pub rows : (i : ℕ) → i < h.r * h.m → get_or y.rows i 0 ≡ 0
  pub blocks : (i : ℕ) → i < h.p * blocks_of h → get_or y.blocks i 0 ≡ 0

-- a count that an open set doesn't keep
pub kept_open : (y : Mem) → mode_at y.table ≡ 0 → (n : ℕ) → when_ranked y n ≡ 0
kept_open y e n = ap (λ (m : ℕ). cond (eqb m 1) n 0) e

-- part i of n, each k long, of a run of zeros
part_zero : (xs : List ℕ) (i n k : ℕ) → i < n → ((j : ℕ) → j < n * k → get_or xs j 0 ≡ 0) → AllZero xs (i * k) k
part_zero xs i n k l z j m = let s = slot_inside i n k l in z (i * k + j) (omega arith)

-- nothing is said of slots below 0
none_below : {f : ℕ → ℕ} {n k : ℕ} → k ≡ 0 → FullTo f n k
none_below e = record { within = omega arith; owned = λ j l. absurd (omega arith) }

module _ (y : Mem) (h : Sizes) (b : Blank y h) where
  blank_mode : mode_at y.table ≡ 0
  blank_mode = b.table 6 (omega arith) (omega arith)

  blank_over : over_count y.table ≡ 0
  blank_over = b.table 7 (omega arith) (omega arith)

  blank_place : (e : ℕ) → e < entries h y.table → place_at h y.table e ≡ Absent
  blank_place e l =
      let n = blank_over in
      let m : e < h.d = omega arith in
      ap decoded (word_direct h y.table e m ∙ b.table (direct_at e) (omega arith) (omega arith))

  blank_prefix : (e : ℕ) → e < entries h y.table → prefix_at h y.table e ≡ 0
  blank_prefix e l =
      let n = blank_over in
      let m : e < h.d = omega arith in
      prefix_direct h y.table e m ∙ b.table (direct_at e + 1) (omega arith) (omega arith)

  pub blank_laid : Laid y h
  blank_laid =
      let n = blank_over in
      let o = blank_mode in
      record {
        sizes = b.sizes;
        room = b.room;
        mode = omega arith;
        unused = λ i l. b.table (11 + i) (omega arith) (omega arith);
        over_fits = omega arith;
        keys = λ j l. absurd (omega arith);
        words = λ j l. absurd (omega arith);
        spare = λ i l. b.table (over_at h (over_count y.table) + i) (omega arith) (omega arith);
        places = λ e l. subst (Owned h y.table (chunk_at h y.table e)) (sym (blank_place e l)) tt;
        lists = λ e l. subst (RowListed h y.rows) (sym (blank_place e l)) tt;
        free_rows = λ r l _. part_zero y.rows r h.r h.m l b.rows;
        free_pages = λ p l _. part_zero y.pages p h.p (wide h) l b.pages;
        rows_used =
            count_none (λ (r : ℕ). not (eqb (row_owner h y.table r) 0)) h.r (λ r l. ap (λ (w : ℕ). not (eqb w 0)) (b.table (row_owners_at h + r) (omega arith) (omega arith)))
            ∙ sym (count_none (λ (e : ℕ). has_row (place_at h y.table e)) (entries h y.table) (λ e l. ap has_row (blank_place e l)));
        pages_used =
            count_none (λ (p : ℕ). not (eqb (page_owner h y.table p) 0)) h.p (λ p l. ap (λ (w : ℕ). not (eqb w 0)) (b.table (page_owners_at h + p) (omega arith) (omega arith)))
            ∙ sym (count_none (λ (e : ℕ). has_page (place_at h y.table e)) (entries h y.table) (λ e l. ap has_page (blank_place e l)));
        prefixes = λ e l. blank_prefix e l ∙ sym (kept_open y o _);
        total = b.table 8 (omega arith) (omega arith) ∙ sym (kept_open y o _);
        blocks = λ p i l m. part_zero y.blocks p h.p (blocks_of h) l b.blocks i m ∙ sym (kept_open y o _);
        rows_full_to = none_below (b.table 9 (omega arith) (omega arith));
        pages_full_to = none_below (b.table 10 (omega arith) (omega arith));
      }

  pub blank_absent : (c : ℕ) → place_of h y.table c ≡ Absent
  blank_absent = place_of_any h y.table (record { sizes = b.sizes; keys = blank_laid.keys }) (λ (c : ℕ) (p : Place). p ≡ Absent) (λ c. refl) blank_place

-- ---- the table

abbrev sixed : Sizes → ℕ → List ℕ
sixed h n = h.s ∷ h.m ∷ h.d ∷ h.v ∷ h.r ∷ h.p ∷ replicate n 0

module _ (h : Sizes) where
  sixed_length : length (sixed h (table_size h - 6)) ≡ table_size h
  sixed_length = let e = length-replicate {A = ℕ} (table_size h - 6) 0 in omega arith

  sixed_at : (n i : ℕ) → get_or (sixed h n) (suc (suc (suc (suc (suc (suc i)))))) 0 ≡ 0
  sixed_at n i = zeros_at n i

  module _ (t : List ℕ) where
    pub fresh_table_at : (i : ℕ) → 6 ≤ i → i < table_size h → get_or (fresh_table h t) i 0 ≡ 0
    unfolding fresh_table
    fresh_table_at i l m =
        let k = i - 6 in
        let e : i ≡ suc (suc (suc (suc (suc (suc k))))) = omega arith in
        get_or-append (sixed h (table_size h - 6)) (drop (table_size h) t) 0 i (let s = sixed_length in omega arith)
        ∙ (ap (λ (j : ℕ). get_or (sixed h (table_size h - 6)) j 0) e ∙ sixed_at (table_size h - 6) k)

    pub fresh_table_past : (i : ℕ) → table_size h ≤ i → get_or (fresh_table h t) i 0 ≡ get_or t i 0
    unfolding fresh_table
    fresh_table_past i l = front_past (sixed h (table_size h - 6)) t (table_size h) i sixed_length l

    pub fresh_table_length : table_size h ≤ length t → length (fresh_table h t) ≡ length t
    unfolding fresh_table
    fresh_table_length l = front_length (sixed h (table_size h - 6)) t (table_size h) sixed_length l

-- ---- what set_up makes

pub head_fresh : (h : Sizes) (x : Mem) → head (fresh h x) ≡ h
unfolding fresh fresh_table
head_fresh h x = refl

module _ (h : Sizes) (x : Mem) (sizes : InRange h) (room : RoomIn h x) where
  pub fresh_blank : Blank (fresh h x) h
  unfolding fresh
  fresh_blank =
      let a = room.in_pages in
      let b = room.in_rows in
      let c = room.in_blocks in
      let d = room.in_table in
      let a' = zeroed_length (h.p * wide h) x.pages a in
      let b' = zeroed_length (h.r * h.m) x.rows b in
      let c' = zeroed_length (h.p * blocks_of h) x.blocks c in
      let d' = fresh_table_length h x.table d in
      record {
        sizes = sizes;
        room = record { in_pages = omega arith; in_rows = omega arith; in_blocks = omega arith; in_table = omega arith };
        table = fresh_table_at h x.table;
        pages = zeroed_at (h.p * wide h) x.pages;
        rows = zeroed_at (h.r * h.m) x.rows;
        blocks = zeroed_at (h.p * blocks_of h) x.blocks;
      }

  pub fresh_follows : Follows (fresh h x)
  fresh_follows = subst (Laid (fresh h x)) (sym (head_fresh h x)) (blank_laid (fresh h x) h fresh_blank)

  pub fresh_absent : (c : ℕ) → place_of (head (fresh h x)) (fresh h x).table c ≡ Absent
  fresh_absent c = ap (λ (k : Sizes). place_of k (fresh h x).table c) (head_fresh h x) ∙ blank_absent (fresh h x) h fresh_blank c

  -- no id is a member, no chunk is there, and the set is open
  pub fresh_holds : (n : ℕ) → holds (fresh h x) n ≡ false
  unfolding holds
  fresh_holds n = ap (λ (p : Place). offsets (head (fresh h x)) (fresh h x) p (n % top (head (fresh h x)))) (fresh_absent (n / top (head (fresh h x))))

  pub fresh_kinds : (c : ℕ) → kinds (fresh h x) c ≡ absent
  unfolding kinds
  fresh_kinds c = ap kind_of (fresh_absent c)

  pub fresh_chunks : chunks_in (state_of (fresh h x)) ≡ 0
  unfolding chunks_in
  fresh_chunks = count_none (λ (c : ℕ). is_present (kinds (fresh h x) c)) (last_chunk (head (fresh h x))) (λ c l. ap is_present (fresh_kinds c))

  pub fresh_open : ranked (fresh h x) ≡ false
  fresh_open = ap (λ (m : ℕ). eqb m 1) (blank_mode (fresh h x) h fresh_blank)
