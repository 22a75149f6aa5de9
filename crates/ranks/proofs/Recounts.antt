-- Memory whose counts alone were written anew: it still follows the layout, and stands for the same members and chunks. Assumes nothing.
use mathlib.Core.Path.{◌≡◌, refl, sym, ap, ap₂, subst, ◌∙◌}
use mathlib.Core.List.{List}
use mathlib.Core.Bool.{Bool, true, false, cond, not}
use Prim.Native.Nat.{ℕ, ◌+◌, ◌-◌, ◌*◌, ◌/◌, ◌%◌, ◌<◌}
use native.Mathlib.Omega.{arith}
use lib.ListN.{length, get_or}
use lib.Dec.{eqb}
use mir.Val.{bool_byte}
use Rattle.sums.specs.Sums.{sum_to}
use Rattle.sums.specs.Ids.{count}
use Rattle.sums.proofs.Sums.{sum_ext}
use Rattle.sums.proofs.Counts.{count_ext, byte_le}
use Rattle.dense.specs.Bits.{bits_to}
use Rattle.layout.specs.Mem.{Mem, mem}
use Rattle.document.specs.Sizes.{top}
use Rattle.layout.specs.Sizes.{blocks_of, over_at, row_owners_at, page_owners_at, header_at, head, over_count}
use Rattle.layout.proofs.Owners.{full_same}
use Rattle.layout.specs.Places.{decoded, has_row, has_page, page_part, row_owner, page_owner}
use Rattle.layout.specs.Entries.{entries, chunk_at, word_at, place_at, beside, word_of, place_of}
use Rattle.layout.specs.Meaning.{offsets, holds, kind_of, kinds, ranked}
use Rattle.layout.specs.Follows.{Key, Owned, RowListed, size_of, members_at, when_ranked, Laid, Follows}
use Rattle.document.specs.declared.sizes.Sizes.{Sizes}
use Rattle.layout.specs.declared.place.Place.{Place}
use Rattle.layout.specs.declared.place.Place.TheVariants.{Absent, Sparse, Dense}
use Rattle.ranks.proofs.Prefixes.{Recounted, over_same, chunk_same, word_same}

-- the counts of a ranked set (b is yes) or of an open one
pub record Recount (h : Sizes) (x : Mem) (b : Bool) (bl u : List ℕ) : Type 0 where
  pub told : Recounted h x.table u (bool_byte b) (cond b (sum_to (members_at h x) (entries h x.table)) 0) (λ (e : ℕ). cond b (sum_to (members_at h x) e) 0)
  pub long : length bl ≡ length x.blocks
  pub blocks : (p i : ℕ) → p < h.p → i < blocks_of h → get_or bl (p * blocks_of h + i) 0 ≡ cond b (bits_to (page_part h x.pages p) (512 * i)) 0

-- a chunk's offsets are in the pools alone
offsets_same : (h : Sizes) (x : Mem) (bl u : List ℕ) (p : Place) (o : ℕ) → offsets h (mem x.pages x.rows bl u) p o ≡ offsets h x p o
offsets_same h x bl u Absent o = refl
offsets_same h x bl u (Sparse r l) o = refl
offsets_same h x bl u (Dense p) o = refl

is_one : (b : Bool) → eqb (bool_byte b) 1 ≡ b
is_one true = refl
is_one false = refl

module _ {h : Sizes} {x : Mem} {b : Bool} {bl u : List ℕ} (r : Recount h x b bl u) where
  abbrev y : Mem
  y = mem x.pages x.rows bl u

  -- ---- the directory

  entries_same : entries h u ≡ entries h x.table
  entries_same = ap (λ (n : ℕ). h.d + n) (over_same r.told)

  place_same : (e : ℕ) → place_at h u e ≡ place_at h x.table e
  place_same e = ap decoded (word_same r.told e)

  word_of_same : (c : ℕ) → word_of h u c ≡ word_of h x.table c
  unfolding word_of beside
  word_of_same c =
      sum_ext (λ (e : ℕ). cond (eqb (chunk_at h u e) c) (word_at h u e) 0) (λ (e : ℕ). cond (eqb (chunk_at h x.table e) c) (word_at h x.table e) 0) (entries h u)
      (λ e l. ap₂ (λ (k w : ℕ). cond (eqb k c) w 0) (chunk_same r.told e) (word_same r.told e))
      ∙ ap (sum_to (λ (e : ℕ). cond (eqb (chunk_at h x.table e) c) (word_at h x.table e) 0)) entries_same

  members_same : (e : ℕ) → members_at h y e ≡ members_at h x e
  unfolding members_at
  members_same e = ap (size_of h x.pages) (place_same e)

  sum_same : (n : ℕ) → sum_to (members_at h y) n ≡ sum_to (members_at h x) n
  sum_same n = sum_ext (members_at h y) (members_at h x) n (λ e l. members_same e)

  -- ---- the mode

  pub mode_is : ranked y ≡ b
  mode_is = ap (λ (m : ℕ). eqb m 1) r.told.mode ∙ is_one b

  kept_is : (n k : ℕ) → n ≡ k → cond b n 0 ≡ when_ranked y k
  kept_is n k e = ap (λ (i : ℕ). cond b i 0) e ∙ ap (λ (a : Bool). cond a k 0) (sym mode_is)

  -- ---- owners

  module _ (w : Laid x h) where
    row_owner_same : (i : ℕ) → row_owner h u i ≡ row_owner h x.table i
    row_owner_same i = let f = w.over_fits in r.told.past (row_owners_at h + i) (omega arith)

    page_owner_same : (i : ℕ) → page_owner h u i ≡ page_owner h x.table i
    page_owner_same i = let f = w.over_fits in r.told.past (page_owners_at h + i) (omega arith)

    owned_same : (c : ℕ) (p : Place) → Owned h x.table c p → Owned h u c p
    owned_same c Absent o = tt
    owned_same c (Sparse i l) o = record { there = o.there; some = o.some; short = o.short; owner = row_owner_same i ∙ o.owner }
    owned_same c (Dense p) o = record { there = o.there; owner = page_owner_same p ∙ o.owner }

    places_same : (e : ℕ) → e < entries h u → Owned h u (chunk_at h u e) (place_at h u e)
    places_same e l =
        let n = entries_same in
        subst (λ (c : ℕ). Owned h u c (place_at h u e)) (sym (chunk_same r.told e))
        (subst (Owned h u (chunk_at h x.table e)) (sym (place_same e)) (owned_same (chunk_at h x.table e) (place_at h x.table e) (w.places e (omega arith))))

    used_same : (owner : List ℕ → ℕ → ℕ) (kind : Place → Bool) (n : ℕ) → ((i : ℕ) → owner u i ≡ owner x.table i)
        → count (λ (i : ℕ). not (eqb (owner x.table i) 0)) n ≡ count (λ (e : ℕ). kind (place_at h x.table e)) (entries h x.table)
        → count (λ (i : ℕ). not (eqb (owner u i) 0)) n ≡ count (λ (e : ℕ). kind (place_at h u e)) (entries h u)
    used_same owner kind n s q =
        count_ext (λ (i : ℕ). not (eqb (owner u i) 0)) (λ (i : ℕ). not (eqb (owner x.table i) 0)) n (λ i l. ap (λ (k : ℕ). not (eqb k 0)) (s i))
        ∙ (q
        ∙ sym (count_ext (λ (e : ℕ). kind (place_at h u e)) (λ (e : ℕ). kind (place_at h x.table e)) (entries h u) (λ e l. ap kind (place_same e))
        ∙ ap (count (λ (e : ℕ). kind (place_at h x.table e))) entries_same))

    -- ---- the rule

    pub recount_laid : Laid y h
    recount_laid =
        let n = over_same r.told in
        let m = r.told.mode in
        let g = r.told.long in
        let k = r.long in
        let a = byte_le b in
        let f = w.over_fits in
        let d = w.room in
        record {
          sizes = w.sizes;
          room = record { in_pages = d.in_pages; in_rows = d.in_rows; in_blocks = omega arith; in_table = omega arith };
          mode = omega arith;
          unused = λ i l. r.told.header (11 + i) (omega arith) (omega arith) (omega arith) ∙ w.unused i l;
          over_fits = omega arith;
          keys = λ j l. key j (omega arith);
          words = λ j l q. w.words j (omega arith) (sym (r.told.over_words j) ∙ q);
          spare = λ i l. spare i (omega arith);
          places = places_same;
          lists = λ e l. subst (RowListed h x.rows) (sym (place_same e)) (w.lists e (omega arith));
          free_rows = λ i l q. w.free_rows i l (sym (row_owner_same i) ∙ q);
          free_pages = λ i l q. w.free_pages i l (sym (page_owner_same i) ∙ q);
          rows_used = used_same (row_owner h) has_row h.r row_owner_same w.rows_used;
          pages_used = used_same (page_owner h) has_page h.p page_owner_same w.pages_used;
          prefixes = λ e l. r.told.prefixes e (omega arith) ∙ kept_is (sum_to (members_at h x) e) (sum_to (members_at h y) e) (sym (sum_same e));
          total = r.told.total ∙ kept_is (sum_to (members_at h x) (entries h x.table)) (sum_to (members_at h y) (entries h u)) (sym (sum_same (entries h u) ∙ ap (sum_to (members_at h x)) entries_same));
          blocks = λ p i l j. r.blocks p i l j ∙ kept_is (bits_to (page_part h x.pages p) (512 * i)) (bits_to (page_part h x.pages p) (512 * i)) refl;
          rows_full_to = full_same w.rows_full_to (r.told.header 9 (omega arith) (omega arith) (omega arith)) (λ j l. row_owner_same j);
          pages_full_to = full_same w.pages_full_to (r.told.header 10 (omega arith) (omega arith) (omega arith)) (λ j l. page_owner_same j);
        }
      where
        key : (j : ℕ) → j < over_count x.table → Key h u j
        key j l =
            let n = over_same r.told in
            let a = r.told.ids j in
            let c = r.told.ids (j + 1) in
            let k = w.keys j l in
            record { low = omega (arith, k.low); high = omega (arith, k.high); rising = λ m. omega (arith, k.rising (omega arith)) }

        spare : (i : ℕ) → i < 3 * (h.v - over_count x.table) → get_or u (over_at h (over_count u) + i) 0 ≡ 0
        spare i l =
            let n = over_same r.told in
            let e : over_at h (over_count u) + i ≡ over_at h (over_count x.table) + i = omega arith in
            ap (λ (k : ℕ). get_or u k 0) e ∙ (r.told.past (over_at h (over_count x.table) + i) (omega arith) ∙ w.spare i l)

-- ---- by the sizes that memory says

module _ {x : Mem} {b : Bool} {bl u : List ℕ} (r : Recount (head x) x b bl u) where
  pub head_same : header_at u ≡ head x
  head_same =
      let t = r.told in
      let a0 = t.header 0 (omega arith) (omega arith) (omega arith) in
      let a1 = t.header 1 (omega arith) (omega arith) (omega arith) in
      let a2 = t.header 2 (omega arith) (omega arith) (omega arith) in
      let a3 = t.header 3 (omega arith) (omega arith) (omega arith) in
      let a4 = t.header 4 (omega arith) (omega arith) (omega arith) in
      let a5 = t.header 5 (omega arith) (omega arith) (omega arith) in
      cc

  pub recount_follows : Follows x → Follows (mem x.pages x.rows bl u)
  recount_follows w = subst (Laid (mem x.pages x.rows bl u)) (sym head_same) (recount_laid r w)

  pub recount_holds : (n : ℕ) → holds (mem x.pages x.rows bl u) n ≡ holds x n
  unfolding holds
  recount_holds n =
      ap (λ (k : Sizes). offsets k (mem x.pages x.rows bl u) (place_of k u (n / top k)) (n % top k)) head_same
      ∙ (ap (λ (q : Place). offsets (head x) (mem x.pages x.rows bl u) q (n % top (head x))) (ap decoded (word_of_same r (n / top (head x))))
      ∙ offsets_same (head x) x bl u (place_of (head x) x.table (n / top (head x))) (n % top (head x)))

  pub recount_places : (c : ℕ) → place_of (header_at u) u c ≡ place_of (head x) x.table c
  recount_places c = ap (λ (k : Sizes). place_of k u c) head_same ∙ ap decoded (word_of_same r c)

  pub recount_kinds : (c : ℕ) → kinds (mem x.pages x.rows bl u) c ≡ kinds x c
  unfolding kinds
  recount_kinds c = ap kind_of (recount_places c)
