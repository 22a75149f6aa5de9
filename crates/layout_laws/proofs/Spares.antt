-- Elements past the sizes stay: one law for each write, on any memory, and set_up. Assumes nothing.
use mathlib.Core.Path.{◌≡◌, refl, sym, ap, subst, ◌∙◌}
use mathlib.Core.Logic.{inr, ◌≢◌}
use mathlib.Core.List.{List}
use mathlib.Core.Bool.{Bool, true, false, cond, ◌&&◌}
use Prim.Native.Nat.{ℕ, ◌+◌, ◌-◌, ◌*◌, ◌≤◌, ◌<◌}
use native.Mathlib.Omega.{arith}
use lib.ListN.{length, get_or, set, length-set}
use lib.Seq.{get_or-set_other}
use lib.Dec.{leb, ltb, eqb}
use borrow.Author.Tests.{leb-true, ltb-true, ltb-false, eqb-true, eqb-false, lt-ltb, eq-eqb}
use Rattle.layout.specs.Mem.{Mem}
use Rattle.layout.specs.Sizes.{RoomIn, wide, blocks_of, direct_at, over_at, row_owners_at, page_owners_at, table_size, over_count, header_at}
use Rattle.layout.specs.Entries.{entries, chunk_at, prefix_place}
use Rattle.layout.specs.Short.{over_place, over_word, entries_in, direct_word, overflow_word, word_in}
use Rattle.layout.specs.Tests.{in_range, room_in}
use Rattle.layout.specs.SetUp.{Did, did, zeroed, fresh, set_up_by}
use Rattle.layout.specs.Writes.{put_part, added, added_if, over_put, put_word, put_prefix, put_row_owner, put_page_owner}
use Rattle.layout.specs.Spare.{Beyond, Spare}
use Rattle.document.specs.declared.sizes.Sizes.{Sizes}
use Rattle.layout.proofs.Finds.{EntriesIn, entries_are_in}
use Rattle.layout.proofs.Tests.{room_of}
use Rattle.layout.proofs.Zeroed.{zeroed_past, zeroed_length}
use Rattle.layout.proofs.Parts.{length_put, put_off}
use Rattle.layout.proofs.Added.{added_length, added_high}
use Rattle.layout.proofs.Owners.{put_owner_length, put_owner_off}
use Rattle.layout_laws.proofs.Sizes.{slot_inside}
use Rattle.layout_laws.proofs.Keys.{cut_missed}
use Rattle.layout_laws.proofs.Entries as ids
use Rattle.layout_laws.proofs.Entries.{chunk_direct, chunk_over, Which, which, Ordered}
use Rattle.layout_laws.proofs.Halving.{lower_between, lower_first}
use Rattle.layout_laws.proofs.Short.{over_rising}
use Rattle.layout_laws.proofs.Fresh.{fresh_table_past, fresh_table_length}
use Rattle.document.specs.Refusals.{not_laid_out, outside_sizes, too_short}
use Rattle.std.specs.Prelude.{Err, Ok}

-- ---- a write below n leaves what lies from n on

pub beyond_same : {n : ℕ} {xs : List ℕ} → Beyond n xs xs
beyond_same = record { long = refl; same = λ i l. refl }

pub beyond_then : {n : ℕ} {xs ys zs : List ℕ} → Beyond n xs ys → Beyond n ys zs → Beyond n xs zs
beyond_then a b = record { long = b.long ∙ a.long; same = λ i l. b.same i l ∙ a.same i l }

pub beyond_if : {n : ℕ} {xs ys zs : List ℕ} (b : Bool) → (b ≡ true → Beyond n xs ys) → (b ≡ false → Beyond n xs zs) → Beyond n xs (cond b ys zs)
beyond_if true y z = y refl
beyond_if false y z = z refl

pub set_beyond : (n : ℕ) (xs : List ℕ) (i v : ℕ) → i < n → Beyond n xs (set xs i v)
set_beyond n xs i v l = record { long = length-set xs i v; same = λ j m. get_or-set_other xs i j v 0 (omega arith) }

pub put_beyond : (n : ℕ) (xs : List ℕ) (a k : ℕ) (ys : List ℕ) → length ys ≡ k → a + k ≤ length xs → a + k ≤ n → Beyond n xs (put_part xs a k ys)
put_beyond n xs a k ys fits room l = record { long = length_put xs a k ys fits room; same = λ i m. put_off xs a k ys fits room i (inr (omega arith)) }

-- slot r of n, each k long, in a pool of some length
pub record SlotIn (n k length r : ℕ) : Type 0 where
  pub there : r < n
  pub inside : r * k + k ≤ length

pub slot_in : (n k length r : ℕ) → n * k ≤ length → r < n → SlotIn n k length r
slot_in n k length r room l = record { there = l; inside = let s = slot_inside r n k l in omega arith }

pub slot_beyond : (n : ℕ) (xs : List ℕ) (r k : ℕ) (ys : List ℕ) → SlotIn n k (length xs) r → length ys ≡ k → Beyond (n * k) xs (put_part xs (r * k) k ys)
slot_beyond n xs r k ys s fits = put_beyond (n * k) xs (r * k) k ys fits s.inside (slot_inside r n k s.there)

pub zeroed_beyond : (n : ℕ) (xs : List ℕ) → n ≤ length xs → Beyond n xs (zeroed n xs)
zeroed_beyond n xs l = record { long = zeroed_length n xs l; same = zeroed_past n xs }

-- ---- words of the table

module _ (h : Sizes) (t : List ℕ) where
  pub header_beyond : (i v : ℕ) → i < 16 → Beyond (table_size h) t (set t i v)
  header_beyond i v l = set_beyond (table_size h) t i v (omega arith)

  pub direct_beyond : (c w : ℕ) → c < h.d → Beyond (table_size h) t (set t (direct_at c) w)
  direct_beyond c w l = set_beyond (table_size h) t (direct_at c) w (omega arith)

  prefix_inside : (e : ℕ) → e < h.d + h.v → prefix_place h e < table_size h
  prefix_inside e l = go (ltb e h.d) refl
    where
      go : (b : Bool) → ltb e h.d ≡ b → cond b (direct_at e + 1) (over_at h (e - h.d) + 2) < table_size h
      go true q = let m = ltb-true e h.d q in omega arith
      go false q = let m = ltb-false e h.d q in omega arith

  pub prefix_beyond : (e v : ℕ) → e < h.d + h.v → Beyond (table_size h) t (put_prefix h t e v)
  prefix_beyond e v l = set_beyond (table_size h) t (prefix_place h e) v (prefix_inside e l)

  pub row_owner_beyond : (r w : ℕ) → r < h.r → Beyond (table_size h) t (put_row_owner h t r w)
  row_owner_beyond r w l =
      record { long = put_owner_length 9 (row_owners_at h) t r w; same = λ i m. put_owner_off 9 (row_owners_at h) t r w i (omega arith) (omega arith) }

  pub page_owner_beyond : (p w : ℕ) → p < h.p → Beyond (table_size h) t (put_page_owner h t p w)
  page_owner_beyond p w l =
      record { long = put_owner_length 10 (page_owners_at h) t p w; same = λ i m. put_owner_off 10 (page_owners_at h) t p w i (omega arith) (omega arith) }

  -- a new overflow entry, where one of the V is left
  pub added_beyond : (c w k : ℕ) → k ≤ over_count t → over_at h (over_count t + 1) ≤ length t → over_count t < h.v → Beyond (table_size h) t (added h t c w k)
  added_beyond c w k le room free = record { long = added_length h t c w k le room; same = λ i l. added_high h t c w k le room i (omega arith) }

  -- a word in the overflow table, at k: in the chunk's own entry, or in a new one
  over_own : (c w k : ℕ) → k < over_count t → get_or t (over_at h k) 0 ≡ c → k < h.v → Beyond (table_size h) t (over_put h t c w k)
  over_own c w k there is inside =
      subst (λ (b : Bool). Beyond (table_size h) t (cond b (set t (over_at h k + 1) w) (added_if h t c w k))) (sym test)
      (set_beyond (table_size h) t (over_at h k + 1) w (omega arith))
    where
      test : (ltb k (over_count t) && eqb (get_or t (over_at h k) 0) c) ≡ true
      test = ap (λ (b : Bool). b && eqb (get_or t (over_at h k) 0) c) (lt-ltb k (over_count t) there) ∙ eq-eqb (get_or t (over_at h k) 0) c is

  over_left : (c w k : ℕ) → k ≤ over_count t → over_count t < h.v → Beyond (table_size h) t (over_put h t c w k)
  over_left c w k le free =
      beyond_if (ltb k (over_count t) && eqb (get_or t (over_at h k) 0) c) (λ e. set_beyond (table_size h) t (over_at h k + 1) w (omega arith))
      (λ e. beyond_if (leb (over_at h (over_count t + 1)) (length t))
      (λ a. added_beyond c w k le (leb-true (over_at h (over_count t + 1)) (length t) a) free)
      (λ a. beyond_same))

-- ---- a chunk's word

-- the overflow entry that a search for chunk c ends at
abbrev pub sought : Sizes → List ℕ → ℕ → ℕ
sought h t c = over_place t (16 + 2 * h.d) (over_count t) c

-- it is the chunk's own, and one of the V
pub record OwnEntry (h : Sizes) (t : List ℕ) (c : ℕ) : Type 0 where
  pub there : sought h t c < over_count t
  pub is : get_or t (over_at h (sought h t c)) 0 ≡ c
  pub inside : sought h t c < h.v

-- chunk c's word has an entry of the D or of the V
pub data EntryRoom (h : Sizes) (t : List ℕ) (c : ℕ) : Type 0 where
  direct : c < h.d → EntryRoom h t c
  left : over_count t < h.v → EntryRoom h t c
  own : OwnEntry h t c → EntryRoom h t c

module _ (h : Sizes) (t : List ℕ) (c : ℕ) where
  sought_inside : sought h t c ≤ over_count t
  sought_inside = (lower_between (λ (j : ℕ). get_or t (16 + 2 * h.d + 3 * j) 0) c (over_count t) 0 (over_count t) (omega arith)).1

  pub put_word_beyond : (w : ℕ) → EntryRoom h t c → Beyond (table_size h) t (put_word h t c w)
  unfolding put_word
  put_word_beyond w room = beyond_if (ltb c h.d) (λ e. direct_beyond h t c w (ltb-true c h.d e)) (λ e. over room (ltb-false c h.d e))
    where
      over : EntryRoom h t c → h.d ≤ c → Beyond (table_size h) t (over_put h t c w (sought h t c))
      over (direct l) ge = absurd (omega arith)
      over (left free) ge = over_left h t c w (sought h t c) sought_inside free
      over (own o) ge = over_own h t c w (sought h t c) o.there o.is o.inside

-- where ids rise, a chunk with an entry has room, and one without takes what is left of the V
module _ (h : Sizes) (t : List ℕ) (o : Ordered h t) (fits : over_count t ≤ h.v) (c : ℕ)
    (free : ((e : ℕ) → e < entries h t → chunk_at h t e ≢ c) → over_count t < h.v) where
  abbrev key : ℕ → ℕ
  key = λ (j : ℕ). get_or t (over_at h j) 0

  pub room_ordered : EntryRoom h t c
  room_ordered = go (ltb c h.d) refl
    where
      missed : h.d ≤ c → ((j : ℕ) → j < over_count t → key j ≢ c) → (e : ℕ) → e < entries h t → Which h.d e → chunk_at h t e ≢ c
      missed ge none e l (ids.direct m) = let q = chunk_direct h t e m in omega arith
      missed ge none e l (ids.over j q) = λ r. none j (omega arith) (sym (ap (chunk_at h t) q ∙ chunk_over h t j) ∙ r)

      new : h.d ≤ c → (sought h t c < over_count t → key (sought h t c) ≢ c) → EntryRoom h t c
      new ge not =
          let up = over_rising h t o in
          left (free (λ e l. missed ge (cut_missed key (over_count t) (sought h t c) c up (lower_first key (over_count t) c up) not) e l (which h.d e)))

      over : h.d ≤ c → (a : Bool) → ltb (sought h t c) (over_count t) ≡ a → (b : Bool) → eqb (key (sought h t c)) c ≡ b → EntryRoom h t c
      over ge true p true q =
          let l = ltb-true (sought h t c) (over_count t) p in
          own (record { there = l; is = eqb-true (key (sought h t c)) c q; inside = omega arith })
      over ge true p false q = new ge (λ l. eqb-false (key (sought h t c)) c q)
      over ge false p b q = new ge (λ l. absurd (let m = ltb-false (sought h t c) (over_count t) p in omega arith))

      go : (b : Bool) → ltb c h.d ≡ b → EntryRoom h t c
      go true e = direct (ltb-true c h.d e)
      go false e = over (ltb-false c h.d e) (ltb (sought h t c) (over_count t)) refl (eqb (key (sought h t c)) c) refl

-- a chunk whose word is found, and not 0, has an entry
module _ (t : List ℕ) (c w : ℕ) (some : w ≢ 0) where
  abbrev at : ℕ
  at = sought (header_at t) t c

  known_over : EntriesIn t (header_at t).d → (a : Bool) → ltb at (over_count t) ≡ a → (b : Bool) → eqb (get_or t (over_at (header_at t) at) 0) c ≡ b
      → cond (a && b) (get_or t (over_at (header_at t) at + 1) 0) 0 ≡ w → EntryRoom (header_at t) t c
  known_over in_table true p true q e =
      let l = ltb-true at (over_count t) p in
      let f = in_table.fits in
      own (record { there = l; is = eqb-true (get_or t (over_at (header_at t) at) 0) c q; inside = omega arith })
  known_over in_table true p false q e = absurd (some (sym e))
  known_over in_table false p b q e = absurd (some (sym e))

  known_in : (a : Bool) (u : ℕ) → cond a (Ok u) (Err not_laid_out) ≡ Ok w → (a ≡ true) × (u ≡ w)
  known_in true u e = (refl, cc)
  known_in false u e = absurd (let z : ◌≡◌ {A = ℕ} 0 1 = cc in omega arith)

  pub room_known : word_in t c ≡ Ok w → EntryRoom (header_at t) t c
  unfolding word_in
  room_known e = go (ltb c (header_at t).d) refl e
    where
      go : (b : Bool) → ltb c (header_at t).d ≡ b → cond b (direct_word t c) (overflow_word t (header_at t).d c) ≡ Ok w → EntryRoom (header_at t) t c
      go true q e = direct (ltb-true c (header_at t).d q)
      go false q e =
          let k = known_in (entries_in t (header_at t).d) (over_word t (16 + 2 * (header_at t).d) (over_count t) c at) e in
          known_over (entries_are_in t (header_at t).d k.0) (ltb at (over_count t)) refl (eqb (get_or t (over_at (header_at t) at) 0) c) refl
          k.1

-- ---- rows and pages

abbrev pub RowSlot : Sizes → Mem → ℕ → Type 0
RowSlot h x r = SlotIn h.r h.m (length x.rows) r

abbrev pub PageSlot : Sizes → Mem → ℕ → Type 0
PageSlot h x p = SlotIn h.p (wide h) (length x.pages) p

module _ (h : Sizes) (x : Mem) where
  pub row_slot : RoomIn h x → (r : ℕ) → r < h.r → RowSlot h x r
  row_slot room r l = slot_in h.r h.m (length x.rows) r room.in_rows l

  pub page_slot : RoomIn h x → (p : ℕ) → p < h.p → PageSlot h x p
  page_slot room p l = slot_in h.p (wide h) (length x.pages) p room.in_pages l

-- ---- memory

pub spare_same : {h : Sizes} {x : Mem} → Spare h x x
spare_same = record { pages = beyond_same; rows = beyond_same; blocks = beyond_same; table = beyond_same }

pub spare_then : {h : Sizes} {x y z : Mem} → Spare h x y → Spare h y z → Spare h x z
spare_then a b =
    record {
      pages = beyond_then a.pages b.pages;
      rows = beyond_then a.rows b.rows;
      blocks = beyond_then a.blocks b.blocks;
      table = beyond_then a.table b.table;
    }

-- a call that refuses where a test fails
pub spare_if : {h : Sizes} {x : Mem} (b : Bool) (d e : Did) → (b ≡ true → Spare h x d.after) → (b ≡ false → Spare h x e.after) → Spare h x (cond b d e).after
spare_if true d e p q = p refl
spare_if false d e p q = q refl

-- the slices stay as long as the sizes ask
pub spare_room : {h : Sizes} {x y : Mem} → Spare h x y → RoomIn h x → RoomIn h y
spare_room s r =
    record {
      in_pages = let a = s.pages.long in let b = r.in_pages in omega arith;
      in_rows = let a = s.rows.long in let b = r.in_rows in omega arith;
      in_blocks = let a = s.blocks.long in let b = r.in_blocks in omega arith;
      in_table = let a = s.table.long in let b = r.in_table in omega arith;
    }

-- ---- set_up

pub fresh_spare : (h : Sizes) (x : Mem) → RoomIn h x → Spare h x (fresh h x)
unfolding fresh
fresh_spare h x room =
    record {
      pages = zeroed_beyond (h.p * wide h) x.pages room.in_pages;
      rows = zeroed_beyond (h.r * h.m) x.rows room.in_rows;
      blocks = zeroed_beyond (h.p * blocks_of h) x.blocks room.in_blocks;
      table = record { long = fresh_table_length h x.table room.in_table; same = fresh_table_past h x.table };
    }

-- on any memory
pub set_up_spare : (h : Sizes) (x : Mem) → Spare h x (set_up_by h x).after
unfolding set_up_by
set_up_spare h x =
    spare_if (in_range h) (cond (room_in h x) (did (Ok tt) (fresh h x)) (did (Err too_short) x)) (did (Err outside_sizes) x)
    (λ a. spare_if (room_in h x) (did (Ok tt) (fresh h x)) (did (Err too_short) x) (λ b. fresh_spare h x ((room_of h x).sound b)) (λ b. spare_same))
    (λ a. spare_same)
