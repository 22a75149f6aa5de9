-- The short test where the rule holds: it finds each chunk's word, and the part of the pool that the word names; it never finds memory bad. Assumes nothing.
use mathlib.Core.Path.{◌≡◌, refl, sym, ap, ap₂, ◌∙◌}
use mathlib.Core.List.{List}
use mathlib.Core.Bool.{Bool, true, false, cond, ◌&&◌}
use Prim.Native.Nat.{ℕ, ◌+◌, ◌*◌, ◌≤◌}
use native.Mathlib.Omega.{arith}
use lib.ListN.{length, get_or}
use lib.Dec.{ltb}
use borrow.Author.Tests.{ltb-true, ltb-false, lt-ltb, le-leb}
use Rattle.sparse.specs.Row.{Rising}
use Rattle.layout.specs.Mem.{Mem}
use Rattle.document.specs.Sizes.{InRange}
use Rattle.layout.specs.Sizes.{RoomIn, wide, direct_at, over_at, over_count, head}
use Rattle.layout.specs.Entries.{word_of, place_of}
use Rattle.layout.specs.Follows.{Owned}
use Rattle.layout.specs.Tests.{Walked}
use Rattle.layout.specs.Short.{key_at, over_place, over_word, entries_in, direct_word, overflow_word, word_in, spot_on, spot_fits, spot_at, spot_of}
use Rattle.document.specs.declared.sizes.Sizes.{Sizes}
use Rattle.layout.specs.declared.place.Place.{Place}
use Rattle.layout.specs.declared.place.Place.TheVariants.{Absent, Sparse, Dense}
use Rattle.layout_laws.proofs.Sizes.{slot_inside}
use Rattle.layout_laws.proofs.Keys.{rising_by, beside_cut}
use Rattle.layout_laws.proofs.Halving.{lower_first}
use Rattle.layout_laws.proofs.Entries.{Ordered, walked_ordered, word_direct, word_of_direct, word_of_over, place_of_any}
use Rattle.document.specs.Refusals.{not_laid_out}
use Rattle.std.specs.Prelude.{Err, Ok}

-- ---- a chunk's word

-- the ids of overflow entries rise
pub over_rising : (h : Sizes) (t : List ℕ) → Ordered h t → Rising (λ (j : ℕ). get_or t (over_at h j) 0) (over_count t)
over_rising h t o = rising_by (λ (j : ℕ). get_or t (over_at h j) 0) (over_count t) (λ j l. (o.keys j (omega arith)).rising l)

module _ (h : Sizes) (t : List ℕ) (o : Ordered h t) (c : ℕ) where
  pub over_word_is : h.d ≤ c → over_word t (16 + 2 * h.d) (over_count t) c (over_place t (16 + 2 * h.d) (over_count t) c) ≡ word_of h t c
  over_word_is l =
      let key = key_at t (16 + 2 * h.d) in
      sym (word_of_over h t c l ∙ beside_cut key (λ (j : ℕ). get_or t (over_at h j + 1) 0) (over_count t) (over_place t (16 + 2 * h.d) (over_count t) c) c (over_rising h t o) (lower_first key (over_count t) c (over_rising h t o)))

pub entries_inside : (x : Mem) → InRange (head x) → RoomIn (head x) x → over_count x.table ≤ (head x).v → entries_in x.table (head x).d ≡ true
entries_inside x z room f =
    let d = (head x).d in
    let n = over_count x.table in
    let r = room.in_table in
    let v = z.v_high in
    ap₂ ◌&&◌
    (ap₂ ◌&&◌ (ap₂ ◌&&◌ (le-leb d 262144 z.d_high) (le-leb n 65536 (omega arith))) (le-leb (16 + 2 * d + 3 * n) (length x.table) (omega arith)))
    (le-leb n (head x).v f)

pub word_in_is : (x : Mem) → Walked x (head x) → (c : ℕ) → word_in x.table c ≡ Ok (word_of (head x) x.table c)
unfolding word_in
word_in_is x w c = go (ltb c (get_or x.table 2 0)) refl
  where
    go : (b : Bool) → ltb c (get_or x.table 2 0) ≡ b → cond b (direct_word x.table c) (overflow_word x.table (get_or x.table 2 0) c) ≡ Ok (word_of (head x) x.table c)
    go true e =
        let l = ltb-true c (get_or x.table 2 0) e in
        let r = w.room.in_table in
        ap (λ (b : Bool). cond b (Ok (get_or x.table (direct_at c) 0)) (Err not_laid_out)) (lt-ltb (direct_at c) (length x.table) (omega arith))
        ∙ ap Ok (sym (word_of_direct (head x) x.table (walked_ordered w) c l ∙ word_direct (head x) x.table c l))
    go false e =
        let l = ltb-false c (get_or x.table 2 0) e in
        ap (λ (b : Bool). cond b (Ok (over_word x.table (16 + 2 * get_or x.table 2 0) (over_count x.table) c (over_place x.table (16 + 2 * get_or x.table 2 0) (over_count x.table) c))) (Err not_laid_out))
        (entries_inside x w.sizes w.room w.over_fits)
        ∙ ap Ok (over_word_is (head x) x.table (walked_ordered w) c l)

-- ---- a place's part of its pool

-- every chunk's place is inside its pool, and the chunk's own
pub owned_of : {x : Mem} {h : Sizes} → Walked x h → (c : ℕ) → Owned h x.table c (place_of h x.table c)
owned_of {x} {h} w = place_of_any h x.table (walked_ordered w) (Owned h x.table) (λ c. tt) w.places

pub place_inside : (x : Mem) (h : Sizes) → InRange h → RoomIn h x → (c : ℕ) (p : Place) → Owned h x.table c p → spot_fits h (length x.pages) (length x.rows) p ≡ true
place_inside x h z r c Absent u = refl
place_inside x h z r c (Sparse i l) u =
    let a = r.in_rows in
    let s = slot_inside i h.r h.m u.there in
    ap₂ ◌&&◌
    (ap₂ ◌&&◌ (ap₂ ◌&&◌ (lt-ltb i h.r u.there) (le-leb h.m 1024 z.m_high)) (le-leb l h.m u.short))
    (le-leb (i * h.m + h.m) (length x.rows) (omega arith))
place_inside x h z r c (Dense p) u =
    let a = r.in_pages in
    let s = slot_inside p h.p (wide h) u.there in
    ap₂ ◌&&◌ (lt-ltb p h.p u.there) (le-leb (p * wide h + wide h) (length x.pages) (omega arith))

pub spot_inside : (x : Mem) (h : Sizes) → InRange h → RoomIn h x → (c : ℕ) (p : Place) → Owned h x.table c p → spot_at h (length x.pages) (length x.rows) p ≡ spot_on h p
spot_inside x h z r c p u = ap (λ (b : Bool). cond b (spot_on h p) (Err not_laid_out)) (place_inside x h z r c p u)

pub spot_is : {x : Mem} {h : Sizes} → Walked x h → (c : ℕ) → spot_of h (length x.pages) (length x.rows) (word_of h x.table c) ≡ spot_on h (place_of h x.table c)
unfolding spot_of
spot_is {x} {h} w c = spot_inside x h w.sizes w.room c (place_of h x.table c) (owned_of w c)
