-- Union on any two memories that pass the walk: entries of new chunks are as many as judging counted, so there is room for each. Assumes nothing.
use mathlib.Core.Path.{◌≡◌, refl, sym, ap, ap₂, subst, ◌∙◌}
use mathlib.Core.Logic.{◌⊎◌, inl, inr, ◌≢◌}
use mathlib.Core.List.{List}
use mathlib.Core.Bool.{Bool, true, false, cond, not, ◌&&◌}
use Prim.Native.Nat.{ℕ, ◌+◌, ◌*◌, ◌-◌, ◌/◌, ◌%◌, ◌≤◌, ◌<◌}
use native.Mathlib.Omega.{arith}
use lib.ListN.{length}
use lib.Dec.{ltb, eqb}
use borrow.Author.Tests.{ltb-true, ltb-false, le-leb, ne_eqb}
use Rattle.sums.specs.Ids.{count}
use Rattle.sums.proofs.Rules.{both}
use Rattle.document.specs.Sizes.{last_chunk}
use Rattle.document.specs.Union.{same_shape}
use Rattle.document.specs.declared.sizes.Sizes.{Sizes}
use Rattle.layout.specs.Mem.{Mem, mem}
use Rattle.layout.specs.Sizes.{RoomIn, wide, table_size, head, over_count}
use Rattle.layout.specs.Places.{decoded, encoded}
use Rattle.layout.specs.Entries.{entries, chunk_at, place_of}
use Rattle.layout.specs.Spare.{Beyond, Spare}
use Rattle.layout.specs.Tests.{Walked}
use Rattle.layout.specs.Writes.{put_word}
use Rattle.layout.specs.declared.place.Place.{Place}
use Rattle.layout.specs.declared.place.Place.TheVariants.{Absent, Sparse, Dense}
use Rattle.layout.proofs.Added.{same_or}
use Rattle.layout_laws.proofs.Entries.{Ordered, walked_ordered, chunk_direct}
use Rattle.layout_laws.proofs.Spares.{EntryRoom, room_ordered, beyond_same, spare_same, spare_then, spare_room}
use Rattle.steps.specs.Steps.{rowed}
use Rattle.steps.proofs.Puts as puts
use Rattle.steps.proofs.Puts.{Put}
use Rattle.steps.proofs.Table.{run_of, Wrote, header_kept, row_owner_set}
use Rattle.steps.proofs.Words.{put_word_law}
use Rattle.steps.proofs.Orders.{wrote_ordered, wrote_place, wrote_place_off}
use Rattle.steps.proofs.Slots.{entry_none}
use Rattle.calls.proofs.Needed.{count_imp}
use Rattle.unions.specs.Union.{standing, source, source_chunk, source_entries, is_placed, new_entry, over_after}
use Rattle.unions.proofs.Standing.{standing_is, chunk_in}
use Rattle.unions.proofs.Results.{same_last}
use Rattle.unions.proofs.Rooms.{count_under}

-- the step into a row writes one word, owners aside
pub rowed_wrote : (h : Sizes) (x : Mem) → Ordered h x.table → table_size h ≤ length x.table → over_count x.table ≤ h.v → (c : ℕ)
    → (((e : ℕ) → e < entries h x.table → chunk_at h x.table e ≢ c) → over_count x.table < h.v)
    → (r l : ℕ) (row : List ℕ) → Wrote h x.table (rowed h x c r l row).table c (encoded (Sparse r l))
unfolding rowed
rowed_wrote h x o room fits c free r l row =
    let t = x.table in
    let w = encoded (Sparse r l) in
    row_owner_set h t (put_word h t c w) c w (put_word_law h t o room fits c w free).wrote r (c + 1)

word_placed : (w : ℕ) → w ≢ 0 → is_placed (decoded w) ≡ true
word_placed w d = go (eqb w 0) (ne_eqb w 0 d) (ltb w 268435456)
  where
    go : (a : Bool) → a ≡ false → (b : Bool) → is_placed (cond a Absent (cond b (Sparse ((w - 1) / 2048) ((w - 1) % 2048)) (Dense (w - 268435456)))) ≡ true
    go true e b = absurd cc
    go false e true = refl
    go false e false = refl

-- ---- memory on the way

-- chunks of the source that were not here, and are by now
abbrev pub entered : Mem → Mem → Mem → ℕ → Bool
entered x y z e = new_entry x y e && is_placed (place_of (head z) z.table (source_chunk y e))

pub record Sound (x y z : Mem) : Type 0 where
  pub ordered : Ordered (head z) z.table
  pub sizes : head z ≡ head x
  pub room : RoomIn (head z) z
  pub fits : over_count z.table ≤ (head z).v
  pub kept : (i : ℕ) → is_placed (place_of (head x) x.table i) ≡ true → is_placed (place_of (head z) z.table i) ≡ true
  pub counted : over_count z.table ≤ over_count x.table + count (entered x y z) (source_entries y)
  pub spare : Spare (head x) x z

pub sound_start : {x : Mem} (y : Mem) → Walked x (head x) → Sound x y x
sound_start {x} y w =
    record { ordered = walked_ordered w; sizes = refl; room = w.room; fits = w.over_fits; kept = λ i p. p; counted = omega arith; spare = spare_same }

and_false : (b : Bool) → (b && false) ≡ false
and_false true = refl
and_false false = refl

module _ {x y : Mem} (w : Walked x (head x)) (v : Walked y (head y)) (same : same_shape (head x) (head y) ≡ true) (over : over_after x y ≤ (head x).v)
    {z : Mem} (s : Sound x y z) where
  -- only pages are written
  pub sound_pages : (pages : List ℕ) → Beyond ((head z).p * wide (head z)) z.pages pages → Sound x y (mem pages z.rows z.blocks z.table)
  sound_pages pages b =
      let n = mem pages z.rows z.blocks z.table in
      let p : Spare (head z) z n = record { pages = b; rows = beyond_same; blocks = beyond_same; table = beyond_same } in
      record {
        ordered = s.ordered;
        sizes = s.sizes;
        room = spare_room p s.room;
        fits = s.fits;
        kept = s.kept;
        counted = s.counted;
        spare = spare_then s.spare (subst (λ (h : Sizes). Spare h z n) s.sizes p);
      }

  -- ---- the chunk of an entry of the source

  module _ (e : ℕ) (l : e < source_entries y) (some : is_placed (source y e) ≡ true) where
    abbrev c : ℕ
    c = source_chunk y e

    abbrev Missing : Type 0
    Missing = (j : ℕ) → j < entries (head z) z.table → chunk_at (head z) z.table j ≢ c

    far : c < last_chunk (head z)
    far = subst (λ (h : Sizes). c < last_chunk h) (sym s.sizes) (let a = chunk_in v e l in let b = same_last x y same in omega arith)

    -- without an entry it was not here before, and judging counted it
    past : Missing → (head x).d ≤ c
    past none = go (ltb c (head x).d) refl
      where
        go : (b : Bool) → ltb c (head x).d ≡ b → (head x).d ≤ c
        go true k =
            let a = ltb-true c (head x).d k in
            let d = ap (λ (h : Sizes). h.d) s.sizes in
            absurd (none c (omega arith) (chunk_direct (head z) z.table c (omega arith)))
        go false k = ltb-false c (head x).d k

    absent : Missing → place_of (head z) z.table c ≡ Absent
    absent none = entry_none (head z) z.table c none

    not_here : Missing → is_placed (standing x c) ≡ false
    not_here none = ap is_placed (standing_is w c) ∙ go (is_placed (place_of (head x) x.table c)) refl
      where
        go : (b : Bool) → is_placed (place_of (head x) x.table c) ≡ b → b ≡ false
        go true k = absurd (let a = s.kept c k in let b = ap is_placed (absent none) in cc)
        go false k = refl

    new : Missing → new_entry x y e ≡ true
    unfolding new_entry
    new none = ap₂ ◌&&◌ some (ap₂ ◌&&◌ (le-leb (head x).d c (past none)) (ap not (not_here none)))

    not_yet : Missing → entered x y z e ≡ false
    not_yet none = ap (λ (q : Place). new_entry x y e && is_placed q) (absent none) ∙ and_false (new_entry x y e)

    was_new : (j : ℕ) → entered x y z j ≡ true → new_entry x y j ≡ true
    was_new j p = (both (new_entry x y j) (is_placed (place_of (head z) z.table (source_chunk y j))) p).0

    pub entry_left : ((j : ℕ) → j < entries (head z) z.table → chunk_at (head z) z.table j ≢ source_chunk y e) → over_count z.table < (head z).v
    entry_left none =
        let a = count_under (entered x y z) (new_entry x y) e (source_entries y) l was_new (not_yet none) (new none) in
        let b = s.counted in
        let d = ap (λ (h : Sizes). h.v) s.sizes in
        omega arith

    pub entry_room : EntryRoom (head z) z.table (source_chunk y e)
    entry_room = room_ordered (head z) z.table s.ordered s.fits c entry_left

    -- ---- and with its word written

    module _ (n : Mem) (u : ℕ) (wrote : Wrote (head z) z.table n.table c u) (put : u ≢ 0) where
      same_head : head n ≡ head z
      same_head = header_kept (head z) z.table n.table c u wrote

      placed_now : (i : ℕ) → (i ≡ c) ⊎ (i ≢ c) → is_placed (place_of (head z) z.table i) ≡ true → is_placed (place_of (head z) n.table i) ≡ true
      placed_now i (inl k) p =
          ap (λ (j : ℕ). is_placed (place_of (head z) n.table j)) k
          ∙ ap is_placed (wrote_place (head z) z.table n.table c u s.ordered wrote)
          ∙ word_placed u put
      placed_now i (inr d) p = ap is_placed (wrote_place_off (head z) z.table n.table c u s.ordered wrote i d) ∙ p

      still_placed : (i : ℕ) → is_placed (place_of (head z) z.table i) ≡ true → is_placed (place_of (head n) n.table i) ≡ true
      still_placed i p = ap (λ (h : Sizes). is_placed (place_of h n.table i)) same_head ∙ placed_now i (same_or i c) p

      here_now : is_placed (place_of (head n) n.table c) ≡ true
      here_now =
          ap (λ (h : Sizes). is_placed (place_of h n.table c)) same_head
          ∙ ap is_placed (wrote_place (head z) z.table n.table c u s.ordered wrote)
          ∙ word_placed u put

      still_entered : (j : ℕ) → entered x y z j ≡ true → entered x y n j ≡ true
      still_entered j p =
          let g = both (new_entry x y j) (is_placed (place_of (head z) z.table (source_chunk y j))) p in
          ap₂ ◌&&◌ g.0 (still_placed (source_chunk y j) g.1)

      counts : over_count n.table ≤ over_count x.table + count (entered x y n) (source_entries y)
      counts = go wrote.put
        where
          go : Put (run_of (head z) z.table) (run_of (head z) n.table) c u
              → over_count n.table ≤ over_count x.table + count (entered x y n) (source_entries y)
          go (puts.changed j k) =
              let a = count_imp (entered x y z) (entered x y n) (source_entries y) still_entered in
              let b = s.counted in
              let d = k.size in
              omega arith
          go (puts.added j k) =
              let a = count_under (entered x y z) (entered x y n) e (source_entries y) l still_entered (not_yet k.none) (ap₂ ◌&&◌ (new k.none) here_now) in
              let b = s.counted in
              let d = k.size in
              omega arith

      pub sound_wrote : Spare (head z) z n → Sound x y n
      sound_wrote p =
          let a = wrote.fits in
          let b = ap (λ (h : Sizes). h.v) same_head in
          record {
            ordered = subst (λ (h : Sizes). Ordered h n.table) (sym same_head) (wrote_ordered (head z) z.table n.table c u s.ordered wrote far);
            sizes = same_head ∙ s.sizes;
            room = subst (λ (h : Sizes). RoomIn h n) (sym same_head) (spare_room p s.room);
            fits = omega arith;
            kept = λ i g. still_placed i (s.kept i g);
            counted = counts;
            spare = spare_then s.spare (subst (λ (h : Sizes). Spare h z n) s.sizes p);
          }
