-- Each test of the sizes, the lengths and the table decides its rule, and the walk all of them. Assumes nothing.
use mathlib.Core.Path.{◌≡◌, refl, sym, ap}
use mathlib.Core.Logic.{◌≢◌}
use mathlib.Core.List.{List}
use mathlib.Core.Bool.{Bool, true, false, cond}
use Prim.Native.Nat.{ℕ, ◌+◌, ◌*◌, ◌-◌, ◌^◌, ◌≤◌, ◌<◌}
use native.Mathlib.Omega.{arith}
use lib.ListN.{length, get_or}
use borrow.Author.Tests.{lt-ltb, le-ltb}
use Rattle.sums.specs.Rules.{all_to, Decides}
use Rattle.sums.proofs.Rules.{all_of, and_of, unless_of, not_of, if_of, bool_of, same_of, leb_of, ltb_of, eqb_of}
use Rattle.layout.specs.Mem.{Mem}
use Rattle.document.specs.Sizes.{InRange, last_chunk}
use Rattle.layout.specs.Sizes.{Roomy, RoomIn, wide, blocks_of, over_at, table_size, head, mode_at, over_count, total_at, rows_from, pages_from}
use Rattle.layout.specs.Places.{row_owner, page_owner}
use Rattle.layout.specs.Entries.{entries, chunk_at, prefix_at, place_at}
use Rattle.layout.specs.Follows.{AllZero, Key, Owned, FullTo}
use Rattle.layout.specs.Tests.{in_range, roomy, room_in, zero_at, zeros, key_is, word_is, owned_is, place_is, rows_owned, pages_owned, sparse_in, dense_in, owners_are, ranked_at, prefix_after, prefix_rises, ranks_rise, froms_are, Walked, head_is, over_is, entries_are, table_is, walked}
use Rattle.document.specs.declared.sizes.Sizes.{Sizes}
use Rattle.layout.specs.declared.place.Place.{Place}
use Rattle.layout.specs.declared.place.Place.TheVariants.{Absent, Sparse, Dense}
use Rattle.layout.proofs.FirstFree.{full_of}

pub always : Decides true Unit
always = record { sound = λ h. tt; whole = λ u. refl }

-- two tests of one statement agree
pub same_answer : (a b : Bool) {P : Type 0} → Decides a P → Decides b P → a ≡ b
same_answer true b d e = sym (e.whole (d.sound refl))
same_answer false true d e = d.whole (e.sound refl)
same_answer false false d e = refl

-- ---- sizes and lengths

pub range_of : (h : Sizes) → Decides (in_range h) (InRange h)
unfolding in_range
range_of h =
    same_of
    (and_of (and_of (and_of (and_of (and_of (and_of (and_of (leb_of 9 h.s) (leb_of h.s 25)) (leb_of 1 h.m)) (leb_of h.m 1024)) (leb_of h.d 262144)) (leb_of h.v 65536)) (leb_of h.r 65536)) (leb_of h.p 65536))
    (λ q. record { s_low = q.0.0.0.0.0.0.0; s_high = q.0.0.0.0.0.0.1; m_low = q.0.0.0.0.0.1; m_high = q.0.0.0.0.1; d_high = q.0.0.0.1; v_high = q.0.0.1; r_high = q.0.1; p_high = q.1 })
    (λ i. (((((((i.s_low, i.s_high), i.m_low), i.m_high), i.d_high), i.v_high), i.r_high), i.p_high))

pub roomy_of : (h : Sizes) (pages rows blocks table : ℕ) → Decides (roomy h pages rows blocks table) (Roomy h pages rows blocks table)
unfolding roomy
roomy_of h pages rows blocks table =
    same_of
    (and_of (and_of (and_of (leb_of (h.p * wide h) pages) (leb_of (h.r * h.m) rows)) (leb_of (h.p * blocks_of h) blocks)) (leb_of (table_size h) table))
    (λ q. record { in_pages = q.0.0.0; in_rows = q.0.0.1; in_blocks = q.0.1; in_table = q.1 })
    (λ i. (((i.in_pages, i.in_rows), i.in_blocks), i.in_table))

pub room_of : (h : Sizes) (x : Mem) → Decides (room_in h x) (RoomIn h x)
room_of h x = roomy_of h (length x.pages) (length x.rows) (length x.blocks) (length x.table)

-- ---- zeros

pub zeros_of : (xs : List ℕ) (a n : ℕ) → Decides (zeros xs a n) (AllZero xs a n)
unfolding zeros zero_at
zeros_of xs a n = all_of (zero_at xs a) n (λ i l. eqb_of (get_or xs (a + i) 0) 0)

-- ---- overflow ids, words and owners

pub key_of : (h : Sizes) (t : List ℕ) (j : ℕ) → Decides (key_is h t j) (Key h t j)
unfolding key_is
key_of h t j =
    let k = get_or t (over_at h j) 0 in
    same_of
    (and_of (and_of (leb_of h.d k) (ltb_of k (last_chunk h))) (unless_of (leb_of (over_count t) (j + 1)) (ltb_of k (get_or t (over_at h (j + 1)) 0))))
    (λ q. record { low = q.0.0; high = q.0.1; rising = λ l. q.1 (λ g. omega arith) })
    (λ g. ((g.low, g.high), λ n. g.rising (past n)))
  where
    past : {a b : ℕ} → (a ≤ b → ⊥) → b < a
    past n = omega arith

pub owned_of : (h : Sizes) (t : List ℕ) (c : ℕ) (q : Place) → Decides (owned_is h t c q) (Owned h t c q)
owned_of h t c Absent = always
owned_of h t c (Sparse r l) =
    same_of
    (and_of (and_of (and_of (ltb_of r h.r) (leb_of 1 l)) (leb_of l h.m)) (eqb_of (row_owner h t r) (c + 1)))
    (λ q. record { there = q.0.0.0; some = q.0.0.1; short = q.0.1; owner = q.1 })
    (λ g. (((g.there, g.some), g.short), g.owner))
owned_of h t c (Dense p) =
    same_of
    (and_of (ltb_of p h.p) (eqb_of (page_owner h t p) (c + 1)))
    (λ q. record { there = q.0; owner = q.1 })
    (λ g. (g.there, g.owner))

-- ---- prefixes

-- what follows the prefix of entry e
module _ (h : Sizes) (t : List ℕ) (e : ℕ) where
  pub after_entry : e + 1 < entries h t → prefix_after h t e ≡ prefix_at h t (e + 1)
  unfolding prefix_after
  after_entry l = ap (λ (b : Bool). cond b (prefix_at h t (e + 1)) (total_at t)) (lt-ltb (e + 1) (entries h t) l)

  pub after_all : entries h t ≤ e + 1 → prefix_after h t e ≡ total_at t
  unfolding prefix_after
  after_all l = ap (λ (b : Bool). cond b (prefix_at h t (e + 1)) (total_at t)) (le-ltb (e + 1) (entries h t) l)

-- ---- the walk

pub record HeadIs (h : Sizes) (x : Mem) : Type 0 where
  pub sizes : InRange h
  pub room : RoomIn h x
  pub mode : mode_at x.table ≤ 1
  pub over_fits : over_count x.table ≤ h.v

pub head_of : (h : Sizes) (x : Mem) → Decides (head_is h x) (HeadIs h x)
unfolding head_is
head_of h x =
    same_of
    (and_of (and_of (and_of (range_of h) (room_of h x)) (leb_of (mode_at x.table) 1)) (leb_of (over_count x.table) h.v))
    (λ q. record { sizes = q.0.0.0; room = q.0.0.1; mode = q.0.1; over_fits = q.1 })
    (λ g. (((g.sizes, g.room), g.mode), g.over_fits))

module _ (h : Sizes) (t : List ℕ) where
  pub keys_of : Decides (all_to (key_is h t) (over_count t)) ((j : ℕ) → j < over_count t → Key h t j)
  keys_of = all_of (key_is h t) (over_count t) (λ j l. key_of h t j)

  words_of : Decides (all_to (word_is h t) (over_count t)) ((j : ℕ) → j < over_count t → get_or t (over_at h j + 1) 0 ≢ 0)
  unfolding word_is
  words_of = all_of (word_is h t) (over_count t) (λ j l. not_of (eqb_of (get_or t (over_at h j + 1) 0) 0))

  pub places_of : Decides (all_to (place_is h t) (entries h t)) ((e : ℕ) → e < entries h t → Owned h t (chunk_at h t e) (place_at h t e))
  unfolding place_is
  places_of = all_of (place_is h t) (entries h t) (λ e l. owned_of h t (chunk_at h t e) (place_at h t e))

  owners_of : Decides (owners_are h t) ((rows_owned h t ≡ sparse_in h t (entries h t)) × (pages_owned h t ≡ dense_in h t (entries h t)))
  unfolding owners_are
  owners_of = and_of (eqb_of (rows_owned h t) (sparse_in h t (entries h t))) (eqb_of (pages_owned h t) (dense_in h t (entries h t)))

  Rises : Type 0
  Rises = ((e : ℕ) → e < entries h t → prefix_at h t e ≤ prefix_after h t e) × (total_at t < 2 ^ 63)

  rise_of : Decides (ranks_rise h t) (ranked_at t ≡ true → Rises)
  unfolding ranks_rise prefix_rises Rises
  rise_of =
      if_of (bool_of (ranked_at t))
      (and_of (all_of (prefix_rises h t) (entries h t) (λ e l. leb_of (prefix_at h t e) (prefix_after h t e))) (ltb_of (total_at t) (2 ^ 63)))

  froms_of : Decides (froms_are h t) (FullTo (row_owner h t) h.r (rows_from t) × FullTo (page_owner h t) h.p (pages_from t))
  unfolding froms_are
  froms_of = and_of (full_of (row_owner h t) h.r (rows_from t)) (full_of (page_owner h t) h.p (pages_from t))

pub walked_of : (x : Mem) → Decides (walked x) (Walked x (head x))
unfolding walked table_is over_is entries_are Rises
walked_of x =
    let h = head x in
    let t = x.table in
    same_of
    (and_of (head_of h x)
    (and_of (and_of (and_of (and_of (zeros_of t 11 5)
    (and_of (and_of (keys_of h t) (words_of h t)) (zeros_of t (over_at h (over_count t)) (3 * (h.v - over_count t)))))
    (and_of (places_of h t) (owners_of h t))) (rise_of h t)) (froms_of h t)))
    (λ q. record {
      sizes = q.0.sizes;
      room = q.0.room;
      mode = q.0.mode;
      unused = q.1.0.0.0.0;
      over_fits = q.0.over_fits;
      keys = q.1.0.0.0.1.0.0;
      words = q.1.0.0.0.1.0.1;
      spare = q.1.0.0.0.1.1;
      places = q.1.0.0.1.0;
      rows_used = q.1.0.0.1.1.0;
      pages_used = q.1.0.0.1.1.1;
      rising = λ r. (q.1.0.1 r).0;
      total = λ r. (q.1.0.1 r).1;
      rows_full_to = q.1.1.0;
      pages_full_to = q.1.1.1;
    })
    (λ w. (
      record { sizes = w.sizes; room = w.room; mode = w.mode; over_fits = w.over_fits },
      ((((w.unused, ((w.keys, w.words), w.spare)), (w.places, (w.rows_used, w.pages_used))), λ r. (w.rising r, w.total r)), (w.rows_full_to, w.pages_full_to)),
    ))
