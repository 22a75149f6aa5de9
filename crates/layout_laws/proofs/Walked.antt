-- Memory that follows the layout passes the walk over the table; what the walk says of sums of members and of prefixes. Assumes nothing.
use mathlib.Core.Path.{◌≡◌, refl, ap, ◌∙◌}
use mathlib.Core.List.{List}
use mathlib.Core.Bool.{Bool, true, false, cond}
use Prim.Native.Nat.{ℕ, zero, suc, ◌+◌, ◌-◌, ◌^◌, ◌≤◌, ◌<◌}
use native.Mathlib.Omega.{arith}
use lib.Dec.{ltb}
use lib.Pow.{pow_mono}
use borrow.Author.Tests.{ltb-true, ltb-false}
use Rattle.sums.specs.Sums.{sum_to}
use Rattle.sums.proofs.Sums.{sum_next, sum_bound}
use Rattle.dense.proofs.Counts.{bits_le}
use Rattle.document.specs.Sizes.{InRange, top}
use Rattle.document.specs.declared.sizes.Sizes.{Sizes}
use Rattle.layout.specs.Mem.{Mem, mem}
use Rattle.layout.specs.Sizes.{RoomIn, head, over_count, total_at}
use Rattle.layout.specs.Places.{page_part}
use Rattle.layout.specs.Entries.{entries, chunk_at, prefix_at, place_at}
use Rattle.layout.specs.Meaning.{ranked}
use Rattle.layout.specs.Follows.{Owned, size_of, members_at, when_ranked, Laid, Follows}
use Rattle.layout.specs.Tests.{prefix_after, Walked, walked}
use Rattle.layout.specs.declared.place.Place.{Place}
use Rattle.layout.specs.declared.place.Place.TheVariants.{Absent, Sparse, Dense}
use Rattle.layout.proofs.Tests.{after_entry, after_all, walked_of}
use Rattle.layout_laws.specs.Chunks.{first_entry, first_rank}

-- ---- members are few

pub size_small : (h : Sizes) (pages t : List ℕ) → InRange h → (c : ℕ) (q : Place) → Owned h t c q → size_of h pages q ≤ 33554432
size_small h pages t z c Absent u = omega arith
size_small h pages t z c (Sparse r l) u = let a = u.short in let b = z.m_high in omega arith
size_small h pages t z c (Dense p) u =
    let a = bits_le (page_part h pages p) (top h) in
    let b : top h ≤ 2 ^ 25 = pow_mono {i = h.s} {j = 25} z.s_high in
    omega arith

module _ (x : Mem) (h : Sizes) (z : InRange h) (f : over_count x.table ≤ h.v)
    (places : (e : ℕ) → e < entries h x.table → Owned h x.table (chunk_at h x.table e) (place_at h x.table e)) where
  members_few : (e : ℕ) → e < entries h x.table → members_at h x e ≤ 33554432
  unfolding members_at
  members_few e l = size_small h x.pages x.table z (chunk_at h x.table e) (place_at h x.table e) (places e l)

  sum_few : (e : ℕ) → e ≤ entries h x.table → sum_to (members_at h x) e < 17592186044416
  sum_few e l =
      let d = z.d_high in
      let v = z.v_high in
      let a = sum_bound (members_at h x) 33554432 e (λ i m. members_few i (omega arith)) in
      omega arith

-- no entry has more than 2^25 members, so that no sum of them is 2^44
module _ {x : Mem} {h : Sizes} (w : Walked x h) where
  pub members_small : (e : ℕ) → e < entries h x.table → members_at h x e ≤ 33554432
  members_small = members_few x h w.sizes w.over_fits w.places

  pub sum_small : (e : ℕ) → e ≤ entries h x.table → sum_to (members_at h x) e < 17592186044416
  sum_small = sum_few x h w.sizes w.over_fits w.places

-- ---- the rule, and the walk

module _ {x : Mem} {h : Sizes} (w : Laid x h) (r : ranked x ≡ true) where
  kept_all : (n : ℕ) → when_ranked x n ≡ n
  kept_all n = ap (λ (b : Bool). cond b n 0) r

  -- a prefix and the members of its entry are the next prefix
  prefix_adds : (e : ℕ) → e < entries h x.table → prefix_after h x.table e ≡ prefix_at h x.table e + members_at h x e
  prefix_adds e l = go (ltb (e + 1) (entries h x.table)) refl
    where
      go : (b : Bool) → ltb (e + 1) (entries h x.table) ≡ b → prefix_after h x.table e ≡ prefix_at h x.table e + members_at h x e
      go true t =
          let m = ltb-true (e + 1) (entries h x.table) t in
          let a = after_entry h x.table e m in
          let b = w.prefixes e l ∙ kept_all (sum_to (members_at h x) e) in
          let d = w.prefixes (e + 1) m ∙ kept_all (sum_to (members_at h x) (e + 1)) in
          let s = sum_next (members_at h x) e in
          omega arith
      go false t =
          let m = ltb-false (e + 1) (entries h x.table) t in
          let q : e + 1 ≡ entries h x.table = omega arith in
          let a = after_all h x.table e m in
          let b = w.prefixes e l ∙ kept_all (sum_to (members_at h x) e) in
          let d = w.total ∙ kept_all (sum_to (members_at h x) (entries h x.table)) in
          let s = sum_next (members_at h x) e in
          let k = ap (sum_to (members_at h x)) q in
          omega arith

  total_fits : total_at x.table < 2 ^ 63
  total_fits =
      let d = w.total ∙ kept_all (sum_to (members_at h x) (entries h x.table)) in
      let s = sum_few x h w.sizes w.over_fits w.places (entries h x.table) (omega arith) in
      omega arith

pub laid_walked : {x : Mem} {h : Sizes} → Laid x h → Walked x h
laid_walked w = record {
  sizes = w.sizes;
  room = w.room;
  mode = w.mode;
  unused = w.unused;
  over_fits = w.over_fits;
  keys = w.keys;
  words = w.words;
  spare = w.spare;
  places = w.places;
  rows_used = w.rows_used;
  pages_used = w.pages_used;
  rising = λ r e l. (let a = prefix_adds w r e l in omega arith);
  total = total_fits w;
  rows_full_to = w.rows_full_to;
  pages_full_to = w.pages_full_to;
}

-- the same table, with other pools that are long enough
pub walked_beside : {x : Mem} {h : Sizes} → Walked x h → (p r b : List ℕ) → RoomIn h (mem p r b x.table) → Walked (mem p r b x.table) h
walked_beside w p r b room = record {
  sizes = w.sizes;
  room = room;
  mode = w.mode;
  unused = w.unused;
  over_fits = w.over_fits;
  keys = w.keys;
  words = w.words;
  spare = w.spare;
  places = w.places;
  rows_used = w.rows_used;
  pages_used = w.pages_used;
  rising = w.rising;
  total = w.total;
  rows_full_to = w.rows_full_to;
  pages_full_to = w.pages_full_to;
}

pub follows_walked : {x : Mem} → Follows x → walked x ≡ true
follows_walked {x} w = (walked_of x).whole (laid_walked w)

-- ---- prefixes of a ranked set that passed the walk

module _ {x : Mem} {h : Sizes} (w : Walked x h) (r : ranked x ≡ true) where
  -- n entries from the last
  from_last : (n e : ℕ) → e + 1 + n ≡ entries h x.table → prefix_at h x.table e ≤ total_at x.table
  from_last zero e q =
      let a = after_all h x.table e (omega arith) in
      let b = w.rising r e (omega arith) in
      omega arith
  from_last (suc n) e q =
      let a = after_entry h x.table e (omega arith) in
      let b = w.rising r e (omega arith) in
      let d = from_last n (e + 1) (omega arith) in
      omega arith

  pub prefix_total : (e : ℕ) → e < entries h x.table → prefix_at h x.table e ≤ total_at x.table
  prefix_total e l = from_last (entries h x.table - e - 1) e (omega arith)

-- what such a set says of a chunk's first id fits beside the members of a chunk
pub first_fits : {x : Mem} → Walked x (head x) → ranked x ≡ true → (c : ℕ) → first_rank x c < 2 ^ 63
unfolding first_rank
first_fits {x} w r c = go (ltb (first_entry (head x) x.table c) (entries (head x) x.table)) refl
  where
    go : (b : Bool) → ltb (first_entry (head x) x.table c) (entries (head x) x.table) ≡ b
        → cond b (prefix_at (head x) x.table (first_entry (head x) x.table c)) (total_at x.table) < 2 ^ 63
    go true e =
        let a = prefix_total w r (first_entry (head x) x.table c) (ltb-true (first_entry (head x) x.table c) (entries (head x) x.table) e) in
        let b = w.total r in
        omega arith
    go false e = w.total r
