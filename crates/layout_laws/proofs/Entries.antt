-- The directory's entries: their chunk ids rise, a chunk stands in at most one of them, and sums over chunks are sums over entries. Assumes nothing.
use mathlib.Core.Path.{◌≡◌, refl, sym, ap, ap₂, subst, ◌∙◌}
use mathlib.Core.Logic.{◌≢◌}
use mathlib.Core.List.{List}
use mathlib.Core.Bool.{Bool, true, false, cond}
use Prim.Native.Nat.{ℕ, ◌+◌, ◌-◌, ◌≤◌, ◌<◌}
use native.Mathlib.Omega.{arith}
use lib.ListN.{get_or}
use lib.Dec.{ltb, eqb}
use mir.Val.{bool_byte}
use borrow.Author.Tests.{ltb-true, ltb-false, lt-ltb, le-ltb, ne_eqb}
use Rattle.sums.specs.Sums.{sum_to}
use Rattle.sums.specs.Ids.{count}
use Rattle.sums.proofs.Sums.{sum_ext, sum_none, sum_split}
use Rattle.sparse.specs.Row.{Rising}
use Rattle.layout.specs.Mem.{Mem}
use Rattle.document.specs.Sizes.{InRange, last_chunk}
use Rattle.layout.specs.Sizes.{over_at, direct_at, over_count}
use Rattle.layout.specs.Places.{decoded}
use Rattle.layout.specs.Entries.{entries, chunk_at, word_at, prefix_at, place_at, beside, word_of, place_of}
use Rattle.layout.specs.Follows.{Key, Laid}
use Rattle.layout.specs.Tests.{Walked}
use Rattle.document.specs.declared.sizes.Sizes.{Sizes}
use Rattle.layout.specs.declared.place.Place.{Place}
use Rattle.layout.specs.declared.place.Place.TheVariants.{Absent}
use Rattle.layout_laws.proofs.Sizes.{direct_last}
use Rattle.layout_laws.proofs.Keys.{Sought, found, missed, seek, rising_by, rising_same, beside_none, beside_at, Cut, cut_all, cut_key, sum_beside}

-- ---- entry by entry, on any table

module _ (h : Sizes) (t : List ℕ) where
  pub chunk_direct : (e : ℕ) → e < h.d → chunk_at h t e ≡ e
  unfolding chunk_at
  chunk_direct e l = ap (λ (b : Bool). cond b e (get_or t (over_at h (e - h.d)) 0)) (lt-ltb e h.d l)

  pub word_direct : (e : ℕ) → e < h.d → word_at h t e ≡ get_or t (direct_at e) 0
  unfolding word_at
  word_direct e l = ap (λ (b : Bool). get_or t (cond b (direct_at e) (over_at h (e - h.d) + 1)) 0) (lt-ltb e h.d l)

  pub prefix_direct : (e : ℕ) → e < h.d → prefix_at h t e ≡ get_or t (direct_at e + 1) 0
  unfolding prefix_at
  prefix_direct e l = ap (λ (b : Bool). get_or t (cond b (direct_at e + 1) (over_at h (e - h.d) + 2)) 0) (lt-ltb e h.d l)

  past_direct : (j : ℕ) → ltb (h.d + j) h.d ≡ false
  past_direct j = le-ltb (h.d + j) h.d (omega arith)

  over_back : (j : ℕ) → over_at h (h.d + j - h.d) ≡ over_at h j
  over_back j = let e : h.d + j - h.d ≡ j = omega arith in ap (over_at h) e

  pub chunk_over : (j : ℕ) → chunk_at h t (h.d + j) ≡ get_or t (over_at h j) 0
  unfolding chunk_at
  chunk_over j = ap (λ (b : Bool). cond b (h.d + j) (get_or t (over_at h (h.d + j - h.d)) 0)) (past_direct j) ∙ ap (λ (i : ℕ). get_or t i 0) (over_back j)

  pub word_over : (j : ℕ) → word_at h t (h.d + j) ≡ get_or t (over_at h j + 1) 0
  unfolding word_at
  word_over j = ap (λ (b : Bool). get_or t (cond b (direct_at (h.d + j)) (over_at h (h.d + j - h.d) + 1)) 0) (past_direct j) ∙ ap (λ (i : ℕ). get_or t (i + 1) 0) (over_back j)

  pub prefix_over : (j : ℕ) → prefix_at h t (h.d + j) ≡ get_or t (over_at h j + 2) 0
  unfolding prefix_at
  prefix_over j = ap (λ (b : Bool). get_or t (cond b (direct_at (h.d + j) + 1) (over_at h (h.d + j - h.d) + 2)) 0) (past_direct j) ∙ ap (λ (i : ℕ). get_or t (i + 2) 0) (over_back j)

-- entry e is direct, or overflow entry j
pub data Which (d e : ℕ) : Type 0 where
  direct : e < d → Which d e
  over : (j : ℕ) → e ≡ d + j → Which d e

pub which : (d e : ℕ) → Which d e
which d e = go (ltb e d) refl
  where
    go : (b : Bool) → ltb e d ≡ b → Which d e
    go true t = direct (ltb-true e d t)
    go false t = let m = ltb-false e d t in over (e - d) (omega arith)

-- ---- where the ids of overflow entries rise

-- the rules on sizes and overflow ids
pub record Ordered (h : Sizes) (t : List ℕ) : Type 0 where
  pub sizes : InRange h
  pub keys : (j : ℕ) → j < over_count t → Key h t j

pub walked_ordered : {x : Mem} {h : Sizes} → Walked x h → Ordered h x.table
walked_ordered w = record { sizes = w.sizes; keys = w.keys }

pub laid_ordered : {x : Mem} {h : Sizes} → Laid x h → Ordered h x.table
laid_ordered w = record { sizes = w.sizes; keys = w.keys }

module _ (h : Sizes) (t : List ℕ) (o : Ordered h t) where
  pub chunk_below : (e : ℕ) → e < entries h t → chunk_at h t e < last_chunk h
  chunk_below e l = go (which h.d e)
    where
      go : Which h.d e → chunk_at h t e < last_chunk h
      go (direct m) = let a = chunk_direct h t e m in let b = direct_last h o.sizes in omega arith
      go (over j q) = let a = ap (chunk_at h t) q ∙ chunk_over h t j in let b = (o.keys j (omega arith)).high in omega arith

  -- the chunk of an overflow entry is not direct
  pub chunk_past : (e : ℕ) → h.d ≤ e → e < entries h t → h.d ≤ chunk_at h t e
  chunk_past e m l = go (which h.d e)
    where
      go : Which h.d e → h.d ≤ chunk_at h t e
      go (direct a) = absurd (omega arith)
      go (over j q) = let a = ap (chunk_at h t) q ∙ chunk_over h t j in let b = (o.keys j (omega arith)).low in omega arith

  pub chunk_rising : Rising (chunk_at h t) (entries h t)
  chunk_rising = rising_by (chunk_at h t) (entries h t) (λ e l. go e l (which h.d e) (which h.d (e + 1)))
    where
      go : (e : ℕ) → e + 1 < entries h t → Which h.d e → Which h.d (e + 1) → chunk_at h t e < chunk_at h t (e + 1)
      go e l (direct a) (direct b) = let p = chunk_direct h t e a in let q = chunk_direct h t (e + 1) b in omega arith
      go e l (direct a) (over j q) = let p = chunk_direct h t e a in let c = chunk_past (e + 1) (omega arith) l in omega arith
      go e l (over j q) w =
          let p = ap (chunk_at h t) q ∙ chunk_over h t j in
          let m : e + 1 ≡ h.d + (j + 1) = omega arith in
          let r = ap (chunk_at h t) m ∙ chunk_over h t (j + 1) in
          let k = (o.keys j (omega arith)).rising (omega arith) in
          omega arith

  -- a chunk stands in at most one entry
  pub chunk_once : (i e : ℕ) → i < entries h t → e < entries h t → chunk_at h t i ≡ chunk_at h t e → i ≡ e
  chunk_once = rising_same (chunk_at h t) (entries h t) chunk_rising

  -- ---- a chunk's word

  pub word_of_at : (e : ℕ) → e < entries h t → word_of h t (chunk_at h t e) ≡ word_at h t e
  unfolding word_of
  word_of_at e l = beside_at (chunk_at h t) (word_at h t) (entries h t) (chunk_at h t e) chunk_rising e l refl

  pub place_of_at : (e : ℕ) → e < entries h t → place_of h t (chunk_at h t e) ≡ place_at h t e
  place_of_at e l = ap decoded (word_of_at e l)

  pub word_of_direct : (c : ℕ) → c < h.d → word_of h t c ≡ word_at h t c
  word_of_direct c l = ap (word_of h t) (sym (chunk_direct h t c l)) ∙ word_of_at c (omega arith)

  -- no chunk id is 2^(63-s) or more
  pub word_of_past : (c : ℕ) → last_chunk h ≤ c → word_of h t c ≡ 0
  unfolding word_of
  word_of_past c l = beside_none (chunk_at h t) (word_at h t) (entries h t) c (λ e m q. let a = chunk_below e m in omega arith)

  pub place_of_past : (c : ℕ) → last_chunk h ≤ c → place_of h t c ≡ Absent
  place_of_past c l = ap decoded (word_of_past c l)

  -- ---- sums over chunks

  module _ (g : ℕ → Place → ℕ) (none : (c : ℕ) → g c Absent ≡ 0) where
    pub sum_cut : (k N : ℕ) → Cut (chunk_at h t) (entries h t) k N → sum_to (λ (c : ℕ). g c (place_of h t c)) N ≡ sum_to (λ (e : ℕ). g (chunk_at h t e) (place_at h t e)) k
    unfolding word_of
    sum_cut = sum_beside (chunk_at h t) (word_at h t) (entries h t) chunk_rising (λ (c w : ℕ). g c (decoded w)) none

    pub sum_chunks : sum_to (λ (c : ℕ). g c (place_of h t c)) (last_chunk h) ≡ sum_to (λ (e : ℕ). g (chunk_at h t e) (place_at h t e)) (entries h t)
    sum_chunks = sum_cut (entries h t) (last_chunk h) (cut_all (chunk_at h t) (entries h t) (last_chunk h) chunk_below)

    pub sum_below : (e : ℕ) → e < entries h t → sum_to (λ (c : ℕ). g c (place_of h t c)) (chunk_at h t e) ≡ sum_to (λ (i : ℕ). g (chunk_at h t i) (place_at h t i)) e
    sum_below e l = sum_cut e (chunk_at h t e) (cut_key (chunk_at h t) (entries h t) chunk_rising e l)

  pub count_chunks : (g : ℕ → Place → Bool) → ((c : ℕ) → g c Absent ≡ false) → count (λ (c : ℕ). g c (place_of h t c)) (last_chunk h) ≡ count (λ (e : ℕ). g (chunk_at h t e) (place_at h t e)) (entries h t)
  unfolding count
  count_chunks g none = sum_chunks (λ (c : ℕ) (p : Place). bool_byte (g c p)) (λ c. ap bool_byte (none c))

-- ---- a chunk id that no entry has

pub entry_of : (h : Sizes) (t : List ℕ) (c : ℕ) → Sought (chunk_at h t) (entries h t) c
entry_of h t c = seek (chunk_at h t) (entries h t) c

pub word_of_none : (h : Sizes) (t : List ℕ) (c : ℕ) → ((e : ℕ) → e < entries h t → chunk_at h t e ≢ c) → word_of h t c ≡ 0
unfolding word_of
word_of_none h t c = beside_none (chunk_at h t) (word_at h t) (entries h t) c

-- past the direct chunks only overflow entries count
pub word_of_over : (h : Sizes) (t : List ℕ) (c : ℕ) → h.d ≤ c → word_of h t c ≡ beside (λ (j : ℕ). get_or t (over_at h j) 0) (λ (j : ℕ). get_or t (over_at h j + 1) 0) (over_count t) c
unfolding word_of beside
word_of_over h t c l =
    let a = sum_split (λ (e : ℕ). cond (eqb (chunk_at h t e) c) (word_at h t e) 0) h.d (over_count t) in
    let b = sum_none (λ (e : ℕ). cond (eqb (chunk_at h t e) c) (word_at h t e) 0) h.d (λ e m. ap (λ (y : Bool). cond y (word_at h t e) 0) (ne_eqb (chunk_at h t e) c (λ q. let k = chunk_direct h t e m in omega arith))) in
    let d = sum_ext (λ (j : ℕ). cond (eqb (chunk_at h t (h.d + j)) c) (word_at h t (h.d + j)) 0) (λ (j : ℕ). cond (eqb (get_or t (over_at h j) 0) c) (get_or t (over_at h j + 1) 0) 0) (over_count t)
    (λ j m. ap₂ (λ (k w : ℕ). cond (eqb k c) w 0) (chunk_over h t j) (word_over h t j)) in
    omega arith

-- what holds of every entry's place holds of every chunk's
pub place_of_any : (h : Sizes) (t : List ℕ) → Ordered h t → (P : ℕ → Place → Type 0) → ((c : ℕ) → P c Absent) → ((e : ℕ) → e < entries h t → P (chunk_at h t e) (place_at h t e)) → (c : ℕ) → P c (place_of h t c)
place_of_any h t o P none each c = go (entry_of h t c)
  where
    go : Sought (chunk_at h t) (entries h t) c → P c (place_of h t c)
    go (found e l q) = subst (λ (k : ℕ). P k (place_of h t k)) q (subst (P (chunk_at h t e)) (sym (place_of_at h t o e l)) (each e l))
    go (missed m) = subst (P c) (sym (ap decoded (word_of_none h t c m))) (none c)
