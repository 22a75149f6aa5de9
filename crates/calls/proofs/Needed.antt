-- What the map needs once chunks 0 to c are dense: the sums that preparation makes from the table. Assumes nothing.
use mathlib.Core.Path.{◌≡◌, refl, sym, ap, ap₂, ◌∙◌}
use mathlib.Core.Bool.{Bool, true, false, cond, not, ◌&&◌}
use mathlib.Core.List.{List}
use Prim.Native.Nat.{ℕ, zero, suc, ◌+◌, ◌-◌, ◌*◌, ◌^◌, ◌≤◌, ◌<◌}
use native.Mathlib.Omega.{arith}
use lib.ListN.{get_or}
use lib.Dec.{leb, ltb}
use lib.Pow.{pow_mono}
use mir.Val.{bool_byte}
use borrow.Author.Tests.{leb-true, leb-false, lt-ltb, le-ltb, le-leb, lt-leb, ne_eqb}
use Rattle.sums.specs.Ids.{Ids, count}
use Rattle.sums.proofs.Sums.{sum_le}
use Rattle.sums.proofs.Counts.{count_zero, count_suc, count_ext, count_none, count_split, count_full}
use Rattle.sums.proofs.Rules.{both}
use Rattle.layout.specs.Mem.{Mem}
use Rattle.document.specs.Sizes.{InRange, last_chunk}
use Rattle.layout.specs.Sizes.{over_at, head, over_count}
use Rattle.layout.specs.Places.{decoded}
use Rattle.layout.specs.Places
use Rattle.layout.specs.Entries.{entries, chunk_at, place_at, beside}
use Rattle.layout.specs.Short.{over_place}
use Rattle.document.specs.State.{Kind, dense, is_present, is_sparse, is_dense}
use Rattle.layout.specs.Meaning.{kind_of, kinds, state_of}
use Rattle.layout.specs.Follows.{Follows}
use Rattle.layout.specs.Tests.{Walked}
use Rattle.document.specs.declared.sizes.Sizes.{Sizes}
use Rattle.layout.specs.declared.place.Place.{Place}
use Rattle.layout.specs.declared.place.Place.TheVariants.{Absent, Sparse, Dense}
use Rattle.layout_laws.proofs.Keys.{Cut, sum_beside}
use Rattle.layout_laws.proofs.Halving.{lower_first}
use Rattle.layout_laws.proofs.Entries.{walked_ordered, word_of_over}
use Rattle.layout_laws.proofs.Short.{over_rising}
use Rattle.layout_laws.proofs.ChunkCounts.{present_word, count_kinds, over_chunks}
use Rattle.calls.specs.Prepare.{over_needed, pages_needed}
use Rattle.document.specs.Prepare.{dense_map}
use Rattle.document.specs.Room.{overflows, sparses, denses}
use Rattle.calls.proofs.Verdicts.{sparses_fit}

-- ---- counts

byte_imp : (a b : Bool) → (a ≡ true → b ≡ true) → bool_byte a ≤ bool_byte b
byte_imp true b f = let e : bool_byte b ≡ 1 = ap bool_byte (f refl) in omega arith
byte_imp false b f = omega arith

pub count_imp : (P Q : Ids) (n : ℕ) → ((j : ℕ) → P j ≡ true → Q j ≡ true) → count P n ≤ count Q n
unfolding count
count_imp P Q n f = sum_le (λ (j : ℕ). bool_byte (P j)) (λ (j : ℕ). bool_byte (Q j)) n (λ j l. byte_imp (P j) (Q j) (f j))

-- ids from d on
count_from : (d n : ℕ) → count (λ (c : ℕ). leb d c) n ≡ n - d
count_from d zero = let z = count_zero (λ (c : ℕ). leb d c) in omega arith
count_from d (suc n) = go (leb d n) refl (count_from d n)
  where
    go : (b : Bool) → leb d n ≡ b → count (λ (c : ℕ). leb d c) n ≡ n - d → count (λ (c : ℕ). leb d c) (suc n) ≡ suc n - d
    go true e r = let l = leb-true d n e in let b : bool_byte (leb d n) ≡ 1 = ap bool_byte e in let s = count_suc (λ (c : ℕ). leb d c) n in omega arith
    go false e r = let l = leb-false d n e in let b : bool_byte (leb d n) ≡ 0 = ap bool_byte e in let s = count_suc (λ (c : ℕ). leb d c) n in omega arith

and_true : (b : Bool) → (b && true) ≡ b
and_true true = refl
and_true false = refl

and_false : (b : Bool) → (b && false) ≡ false
and_false true = refl
and_false false = refl

-- a map that has at least what another has
pub overflows_le : (h : Sizes) (k k' : ℕ → Kind) → ((c : ℕ) → is_present (k c) ≡ true → is_present (k' c) ≡ true) → overflows h k ≤ overflows h k'
unfolding overflows
overflows_le h k k' f =
    count_imp (λ (c : ℕ). leb h.d c && is_present (k c)) (λ (c : ℕ). leb h.d c && is_present (k' c)) (last_chunk h)
    (λ c e. let q = both (leb h.d c) (is_present (k c)) e in ap₂ ◌&&◌ q.0 (f c q.1))

pub sparses_le : (h : Sizes) (k k' : ℕ → Kind) → ((c : ℕ) → is_sparse (k c) ≡ true → is_sparse (k' c) ≡ true) → sparses h k ≤ sparses h k'
unfolding sparses
sparses_le h k k' f = count_imp (λ (c : ℕ). is_sparse (k c)) (λ (c : ℕ). is_sparse (k' c)) (last_chunk h) f

pub denses_le : (h : Sizes) (k k' : ℕ → Kind) → ((c : ℕ) → is_dense (k c) ≡ true → is_dense (k' c) ≡ true) → denses h k ≤ denses h k'
unfolding denses
denses_le h k k' f = count_imp (λ (c : ℕ). is_dense (k c)) (λ (c : ℕ). is_dense (k' c)) (last_chunk h) f

-- ---- the map with chunks 0 to c dense

pub dense_low : (x : Mem) (c i : ℕ) → i ≤ c → dense_map (state_of x) c i ≡ dense
unfolding dense_map
dense_low x c i l = ap (λ (b : Bool). cond b dense (kinds x i)) (le-leb i c l)

pub dense_high : (x : Mem) (c i : ℕ) → c < i → dense_map (state_of x) c i ≡ kinds x i
unfolding dense_map
dense_high x c i l = ap (λ (b : Bool). cond b dense (kinds x i)) (lt-leb i c l)

-- by which side of c a chunk lies
sides : (P : ℕ → Type 0) (c : ℕ) → ((i : ℕ) → i ≤ c → P i) → ((i : ℕ) → c < i → P i) → (i : ℕ) → P i
sides P c low high i = go (leb i c) refl
  where
    go : (b : Bool) → leb i c ≡ b → P i
    go true e = low i (leb-true i c e)
    go false e = high i (leb-false i c e)

module _ {x : Mem} (w : Walked x (head x)) (c : ℕ) (far : c < last_chunk (head x)) where
  abbrev map : ℕ → Kind
  map = dense_map (state_of x) c

  abbrev over : ℕ → Bool
  over = λ (i : ℕ). leb (head x).d i && is_present (kinds x i)

  rest : ℕ
  rest = last_chunk (head x) - (c + 1)

  whole : (P : Ids) → count P (last_chunk (head x)) ≡ count P (c + 1) + count (λ (j : ℕ). P (c + 1 + j)) rest
  unfolding rest
  whole P =
      let e : last_chunk (head x) ≡ c + 1 + (last_chunk (head x) - (c + 1)) = omega arith in
      ap (count P) e ∙ count_split P (c + 1) (last_chunk (head x) - (c + 1))

  -- ---- overflow entries

  abbrev key : ℕ → ℕ
  key = λ (j : ℕ). get_or x.table (over_at (head x) j) 0

  abbrev val : ℕ → ℕ
  val = λ (j : ℕ). get_or x.table (over_at (head x) j + 1) 0

  abbrev by : ℕ → ℕ → Bool
  by = λ (i v : ℕ). leb (head x).d i && is_present (kind_of (decoded v))

  over_by : (i : ℕ) (b : Bool) → leb (head x).d i ≡ b
      → (b && is_present (kinds x i)) ≡ (b && is_present (kind_of (decoded (beside key val (over_count x.table) i))))
  unfolding kinds
  over_by i true e = ap (λ (v : ℕ). is_present (kind_of (decoded v))) (word_of_over (head x) x.table i (leb-true (head x).d i e))
  over_by i false e = refl

  used : (k : ℕ) → k ≤ over_count x.table → (j : ℕ) → j < k → by (key j) (val j) ≡ true
  used k l j m =
      ap₂ ◌&&◌ (le-leb (head x).d (key j) (w.keys j (omega arith)).low)
      (present_word (val j) ∙ ap not (ne_eqb (val j) 0 (w.words j (omega arith))))

  -- those of the chunks below N are the first ones
  over_below : (N : ℕ) → count over N ≡ over_place x.table (16 + 2 * (head x).d) (over_count x.table) N
  unfolding count
  over_below N =
      let k = over_place x.table (16 + 2 * (head x).d) (over_count x.table) N in
      let up = over_rising (head x) x.table (walked_ordered w) in
      let cut : Cut key (over_count x.table) k N = lower_first key (over_count x.table) N up in
      count_ext over (λ (i : ℕ). by i (beside key val (over_count x.table) i)) N (λ i l. over_by i (leb (head x).d i) refl)
      ∙ sum_beside key val (over_count x.table) up (λ (i v : ℕ). bool_byte (by i v)) (λ i. ap bool_byte (and_false (leb (head x).d i))) k N cut
      ∙ count_full (λ (j : ℕ). by (key j) (val j)) k (used k cut.fits)

  low_over : count (λ (i : ℕ). leb (head x).d i && is_present (map i)) (c + 1) ≡ c + 1 - (head x).d
  low_over =
      count_ext (λ (i : ℕ). leb (head x).d i && is_present (map i)) (λ (i : ℕ). leb (head x).d i) (c + 1)
      (λ i l. ap (λ (k : Kind). leb (head x).d i && is_present k) (dense_low x c i (omega arith)) ∙ and_true (leb (head x).d i))
      ∙ count_from (head x).d (c + 1)

  pub over_needed_law : over_needed (head x) x.table c ≡ overflows (head x) map
  unfolding over_needed overflows
  over_needed_law =
      let a = over_chunks w in
      let b = whole over in
      let e = over_below (c + 1) in
      let f = whole (λ (i : ℕ). leb (head x).d i && is_present (map i)) in
      let g = low_over in
      let i = count_ext (λ (j : ℕ). leb (head x).d (c + 1 + j) && is_present (map (c + 1 + j))) (λ (j : ℕ). over (c + 1 + j)) rest
      (λ j l. ap (λ (k : Kind). leb (head x).d (c + 1 + j) && is_present k) (dense_high x c (c + 1 + j) (omega arith))) in
      omega arith

  -- ---- pages

  abbrev past : ℕ → Kind → Bool
  past = λ (i : ℕ) (k : Kind). ltb c i && is_dense k

  pub pages_needed_law : pages_needed (head x) x.table c ≡ denses (head x) map
  unfolding pages_needed denses
  pages_needed_law =
      let a = count_kinds x (walked_ordered w) past (λ i. and_false (ltb c i)) in
      let s = count_ext (λ (e : ℕ). past (chunk_at (head x) x.table e) (kind_of (place_at (head x) x.table e)))
      (λ (e : ℕ). ltb c (chunk_at (head x) x.table e) && Places.has_page (place_at (head x) x.table e)) (entries (head x) x.table)
      (λ e l. ap (λ (b : Bool). ltb c (chunk_at (head x) x.table e) && b) (dense_kind (place_at (head x) x.table e))) in
      let b = whole (λ (i : ℕ). past i (kinds x i)) in
      let z = count_none (λ (i : ℕ). past i (kinds x i)) (c + 1) (λ i l. ap (λ (q : Bool). q && is_dense (kinds x i)) (le-ltb c i (omega arith))) in
      let f = whole (λ (i : ℕ). is_dense (map i)) in
      let g = count_full (λ (i : ℕ). is_dense (map i)) (c + 1) (λ i l. ap is_dense (dense_low x c i (omega arith))) in
      let i = count_ext (λ (j : ℕ). is_dense (map (c + 1 + j))) (λ (j : ℕ). past (c + 1 + j) (kinds x (c + 1 + j))) rest
      (λ j l. ap is_dense (dense_high x c (c + 1 + j) (omega arith))
      ∙ ap (λ (q : Bool). q && is_dense (kinds x (c + 1 + j))) (sym (lt-ltb c (c + 1 + j) (omega arith)))) in
      omega arith
    where
      dense_kind : (p : Place) → is_dense (kind_of p) ≡ Places.has_page p
      dense_kind Absent = refl
      dense_kind (Sparse r l) = refl
      dense_kind (Dense p) = refl

-- ---- chunks that there is room for are few

pub few_chunks : (h : Sizes) (t : List ℕ) → InRange h → (c : ℕ) → over_needed h t c ≤ h.v → c < last_chunk h
unfolding over_needed
few_chunks h t z c l =
    let s = z.s_high in
    let d = z.d_high in
    let v = z.v_high in
    let p : 2 ^ 38 ≤ last_chunk h = pow_mono {i = 38} {j = 63 - h.s} (omega arith) in
    omega arith

-- ---- rows: none is needed

pub rows_enough : {x : Mem} → Follows x → (c : ℕ) → sparses (head x) (dense_map (state_of x) c) ≤ (head x).r
rows_enough {x} w c =
    let a = sparses_fit w in
    let b = sparses_le (head x) (dense_map (state_of x) c) (kinds x)
    (sides (λ (i : ℕ). is_sparse (dense_map (state_of x) c i) ≡ true → is_sparse (kinds x i) ≡ true) c
    (λ i l e. absurd (let q = ap is_sparse (dense_low x c i l) in cc))
    (λ i l e. ap is_sparse (sym (dense_high x c i l)) ∙ e)) in
    omega arith

-- a kind that a dense chunk meets is met by more chunks once more are dense
pub dense_more : (x : Mem) (c : ℕ) (g : Kind → Bool) → g dense ≡ true → (k : Kind) (i : ℕ) → (c < i → k ≡ kinds x i) → g k ≡ true
    → g (dense_map (state_of x) c i) ≡ true
dense_more x c g d k i f e =
    sides (λ (j : ℕ). (c < j → k ≡ kinds x j) → g (dense_map (state_of x) c j) ≡ true) c
    (λ j l _. ap g (dense_low x c j l) ∙ d) (λ j l q. ap g (dense_high x c j l ∙ sym (q l)) ∙ e) i f
