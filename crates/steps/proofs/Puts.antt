-- A word put beside a key in a run of entries whose keys rise: in the entry that has the key, or in a new one. What becomes of rising, sums, rules and the value beside each key. Assumes nothing.
use mathlib.Core.Path.{◌≡◌, refl, sym, ap, ap₂, subst₂, ◌∙◌}
use mathlib.Core.Logic.{◌⊎◌, inl, inr, ◌≢◌}
use mathlib.Core.Bool.{Bool, true, false, cond}
use Prim.Native.Nat.{ℕ, zero, suc, ◌+◌, ◌≤◌, ◌<◌}
use native.Mathlib.Omega.{arith}
use lib.Dec.{ltb, eqb}
use borrow.Author.Tests.{ltb-true, ltb-false, eq-eqb, ne_eqb}
use Rattle.sums.specs.Sums.{sum_to}
use Rattle.sums.proofs.Sums.{Inserted, sum_change, sum_insert}
use Rattle.sparse.specs.Row.{Rising}
use Rattle.layout.specs.Entries.{beside}
use Rattle.layout.proofs.Added.{same_or}
use Rattle.layout_laws.proofs.Keys.{Cut, rising_apart, beside_none, beside_at}

pub record Run : Type 0 where
  pub size : ℕ
  pub key : ℕ → ℕ
  pub word : ℕ → ℕ
  pub prefix : ℕ → ℕ

-- entry e has key c, and gets the word w
pub record Changed (a b : Run) (e c w : ℕ) : Type 0 where
  pub there : e < a.size
  pub is : a.key e ≡ c
  pub size : b.size ≡ a.size
  pub keys : (j : ℕ) → j < a.size → b.key j ≡ a.key j
  pub word : b.word e ≡ w
  pub words : (j : ℕ) → j < a.size → j ≢ e → b.word j ≡ a.word j
  pub prefixes : (j : ℕ) → j < a.size → b.prefix j ≡ a.prefix j

-- no entry has key c, and the new one stands at k
pub record Added (a b : Run) (k c w : ℕ) : Type 0 where
  pub cut : Cut a.key a.size k c
  pub none : (j : ℕ) → j < a.size → a.key j ≢ c
  pub size : b.size ≡ suc a.size
  pub keys : Inserted a.key b.key k a.size c
  pub words : Inserted a.word b.word k a.size w
  pub prefixes : Inserted a.prefix b.prefix k a.size 0

pub data Put (a b : Run) (c w : ℕ) : Type 0 where
  changed : (e : ℕ) → Changed a b e c w → Put a b c w
  added : (k : ℕ) → Added a b k c w → Put a b c w

-- where j stands, seen from k
pub data Spot (k j : ℕ) : Type 0 where
  before : j < k → Spot k j
  at : j ≡ k → Spot k j
  past : (i : ℕ) → j ≡ suc i → k ≤ i → Spot k j

pub spot : (k j : ℕ) → Spot k j
spot k j = go j (ltb j k) refl (ltb k j) refl
  where
    go : (j : ℕ) (s : Bool) → ltb j k ≡ s → (t : Bool) → ltb k j ≡ t → Spot k j
    go j true e t g = before (ltb-true j k e)
    go j false e false g = at (let x = ltb-false j k e in let y = ltb-false k j g in omega arith)
    go zero false e true g = absurd (let y = ltb-true k 0 g in omega arith)
    go (suc i) false e true g = past i refl (let y = ltb-true k (suc i) g in omega arith)

-- ---- insertions

-- keys still rise
pub insert_rising : (f g : ℕ → ℕ) (k n c : ℕ) → Inserted f g k n c → Rising f n → Cut f n k c → ((j : ℕ) → j < n → f j ≢ c) → Rising g (suc n)
insert_rising f g k n c i up cut none a b l m = go (spot k a) (spot k b)
  where
    more : (j : ℕ) → k ≤ j → j < n → c < f j
    more j u v = let x = cut.after j u v in let y = none j v in omega arith

    go : Spot k a → Spot k b → g a < g b
    go (before x) (before y) = let p = i.below a x in let q = i.below b y in let f = i.fits in let z = up a b l (omega arith) in omega arith
    go (before x) (at y) = let p = i.below a x in let q : g b ≡ c = ap g y ∙ i.here in let z = cut.before a x in omega arith
    go (before x) (past j y z) =
        let p = i.below a x in
        let q : g b ≡ f j = ap g y ∙ i.above j z (omega arith) in
        let w = up a j (omega arith) (omega arith) in
        omega arith
    go (at x) (before y) = absurd (omega arith)
    go (at x) (at y) = absurd (omega arith)
    go (at x) (past j y z) = let p : g a ≡ c = ap g x ∙ i.here in let q : g b ≡ f j = ap g y ∙ i.above j z (omega arith) in let w = more j z (omega arith) in omega arith
    go (past j x z) (before y) = absurd (omega arith)
    go (past j x z) (at y) = absurd (omega arith)
    go (past j x z) (past h y w) =
        let p : g a ≡ f j = ap g x ∙ i.above j z (omega arith) in
        let q : g b ≡ f h = ap g y ∙ i.above h w (omega arith) in
        let u = up j h (omega arith) (omega arith) in
        omega arith

-- two columns at once
insert_both : (f f' g g' : ℕ → ℕ) (k n c w : ℕ) (u : ℕ → ℕ → ℕ) → Inserted f f' k n c → Inserted g g' k n w → Inserted (λ (j : ℕ). u (f j) (g j)) (λ (j : ℕ). u (f' j) (g' j)) k n (u c w)
insert_both f f' g g' k n c w u i j =
    record {
      fits = i.fits;
      below = λ e l. ap₂ u (i.below e l) (j.below e l);
      here = ap₂ u i.here j.here;
      above = λ e l m. ap₂ u (i.above e l m) (j.above e l m);
    }

-- ---- a word put into a run

module _ (a b : Run) (c w : ℕ) (up : Rising a.key a.size) where
  pub put_rising : Put a b c w → Rising b.key b.size
  put_rising (changed e p) i j l m =
      let s = p.size in
      let x = p.keys i (omega arith) in
      let y = p.keys j (omega arith) in
      let z = up i j l (omega arith) in
      omega arith
  put_rising (added k p) i j l m = insert_rising a.key b.key k a.size c p.keys up p.cut p.none i j l (let s = p.size in omega arith)

  -- what holds of every other entry and of c with w holds of every entry after
  pub put_all : (P : ℕ → ℕ → Type 0) → Put a b c w → ((j : ℕ) → j < a.size → a.key j ≢ c → P (a.key j) (a.word j)) → P c w → (j : ℕ) → j < b.size → P (b.key j) (b.word j)
  put_all P (changed e p) old new j l = go (same_or j e)
    where
      in_a : j < a.size
      in_a = let s = p.size in omega arith

      go : (j ≡ e) ⊎ (j ≢ e) → P (b.key j) (b.word j)
      go (inl q) = subst₂ P (sym (p.keys j in_a ∙ ap a.key q ∙ p.is)) (sym (ap b.word q ∙ p.word)) new
      go (inr d) =
          subst₂ P (sym (p.keys j in_a)) (sym (p.words j in_a d))
          (old j in_a (λ q. rising_apart a.key a.size up j e in_a p.there d (q ∙ sym p.is)))
  put_all P (added k p) old new j l = go (spot k j)
    where
      one_more : j < suc a.size
      one_more = let s = p.size in omega arith

      go : Spot k j → P (b.key j) (b.word j)
      go (before x) =
          let f = p.keys.fits in
          let m : j < a.size = omega arith in
          subst₂ P (sym (p.keys.below j x)) (sym (p.words.below j x)) (old j m (p.none j m))
      go (at x) = subst₂ P (sym (ap b.key x ∙ p.keys.here)) (sym (ap b.word x ∙ p.words.here)) new
      go (past i x y) =
          let o = one_more in
          let m : i < a.size = omega arith in
          subst₂ P (sym (ap b.key x ∙ p.keys.above i y m)) (sym (ap b.word x ∙ p.words.above i y m)) (old i m (p.none i m))

  -- prefixes that are all 0 stay so
  pub put_zero : Put a b c w → ((j : ℕ) → j < a.size → a.prefix j ≡ 0) → (j : ℕ) → j < b.size → b.prefix j ≡ 0
  put_zero (changed e p) z j l = let s = p.size in let m : j < a.size = omega arith in p.prefixes j m ∙ z j m
  put_zero (added k p) z j l = go (spot k j)
    where
      one_more : j < suc a.size
      one_more = let s = p.size in omega arith

      go : Spot k j → b.prefix j ≡ 0
      go (before x) = let f = p.keys.fits in p.prefixes.below j x ∙ z j (omega arith)
      go (at x) = ap b.prefix x ∙ p.prefixes.here
      go (past i x y) = let o = one_more in let m : i < a.size = omega arith in ap b.prefix x ∙ p.prefixes.above i y m ∙ z i m

  -- a sum over entries, where an entry with word 0 adds nothing
  pub put_sum : (g : ℕ → ℕ → ℕ) → g c 0 ≡ 0 → Put a b c w →
      sum_to (λ (e : ℕ). g (b.key e) (b.word e)) b.size + g c (beside a.key a.word a.size c) ≡ sum_to (λ (e : ℕ). g (a.key e) (a.word e)) a.size + g c w
  put_sum g none (changed e p) =
      let f : ℕ → ℕ = λ (e : ℕ). g (a.key e) (a.word e) in
      let f' : ℕ → ℕ = λ (e : ℕ). g (b.key e) (b.word e) in
      let s = ap (sum_to f') p.size in
      let x = sum_change f f' e a.size p.there (λ j l d. ap₂ g (p.keys j l) (p.words j l d)) in
      let y : f e ≡ g c (beside a.key a.word a.size c) = ap₂ g p.is (sym (beside_at a.key a.word a.size c up e p.there p.is)) in
      let z : f' e ≡ g c w = ap₂ g (p.keys e p.there ∙ p.is) p.word in
      omega arith
  put_sum g none (added k p) =
      let f : ℕ → ℕ = λ (e : ℕ). g (a.key e) (a.word e) in
      let f' : ℕ → ℕ = λ (e : ℕ). g (b.key e) (b.word e) in
      let s = ap (sum_to f') p.size in
      let x = sum_insert f f' k a.size (g c w) (insert_both a.key b.key a.word b.word k a.size c w g p.keys p.words) in
      let y : g c (beside a.key a.word a.size c) ≡ 0 = ap (g c) (beside_none a.key a.word a.size c p.none) ∙ none in
      omega arith

  module _ (p : Put a b c w) (c' : ℕ) where
    beside_sum : beside b.key b.word b.size c' + cond (eqb c c') (beside a.key a.word a.size c) 0 ≡ beside a.key a.word a.size c' + cond (eqb c c') w 0
    unfolding beside
    beside_sum = put_sum (λ (k v : ℕ). cond (eqb k c') v 0) (nothing (eqb c c')) p
      where
        nothing : (t : Bool) → ◌≡◌ {A = ℕ} (cond t 0 0) 0
        nothing true = refl
        nothing false = refl

    pub put_beside_off : c' ≢ c → beside b.key b.word b.size c' ≡ beside a.key a.word a.size c'
    put_beside_off d =
        let e = ne_eqb c c' (λ q. d (sym q)) in
        let x = ap (λ (t : Bool). cond t (beside a.key a.word a.size c) 0) e in
        let y = ap (λ (t : Bool). cond t w 0) e in
        omega (arith, beside_sum)

  pub put_beside : Put a b c w → beside b.key b.word b.size c ≡ w
  put_beside p =
      let e = eq-eqb c c refl in
      let x = ap (λ (t : Bool). cond t (beside a.key a.word a.size c) 0) e in
      let y = ap (λ (t : Bool). cond t w 0) e in
      omega (arith, beside_sum p c)

-- ---- runs that are alike

pub record Alike (a b : Run) : Type 0 where
  pub size : b.size ≡ a.size
  pub keys : (j : ℕ) → j < a.size → b.key j ≡ a.key j
  pub words : (j : ℕ) → j < a.size → b.word j ≡ a.word j
  pub prefixes : (j : ℕ) → j < a.size → b.prefix j ≡ a.prefix j

insert_alike : (f g g' : ℕ → ℕ) (k n v : ℕ) → Inserted f g k n v → ((j : ℕ) → j < suc n → g' j ≡ g j) → Inserted f g' k n v
insert_alike f g g' k n v i h =
    let f = i.fits in
    record {
      fits = i.fits;
      below = λ j l. h j (omega arith) ∙ i.below j l;
      here = h k (omega arith) ∙ i.here;
      above = λ j l m. h (suc j) (omega arith) ∙ i.above j l m;
    }

pub put_alike : (a b b' : Run) (c w : ℕ) → Put a b c w → Alike b b' → Put a b' c w
put_alike a b b' c w (changed e p) k =
    let s = p.size in
    let l = p.there in
    changed e
    (record {
      there = p.there;
      is = p.is;
      size = k.size ∙ p.size;
      keys = λ j l. k.keys j (omega arith) ∙ p.keys j l;
      word = k.words e (omega arith) ∙ p.word;
      words = λ j l d. k.words j (omega arith) ∙ p.words j l d;
      prefixes = λ j l. k.prefixes j (omega arith) ∙ p.prefixes j l;
    })
put_alike a b b' c w (added i p) k =
    let s = p.size in
    added i
    (record {
      cut = p.cut;
      none = p.none;
      size = k.size ∙ p.size;
      keys = insert_alike a.key b.key b'.key i a.size c p.keys (λ j l. k.keys j (omega arith));
      words = insert_alike a.word b.word b'.word i a.size w p.words (λ j l. k.words j (omega arith));
      prefixes = insert_alike a.prefix b.prefix b'.prefix i a.size 0 p.prefixes (λ j l. k.prefixes j (omega arith));
    })
