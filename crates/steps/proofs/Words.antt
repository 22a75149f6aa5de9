-- A chunk's word put into the table: in its direct entry, in its overflow entry, or in a new overflow entry. Assumes nothing.
use mathlib.Core.Path.{◌≡◌, refl, sym, ap, subst, ◌∙◌}
use mathlib.Core.Logic.{◌≢◌}
use mathlib.Core.List.{List}
use mathlib.Core.Bool.{Bool, true, false, cond, ◌&&◌}
use Prim.Native.Nat.{ℕ, suc, ◌+◌, ◌*◌, ◌≤◌, ◌<◌}
use native.Mathlib.Omega.{arith}
use lib.ListN.{length, get_or, set}
use lib.Dec.{ltb, eqb}
use borrow.Author.Tests.{ltb-true, ltb-false, eqb-true, eqb-false, le-leb}
use Rattle.sums.proofs.Sums.{Inserted}
use Rattle.layout.specs.Sizes.{direct_at, over_at, table_size, over_count}
use Rattle.layout.specs.Entries.{entries, chunk_at, word_at, prefix_at}
use Rattle.layout.specs.Short.{over_place}
use Rattle.document.specs.declared.sizes.Sizes.{Sizes}
use Rattle.layout_laws.proofs.Keys.{Cut, cut_missed}
use Rattle.layout_laws.proofs.Halving.{lower_first}
use Rattle.layout_laws.proofs.Entries.{chunk_direct, word_direct, prefix_direct, chunk_over, word_over, prefix_over, Which, direct, over, which, Ordered}
use Rattle.layout_laws.proofs.Short.{over_rising}
use Rattle.layout.specs.Writes.{added, added_if, over_put, put_word}
use Rattle.layout.proofs.Added.{added_length, added_over, added_low, added_high, added_chunk, added_word, added_prefix, added_up}
use Rattle.steps.proofs.Puts as puts
use Rattle.steps.proofs.Table.{Worded, word_set}

-- ---- a cut of the overflow entries is one of all entries

module _ (h : Sizes) (t : List ℕ) (c k : ℕ) (ge : h.d ≤ c) (cut : Cut (λ (j : ℕ). get_or t (over_at h j) 0) (over_count t) k c) (none : (j : ℕ) → j < over_count t → get_or t (over_at h j) 0 ≢ c) where
  cut_entries : Cut (chunk_at h t) (entries h t) (h.d + k) c
  cut_entries =
      record {
        fits = let f = cut.fits in omega arith;
        before = λ e l. before e l (which h.d e);
        after = λ e l m. after e l m (which h.d e);
      }
    where
      before : (e : ℕ) → e < h.d + k → Which h.d e → chunk_at h t e < c
      before e l (direct m) = let q = chunk_direct h t e m in omega arith
      before e l (over j q) = let r = ap (chunk_at h t) q ∙ chunk_over h t j in let s = cut.before j (omega arith) in omega arith

      after : (e : ℕ) → h.d + k ≤ e → e < entries h t → Which h.d e → c ≤ chunk_at h t e
      after e l m (direct n) = absurd (omega arith)
      after e l m (over j q) = let r = ap (chunk_at h t) q ∙ chunk_over h t j in let s = cut.after j (omega arith) (omega arith) in omega arith

  none_entries : (e : ℕ) → e < entries h t → chunk_at h t e ≢ c
  none_entries e l = go (which h.d e)
    where
      go : Which h.d e → chunk_at h t e ≢ c
      go (direct m) = let q = chunk_direct h t e m in omega arith
      go (over j q) = λ r. none j (omega arith) (sym (ap (chunk_at h t) q ∙ chunk_over h t j) ∙ r)

-- ---- a new overflow entry

module _ (h : Sizes) (t : List ℕ) (c w k : ℕ) (le : k ≤ over_count t) (room : over_at h (over_count t + 1) ≤ length t) where
  -- a column of the directory, whose overflow part stands at place
  column : (f g place : ℕ → ℕ) (q v : ℕ) → q < 3 → ((j : ℕ) → place j ≡ over_at h j + q) → ((j : ℕ) → f (h.d + j) ≡ get_or t (place j) 0) → ((j : ℕ) → g (h.d + j) ≡ get_or (added h t c w k) (place j) 0) →
      ((j : ℕ) → j < h.d → g j ≡ f j) → get_or (added h t c w k) (place k) 0 ≡ v → Inserted f g (h.d + k) (entries h t) v
  column f g place q v small where-is f-over g-over low here =
      record {
        fits = omega arith;
        below = λ j l. below j l (which h.d j);
        here = g-over k ∙ here;
        above = λ j l m. above j l m (which h.d j);
      }
    where
      below : (j : ℕ) → j < h.d + k → Which h.d j → g j ≡ f j
      below j l (direct m) = low j m
      below j l (over i e) = ap g e ∙ g-over i ∙ (added_low h t c w k le room) (place i) (omega (arith, where-is i)) (omega (arith, where-is i)) ∙ sym (ap f e ∙ f-over i)

      above : (j : ℕ) → h.d + k ≤ j → j < entries h t → Which h.d j → g (suc j) ≡ f j
      above j l m (direct n) = absurd (omega arith)
      above j l m (over i e) =
          let u : suc j ≡ h.d + suc i = omega arith in
          ap g u ∙ g-over (suc i)
          ∙ (added_up h t c w k le room) (place i) (place (suc i)) (omega (arith, where-is i)) (omega (arith, where-is i)) (omega (arith, where-is i, where-is (suc i)))
          ∙ sym (ap f e ∙ f-over i)

  module _ (free : over_count t < h.v) (ge : h.d ≤ c) (cut : Cut (λ (j : ℕ). get_or t (over_at h j) 0) (over_count t) k c) (none : (j : ℕ) → j < over_count t → get_or t (over_at h j) 0 ≢ c) where
    pub entry_added : Worded h t (added h t c w k) c w
    entry_added =
        let t' = added h t c w k in
        let n = (added_over h t c w k le room) in
        record {
          wrote =
              record {
                len = (added_length h t c w k le room);
                header = λ i l d. (added_low h t c w k le room) i d (omega arith);
                unused = λ i l. (added_low h t c w k le room) (11 + i) (omega arith) (omega arith);
                more = omega arith;
                fits = omega arith;
                spare = λ i a b. (added_high h t c w k le room) i (omega arith);
                put =
                    puts.added (h.d + k)
                    (record {
                      cut = cut_entries h t c k ge cut none;
                      none = none_entries h t c k ge cut none;
                      size = let e : h.d + over_count t' ≡ suc (h.d + over_count t) = omega arith in e;
                      keys =
                          column (chunk_at h t) (chunk_at h t') (λ (j : ℕ). over_at h j) 0 c (omega arith) (λ j. omega arith) (chunk_over h t) (chunk_over h t')
                          (λ j l. chunk_direct h t' j l ∙ sym (chunk_direct h t j l)) (added_chunk h t c w k le room);
                      words =
                          column (word_at h t) (word_at h t') (λ (j : ℕ). over_at h j + 1) 1 w (omega arith) (λ j. omega arith) (word_over h t) (word_over h t')
                          (λ j l. word_direct h t' j l ∙ (added_low h t c w k le room) (direct_at j) (omega arith) (omega arith) ∙ sym (word_direct h t j l)) (added_word h t c w k le room);
                      prefixes =
                          column (prefix_at h t) (prefix_at h t') (λ (j : ℕ). over_at h j + 2) 2 0 (omega arith) (λ j. omega arith) (prefix_over h t) (prefix_over h t')
                          (λ j l. prefix_direct h t' j l ∙ (added_low h t c w k le room) (direct_at j + 1) (omega arith) (omega arith) ∙ sym (prefix_direct h t j l)) (added_prefix h t c w k le room);
                    });
              };
          owners = λ i l. (added_high h t c w k le room) i (omega arith);
          froms = λ i l m. (added_low h t c w k le room) i (omega arith) (omega arith);
        }

-- ---- all three

module _ (h : Sizes) (t : List ℕ) (o : Ordered h t) (room : table_size h ≤ length t) (fits : over_count t ≤ h.v) (c w : ℕ)
    (free : ((e : ℕ) → e < entries h t → chunk_at h t e ≢ c) → over_count t < h.v) where
  over_put_law : (k : ℕ) → h.d ≤ c → Cut (λ (j : ℕ). get_or t (over_at h j) 0) (over_count t) k c → Worded h t (over_put h t c w k) c w
  over_put_law k ge cut = go (ltb k (over_count t)) refl (eqb (get_or t (over_at h k) 0) c) refl
    where
      new : ((j : ℕ) → j < over_count t → get_or t (over_at h j) 0 ≢ c) → Worded h t (added_if h t c w k) c w
      new none =
          let f = free (none_entries h t c k ge cut none) in
          let l : over_at h (over_count t + 1) ≤ length t = omega arith in
          subst (λ (b : Bool). Worded h t (cond b (added h t c w k) t) c w) (sym (le-leb (over_at h (over_count t + 1)) (length t) l))
          (entry_added h t c w k cut.fits l f ge cut none)

      go : (a : Bool) → ltb k (over_count t) ≡ a → (b : Bool) → eqb (get_or t (over_at h k) 0) c ≡ b → Worded h t (cond (a && b) (set t (over_at h k + 1) w) (added_if h t c w k)) c w
      go true p true q =
          let l = ltb-true k (over_count t) p in
          subst (λ (i : ℕ). Worded h t (set t (over_at h k + 1) w) i w) (chunk_over h t k ∙ eqb-true (get_or t (over_at h k) 0) c q)
          (word_set h t room fits (h.d + k) (over k refl) (omega arith) w)
      go true p false q = new (cut_missed (λ (j : ℕ). get_or t (over_at h j) 0) (over_count t) k c (over_rising h t o) cut (λ l. eqb-false (get_or t (over_at h k) 0) c q))
      go false p b q = new (cut_missed (λ (j : ℕ). get_or t (over_at h j) 0) (over_count t) k c (over_rising h t o) cut (λ l. absurd (let m = ltb-false k (over_count t) p in omega arith)))

  pub put_word_law : Worded h t (put_word h t c w) c w
  unfolding put_word
  put_word_law = go (ltb c h.d) refl
    where
      go : (b : Bool) → ltb c h.d ≡ b → Worded h t (cond b (set t (direct_at c) w) (over_put h t c w (over_place t (16 + 2 * h.d) (over_count t) c))) c w
      go true p =
          let l = ltb-true c h.d p in
          subst (λ (i : ℕ). Worded h t (set t (direct_at c) w) i w) (chunk_direct h t c l) (word_set h t room fits c (direct l) (omega arith) w)
      go false p =
          over_put_law (over_place t (16 + 2 * h.d) (over_count t) c) (ltb-false c h.d p)
          (lower_first (λ (j : ℕ). get_or t (over_at h j) 0) (over_count t) c (over_rising h t o))
