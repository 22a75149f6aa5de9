-- `len`, `is_empty`, `has_any`, `allocated_chunk_count`, way by way: what the run over the entries has counted. Assumes nothing.
use mathlib.Core.Path.{◌≡◌, refl, sym, ◌∙◌, ap, ap₂}
use mathlib.Core.Logic.{◌≢◌}
use mathlib.Core.Bool.{Bool, true, false, cond, not, ◌&&◌}
use Prim.Native.Nat.{ℕ, ◌+◌, ◌≤◌, ◌<◌}
use native.Mathlib.Omega.{arith}
use lib.Dec.{ltb, eqb}
use borrow.Author.Tests.{ltb-true, ltb-false, lt-ltb, le-ltb, eq-eqb, ne_eqb}
use mir.Syntax.{w64}
use mir.Val.{Fits, bool_byte}
use Rattle.std.specs.Prelude.{Result, Ok, Err}
use Rattle.sums.specs.Sums.{sum_to}
use Rattle.sums.specs.Ids.{count}
use Rattle.sums.specs.Rules.{all_to}
use Rattle.sums.proofs.Sums.{sum_zero, sum_next, sum_bound}
use Rattle.sums.proofs.Counts.{count_zero, count_next, count_le, byte_le}
use Rattle.sums.proofs.Rules.{all_none, all_more, all_of, bool_of}
use Rattle.sparse.proofs.Rows.{count_some}
use Rattle.document.specs.Calls as document
use Rattle.document.specs.Refusals.{not_laid_out}
use Rattle.document.specs.declared.refusal.Refusal.{Refusal}
use Rattle.layout.specs.Mem.{Mem}
use Rattle.calls.specs.Counts.{entries_ok, entries_of, word_by, good_at, size_by, used_at, parts_ok, len_by, is_empty_by, has_any_by, chunks_by}
use Rattle.contracts.specs.Does.{Answers}
use Rattle.contracts.proofs.Readings.{answers}
use Rattle.counts.proofs.Runs.{size_most, good_past, none_past, size_past, used_past}

-- ---- a test that refuses

refused_by : {A : Type 0} (b : Bool) (m : A) → b ≡ false → ◌≡◌ {A = Result A Refusal} (Err not_laid_out) (cond b (Ok m) (Err not_laid_out))
refused_by b m h = ap (λ (c : Bool). cond c (Ok m) (Err not_laid_out)) (sym h)

answered_by : {A : Type 0} (b : Bool) (k m : A) → b ≡ true → k ≡ m → ◌≡◌ {A = Result A Refusal} (Ok k) (cond b (Ok m) (Err not_laid_out))
answered_by b k m h e = ap Ok e ∙ ap (λ (c : Bool). cond c (Ok m) (Err not_laid_out)) (sym h)

was_refused : {A : Type 0} (b : Bool) (m : A) (n : Refusal) → ◌≡◌ {A = Result A Refusal} (Err n) (cond b (Ok m) (Err not_laid_out)) → (b ≡ false) × (n ≡ not_laid_out)
was_refused true m n e = cc
was_refused false m n e = (refl, cc)

was_answered : {A : Type 0} (b : Bool) (k m : A) → ◌≡◌ {A = Result A Refusal} (Ok k) (cond b (Ok m) (Err not_laid_out)) → (b ≡ true) × (k ≡ m)
was_answered true k m e = (refl, cc)
was_answered false k m e = cc

-- one that fails is enough
all_bad : (f : ℕ → Bool) (e n : ℕ) → e < n → f e ≡ false → all_to f n ≡ false
all_bad f e n l h = go (all_to f n) refl
  where
    go : (b : Bool) → all_to f n ≡ b → b ≡ false
    go true q = absurd (let y : f e ≡ true = (all_of f n (λ (i : ℕ) (m : i < n). bool_of (f i))).sound q e l in let z : ◌≡◌ {A = ℕ} 0 1 = cc in omega arith)
    go false q = refl

module _ (x : Mem) where
  abbrev none_at : ℕ → Bool
  none_at = λ (e : ℕ). eqb (size_by x e) 0

  parts_no : entries_ok x.table ≡ false → parts_ok x ≡ false
  unfolding parts_ok
  parts_no h = ap (λ (b : Bool). b && all_to (good_at x) (entries_of x)) h

  -- ---- entries that do not lie in the table

  module _ (h : entries_ok x.table ≡ false) where
    pub no_len : Answers x document.len (document.many (Err not_laid_out))
    unfolding len_by
    no_len = answers x document.len (ap document.many (refused_by (parts_ok x) (sum_to (size_by x) (entries_of x)) (parts_no h)))

    pub no_empty : Answers x document.is_empty (document.whether (Err not_laid_out))
    unfolding is_empty_by
    no_empty = answers x document.is_empty (ap document.whether (refused_by (parts_ok x) (all_to none_at (entries_of x)) (parts_no h)))

    pub no_any : Answers x document.has_any (document.whether (Err not_laid_out))
    unfolding has_any_by
    no_any = answers x document.has_any (ap document.whether (refused_by (entries_ok x.table) (not (eqb (count (used_at x) (entries_of x)) 0)) h))

    pub no_chunks : Answers x document.chunk_count (document.many (Err not_laid_out))
    unfolding chunks_by
    no_chunks = answers x document.chunk_count (ap document.many (refused_by (entries_ok x.table) (count (used_at x) (entries_of x)) h))

  -- ---- entries that do: n of them

  module _ (ok : entries_ok x.table ≡ true) (n : ℕ) (en : n ≡ entries_of x) where
    parts_is : (b : Bool) → all_to (good_at x) n ≡ b → parts_ok x ≡ b
    unfolding parts_ok
    parts_is b h = ap (λ (c : Bool). c && all_to (good_at x) (entries_of x)) ok ∙ (ap (all_to (good_at x)) (sym en) ∙ h)

    -- a part is not inside its pool
    module _ (e : ℕ) (l : e < n) (r : Refusal) where
      pub len_refused : ◌≡◌ {A = Result ℕ Refusal} (Err r) (cond (good_at x e) (Ok (size_by x e)) (Err not_laid_out)) → Answers x document.len (document.many (Err r))
      unfolding len_by
      len_refused g =
          let w = was_refused (good_at x e) (size_by x e) r g in
          answers x document.len
          (ap document.many (ap Err w.1 ∙ refused_by (parts_ok x) (sum_to (size_by x) (entries_of x)) (parts_is false (all_bad (good_at x) e n l w.0))))

      pub empty_refused : ◌≡◌ {A = Result Bool Refusal} (Err r) (cond (good_at x e) (Ok (none_at e)) (Err not_laid_out)) → Answers x document.is_empty (document.whether (Err r))
      unfolding is_empty_by
      empty_refused g =
          let w = was_refused (good_at x e) (none_at e) r g in
          answers x document.is_empty
          (ap document.whether (ap Err w.1 ∙ refused_by (parts_ok x) (all_to none_at (entries_of x)) (parts_is false (all_bad (good_at x) e n l w.0))))

  -- ---- what the run has found of entries 0 to e - 1

  pub record LenTo (e sum : ℕ) : Type 0 where
    pub good : all_to (good_at x) e ≡ true
    pub members : sum ≡ sum_to (size_by x) e

  pub record EmptyTo (e : ℕ) (none : Bool) : Type 0 where
    pub good : all_to (good_at x) e ≡ true
    pub empty : none ≡ all_to none_at e

  pub len_start : LenTo 0 0
  len_start = record { good = sym (all_none (good_at x)); members = sym (sum_zero (size_by x)) }

  pub empty_start : EmptyTo 0 true
  empty_start = record { good = sym (all_none (good_at x)); empty = all_none none_at }

  -- the next that has a word is r
  module _ (e r : ℕ) (l : e + 1 ≤ r) (z : (i : ℕ) → e + 1 ≤ i → i < r → word_by x i ≡ 0) where
    good_more : all_to (good_at x) e ≡ true → good_at x e ≡ true → all_to (good_at x) r ≡ true
    good_more a b = sym (all_more (good_at x) e true true (sym a) (sym b) ∙ good_past x (e + 1) r l z)

    pub len_more : (sum k : ℕ) → LenTo e sum → ◌≡◌ {A = Result ℕ Refusal} (Ok k) (cond (good_at x e) (Ok (size_by x e)) (Err not_laid_out)) → LenTo r (sum + k)
    len_more sum k s g =
        let w = was_answered (good_at x e) k (size_by x e) g in
        record { good = good_more s.good w.0; members = ap₂ ◌+◌ s.members w.1 ∙ (sym (sum_next (size_by x) e) ∙ size_past x (e + 1) r l z) }

    pub empty_more : (none b : Bool) → EmptyTo e none → ◌≡◌ {A = Result Bool Refusal} (Ok b) (cond (good_at x e) (Ok (none_at e)) (Err not_laid_out)) → EmptyTo r (none && b)
    empty_more none b s g =
        let w = was_answered (good_at x e) b (none_at e) g in
        record { good = good_more s.good w.0; empty = all_more none_at e none b s.empty w.1 ∙ none_past x (e + 1) r l z }

    pub chunks_more : (sum : ℕ) → sum ≡ count (used_at x) e → (w : ℕ) → w ≡ word_by x e → sum + bool_byte (not (eqb w 0)) ≡ count (used_at x) r
    unfolding used_at
    chunks_more sum s w g = ap₂ (λ (i j : ℕ). i + bool_byte (not (eqb j 0))) s g ∙ (sym (count_next (used_at x) e) ∙ used_past x (e + 1) r l z)

  -- so far it fits
  pub len_fits : entries_ok x.table ≡ true → (e sum k : ℕ) → e < 327680 → LenTo e sum
      → ◌≡◌ {A = Result ℕ Refusal} (Ok k) (cond (good_at x e) (Ok (size_by x e)) (Err not_laid_out)) → Fits w64 (sum + k)
  len_fits ok e sum k l s g =
      let w = was_answered (good_at x e) k (size_by x e) g in
      let b = sum_bound (size_by x) 33554432 e (λ (j : ℕ) (m : j < e). size_most x j ok) in
      let t = size_most x e ok in
      record { fits = omega (arith, s.members, w.1) }

  pub chunks_fit : (e sum : ℕ) → e < 327680 → sum ≡ count (used_at x) e → (w : ℕ) → Fits w64 (sum + bool_byte (not (eqb w 0)))
  chunks_fit e sum l s w = record { fits = omega (arith, s, count_le (used_at x) e, byte_le (not (eqb w 0))) }

  -- ---- at the end

  module _ (ok : entries_ok x.table ≡ true) (n e : ℕ) (en : n ≡ entries_of x) (l : e ≤ n) (m : n ≤ e) where
    ends : e ≡ entries_of x
    ends = omega (arith, en)

    all_good : all_to (good_at x) e ≡ true → parts_ok x ≡ true
    all_good h = parts_is ok e ends true h

    pub len_end : (sum : ℕ) → LenTo e sum → Answers x document.len (document.many (Ok sum))
    unfolding len_by
    len_end sum s =
        answers x document.len
        (ap document.many (answered_by (parts_ok x) sum (sum_to (size_by x) (entries_of x)) (all_good s.good) (s.members ∙ ap (sum_to (size_by x)) ends)))

    pub empty_end : (none : Bool) → EmptyTo e none → Answers x document.is_empty (document.whether (Ok none))
    unfolding is_empty_by
    empty_end none s =
        answers x document.is_empty
        (ap document.whether (answered_by (parts_ok x) none (all_to none_at (entries_of x)) (all_good s.good) (s.empty ∙ ap (all_to none_at) ends)))

    pub chunks_end : (sum : ℕ) → sum ≡ count (used_at x) e → Answers x document.chunk_count (document.many (Ok sum))
    unfolding chunks_by
    chunks_end sum s =
        answers x document.chunk_count
        (ap document.many (answered_by (entries_ok x.table) sum (count (used_at x) (entries_of x)) ok (s ∙ ap (count (used_at x)) ends)))

  -- ---- by the first entry that has a word, r, or n

  module _ (ok : entries_ok x.table ≡ true) (n r : ℕ) (en : n ≡ entries_of x) (l : r ≤ n) (z : (i : ℕ) → 0 ≤ i → i < r → word_by x i ≡ 0) (u : r < n → word_by x r ≢ 0) where
    some_used : r < n → ltb r n ≡ not (eqb (count (used_at x) (entries_of x)) 0)
    unfolding used_at
    some_used m =
        let b : used_at x r ≡ true = ap not (ne_eqb (word_by x r) 0 (u m)) in
        let c = count_some (used_at x) r (entries_of x) (omega (arith, en)) b in
        lt-ltb r n m ∙ sym (ap not (ne_eqb (count (used_at x) (entries_of x)) 0 (λ (q : count (used_at x) (entries_of x) ≡ 0). omega arith)))

    none_used : n ≤ r → ltb r n ≡ not (eqb (count (used_at x) (entries_of x)) 0)
    none_used m =
        let e : r ≡ entries_of x = omega (arith, en) in
        let c : count (used_at x) (entries_of x) ≡ 0 = ap (count (used_at x)) (sym e) ∙ (sym (used_past x 0 r (omega arith) z) ∙ count_zero (used_at x)) in
        le-ltb r n m ∙ sym (ap not (eq-eqb (count (used_at x) (entries_of x)) 0 c))

    pub any_end : Answers x document.has_any (document.whether (Ok (ltb r n)))
    unfolding has_any_by
    any_end = answers x document.has_any (ap document.whether (answered_by (entries_ok x.table) (ltb r n) (not (eqb (count (used_at x) (entries_of x)) 0)) ok (go (ltb r n) refl)))
      where
        go : (b : Bool) → ltb r n ≡ b → ltb r n ≡ not (eqb (count (used_at x) (entries_of x)) 0)
        go true e = some_used (ltb-true r n e)
        go false e = none_used (ltb-false r n e)
