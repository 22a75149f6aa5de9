-- Prefixes written into a table: what they change, and that nothing else does. Assumes nothing.
use mathlib.Core.Path.{◌≡◌, refl, sym, ap, ◌∙◌}
use mathlib.Core.Logic.{◌⊎◌, inl, inr, ◌≢◌}
use mathlib.Core.List.{List}
use Prim.Native.Nat.{ℕ, zero, suc, ◌+◌, ◌-◌, ◌≤◌, ◌<◌}
use native.Mathlib.Omega.{arith}
use lib.ListN.{length, get_or, set, length-set}
use lib.Seq.{get_or-set_same, get_or-set_other}
use Rattle.sums.proofs.Sums.{last_or}
use Rattle.layout.specs.Sizes.{direct_at, over_at, mode_at, over_count, total_at}
use Rattle.layout.specs.Entries.{entries, chunk_at, word_at, prefix_at, prefix_place}
use Rattle.document.specs.declared.sizes.Sizes.{Sizes}
use Rattle.layout.proofs.Entries.{place_below, place_past}
use Rattle.layout_laws.proofs.Entries.{Which, direct, over, which, chunk_direct, chunk_over, word_direct, word_over}
use Rattle.ranks.specs.Form.{prefixed, headed}

-- ---- where prefixes stand

module _ (h : Sizes) where
  pub place_direct : (e : ℕ) → e < h.d → prefix_place h e ≡ direct_at e + 1
  place_direct e l = sym (place_below h e l)

  pub place_over : (j : ℕ) → prefix_place h (h.d + j) ≡ over_at h j + 2
  place_over j = let e : h.d + j - h.d ≡ j = omega arith in sym (place_past h (h.d + j) (omega arith)) ∙ ap (λ (i : ℕ). over_at h i + 2) e

  pub place_apart : (i e : ℕ) → i < e → prefix_place h i ≢ prefix_place h e
  place_apart i e l = go (which h.d i) (which h.d e)
    where
      go : Which h.d i → Which h.d e → prefix_place h i ≢ prefix_place h e
      go (direct m) (direct n) q = let a = place_direct i m in let b = place_direct e n in omega arith
      go (direct m) (over j n) q = let a = place_direct i m in let b = ap (prefix_place h) n ∙ place_over j in omega arith
      go (over j m) (direct n) q = omega arith
      go (over j m) (over k n) q = let a = ap (prefix_place h) m ∙ place_over j in let b = ap (prefix_place h) n ∙ place_over k in omega arith

  -- past the header, before what follows the overflow entries in use
  pub place_low : (e : ℕ) → 16 < prefix_place h e
  place_low e = go (which h.d e)
    where
      go : Which h.d e → 16 < prefix_place h e
      go (direct m) = let a = place_direct e m in omega arith
      go (over j m) = let a = ap (prefix_place h) m ∙ place_over j in omega arith

  pub place_high : (n e : ℕ) → e < h.d + n → prefix_place h e < over_at h n
  place_high n e l = go (which h.d e)
    where
      go : Which h.d e → prefix_place h e < over_at h n
      go (direct m) = let a = place_direct e m in omega arith
      go (over j m) = let a = ap (prefix_place h) m ∙ place_over j in omega arith

  -- no id and no word stands there
  pub place_no_id : (j e : ℕ) → prefix_place h e ≢ over_at h j
  place_no_id j e = go (which h.d e)
    where
      go : Which h.d e → prefix_place h e ≢ over_at h j
      go (direct m) q = let a = place_direct e m in omega arith
      go (over k m) q = let a = ap (prefix_place h) m ∙ place_over k in omega arith

  pub place_no_direct : (c e : ℕ) → c < h.d → prefix_place h e ≢ direct_at c
  place_no_direct c e l = go (which h.d e)
    where
      go : Which h.d e → prefix_place h e ≢ direct_at c
      go (direct m) q = let a = place_direct e m in omega arith
      go (over k m) q = let a = ap (prefix_place h) m ∙ place_over k in omega arith

  pub place_no_word : (j e : ℕ) → prefix_place h e ≢ over_at h j + 1
  place_no_word j e = go (which h.d e)
    where
      go : Which h.d e → prefix_place h e ≢ over_at h j + 1
      go (direct m) q = let a = place_direct e m in omega arith
      go (over k m) q = let a = ap (prefix_place h) m ∙ place_over k in omega arith

  -- ---- the table with n of them written

  module _ (t : List ℕ) (f : ℕ → ℕ) where
    pub prefixed_length : (n : ℕ) → length (prefixed h t f n) ≡ length t
    unfolding prefixed
    prefixed_length zero = refl
    prefixed_length (suc n) = length-set (prefixed h t f n) (prefix_place h n) (f n) ∙ prefixed_length n

    pub prefixed_other : (n i : ℕ) → ((e : ℕ) → e < n → prefix_place h e ≢ i) → get_or (prefixed h t f n) i 0 ≡ get_or t i 0
    unfolding prefixed
    prefixed_other zero i d = refl
    prefixed_other (suc n) i d =
        get_or-set_other (prefixed h t f n) (prefix_place h n) i (f n) 0 (λ q. d n (omega arith) (sym q))
        ∙ prefixed_other n i (λ e l. d e (omega arith))

    pub prefixed_at : (n e : ℕ) → e < n → prefix_place h e < length t → get_or (prefixed h t f n) (prefix_place h e) 0 ≡ f e
    unfolding prefixed
    prefixed_at zero e l m = absurd (omega arith)
    prefixed_at (suc n) e l m = go (last_or e n l) (λ k. prefixed_at n e k m)
      where
        go : (e < n) ⊎ (e ≡ n) → (e < n → get_or (prefixed h t f n) (prefix_place h e) 0 ≡ f e) → get_or (set (prefixed h t f n) (prefix_place h n) (f n)) (prefix_place h e) 0 ≡ f e
        go (inl k) r = get_or-set_other (prefixed h t f n) (prefix_place h n) (prefix_place h e) (f n) 0 (place_apart e n k) ∙ r k
        go (inr q) r =
            let s = prefixed_length n in
            let a = ap (prefix_place h) q in
            ap (λ (k : ℕ). get_or (set (prefixed h t f n) (prefix_place h n) (f n)) (prefix_place h k) 0) q
            ∙ (get_or-set_same (prefixed h t f n) (prefix_place h n) (f n) 0 (omega arith) ∙ ap f (sym q))

    -- words stay, entry by entry
    pub prefixed_word : (n e : ℕ) → word_at h (prefixed h t f n) e ≡ word_at h t e
    prefixed_word n e = go (which h.d e)
      where
        go : Which h.d e → word_at h (prefixed h t f n) e ≡ word_at h t e
        go (direct m) = word_direct h (prefixed h t f n) e m ∙ prefixed_other n (direct_at e) (λ i k. place_no_direct e i m) ∙ sym (word_direct h t e m)
        go (over j q) =
            ap (word_at h (prefixed h t f n)) q ∙ word_over h (prefixed h t f n) j ∙ prefixed_other n (over_at h j + 1) (λ i k. place_no_word j i) ∙ sym (ap (word_at h t) q ∙ word_over h t j)

-- ---- header words 6 and 8

module _ (t : List ℕ) (mode total : ℕ) where
  pub marked_length : length (headed t mode total) ≡ length t
  marked_length = length-set (set t 8 total) 6 mode ∙ length-set t 8 total

  pub marked_mode : 6 < length t → mode_at (headed t mode total) ≡ mode
  marked_mode l = get_or-set_same (set t 8 total) 6 mode 0 (let a = length-set t 8 total in omega arith)

  pub marked_total : 8 < length t → total_at (headed t mode total) ≡ total
  marked_total l = get_or-set_other (set t 8 total) 6 8 mode 0 (omega arith) ∙ get_or-set_same t 8 total 0 l

  pub marked_other : (i : ℕ) → i ≢ 6 → i ≢ 8 → get_or (headed t mode total) i 0 ≡ get_or t i 0
  marked_other i a b = get_or-set_other (set t 8 total) 6 i mode 0 a ∙ get_or-set_other t 8 i total 0 b

-- ---- both

-- u is t with another mode, total and prefixes
pub record Recounted (h : Sizes) (t u : List ℕ) (m k : ℕ) (f : ℕ → ℕ) : Type 0 where
  pub long : length u ≡ length t
  pub mode : mode_at u ≡ m
  pub total : total_at u ≡ k
  pub prefixes : (e : ℕ) → e < entries h t → prefix_at h u e ≡ f e
  pub header : (i : ℕ) → i < 16 → i ≢ 6 → i ≢ 8 → get_or u i 0 ≡ get_or t i 0
  pub ids : (j : ℕ) → get_or u (over_at h j) 0 ≡ get_or t (over_at h j) 0
  pub over_words : (j : ℕ) → get_or u (over_at h j + 1) 0 ≡ get_or t (over_at h j + 1) 0
  pub direct_words : (c : ℕ) → c < h.d → get_or u (direct_at c) 0 ≡ get_or t (direct_at c) 0
  pub past : (i : ℕ) → over_at h (over_count t) ≤ i → get_or u i 0 ≡ get_or t i 0
  pub other : (i : ℕ) → i ≢ 6 → i ≢ 8 → ((e : ℕ) → e < entries h t → prefix_place h e ≢ i) → get_or u i 0 ≡ get_or t i 0

module _ (h : Sizes) (t : List ℕ) (f : ℕ → ℕ) (mode total : ℕ) (l : over_at h (over_count t) ≤ length t) where
  abbrev n : ℕ
  n = entries h t

  elsewhere : (i : ℕ) → i ≢ 6 → i ≢ 8 → ((e : ℕ) → e < n → prefix_place h e ≢ i) → get_or (headed (prefixed h t f n) mode total) i 0 ≡ get_or t i 0
  elsewhere i a b d = marked_other (prefixed h t f n) mode total i a b ∙ prefixed_other h t f n i d

  at_prefix : (e : ℕ) → e < n → prefix_at h (headed (prefixed h t f n) mode total) e ≡ f e
  unfolding prefix_at
  at_prefix e m =
      let a = place_low h e in
      let b = place_high h (over_count t) e m in
      marked_other (prefixed h t f n) mode total (prefix_place h e) (omega arith) (omega arith) ∙ prefixed_at h t f n e m (omega arith)

  pub recounted : Recounted h t (headed (prefixed h t f n) mode total) mode total f
  recounted =
      let a = prefixed_length h t f n in
      record {
        long = marked_length (prefixed h t f n) mode total ∙ a;
        mode = marked_mode (prefixed h t f n) mode total (omega arith);
        total = marked_total (prefixed h t f n) mode total (omega arith);
        prefixes = at_prefix;
        header = λ i m b c. elsewhere i b c (λ e k q. let z = place_low h e in omega arith);
        ids = λ j. elsewhere (over_at h j) (omega arith) (omega arith) (λ e k. place_no_id h j e);
        over_words = λ j. elsewhere (over_at h j + 1) (omega arith) (omega arith) (λ e k. place_no_word h j e);
        direct_words = λ c m. elsewhere (direct_at c) (omega arith) (omega arith) (λ e k. place_no_direct h c e m);
        past = λ i m. elsewhere i (omega arith) (omega arith) (λ e k q. let z = place_high h (over_count t) e k in omega arith);
        other = elsewhere;
      }

-- chunk ids and words stay, entry by entry
module _ {h : Sizes} {t u : List ℕ} {m k : ℕ} {f : ℕ → ℕ} (r : Recounted h t u m k f) where
  pub over_same : over_count u ≡ over_count t
  over_same = r.header 7 (omega arith) (omega arith) (omega arith)

  pub chunk_same : (e : ℕ) → chunk_at h u e ≡ chunk_at h t e
  chunk_same e = go (which h.d e)
    where
      go : Which h.d e → chunk_at h u e ≡ chunk_at h t e
      go (direct m) = chunk_direct h u e m ∙ sym (chunk_direct h t e m)
      go (over j q) = ap (chunk_at h u) q ∙ chunk_over h u j ∙ r.ids j ∙ sym (ap (chunk_at h t) q ∙ chunk_over h t j)

  pub word_same : (e : ℕ) → word_at h u e ≡ word_at h t e
  word_same e = go (which h.d e)
    where
      go : Which h.d e → word_at h u e ≡ word_at h t e
      go (direct m) = word_direct h u e m ∙ r.direct_words e m ∙ sym (word_direct h t e m)
      go (over j q) = ap (word_at h u) q ∙ word_over h u j ∙ r.over_words j ∙ sym (ap (word_at h t) q ∙ word_over h t j)
