-- Writes to the table: a chunk's word in its entry or in a new overflow entry, and an owner. What each leaves as it was. Assumes nothing.
use mathlib.Core.Path.{◌≡◌, refl, sym, ap, ◌∙◌}
use mathlib.Core.Logic.{◌≢◌}
use mathlib.Core.List.{List}
use Prim.Native.Nat.{ℕ, ◌+◌, ◌≤◌, ◌<◌}
use native.Mathlib.Omega.{arith}
use lib.ListN.{length, get_or, set, length-set}
use lib.Seq.{get_or-set_same, get_or-set_other}
use Rattle.layout.specs.Sizes.{direct_at, over_at, row_owners_at, page_owners_at, table_size, over_count, header_at}
use Rattle.layout.specs.Entries.{entries, chunk_at, word_at, prefix_at}
use Rattle.layout.specs.Writes.{put_row_owner, put_page_owner}
use Rattle.document.specs.declared.sizes.Sizes.{Sizes}
use Rattle.layout.proofs.Owners.{put_owner_length, put_owner_off}
use Rattle.layout_laws.proofs.Entries.{chunk_direct, word_direct, prefix_direct, chunk_over, word_over, prefix_over, Which, direct, over, which}
use Rattle.steps.proofs.Puts as puts
use Rattle.steps.proofs.Puts.{Run, Put, Alike, put_alike}

-- the directory of a table
abbrev pub run_of : Sizes → List ℕ → Run
run_of h t = record { size = entries h t; key = chunk_at h t; word = word_at h t; prefix = prefix_at h t }

-- the word w put for chunk c, owners and header words 9 and 10 aside
pub record Wrote (h : Sizes) (t t' : List ℕ) (c w : ℕ) : Type 0 where
  pub len : length t' ≡ length t
  pub header : (i : ℕ) → i < 9 → i ≢ 7 → get_or t' i 0 ≡ get_or t i 0
  pub unused : (i : ℕ) → i < 5 → get_or t' (11 + i) 0 ≡ get_or t (11 + i) 0
  pub more : over_count t ≤ over_count t'
  pub fits : over_count t' ≤ h.v
  pub spare : (i : ℕ) → over_at h (over_count t') ≤ i → i < row_owners_at h → get_or t' i 0 ≡ get_or t i 0
  pub put : Put (run_of h t) (run_of h t') c w

-- and those as they were
pub record Worded (h : Sizes) (t t' : List ℕ) (c w : ℕ) : Type 0 where
  pub wrote : Wrote h t t' c w
  pub owners : (i : ℕ) → row_owners_at h ≤ i → get_or t' i 0 ≡ get_or t i 0
  pub froms : (i : ℕ) → 9 ≤ i → i < 11 → get_or t' i 0 ≡ get_or t i 0

pub header_kept : (h : Sizes) (t t' : List ℕ) (c w : ℕ) → Wrote h t t' c w → header_at t' ≡ header_at t
header_kept h t t' c w u =
    let k = u.header in
    rw (k 0 (omega arith) (omega arith), k 1 (omega arith) (omega arith), k 2 (omega arith) (omega arith), k 3 (omega arith) (omega arith), k 4 (omega arith) (omega arith), k 5 (omega arith) (omega arith))

-- ---- equal where it stands, equal as it is read

module _ (h : Sizes) (t t' : List ℕ) (e : ℕ) where
  pub chunk_same : ((j : ℕ) → e ≡ h.d + j → get_or t' (over_at h j) 0 ≡ get_or t (over_at h j) 0) → chunk_at h t' e ≡ chunk_at h t e
  chunk_same f = go (which h.d e)
    where
      go : Which h.d e → chunk_at h t' e ≡ chunk_at h t e
      go (direct l) = chunk_direct h t' e l ∙ sym (chunk_direct h t e l)
      go (over j q) = ap (chunk_at h t') q ∙ chunk_over h t' j ∙ f j q ∙ sym (ap (chunk_at h t) q ∙ chunk_over h t j)

  pub word_same : (e < h.d → get_or t' (direct_at e) 0 ≡ get_or t (direct_at e) 0) → ((j : ℕ) → e ≡ h.d + j → get_or t' (over_at h j + 1) 0 ≡ get_or t (over_at h j + 1) 0) → word_at h t' e ≡ word_at h t e
  word_same g f = go (which h.d e)
    where
      go : Which h.d e → word_at h t' e ≡ word_at h t e
      go (direct l) = word_direct h t' e l ∙ g l ∙ sym (word_direct h t e l)
      go (over j q) = ap (word_at h t') q ∙ word_over h t' j ∙ f j q ∙ sym (ap (word_at h t) q ∙ word_over h t j)

  pub prefix_same : (e < h.d → get_or t' (direct_at e + 1) 0 ≡ get_or t (direct_at e + 1) 0) → ((j : ℕ) → e ≡ h.d + j → get_or t' (over_at h j + 2) 0 ≡ get_or t (over_at h j + 2) 0) → prefix_at h t' e ≡ prefix_at h t e
  prefix_same g f = go (which h.d e)
    where
      go : Which h.d e → prefix_at h t' e ≡ prefix_at h t e
      go (direct l) = prefix_direct h t' e l ∙ g l ∙ sym (prefix_direct h t e l)
      go (over j q) = ap (prefix_at h t') q ∙ prefix_over h t' j ∙ f j q ∙ sym (ap (prefix_at h t) q ∙ prefix_over h t j)

-- ---- an owner

-- past the entries, and in header words 9 and 10, nothing of the directory stands
module _ (h : Sizes) (u u' : List ℕ) (off : (j : ℕ) → j < row_owners_at h → j ≢ 9 → j ≢ 10 → get_or u' j 0 ≡ get_or u j 0) where
  at : (j : ℕ) → 11 ≤ j → j < row_owners_at h → get_or u' j 0 ≡ get_or u j 0
  at j l m = off j m (omega arith) (omega arith)

  seven : over_count u' ≡ over_count u
  seven = off 7 (omega arith) (omega arith) (omega arith)

  owner_alike : over_count u ≤ h.v → Alike (run_of h u) (run_of h u')
  owner_alike f =
      record {
        size = ap (λ (n : ℕ). h.d + n) seven;
        keys = λ e m. chunk_same h u u' e (λ j q. at (over_at h j) (omega arith) (omega arith));
        words = λ e m. word_same h u u' e (λ q. at (direct_at e) (omega arith) (omega arith)) (λ j q. at (over_at h j + 1) (omega arith) (omega arith));
        prefixes = λ e m. prefix_same h u u' e (λ q. at (direct_at e + 1) (omega arith) (omega arith)) (λ j q. at (over_at h j + 2) (omega arith) (omega arith));
      }

  owner_set : (t : List ℕ) (c w : ℕ) → Wrote h t u c w → length u' ≡ length u → Wrote h t u' c w
  owner_set t c w z long =
      let f = z.fits in
      let s = seven in
      record {
        len = long ∙ z.len;
        header = λ j m d. off j (omega arith) (omega arith) (omega arith) ∙ z.header j m d;
        unused = λ j m. at (11 + j) (omega arith) (omega arith) ∙ z.unused j m;
        more = let m = z.more in omega arith;
        fits = omega arith;
        spare = λ j a b. at j (omega arith) b ∙ z.spare j (omega arith) b;
        put = put_alike (run_of h t) (run_of h u) (run_of h u') c w z.put (owner_alike f);
      }

module _ (h : Sizes) (t u : List ℕ) (c w : ℕ) (z : Wrote h t u c w) (i v : ℕ) where
  pub row_owner_set : Wrote h t (put_row_owner h u i v) c w
  row_owner_set =
      owner_set h u (put_row_owner h u i v) (λ j l d e. put_owner_off 9 (row_owners_at h) u i v j d (omega arith)) t c w z (put_owner_length 9 (row_owners_at h) u i v)

  pub page_owner_set : Wrote h t (put_page_owner h u i v) c w
  page_owner_set =
      owner_set h u (put_page_owner h u i v) (λ j l d e. put_owner_off 10 (page_owners_at h) u i v j e (omega arith)) t c w z (put_owner_length 10 (page_owners_at h) u i v)

-- ---- an entry that is there

-- where entry e's word stands
abbrev word_place : (h : Sizes) (e : ℕ) → Which h.d e → ℕ
word_place h e (direct l) = direct_at e
word_place h e (over j q) = over_at h j + 1

module _ (h : Sizes) (e : ℕ) where
  place_low : (s : Which h.d e) → 16 ≤ word_place h e s
  place_low (direct l) = omega arith
  place_low (over j q) = omega arith

  place_high : (s : Which h.d e) (n : ℕ) → e < h.d + n → word_place h e s < over_at h n
  place_high (direct l) n m = omega arith
  place_high (over j q) n m = omega arith

  no_chunk : (s : Which h.d e) (j : ℕ) → over_at h j ≢ word_place h e s
  no_chunk (direct l) j = omega arith
  no_chunk (over i q) j = omega arith

  no_prefix : (s : Which h.d e) (j : ℕ) → over_at h j + 2 ≢ word_place h e s
  no_prefix (direct l) j = omega arith
  no_prefix (over i q) j = omega arith

  no_direct_prefix : (s : Which h.d e) (j : ℕ) → j < h.d → direct_at j + 1 ≢ word_place h e s
  no_direct_prefix (direct l) j m = omega arith
  no_direct_prefix (over i q) j m = omega arith

  no_word : (s : Which h.d e) (j : ℕ) → h.d + j ≢ e → over_at h j + 1 ≢ word_place h e s
  no_word (direct l) j d = omega arith
  no_word (over i q) j d = omega arith

  no_direct_word : (s : Which h.d e) (j : ℕ) → j < h.d → j ≢ e → direct_at j ≢ word_place h e s
  no_direct_word (direct l) j m d = omega arith
  no_direct_word (over i q) j m d = omega arith

word_here : (h : Sizes) (t : List ℕ) (e : ℕ) (s : Which h.d e) → word_at h t e ≡ get_or t (word_place h e s) 0
word_here h t e (direct l) = word_direct h t e l
word_here h t e (over j q) = ap (word_at h t) q ∙ word_over h t j

module _ (h : Sizes) (t : List ℕ) (room : table_size h ≤ length t) (fits : over_count t ≤ h.v) (e : ℕ) (s : Which h.d e) (l : e < entries h t) (w : ℕ) where
  off : (i : ℕ) → i ≢ word_place h e s → get_or (set t (word_place h e s) w) i 0 ≡ get_or t i 0
  off i d = get_or-set_other t (word_place h e s) i w 0 d

  pub word_set : Worded h t (set t (word_place h e s) w) (chunk_at h t e) w
  word_set =
      let t' = set t (word_place h e s) w in
      let a = place_low h e s in
      let b = place_high h e s (over_count t) l in
      let seven = off 7 (omega arith) in
      record {
        wrote =
            record {
              len = length-set t (word_place h e s) w;
              header = λ i m d. off i (omega arith);
              unused = λ i m. off (11 + i) (omega arith);
              more = omega arith;
              fits = omega arith;
              spare = λ i x y. off i (omega arith);
              put =
                  puts.changed e
                  (record {
                    there = l;
                    is = refl;
                    size = ap (λ (n : ℕ). h.d + n) seven;
                    keys = λ j m. chunk_same h t t' j (λ i q. off (over_at h i) (no_chunk h e s i));
                    word = word_here h t' e s ∙ get_or-set_same t (word_place h e s) w 0 (omega arith);
                    words = λ j m d. word_same h t t' j (λ x. off (direct_at j) (no_direct_word h e s j x d)) (λ i q. off (over_at h i + 1) (no_word h e s i (λ y. d (q ∙ y))));
                    prefixes = λ j m. prefix_same h t t' j (λ x. off (direct_at j + 1) (no_direct_prefix h e s j x)) (λ i q. off (over_at h i + 2) (no_prefix h e s i));
                  });
            };
        owners = λ i m. off i (omega arith);
        froms = λ i m n. off i (omega arith);
      }
