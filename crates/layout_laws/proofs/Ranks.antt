-- The counts that a ranked set keeps are ranks in the plain set: of any chunk's first id, of any id, of them all. Assumes nothing.
use mathlib.Core.Path.{◌≡◌, refl, sym, ap, ap₂, ◌∙◌}
use mathlib.Core.List.{List}
use mathlib.Core.Bool.{Bool, true, false, cond}
use Prim.Native.Nat.{ℕ, ◌+◌, ◌*◌, ◌/◌, ◌%◌, ◌≤◌, ◌<◌}
use native.Mathlib.Omega.{arith}
use lib.ListN.{length, get_or}
use lib.Dec.{ltb}
use borrow.Author.Tests.{ltb-true, ltb-false}
use Rattle.sums.specs.Sums.{sum_to}
use Rattle.sums.specs.Ids.{count, total}
use Rattle.dense.specs.Bits.{bits_to}
use Rattle.layout.specs.Mem.{Mem}
use Rattle.document.specs.Sizes.{top}
use Rattle.layout.specs.Sizes.{blocks_of, head, over_at, over_count, total_at}
use Rattle.layout.specs.Places.{page_part}
use Rattle.layout.specs.Entries.{entries, chunk_at, prefix_at, word_of, place_of}
use Rattle.layout.specs.Meaning.{holds, ranked}
use Rattle.layout.specs.Follows.{members_at, when_ranked, Follows}
use Rattle.layout.specs.Short.{over_place, spot_of}
use Rattle.document.specs.declared.sizes.Sizes.{Sizes}
use Rattle.layout_laws.specs.Chunks.{first_entry, first_rank, spot_below}
use Rattle.layout_laws.proofs.Keys.{Cut}
use Rattle.layout_laws.proofs.Halving.{lower_first}
use Rattle.layout_laws.proofs.Entries.{Which, direct, over, which, Ordered, laid_ordered, chunk_direct, chunk_over, chunk_past}
use Rattle.layout_laws.proofs.Short.{over_rising, spot_is}
use Rattle.layout_laws.proofs.Walked.{laid_walked}
use Rattle.layout_laws.proofs.Places.{spot_below_law}
use Rattle.layout_laws.proofs.Members.{count_cut, count_entry, count_total, count_rank}

-- ---- the entry of the first chunk that is not below c

module _ (h : Sizes) (t : List ℕ) (o : Ordered h t) (c : ℕ) where
  cut_direct : c < h.d → Cut (chunk_at h t) (entries h t) c c
  cut_direct l = record { fits = omega arith; before = λ e m. (let q = chunk_direct h t e (omega arith) in omega arith); after = λ e a b. go e a b (which h.d e) }
    where
      go : (e : ℕ) → c ≤ e → e < entries h t → Which h.d e → c ≤ chunk_at h t e
      go e a b (direct m) = let q = chunk_direct h t e m in omega arith
      go e a b (over j m) = let q = chunk_past h t o e (omega arith) b in omega arith

  cut_over : h.d ≤ c → (k : ℕ) → Cut (λ (j : ℕ). get_or t (over_at h j) 0) (over_count t) k c → Cut (chunk_at h t) (entries h t) (h.d + k) c
  cut_over l k u = record { fits = (let f = u.fits in omega arith); before = λ e m. early e m (which h.d e); after = λ e a b. late e a b (which h.d e) }
    where
      early : (e : ℕ) → e < h.d + k → Which h.d e → chunk_at h t e < c
      early e m (direct q) = let p = chunk_direct h t e q in omega arith
      early e m (over j q) = let p = ap (chunk_at h t) q ∙ chunk_over h t j in let b = u.before j (omega arith) in omega arith

      late : (e : ℕ) → h.d + k ≤ e → e < entries h t → Which h.d e → c ≤ chunk_at h t e
      late e a b (direct q) = absurd (omega arith)
      late e a b (over j q) = let p = ap (chunk_at h t) q ∙ chunk_over h t j in let f = u.after j (omega arith) (omega arith) in omega arith

  pub entry_cut : Cut (chunk_at h t) (entries h t) (first_entry h t c) c
  unfolding first_entry
  entry_cut = go (ltb c h.d) refl
    where
      go : (b : Bool) → ltb c h.d ≡ b → Cut (chunk_at h t) (entries h t) (cond b c (h.d + over_place t (16 + 2 * h.d) (over_count t) c)) c
      go true e = cut_direct (ltb-true c h.d e)
      go false e = cut_over (ltb-false c h.d e) (over_place t (16 + 2 * h.d) (over_count t) c) (lower_first (λ (j : ℕ). get_or t (over_at h j) 0) (over_count t) c (over_rising h t o))

-- ---- prefixes, the total, block counts

pub kept_ranked : (x : Mem) → ranked x ≡ true → (n : ℕ) → when_ranked x n ≡ n
kept_ranked x r n = ap (λ (b : Bool). cond b n 0) r

module _ {x : Mem} (w : Follows x) (r : ranked x ≡ true) where
  -- an entry's prefix is the rank of its chunk's first id
  pub prefix_rank : (e : ℕ) → e < entries (head x) x.table → prefix_at (head x) x.table e ≡ count (holds x) (chunk_at (head x) x.table e * top (head x))
  prefix_rank e l = w.prefixes e l ∙ kept_ranked x r (sum_to (members_at (head x) x) e) ∙ sym (count_entry w e l)

  pub total_rank : total_at x.table ≡ total (holds x)
  total_rank = w.total ∙ kept_ranked x r (sum_to (members_at (head x) x) (entries (head x) x.table)) ∙ sym (count_total w)

  pub block_rank : (p b : ℕ) → p < (head x).p → b < blocks_of (head x) → get_or x.blocks (p * blocks_of (head x) + b) 0 ≡ bits_to (page_part (head x) x.pages p) (512 * b)
  block_rank p b l m = w.blocks p b l m ∙ kept_ranked x r (bits_to (page_part (head x) x.pages p) (512 * b))

  -- of a direct chunk it is its own entry's
  pub direct_rank : (c : ℕ) → c < (head x).d → prefix_at (head x) x.table c ≡ count (holds x) (c * top (head x))
  direct_rank c l = prefix_rank c (omega arith) ∙ ap (λ (k : ℕ). count (holds x) (k * top (head x))) (chunk_direct (head x) x.table c l)

  -- of any chunk: the prefix of the first entry from it on, or the total
  pub first_rank_law : (c : ℕ) → count (holds x) (c * top (head x)) ≡ first_rank x c
  unfolding first_rank
  first_rank_law c = go (first_entry (head x) x.table c) (entry_cut (head x) x.table (laid_ordered w) c) (ltb (first_entry (head x) x.table c) (entries (head x) x.table)) refl
    where
      go : (k : ℕ) → Cut (chunk_at (head x) x.table) (entries (head x) x.table) k c → (b : Bool) → ltb k (entries (head x) x.table) ≡ b → count (holds x) (c * top (head x)) ≡ cond b (prefix_at (head x) x.table k) (total_at x.table)
      go k u true e = count_cut w k c u ∙ sym (w.prefixes k (ltb-true k (entries (head x) x.table) e) ∙ kept_ranked x r (sum_to (members_at (head x) x) k))
      go k u false e =
          let l = ltb-false k (entries (head x) x.table) e in
          let f = u.fits in
          let q : k ≡ entries (head x) x.table = omega arith in
          count_cut w k c u ∙ ap (sum_to (members_at (head x) x)) q ∙ sym (w.total ∙ kept_ranked x r (sum_to (members_at (head x) x) (entries (head x) x.table)))

  -- of any id: its chunk's first id's, and what the short test's part has below it
  pub id_rank : (n : ℕ) → count (holds x) n ≡ first_rank x (n / top (head x)) + spot_below x (spot_of (head x) (length x.pages) (length x.rows) (word_of (head x) x.table (n / top (head x)))) (n % top (head x))
  unfolding first_rank
  id_rank n =
      count_rank w n
      ∙ ap₂ ◌+◌ (first_rank_law (n / top (head x)))
      (sym (ap (λ s. spot_below x s (n % top (head x))) (spot_is (laid_walked w) (n / top (head x))) ∙ spot_below_law (head x) x (place_of (head x) x.table (n / top (head x))) (n % top (head x))))
