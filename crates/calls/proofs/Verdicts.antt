-- 6, 7 and 8 by counts: what the map of a memory needs, and what it needs with one chunk changed. Assumes nothing.
use mathlib.Core.Path.{◌≡◌, sym, ap, ap₂, ◌∙◌}
use mathlib.Core.Logic.{◌≢◌}
use mathlib.Core.Bool.{Bool, true, false, cond, ◌&&◌}
use Prim.Native.Nat.{ℕ, ◌+◌, ◌≤◌, ◌<◌}
use native.Mathlib.Omega.{arith}
use lib.Dec.{leb, ltb}
use mir.Val.{bool_byte}
use borrow.Author.Tests.{lt-ltb, le-ltb}
use Rattle.sums.specs.Ids.{count}
use Rattle.sums.proofs.Counts.{count_le, count_change}
use Rattle.layout.specs.Mem.{Mem}
use Rattle.document.specs.Sizes.{last_chunk}
use Rattle.layout.specs.Sizes.{head, over_count}
use Rattle.layout.specs.Places.{row_owner, page_owner}
use Rattle.document.specs.State.{Kind, is_present, is_sparse, is_dense}
use Rattle.layout.specs.Meaning.{kinds}
use Rattle.layout.specs.Follows.{Follows}
use Rattle.document.specs.declared.sizes.Sizes.{Sizes}
use Rattle.layout_laws.proofs.Walked.{laid_walked}
use Rattle.layout_laws.proofs.ChunkCounts.{over_chunks, sparse_rows, dense_pages}
use Rattle.document.specs.Room.{overflows, sparses, denses, verdict}
use Rattle.layout.proofs.FirstFree.{taken}
use Rattle.document.specs.Refusals.{overflow_full, pages_full, rows_full}
use Rattle.document.specs.Results.{Truth}
use Rattle.std.specs.Prelude.{Err}

-- ---- the verdict on a map

module _ (h : Sizes) (k : ℕ → Kind) (a : Truth) where
  abbrev rows7 : Truth → Truth
  rows7 b = cond (ltb h.r (sparses h k)) (Err rows_full) b

  abbrev pages8 : Truth
  pages8 = cond (ltb h.p (denses h k)) (Err pages_full) a

  at_six : (b : Bool) → ltb h.v (overflows h k) ≡ b → verdict h k a ≡ cond b (Err overflow_full) (rows7 pages8)
  unfolding verdict
  at_six b e = ap (λ (t : Bool). cond t (Err overflow_full) (rows7 pages8)) e

  at_seven : (b : Bool) → ltb h.r (sparses h k) ≡ b → rows7 pages8 ≡ cond b (Err rows_full) pages8
  at_seven b e = ap (λ (t : Bool). cond t (Err rows_full) pages8) e

  at_eight : (b : Bool) → ltb h.p (denses h k) ≡ b → pages8 ≡ cond b (Err pages_full) a
  at_eight b e = ap (λ (t : Bool). cond t (Err pages_full) a) e

  pub verdict_six : h.v < overflows h k → verdict h k a ≡ Err overflow_full
  verdict_six l = at_six true (lt-ltb h.v (overflows h k) l)

  pub verdict_seven : overflows h k ≤ h.v → h.r < sparses h k → verdict h k a ≡ Err rows_full
  verdict_seven l m = at_six false (le-ltb h.v (overflows h k) l) ∙ at_seven true (lt-ltb h.r (sparses h k) m)

  pub verdict_eight : overflows h k ≤ h.v → sparses h k ≤ h.r → h.p < denses h k → verdict h k a ≡ Err pages_full
  verdict_eight l m n =
      at_six false (le-ltb h.v (overflows h k) l) ∙ at_seven false (le-ltb h.r (sparses h k) m) ∙ at_eight true (lt-ltb h.p (denses h k) n)

  pub verdict_room : overflows h k ≤ h.v → sparses h k ≤ h.r → denses h k ≤ h.p → verdict h k a ≡ a
  verdict_room l m n =
      at_six false (le-ltb h.v (overflows h k) l) ∙ at_seven false (le-ltb h.r (sparses h k) m) ∙ at_eight false (le-ltb h.p (denses h k) n)

-- ---- what a memory's map needs

module _ {x : Mem} (w : Follows x) where
  -- the overflow entries in use
  pub overflows_is : overflows (head x) (kinds x) ≡ over_count x.table
  unfolding overflows
  overflows_is = over_chunks (laid_walked w)

  -- the rows and pages that have an owner
  pub sparses_is : sparses (head x) (kinds x) ≡ count (taken (row_owner (head x) x.table)) (head x).r
  unfolding sparses
  sparses_is = sparse_rows (laid_walked w)

  pub denses_is : denses (head x) (kinds x) ≡ count (taken (page_owner (head x) x.table)) (head x).p
  unfolding denses
  denses_is = dense_pages (laid_walked w)

  pub sparses_fit : sparses (head x) (kinds x) ≤ (head x).r
  sparses_fit = let e = sparses_is in let l = count_le (taken (row_owner (head x) x.table)) (head x).r in omega arith

  pub denses_fit : denses (head x) (kinds x) ≤ (head x).p
  denses_fit = let e = denses_is in let l = count_le (taken (page_owner (head x) x.table)) (head x).p in omega arith

  pub overflows_fit : overflows (head x) (kinds x) ≤ (head x).v
  overflows_fit = let e = overflows_is in let l = w.over_fits in omega arith

-- ---- one chunk changed

module _ (h : Sizes) (k k' : ℕ → Kind) (c : ℕ) (l : c < last_chunk h) (off : (c' : ℕ) → c' ≢ c → k' c' ≡ k c') where
  overflows_change : overflows h k' + bool_byte (leb h.d c && is_present (k c)) ≡ overflows h k + bool_byte (leb h.d c && is_present (k' c))
  unfolding overflows
  overflows_change =
      count_change (λ (c : ℕ). leb h.d c && is_present (k c)) (λ (c : ℕ). leb h.d c && is_present (k' c)) c (last_chunk h) l
      (λ j m d. ap (λ (q : Kind). leb h.d j && is_present q) (off j d))

  sparses_change : sparses h k' + bool_byte (is_sparse (k c)) ≡ sparses h k + bool_byte (is_sparse (k' c))
  unfolding sparses
  sparses_change = count_change (λ (c : ℕ). is_sparse (k c)) (λ (c : ℕ). is_sparse (k' c)) c (last_chunk h) l (λ j m d. ap is_sparse (off j d))

  denses_change : denses h k' + bool_byte (is_dense (k c)) ≡ denses h k + bool_byte (is_dense (k' c))
  unfolding denses
  denses_change = count_change (λ (c : ℕ). is_dense (k c)) (λ (c : ℕ). is_dense (k' c)) c (last_chunk h) l (λ j m d. ap is_dense (off j d))

-- what two maps need, where chunk c was of kind a and is of kind b
pub record Needs (h : Sizes) (k k' : ℕ → Kind) (c : ℕ) (a b : Kind) : Type 0 where
  pub over : (t : Bool) → leb h.d c ≡ t → overflows h k' + bool_byte (t && is_present a) ≡ overflows h k + bool_byte (t && is_present b)
  pub rows : sparses h k' + bool_byte (is_sparse a) ≡ sparses h k + bool_byte (is_sparse b)
  pub pages : denses h k' + bool_byte (is_dense a) ≡ denses h k + bool_byte (is_dense b)

pub needs : (h : Sizes) (k k' : ℕ → Kind) (c : ℕ) (a b : Kind) → c < last_chunk h → ((c' : ℕ) → c' ≢ c → k' c' ≡ k c') → k c ≡ a → k' c ≡ b → Needs h k k' c a b
needs h k k' c a b l off p q = record {
  over = λ t e.
      ap₂ (λ (s : Bool) (i : Kind). overflows h k' + bool_byte (s && is_present i)) (sym e) (sym p)
      ∙ overflows_change h k k' c l off
      ∙ ap₂ (λ (s : Bool) (i : Kind). overflows h k + bool_byte (s && is_present i)) e q;
  rows = ap (λ (i : Kind). sparses h k' + bool_byte (is_sparse i)) (sym p) ∙ sparses_change h k k' c l off ∙ ap (λ (i : Kind). sparses h k + bool_byte (is_sparse i)) q;
  pages = ap (λ (i : Kind). denses h k' + bool_byte (is_dense i)) (sym p) ∙ denses_change h k k' c l off ∙ ap (λ (i : Kind). denses h k + bool_byte (is_dense i)) q;
}
