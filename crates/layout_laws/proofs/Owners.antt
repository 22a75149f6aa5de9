-- Each row and page has one owner: no two entries, and no two chunks, share a row or page; a free one holds zeros. Assumes nothing.
use mathlib.Core.Path.{◌≡◌, refl, ap, subst, ◌∙◌}
use mathlib.Core.Logic.{◌≢◌}
use mathlib.Core.List.{List}
use mathlib.Core.Bool.{Bool, true, false}
use Prim.Native.Nat.{ℕ, ◌*◌, ◌/◌, ◌%◌, ◌^◌, ◌<◌}
use native.Mathlib.Nat.{zero-div}
use native.Mathlib.Omega.{arith}
use lib.ListN.{get_or, take, drop, get_or-eq_default}
use lib.Dec.{ltb, eqb}
use borrow.Author.Tests.{ltb-true, ltb-false}
use Rattle.dense.specs.Bits.{bit, is_set}
use Rattle.layout.specs.Mem.{Mem}
use Rattle.layout.specs.Sizes.{wide}
use Rattle.layout.specs.Places.{row_part, page_part, row_owner, page_owner}
use Rattle.layout.specs.Entries.{entries, chunk_at, place_at, place_of}
use Rattle.layout.specs.Follows.{AllZero, OwnsRow, OwnsPage, Owned, Laid}
use Rattle.layout.specs.Tests.{Walked}
use Rattle.document.specs.declared.sizes.Sizes.{Sizes}
use Rattle.layout.specs.declared.place.Place.TheVariants.{Sparse, Dense}
use Rattle.layout_laws.proofs.Sizes.{part_at, part_short}
use Rattle.layout_laws.proofs.Entries.{walked_ordered, chunk_once}
use Rattle.layout_laws.proofs.Short.{owned_of}

-- a part of zeros reads 0 everywhere
part_clear : (xs : List ℕ) (a k : ℕ) → AllZero xs a k → (j : ℕ) → get_or (take k (drop a xs)) j 0 ≡ 0
part_clear xs a k z j = go (ltb j k) refl
  where
    go : (b : Bool) → ltb j k ≡ b → get_or (take k (drop a xs)) j 0 ≡ 0
    go true e = let l = ltb-true j k e in part_at xs a k j l ∙ z j l
    go false e = let l = ltb-false j k e in get_or-eq_default (take k (drop a xs)) 0 {n = j} (let s = part_short xs a k in omega arith)

clear_word : (ws : List ℕ) (o : ℕ) → get_or ws (o / 64) 0 ≡ 0 → is_set ws o ≡ false
unfolding is_set bit
clear_word ws o e = ap (λ (d : ℕ). eqb d 1) (ap (λ (v : ℕ). v / 2 ^ (o % 64) % 2) e ∙ ap (λ (q : ℕ). q % 2) (zero-div (2 ^ (o % 64))))

module _ {x : Mem} {h : Sizes} (w : Walked x h) where
  -- ---- by chunks

  pub row_of_law : (c r l : ℕ) → place_of h x.table c ≡ Sparse r l → OwnsRow h x.table c r l
  row_of_law c r l e = subst (Owned h x.table c) e (owned_of w c)

  pub page_of_law : (c p : ℕ) → place_of h x.table c ≡ Dense p → OwnsPage h x.table c p
  page_of_law c p e = subst (Owned h x.table c) e (owned_of w c)

  pub row_once : (c k r l m : ℕ) → place_of h x.table c ≡ Sparse r l → place_of h x.table k ≡ Sparse r m → c ≡ k
  row_once c k r l m p q = let a = (row_of_law c r l p).owner in let b = (row_of_law k r m q).owner in omega arith

  pub page_once : (c k p : ℕ) → place_of h x.table c ≡ Dense p → place_of h x.table k ≡ Dense p → c ≡ k
  page_once c k p e f = let a = (page_of_law c p e).owner in let b = (page_of_law k p f).owner in omega arith

  -- a row or page that is free is no chunk's
  pub row_taken : (c r l : ℕ) → place_of h x.table c ≡ Sparse r l → row_owner h x.table r ≢ 0
  row_taken c r l p z = let a = (row_of_law c r l p).owner in omega arith

  pub page_taken : (c p : ℕ) → place_of h x.table c ≡ Dense p → page_owner h x.table p ≢ 0
  page_taken c p e z = let a = (page_of_law c p e).owner in omega arith

  -- ---- by entries

  pub entry_row_once : (i e r l m : ℕ) → i < entries h x.table → e < entries h x.table → place_at h x.table i ≡ Sparse r l → place_at h x.table e ≡ Sparse r m → i ≡ e
  entry_row_once i e r l m a b p q =
      let s : OwnsRow h x.table (chunk_at h x.table i) r l = subst (Owned h x.table (chunk_at h x.table i)) p (w.places i a) in
      let t : OwnsRow h x.table (chunk_at h x.table e) r m = subst (Owned h x.table (chunk_at h x.table e)) q (w.places e b) in
      chunk_once h x.table (walked_ordered w) i e a b (let y = s.owner in let z = t.owner in omega arith)

  pub entry_page_once : (i e p : ℕ) → i < entries h x.table → e < entries h x.table → place_at h x.table i ≡ Dense p → place_at h x.table e ≡ Dense p → i ≡ e
  entry_page_once i e p a b f g =
      let s : OwnsPage h x.table (chunk_at h x.table i) p = subst (Owned h x.table (chunk_at h x.table i)) f (w.places i a) in
      let t : OwnsPage h x.table (chunk_at h x.table e) p = subst (Owned h x.table (chunk_at h x.table e)) g (w.places e b) in
      chunk_once h x.table (walked_ordered w) i e a b (let y = s.owner in let z = t.owner in omega arith)

-- ---- free rows and pages

module _ {x : Mem} {h : Sizes} (w : Laid x h) where
  pub free_row_clear : (r : ℕ) → r < h.r → row_owner h x.table r ≡ 0 → (j : ℕ) → get_or (row_part h x.rows r) j 0 ≡ 0
  free_row_clear r l e = part_clear x.rows (r * h.m) h.m (w.free_rows r l e)

  pub free_page_clear : (p : ℕ) → p < h.p → page_owner h x.table p ≡ 0 → (j : ℕ) → get_or (page_part h x.pages p) j 0 ≡ 0
  free_page_clear p l e = part_clear x.pages (p * wide h) (wide h) (w.free_pages p l e)

  pub free_page_none : (p : ℕ) → p < h.p → page_owner h x.table p ≡ 0 → (o : ℕ) → is_set (page_part h x.pages p) o ≡ false
  free_page_none p l e o = clear_word (page_part h x.pages p) o (free_page_clear p l e (o / 64))
