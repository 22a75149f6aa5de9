-- The part of a pool that a word names, way by way. Assumes nothing.
use mathlib.Core.Path.{◌≡◌, refl, sym, ◌∙◌, ap, ap₂}
use mathlib.Core.List.{List}
use mathlib.Core.Bool.{Bool, true, false, cond, not, ◌&&◌}
use Prim.Native.Nat.{ℕ, suc, ◌+◌, ◌-◌, ◌*◌, ◌/◌, ◌^◌, ◌≤◌, ◌<◌}
use native.Mathlib.Omega.{arith}
use native.Mathlib.Nat.{div-add-mod', mod-lt, mul-le-mul_right, suc-mul}
use lib.Pow.{pow_pos}
use lib.Dec.{leb, ltb}
use borrow.Author.Tests.{le-leb, lt-leb, leb-true, ltb-true, ltb-false, not-true, not-false}
use mir.Syntax.{w64}
use mir.Val.{Fits}
use Rattle.sums.proofs.Rules.{both}
use Rattle.numbers.proofs.Powers.{times_most}
use Rattle.document.specs.declared.sizes.Sizes.{Sizes}
use Rattle.layout.specs.Sizes.{header_at}
use Rattle.layout.specs.Places.{decoded}
use Rattle.layout.specs.Short.{spot_at, spot_of}
use Rattle.layout.specs.declared.place.Place.{Place}
use Rattle.layout.specs.declared.place.Place.TheVariants.{Sparse, Dense}
use Rattle.document.specs.Refusals.{not_laid_out}
use Rattle.layout.specs.Found.{Spotted}
use Rattle.layout.specs.declared.find.Spot.TheVariants.{Page, Row}
use Rattle.std.specs.Prelude.{Err, Ok}

-- by the word's place
pub spot_way : (h : Sizes) (pages rows w : ℕ) (q p : Place) → q ≡ decoded w → q ≡ p → spot_at h pages rows p ≡ spot_of h pages rows w
unfolding spot_of
spot_way h pages rows w q p e f = ap (spot_at h pages rows) (sym f ∙ e)

-- ---- a row

module _ (t : List ℕ) (rows r l m n : ℕ) (em : m ≡ (header_at t).m) (en : n ≡ (header_at t).r) where
  abbrev row_last : Bool
  row_last = leb (r * (header_at t).m + (header_at t).m) rows

  by_row : Bool → Bool → Spotted
  by_row a b = cond (a && b) (Ok (Row (r * (header_at t).m) (header_at t).m l)) (Err not_laid_out)

  row_first : (b : Bool) → (ltb r n && leb m 1024 && leb l m) ≡ b → by_row b row_last ≡ spot_at (header_at t) 0 rows (Sparse r l)
  unfolding by_row
  row_first b h = ap (λ (a : Bool). by_row a row_last) (sym h ∙ ap₂ (λ (i j : ℕ). ltb r j && leb i 1024 && leb l i) em en)

  pub row_no : not (ltb r n && leb m 1024 && leb l m) ≡ true → (Err not_laid_out) ≡ spot_at (header_at t) 0 rows (Sparse r l)
  unfolding by_row
  row_no h = row_first false (not-true _ h)

  module _ (h : not (ltb r n && leb m 1024 && leb l m) ≡ false) where
    pub row_small : m ≤ 1024
    row_small = leb-true m 1024 (both (ltb r n) (leb m 1024) (both (ltb r n && leb m 1024) (leb l m) (not-false _ h)).0).1

    module _ (a : ℕ) (ea : a ≡ r * m) where
      pub row_sum : r ≤ 262144 → Fits w64 (a + m)
      row_sum k = let s = row_small in let z : r * m ≤ 2 ^ 36 = times_most r m k (omega arith) in record { fits = omega (arith, ea) }

      row_starts : a ≡ r * (header_at t).m
      row_starts = ea ∙ ap (λ (i : ℕ). r * i) em

      pub row_out : rows < a + m → (Err not_laid_out) ≡ spot_at (header_at t) 0 rows (Sparse r l)
      unfolding by_row
      row_out i = ap (by_row true) (sym (lt-leb (r * (header_at t).m + (header_at t).m) rows (omega (arith, row_starts, em)))) ∙ row_first true (not-false _ h)

      pub row_there : a + m ≤ rows → Ok (Row a m l) ≡ spot_at (header_at t) 0 rows (Sparse r l)
      unfolding by_row
      row_there i =
          ap₂ (λ (b k : ℕ). Ok (Row b k l)) row_starts em
          ∙ ap (by_row true) (sym (le-leb (r * (header_at t).m + (header_at t).m) rows (omega (arith, row_starts, em))))
          ∙ row_first true (not-false _ h)

-- ---- a page

-- page p ends by n exactly where it is one of n / w
page_ends : (p w n : ℕ) → 0 < w → ltb p (n / w) ≡ leb (p * w + w) n
page_ends p w n some = go (ltb p (n / w)) refl
  where
    go : (b : Bool) → ltb p (n / w) ≡ b → b ≡ leb (p * w + w) n
    go true e =
        let l = mul-le-mul_right {m = suc p} {n = n / w} w (ltb-true p (n / w) e) in
        sym (le-leb (p * w + w) n (omega (arith, div-add-mod' n w, suc-mul p w, l)))
    go false e =
        let l = mul-le-mul_right {m = n / w} {n = p} w (ltb-false p (n / w) e) in
        sym (lt-leb (p * w + w) n (omega (arith, div-add-mod' n w, mod-lt n some, l)))

module _ (t : List ℕ) (pages p k n b : ℕ) (ek : k ≡ (header_at t).s - 6) (en : n ≡ (header_at t).p) (eb : b ≡ pages / 2 ^ k) where
  abbrev width : ℕ
  width = 2 ^ ((header_at t).s - 6)

  by_page : Bool → Spotted
  by_page a = cond a (Ok (Page (p * width) width)) (Err not_laid_out)

  wide_some : 0 < 2 ^ k
  wide_some = pow_pos k

  page_test : (ltb p n && ltb p b) ≡ (ltb p (header_at t).p && leb (p * width + width) pages)
  page_test =
      ap₂ ◌&&◌ (ap (ltb p) en)
      (ap (ltb p) eb ∙ page_ends p (2 ^ k) pages wide_some ∙ ap (λ (j : ℕ). leb (p * 2 ^ j + 2 ^ j) pages) ek)

  pub page_no : not (ltb p n && ltb p b) ≡ true → (Err not_laid_out) ≡ spot_at (header_at t) pages 0 (Dense p)
  unfolding by_page
  page_no h = ap by_page (sym (not-true _ h) ∙ page_test)

  module _ (h : not (ltb p n && ltb p b) ≡ false) where
    pub page_fits : p * 2 ^ k + 2 ^ k ≤ pages
    page_fits =
        leb-true (p * 2 ^ k + 2 ^ k) pages
        (sym (page_ends p (2 ^ k) pages wide_some) ∙ ap (ltb p) (sym eb) ∙ (both (ltb p n) (ltb p b) (not-false _ h)).1)

    pub page_there : (a w : ℕ) → a ≡ p * 2 ^ k → w ≡ 2 ^ k → Ok (Page a w) ≡ spot_at (header_at t) pages 0 (Dense p)
    unfolding by_page
    page_there a w ea ew =
        ap₂ (λ (x y : ℕ). Ok (Page x y)) (ea ∙ ap (λ (j : ℕ). p * 2 ^ j) ek) (ew ∙ ap (λ (j : ℕ). 2 ^ j) ek)
        ∙ ap by_page (sym (not-false _ h) ∙ page_test)
