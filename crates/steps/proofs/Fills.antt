-- A page that was lent and came back: filled from a row, or as it was; and a chunk that goes into it. Assumes nothing.
use mathlib.Core.Path.{◌≡◌, sym, ◌∙◌, ap, ap₂}
use mathlib.Core.List.{List, ◌++◌}
use Prim.Native.Nat.{ℕ, ◌+◌, ◌-◌, ◌*◌}
use lib.ListN.{take, drop, take-append-drop}
use lib.Seq.{drop-drop}
use Rattle.dense.specs.Bits.{with_row}
use Rattle.document.specs.Sizes.{top}
use Rattle.layout.specs.Sizes.{wide}
use Rattle.layout.specs.Mem.{mem}
use Rattle.layout.specs.Places.{encoded, row_part, page_part}
use Rattle.document.specs.declared.sizes.Sizes.{Sizes}
use Rattle.layout.specs.Writes.{put_part, put_word, put_page_owner}
use Rattle.layout.specs.declared.place.Place.TheVariants.{Absent, Dense}
use Rattle.steps.specs.Steps.{paged}
use Rattle.layout.proofs.Lent.{span}
use Rattle.steps.proofs.Lent.{put_lent}

-- page p with the members of row r
pub fill_put : (pages rows : List ℕ) (h : Sizes) (r p l i j k : ℕ) → i ≡ r * h.m → j ≡ p * wide h → k ≡ wide h → (ys : List ℕ)
    → ys ≡ with_row (take (j + k - j) (drop j pages)) (take (i + h.m - i) (drop i rows)) (top h) l
    → take j pages ++ (ys ++ drop (j + k - j) (drop j pages))
    ≡ put_part pages (p * wide h) (wide h) (with_row (page_part h pages p) (row_part h rows r) (top h) l)
fill_put pages rows h r p l i j k ei ej ek ys f =
    put_lent pages j k (p * wide h) (wide h) ej ek (λ (w : List ℕ). with_row w (take (i + h.m - i) (drop i rows)) (top h) l) ys f
    ∙ ap (λ (row : List ℕ). put_part pages (p * wide h) (wide h) (with_row (page_part h pages p) row (top h) l))
    (ap (λ (n : ℕ). take n (drop i rows)) (span i h.m) ∙ ap (λ (n : ℕ). take h.m (drop n rows)) ei)

-- a part put back where it was
pub put_back : (xs : List ℕ) (a n : ℕ) → put_part xs a n (take n (drop a xs)) ≡ xs
unfolding put_part
put_back xs a n =
    ap (λ (u : List ℕ). take a xs ++ (take n (drop a xs) ++ u)) (sym (drop-drop n a xs))
    ∙ ap (λ (u : List ℕ). take a xs ++ u) (take-append-drop n (drop a xs)) ∙ take-append-drop a xs

-- a chunk without members goes into page p
pub blank_paged : (h : Sizes) (c p : ℕ) (ps rs bs t t' : List ℕ) → t' ≡ put_page_owner h (put_word h t c (encoded (Dense p))) p (c + 1)
    → mem ps rs bs t' ≡ paged h (mem ps rs bs t) c Absent p (page_part h ps p)
unfolding paged
blank_paged h c p ps rs bs t t' e = ap₂ (λ (u v : List ℕ). mem u rs bs v) (sym (put_back ps (p * wide h) (wide h))) e
