-- A chunk's word and an owner leave the sizes in the header, on any table. Assumes nothing.
use mathlib.Core.Path.{◌≡◌, refl, ◌∙◌}
use mathlib.Core.List.{List}
use mathlib.Core.Bool.{Bool, true, false, cond, ◌&&◌}
use Prim.Native.Nat.{ℕ, ◌+◌, ◌≤◌, ◌<◌}
use native.Mathlib.Omega.{arith}
use lib.ListN.{length, get_or, set}
use lib.Seq.{get_or-set_other}
use lib.Dec.{leb, ltb, eqb}
use borrow.Author.Tests.{leb-true}
use Rattle.document.specs.declared.sizes.Sizes.{Sizes}
use Rattle.layout.specs.Mem.{Mem}
use Rattle.layout.specs.Sizes.{direct_at, over_start, over_at, row_owners_at, page_owners_at, header_at, head, over_count}
use Rattle.layout.specs.Places.{encoded}
use Rattle.layout.specs.Short.{key_at, over_place}
use Rattle.layout.specs.Writes.{added, over_put, put_word, put_owner, put_row_owner}
use Rattle.layout.specs.declared.place.Place.{Place}
use Rattle.layout.specs.declared.place.Place.TheVariants.{Absent, Sparse, Dense}
use Rattle.layout.proofs.Added.{added_low}
use Rattle.layout.proofs.Owners.{put_owner_off}
use Rattle.layout_laws.proofs.Halving.{lower_between}
use Rattle.steps.specs.Steps.{paged}
use Rattle.calls.specs.Prepare.{into_page}

-- ---- the header's first six words

same_six : (t u : List ℕ) → ((i : ℕ) → i < 6 → get_or u i 0 ≡ get_or t i 0) → header_at u ≡ header_at t
same_six t u k = rw (k 0 (omega arith), k 1 (omega arith), k 2 (omega arith), k 3 (omega arith), k 4 (omega arith), k 5 (omega arith))

head_set : (t : List ℕ) (i v : ℕ) → 16 ≤ i → header_at (set t i v) ≡ header_at t
head_set t i v l = same_six t (set t i v) (λ j m. get_or-set_other t i j v 0 (omega arith))

head_owner : (k a : ℕ) (t : List ℕ) (i w : ℕ) → 6 ≤ k → 6 ≤ a → header_at (put_owner k a t i w) ≡ header_at t
head_owner k a t i w l m = same_six t (put_owner k a t i w) (λ j n. put_owner_off k a t i w j (omega arith) (omega arith))

module _ (h : Sizes) (t : List ℕ) (c w : ℕ) where
  abbrev at : ℕ
  at = over_place t (over_start h.d) (over_count t) c

  head_over : (a b : Bool) → leb (over_at h (over_count t + 1)) (length t) ≡ b
      → header_at (cond a (set t (over_at h at + 1) w) (cond b (added h t c w at) t)) ≡ header_at t
  head_over true b e = head_set t (over_at h at + 1) w (omega arith)
  head_over false true e =
      same_six t (added h t c w at)
      (λ i l. added_low h t c w at (lower_between (key_at t (over_start h.d)) c (over_count t) 0 (over_count t) (omega arith)).1
      (leb-true (over_at h (over_count t + 1)) (length t) e) i (omega arith) (omega arith))
  head_over false false e = refl

  head_word : header_at (put_word h t c w) ≡ header_at t
  unfolding put_word
  head_word = go (ltb c h.d)
    where
      go : (b : Bool) → header_at (cond b (set t (direct_at c) w) (over_put h t c w at)) ≡ header_at t
      go true = head_set t (direct_at c) w (omega arith)
      go false = head_over (ltb at (over_count t) && eqb (get_or t (over_at h at) 0) c) (leb (over_at h (over_count t + 1)) (length t)) refl

-- a chunk that goes into a page
pub head_into : (h : Sizes) (x : Mem) (c p : ℕ) (o : Place) → head (into_page h x c p o) ≡ head x
unfolding paged
head_into h x c p Absent =
    head_owner 10 (page_owners_at h) (put_word h x.table c (encoded (Dense p))) p (c + 1) (omega arith) (omega arith) ∙ head_word h x.table c (encoded (Dense p))
head_into h x c p (Sparse r l) =
    let t = put_word h x.table c (encoded (Dense p)) in
    head_owner 10 (page_owners_at h) (put_row_owner h t r 0) p (c + 1) (omega arith) (omega arith) ∙ head_owner 9 (row_owners_at h) t r 0 (omega arith) (omega arith)
    ∙ head_word h x.table c (encoded (Dense p))
head_into h x c p (Dense q) = refl
