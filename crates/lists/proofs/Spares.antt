-- Inserts in turn leave the header's sizes and every element past them as they were, on any memory. Assumes nothing.
use mathlib.Core.Path.{◌≡◌, refl, subst, ◌∙◌}
use mathlib.Core.List.{List, [], ◌∷◌}
use mathlib.Core.Bool.{Bool, true, false, cond, ◌&&◌}
use Prim.Native.Nat.{ℕ, ◌+◌, ◌*◌, ◌≤◌, ◌<◌}
use native.Mathlib.Omega.{arith}
use lib.IntN.{ℤ}
use lib.ListN.{length, get_or, set}
use lib.Dec.{leb, ltb, eqb}
use lib.Seq.{get_or-set_other}
use borrow.Author.Tests.{leb-true}
use Rattle.numbers.specs.Ids.{split_of}
use Rattle.document.specs.declared.sizes.Sizes.{Sizes}
use Rattle.layout.specs.Mem.{Mem}
use Rattle.layout.specs.Sizes.{direct_at, over_start, over_at, row_owners_at, page_owners_at, header_at, head, mode_at, over_count}
use Rattle.layout.specs.Places.{encoded}
use Rattle.layout.specs.Short.{over_place}
use Rattle.layout.specs.Spare.{Spare}
use Rattle.layout.specs.Writes.{over_put, put_word, put_owner, put_row_owner}
use Rattle.layout.specs.declared.place.Place.TheVariants.{Sparse, Dense}
use Rattle.layout.proofs.Added.{added_low}
use Rattle.layout.proofs.Owners.{put_owner_off}
use Rattle.layout_laws.proofs.Halving.{lower_between}
use Rattle.layout_laws.proofs.Spares.{spare_same, spare_then}
use Rattle.steps.specs.Steps.{rowed, paged}
use Rattle.calls.specs.Reading.{shift_ok}
use Rattle.calls.specs.Insert.{Told, told, acted, insert_plan, insert_at, insert_by}
use Rattle.calls.proofs.InsertSpares.{insert_by_spare}
use Rattle.lists.specs.Inserts.{all_next, after_by}
use Rattle.calls.specs.Planned.{InsertPlan}
use Rattle.calls.specs.declared.plan.Plan.TheVariants.{Begin, Enter, Known, Mark, Turn}
use Rattle.document.specs.Refusals.{is_ranked, not_laid_out}
use Rattle.std.specs.Prelude.{Err, None, Ok, Option, Some, ℕ}

-- ---- the header's sizes, one write after the other

record Heads (t u : List ℕ) : Type 0 where
  same : (i : ℕ) → i < 6 → get_or u i 0 ≡ get_or t i 0

heads_same : {t : List ℕ} → Heads t t
heads_same = record { same = λ i l. refl }

heads_then : {t u v : List ℕ} → Heads t u → Heads u v → Heads t v
heads_then a b = record { same = λ i l. b.same i l ∙ a.same i l }

heads_if : {t u v : List ℕ} (b : Bool) → (b ≡ true → Heads t u) → Heads t v → Heads t (cond b u v)
heads_if true f g = f refl
heads_if false f g = g

set_heads : (t : List ℕ) (k v : ℕ) → 6 ≤ k → Heads t (set t k v)
set_heads t k v l = record { same = λ i m. get_or-set_other t k i v 0 (omega arith) }

owner_heads : (k a : ℕ) (t : List ℕ) (i v : ℕ) → 6 ≤ k → 6 ≤ a → Heads t (put_owner k a t i v)
owner_heads k a t i v l m = record { same = λ j n. put_owner_off k a t i v j (omega arith) (omega arith) }

module _ (h : Sizes) (t : List ℕ) (c w : ℕ) where
  abbrev k : ℕ
  k = over_place t (over_start h.d) (over_count t) c

  low : k ≤ over_count t
  low = (lower_between (λ (j : ℕ). get_or t (over_start h.d + 3 * j) 0) c (over_count t) 0 (over_count t) (omega arith)).1

  over_heads : Heads t (over_put h t c w k)
  over_heads =
      heads_if (ltb k (over_count t) && eqb (get_or t (over_at h k) 0) c) (λ e. set_heads t (over_at h k + 1) w (omega arith))
      (heads_if (leb (over_at h (over_count t + 1)) (length t))
      (λ e. record { same = λ i l. added_low h t c w k low (leb-true (over_at h (over_count t + 1)) (length t) e) i (omega arith) (omega arith) }) heads_same)

  word_heads : Heads t (put_word h t c w)
  unfolding put_word
  word_heads = heads_if (ltb c h.d) (λ e. set_heads t (direct_at c) w (omega arith)) over_heads

-- ---- one insert

module _ (x : Mem) where
  abbrev Stays : Told → Type 0
  Stays t = Heads x.table t.after.table

  stays_if : (b : Bool) (s t : Told) → Stays s → Stays t → Stays (cond b s t)
  stays_if true s t p q = p
  stays_if false s t p q = q

  acted_stays : (c o : ℕ) (q : InsertPlan) → Stays (acted x c o q)
  unfolding rowed paged
  acted_stays c o (Err n) = heads_same
  acted_stays c o (Ok Known) = heads_same
  acted_stays c o (Ok (Mark p)) = heads_same
  acted_stays c o (Ok (Enter r l k)) = word_heads (head x) x.table c (encoded (Sparse r (l + 1)))
  acted_stays c o (Ok (Begin r)) =
      let t = put_word (head x) x.table c (encoded (Sparse r 1)) in
      heads_then (word_heads (head x) x.table c (encoded (Sparse r 1))) (owner_heads 9 (row_owners_at (head x)) t r (c + 1) (omega arith) (omega arith))
  acted_stays c o (Ok (Turn r l p)) =
      let t = put_word (head x) x.table c (encoded (Dense p)) in
      let u = put_row_owner (head x) t r 0 in
      heads_then (heads_then (word_heads (head x) x.table c (encoded (Dense p))) (owner_heads 9 (row_owners_at (head x)) t r 0 (omega arith) (omega arith)))
      (owner_heads 10 (page_owners_at (head x)) u p (c + 1) (omega arith) (omega arith))

  at_stays : (q : (Option (ℕ × ℕ))) → Stays (insert_at x q)
  at_stays (Some (c, o)) = acted_stays c o (insert_plan x c o)
  at_stays None = heads_same

  insert_stays : (z : ℤ) → Stays (insert_by x z)
  unfolding insert_by
  insert_stays z =
      let t = insert_at x (split_of (head x).s z) in
      stays_if (shift_ok x.table && leb (mode_at x.table) 1) (cond (eqb (mode_at x.table) 1) (told (Err is_ranked) x) t) (told (Err not_laid_out) x)
      (stays_if (eqb (mode_at x.table) 1) (told (Err is_ranked) x) t heads_same (at_stays (split_of (head x).s z))) heads_same

  insert_sizes : (z : ℤ) → header_at (insert_by x z).after.table ≡ header_at x.table
  insert_sizes z =
      let k = (insert_stays z).same in
      rw (k 0 (omega arith), k 1 (omega arith), k 2 (omega arith), k 3 (omega arith), k 4 (omega arith), k 5 (omega arith))

-- ---- inserts in turn

pub inserts_spare : (x : Mem) (zs : List ℤ) → Spare (head x) x (all_next after_by x zs)
unfolding all_next
inserts_spare x [] = spare_same
inserts_spare x (z ∷ zs) =
    let y = (insert_by x z).after in
    spare_then (insert_by_spare x z) (subst (λ (h : Sizes). Spare h y (all_next after_by y zs)) (insert_sizes x z) (inserts_spare y zs))
