-- A bit that is set on the spot is what the plan for its page does: one that is set already changes nothing. Assumes nothing.
use mathlib.Core.Path.{◌≡◌, refl, sym, ◌∙◌, ap, ap₂}
use mathlib.Core.List.{List, ◌++◌}
use mathlib.Core.Bool.{Bool, true, false, cond, not}
use Prim.Native.Nat.{ℕ, ◌+◌, ◌*◌, ◌/◌, ◌%◌, ◌^◌}
use native.Mathlib.Nat.{div-add-mod', mod-lt}
use native.Mathlib.Omega.{arith}
use lib.Bits.{bit_or, or_step, or_zero_r, or_block}
use lib.ListN.{get_or, set, take, drop, take-append-drop}
use lib.Pow.{pow_pos}
use lib.Seq.{drop-drop, set-get_or}
use Rattle.dense.specs.Bits.{digit, bit, is_set, with_bit}
use Rattle.dense.proofs.Bits.{is_set_one}
use Rattle.layout.specs.Mem.{mem}
use Rattle.layout.specs.Sizes.{wide, header_at}
use Rattle.layout.specs.Places.{page_part}
use Rattle.layout.specs.Writes.{put_part, put_page}
use Rattle.calls.specs.Insert.{mark_plan, acted, told}
use Rattle.calls.specs.declared.plan.Plan.TheVariants.{Known, Mark}
use Rattle.std.specs.Prelude.{Ok}

-- ---- a bit that is set already

odd_or : (v : ℕ) → v % 2 ≡ 1 → bit_or v 1 ≡ v
odd_or v e = let s = or_step v 1 in let z = or_zero_r (v / 2) in omega arith

or_same : (w k : ℕ) → digit w k ≡ 1 → bit_or w (2 ^ k) ≡ w
or_same w k e =
    let a : (w / 2 ^ k) * 2 ^ k + w % 2 ^ k ≡ w = div-add-mod' w (2 ^ k) in
    let b : 1 * 2 ^ k + 0 ≡ 2 ^ k = omega arith in
    ap₂ bit_or (sym a) (sym b)
    ∙ (or_block k (w / 2 ^ k) 1 (w % 2 ^ k) 0 (mod-lt w (pow_pos k)) (pow_pos k)
    ∙ (ap₂ (λ (u v : ℕ). u * 2 ^ k + v) (odd_or (w / 2 ^ k) e) (or_zero_r (w % 2 ^ k)) ∙ a))

with_same : (ws : List ℕ) (o : ℕ) → is_set ws o ≡ true → with_bit ws o ≡ ws
unfolding with_bit bit
with_same ws o e = ap (set ws (o / 64)) (or_same (get_or ws (o / 64) 0) (o % 64) (is_set_one ws o e)) ∙ set-get_or ws (o / 64) 0

-- a part put back as it was
put_same : (xs : List ℕ) (a n : ℕ) → put_part xs a n (take n (drop a xs)) ≡ xs
unfolding put_part
put_same xs a n =
    ap (λ (u : List ℕ). take a xs ++ (take n (drop a xs) ++ u)) (sym (drop-drop n a xs))
    ∙ (ap (λ (u : List ℕ). take a xs ++ u) (take-append-drop n (drop a xs)) ∙ take-append-drop a xs)

-- ---- the plan for a page

module _ (pages rows b t : List ℕ) (c o q a n : ℕ) (ea : a ≡ q * wide (header_at t)) (en : n ≡ wide (header_at t)) (k : Bool) (p : List ℕ)
    (e : k ≡ not (is_set (take n (drop a pages)) o)) (f : p ≡ put_part pages a n (with_bit (take n (drop a pages)) o)) where
  abbrev page : List ℕ
  page = page_part (header_at t) pages q

  answered : k ≡ not (is_set page o)
  answered = e ∙ ap₂ (λ (i j : ℕ). not (is_set (take j (drop i pages)) o)) ea en

  put : p ≡ put_page (header_at t) pages q (with_bit page o)
  put = f ∙ ap₂ (λ (i j : ℕ). put_part pages i j (with_bit (take j (drop i pages)) o)) ea en

  marked_if : (v : Bool) → is_set page o ≡ v → told (Ok k) (mem p rows b t) ≡ acted (mem pages rows b t) c o (cond v (Ok Known) (Ok (Mark q)))
  marked_if true g =
      ap₂ (λ (i : Bool) (u : List ℕ). told (Ok i) (mem u rows b t)) (answered ∙ ap not g)
      (put ∙ (ap (put_page (header_at t) pages q) (with_same page o g) ∙ put_same pages (q * wide (header_at t)) (wide (header_at t))))
  marked_if false g = ap₂ (λ (i : Bool) (u : List ℕ). told (Ok i) (mem u rows b t)) (answered ∙ ap not g) put

  pub page_marked : told (Ok k) (mem p rows b t) ≡ acted (mem pages rows b t) c o (mark_plan (mem pages rows b t) o q)
  page_marked = marked_if (is_set page o) refl
