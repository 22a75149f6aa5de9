-- A new overflow entry in the gap that was opened for it. Assumes nothing.
use mathlib.Core.Path.{◌≡◌, refl, ap, ◌∙◌}
use mathlib.Core.List.{List, [], ◌∷◌, ◌++◌}
use Prim.Native.Nat.{ℕ, zero, suc, ◌+◌, ◌-◌, ◌*◌, ◌≤◌}
use native.Mathlib.Numerals.{unary_clauses}
use native.Mathlib.Omega.{arith}
use lib.ListN.{length, set, take, drop}
use Rattle.std.proofs.Common.{append_assoc}
use Rattle.std.specs.List.{copy_within}
use Rattle.document.specs.declared.sizes.Sizes.{Sizes}
use Rattle.layout.specs.Sizes.{over_at, over_count}
use Rattle.layout.specs.Writes.{added}

three_sets : (a : ℕ) (t rest : List ℕ) (x y z : ℕ) → a + 3 ≤ length t → set (set (set (take (a + 3) t ++ rest) a x) (a + 1) y) (a + 2) z ≡ take a t ++ (x ∷ y ∷ z ∷ rest)
three_sets zero (u ∷ v ∷ w ∷ t) rest x y z l = refl
three_sets zero [] rest x y z l = absurd (omega arith)
three_sets zero (u ∷ []) rest x y z l = absurd (omega arith)
three_sets zero (u ∷ v ∷ []) rest x y z l = absurd (omega arith)
three_sets (suc a) [] rest x y z l = absurd (omega arith)
three_sets (suc a) (u ∷ t) rest x y z l =
    let e = simp unary_clauses at (three_sets a t rest x y z (omega arith)) in simp unary_clauses (ap (λ (xs : List ℕ). u ∷ xs) e)

pub entry_added : (h : Sizes) (t s : List ℕ) (c w k : ℕ) → k ≤ over_count t → over_at h (over_count t + 1) ≤ length t
    → s ≡ copy_within t (over_at h k) (over_at h (over_count t)) (over_at h k + 3)
    → set (set (set (set s (over_at h k) c) (over_at h k + 1) w) (over_at h k + 2) 0) 7 (over_count t + 1) ≡ added h t c w k
unfolding added
entry_added h t s c w k l room e =
    let m : over_at h (over_count t) - over_at h k ≡ 3 * (over_count t - k) = omega arith in
    let n : over_at h k + 3 + 3 * (over_count t - k) ≡ over_at h (over_count t + 1) = omega arith in
    let f : s ≡ take (over_at h k + 3) t ++ (take (3 * (over_count t - k)) (drop (over_at h k) t) ++ drop (over_at h (over_count t + 1)) t) =
    e ∙ append_assoc (take (over_at h k + 3) t) _ _
    ∙ ap (λ (i : ℕ). take (over_at h k + 3) t ++ (take i (drop (over_at h k) t) ++ drop (over_at h k + 3 + i) t)) m
    ∙ ap (λ (i : ℕ). take (over_at h k + 3) t ++ (take (3 * (over_count t - k)) (drop (over_at h k) t) ++ drop i t)) n in
    ap (λ (xs : List ℕ). set xs 7 (over_count t + 1))
    (ap (λ (xs : List ℕ). set (set (set xs (over_at h k) c) (over_at h k + 1) w) (over_at h k + 2) 0) f
    ∙ three_sets (over_at h k) t _ c w 0 (omega arith))
