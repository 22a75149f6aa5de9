-- Laws of a plan's text: a plan that was made of a set, with its boundaries, is written as the set says. Assumes nothing.
use mathlib.Core.Path.{◌≡◌, refl, ◌∙◌, ap, ap₂}
use mathlib.Core.List.{List, ◌++◌}
use Prim.Native.Nat.{ℕ, zero, suc, ◌≤◌, ◌<◌}
use native.Mathlib.Omega.{arith}
use lib.IntN.{ℤ}
use Rattle.sums.specs.Ids.{Ids, total}
use Rattle.sums.specs.Cuts.{parts, part}
use Rattle.document.specs.Plan.{plan_of}
use Rattle.document.specs.Spans.{span_at, interval_of, ids_answer}
use Rattle.document.specs.declared.plan.Span.{Span}
use Rattle.document.specs.declared.plan.Span.TheVariants.{Between, From}
use Rattle.intervals.proofs.Intervals.{Bounded, span_part, ids_part, ranks_part}
use Rattle.spell.specs.Spell.{decimal}
use Rattle.texts.specs.Text.{newline, span_text, spanned_text, ranks_text, part_text, head_text, parts_text, plan_text, interval_text, set_part_text, set_parts_text, set_text}

span_interval : (i : Span) → span_text i ≡ interval_text (interval_of i)
span_interval (Between lo hi) = refl
span_interval (From lo) = refl

module _ (P : Ids) (S : ℕ) (cs : List ℤ) (w : Bounded P S cs) where
  ids_text : (k : ℕ) → k < parts (total P) S → spanned_text (ids_answer (plan_of (total P) S) cs k) ≡ interval_text (part P S k)
  ids_text k l = ap spanned_text (ids_part P S cs w k l) ∙ span_interval (span_at (plan_of (total P) S) cs k) ∙ ap interval_text (span_part P S cs w k l)

  part_text_law : (k : ℕ) → k < parts (total P) S → part_text (plan_of (total P) S) cs k ≡ set_part_text P S k
  part_text_law k l = ap (λ (t : List ℕ). decimal k ++ t) (ap₂ (λ (t u : List ℕ). t ++ (u ++ newline)) (ids_text k l) (ap ranks_text (ranks_part P S k l)))

  parts_text_law : (n : ℕ) → n ≤ parts (total P) S → parts_text (plan_of (total P) S) cs n ≡ set_parts_text P S n
  unfolding parts_text set_parts_text
  parts_text_law zero h = refl
  parts_text_law (suc k) h = ap₂ (λ (t u : List ℕ). t ++ u) (parts_text_law k (omega arith)) (part_text_law k (omega arith))

  pub plan_text_law : plan_text (plan_of (total P) S) cs ≡ set_text P S
  plan_text_law = ap (λ (t : List ℕ). head_text (plan_of (total P) S) ++ t) (parts_text_law (parts (total P) S) (omega arith))
