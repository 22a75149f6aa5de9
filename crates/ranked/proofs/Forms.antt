-- Ranking and leaving it: all that is written, the ways to an answer, and what a customer reads. Assumes nothing.
use mathlib.Core.Path.{◌≡◌, refl, ap, ap₂, ◌∙◌}
use mathlib.Core.List.{List}
use mathlib.Core.Bool.{Bool, true, false, cond}
use Prim.Native.Nat.{ℕ, ◌*◌, ◌≤◌}
use native.Mathlib.Omega.{arith}
use lib.Dec.{eqb}
use Rattle.sums.specs.Sums.{sum_to}
use Rattle.layout.specs.Mem.{Mem, mem}
use Rattle.layout.specs.Sizes.{blocks_of, head, mode_at, over_count}
use Rattle.layout.specs.Entries.{entries, place_at}
use Rattle.layout.specs.Follows.{Owned, members_at}
use Rattle.layout.specs.Tests.{Walked, walked}
use Rattle.layout.specs.SetUp.{Did, did, zeroed}
use Rattle.document.specs.declared.sizes.Sizes.{Sizes}
use Rattle.layout.specs.declared.place.Place.{Place}
use Rattle.layout.specs.declared.place.Place.TheVariants.{Absent, Sparse, Dense}
use Rattle.ranks.specs.Form.{prefixed, headed, blocked_to, to_ranked, to_open, rank_up_by, open_by}
use Rattle.ranked.specs.Modes.{form_of}
use Rattle.rank_counts.specs.Counts.{entry_size, Inside, Places}
use Rattle.document.specs.Calls.{rank_up, leave, that}
use Rattle.contracts.specs.Runs.{by_outcome}
use Rattle.contracts.specs.Does.{Does}
use Rattle.contracts.proofs.Steps.{does}
use Rattle.document.specs.Refusals.{is_open, is_ranked, not_laid_out}
use Rattle.document.specs.Results.{Outcome}
use Rattle.document.specs.declared.refusal.Refusal.{Refusal}
use Rattle.ranked.specs.declared.mode.Form.{Form}
use Rattle.ranked.specs.declared.mode.Form.TheVariants.{Open, Ranked}
use Rattle.std.specs.Prelude.{Err, Ok, Result}

-- ---- what the walk found

owned_inside : (h : Sizes) (t : List ℕ) (c : ℕ) (p : Place) → Owned h t c p → Inside h p
owned_inside h t c Absent o = tt
owned_inside h t c (Sparse r l) o = o.short
owned_inside h t c (Dense p) o = o.there

pub walked_places : {x : Mem} {h : Sizes} → Walked x h → Places h x.table
walked_places {x} {h} w = record { at = λ e l. owned_inside h x.table _ (place_at h x.table e) (w.places e l) }

pub walked_over : {x : Mem} {h : Sizes} → Walked x h → over_count x.table ≤ 65536
walked_over w = let z = w.sizes in let f = w.over_fits in omega arith

-- ---- what is written

pub all_counted : (h : Sizes) (x : Mem) (bl t u : List ℕ) (n : ℕ) → bl ≡ blocked_to h x.pages x.blocks h.p → n ≡ sum_to (entry_size h x.pages x.table) (entries h x.table)
    → t ≡ prefixed h x.table (sum_to (entry_size h x.pages x.table)) (entries h x.table) → u ≡ headed t 1 n → mem x.pages x.rows bl u ≡ to_ranked h x
unfolding to_ranked entry_size members_at
all_counted h x bl t u n eb en et eu = ap₂ (λ (b v : List ℕ). mem x.pages x.rows b v) eb (eu ∙ ap₂ (λ (v : List ℕ) (k : ℕ). headed v 1 k) et en)

pub all_cleared : (h : Sizes) (x : Mem) (a : ℕ) (bl t u : List ℕ) → a ≡ h.p * blocks_of h → bl ≡ zeroed a x.blocks → t ≡ prefixed h x.table (λ (_ : ℕ). 0) (entries h x.table) → u ≡ headed t 0 0 → mem x.pages x.rows bl u ≡ to_open h x
unfolding to_open
all_cleared h x a bl t u ea eb et eu = ap₂ (λ (b v : List ℕ). mem x.pages x.rows b v) (eb ∙ ap (λ (k : ℕ). zeroed k x.blocks) ea) (eu ∙ ap (λ (v : List ℕ). headed v 0 0) et)

-- ---- the answers

module _ (x : Mem) (k : Result Form Refusal) (e : k ≡ form_of x) where
  abbrev up_by : Result Form Refusal → Did
  up_by (Err n) = did (Err n) x
  up_by (Ok Ranked) = did (Err is_ranked) x
  up_by (Ok Open) = did (Ok tt) (to_ranked (head x) x)

  abbrev down_by : Result Form Refusal → Did
  down_by (Err n) = did (Err n) x
  down_by (Ok Ranked) = did (Ok tt) (to_open (head x) x)
  down_by (Ok Open) = did (Err is_open) x

  up_form : up_by k ≡ rank_up_by x
  unfolding form_of rank_up_by
  up_form = ap up_by e ∙ go (walked x) (eqb (mode_at x.table) 1)
    where
      go : (g d : Bool) → up_by (cond g (cond d (Ok Ranked) (Ok Open)) (Err not_laid_out)) ≡ cond g (cond d (did (Err is_ranked) x) (did (Ok tt) (to_ranked (head x) x))) (did (Err not_laid_out) x)
      go true true = refl
      go true false = refl
      go false d = refl

  down_form : down_by k ≡ open_by x
  unfolding form_of open_by
  down_form = ap down_by e ∙ go (walked x) (eqb (mode_at x.table) 1)
    where
      go : (g d : Bool) → down_by (cond g (cond d (Ok Ranked) (Ok Open)) (Err not_laid_out)) ≡ cond g (cond d (did (Ok tt) (to_open (head x) x)) (did (Err is_open) x)) (did (Err not_laid_out) x)
      go true true = refl
      go true false = refl
      go false d = refl

  pub ranked_up : (a : Outcome) (y : Mem) → did a y ≡ up_by k → Does x rank_up (that a) y
  ranked_up a y q = does x rank_up tt (ap by_outcome (q ∙ up_form))

  pub opened : (a : Outcome) (y : Mem) → did a y ≡ down_by k → Does x leave (that a) y
  opened a y q = does x leave tt (ap by_outcome (q ∙ down_form))
