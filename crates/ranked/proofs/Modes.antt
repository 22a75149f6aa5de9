-- Open or ranked: the answer that each form leads to, and what it says of the table. Assumes nothing.
use mathlib.Core.Path.{◌≡◌, refl, sym, ap, ◌∙◌}
use mathlib.Core.List.{List}
use mathlib.Core.Bool.{Bool, true, false, cond, ◌&&◌}
use Prim.Native.Nat.{ℕ, ◌≤◌}
use lib.ListN.{get_or}
use lib.Dec.{leb, eqb}
use borrow.Author.Tests.{leb-true}
use Rattle.sums.proofs.Rules.{both}
use Rattle.layout.specs.Mem.{Mem}
use Rattle.layout.specs.Sizes.{head, mode_at}
use Rattle.layout.specs.Tests.{Walked, walked}
use Rattle.layout.proofs.Tests.{walked_of}
use Rattle.calls.specs.Reading.{shift_ok}
use Rattle.ranks.specs.Rank.{if_ranked}
use Rattle.ranked.specs.Modes.{form_if, form_in, form_of}
use Rattle.document.specs.Refusals.{is_open, not_laid_out}
use Rattle.document.specs.declared.refusal.Refusal.{Refusal}
use Rattle.ranked.specs.declared.mode.Form.{Form}
use Rattle.ranked.specs.declared.mode.Form.TheVariants.{Open, Ranked}
use Rattle.std.specs.Prelude.{Err, Ok, Result}

-- a form says that the test passed
passed : (g : Bool) (m : ℕ) (k : Form) → form_if g m ≡ Ok k → g ≡ true
passed true m k e = refl
passed false m k e = absurd cc

-- ---- by a look at two header words

-- a refusal, 5, or the answer
abbrev pub by_form : {A : Type 0} → Result A Refusal → Result Form Refusal → Result A Refusal
by_form a (Err n) = Err n
by_form a (Ok Open) = Err is_open
by_form a (Ok Ranked) = a

module _ (t : List ℕ) where
  pub form_way : {A : Type 0} (a : Result A Refusal) (k : Result Form Refusal) → k ≡ form_in t → by_form a k ≡ if_ranked t a
  unfolding form_in
  form_way {A} a k e = ap (by_form a) e ∙ go (shift_ok t && leb (mode_at t) 1) (eqb (mode_at t) 1)
    where
      go : (g d : Bool) → by_form a (cond g (cond d (Ok Ranked) (Ok Open)) (Err not_laid_out)) ≡ cond g (cond d a (Err is_open)) (Err not_laid_out)
      go true true = refl
      go true false = refl
      go false d = refl

  pub form_shift : (k : Form) → Ok k ≡ form_in t → (9 ≤ get_or t 0 0) × (get_or t 0 0 ≤ 25)
  unfolding form_in
  form_shift k e =
      let g = both (shift_ok t) (leb (mode_at t) 1) (passed (shift_ok t && leb (mode_at t) 1) (mode_at t) k (sym e)) in
      let h = both (leb 9 (get_or t 0 0)) (leb (get_or t 0 0) 25) g.0 in
      (leb-true 9 (get_or t 0 0) h.0, leb-true (get_or t 0 0) 25 h.1)

-- ---- after the walk

pub form_walked : (x : Mem) (k : Form) → Ok k ≡ form_of x → Walked x (head x)
unfolding form_of
form_walked x k e = (walked_of x).sound (passed (walked x) (mode_at x.table) k (sym e))
