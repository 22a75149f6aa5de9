-- What each call leaves: every mark set, or as it was where the call is refused. Assumes nothing.
use mathlib.Core.Path.{◌≡◌, refl, ap, ◌∙◌}
use mathlib.Core.List.{List}
use mathlib.Core.Bool.{Bool, true, false, cond}
use Prim.Native.Nat.{ℕ}
use lib.IntN.{ℤ}
use Rattle.std.specs.Prelude.{Ok, Err}
use Rattle.document.specs.RangeList.{marks, marks_in, hits, meets, meets_answer, meets_marks, meets_marks_in}
use Rattle.document.specs.Refusals.{not_laid_out}
use Rattle.document.specs.Results.{Outcome, Spanned}
use Rattle.document.specs.declared.plan.Span.{Span}
use Rattle.document.specs.declared.range.Range.{Range}
use Rattle.document.specs.declared.refusal.Refusal.{Refusal}
use Rattle.layout.specs.Mem.{Mem}
use Rattle.layout.specs.Meaning.{state_of}
use Rattle.layout.specs.Follows.{Follows}
use Rattle.layout.specs.Tests.{walked}
use Rattle.layout_laws.proofs.Walked.{follows_walked}
use Rattle.range_list.specs.Marks.{hit_by, range_answer, MarksByRange, EndsByRange, MarksByPartition, EndsByPartition}
use Rattle.range_list.proofs.AfterWalk.{hits_are}

-- ---- by the walk: b says whether it passed

set_by : {A : Type 0} (b : Bool) (set kept : A) → ◌≡◌ {A = Outcome} (Ok tt) (cond b (Ok tt) (Err not_laid_out)) → set ≡ cond b set kept
set_by true set kept e = refl
set_by false set kept e = cc

kept_by : {A : Type 0} (b : Bool) (set kept : A) (n : Refusal) → ◌≡◌ {A = Outcome} (Err n) (cond b (Ok tt) (Err not_laid_out)) → kept ≡ cond b set kept
kept_by true set kept n e = cc
kept_by false set kept n e = refl

-- by the plain set
module _ {x : Mem} (w : Follows x) where
  done : (a : Outcome) → a ≡ range_answer x → a ≡ (Ok tt)
  done a e = e ∙ ap (λ (b : Bool). cond b (Ok tt) (Err not_laid_out)) (follows_walked w)

  plainly : {A : Type 0} (after : (ℤ → ℤ → Bool) → A) (before l : A) → l ≡ cond (walked x) (after (hit_by x)) before → l ≡ after (hits (state_of x))
  plainly after before l q = q ∙ ap (λ (b : Bool). cond b (after (hit_by x)) before) (follows_walked w) ∙ ap after (hits_are w)

module _ (x : Mem) (a : Outcome) (e : a ≡ range_answer x) where
  pub marks_by_range : (rs rs' : List Range) → rs' ≡ cond (walked x) (marks (hit_by x) rs) rs → MarksByRange x rs a rs'
  marks_by_range rs rs' l = record { said = e; list = l; says = λ w. (done w a e, plainly w (λ (t : ℤ → ℤ → Bool). marks t rs) rs rs' l) }

  pub ends_by_range : (los his : List ℤ) (ms ms' : List ℕ) → ms' ≡ cond (walked x) (marks_in (hit_by x) los his ms) ms → EndsByRange x los his ms a ms'
  ends_by_range los his ms ms' l = record { said = e; list = l; says = λ w. (done w a e, plainly w (λ (t : ℤ → ℤ → Bool). marks_in t los his ms) ms ms' l) }

module _ (x : Mem) where
  module _ (rs : List Range) where
    pub marks_refused : (n : Refusal) → Err n ≡ range_answer x → MarksByRange x rs (Err n) rs
    marks_refused n e = marks_by_range x (Err n) e rs rs (kept_by (walked x) (marks (hit_by x) rs) rs n e)

    pub marks_set : Ok tt ≡ range_answer x → (rs' : List Range) → rs' ≡ marks (hit_by x) rs → MarksByRange x rs (Ok tt) rs'
    marks_set e rs' q = marks_by_range x (Ok tt) e rs rs' (q ∙ set_by (walked x) (marks (hit_by x) rs) rs e)

  module _ (los his : List ℤ) (ms : List ℕ) where
    pub ends_refused : (n : Refusal) → Err n ≡ range_answer x → EndsByRange x los his ms (Err n) ms
    ends_refused n e = ends_by_range x (Err n) e los his ms ms (kept_by (walked x) (marks_in (hit_by x) los his ms) ms n e)

    pub ends_set : Ok tt ≡ range_answer x → (ms' : List ℕ) → ms' ≡ marks_in (hit_by x) los his ms → EndsByRange x los his ms (Ok tt) ms'
    ends_set e ms' q = ends_by_range x (Ok tt) e los his ms ms' (q ∙ set_by (walked x) (marks_in (hit_by x) los his ms) ms e)
