-- A code loses nothing: each kind of answer can be read back from it. Assumes nothing.
use Prim.Native.Nat.{ℕ}
use mathlib.Core.Path.{◌≡◌, refl, sym, ap, ap₂, ◌∙◌, subst}
use mathlib.Core.Bool.{Bool, true, false, cond}
use lib.Dec.{eqb}
use borrow.Author.Tests.{eqb-true}
use lib.IntN.{ℤ, pos}
use mir.Syntax.{w64}
use mir.Val.{SFits, of_z, to_z}
use mir.Facts.{to_z-of_z}
use Rattle.layout.specs.Mem.{Mem}
use Rattle.document.specs.Refusals.{number}
use Rattle.document.specs.declared.plan.Span.{Span}
use Rattle.document.specs.declared.plan.Span.TheVariants as span
use Rattle.codes.specs.declared.answer.DoneAnswer.{DoneAnswer}
use Rattle.codes.specs.declared.answer.TruthAnswer.{TruthAnswer}
use Rattle.codes.specs.declared.answer.NumberAnswer.{NumberAnswer}
use Rattle.codes.specs.declared.answer.OptionalAnswer.{OptionalAnswer}
use Rattle.codes.specs.declared.cut.PlanAnswer.{PlanAnswer}
use Rattle.codes.specs.declared.cut.IntervalAnswer.{IntervalAnswer}
use Rattle.codes.specs.declared.cut.RanksAnswer.{RanksAnswer}
use Rattle.codes.specs.Codes.{outcome_code, truth_code, amount_code, perhaps_code, planning_code, interval_code, spanned_code, ranks_code, plan_in, span_in, Coded}
use Rattle.codes.specs.Codes.{OutcomeNumbered, TruthNumbered, AmountNumbered, PerhapsNumbered, PlanningNumbered, SpannedNumbered, RanksNumbered}
use Rattle.document.specs.Results.{Amount, Outcome, Perhaps, Planning, Ranked, Spanned, Truth}
use Rattle.document.specs.declared.refusal.Refusal.{Refusal}
use Rattle.document.specs.declared.refusal.Refusal.TheVariants.{OutsideSizes, TooShort, NotLaidOut, IsRanked, IsOpen, OverflowFull, RowsFull, PagesFull, NotPrepared, SizesDiffer, NoRoom, NoPartition}
use Rattle.std.specs.Prelude.{Err, None, Ok, Option, Some}

-- ---- reading a code: a refusal, or what the other fields say

-- the refusal of a number: 0 alone is none. No answer has one past the table (numbered, ties); it would read as the last, and not as accepted.
abbrev pub refusal_of : ℕ → Option Refusal
refusal_of n =
    cond (eqb n 1) (Some OutsideSizes)
    (cond (eqb n 2) (Some TooShort)
    (cond (eqb n 3) (Some NotLaidOut)
    (cond (eqb n 4) (Some IsRanked)
    (cond (eqb n 5) (Some IsOpen)
    (cond (eqb n 6) (Some OverflowFull)
    (cond (eqb n 7) (Some RowsFull)
    (cond (eqb n 8) (Some PagesFull)
    (cond (eqb n 9) (Some NotPrepared)
    (cond (eqb n 10) (Some SizesDiffer)
    (cond (eqb n 11) (Some NoRoom)
    (cond (eqb n 0) None
    (Some NoPartition))))))))))))

pub accepted_zero : (n : ℕ) → refusal_of n ≡ None → n ≡ 0
accepted_zero n e = go (eqb n 1) (eqb n 2) (eqb n 3) (eqb n 4) (eqb n 5) (eqb n 6) (eqb n 7) (eqb n 8) (eqb n 9) (eqb n 10) (eqb n 11) (eqb n 0) refl e
  where
    go : (a b c d f g h i j k l m : Bool) → eqb n 0 ≡ m
        → cond a (Some OutsideSizes) (cond b (Some TooShort) (cond c (Some NotLaidOut) (cond d (Some IsRanked) (cond f (Some IsOpen) (cond g (Some OverflowFull)
        (cond h (Some RowsFull) (cond i (Some PagesFull) (cond j (Some NotPrepared) (cond k (Some SizesDiffer) (cond l (Some NoRoom) (cond m None (Some NoPartition)))))))))))) ≡ None → n ≡ 0
    go true b c d f g h i j k l m p q = absurd cc
    go false true c d f g h i j k l m p q = absurd cc
    go false false true d f g h i j k l m p q = absurd cc
    go false false false true f g h i j k l m p q = absurd cc
    go false false false false true g h i j k l m p q = absurd cc
    go false false false false false true h i j k l m p q = absurd cc
    go false false false false false false true i j k l m p q = absurd cc
    go false false false false false false false true j k l m p q = absurd cc
    go false false false false false false false false true k l m p q = absurd cc
    go false false false false false false false false false true l m p q = absurd cc
    go false false false false false false false false false false true m p q = absurd cc
    go false false false false false false false false false false false true p q = eqb-true n 0 p
    go false false false false false false false false false false false false p q = absurd cc

-- 0 is no refusal
abbrev pub or_refused : {A : Type 0} → Option Refusal → (Refusal → A) → A → A
or_refused None refuse a = a
or_refused (Some n) refuse a = refuse n

abbrev pub outcome_in : DoneAnswer → Outcome
outcome_in a = or_refused (refusal_of a.refusal) Err (Ok tt)

abbrev pub truth_in : TruthAnswer → Truth
truth_in a = or_refused (refusal_of a.refusal) Err (Ok a.yes)

abbrev pub amount_in : NumberAnswer → Amount
amount_in a = or_refused (refusal_of a.refusal) Err (Ok a.value)

abbrev pub perhaps_in : OptionalAnswer → Perhaps
perhaps_in a = or_refused (refusal_of a.refusal) Err (cond a.has (Ok (Some a.value)) (Ok None))

abbrev pub planning_in : PlanAnswer → Planning
planning_in a = or_refused (refusal_of a.refusal) Err (Ok (plan_in a.total a.slots a.partitions))

abbrev pub spanned_in : IntervalAnswer → Spanned
spanned_in a = or_refused (refusal_of a.refusal) Err (Ok (span_in a.has_high a.low a.high))

abbrev pub ranks_in : RanksAnswer → Ranked
ranks_in a = or_refused (refusal_of a.refusal) Err (Ok (record { first = a.first; count = a.count }))

-- ---- what was coded is read

refusal_back : (n : Refusal) → refusal_of (number n) ≡ Some n
refusal_back OutsideSizes = refl
refusal_back TooShort = refl
refusal_back NotLaidOut = refl
refusal_back IsRanked = refl
refusal_back IsOpen = refl
refusal_back OverflowFull = refl
refusal_back RowsFull = refl
refusal_back PagesFull = refl
refusal_back NotPrepared = refl
refusal_back SizesDiffer = refl
refusal_back NoRoom = refl
refusal_back NoPartition = refl

refused_back : {A : Type 0} (refuse : Refusal → A) (a : A) (n : Refusal) → or_refused (refusal_of (number n)) refuse a ≡ refuse n
refused_back refuse a n = ap (λ (r : Option Refusal). or_refused r refuse a) (refusal_back n)

pub outcome_back : (a : Outcome) → OutcomeNumbered a → outcome_in (outcome_code a) ≡ a
outcome_back (Ok tt) h = refl
outcome_back (Err n) h = refused_back Err (Ok tt) n

pub truth_back : (a : Truth) → TruthNumbered a → truth_in (truth_code a) ≡ a
truth_back (Ok b) h = refl
truth_back (Err n) h = refused_back Err (Ok false) n

pub amount_back : (a : Amount) → AmountNumbered a → amount_in (amount_code a) ≡ a
amount_back (Ok n) h = refl
amount_back (Err n) h = refused_back Err (Ok 0) n

pub perhaps_back : (a : Perhaps) → PerhapsNumbered a → perhaps_in (perhaps_code a) ≡ a
perhaps_back (Ok (Some n)) h = refl
perhaps_back (Ok None) h = refl
perhaps_back (Err n) h = refused_back Err (Ok None) n

pub planning_back : (a : Planning) → PlanningNumbered a → planning_in (planning_code a) ≡ a
planning_back (Ok p) h = refl
planning_back (Err n) h = refused_back Err (Ok (plan_in 0 0 0)) n

pub spanned_back : (a : Spanned) → SpannedNumbered a → spanned_in (spanned_code a) ≡ a
spanned_back (Ok (span.Between lo hi)) h = refl
spanned_back (Ok (span.From lo)) h = refl
spanned_back (Err n) h = refused_back Err (Ok (span.From (pos 0))) n

pub ranks_back : (a : Ranked) → RanksNumbered a → ranks_in (ranks_code a) ≡ a
ranks_back (Ok k) h = refl
ranks_back (Err n) h = refused_back Err (Ok (record { first = 0; count = 0 })) n

-- ---- beside a refusal every other field is 0

pub truth_alone : (a : Truth) → ((truth_code a).refusal ≡ 0 → ⊥) → (truth_code a).yes ≡ false
truth_alone (Ok b) h = absurd (h refl)
truth_alone (Err n) h = refl

pub amount_alone : (a : Amount) → ((amount_code a).refusal ≡ 0 → ⊥) → (amount_code a).value ≡ 0
amount_alone (Ok n) h = absurd (h refl)
amount_alone (Err n) h = refl

pub perhaps_alone : (a : Perhaps) → ((perhaps_code a).refusal ≡ 0 → ⊥) → ((perhaps_code a).has ≡ false) × ((perhaps_code a).value ≡ 0)
perhaps_alone (Ok (Some n)) h = absurd (h refl)
perhaps_alone (Ok None) h = (refl, refl)
perhaps_alone (Err n) h = (refl, refl)

pub planning_alone : (a : Planning) → ((planning_code a).refusal ≡ 0 → ⊥) → ((planning_code a).total ≡ 0) × ((planning_code a).slots ≡ 0) × ((planning_code a).partitions ≡ 0)
planning_alone (Ok p) h = absurd (h refl)
planning_alone (Err n) h = (refl, refl, refl)

pub spanned_alone : (a : Spanned) → ((spanned_code a).refusal ≡ 0 → ⊥) → spanned_code a ≡ interval_code (spanned_code a).refusal false (pos 0) (pos 0)
spanned_alone (Ok (span.Between lo hi)) h = absurd (h refl)
spanned_alone (Ok (span.From lo)) h = absurd (h refl)
spanned_alone (Err n) h = refl

pub ranks_alone : (a : Ranked) → ((ranks_code a).refusal ≡ 0 → ⊥) → ((ranks_code a).first ≡ 0) × ((ranks_code a).count ≡ 0)
ranks_alone (Ok k) h = absurd (h refl)
ranks_alone (Err n) h = (refl, refl)

-- ---- an interval's ends, as the machine passes them on

pub span_read : (b : Bool) (lo hi : ℤ) → SFits w64 lo → SFits w64 hi → (i : Span) → i ≡ span_in b (to_z w64 (of_z w64 lo)) (to_z w64 (of_z w64 hi)) → i ≡ span_in b lo hi
span_read b lo hi f g i e = e ∙ ap₂ (span_in b) (to_z-of_z f) (to_z-of_z g)

-- ---- an entry's contract, from that of the call that it wraps

module _ {A R : Type 0} (code : A → R) where
  pub coded_by : (says : A → Type 0) (r : R) (a : A) → r ≡ code a → says a → Coded code says r
  coded_by says r a e h = record { answer = a; coded = e; said = h }

  -- a call on an id
  pub coded_at : (says : ℤ → A → Type 0) (z : ℤ) → SFits w64 z → (r : R) (a : A) → r ≡ code a → says (to_z w64 (of_z w64 z)) a → Coded code (says z) r
  coded_at says z f r a e h = coded_by (says z) r a e (subst (λ (i : ℤ). says i a) (to_z-of_z f) h)

  -- and on two
  pub coded_between : (says : ℤ → ℤ → A → Type 0) (y z : ℤ) → SFits w64 y → SFits w64 z → (r : R) (a : A) → r ≡ code a
      → says (to_z w64 (of_z w64 y)) (to_z w64 (of_z w64 z)) a → Coded code (says y z) r
  coded_between says y z f g r a e h =
      coded_at (λ (i : ℤ) (b : A). says i z b) y f r a e (subst (λ (i : ℤ). says (to_z w64 (of_z w64 y)) i a) (to_z-of_z g) h)

  -- and one that changes memory
  pub coded_into : (says : ℤ → A → Mem → Type 0) (z : ℤ) → SFits w64 z → (r : R) (a : A) (y : Mem) → r ≡ code a → says (to_z w64 (of_z w64 z)) a y → Coded code (λ (b : A). says z b y) r
  coded_into says z f r a y e h = coded_at (λ (i : ℤ) (b : A). says i b y) z f r a e h

-- what an entry answers is the wrapped call's answer, read back, where the call's refusals have document 01's numbers
pub coded_back : {A R : Type 0} (code : A → R) (back : R → A) (Fine : A → Type 0) → ((a : A) → Fine a → back (code a) ≡ a)
    → (says : A → Type 0) → ((a : A) → says a → Fine a) → (r : R) → Coded code says r → says (back r)
coded_back code back Fine inverse says fine r h =
    subst says (sym (ap back h.coded ∙ inverse h.answer (fine h.answer h.said))) h.said

-- an answer that is C's own as it stands, to a call on an id
pub told_at : {B : Type 0} (says : ℤ → B → Type 0) (z : ℤ) → SFits w64 z → (b : B) → says (to_z w64 (of_z w64 z)) b → says z b
told_at says z f b h = subst (λ (i : ℤ). says i b) (to_z-of_z f) h
