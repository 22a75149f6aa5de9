-- What a customer reads of the range list: demand 1 of each call, and after every history the marks of the set described. Assumes nothing.
use mathlib.Core.Path.{◌≡◌, refl, sym, ap, subst, ◌∙◌}
use mathlib.Core.List.{List, [], ◌∷◌, map}
use mathlib.Core.Bool.{Bool, true, false, cond}
use Prim.Native.Nat.{ℕ, ◌-◌, ◌≤◌, ◌<◌}
use lib.IntN.{ℤ}
use lib.ListN.{length}
use Rattle.sums.specs.Ids.{total}
use Rattle.sums.specs.Cuts.{parts}
use Rattle.document.specs.State.{State}
use Rattle.document.specs.Calls.{range_test, whether}
use Rattle.document.specs.Plan.{plan_of}
use Rattle.document.specs.Spans.{span_at, ids_answer}
use Rattle.document.specs.RangeList.{marks, marks_in, hits, meets, meets_answer, meets_marks, meets_marks_in}
use Rattle.document.specs.declared.range.Range.{Range}
use Rattle.layout.specs.Mem.{Mem}
use Rattle.layout.specs.Follows.{Follows}
use Rattle.layout.specs.Tests.{walked}
use Rattle.contracts.specs.Does.{Answers}
use Rattle.scan.proofs.Promises.{any_by_law}
use Rattle.cuts.specs.Promise.{Plans}
use Rattle.range_list.specs.Marks.{hit_by, range_answer, MarksByRange, EndsByRange, MarksByPartition, EndsByPartition}
use Rattle.range_list.proofs.AfterWalk.{any_told}
use Rattle.range_list.proofs.Columns.{low, high, mark_of, columns_are}
use Rattle.range_list.proofs.Outcomes.{marks_by_range, ends_by_range}
use Rattle.promises.specs.Histories.{Story, Happened, last, described}
use Rattle.promises.proofs.Theorems.{kept, cuts}
use Rattle.document.specs.Refusals.{not_laid_out}
use Rattle.document.specs.Results.{Outcome, Spanned, Truth}
use Rattle.std.specs.Prelude.{Err, Ok}
use Rattle.document.specs.declared.refusal.Refusal.{Refusal}

differ : {n : Refusal} → ◌≡◌ {A = Outcome} (Err n) (Ok tt) → ⊥
differ e = cc

-- ---- by range test

-- low and high stay
ends_of : (f : ℤ → ℤ → Bool) (rs : List Range) → (map low (marks f rs) ≡ map low rs) × (map high (marks f rs) ≡ map high rs)
ends_of f [] = (refl, refl)
ends_of f (r ∷ rs) = let e = ends_of f rs in (ap (λ (t : List ℤ). r.low ∷ t) e.0, ap (λ (t : List ℤ). r.high ∷ t) e.1)

module _ (x : Mem) where
  -- memory and list before fix answer and list after
  pub unique_marks : (rs : List Range) (a b : Outcome) (us vs : List Range) → MarksByRange x rs a us → MarksByRange x rs b vs → (a ≡ b) × (us ≡ vs)
  unique_marks rs a b us vs d e = (d.said ∙ sym e.said, d.list ∙ sym e.list)

  pub unique_ends : (los his : List ℤ) (ms : List ℕ) (a b : Outcome) (ns os : List ℕ) → EndsByRange x los his ms a ns → EndsByRange x los his ms b os → (a ≡ b) × (ns ≡ os)
  unique_ends los his ms a b ns os d e = (d.said ∙ sym e.said, d.list ∙ sym e.list)

  -- and there is one
  pub some_marks : (rs : List Range) → (a : Outcome) × (us : List Range) × MarksByRange x rs a us
  some_marks rs =
      let us = cond (walked x) (marks (hit_by x) rs) rs in
      (range_answer x, us, marks_by_range x (range_answer x) refl rs us refl)

  pub some_ends : (los his : List ℤ) (ms : List ℕ) → (a : Outcome) × (ns : List ℕ) × EndsByRange x los his ms a ns
  some_ends los his ms =
      let ns = cond (walked x) (marks_in (hit_by x) los his ms) ms in
      (range_answer x, ns, ends_by_range x (range_answer x) refl los his ms ns refl)

  -- a refused call leaves the list as it was
  stays : {A : Type 0} (n : Refusal) (after before l : A) (b : Bool) → ◌≡◌ {A = Outcome} (Err n) (cond b (Ok tt) (Err not_laid_out)) → l ≡ cond b after before → l ≡ before
  stays n after before l true e q = absurd (differ e)
  stays n after before l false e q = q

  pub refused_stays_marks : (rs us : List Range) (n : Refusal) → MarksByRange x rs (Err n) us → us ≡ rs
  refused_stays_marks rs us n d = stays n (marks (hit_by x) rs) rs us (walked x) d.said d.list

  pub refused_stays_ends : (los his : List ℤ) (ms ns : List ℕ) (n : Refusal) → EndsByRange x los his ms (Err n) ns → ns ≡ ms
  refused_stays_ends los his ms ns n d = stays n (marks_in (hit_by x) los his ms) ms ns (walked x) d.said d.list

  -- low and high stay
  pub ends_stay_marks : (rs : List Range) (a : Outcome) (us : List Range) → MarksByRange x rs a us → (map low us ≡ map low rs) × (map high us ≡ map high rs)
  ends_stay_marks rs a us d = subst (λ (l : List Range). (map low l ≡ map low rs) × (map high l ≡ map high rs)) (sym d.list) (go (walked x))
    where
      go : (b : Bool) → (map low (cond b (marks (hit_by x) rs) rs) ≡ map low rs) × (map high (cond b (marks (hit_by x) rs) rs) ≡ map high rs)
      go true = ends_of (hit_by x) rs
      go false = (refl, refl)

  -- where it isn't refused no range test of the set is, and the marks are what they answer
  pub no_test_refused : (rs us : List Range) → MarksByRange x rs (Ok tt) us → (lo hi : ℤ) (r : Truth) → Answers x (range_test lo hi) (whether r) → r ≡ Ok (hit_by x lo hi)
  no_test_refused rs us d lo hi r a = any_by_law x lo hi r a ∙ any_told x (passed (walked x) refl) lo hi
    where
      passed : (b : Bool) → walked x ≡ b → walked x ≡ true
      passed true e = e
      passed false e = absurd (differ (sym (d.said ∙ ap (λ (b : Bool). cond b (Ok tt) (Err not_laid_out)) e)))

  -- records and slices get the same marks
  pub same_marks : (rs us : List Range) (a b : Outcome) (ns : List ℕ) → MarksByRange x rs a us → EndsByRange x (map low rs) (map high rs) (map mark_of rs) b ns → (a ≡ b) × (map mark_of us ≡ ns)
  same_marks rs us a b ns d e = (d.said ∙ sym e.said, ap (map mark_of) d.list ∙ go (walked x) ∙ sym e.list)
    where
      go : (t : Bool) → map mark_of (cond t (marks (hit_by x) rs) rs) ≡ cond t (marks_in (hit_by x) (map low rs) (map high rs) (map mark_of rs)) (map mark_of rs)
      go true = columns_are (hit_by x) rs
      go false = refl

  -- memory that follows the layout is never the cause of a 3, nor of any refusal
  pub never_three_marks : Follows x → (rs us : List Range) (n : Refusal) → MarksByRange x rs (Err n) us → ⊥
  never_three_marks w rs us n d = differ (d.says w).0

  pub never_three_ends : Follows x → (los his : List ℤ) (ms ns : List ℕ) (n : Refusal) → EndsByRange x los his ms (Err n) ns → ⊥
  never_three_ends w los his ms ns n d = differ (d.says w).0

-- ---- by a partition that `ids` answers or refuses

module _ (i : Spanned) where
  pub unique_marks_by_partition : (rs : List Range) (a b : Outcome) (us vs : List Range) → MarksByPartition i rs a us → MarksByPartition i rs b vs → (a ≡ b) × (us ≡ vs)
  unique_marks_by_partition rs a b us vs d e = (d.said ∙ sym e.said, d.list ∙ sym e.list)

  pub unique_ends_by_partition : (los his : List ℤ) (ms : List ℕ) (a b : Outcome) (ns os : List ℕ) → EndsByPartition i los his ms a ns → EndsByPartition i los his ms b os → (a ≡ b) × (ns ≡ os)
  unique_ends_by_partition los his ms a b ns os d e = (d.said ∙ sym e.said, d.list ∙ sym e.list)

  pub some_marks_by_partition : (rs : List Range) → MarksByPartition i rs (meets_answer i) (meets_marks i rs)
  some_marks_by_partition rs = record { said = refl; list = refl }

  pub some_ends_by_partition : (los his : List ℤ) (ms : List ℕ) → EndsByPartition i los his ms (meets_answer i) (meets_marks_in i los his ms)
  some_ends_by_partition los his ms = record { said = refl; list = refl }

pub refused_stays_marks_by_partition : (i : Spanned) (rs us : List Range) (n : Refusal) → MarksByPartition i rs (Err n) us → us ≡ rs
refused_stays_marks_by_partition (Ok j) rs us n d = absurd (differ d.said)
refused_stays_marks_by_partition (Err c) rs us n d = d.list

pub refused_stays_ends_by_partition : (i : Spanned) (los his : List ℤ) (ms ns : List ℕ) (n : Refusal) → EndsByPartition i los his ms (Err n) ns → ns ≡ ms
refused_stays_ends_by_partition (Ok j) los his ms ns n d = absurd (differ d.said)
refused_stays_ends_by_partition (Err c) los his ms ns n d = d.list

pub same_marks_by_partition : (i : Spanned) (rs us : List Range) (a b : Outcome) (ns : List ℕ) → MarksByPartition i rs a us → EndsByPartition i (map low rs) (map high rs) (map mark_of rs) b ns
    → (a ≡ b) × (map mark_of us ≡ ns)
same_marks_by_partition i rs us a b ns d e = (d.said ∙ sym e.said, ap (map mark_of) d.list ∙ go i ∙ sym e.list)
  where
    go : (i : Spanned) → map mark_of (meets_marks i rs) ≡ meets_marks_in i (map low rs) (map high rs) (map mark_of rs)
    go (Ok j) = columns_are (meets j) rs
    go (Err c) = refl

-- ---- the history of a set that set_up made

module _ (s : Story) (ran : Happened s) where
  abbrev now : State
  now = described s

  -- the marks are those of the set described
  pub marks_of_set : (rs : List Range) (a : Outcome) (us : List Range) → MarksByRange (last s) rs a us → (a ≡ (Ok tt)) × (us ≡ marks (hits now) rs)
  marks_of_set rs a us d = let k = kept s ran in subst (λ (q : State). (a ≡ (Ok tt)) × (us ≡ marks (hits q) rs)) k.state (d.says k.follows)

  pub ends_of_set : (los his : List ℤ) (ms : List ℕ) (a : Outcome) (ns : List ℕ) → EndsByRange (last s) los his ms a ns → (a ≡ (Ok tt)) × (ns ≡ marks_in (hits now) los his ms)
  ends_of_set los his ms a ns d = let k = kept s ran in subst (λ (q : State). (a ≡ (Ok tt)) × (ns ≡ marks_in (hits q) los his ms)) k.state (d.says k.follows)

  -- by partition k of the plan that planning made of it, they are those of the plan's k-th interval, and it isn't refused
  module _ (o : now.mode ≡ true) (S : ℕ) (bs cs : List ℤ) (room : parts (total now.members) S - 1 ≤ length bs)
      (made : Plans (last s) S bs (Ok (plan_of (total now.members) S)) cs) (k : ℕ) (l : k < parts (total now.members) S) where
    abbrev part : Spanned
    part = ids_answer (plan_of (total now.members) S) cs k

    there : part ≡ Ok (span_at (plan_of (total now.members) S) cs k)
    there = (cuts s ran o S bs (Ok (plan_of (total now.members) S)) cs made).ids room k l

    pub marks_of_part : (rs : List Range) (a : Outcome) (us : List Range) → MarksByPartition part rs a us
        → (a ≡ (Ok tt)) × (us ≡ marks (meets (span_at (plan_of (total now.members) S) cs k)) rs)
    marks_of_part rs a us d = (d.said ∙ ap meets_answer there, d.list ∙ ap (λ (i : Spanned). meets_marks i rs) there)

    pub ends_of_part : (los his : List ℤ) (ms : List ℕ) (a : Outcome) (ns : List ℕ) → EndsByPartition part los his ms a ns
        → (a ≡ (Ok tt)) × (ns ≡ marks_in (meets (span_at (plan_of (total now.members) S) cs k)) los his ms)
    ends_of_part los his ms a ns d = (d.said ∙ ap meets_answer there, d.list ∙ ap (λ (i : Spanned). meets_marks_in i los his ms) there)
