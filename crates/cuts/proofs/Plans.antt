-- Planning: what each way through it leaves, on any memory, and what document 01 says on memory that follows the layout. Assumes nothing.
use mathlib.Core.Path.{◌≡◌, refl, sym, ap, ap₂, subst, ◌∙◌}
use mathlib.Core.Bool.{Bool, true, false, cond}
use mathlib.Core.List.{List}
use Prim.Native.Nat.{ℕ, zero, suc, ◌+◌, ◌-◌, ◌*◌, ◌≤◌, ◌<◌}
use native.Mathlib.Numerals.{add-one}
use native.Mathlib.Omega.{arith}
use lib.IntN.{ℤ, pos}
use lib.ListN.{length, get_or, set, length-set}
use lib.Seq.{get_or-set_same, get_or-set_other}
use lib.Dec.{ltb}
use borrow.Author.Tests.{ltb-true, ltb-false, lt-ltb, le-ltb}
use Rattle.sums.specs.Ids.{total}
use Rattle.sums.specs.Cuts.{size, parts}
use Rattle.sums.proofs.Rounding.{parts_tight}
use Rattle.layout.specs.Mem.{Mem}
use Rattle.layout.specs.Sizes.{total_at}
use Rattle.layout.specs.Meaning.{holds, ranked, state_of}
use Rattle.layout.specs.Follows.{Follows}
use Rattle.layout.specs.Tests.{walked}
use Rattle.layout_laws.proofs.Walked.{follows_walked}
use Rattle.layout_laws.proofs.Ranks.{total_rank}
use Rattle.document.specs.Plan.{plan_of}
use Rattle.cuts.specs.Plan.{boundary_by, bounds_to, Cut, cut, plan_total, plan_by}
use Rattle.document.specs.Plan.{plan_answer, PlansFor}
use Rattle.cuts.proofs.Boundaries.{boundary_least}
use Rattle.document.specs.Refusals.{is_open, no_room, not_laid_out}
use Rattle.document.specs.Results.{Planning}
use Rattle.std.specs.Prelude.{Err, Ok}
use Rattle.document.specs.declared.refusal.Refusal.{Refusal}

module _ (x : Mem) (slots : ℕ) (bs : List ℤ) where
  -- ---- boundaries 1 to n

  pub bounds_zero : bounds_to x slots bs 0 ≡ bs
  unfolding bounds_to
  bounds_zero = refl

  pub bounds_suc : (n : ℕ) → bounds_to x slots bs (suc n) ≡ set (bounds_to x slots bs n) n (pos (boundary_by x (suc n * size slots)))
  unfolding bounds_to
  bounds_suc n = refl

  pub bounds_length : (n : ℕ) → length (bounds_to x slots bs n) ≡ length bs
  unfolding bounds_to
  bounds_length zero = refl
  bounds_length (suc n) = length-set (bounds_to x slots bs n) n (pos (boundary_by x (suc n * size slots))) ∙ bounds_length n

  pub bounds_past : (n k : ℕ) → n ≤ k → get_or (bounds_to x slots bs n) k (pos 0) ≡ get_or bs k (pos 0)
  unfolding bounds_to
  bounds_past zero k l = refl
  bounds_past (suc n) k l = get_or-set_other (bounds_to x slots bs n) n k (pos (boundary_by x (suc n * size slots))) (pos 0) (λ (e : k ≡ n). omega arith) ∙ bounds_past n k (omega arith)

  pub bounds_at : (n k : ℕ) → k < n → n ≤ length bs → get_or (bounds_to x slots bs n) k (pos 0) ≡ pos (boundary_by x (suc k * size slots))
  unfolding bounds_to
  bounds_at zero k l m = absurd (omega arith)
  bounds_at (suc n) k l m = go (ltb k n) refl (bounds_at n k)
    where
      go : (b : Bool) → ltb k n ≡ b → (k < n → n ≤ length bs → get_or (bounds_to x slots bs n) k (pos 0) ≡ pos (boundary_by x (suc k * size slots)))
          → get_or (set (bounds_to x slots bs n) n (pos (boundary_by x (suc n * size slots)))) k (pos 0) ≡ pos (boundary_by x (suc k * size slots))
      go true t r =
          let q = ltb-true k n t in
          get_or-set_other (bounds_to x slots bs n) n k (pos (boundary_by x (suc n * size slots))) (pos 0) (λ (e : k ≡ n). omega arith) ∙ r q (omega arith)
      go false t r =
          let q = ltb-false k n t in
          let e : k ≡ n = omega arith in
          let f : n < length (bounds_to x slots bs n) = omega (arith, bounds_length n) in
          rw e (get_or-set_same (bounds_to x slots bs n) n (pos (boundary_by x (suc n * size slots))) (pos 0) f)

  -- one more of them, by the code's numbers
  pub bounds_turn : (k g : ℕ) (l c : List ℤ) (z : ℤ) → g ≡ size slots → l ≡ bounds_to x slots bs k → z ≡ pos (boundary_by x ((k + 1) * g)) → c ≡ set l k z → c ≡ bounds_to x slots bs (k + 1)
  bounds_turn k g l c z e i v q =
      let d : (k + 1) * g ≡ suc k * size slots = ap₂ ◌*◌ (add-one k) e in
      let w : z ≡ pos (boundary_by x (suc k * size slots)) = v ∙ ap (λ (m : ℕ). pos (boundary_by x m)) d in
      q ∙ ap₂ (λ (a : List ℤ) (y : ℤ). set a k y) i w ∙ sym (bounds_suc k) ∙ ap (bounds_to x slots bs) (sym (add-one k))

  -- ---- the ways through a planning

  abbrev n : ℕ
  n = parts (total_at x.table) slots - 1

  pub plan_bad : walked x ≡ false → plan_by x slots bs ≡ cut (Err not_laid_out) bs
  unfolding plan_by
  plan_bad w = ap (λ (b : Bool). cond b (cond (ranked x) (plan_total x slots bs (total_at x.table)) (cut (Err is_open) bs)) (cut (Err not_laid_out) bs)) w

  plan_well : walked x ≡ true → plan_by x slots bs ≡ cond (ranked x) (plan_total x slots bs (total_at x.table)) (cut (Err is_open) bs)
  unfolding plan_by
  plan_well w = ap (λ (b : Bool). cond b (cond (ranked x) (plan_total x slots bs (total_at x.table)) (cut (Err is_open) bs)) (cut (Err not_laid_out) bs)) w

  pub plan_open : walked x ≡ true → ranked x ≡ false → plan_by x slots bs ≡ cut (Err is_open) bs
  plan_open w r = plan_well w ∙ ap (λ (b : Bool). cond b (plan_total x slots bs (total_at x.table)) (cut (Err is_open) bs)) r

  plan_ranked : walked x ≡ true → ranked x ≡ true → plan_by x slots bs ≡ plan_total x slots bs (total_at x.table)
  plan_ranked w r = plan_well w ∙ ap (λ (b : Bool). cond b (plan_total x slots bs (total_at x.table)) (cut (Err is_open) bs)) r

  pub plan_short : walked x ≡ true → ranked x ≡ true → length bs < n → plan_by x slots bs ≡ cut (Err no_room) bs
  plan_short w r l = plan_ranked w r ∙ ap (λ (b : Bool). cond b (cut (Err no_room) bs) (cut (Ok (plan_of (total_at x.table) slots)) (bounds_to x slots bs n))) (lt-ltb (length bs) n l)

  pub plan_made : walked x ≡ true → ranked x ≡ true → n ≤ length bs → plan_by x slots bs ≡ cut (Ok (plan_of (total_at x.table) slots)) (bounds_to x slots bs n)
  plan_made w r l = plan_ranked w r ∙ ap (λ (b : Bool). cond b (cut (Err no_room) bs) (cut (Ok (plan_of (total_at x.table) slots)) (bounds_to x slots bs n))) (le-ltb (length bs) n l)

  -- what holds of each way holds of planning
  plan_ways : (Q : Cut → Type 0) → ((c : Refusal) → Q (cut (Err c) bs)) → (n ≤ length bs → Q (cut (Ok (plan_of (total_at x.table) slots)) (bounds_to x slots bs n))) → Q (plan_by x slots bs)
  plan_ways Q f g = go (walked x) refl (ranked x) refl (ltb (length bs) n) refl
    where
      go : (a : Bool) → walked x ≡ a → (b : Bool) → ranked x ≡ b → (c : Bool) → ltb (length bs) n ≡ c → Q (plan_by x slots bs)
      go false w b r c t = subst Q (sym (plan_bad w)) (f not_laid_out)
      go true w false r c t = subst Q (sym (plan_open w r)) (f is_open)
      go true w true r true t = subst Q (sym (plan_short w r (ltb-true (length bs) n t))) (f no_room)
      go true w true r false t = let l = ltb-false (length bs) n t in subst Q (sym (plan_made w r l)) (g l)

  -- ---- on any memory

  -- a refusal leaves the boundaries as they were
  pub plan_refused : (c : Refusal) → (plan_by x slots bs).answer ≡ Err c → (plan_by x slots bs).bounds ≡ bs
  plan_refused c = plan_ways (λ (k : Cut). k.answer ≡ Err c → k.bounds ≡ bs) (λ d e. refl) (λ l e. absurd cc)

  pub plan_length : length (plan_by x slots bs).bounds ≡ length bs
  plan_length = plan_ways (λ (k : Cut). length k.bounds ≡ length bs) (λ d. refl) (λ l. bounds_length n)

  -- spare boundaries stay
  pub plan_spare : (k : ℕ) → n ≤ k → get_or (plan_by x slots bs).bounds k (pos 0) ≡ get_or bs k (pos 0)
  plan_spare k l = plan_ways (λ (c : Cut). get_or c.bounds k (pos 0) ≡ get_or bs k (pos 0)) (λ d. refl) (λ m. bounds_past n k l)

-- ---- on memory that follows the layout

module _ {x : Mem} (slots : ℕ) (bs : List ℤ) (w : Follows x) where
  -- the number of partitions, as memory and as its members say it
  abbrev t : ℕ
  t = total (holds x)

  answer_open : ranked x ≡ false → plan_answer (state_of x) slots (length bs) ≡ Err is_open
  unfolding plan_answer
  answer_open r = ap (λ (b : Bool). cond b (cond (ltb (length bs) (parts t slots - 1)) (Err no_room) (Ok (plan_of t slots))) (Err is_open)) r

  answer_ranked : ranked x ≡ true → plan_answer (state_of x) slots (length bs) ≡ cond (ltb (length bs) (parts t slots - 1)) (Err no_room) (Ok (plan_of t slots))
  unfolding plan_answer
  answer_ranked r = ap (λ (b : Bool). cond b (cond (ltb (length bs) (parts t slots - 1)) (Err no_room) (Ok (plan_of t slots))) (Err is_open)) r

  -- a refusal
  refuses : (c : Refusal) → plan_answer (state_of x) slots (length bs) ≡ Err c → PlansFor (state_of x) slots bs (Err c) bs
  refuses c e = record {
    answer = sym e;
    refused = λ n q. refl;
    same_length = refl;
    boundaries = λ q. absurd cc;
    spare = λ k l. refl;
  }

  makes : ranked x ≡ true → parts t slots - 1 ≤ length bs → PlansFor (state_of x) slots bs (Ok (plan_of t slots)) (bounds_to x slots bs (parts t slots - 1))
  makes r l = record {
    answer = sym (answer_ranked r ∙ ap (λ (b : Bool). cond b (Err no_room) (Ok (plan_of t slots))) (le-ltb (length bs) (parts t slots - 1) l));
    refused = λ n q. absurd cc;
    same_length = bounds_length x slots bs (parts t slots - 1);
    boundaries = λ q k m. (boundary_by x (suc k * size slots), bounds_at x slots bs (parts t slots - 1) k (omega arith) l, boundary_least w r (suc k * size slots) (parts_tight t slots (suc k) (omega arith) m));
    spare = λ k m. bounds_past x slots bs (parts t slots - 1) k m;
  }

  pub plan_says : PlansFor (state_of x) slots bs (plan_by x slots bs).answer (plan_by x slots bs).bounds
  plan_says = go (ranked x) refl (ltb (length bs) (parts t slots - 1)) refl
    where
      by : (c : Cut) → plan_by x slots bs ≡ c → PlansFor (state_of x) slots bs c.answer c.bounds → PlansFor (state_of x) slots bs (plan_by x slots bs).answer (plan_by x slots bs).bounds
      by c e p = subst (λ (k : Cut). PlansFor (state_of x) slots bs k.answer k.bounds) (sym e) p

      go : (a : Bool) → ranked x ≡ a → (b : Bool) → ltb (length bs) (parts t slots - 1) ≡ b → PlansFor (state_of x) slots bs (plan_by x slots bs).answer (plan_by x slots bs).bounds
      go false r b e = by (cut (Err is_open) bs) (plan_open x slots bs (follows_walked w) r) (refuses is_open (answer_open r))
      go true r true e =
          let q = total_rank w r in
          by (cut (Err no_room) bs) (plan_short x slots bs (follows_walked w) r (rw q (ltb-true (length bs) (parts t slots - 1) e)))
          (refuses no_room (answer_ranked r ∙ ap (λ (b : Bool). cond b (Err no_room) (Ok (plan_of t slots))) e))
      go true r false e =
          let q = total_rank w r in
          let l = ltb-false (length bs) (parts t slots - 1) e in
          by (cut (Ok (plan_of t slots)) (bounds_to x slots bs (parts t slots - 1)))
          (plan_made x slots bs (follows_walked w) r (rw q l) ∙ ap (λ (k : ℕ). cut (Ok (plan_of k slots)) (bounds_to x slots bs (parts k slots - 1))) q) (makes r l)

-- what the code leaves, by what it equals
pub plans_by : {x : Mem} (slots : ℕ) (bs : List ℤ) (a : Planning) (cs : List ℤ) → cut a cs ≡ plan_by x slots bs → Follows x → PlansFor (state_of x) slots bs a cs
plans_by {x} slots bs a cs e w = subst (λ (k : Cut). PlansFor (state_of x) slots bs k.answer k.bounds) (sym e) (plan_says slots bs w)
