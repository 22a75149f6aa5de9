-- The intervals and ranks of a plan are the parts of the set that it was made for. Assumes nothing.
use mathlib.Core.Path.{◌≡◌, refl, sym, ap, ap₂, ◌∙◌}
use mathlib.Core.Bool.{Bool, true, false, cond, not, ◌&&◌}
use mathlib.Core.List.{List}
use Prim.Native.Nat.{ℕ, zero, suc, ◌+◌, ◌-◌, ◌*◌, ◌/◌, ◌^◌, ◌≤◌, ◌<◌, min, max}
use native.Mathlib.Omega.{arith}
use lib.IntN.{ℤ, pos, negsuc}
use lib.ListN.{length, get_or}
use lib.Dec.{ltb}
use borrow.Author.Tests.{ltb-true, ltb-false, lt-ltb, le-ltb, le-leb, eq-eqb, ne_eqb}
use Rattle.sums.specs.Ids.{Ids, total}
use Rattle.sums.specs.Cuts.{size, parts, Least, Interval, End, before, boundary, low_end, part, held}
use Rattle.sums.proofs.Least.{least_one}
use Rattle.sums.proofs.Parts.{boundary_is, high_last, high_next}
use Rattle.sums.proofs.Held.{part_held}
use Rattle.document.specs.State.{State}
use Rattle.document.specs.Plan.{plan_of, plan_answer, PlansFor}
use Rattle.document.specs.Spans.{interval_of, record_ok, plan_ok, low_at, span_at, ids_answer, ranks_answer}
use Rattle.document.specs.declared.plan.Plan.{Plan}
use Rattle.document.specs.declared.plan.Span.{Span}
use Rattle.document.specs.declared.plan.Span.TheVariants.{Between, From}
use Rattle.document.specs.Refusals.{is_open, no_partition, no_room, not_laid_out}
use Rattle.document.specs.Results.{Ranked, Spanned}
use Rattle.std.specs.Prelude.{Err, Ok}

abbrev interval : ℤ → End → Interval
interval z h = record { low = z; high = h }

-- ---- the ways through `ids` and `ranks`, for any record and any boundaries

module _ (p : Plan) (bs : List ℤ) (k : ℕ) where
  abbrev ids_at : Bool → Bool → Spanned
  ids_at ok there = cond ok (cond there (Ok (span_at p bs k)) (Err no_partition)) (Err not_laid_out)

  pub ids_bad : plan_ok p bs ≡ false → ids_answer p bs k ≡ Err not_laid_out
  unfolding ids_answer
  ids_bad e = ap (λ (b : Bool). ids_at b (ltb k p.partitions)) e

  pub ids_none : plan_ok p bs ≡ true → p.partitions ≤ k → ids_answer p bs k ≡ Err no_partition
  unfolding ids_answer
  ids_none e l = ap₂ ids_at e (le-ltb k p.partitions l)

  pub ids_there : plan_ok p bs ≡ true → k < p.partitions → ids_answer p bs k ≡ Ok (span_at p bs k)
  unfolding ids_answer
  ids_there e l = ap₂ ids_at e (lt-ltb k p.partitions l)

  abbrev span_at_law : Bool → Span
  span_at_law b = cond b (Between (low_at bs k) (get_or bs k (pos 0))) (From (low_at bs k))

  pub span_between : k + 1 < p.partitions → span_at p bs k ≡ Between (low_at bs k) (get_or bs k (pos 0))
  span_between l = ap span_at_law (lt-ltb (k + 1) p.partitions l)

  pub span_from : p.partitions ≤ k + 1 → span_at p bs k ≡ From (low_at bs k)
  span_from l = ap span_at_law (le-ltb (k + 1) p.partitions l)

module _ (p : Plan) (k : ℕ) where
  abbrev ranks_at : Bool → Bool → Ranked
  ranks_at ok there = cond ok (cond there (Ok (record { first = k * p.slots; count = min p.slots (p.total - k * p.slots) })) (Err no_partition)) (Err not_laid_out)

  pub ranks_bad : record_ok p ≡ false → ranks_answer p k ≡ Err not_laid_out
  unfolding ranks_answer
  ranks_bad e = ap (λ (b : Bool). ranks_at b (ltb k p.partitions)) e

  pub ranks_none : record_ok p ≡ true → p.partitions ≤ k → ranks_answer p k ≡ Err no_partition
  unfolding ranks_answer
  ranks_none e l = ap₂ ranks_at e (le-ltb k p.partitions l)

  pub ranks_there : record_ok p ≡ true → k < p.partitions → ranks_answer p k ≡ Ok (record { first = k * p.slots; count = min p.slots (p.total - k * p.slots) })
  unfolding ranks_answer
  ranks_there e l = ap₂ ranks_at e (lt-ltb k p.partitions l)

pub low_first : (bs : List ℤ) (k : ℕ) → k ≡ 0 → low_at bs k ≡ negsuc (2 ^ 63 - 1)
low_first bs k e = ap (λ (b : Bool). cond b (negsuc (2 ^ 63 - 1)) (get_or bs (k - 1) (pos 0))) (eq-eqb k 0 e)

pub low_later : (bs : List ℤ) (k : ℕ) → 0 < k → low_at bs k ≡ get_or bs (k - 1) (pos 0)
low_later bs k l = ap (λ (b : Bool). cond b (negsuc (2 ^ 63 - 1)) (get_or bs (k - 1) (pos 0))) (ne_eqb k 0 (λ e. omega arith))

-- ---- a plan that was made

size_size : (slots : ℕ) → size (size slots) ≡ size slots
size_size slots = omega arith

parts_size : (t slots : ℕ) → parts t (size slots) ≡ parts t slots
parts_size t slots = ap (λ (s : ℕ). max 1 ((t + (s - 1)) / s)) (size_size slots)

pub record_ok_law : (t slots : ℕ) → record_ok (plan_of t slots) ≡ true
record_ok_law t slots = ap₂ (λ (a b : Bool). not a && b) (ne_eqb (size slots) 0 (λ e. omega arith)) (eq-eqb (parts t slots) (parts t (size slots)) (sym (parts_size t slots)))

-- the boundaries are those of the plain set
pub record Bounded (P : Ids) (slots : ℕ) (cs : List ℤ) : Type 0 where
  pub enough : parts (total P) slots - 1 ≤ length cs
  pub least : (k : ℕ) → suc k < parts (total P) slots → (b : ℕ) × (get_or cs k (pos 0) ≡ pos b) × Least P (suc k * size slots) b

module _ (P : Ids) (slots : ℕ) (cs : List ℤ) (w : Bounded P slots cs) where
  bound_is : (k : ℕ) → suc k < parts (total P) slots → get_or cs k (pos 0) ≡ pos (boundary P slots (suc k))
  bound_is k l = let b = w.least k l in b.1 ∙ ap pos (least_one b.2 (boundary_is P slots k l))

  low_is : (k : ℕ) → k < parts (total P) slots → low_at cs k ≡ low_end P slots k
  unfolding low_end
  low_is zero l = refl
  low_is (suc k) l = let e : suc k - 1 ≡ k = omega arith in low_later cs (suc k) (omega arith) ∙ ap (λ (n : ℕ). get_or cs n (pos 0)) e ∙ bound_is k l

  pub span_part : (k : ℕ) → k < parts (total P) slots → interval_of (span_at (plan_of (total P) slots) cs k) ≡ part P slots k
  span_part k l = go (ltb (k + 1) (parts (total P) slots)) refl
    where
      go : (b : Bool) → ltb (k + 1) (parts (total P) slots) ≡ b → interval_of (span_at (plan_of (total P) slots) cs k) ≡ part P slots k
      go true e =
          let m = ltb-true (k + 1) (parts (total P) slots) e in
          ap interval_of (span_between (plan_of (total P) slots) cs k m) ∙ ap₂ interval (low_is k l) (ap before (bound_is k (omega arith)) ∙ sym (high_next P slots k (omega arith)))
      go false e =
          let m = ltb-false (k + 1) (parts (total P) slots) e in
          ap interval_of (span_from (plan_of (total P) slots) cs k m) ∙ ap₂ interval (low_is k l) (sym (high_last P slots k (omega arith)))

  plan_ok_law : plan_ok (plan_of (total P) slots) cs ≡ true
  plan_ok_law = ap₂ ◌&&◌ (record_ok_law (total P) slots) (le-leb (parts (total P) slots - 1) (length cs) w.enough)

  -- `ids` answers the parts of the set
  pub ids_part : (k : ℕ) → k < parts (total P) slots → ids_answer (plan_of (total P) slots) cs k ≡ Ok (span_at (plan_of (total P) slots) cs k)
  ids_part k l = ids_there (plan_of (total P) slots) cs k plan_ok_law l

-- `ranks` answers a part's first rank and how many members it holds
pub ranks_part : (P : Ids) (slots k : ℕ) → k < parts (total P) slots → ranks_answer (plan_of (total P) slots) k ≡ Ok (record { first = (k * size slots); count = (held P (part P slots k)) })
ranks_part P slots k l = ranks_there (plan_of (total P) slots) k (record_ok_law (total P) slots) l ∙ ap (λ (n : ℕ). Ok (record { first = k * size slots; count = n })) (sym (part_held P slots k l))

-- a plan was made: there was room
room_of : (P : Ids) (slots room : ℕ) (r : Bool) → Ok (plan_of (total P) slots) ≡ cond r (cond (ltb room (parts (total P) slots - 1)) (Err no_room) (Ok (plan_of (total P) slots))) (Err is_open) → parts (total P) slots - 1 ≤ room
room_of P slots room false e = absurd (let z : ◌≡◌ {A = ℕ} 0 1 = cc in omega arith)
room_of P slots room true e = go (ltb room (parts (total P) slots - 1)) refl e
  where
    go : (b : Bool) → ltb room (parts (total P) slots - 1) ≡ b → Ok (plan_of (total P) slots) ≡ cond b (Err no_room) (Ok (plan_of (total P) slots)) → parts (total P) slots - 1 ≤ room
    go true t q = absurd (let z : ◌≡◌ {A = ℕ} 0 1 = cc in omega arith)
    go false t q = ltb-false room (parts (total P) slots - 1) t

-- boundaries as a planning leaves them
pub plans_bounded : {q : State} {slots : ℕ} {bs cs : List ℤ} → PlansFor q slots bs (Ok (plan_of (total q.members) slots)) cs → Bounded q.members slots cs
unfolding plan_answer
plans_bounded {q} {slots} {bs} {cs} p =
    let l = room_of q.members slots (length bs) q.mode p.answer in
    record { enough = (let e = p.same_length in omega arith); least = p.boundaries refl }
