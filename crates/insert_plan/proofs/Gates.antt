-- A set that takes inserts: its size is allowed, and an id lies in one of its chunks. Assumes nothing.
use mathlib.Core.Path.{◌≡◌, refl, sym, ◌∙◌, ap}
use mathlib.Core.List.{List}
use mathlib.Core.Bool.{Bool, true, false, cond, ◌&&◌}
use Prim.Native.Nat.{ℕ, ◌^◌, ◌≤◌, ◌<◌}
use native.Mathlib.Omega.{arith}
use lib.Dec.{leb, eqb}
use lib.IntN.{ℤ}
use lib.ListN.{get_or}
use mir.Syntax.{w64}
use mir.Val.{SFits, of_z, to_z}
use borrow.Author.Tests.{leb-true}
use Rattle.std.specs.Result.{is_ok}
use Rattle.std.specs.Prelude.{Err, Ok, Option, Some}
use Rattle.numbers.specs.Ids.{split_of}
use Rattle.sums.proofs.Rules.{both}
use Rattle.document.specs.Refusals.{is_ranked, not_laid_out}
use Rattle.document.specs.declared.refusal.Refusal.{Refusal}
use Rattle.document.specs.Results.{Outcome}
use Rattle.layout.specs.Sizes.{mode_at}
use Rattle.calls.specs.Reading.{shift_ok}
use Rattle.calls.proofs.Shifts.{Shift, chunk_small}
use Rattle.insert_plan.specs.Gate.{admission}

passed : (a b : Bool) → is_ok {T = Unit {0}} {E = Refusal} (cond a (cond b (Err is_ranked) (Ok tt)) (Err not_laid_out)) ≡ true → a ≡ true
passed true b e = refl
passed false b e = absurd cc

-- where the gate let an insert through, and s was read
module _ (t : List ℕ) (r : Outcome) (e : r ≡ admission t) (g : is_ok r ≡ true) (s : ℕ) (f : s ≡ get_or t 0 0) where
  tested : (shift_ok t && leb (mode_at t) 1) ≡ true
  unfolding admission
  tested = passed (shift_ok t && leb (mode_at t) 1) (eqb (mode_at t) 1) (ap is_ok (sym e) ∙ g)

  shift : Shift s
  shift =
      let k = both (shift_ok t) (leb (mode_at t) 1) tested in
      let i = both (leb 9 (get_or t 0 0)) (leb (get_or t 0 0) 25) k.0 in
      record { low = omega (arith, f, leb-true 9 (get_or t 0 0) i.0); high = omega (arith, f, leb-true (get_or t 0 0) 25 i.1) }

  -- what is asked of the id where it goes in
  pub open_split : (z : ℤ) → SFits w64 z → (q : Option (ℕ × ℕ)) → q ≡ split_of s (to_z w64 (of_z w64 z)) → (c o : ℕ) → q ≡ Some (c, o)
      → (9 ≤ s) × (s ≤ 25) × (s ≡ get_or t 0 0) × (c < 2 ^ 62) × (o < 2 ^ s)
  open_split z l q h c o i = let n = chunk_small s z l q h c o shift i in (shift.low, shift.high, f, n.0, n.1)
