-- What each way through `plan` leaves, from what its calls told it. Assumes nothing.
use mathlib.Core.Path.{◌≡◌, refl, sym, ap, subst, ◌∙◌}
use mathlib.Core.Bool.{Bool, true, false}
use mathlib.Core.List.{List}
use Prim.Native.Nat.{ℕ, zero, suc, ◌-◌, ◌*◌, ◌^◌, ◌≤◌, ◌<◌}
use native.Mathlib.Omega.{arith}
use lib.IntN.{ℤ}
use lib.ListN.{length}
use borrow.Author.Tests.{eq-eqb, ne_eqb}
use Rattle.sums.specs.Cuts.{size, parts}
use Rattle.sums.proofs.Rounding.{parts_tight}
use Rattle.layout.specs.Mem.{Mem}
use Rattle.layout.specs.Sizes.{mode_at, total_at}
use Rattle.layout.specs.Meaning.{ranked}
use Rattle.layout.specs.Tests.{walked}
use Rattle.layout.proofs.Tests.{walked_of}
use Rattle.cuts.specs.Plan.{Ready, bounds_to, cut, plan_by}
use Rattle.cuts.specs.Promise.{Plans}
use Rattle.cuts.proofs.Plans.{plan_bad, plan_open, plan_short, plan_made, plans_by}
use Rattle.document.specs.Refusals.{is_open, no_room, not_laid_out}
use Rattle.document.specs.Results.{Planning}
use Rattle.std.specs.Prelude.{Err, Ok}

-- the last boundary's rank fits
pub last_fits : (t slots n : ℕ) → n ≡ parts t slots → t < 2 ^ 64 → (n - 1) * size slots < 2 ^ 64
last_fits t slots n e l = go (n - 1) refl
  where
    go : (k : ℕ) → n - 1 ≡ k → k * size slots < 2 ^ 64
    go zero q = omega arith
    go (suc k) q = let h = parts_tight t slots (suc k) (omega arith) (omega arith) in omega arith

module _ (x : Mem) (slots : ℕ) (bs : List ℤ) where
  leaves : (a : Planning) (cs : List ℤ) → plan_by x slots bs ≡ cut a cs → Plans x slots bs a cs
  leaves a cs e = record { by = sym e; says = plans_by slots bs a cs (sym e) }

  pub leaves_bad : (ok : Bool) → ok ≡ walked x → ok ≡ false → Plans x slots bs (Err not_laid_out) bs
  leaves_bad ok e n = leaves (Err not_laid_out) bs (plan_bad x slots bs (sym e ∙ n))

  module _ (ok : Bool) (e : ok ≡ walked x) (y : ok ≡ true) (m : ℕ) (em : m ≡ mode_at x.table) where
    pub leaves_open : (m ≡ 1 → ⊥) → Plans x slots bs (Err is_open) bs
    leaves_open n = leaves (Err is_open) bs (plan_open x slots bs (sym e ∙ y) (ne_eqb (mode_at x.table) 1 (λ (q : mode_at x.table ≡ 1). n (em ∙ q))))

    module _ (one : m ≡ 1) (t n : ℕ) (et : t ≡ total_at x.table) (en : n ≡ parts t slots) where
      is_ranked : ranked x ≡ true
      is_ranked = eq-eqb (mode_at x.table) 1 (sym em ∙ one)

      pub is_ready : Ready x
      is_ready = record { walks = (walked_of x).sound (sym e ∙ y); mode = is_ranked }

      in_all : n ≡ parts (total_at x.table) slots
      in_all = en ∙ ap (λ (k : ℕ). parts k slots) et

      pub leaves_short : length bs < n - 1 → Plans x slots bs (Err no_room) bs
      leaves_short l = leaves (Err no_room) bs (plan_short x slots bs (sym e ∙ y) is_ranked (subst (λ (k : ℕ). length bs < k - 1) in_all l))

      pub leaves_made : (g : ℕ) (cs : List ℤ) → n - 1 ≤ length bs → g ≡ size slots → cs ≡ bounds_to x slots bs (n - 1) → Plans x slots bs (Ok (record { total = t; slots = g; partitions = n })) cs
      leaves_made g cs l eg ec =
          leaves (Ok (record { total = t; slots = g; partitions = n })) cs
          (plan_made x slots bs (sym e ∙ y) is_ranked (subst (λ (k : ℕ). k - 1 ≤ length bs) in_all l) ∙ (let h = in_all in cc))
