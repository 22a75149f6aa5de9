-- The budgets of case m. Assumes nothing.
use mathlib.Core.Path.{◌≡◌, refl}
use mathlib.Core.List.{[], ◌∷◌, map}
use Prim.Native.Nat.{◌-◌, ◌^◌}
use Rattle.numbers.specs.Budget.{slots_for_budget}

-- document 01, case m
pub budget_cases :
    map slots_for_budget (0 ∷ 8 ∷ 33 ∷ (2 ^ 64 - 1) ∷ []) ≡ 1 ∷ 1 ∷ 4 ∷ 279_496_122_328_932_600 ∷ []
budget_cases = refl
