-- What an accepted union has found, on any two memories. Assumes nothing.
use mathlib.Core.Path.{◌≡◌, refl}
use mathlib.Core.Bool.{Bool, true, false, cond, ◌&&◌, ◌||◌}
use Rattle.sums.proofs.Rules.{both}
use Rattle.document.specs.Refusals.{not_laid_out, is_ranked, sizes_differ}
use Rattle.document.specs.Union.{Join, merge_from, merge, same_shape}
use Rattle.layout.specs.Mem.{Mem}
use Rattle.layout.specs.Sizes.{head}
use Rattle.layout.specs.Meaning.{ranked}
use Rattle.layout.specs.Tests.{Walked, walked}
use Rattle.layout.proofs.Tests.{walked_of}
use Rattle.unions.specs.Union.{judged, barred_by, union_plan}
use Rattle.std.specs.Prelude.{Err, Ok}

pub record Accepted (x y : Mem) : Type 0 where
  pub walks : Walked x (head x)
  pub source_walks : Walked y (head y)
  pub mode : ranked x ≡ false
  pub same : same_shape (head x) (head y) ≡ true
  pub room : judged x y ≡ Ok tt

-- neither call goes into a ranked set
open_of : (x y : Mem) (j : Join) → barred_by x y j ≡ false → ranked x ≡ false
open_of x y merge_from e = e
open_of x y merge e = go (ranked x) e
  where
    go : (b : Bool) → (b || ranked y) ≡ false → b ≡ false
    go true e = absurd cc
    go false e = refl

pub accepted : (x y : Mem) (j : Join) → union_plan x y j ≡ Ok tt → Accepted x y
unfolding union_plan
accepted x y j = go (walked x && walked y) refl (barred_by x y j) refl (same_shape (head x) (head y)) refl
  where
    go : (a : Bool) → (walked x && walked y) ≡ a → (b : Bool) → barred_by x y j ≡ b → (d : Bool) → same_shape (head x) (head y) ≡ d
        → cond a (cond b (Err is_ranked) (cond d (judged x y) (Err sizes_differ))) (Err not_laid_out) ≡ Ok tt → Accepted x y
    go true p false q true r e =
        let g = both (walked x) (walked y) p in
        record { walks = (walked_of x).sound g.0; source_walks = (walked_of y).sound g.1; mode = open_of x y j q; same = r; room = e }
    go true p false q false r e = absurd cc
    go true p true q d r e = absurd cc
    go false p b q d r e = absurd cc
