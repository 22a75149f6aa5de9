-- What a union answers past the walks over both sides.
use Rattle.std.specs.Prelude.{cond, Err}
use Rattle.document.specs.Refusals.{is_ranked, sizes_differ}
use Rattle.document.specs.Union.{Join, same_shape}
use Rattle.layout.specs.Mem.{Mem}
use Rattle.layout.specs.Sizes.{head}
use Rattle.unions.specs.Union.{barred_by, judged}
use Rattle.document.specs.Results.{Outcome}

-- 4, then 10, then 6, 7, 8
unfoldable pub plan_walked : Mem → Mem → Join → Outcome
plan_walked x y j = cond (barred_by x y j) (Err is_ranked) (cond (same_shape (head x) (head y)) (judged x y) (Err sizes_differ))
