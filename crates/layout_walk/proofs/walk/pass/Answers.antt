-- One entry more, or eight that change nothing. Assumes nothing.
use native.Mathlib.Omega.{arith}
use Rattle.sums.proofs.Counts.{byte_le}
use Rattle.layout_walk.proofs.Passes.{seen_none, seen_small, seen_more, seen_eight}
use Rattle.layout_walk.proofs.walk.pass.Goals as goal

pub loop-e-init : goal.loop-e-init
loop-e-init c = (omega arith, seen_none _ _)

pub loop-e-preserved-then-eight_alike : goal.loop-e-preserved-then-eight_alike
loop-e-preserved-then-eight_alike c =
    let a = c.eight_alike.ensures c.if-eight_alike.true in (omega (arith, a.direct), seen_eight _ _ _ _ _ _ _ _ c.loop-e.invariant.1 a)

pub overflow_add-rows : goal.overflow_add-rows
overflow_add-rows c = omega (arith, byte_le c.has_row.result, c.from-rows.ensures, seen_small _ _ _ _ _ _ _ _ c.loop-e.invariant.1)

pub overflow_add-pages : goal.overflow_add-pages
overflow_add-pages c = omega (arith, byte_le c.has_page.result, c.from-pages.ensures, seen_small _ _ _ _ _ _ _ _ c.loop-e.invariant.1)

pub loop-e-preserved : goal.loop-e-preserved
loop-e-preserved c =
    rw (c.from-rows.ensures, c.from-pages.ensures) (
      omega arith,
      seen_more _ _ _ _ _ _ _ _ c.loop-e.invariant.1 (omega (arith, c.over_count.ensures)) _ _ _ _ _ c.place_at-q.ensures c.place_is-ok.ensures c.has_row.ensures c.has_page.ensures
          c.prefix_at-next.ensures,
    )
