-- The search, turn by turn. Assumes nothing.
use mathlib.Core.Path.{◌≡◌, sym, ◌∙◌}
use Prim.Native.Nat.{ℕ, ◌+◌}
use lib.ListN.{get_or}
use Rattle.layout_walk.proofs.Free.{free_here, free_more, free_none}
use Rattle.layout_walk.proofs.owners.first_free.Goals as goal

pub returns-then-at-eq0 : goal.returns-then-at-eq0
returns-then-at-eq0 c =
    let a = c.args in free_here (λ (j : ℕ). get_or a.table.now (a.a + j) 0) a.n c.loop-k.k c.loop-k-test.true (sym c.at.ensures ∙ c.if-at-eq0.true) ∙ c.loop-k.invariant

pub loop-k-preserved : goal.loop-k-preserved
loop-k-preserved c =
    let a = c.args in
    free_more (λ (j : ℕ). get_or a.table.now (a.a + j) 0) a.n c.loop-k.k c.loop-k-test.true (λ (z : get_or a.table.now (a.a + c.loop-k.k) 0 ≡ 0). c.if-at-eq0.false (c.at.ensures ∙ z))
    ∙ c.loop-k.invariant

pub returns : goal.returns
returns c =
    let a = c.args in let l = c.loop-k in free_none (λ (j : ℕ). get_or a.table.now (a.a + j) 0) a.n a.i l.k _ l.auto.k-end c.loop-k-test.false l.invariant c.max.ensures
