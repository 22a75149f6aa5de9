-- What was written leaves every entry's word. Assumes nothing.
use mathlib.Core.Path.{◌∙◌}
use Prim.Native.Nat.{◌+◌}
use native.Mathlib.Omega.{arith}
use Rattle.sums.specs.Sums.{sum_to}
use Rattle.sums.proofs.Sums.{sum_next}
use Rattle.rank_counts.specs.Counts.{entry_size}
use Rattle.rank_counts.proofs.Writing.{prefixed_next, inside_kept, size_kept, sizes_small}
use Rattle.rank_counts.proofs.prefixes.put_prefixes.Goals as goal

pub entry_size-k-requires : goal.entry_size-k-requires
entry_size-k-requires c =
    let l = c.loop-e in (c.requires.0, omega arith, c.requires.2, c.requires.3, inside_kept _ _ _ _ _ l.invariant.0 l.e (c.requires.4.at l.e (omega arith)))

pub overflow_add-sum : goal.overflow_add-sum
overflow_add-sum c =
    let l = c.loop-e in
    let a = c.args in
    let k = c.entry_size-k.ensures ∙ size_kept _ _ _ _ _ l.invariant.0 a.pages.now l.e in
    omega (arith, k, sum_next (entry_size a.h a.pages.now a.table.now) l.e, sizes_small a.h a.pages.now a.table.now c.requires.0 c.requires.1 c.requires.4 (l.e + 1) (omega arith))

pub loop-e-preserved : goal.loop-e-preserved
loop-e-preserved c =
    let l = c.loop-e in
    let a = c.args in
    let k = c.entry_size-k.ensures ∙ size_kept _ _ _ _ _ l.invariant.0 a.pages.now l.e in
    let f = sum_to (entry_size a.h a.pages.now a.table.now) in
    (cc (prefixed_next a.h a.table.now f l.e), cc (k, sum_next (entry_size a.h a.pages.now a.table.now) l.e))
