use mathlib.Core.Bool.{not}
use native.Mathlib.Omega.{arith}
use lib.Dec.{eqb}
use Rattle.std.proofs.Common.{rules, tests}
use Rattle.std.proofs.lemmas.Bool.Decides.{nat_tests}
use Rattle.std.proofs.lemmas.Iterator.{YieldsList-from_slice}
use Rattle.std.proofs.lemmas.Iterator.Search.{any_from_yields_List}
use Rattle.dense.proofs.Scans.{between, any_empty, any_one, any_parts}
use Rattle.dense.proofs.any_in.Goals as goal
use Rattle.dense.proofs.any_in.Goals.{then-above-ne0, else-above-ne0}

pub returns-then-hi-lo : goal.returns-then-hi-lo
returns-then-hi-lo c = any_empty c.args.words.now c.args.lo c.args.hi c.if-hi-lo.true

pub returns-then-first-last : goal.returns-then-first-last
returns-then-first-last c =
    let a = c.args in
    any_one a.words.now a.lo a.hi c.if-hi-lo.false c.if-first-last.true

pub returns-then-any : goal.returns-then-any
returns-then-any c =
    let a = c.args in
    let e = any_parts a.words.now a.lo a.hi (omega arith) c.requires (λ i. (c.type_inv.words i).fits) in
    elim c.if-above-ne0.branch [
      | then-above-ne0 w ↦ grind (arith, nat_tests)
      | else-above-ne0 w ↦
          let f = any_from_yields_List (λ w. not (eqb w 0)) _ _ w.any.result w.any.ensures.ran (YieldsList-from_slice (between a.words.now a.lo a.hi) (cc)) (λ x b q k. search (rules, tests)) in
          grind (arith, nat_tests)
    ]

pub returns-else-any : goal.returns-else-any
returns-else-any c =
    let a = c.args in
    let e = any_parts a.words.now a.lo a.hi (omega arith) c.requires (λ i. (c.type_inv.words i).fits) in
    elim c.if-above-ne0.branch [
      | then-above-ne0 w ↦ grind (arith, nat_tests)
      | else-above-ne0 w ↦
          let f = any_from_yields_List (λ w. not (eqb w 0)) _ _ w.any.result w.any.ensures.ran (YieldsList-from_slice (between a.words.now a.lo a.hi) (cc)) (λ x b q k. search (rules, tests)) in
          grind (arith, nat_tests)
    ]
