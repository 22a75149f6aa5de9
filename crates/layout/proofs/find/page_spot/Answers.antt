-- The tests are those on a page. Assumes nothing.
use native.Mathlib.Omega.{arith}
use mathlib.Core.Path.{ap}
use Prim.Native.Nat.{ℕ, ◌-◌}
use Rattle.layout.proofs.Spots.{page_no, page_fits, page_there}
use Rattle.std.proofs.lemmas.Bool.{not_from_false, not_from_true}
use Rattle.layout.proofs.find.page_spot.Goals as goal

pub returns-then-not-p-pages : goal.returns-then-not-p-pages
returns-then-not-p-pages c =
    let a = c.args in
    page_no a.table.now a.pages a.p _ _ _ (ap (λ (i : ℕ). i - 6) c.shift-k.ensures) c.pages.ensures
    c.high.ensures (not_from_false _ c.if-not-p-pages.true)

pub shifted-requires : goal.shifted-requires
shifted-requires c =
    let a = c.args in
    let l = page_fits a.table.now a.pages a.p _ _ _ (ap (λ (i : ℕ). i - 6) c.shift-k.ensures)
    c.pages.ensures c.high.ensures (not_from_true _ c.if-not-p-pages.false) in
    let s = c.shift-k.ensures in
    let q = c.requires.1 in
    let g = c.well_formed in
    (omega arith, omega arith)

pub returns : goal.returns
returns c =
    let a = c.args in
    page_there a.table.now a.pages a.p _ _ _ (ap (λ (i : ℕ). i - 6) c.shift-k.ensures)
    c.pages.ensures c.high.ensures (not_from_true _ c.if-not-p-pages.false) _ _
    c.shifted.ensures c.pow2.ensures
