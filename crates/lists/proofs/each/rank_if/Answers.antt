-- Is it there, and then where.
use mathlib.Core.Path.{◌≡◌, sym, ◌∙◌}
use Prim.Native.Nat.{ℕ}
use native.Mathlib.Omega.{arith}
use Rattle.numbers.specs.Ids.{split_of}
use Rattle.numbers.proofs.Signs.{hop}
use Rattle.layout.specs.Mem.{mem}
use Rattle.lists.specs.Lists.{get_all, rank_all, one_by}
use Rattle.lists.proofs.AfterWalk.{rank_if_none, rank_if_some}
use Rattle.lists.proofs.Near.{lies_small, got_negative}
use Rattle.lists.proofs.each.rank_if.Goals as goal

pub returns-in_default : goal.returns-in_default
returns-in_default c =
    let a = c.args in
    rank_if_none c.requires.0.walks c.requires.1 a.id (sym (got_negative c.requires.0 a.id (c.in_default.ensures ∙ hop (split_of a.h.s) a.id c.ranges.id)))

pub has-requires : goal.has-requires
has-requires c =
    let a = c.args in (c.requires.0, c.in-Some.ensures, (lies_small c.requires.0 a.id c.ranges.id _ _ (c.in-Some.ensures ∙ hop (split_of a.h.s) a.id c.ranges.id)).0)

pub returns-else-has : goal.returns-else-has
returns-else-has c =
    let a = c.args in rank_if_none c.requires.0.walks c.requires.1 a.id (sym (c.if-has.ensures ∙ hop (one_by (mem a.pages.now a.rows.now a.blocks.now a.table.now) get_all) a.id c.ranges.id))

pub rank_in-requires : goal.rank_in-requires
rank_in-requires c =
    let a = c.args in (c.requires.0, c.requires.1, c.in-Some.ensures, (lies_small c.requires.0 a.id c.ranges.id _ _ (c.in-Some.ensures ∙ hop (split_of a.h.s) a.id c.ranges.id)).0)

pub returns-then-has : goal.returns-then-has
returns-then-has c =
    let a = c.args in
    let x = mem a.pages.now a.rows.now a.blocks.now a.table.now in
    let one = c.if-has.ensures ∙ hop (one_by x get_all) a.id c.ranges.id in
    c.rank_in.ensures ∙ hop (one_by x rank_all) a.id c.ranges.id ∙ rank_if_some c.requires.0.walks c.requires.1 a.id (λ e. let no : ◌≡◌ {A = ℕ} 1 0 = one ∙ e in omega arith)
