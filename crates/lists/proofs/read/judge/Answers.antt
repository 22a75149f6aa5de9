-- By what the walk found, then by the mode.
use Rattle.layout.specs.Mem.{mem}
use Rattle.lists.specs.Lists.{rank_all}
use Rattle.lists.proofs.Outcomes.{answers_bad, answers_open, answers_ranked}
use Rattle.lists.proofs.read.judge.Goals as goal

pub returns-then-not-walk : goal.returns-then-not-walk
returns-then-not-walk c =
    answers_bad ((mem c.args.pages.now c.args.rows.now c.args.blocks.now c.args.table.now)) _ c.walk.ensures rank_all c.if-not-walk.true

pub returns-then-mode-ne-RANKED : goal.returns-then-mode-ne-RANKED
returns-then-mode-ne-RANKED c =
    answers_open ((mem c.args.pages.now c.args.rows.now c.args.blocks.now c.args.table.now)) _ c.walk.ensures c.if-not-walk.false _ c.mode.ensures c.if-mode-ne-RANKED.true

pub returns : goal.returns
returns c =
    answers_ranked ((mem c.args.pages.now c.args.rows.now c.args.blocks.now c.args.table.now)) _ c.walk.ensures c.if-not-walk.false _ c.mode.ensures c.if-mode-ne-RANKED.false
