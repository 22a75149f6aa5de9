-- Each way through is one of the laws on the entry that the search found. Assumes nothing.
use Rattle.layout.proofs.Finds.{word_out, word_other, word_own}
use Rattle.layout.proofs.find.over_word.Goals as goal

pub returns-then-n-k : goal.returns-then-n-k
returns-then-n-k c = let a = c.args in word_out a.table.now a.a a.n a.c a.k c.if-n-k.true

pub returns-then-at-c : goal.returns-then-at-c
returns-then-at-c c = let a = c.args in word_other a.table.now a.a a.n a.c a.k c.if-n-k.false _ c.at.ensures c.if-at-c.true

pub returns : goal.returns
returns c =
    let a = c.args in word_own a.table.now a.a a.n a.c a.k c.if-n-k.false _ c.at.ensures _ c.if-at-c.false c.at-2.ensures
