-- The first part of the names that is the word, or none. Assumes nothing.
use Rattle.std.proofs.Common.{rules, tests}
use Rattle.std.proofs.lemmas.Iterator.{IsFirst-from_position}
use Rattle.std.proofs.lemmas.Iterator.Splits.{YieldsList-from_slice_split}
use Rattle.std.proofs.option.Match.{if_some, if_none}
use Rattle.lines.proofs.Splits.{is_space, Yes, No, names_some, names_none}
use Rattle.lines.proofs.words.place.Goals as goal

pub returns-in-Some : goal.returns-in-Some
returns-in-Some c =
    let it = c.args.it.now in
    let names = c.args.names.now in
    names_some it names c.in-Some.i (if_some _ _ _ c.in-Some.is (IsFirst-from_position _ _ _ (Yes it names) (No it names) c.position.ensures.ran (YieldsList-from_slice_split _ is_space names c.split.ensures.rest c.split.ensures.done c.split.ensures.closure (λ x b q k. search (rules, tests))) (λ x q k. search (rules, tests)) (λ x q k. search (rules, tests))))

pub returns-in-None : goal.returns-in-None
returns-in-None c =
    let it = c.args.it.now in
    let names = c.args.names.now in
    names_none it names c.count.result c.count.ensures (if_none _ _ c.in-None.is (IsFirst-from_position _ _ _ (Yes it names) (No it names) c.position.ensures.ran (YieldsList-from_slice_split _ is_space names c.split.ensures.rest c.split.ensures.done c.split.ensures.closure (λ x b q k. search (rules, tests))) (λ x q k. search (rules, tests)) (λ x q k. search (rules, tests))))
