-- By what the short test finds.
use mathlib.Core.Path.{refl}
use Rattle.std.proofs.lemmas.Result.{err_from_is_err_and}
use Rattle.std.specs.Prelude.{Err, Ok}
use Rattle.lists.proofs.Near.{far_spot}
use Rattle.lists.proofs.spot.far.Goals as goal

pub returns-in_err-word_of : goal.returns-in_err-word_of
returns-in_err-word_of c =
    let p = err_from_is_err_and c.from_residual.result c.from_residual.ensures.1 in
    rw (p.1, p.2) (far_spot c.requires.0 c.args.c (Err _) _ c.in_err-word_of.ensures refl)

pub returns : goal.returns
returns c = far_spot c.requires.0 c.args.c (Ok _) _ c.in_ok-word_of.ensures c.spot_of.ensures
