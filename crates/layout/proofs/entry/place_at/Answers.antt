-- The entry's word, decoded. Assumes nothing.
use mathlib.Core.Path.{◌∙◌, ap}
use Rattle.layout.specs.Places.{decoded}
use Rattle.layout.proofs.entry.place_at.Goals as goal

pub returns : goal.returns
returns c = c.decode.ensures ∙ ap decoded c.word_at.ensures
