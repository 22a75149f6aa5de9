-- Each way through is one of the laws on decoded. Assumes nothing.
use Rattle.layout.proofs.Places.{decoded_absent, decoded_sparse, decoded_dense}
use Rattle.layout.proofs.place.decode.Goals as goal

pub returns-then-w-ge268435456 : goal.returns-then-w-ge268435456
returns-then-w-ge268435456 c = decoded_dense _ c.if-w-ge268435456.true

pub returns-then-w-eq0 : goal.returns-then-w-eq0
returns-then-w-eq0 c = decoded_absent _ c.if-w-eq0.true

pub returns : goal.returns
returns c = decoded_sparse _ c.if-w-eq0.false c.if-w-ge268435456.false
