-- A count that can be added to a prefix.
use Rattle.std.specs.Prelude.{◌^◌, ◌<◌, Ok, Err}
use Rattle.document.specs.Results.{Amount}

abbrev pub Small : Amount → Type 0
Small (Ok k) = k < 2 ^ 63
Small (Err c) = Unit
