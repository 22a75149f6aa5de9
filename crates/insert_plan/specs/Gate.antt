-- Whether a set takes inserts.
use Rattle.std.specs.Prelude.{ℕ, List, cond, ◌&&◌, leb, eqb, Ok, Err}
use Rattle.document.specs.Refusals.{not_laid_out, is_ranked}
use Rattle.document.specs.Results.{Outcome}
use Rattle.layout.specs.Sizes.{mode_at}
use Rattle.calls.specs.Reading.{shift_ok}

-- 3, then 4; else the set is open
unfoldable pub admission : List ℕ → Outcome
admission t = cond (shift_ok t && leb (mode_at t) 1) (cond (eqb (mode_at t) 1) (Err is_ranked) (Ok tt)) (Err not_laid_out)
