-- Open, ranked, or memory that a call finds bad: by a look at two header words, or after a walk.
use Rattle.std.specs.Prelude.{ℕ, List, Bool, cond, ◌&&◌, leb, eqb, Result, Ok, Err}
use Rattle.layout.specs.Mem.{Mem}
use Rattle.layout.specs.Sizes.{mode_at}
use Rattle.layout.specs.Tests.{walked}
use Rattle.calls.specs.Reading.{shift_ok}
use Rattle.document.specs.Refusals.{not_laid_out}
use Rattle.document.specs.declared.refusal.Refusal.{Refusal}
use Rattle.ranked.specs.declared.mode.Form.{Form}
use Rattle.ranked.specs.declared.mode.Form.TheVariants.{Open, Ranked}

abbrev pub form_if : Bool → ℕ → Result Form Refusal
form_if good m = cond good (cond (eqb m 1) (Ok Ranked) (Ok Open)) (Err not_laid_out)

unfoldable pub form_in : List ℕ → Result Form Refusal
form_in t = form_if (shift_ok t && leb (mode_at t) 1) (mode_at t)

unfoldable pub form_of : Mem → Result Form Refusal
form_of x = form_if (walked x) (mode_at x.table)
