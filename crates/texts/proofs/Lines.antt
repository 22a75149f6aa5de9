-- Laws of the program's text: line by line it is the whole. Assumes nothing.
use mathlib.Core.Path.{◌≡◌, refl, ap}
use mathlib.Core.List.{List, ◌++◌, append-nil}
use Prim.Native.Nat.{ℕ, zero, suc}
use lib.IntN.{ℤ}
use Rattle.document.specs.declared.plan.Plan.{Plan}
use Rattle.texts.specs.Text.{head_text, parts_text, part_text, bad_text, refused_text, said_text, first_text, line_count, lines_text}
use Rattle.program.specs.Faults.{Said}
use Rattle.program.specs.declared.Fault.TheVariants.{Line, Call}
use Rattle.std.specs.Prelude.{Err, Ok}

plan_lines : (p : Plan) (bs : List ℤ) (n : ℕ) → lines_text (Ok p) bs n ≡ parts_text p bs n
unfolding lines_text parts_text
plan_lines p bs zero = refl
plan_lines p bs (suc k) = ap (λ (t : List ℕ). t ++ part_text p bs k) (plan_lines p bs k)

pub line_by_line : (s : Said) (bs : List ℤ) → first_text s ++ lines_text s bs (line_count s) ≡ said_text s bs
unfolding lines_text
line_by_line (Ok p) bs = ap (λ (t : List ℕ). head_text p ++ t) (plan_lines p bs p.partitions)
line_by_line (Err (Line n)) bs = append-nil (bad_text n)
line_by_line (Err (Call c)) bs = append-nil (refused_text c)
