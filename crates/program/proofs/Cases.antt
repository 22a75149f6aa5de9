-- Inputs of document 01 and at its edges, and what they say. Assumes nothing.
use mathlib.Core.Path.{◌≡◌, refl}
use mathlib.Core.List.{[], ◌∷◌}
use lib.IntN.{pos, negsuc}
use Rattle.lines.specs.Line.{all_digits, value_from, size_line, positive, negative, id_line}
use Rattle.program.specs.Input.{lines_of, whole, bad, ids_from, read_plan}

-- lines 2, 5, 9, 7, 9, -3, 0
pub example : read_plan (50 ∷ 10 ∷ 53 ∷ 10 ∷ 57 ∷ 10 ∷ 55 ∷ 10 ∷ 57 ∷ 10 ∷ 45 ∷ 51 ∷ 10 ∷ 48 ∷ 10 ∷ []) ≡ whole 2 (pos 5 ∷ pos 9 ∷ pos 7 ∷ pos 9 ∷ negsuc 2 ∷ pos 0 ∷ [])
unfolding read_plan lines_of ids_from size_line id_line positive negative all_digits value_from
example = refl

-- -0 is 0
pub minus_zero : read_plan (49 ∷ 10 ∷ 45 ∷ 48 ∷ 10 ∷ []) ≡ whole 1 (pos 0 ∷ [])
unfolding read_plan lines_of ids_from size_line id_line positive negative all_digits value_from
minus_zero = refl

-- the last newline may be missing
pub no_last_newline : read_plan (49 ∷ 10 ∷ 55 ∷ []) ≡ whole 1 (pos 7 ∷ [])
unfolding read_plan lines_of ids_from size_line id_line positive negative all_digits value_from
no_last_newline = refl

pub empty_input : read_plan [] ≡ bad 1 []
unfolding read_plan lines_of
empty_input = refl

-- an empty line is a line
pub empty_line_two : read_plan (49 ∷ 10 ∷ 10 ∷ []) ≡ bad 2 []
unfolding read_plan lines_of ids_from size_line id_line positive negative all_digits value_from
empty_line_two = refl

-- the lines before a bad one were read
pub bad_third : read_plan (49 ∷ 10 ∷ 55 ∷ 10 ∷ 120 ∷ 10 ∷ 56 ∷ 10 ∷ []) ≡ bad 3 (pos 7 ∷ [])
unfolding read_plan lines_of ids_from size_line id_line positive negative all_digits value_from
bad_third = refl
