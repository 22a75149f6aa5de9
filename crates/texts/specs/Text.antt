-- The program's text: a plan, `bad line N`, `refused C`.
use Rattle.std.specs.Prelude.{List, [], ◌∷◌, ◌++◌, ℕ, zero, suc, ◌*◌, ℤ, pos, negsuc, Ok, Err}
use Rattle.sums.specs.Ids.{Ids, total}
use Rattle.sums.specs.Cuts.{size, parts, End, before, none, Interval, held, part}
use Rattle.document.specs.Plan.{plan_of}
use Rattle.document.specs.Spans.{ids_answer, ranks_answer}
use Rattle.document.specs.declared.plan.Plan.{Plan}
use Rattle.document.specs.declared.plan.Span.{Span}
use Rattle.document.specs.declared.plan.Span.TheVariants.{Between, From}
use Rattle.spell.specs.Spell.{decimal}
use Rattle.document.specs.Results.{Ranked, Spanned}
use Rattle.program.specs.Faults.{Said}
use Rattle.program.specs.declared.Fault.TheVariants.{Line, Call}
use Rattle.document.specs.Refusals.{number}
use Rattle.document.specs.declared.refusal.Refusal.{Refusal}

-- ---- a partition's line

abbrev pub newline : List ℕ
newline = 10 ∷ []

-- a space, and a number
abbrev pub spaced : ℕ → List ℕ
spaced n = (32 ∷ []) ++ decimal n

-- ` min` for the smallest i64: no boundary is negative
abbrev pub end_text : ℤ → List ℕ
end_text (pos n) = spaced n
end_text (negsuc n) = 32 ∷ 109 ∷ 105 ∷ 110 ∷ []

-- low, and high or ` end`
abbrev pub span_text : Span → List ℕ
span_text (Between lo hi) = end_text lo ++ end_text hi
span_text (From lo) = end_text lo ++ (32 ∷ 101 ∷ 110 ∷ 100 ∷ [])

-- of a plan's own partitions none is refused
abbrev pub spanned_text : Spanned → List ℕ
spanned_text (Ok i) = span_text i
spanned_text (Err n) = []

-- first rank and count
abbrev pub ranks_text : Ranked → List ℕ
ranks_text (Ok r) = spaced r.first ++ spaced r.count
ranks_text (Err n) = []

-- number, low, high, first rank, count
abbrev pub part_text : Plan → List ℤ → ℕ → List ℕ
part_text p bs k = decimal k ++ (spanned_text (ids_answer p bs k) ++ (ranks_text (ranks_answer p k) ++ newline))

-- ---- the plan

-- `plan`, members and partitions
abbrev pub head_text : Plan → List ℕ
head_text p = (112 ∷ 108 ∷ 97 ∷ 110 ∷ []) ++ (spaced p.total ++ (spaced p.partitions ++ newline))

-- partitions 0 to n - 1
unfoldable pub parts_text : Plan → List ℤ → ℕ → List ℕ
parts_text p bs zero = []
parts_text p bs (suc k) = parts_text p bs k ++ part_text p bs k

abbrev pub plan_text : Plan → List ℤ → List ℕ
plan_text p bs = head_text p ++ parts_text p bs p.partitions

-- ---- the plan of a plain set

abbrev pub high_text : End → List ℕ
high_text (before z) = end_text z
high_text none = 32 ∷ 101 ∷ 110 ∷ 100 ∷ []

abbrev pub interval_text : Interval → List ℕ
interval_text i = end_text i.low ++ high_text i.high

-- part k of the set: its ids, its first rank, its members
abbrev pub set_part_text : Ids → ℕ → ℕ → List ℕ
set_part_text P S k = decimal k ++ (interval_text (part P S k) ++ ((spaced (k * size S) ++ spaced (held P (part P S k))) ++ newline))

unfoldable pub set_parts_text : Ids → ℕ → ℕ → List ℕ
set_parts_text P S zero = []
set_parts_text P S (suc k) = set_parts_text P S k ++ set_part_text P S k

abbrev pub set_text : Ids → ℕ → List ℕ
set_text P S = head_text (plan_of (total P) S) ++ set_parts_text P S (parts (total P) S)

-- ---- faults

abbrev pub fault_text : List ℕ → ℕ → List ℕ
fault_text words n = words ++ (spaced n ++ newline)

abbrev pub bad_text : ℕ → List ℕ
bad_text n = fault_text (98 ∷ 97 ∷ 100 ∷ 32 ∷ 108 ∷ 105 ∷ 110 ∷ 101 ∷ []) n

abbrev pub refused_text : Refusal → List ℕ
refused_text c = fault_text (114 ∷ 101 ∷ 102 ∷ 117 ∷ 115 ∷ 101 ∷ 100 ∷ []) (number c)

-- ---- what the program writes

-- only the plan, only `bad line N`, only `refused C`
abbrev pub said_text : Said → List ℤ → List ℕ
said_text (Ok p) bs = plan_text p bs
said_text (Err (Line n)) bs = bad_text n
said_text (Err (Call c)) bs = refused_text c

-- ---- line by line

abbrev pub first_text : Said → List ℕ
first_text (Ok p) = head_text p
first_text (Err (Line n)) = bad_text n
first_text (Err (Call c)) = refused_text c

-- lines after the first
abbrev pub line_count : Said → ℕ
line_count (Ok p) = p.partitions
line_count (Err (Line n)) = 0
line_count (Err (Call c)) = 0

abbrev pub line_text : Said → List ℤ → ℕ → List ℕ
line_text (Ok p) bs k = part_text p bs k
line_text (Err f) bs k = []

-- lines 0 to n - 1 of them
unfoldable pub lines_text : Said → List ℤ → ℕ → List ℕ
lines_text s bs zero = []
lines_text s bs (suc k) = lines_text s bs k ++ line_text s bs k
