-- The refusal numbers, each with its sentence.
use Rattle.std.specs.Prelude.{ℕ, ◌≤◌, ◌<◌}
use Rattle.document.specs.declared.refusal.Refusal.{Refusal}
use Rattle.document.specs.declared.refusal.Refusal.TheVariants.{OutsideSizes, TooShort, NotLaidOut, IsRanked, IsOpen, OverflowFull, RowsFull, PagesFull, NotPrepared, SizesDiffer, NoRoom, NoPartition}

-- their numbers
abbrev pub number : Refusal → ℕ
number OutsideSizes = 1
number TooShort = 2
number NotLaidOut = 3
number IsRanked = 4
number IsOpen = 5
number OverflowFull = 6
number RowsFull = 7
number PagesFull = 8
number NotPrepared = 9
number SizesDiffer = 10
number NoRoom = 11
number NoPartition = 12

-- a number of the table: 0 is none
abbrev pub Numbered : ℕ → Type 0
Numbered n = (0 < n) × (n ≤ 12)

-- set-up: a number outside the table of sizes
abbrev pub outside_sizes : Refusal
outside_sizes = OutsideSizes

-- set-up: a lent slice shorter than required
abbrev pub too_short : Refusal
too_short = TooShort

-- memory is not as the layout says; a plan record with S = 0 or the wrong number of partitions, or boundaries shorter than it needs
abbrev pub not_laid_out : Refusal
not_laid_out = NotLaidOut

-- insert of either sort, preparation, union into, or ranking of a ranked set; `merge` from one
abbrev pub is_ranked : Refusal
is_ranked = IsRanked

-- rank, `rank_if_set`, `total_count`, planning or leaving the ranked form on an open set
abbrev pub is_open : Refusal
is_open = IsOpen

-- more overflow entries needed than V
abbrev pub overflow_full : Refusal
overflow_full = OverflowFull

-- more sparse chunks needed than R
abbrev pub rows_full : Refusal
rows_full = RowsFull

-- more dense chunks needed than P
abbrev pub pages_full : Refusal
pages_full = PagesFull

-- prepared insert: id negative, chunk absent or sparse
abbrev pub not_prepared : Refusal
not_prepared = NotPrepared

-- union of sets whose s or m differ
abbrev pub sizes_differ : Refusal
sizes_differ = SizesDiffer

-- planning: partitions minus 1 exceeds the room
abbrev pub no_room : Refusal
no_room = NoRoom

-- partition number not below the partitions
abbrev pub no_partition : Refusal
no_partition = NoPartition
