-- Iteration: a record with the 64 smallest members not below a start, or all if fewer.
use Rattle.std.specs.Prelude.{Bool, true, false, cond, List, ℕ, ◌+◌, ◌-◌, leb, ℤ, pos, replicate}
use Rattle.sums.specs.Ids.{Ids, total, rank}
use Rattle.sums.specs.Members.{nth, nth_from, fill}
use Rattle.document.specs.declared.answer.Listing.{Listing}

-- unused places hold 0
abbrev pub blank : List ℤ
blank = replicate 64 (pos 0)

-- members not below start
abbrev pub left_from : Ids → ℤ → ℕ
left_from P start = total P - rank P start

-- the record of n members from start on
abbrev pub first_of : Ids → ℤ → ℕ → Bool → ℤ → Listing
first_of P start n end next = record { ids = fill blank 0 (nth_from P (rank P start) n); count = n; end = end; next = next; refusal = 0 }

-- the mark is set exactly when no member at or above start is left out; the next start is then the start given, else the last id plus 1
unfoldable pub listing : Ids → ℤ → Listing
listing P start =
    cond (leb (left_from P start) 64)
    (first_of P start (left_from P start) true start)
    (first_of P start 64 false (pos (nth P (rank P start + 63) + 1)))

-- a refusal: every other field is 0
abbrev pub refused_listing : ℕ → Listing
refused_listing n = record { ids = blank; count = 0; end = false; next = pos 0; refusal = n }
