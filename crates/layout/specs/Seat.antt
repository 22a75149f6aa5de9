-- A chunk's word with the members of the chunks before it, defined on any memory.
use Rattle.std.specs.Prelude.{ℕ, ◌+◌, ◌*◌, List, cond, length, get_or, ltb, eqb, Ok, Err}
use Rattle.layout.specs.Sizes.{direct_at, over_start, header_at, over_count, total_at}
use Rattle.layout.specs.Short.{key_at, over_place, entries_in}
use Rattle.document.specs.Refusals.{not_laid_out}
use Rattle.layout.specs.Found.{Seat}

-- chunk c's word (0: absent) and the members of the chunks before it
abbrev pub direct_seat : List ℕ → ℕ → Seat
direct_seat t c = cond (ltb (direct_at c + 1) (length t)) (Ok (get_or t (direct_at c) 0, get_or t (direct_at c + 1) 0)) (Err not_laid_out)

-- overflow entry k of n, from a on: the first whose id is not below c
abbrev pub over_seat : List ℕ → ℕ → ℕ → ℕ → ℕ → Seat
over_seat t a n c k =
    cond (ltb k n)
    (Ok ((cond (eqb (key_at t a k) c) (get_or t (a + 3 * k + 1) 0) 0), (get_or t (a + 3 * k + 2) 0)))
    (Ok (0, (total_at t)))

abbrev pub overflow_seat : List ℕ → ℕ → ℕ → Seat
overflow_seat t d c = cond (entries_in t d) (over_seat t (over_start d) (over_count t) c (over_place t (over_start d) (over_count t) c)) (Err not_laid_out)

unfoldable pub seat_in : List ℕ → ℕ → Seat
seat_in t c = cond (ltb c (header_at t).d) (direct_seat t c) (overflow_seat t (header_at t).d c)
