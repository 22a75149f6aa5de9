-- The short test: what a call on one chunk looks at, defined on any memory.
use Rattle.std.specs.Prelude.{ℕ, zero, suc, ◌+◌, ◌*◌, ◌-◌, ◌/◌, List, Bool, true, cond, ◌&&◌, length, get_or, leb, ltb, eqb, Ok, Err}
use Rattle.document.specs.declared.sizes.Sizes.{Sizes}
use Rattle.layout.specs.Sizes.{wide, direct_at, over_start, header_at, over_count}
use Rattle.layout.specs.Places.{decoded}
use Rattle.layout.specs.declared.place.Place.{Place}
use Rattle.layout.specs.declared.place.Place.TheVariants.{Absent, Sparse, Dense}
use Rattle.document.specs.Refusals.{not_laid_out}
use Rattle.layout.specs.Found.{Spotted, Word}
use Rattle.layout.specs.declared.find.Spot.TheVariants.{Nowhere, Page, Row}

-- the first of n rising keys that is not below c, by halving lo to hi, turns times at most
unfoldable pub lower_key : ℕ → (ℕ → ℕ) → ℕ → ℕ → ℕ → ℕ
lower_key zero key c lo hi = lo
lower_key (suc turns) key c lo hi =
    cond (ltb lo hi)
    (cond (ltb (key (lo + (hi - lo) / 2)) c) (lower_key turns key c (lo + (hi - lo) / 2 + 1) hi) (lower_key turns key c lo (lo + (hi - lo) / 2)))
    lo

-- the overflow entries begin at a, and there are n of them
abbrev pub key_at : List ℕ → ℕ → ℕ → ℕ
key_at t a j = get_or t (a + 3 * j) 0

abbrev pub over_place : List ℕ → ℕ → ℕ → ℕ → ℕ
over_place t a n c = lower_key n (key_at t a) c 0 n

abbrev pub over_word : List ℕ → ℕ → ℕ → ℕ → ℕ → ℕ
over_word t a n c k = cond (ltb k n && eqb (key_at t a k) c) (get_or t (a + 3 * k + 1) 0) 0

-- chunk c's word in a table with d direct entries
abbrev pub direct_word : List ℕ → ℕ → Word
direct_word t c = cond (ltb (direct_at c) (length t)) (Ok (get_or t (direct_at c) 0)) (Err not_laid_out)

-- the entries in use are at most the sizes' and lie inside it
abbrev pub entries_in : List ℕ → ℕ → Bool
entries_in t d = leb d 262144 && leb (over_count t) 65536 && leb (over_start d + 3 * over_count t) (length t) && leb (over_count t) (header_at t).v

abbrev pub overflow_word : List ℕ → ℕ → ℕ → Word
overflow_word t d c = cond (entries_in t d) (Ok (over_word t (over_start d) (over_count t) c (over_place t (over_start d) (over_count t) c))) (Err not_laid_out)

unfoldable pub word_in : List ℕ → ℕ → Word
word_in t c = cond (ltb c (header_at t).d) (direct_word t c) (overflow_word t (header_at t).d c)

-- a place's part of its pool
abbrev pub spot_on : Sizes → Place → Spotted
spot_on h Absent = (Ok Nowhere)
spot_on h (Sparse r l) = Ok (Row (r * h.m) h.m l)
spot_on h (Dense p) = Ok (Page (p * wide h) (wide h))

-- its row or page is one of the sizes' and lies inside its slice, pages and rows being so long
abbrev pub spot_fits : Sizes → ℕ → ℕ → Place → Bool
spot_fits h pages rows Absent = true
spot_fits h pages rows (Sparse r l) = ltb r h.r && leb h.m 1024 && leb l h.m && leb (r * h.m + h.m) rows
spot_fits h pages rows (Dense p) = ltb p h.p && leb (p * wide h + wide h) pages

abbrev pub spot_at : Sizes → ℕ → ℕ → Place → Spotted
spot_at h pages rows q = cond (spot_fits h pages rows q) (spot_on h q) (Err not_laid_out)

unfoldable pub spot_of : Sizes → ℕ → ℕ → ℕ → Spotted
spot_of h pages rows w = spot_at h pages rows (decoded w)
