-- What each step asks for, and what it does to a set that follows the layout.
use Rattle.std.specs.Prelude.{◌≡◌, ℕ, ◌+◌, ◌/◌, ◌%◌, ◌≤◌, ◌<◌, List, Bool, false, cond, length, eqb}
use mir.Val.{bool_byte}
use Rattle.sums.specs.Ids.{Ids, count}
use Rattle.layout.specs.Mem.{Mem}
use Rattle.document.specs.Sizes.{top, last_chunk}
use Rattle.layout.specs.Sizes.{wide, head, mode_at, over_count}
use Rattle.layout.specs.Places.{has_page, row_owner, page_owner}
use Rattle.layout.specs.Entries.{place_of}
use Rattle.document.specs.State.{Kind}
use Rattle.layout.specs.Meaning.{holds, kind_of, kinds, ranked}
use Rattle.layout.specs.Follows.{Listed, Follows}
use Rattle.layout.specs.Lowest.{Lowest}
use Rattle.document.specs.declared.sizes.Sizes.{Sizes}
use Rattle.layout.specs.declared.place.Place.{Place}
use Rattle.layout.specs.declared.place.Place.TheVariants.{Absent, Sparse, Dense}

-- an open set that follows the layout, and one of its chunk ids
pub record Open (x : Mem) (c : ℕ) : Type 0 where
  pub follows : Follows x
  pub mode : ranked x ≡ false
  pub chunk : c < last_chunk (head x)

-- room for chunk c's entry: a direct one, or a spare overflow entry
abbrev pub EntryFor : Sizes → List ℕ → ℕ → Type 0
EntryFor h t c = h.d ≤ c → over_count t < h.v

-- the lowest free row for a chunk that is absent, or the chunk's own row
pub data RowFor (h : Sizes) (t : List ℕ) (c r : ℕ) : Type 0 where
  new_row : place_of h t c ≡ Absent → Lowest (row_owner h t) h.r r → EntryFor h t c → RowFor h t c r
  own_row : (l : ℕ) → place_of h t c ≡ Sparse r l → RowFor h t c r

pub record RowedOk (x : Mem) (c r l : ℕ) (row : List ℕ) : Type 0 where
  pub set : Open x c
  pub there : r < (head x).r
  pub some : 1 ≤ l
  pub short : l ≤ (head x).m
  pub long : length row ≡ (head x).m
  pub listed : Listed (head x) row l
  pub came : RowFor (head x) x.table c r

-- the lowest free page for a chunk that is not dense, or the chunk's own page
pub data PageFor (h : Sizes) (t : List ℕ) (c : ℕ) (old : Place) (p : ℕ) : Type 0 where
  new_page : has_page old ≡ false → Lowest (page_owner h t) h.p p → (old ≡ Absent → EntryFor h t c) → PageFor h t c old p
  own_page : old ≡ Dense p → PageFor h t c old p

pub record PagedOk (x : Mem) (c : ℕ) (old : Place) (p : ℕ) (page : List ℕ) : Type 0 where
  pub set : Open x c
  pub old_is : old ≡ place_of (head x) x.table c
  pub there : p < (head x).p
  pub long : length page ≡ wide (head x)
  pub came : PageFor (head x) x.table c old p

-- y is x but for chunk c, which is now at the place q with the offsets os
pub record Becomes (x y : Mem) (c : ℕ) (q : Place) (os : Ids) : Type 0 where
  pub follows : Follows y
  pub head_is : head y ≡ head x
  pub mode_is : mode_at y.table ≡ mode_at x.table
  pub places_is : (i : ℕ) → place_of (head x) y.table i ≡ cond (eqb i c) q (place_of (head x) x.table i)
  pub kinds_is : (i : ℕ) → kinds y i ≡ cond (eqb i c) (kind_of q) (kinds x i)
  pub holds_is : (n : ℕ) → holds y n ≡ cond (eqb (n / top (head x)) c) (os (n % top (head x))) (holds x n)
  pub counts : (g : ℕ → Kind → Bool) →
      count (λ (i : ℕ). g i (kinds y i)) (last_chunk (head x)) + bool_byte (g c (kinds x c)) ≡ count (λ (i : ℕ). g i (kinds x i)) (last_chunk (head x)) + bool_byte (g c (kind_of q))
