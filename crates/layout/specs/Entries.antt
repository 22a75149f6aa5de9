-- The directory as one run of entries: the D direct ones, then the overflow entries in use.
use Rattle.std.specs.Prelude.{ℕ, ◌+◌, ◌-◌, List, cond, get_or, ltb, eqb}
use Rattle.layout.specs.Sizes.{direct_at, over_at, over_count}
use Rattle.layout.specs.Places.{decoded}
use Rattle.document.specs.declared.sizes.Sizes.{Sizes}
use Rattle.layout.specs.declared.place.Place.{Place}
use Rattle.sums.specs.Sums.{sum_to}

-- how many there are
abbrev pub entries : Sizes → List ℕ → ℕ
entries h t = h.d + over_count t

-- entry e: its chunk id, its word, its prefix
unfoldable pub chunk_at : Sizes → List ℕ → ℕ → ℕ
chunk_at h t e = cond (ltb e h.d) e (get_or t (over_at h (e - h.d)) 0)

unfoldable pub word_at : Sizes → List ℕ → ℕ → ℕ
word_at h t e = get_or t (cond (ltb e h.d) (direct_at e) (over_at h (e - h.d) + 1)) 0

-- where the prefix stands
abbrev pub prefix_place : Sizes → ℕ → ℕ
prefix_place h e = cond (ltb e h.d) (direct_at e + 1) (over_at h (e - h.d) + 2)

unfoldable pub prefix_at : Sizes → List ℕ → ℕ → ℕ
prefix_at h t e = get_or t (prefix_place h e) 0

abbrev pub place_at : Sizes → List ℕ → ℕ → Place
place_at h t e = decoded (word_at h t e)

-- the value beside a key, 0 for a key that is not there
unfoldable pub beside : (ℕ → ℕ) → (ℕ → ℕ) → ℕ → ℕ → ℕ
beside key val n c = sum_to (λ (e : ℕ). cond (eqb (key e) c) (val e) 0) n

-- chunk c's word, 0 where no entry has it, and what it says
unfoldable pub word_of : Sizes → List ℕ → ℕ → ℕ
word_of h t c = beside (chunk_at h t) (word_at h t) (entries h t) c

abbrev pub place_of : Sizes → List ℕ → ℕ → Place
place_of h t c = decoded (word_of h t c)
