-- Writes to the table and to parts of the pools. Nothing above has an address.
use Rattle.std.specs.Prelude.{ℕ, ◌+◌, ◌*◌, ◌-◌, min, List, [], ◌∷◌, ◌++◌, cond, ◌&&◌, length, get_or, set, take, drop, leb, ltb, eqb}
use Rattle.layout.specs.Sizes.{wide, direct_at, over_start, over_at, row_owners_at, page_owners_at, over_count}
use Rattle.layout.specs.Entries.{prefix_place}
use Rattle.layout.specs.Short.{over_place}
use Rattle.document.specs.declared.sizes.Sizes.{Sizes}

-- xs with ys in place of its n elements from a
unfoldable pub put_part : List ℕ → ℕ → ℕ → List ℕ → List ℕ
put_part xs a n ys = take a xs ++ (ys ++ drop (a + n) xs)

-- a new overflow entry at k: those from k on move up by one entry
unfoldable pub added : Sizes → List ℕ → ℕ → ℕ → ℕ → List ℕ
added h t c w k =
    set (take (over_at h k) t ++ ((c ∷ w ∷ 0 ∷ []) ++ (take (3 * (over_count t - k)) (drop (over_at h k) t) ++ drop (over_at h (over_count t + 1)) t)))
    7 (over_count t + 1)

-- in a table that is long enough for one more
abbrev pub added_if : Sizes → List ℕ → ℕ → ℕ → ℕ → List ℕ
added_if h t c w k = cond (leb (over_at h (over_count t + 1)) (length t)) (added h t c w k) t

-- chunk c's word in the overflow table, where its place is k
abbrev pub over_put : Sizes → List ℕ → ℕ → ℕ → ℕ → List ℕ
over_put h t c w k = cond (ltb k (over_count t) && eqb (get_or t (over_at h k) 0) c) (set t (over_at h k + 1) w) (added_if h t c w k)

-- the table with w as chunk c's word
unfoldable pub put_word : Sizes → List ℕ → ℕ → ℕ → List ℕ
put_word h t c w = cond (ltb c h.d) (set t (direct_at c) w) (over_put h t c w (over_place t (over_start h.d) (over_count t) c))

-- header words: the mode, the members in all
abbrev pub put_mode : List ℕ → ℕ → List ℕ
put_mode t mode = set t 6 mode

abbrev pub put_total : List ℕ → ℕ → List ℕ
put_total t total = set t 8 total

-- v as the prefix of entry e
abbrev pub put_prefix : Sizes → List ℕ → ℕ → ℕ → List ℕ
put_prefix h t e v = set t (prefix_place h e) v

-- the place below which nothing is free, once slot i, whose owner was `old`, has the owner w
-- a slot that gets free lowers it; one that is taken is the lowest free one, so that it goes past it
abbrev pub from_after : ℕ → ℕ → ℕ → ℕ → ℕ
from_after from i old w = cond (eqb w 0) (min from i) (cond (eqb old 0) (i + 1) from)

-- w as the owner of slot i, the owners starting at a, and header word k
unfoldable pub put_owner : ℕ → ℕ → List ℕ → ℕ → ℕ → List ℕ
put_owner k a t i w = set (set t (a + i) w) k (from_after (get_or t k 0) i (get_or t (a + i) 0) w)

abbrev pub put_row_owner : Sizes → List ℕ → ℕ → ℕ → List ℕ
put_row_owner h t r w = put_owner 9 (row_owners_at h) t r w

abbrev pub put_page_owner : Sizes → List ℕ → ℕ → ℕ → List ℕ
put_page_owner h t p w = put_owner 10 (page_owners_at h) t p w

abbrev pub put_row : Sizes → List ℕ → ℕ → List ℕ → List ℕ
put_row h rows r row = put_part rows (r * h.m) h.m row

abbrev pub put_page : Sizes → List ℕ → ℕ → List ℕ → List ℕ
put_page h pages p page = put_part pages (p * wide h) (wide h) page
