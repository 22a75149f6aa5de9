-- What a map of kinds needs, and refusals 6, 7, 8 on the map after the call.
use Rattle.std.specs.Prelude.{ℕ, cond, ◌&&◌, leb, ltb, Err}
use Rattle.sums.specs.Ids.{count}
use Rattle.document.specs.Sizes.{last_chunk}
use Rattle.document.specs.State.{Kind, is_present, is_sparse, is_dense}
use Rattle.document.specs.Refusals.{overflow_full, rows_full, pages_full}
use Rattle.document.specs.declared.sizes.Sizes.{Sizes}
use Rattle.document.specs.Results.{Truth}

-- overflow entries, rows and pages
unfoldable pub overflows : Sizes → (ℕ → Kind) → ℕ
overflows h k = count (λ (c : ℕ). leb h.d c && is_present (k c)) (last_chunk h)

unfoldable pub sparses : Sizes → (ℕ → Kind) → ℕ
sparses h k = count (λ (c : ℕ). is_sparse (k c)) (last_chunk h)

unfoldable pub denses : Sizes → (ℕ → Kind) → ℕ
denses h k = count (λ (c : ℕ). is_dense (k c)) (last_chunk h)

-- the answer a, if the map k has room
unfoldable pub verdict : Sizes → (ℕ → Kind) → Truth → Truth
verdict h k a =
    cond (ltb h.v (overflows h k)) (Err overflow_full)
    (cond (ltb h.r (sparses h k)) (Err rows_full)
    (cond (ltb h.p (denses h k)) (Err pages_full) a))
