-- From a reading call's model to what its contract says, by the laws of the calls. Assumes nothing.
use mathlib.Core.Path.{◌≡◌, ap, ◌∙◌}
use mathlib.Core.Bool.{Bool}
use lib.IntN.{ℤ, pos, negsuc}
use Rattle.document.specs.Calls.{Said, whether, many, maybe, listed}
use Rattle.document.specs.Calls.{Ask, get, range_test, chunk_id, len, is_empty, has_any, chunk_count, iterate, rank_of, rank_if_set, total_count, check}
use Rattle.document.specs.Answers.{chunk_in, reply}
use Rattle.layout.specs.Mem.{Mem}
use Rattle.layout.specs.Sizes.{head}
use Rattle.layout.specs.Meaning.{state_of}
use Rattle.layout.specs.Follows.{Follows}
use Rattle.calls.specs.Reading.{chunk_of_by}
use Rattle.calls.proofs.Readings.{get_is, chunk_of_is, chunk_of_none}
use Rattle.calls.proofs.Ranges.{any_in_range_is}
use Rattle.calls.proofs.Iterations.{iterate_is}
use Rattle.calls.proofs.Counting.{len_is, empty_is, chunks_is, any_is}
use Rattle.ranks.proofs.Ranks.{rank_is, rank_if_is, total_is}
use Rattle.contracts.specs.Does.{AskedBy, Answers}
use Rattle.std.specs.Prelude.{Ok}

module _ {x : Mem} (w : Follows x) where
  chunk_of_any : (z : ℤ) → chunk_of_by x z ≡ chunk_in (head x) z
  chunk_of_any (pos n) = chunk_of_is w n
  chunk_of_any (negsuc n) = chunk_of_none w n

  model_right : (k : Ask) {a : Said} → AskedBy x k a → a ≡ reply (state_of x) k
  model_right (get z) e = e ∙ ap whether (get_is w z)
  model_right (range_test lo hi) e = e ∙ ap whether (any_in_range_is w lo hi)
  model_right (chunk_id z) e = e ∙ ap maybe (chunk_of_any z)
  model_right len e = e ∙ ap many (len_is w)
  model_right is_empty e = e ∙ ap whether (empty_is w)
  model_right has_any e = e ∙ ap whether (any_is w)
  model_right chunk_count e = e ∙ ap many (chunks_is w)
  model_right (iterate z) e = e ∙ ap listed (iterate_is w z)
  model_right (rank_of z) e = e ∙ ap many (rank_is w z)
  model_right (rank_if_set z) e = e ∙ ap maybe (rank_if_is w z)
  model_right total_count e = e ∙ ap many (total_is w)
  model_right check e = e.said ∙ ap (λ (b : Bool). whether (Ok b)) (e.decides.whole w)

-- a call that meets its model answers what document 01 says
pub answers : (x : Mem) (k : Ask) {a : Said} → AskedBy x k a → Answers x k a
answers x k e = record { by = e; says = λ w. model_right w k e }
