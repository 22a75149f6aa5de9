-- What a reading call's model allows is one answer, and there is one. Assumes nothing.
use mathlib.Core.Path.{◌≡◌, refl, sym, ap, ◌∙◌}
use mathlib.Core.Bool.{Bool}
use Rattle.sums.proofs.Rules.{same_test}
use Rattle.document.specs.Calls.{Said, whether, many, maybe, listed}
use Rattle.document.specs.Calls.{Ask, get, range_test, chunk_id, len, is_empty, has_any, chunk_count, iterate, rank_of, rank_if_set, total_count, check}
use Rattle.layout.specs.Mem.{Mem}
use Rattle.calls.specs.Reading.{get_by, chunk_of_by}
use Rattle.calls.specs.Counts.{len_by, is_empty_by, has_any_by, chunks_by}
use Rattle.calls.specs.Range.{any_by}
use Rattle.calls.specs.Iteration.{iter_by}
use Rattle.ranks.specs.Rank.{rank_by, rank_if_by, total_by}
use Rattle.contracts.specs.Does.{AskedBy, Answers}
use Rattle.contracts.proofs.Readings.{answers}
use Rattle.fullcheck.specs.Check.{checked}
use Rattle.fullcheck.proofs.Decide.{answered}
use Rattle.std.specs.Prelude.{Ok}

pub asked_once : (x : Mem) (k : Ask) {a b : Said} → AskedBy x k a → AskedBy x k b → a ≡ b
asked_once x (get z) p q = p ∙ sym q
asked_once x (range_test lo hi) p q = p ∙ sym q
asked_once x (chunk_id z) p q = p ∙ sym q
asked_once x len p q = p ∙ sym q
asked_once x is_empty p q = p ∙ sym q
asked_once x has_any p q = p ∙ sym q
asked_once x chunk_count p q = p ∙ sym q
asked_once x (iterate z) p q = p ∙ sym q
asked_once x (rank_of z) p q = p ∙ sym q
asked_once x (rank_if_set z) p q = p ∙ sym q
asked_once x total_count p q = p ∙ sym q
asked_once x check p q = p.said ∙ ap (λ (b : Bool). whether (Ok b)) (same_test p.decides q.decides) ∙ sym q.said

abbrev pub asked : Mem → Ask → Said
asked x (get z) = whether (get_by x z)
asked x (range_test lo hi) = whether (any_by x lo hi)
asked x (chunk_id z) = maybe (chunk_of_by x z)
asked x len = many (len_by x)
asked x is_empty = whether (is_empty_by x)
asked x has_any = whether (has_any_by x)
asked x chunk_count = many (chunks_by x)
asked x (iterate z) = listed (iter_by x z)
asked x (rank_of z) = many (rank_by x z)
asked x (rank_if_set z) = maybe (rank_if_by x z)
asked x total_count = many (total_by x)
asked x check = whether (Ok (checked x))

pub asked_some : (x : Mem) (k : Ask) → Answers x k (asked x k)
asked_some x (get z) = answers x (get z) refl
asked_some x (range_test lo hi) = answers x (range_test lo hi) refl
asked_some x (chunk_id z) = answers x (chunk_id z) refl
asked_some x len = answers x len refl
asked_some x is_empty = answers x is_empty refl
asked_some x has_any = answers x has_any refl
asked_some x chunk_count = answers x chunk_count refl
asked_some x (iterate z) = answers x (iterate z) refl
asked_some x (rank_of z) = answers x (rank_of z) refl
asked_some x (rank_if_set z) = answers x (rank_if_set z) refl
asked_some x total_count = answers x total_count refl
asked_some x check = answered x (checked x) refl
