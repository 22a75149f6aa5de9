-- A lookup on memory that the walk passes: a chunk's word, and what a ranked set says of its first id. Assumes nothing.
use mathlib.Core.Path.{◌≡◌, refl, sym, ap, ap₂, ◌∙◌}
use mathlib.Core.Bool.{Bool, true, false, cond, ◌&&◌}
use Prim.Native.Nat.{ℕ, ◌+◌, ◌*◌, ◌≤◌, ◌<◌}
use native.Mathlib.Omega.{arith}
use lib.ListN.{length, get_or}
use lib.Dec.{ltb, eqb}
use borrow.Author.Tests.{ltb-true, ltb-false, lt-ltb, le-ltb}
use Rattle.layout.specs.Mem.{Mem}
use Rattle.layout.specs.Sizes.{direct_at, over_at, head, over_count, total_at}
use Rattle.layout.specs.Entries.{entries, prefix_at, word_of}
use Rattle.layout.specs.Tests.{Walked}
use Rattle.layout.specs.Short.{key_at, over_place}
use Rattle.layout_laws.specs.Chunks.{first_entry, first_rank}
use Rattle.layout_laws.proofs.Entries.{walked_ordered, word_direct, word_of_direct, prefix_direct, prefix_over}
use Rattle.layout_laws.proofs.Short.{over_word_is, entries_inside}
use Rattle.layout.specs.Found.{Seat}
use Rattle.layout.specs.Seat.{direct_seat, over_seat, overflow_seat, seat_in}
use Rattle.document.specs.Refusals.{not_laid_out}
use Rattle.std.specs.Prelude.{Err, Ok}

abbrev seated : ℕ → ℕ → Seat
seated a b = Ok (a, b)

module _ {x : Mem} (w : Walked x (head x)) (c : ℕ) where
  -- the first entry from e on, or past the last one the total
  from_entry : ℕ → ℕ
  from_entry e = cond (ltb e (entries (head x) x.table)) (prefix_at (head x) x.table e) (total_at x.table)

  first_direct : c < (head x).d → first_rank x c ≡ get_or x.table (direct_at c + 1) 0
  unfolding first_rank first_entry from_entry
  first_direct l =
      ap (λ (b : Bool). from_entry (cond b c ((head x).d + over_place x.table (16 + 2 * (head x).d) (over_count x.table) c))) (lt-ltb c (head x).d l)
      ∙ ap (λ (b : Bool). cond b (prefix_at (head x) x.table c) (total_at x.table)) (lt-ltb c (entries (head x) x.table) (omega arith))
      ∙ prefix_direct (head x) x.table c l

  module _ (l : (head x).d ≤ c) where
    abbrev k : ℕ
    k = over_place x.table (16 + 2 * (head x).d) (over_count x.table) c

    abbrev own : ℕ
    own = get_or x.table (16 + 2 * (head x).d + 3 * k + 1) 0

    first_over : first_rank x c ≡ from_entry ((head x).d + k)
    unfolding first_rank first_entry from_entry
    first_over = ap (λ (b : Bool). from_entry (cond b c ((head x).d + k))) (le-ltb c (head x).d l)

    first_there : k < over_count x.table → first_rank x c ≡ get_or x.table (over_at (head x) k + 2) 0
    unfolding from_entry
    first_there m =
        first_over
        ∙ ap (λ (b : Bool). cond b (prefix_at (head x) x.table ((head x).d + k)) (total_at x.table)) (lt-ltb ((head x).d + k) (entries (head x) x.table) (omega arith))
        ∙ prefix_over (head x) x.table k

    first_past : over_count x.table ≤ k → first_rank x c ≡ total_at x.table
    unfolding from_entry
    first_past m = first_over ∙ ap (λ (b : Bool). cond b (prefix_at (head x) x.table ((head x).d + k)) (total_at x.table)) (le-ltb ((head x).d + k) (entries (head x) x.table) (omega arith))

    over_seat_law : over_seat x.table (16 + 2 * (head x).d) (over_count x.table) c k ≡ seated (word_of (head x) x.table c) (first_rank x c)
    over_seat_law = go (ltb k (over_count x.table)) refl (over_word_is (head x) x.table (walked_ordered w) c l)
      where
        go : (b : Bool) → ltb k (over_count x.table) ≡ b
            → cond (ltb k (over_count x.table) && eqb (key_at x.table (16 + 2 * (head x).d) k) c) own 0 ≡ word_of (head x) x.table c
            → cond (ltb k (over_count x.table)) (seated (cond (eqb (key_at x.table (16 + 2 * (head x).d) k) c) own 0) (get_or x.table (16 + 2 * (head x).d + 3 * k + 2) 0)) (seated 0 (total_at x.table))
            ≡ seated (word_of (head x) x.table c) (first_rank x c)
        go true e q =
            ap (λ (b : Bool). cond b (seated (cond (eqb (key_at x.table (16 + 2 * (head x).d) k) c) own 0) (get_or x.table (16 + 2 * (head x).d + 3 * k + 2) 0)) (seated 0 (total_at x.table))) e
            ∙ ap₂ seated (ap (λ (b : Bool). cond (b && eqb (key_at x.table (16 + 2 * (head x).d) k) c) own 0) (sym e) ∙ q) (sym (first_there (ltb-true k (over_count x.table) e)))
        go false e q =
            ap (λ (b : Bool). cond b (seated (cond (eqb (key_at x.table (16 + 2 * (head x).d) k) c) own 0) (get_or x.table (16 + 2 * (head x).d + 3 * k + 2) 0)) (seated 0 (total_at x.table))) e
            ∙ ap₂ seated (ap (λ (b : Bool). cond (b && eqb (key_at x.table (16 + 2 * (head x).d) k) c) own 0) (sym e) ∙ q) (sym (first_past (ltb-false k (over_count x.table) e)))

  pub seat_is : seat_in x.table c ≡ seated (word_of (head x) x.table c) (first_rank x c)
  unfolding seat_in
  seat_is = go (ltb c (head x).d) refl
    where
      go : (b : Bool) → ltb c (head x).d ≡ b → cond b (direct_seat x.table c) (overflow_seat x.table (head x).d c) ≡ seated (word_of (head x) x.table c) (first_rank x c)
      go true e =
          let l = ltb-true c (head x).d e in
          let r = w.room.in_table in
          ap (λ (b : Bool). cond b (seated (get_or x.table (direct_at c) 0) (get_or x.table (direct_at c + 1) 0)) (Err not_laid_out)) (lt-ltb (direct_at c + 1) (length x.table) (omega arith))
          ∙ ap₂ seated (sym (word_of_direct (head x) x.table (walked_ordered w) c l ∙ word_direct (head x) x.table c l)) (sym (first_direct l))
      go false e =
          let l = ltb-false c (head x).d e in
          ap (λ (b : Bool). cond b (over_seat x.table (16 + 2 * (head x).d) (over_count x.table) c (k l)) (Err not_laid_out))
          (entries_inside x w.sizes w.room w.over_fits)
          ∙ over_seat_law l
