-- A lookup, way by way. Assumes nothing.
use mathlib.Core.Path.{◌≡◌, sym, ap, ap₂, ◌∙◌}
use mathlib.Core.List.{List}
use mathlib.Core.Bool.{Bool, true, false, cond, ◌&&◌}
use Prim.Native.Nat.{ℕ, ◌+◌, ◌*◌, ◌≤◌, ◌<◌}
use native.Mathlib.Omega.{arith}
use lib.ListN.{length, get_or}
use lib.Dec.{eqb}
use borrow.Author.Tests.{lt-ltb, le-ltb}
use Rattle.layout.specs.Sizes.{direct_at, over_start, header_at, over_count, total_at}
use Rattle.layout.specs.Short.{key_at, over_place, over_word, entries_in}
use Rattle.layout.specs.Seat.{direct_seat, over_seat, overflow_seat, seat_in}
use Rattle.document.specs.Refusals.{not_laid_out}
use Rattle.layout.specs.Found.{Seat}
use Rattle.std.specs.Prelude.{Err, Ok}

-- ---- an overflow entry

module _ (t : List ℕ) (a n c k : ℕ) where
  own : Bool → ℕ
  own b = cond (b && eqb (key_at t a k) c) (get_or t (a + 3 * k + 1) 0) 0

  by_place : Bool → Seat
  by_place b = cond b (Ok (cond (eqb (key_at t a k) c) (get_or t (a + 3 * k + 1) 0) 0, get_or t (a + 3 * k + 2) 0)) (Ok (0, total_at t))

  pub seat_past : n ≤ k → (v : ℕ) → v ≡ total_at t → Ok (0, v) ≡ over_seat t a n c k
  unfolding by_place
  seat_past l v e = ap (λ (u : ℕ). Ok (0, u)) e ∙ ap by_place (sym (le-ltb k n l))

  pub seat_there : k < n → (w v : ℕ) → w ≡ over_word t a n c k → v ≡ get_or t (a + 3 * k + 2) 0 → Ok (w, v) ≡ over_seat t a n c k
  unfolding by_place own
  seat_there l w v e f = ap₂ (λ (x y : ℕ). Ok (x, y)) (e ∙ ap own (lt-ltb k n l)) f ∙ ap by_place (sym (lt-ltb k n l))

-- ---- a chunk past the direct entries

module _ (t : List ℕ) (d c : ℕ) where
  by_test : Bool → Seat
  by_test a = cond a (over_seat t (over_start d) (over_count t) c (over_place t (over_start d) (over_count t) c)) (Err not_laid_out)

  pub seat_none : entries_in t d ≡ false → (Err not_laid_out) ≡ overflow_seat t d c
  unfolding by_test
  seat_none g = ap by_test (sym g)

  pub seat_found : entries_in t d ≡ true → (n k : ℕ) (q : Seat) → n ≡ over_count t → k ≡ over_place t (over_start d) n c
      → q ≡ over_seat t (over_start d) n c k → q ≡ overflow_seat t d c
  unfolding by_test
  seat_found g n k q en ek eq =
      eq
      ∙ ap (over_seat t (over_start d) n c) ek
      ∙ ap (λ (j : ℕ). over_seat t (over_start d) j c (over_place t (over_start d) j c)) en
      ∙ ap by_test (sym g)

-- ---- any chunk

module _ (t : List ℕ) (c d : ℕ) (e : d ≡ (header_at t).d) where
  by_direct : Bool → Seat
  by_direct b = cond b (direct_seat t c) (overflow_seat t (header_at t).d c)

  pub in_overflow : d ≤ c → (q : Seat) → q ≡ overflow_seat t d c → q ≡ seat_in t c
  unfolding seat_in by_direct
  in_overflow l q f = f ∙ (ap (λ (i : ℕ). overflow_seat t i c) e ∙ ap by_direct (sym (le-ltb c (header_at t).d (omega (arith, e)))))

  module _ (l : c < d) where
    direct : direct_seat t c ≡ seat_in t c
    unfolding seat_in by_direct
    direct = ap by_direct (sym (lt-ltb c (header_at t).d (omega (arith, e))))

    pub in_table : direct_at c + 1 < length t → Ok ((get_or t (direct_at c) 0), (get_or t (direct_at c + 1) 0)) ≡ seat_in t c
    in_table g = ap (λ (b : Bool). cond b (Ok ((get_or t (direct_at c) 0), (get_or t (direct_at c + 1) 0))) (Err not_laid_out)) (sym (lt-ltb (direct_at c + 1) (length t) g)) ∙ direct

    pub past_table : length t ≤ direct_at c + 1 → (Err not_laid_out) ≡ seat_in t c
    past_table g = ap (λ (b : Bool). cond b (Ok ((get_or t (direct_at c) 0), (get_or t (direct_at c + 1) 0))) (Err not_laid_out)) (sym (le-ltb (direct_at c + 1) (length t) g)) ∙ direct
