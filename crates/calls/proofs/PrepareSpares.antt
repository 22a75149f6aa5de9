-- `pre_allocate` writes nothing past the sizes, on any memory: what the walk saw holds after each chunk. Assumes nothing.
use mathlib.Core.Path.{◌≡◌, refl, ◌∙◌, subst}
use mathlib.Core.Bool.{false, cond}
use Prim.Native.Nat.{ℕ, zero, suc, ◌+◌, ◌/◌, ◌≤◌, ◌<◌}
use native.Mathlib.Omega.{arith}
use lib.IntN.{ℤ, pos, negsuc}
use lib.Dec.{ltb, eqb}
use borrow.Author.Tests.{ltb-false}
use Rattle.dense.specs.Bits.{with_row}
use Rattle.dense.proofs.Bits.{length_row}
use Rattle.document.specs.Sizes.{top}
use Rattle.document.specs.Refusals.{not_laid_out, is_ranked, overflow_full, pages_full}
use Rattle.document.specs.declared.sizes.Sizes.{Sizes}
use Rattle.layout.specs.Mem.{Mem}
use Rattle.layout.specs.Sizes.{head, mode_at}
use Rattle.layout.specs.Places.{row_part, page_part, has_page}
use Rattle.layout.specs.Entries.{place_of}
use Rattle.layout.specs.Tests.{Walked, walked}
use Rattle.layout.specs.SetUp.{did}
use Rattle.layout.specs.Spare.{Spare}
use Rattle.layout.specs.declared.place.Place.{Place}
use Rattle.layout.specs.declared.place.Place.TheVariants.{Absent, Sparse, Dense}
use Rattle.layout.proofs.Tests.{walked_of}
use Rattle.layout_laws.proofs.Sizes.{page_length}
use Rattle.layout_laws.proofs.Entries.{walked_ordered}
use Rattle.layout_laws.proofs.Owners.{row_of_law}
use Rattle.layout_laws.proofs.Spares.{EntryRoom, room_ordered, row_slot, page_slot, spare_same, spare_then, spare_if}
use Rattle.steps.proofs.Spares.{paged_spare}
use Rattle.calls.specs.Prepare.{HasRoom, lowest_page, into_page, densed, densed_to, over_needed, pages_needed, prepare_to, prepare_id, prepare_by}
use Rattle.layout.specs.Meaning.{ranked}
use Rattle.steps.proofs.Slots as slots
use Rattle.calls.proofs.Reached.{Reached, entry_free, kind_at, place_free}
use Rattle.calls.proofs.PreparedDense.{room_far, room_over, room_pages, room_reached}
use Rattle.std.specs.Prelude.{Err, Ok}

-- ---- one chunk

module _ (x : Mem) (c : ℕ) (a : HasRoom x c) (n : ℕ) (le : n ≤ c) (y : Mem) (s : Reached x n y) where
  abbrev w : Walked y (head y)
  w = s.walked

  abbrev free : ℕ
  free = lowest_page (head y) y

  -- an entry that is there, or a spare one
  entry : EntryRoom (head y) y.table n
  entry = room_ordered (head y) y.table (walked_ordered w) w.over_fits n
      (λ none. slots.entry_free (head y) y.table n none
      (entry_free x a.mode c n le (room_far a) y s (room_over a) (room_pages a)
      (kind_at x a.mode c n le (room_far a) y s (room_over a) (room_pages a) Absent (slots.entry_none (head y) y.table n none))))

  there : (q : Place) → place_of (head y) y.table n ≡ q → has_page q ≡ false → free < (head y).p
  there = place_free x a.mode c n le (room_far a) y s (room_over a) (room_pages a)

  into_spare : (q : Place) → place_of (head y) y.table n ≡ q → Spare (head y) y (into_page (head y) y n free q)
  into_spare Absent e =
      let l = there Absent e refl in
      paged_spare (head y) y n entry Absent free (page_part (head y) y.pages free) tt (page_slot (head y) y w.room free l) (page_length (head y) y w.room free l)
  into_spare (Sparse r k) e =
      let l = there (Sparse r k) e refl in
      let page = page_part (head y) y.pages free in
      let row = row_part (head y) y.rows r in
      paged_spare (head y) y n entry (Sparse r k) free (with_row page row (top (head y)) k) (row_slot (head y) y w.room r (row_of_law w n r k e).there)
      (page_slot (head y) y w.room free l) (length_row page row (top (head y)) k ∙ page_length (head y) y w.room free l)
  into_spare (Dense p) e = spare_same

  turn_spare : Spare (head x) y (densed (head x) y n)
  turn_spare = subst (λ (h : Sizes). Spare h y (densed h y n)) s.sizes (into_spare (place_of (head y) y.table n) refl)

-- ---- all of them

densed_spare : (x : Mem) (c : ℕ) → HasRoom x c → (n : ℕ) → n ≤ c + 1 → Spare (head x) x (densed_to (head x) x n)
unfolding densed_to
densed_spare x c a zero l = spare_same
densed_spare x c a (suc n) l =
    spare_then (densed_spare x c a n (omega arith)) (turn_spare x c a n (omega arith) (densed_to (head x) x n) (room_reached a n (omega arith)))

-- ---- the call

module _ (x : Mem) where
  to_spare : (c : ℕ) → Walked x (head x) → ranked x ≡ false → Spare (head x) x (prepare_to (head x) x c).after
  to_spare c w m =
      let h = head x in
      spare_if (ltb h.v (over_needed h x.table c)) (did (Err overflow_full) x)
      (cond (ltb h.p (pages_needed h x.table c)) (did (Err pages_full) x) (did (Ok tt) (densed_to h x (c + 1))))
      (λ a. spare_same)
      (λ a. spare_if (ltb h.p (pages_needed h x.table c)) (did (Err pages_full) x) (did (Ok tt) (densed_to h x (c + 1)))
      (λ b. spare_same)
      (λ b. densed_spare x c
      (record { walks = w; mode = m; over = ltb-false h.v (over_needed h x.table c) a; pages = ltb-false h.p (pages_needed h x.table c) b })
      (c + 1) (omega arith)))

  id_spare : Walked x (head x) → ranked x ≡ false → (z : ℤ) → Spare (head x) x (prepare_id x z).after
  id_spare w m (pos n) = to_spare (n / top (head x)) w m
  id_spare w m (negsuc n) = spare_same

  pub prepare_by_spare : (z : ℤ) → Spare (head x) x (prepare_by x z).after
  unfolding prepare_by
  prepare_by_spare z =
      spare_if (walked x) (cond (eqb (mode_at x.table) 1) (did (Err is_ranked) x) (prepare_id x z)) (did (Err not_laid_out) x)
      (λ w. spare_if (eqb (mode_at x.table) 1) (did (Err is_ranked) x) (prepare_id x z) (λ m. spare_same) (λ m. id_spare ((walked_of x).sound w) m z))
      (λ w. spare_same)
