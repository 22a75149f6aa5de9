-- Each test decides its sentence of the rule, and with the walk they decide `Follows`. Assumes nothing.
use mathlib.Core.Path.{◌≡◌, refl, sym, ◌∙◌, ap, ap₂, subst}
use mathlib.Core.List.{List}
use mathlib.Core.Bool.{Bool, true, false, ◌&&◌}
use Prim.Native.Nat.{ℕ, ◌+◌, ◌-◌, ◌*◌, ◌≤◌, ◌<◌}
use native.Mathlib.Omega.{arith}
use lib.ListN.{get_or}
use Rattle.sums.specs.Sums.{sum_to}
use Rattle.sums.specs.Rules.{all_to, Decides}
use Rattle.sums.proofs.Rules.{all_of, and_of, unless_of, if_of, same_of, leb_of, ltb_of, eqb_of}
use Rattle.dense.specs.Bits.{bits_to}
use Rattle.document.specs.Calls.{check, whether}
use Rattle.contracts.specs.Does.{Answers}
use Rattle.contracts.proofs.Readings.{answers}
use Rattle.layout.specs.Mem.{Mem}
use Rattle.document.specs.Sizes.{top}
use Rattle.layout.specs.Sizes.{wide, blocks_of, head, total_at}
use Rattle.layout.specs.Places.{row_part, page_part, row_owner, page_owner}
use Rattle.layout.specs.Entries.{entries, prefix_at, place_at}
use Rattle.layout.specs.Follows.{AllZero, Listed, RowListed, members_at, when_ranked, Laid, Follows}
use Rattle.layout.specs.Tests.{ranked_at, Walked, walked}
use Rattle.layout.proofs.Tests.{always, zeros_of, walked_of}
use Rattle.layout_laws.proofs.Walked.{laid_walked}
use Rattle.document.specs.declared.sizes.Sizes.{Sizes}
use Rattle.layout.specs.declared.place.Place.{Place}
use Rattle.layout.specs.declared.place.Place.TheVariants.{Absent, Sparse, Dense}
use Rattle.fullcheck.specs.Check.{WalkShown, BlocksShown, offset_is, list_is, list_at, row_is, free_row_is, free_page_is, size_of_entry, prefix_is, total_is, block_is, page_blocks, rows_are, ranks_are, rest_is, checked}
use Rattle.std.specs.Prelude.{Ok}

-- ---- rows

Offset : List ℕ → ℕ → ℕ → ℕ → Type 0
Offset row u l i = (get_or row i 0 < u) × ((l ≤ i + 1 → ⊥) → get_or row i 0 < get_or row (i + 1) 0)

offset_of : (row : List ℕ) (u l i : ℕ) → Decides (offset_is row u l i) (Offset row u l i)
unfolding offset_is Offset
offset_of row u l i = and_of (ltb_of (get_or row i 0) u) (unless_of (leb_of l (i + 1)) (ltb_of (get_or row i 0) (get_or row (i + 1) 0)))

list_of : (h : Sizes) (row : List ℕ) (l : ℕ) → Decides (list_is h row l) (Listed h row l)
unfolding list_is Offset
list_of h row l =
    same_of
    (and_of (all_of (offset_is row (top h) l) l (λ i w. offset_of row (top h) l i)) (zeros_of row l (h.m - l)))
    (λ q. record { below = λ i w. (q.0 i w).0; rising = λ i w. (q.0 i (omega arith)).1 (λ n. omega arith); rest = q.1 })
    (λ g. ((λ i w. (g.below i w, λ n. g.rising i (less n w))), g.rest))
  where
    less : {i l : ℕ} → (l ≤ i + 1 → ⊥) → i < l → i + 1 < l
    less n w = omega arith

row_of_law : (h : Sizes) (rows : List ℕ) (q : Place) → Decides (list_at h rows q) (RowListed h rows q)
row_of_law h rows Absent = always
row_of_law h rows (Sparse r l) = list_of h (row_part h rows r) l
row_of_law h rows (Dense p) = always

module _ (h : Sizes) (x : Mem) where
  lists_of : Decides (all_to (row_is h x.rows x.table) (entries h x.table)) ((e : ℕ) → e < entries h x.table → RowListed h x.rows (place_at h x.table e))
  unfolding row_is
  lists_of = all_of (row_is h x.rows x.table) (entries h x.table) (λ e l. row_of_law h x.rows (place_at h x.table e))

  free_rows_of : Decides (all_to (free_row_is h x.rows x.table) h.r) ((r : ℕ) → r < h.r → row_owner h x.table r ≡ 0 → AllZero x.rows (r * h.m) h.m)
  unfolding free_row_is
  free_rows_of = all_of (free_row_is h x.rows x.table) h.r (λ r l. if_of (eqb_of (row_owner h x.table r) 0) (zeros_of x.rows (r * h.m) h.m))

  free_pages_of : Decides (all_to (free_page_is h x.pages x.table) h.p) ((p : ℕ) → p < h.p → page_owner h x.table p ≡ 0 → AllZero x.pages (p * wide h) (wide h))
  unfolding free_page_is
  free_pages_of = all_of (free_page_is h x.pages x.table) h.p (λ p l. if_of (eqb_of (page_owner h x.table p) 0) (zeros_of x.pages (p * wide h) (wide h)))

  ranks_of : Decides (ranks_are h x.pages x.table)
      (((e : ℕ) → e < entries h x.table → prefix_at h x.table e ≡ when_ranked x (sum_to (members_at h x) e))
      × (total_at x.table ≡ when_ranked x (sum_to (members_at h x) (entries h x.table))))
  unfolding ranks_are prefix_is total_is members_at size_of_entry
  ranks_of =
      and_of
      (all_of (prefix_is h x.pages x.table) (entries h x.table) (λ e l. eqb_of (prefix_at h x.table e) (when_ranked x (sum_to (members_at h x) e))))
      (eqb_of (total_at x.table) (when_ranked x (sum_to (members_at h x) (entries h x.table))))

  blocks_of_law : Decides (all_to (page_blocks h x.pages x.blocks (ranked_at x.table)) h.p)
      ((p : ℕ) → p < h.p → (b : ℕ) → b < blocks_of h → get_or x.blocks (p * blocks_of h + b) 0 ≡ when_ranked x (bits_to (page_part h x.pages p) (512 * b)))
  unfolding page_blocks block_is
  blocks_of_law =
      all_of (page_blocks h x.pages x.blocks (ranked_at x.table)) h.p (λ p l.
      all_of (block_is (page_part h x.pages p) x.blocks (ranked_at x.table) (p * blocks_of h)) (blocks_of h) (λ b m.
      eqb_of (get_or x.blocks (p * blocks_of h + b) 0) (when_ranked x (bits_to (page_part h x.pages p) (512 * b)))))

  -- after the walk the rest decides the whole rule
  pub laid_of : Walked x h → Decides (rest_is h x) (Laid x h)
  unfolding rest_is rows_are
  laid_of w =
      same_of
      (and_of (and_of (and_of (and_of lists_of free_rows_of) free_pages_of) ranks_of) blocks_of_law)
      (λ q. record {
        sizes = w.sizes;
        room = w.room;
        mode = w.mode;
        unused = w.unused;
        over_fits = w.over_fits;
        keys = w.keys;
        words = w.words;
        spare = w.spare;
        places = w.places;
        lists = q.0.0.0.0;
        free_rows = q.0.0.0.1;
        free_pages = q.0.0.1;
        rows_used = w.rows_used;
        pages_used = w.pages_used;
        prefixes = q.0.1.0;
        total = q.0.1.1;
        blocks = λ p b l m. q.1 p l b m;
        rows_full_to = w.rows_full_to;
        pages_full_to = w.pages_full_to;
      })
      (λ f. ((((f.lists, f.free_rows), f.free_pages), (f.prefixes, f.total)), λ p l b m. f.blocks p b l m))

-- ---- the whole check

-- Q asks for P, and b decides Q where P holds
then_sound : (a b : Bool) {P Q : Type 0} → Decides a P → (P → Decides b Q) → (a && b) ≡ true → Q
then_sound true b d e h = (e (d.sound refl)).sound h
then_sound false b d e h = absurd cc

then_of : {a b : Bool} {P Q : Type 0} → Decides a P → (P → Decides b Q) → (Q → P) → Decides (a && b) Q
then_of {a} {b} d e f = record {
  sound = then_sound a b d e;
  whole = λ q. ap₂ ◌&&◌ (d.whole (f q)) ((e (f q)).whole q);
}

pub follows_of : (x : Mem) → Decides (checked x) (Follows x)
unfolding checked
follows_of x = then_of (walked_of x) (laid_of (head x) x) laid_walked

decided : (x : Mem) (b : Bool) → b ≡ checked x → Decides b (Follows x)
decided x b e = record { sound = λ h. (follows_of x).sound (sym e ∙ h); whole = λ f. e ∙ (follows_of x).whole f }

pub answered : (x : Mem) (b : Bool) → b ≡ checked x → Answers x check (whether (Ok b))
answered x b e = answers x check (record { yes = b; said = refl; decides = decided x b e })

-- what the walk answered, and the sizes read as h
module _ (x : Mem) (a : Bool) (p : a ≡ walked x) where
  pub walk_no : a ≡ false → a ≡ checked x
  unfolding checked
  walk_no n = n ∙ ap (λ (b : Bool). b && rest_is (head x) x) (sym n ∙ p)

  module _ (h : Sizes) (e : h ≡ head x) (y : a ≡ true) where
    pub walk_yes : Walked x h
    walk_yes = subst (Walked x) (sym e) ((walked_of x).sound (sym p ∙ y))

    pub all_told : (b : Bool) → b ≡ rest_is h x → b ≡ checked x
    unfolding checked
    all_told b q = q ∙ (ap (λ (g : Sizes). rest_is g x) e ∙ ap (λ (b : Bool). b && rest_is (head x) x) (sym y ∙ p))

-- ---- the rest, by slice

module _ (x : Mem) (h : Sizes) where
  pub sound_of : Walked x h → WalkShown h x.table
  sound_of w = record { sizes = w.sizes; in_table = w.room.in_table; over_fits = w.over_fits; places = w.places }

  -- the test of the block counts, asked first
  module _ {f : Bool} (t : f ≡ all_to (page_blocks h x.pages x.blocks (ranked_at x.table)) h.p) where
    pub blocks_shown : Walked x h → f ≡ true → BlocksShown h x.pages x.blocks (ranked_at x.table)
    blocks_shown w y = record { in_pages = w.room.in_pages; in_blocks = w.room.in_blocks; right = sym t ∙ y }
