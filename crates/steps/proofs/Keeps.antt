-- One law for every step: what a step changed, as one record, and that the layout is kept and the set changes in one chunk. Assumes nothing.
use mathlib.Core.Path.{◌≡◌, refl, sym, ap, subst, ◌∙◌}
use mathlib.Core.Logic.{◌⊎◌, inl, inr, ◌≢◌}
use mathlib.Core.List.{List}
use mathlib.Core.Bool.{Bool, false, cond}
use Prim.Native.Nat.{ℕ, ◌+◌, ◌*◌, ◌/◌, ◌%◌, ◌<◌}
use native.Mathlib.Omega.{arith}
use lib.ListN.{get_or}
use lib.Dec.{eqb}
use mir.Val.{bool_byte}
use borrow.Author.Tests.{eq-eqb, ne_eqb}
use Rattle.sums.specs.Sums.{sum_to}
use Rattle.sums.specs.Ids.{Ids}
use Rattle.sums.proofs.Counts.{count_change}
use Rattle.sparse.specs.Row.{row_of, member}
use Rattle.dense.specs.Bits.{is_set, bits_to}
use Rattle.layout.specs.Mem.{Mem}
use Rattle.document.specs.Sizes.{top, last_chunk}
use Rattle.layout.specs.Sizes.{wide, blocks_of, head}
use Rattle.layout.specs.Places.{decoded, page_part, row_owner, page_owner}
use Rattle.layout.specs.Entries.{entries, chunk_at, prefix_at, place_at, place_of}
use Rattle.document.specs.State.{Kind}
use Rattle.layout.specs.Meaning.{offsets, holds, kind_of, kinds, ranked}
use Rattle.layout.specs.Follows.{AllZero, Listed, RowListed, members_at, when_ranked, Laid}
use Rattle.layout.specs.Tests.{Walked}
use Rattle.document.specs.declared.sizes.Sizes.{Sizes}
use Rattle.layout.specs.declared.place.Place.{Place}
use Rattle.layout.specs.declared.place.Place.TheVariants.{Absent, Sparse, Dense}
use Rattle.layout_laws.proofs.Short.{owned_of}
use Rattle.layout_laws.proofs.Walked.{laid_walked}
use Rattle.steps.specs.Effects.{Open, Becomes}
use Rattle.layout.proofs.Added.{same_or}
use Rattle.steps.proofs.Puts.{put_zero}
use Rattle.steps.proofs.Table.{run_of}
use Rattle.steps.proofs.Moves.{Untouched, Moved, up, every, mode_same, open_after, walked_step, place_step_off, head_same, here, places_step, kinds_step}

-- a step, with what rows and free slots then hold
pub record Stepped (h : Sizes) (x y : Mem) (c w : ℕ) : Type 0 where
  pub moved : Moved h x y c w
  pub listed : RowListed h y.rows (decoded w)
  pub free_rows : (r : ℕ) → r < h.r → row_owner h y.table r ≡ 0 → AllZero y.rows (r * h.m) h.m
  pub free_pages : (p : ℕ) → p < h.p → page_owner h y.table p ≡ 0 → AllZero y.pages (p * wide h) (wide h)

-- ---- an untouched place

listed_kept : (h : Sizes) (x y : Mem) (q : Place) → Untouched h x y q → RowListed h x.rows q → RowListed h y.rows q
listed_kept h x y Absent u o = tt
listed_kept h x y (Sparse r l) u o = subst (λ (row : List ℕ). Listed h row l) (sym u.1) o
listed_kept h x y (Dense p) u o = tt

offsets_kept : (h : Sizes) (x y : Mem) (q : Place) → Untouched h x y q → (o : ℕ) → offsets h y q o ≡ offsets h x q o
offsets_kept h x y Absent u o = refl
offsets_kept h x y (Sparse r l) u o = ap (λ (row : List ℕ). member (row_of row) l o) u.1
offsets_kept h x y (Dense p) u o = ap (λ (page : List ℕ). is_set page o) u.1

-- ---- the layout

kept_none : (y : Mem) (n : ℕ) → ranked y ≡ false → when_ranked y n ≡ 0
kept_none y n e = ap (λ (b : Bool). cond b n 0) e

module _ (h : Sizes) (x y : Mem) (c w : ℕ) (L : Laid x h) (mode : ranked x ≡ false) (far : c < last_chunk h) (s : Stepped h x y c w) where
  abbrev m : Moved h x y c w
  m = s.moved

  abbrev W : Walked x h
  W = laid_walked L

  list_after : (e : ℕ) → e < entries h y.table → RowListed h y.rows (place_at h y.table e)
  list_after =
      every h x y c w W mode far m (λ (k v : ℕ). RowListed h y.rows (decoded v))
      (λ j l d. listed_kept h x y (place_at h x.table j) (m.others (chunk_at h x.table j) (place_at h x.table j) d (L.places j l)) (L.lists j l))
      s.listed

  prefix_zero : (e : ℕ) → e < entries h y.table → prefix_at h y.table e ≡ 0
  prefix_zero =
      put_zero (run_of h x.table) (run_of h y.table) c w (up h x y c w W mode far m) m.wrote.put
      (λ e l. L.prefixes e l ∙ kept_none x (sum_to (members_at h x) e) mode)

  pub laid_step : Laid y h
  laid_step =
      let after = walked_step h x y c w W mode far m in
      let is_open = open_after h x y c w W mode far m in
      record {
        sizes = after.sizes;
        room = after.room;
        mode = after.mode;
        unused = after.unused;
        over_fits = after.over_fits;
        keys = after.keys;
        words = after.words;
        spare = after.spare;
        places = after.places;
        lists = list_after;
        free_rows = s.free_rows;
        free_pages = s.free_pages;
        rows_used = after.rows_used;
        pages_used = after.pages_used;
        prefixes = λ e l. prefix_zero e l ∙ sym (kept_none y _ is_open);
        total = m.wrote.header 8 (omega arith) (omega arith) ∙ L.total ∙ kept_none x _ mode ∙ sym (kept_none y _ is_open);
        blocks = λ p b l k.
            ap (λ (u : List ℕ). get_or u (p * blocks_of h + b) 0) m.blocks ∙ L.blocks p b l k ∙ kept_none x (bits_to (page_part h x.pages p) (512 * b)) mode
            ∙ sym (kept_none y (bits_to (page_part h y.pages p) (512 * b)) is_open);
        rows_full_to = after.rows_full_to;
        pages_full_to = after.pages_full_to;
      }

  pub offsets_step_off : (i : ℕ) → i ≢ c → (o : ℕ) → offsets h y (place_of h y.table i) o ≡ offsets h x (place_of h x.table i) o
  offsets_step_off i d o =
      ap (λ (q : Place). offsets h y q o) (place_step_off h x y c w W mode far m i d)
      ∙ offsets_kept h x y (place_of h x.table i) (m.others i (place_of h x.table i) d (owned_of W i)) o

-- ---- what the set becomes

module _ (x y : Mem) (c w : ℕ) (q : Place) (os : Ids) (O : Open x c) (s : Stepped (head x) x y c w) (place : decoded w ≡ q) (inside : (o : ℕ) → offsets (head x) y q o ≡ os o) where
  abbrev before : Walked x (head x)
  before = laid_walked O.follows

  same_head : head y ≡ head x
  same_head = head_same x y c w q before O.mode O.chunk s.moved place

  kinds_then : (i : ℕ) → kinds y i ≡ cond (eqb i c) (kind_of q) (kinds x i)
  kinds_then = kinds_step x y c w q before O.mode O.chunk s.moved place

  holds_step : (n : ℕ) → holds y n ≡ cond (eqb (n / top (head x)) c) (os (n % top (head x))) (holds x n)
  unfolding holds
  holds_step n = ap (λ (h : Sizes). offsets h y (place_of h y.table (n / top h)) (n % top h)) same_head ∙ go (same_or (n / top (head x)) c)
    where
      was : Bool
      was = offsets (head x) x (place_of (head x) x.table (n / top (head x))) (n % top (head x))

      go : (n / top (head x) ≡ c) ⊎ (n / top (head x) ≢ c) → offsets (head x) y (place_of (head x) y.table (n / top (head x))) (n % top (head x)) ≡ cond (eqb (n / top (head x)) c) (os (n % top (head x))) was
      go (inl e) =
          ap (λ (j : ℕ). offsets (head x) y (place_of (head x) y.table j) (n % top (head x))) e
          ∙ ap (λ (p : Place). offsets (head x) y p (n % top (head x))) (here x y c w q before O.mode O.chunk s.moved place)
          ∙ inside (n % top (head x))
          ∙ sym (ap (λ (b : Bool). cond b (os (n % top (head x))) was) (eq-eqb (n / top (head x)) c e))
      go (inr d) =
          offsets_step_off (head x) x y c w O.follows O.mode O.chunk s (n / top (head x)) d (n % top (head x))
          ∙ sym (ap (λ (b : Bool). cond b (os (n % top (head x))) was) (ne_eqb (n / top (head x)) c d))

  kind_after : kinds y c ≡ kind_of q
  kind_after = kinds_then c ∙ ap (λ (b : Bool). cond b (kind_of q) (kinds x c)) (eq-eqb c c refl)

  kind_off : (i : ℕ) → i ≢ c → kinds y i ≡ kinds x i
  kind_off i d = kinds_then i ∙ ap (λ (b : Bool). cond b (kind_of q) (kinds x i)) (ne_eqb i c d)

  pub becomes : Becomes x y c q os
  becomes =
      record {
        follows = subst (Laid y) (sym same_head) (laid_step (head x) x y c w O.follows O.mode O.chunk s);
        head_is = same_head;
        mode_is = mode_same (head x) x y c w before O.mode O.chunk s.moved;
        places_is = places_step x y c w q before O.mode O.chunk s.moved place;
        kinds_is = kinds_then;
        holds_is = holds_step;
        counts = λ g.
            (let a = count_change (λ (i : ℕ). g i (kinds x i)) (λ (i : ℕ). g i (kinds y i)) c (last_chunk (head x)) O.chunk (λ j l d. ap (g j) (kind_off j d)) in
            let b = ap (λ (k : Kind). bool_byte (g c k)) kind_after in
            omega arith);
      }

-- one step after another
pub still_open : (x y : Mem) (c i : ℕ) (q : Place) (os : Ids) → Open x c → Becomes x y c q os → i < last_chunk (head x) → Open y i
still_open x y c i q os O B l =
    record {
      follows = B.follows;
      mode = ap (λ (m : ℕ). eqb m 1) B.mode_is ∙ O.mode;
      chunk = subst (λ (h : Sizes). i < last_chunk h) (sym B.head_is) l;
    }
