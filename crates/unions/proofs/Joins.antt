-- What the tests of union leave holds after each step of a chunk that the source has: there is an entry for it, and memory passes the walk again. Assumes nothing.
use mathlib.Core.Path.{◌≡◌, refl, sym, ap, ap₂, subst, ◌∙◌}
use mathlib.Core.List.{List}
use mathlib.Core.Bool.{Bool, true, false, cond, not, ◌&&◌, ◌||◌}
use Prim.Native.Nat.{ℕ, ◌+◌, ◌≤◌, ◌<◌}
use native.Mathlib.Omega.{arith}
use lib.ListN.{length}
use lib.Dec.{leb, eqb}
use mir.Val.{bool_byte}
use borrow.Author.Tests.{eqb-true, eq-eqb, ne_eqb, le-leb}
use Rattle.sums.specs.Ids.{Ids, count}
use Rattle.sums.proofs.Counts.{count_change}
use Rattle.sums.proofs.Rules.{both}
use Rattle.document.specs.Sizes.{last_chunk}
use Rattle.document.specs.State.{Kind, is_present}
use Rattle.document.specs.Refusals.{not_laid_out, is_ranked, sizes_differ}
use Rattle.document.specs.Union.{Join, merge_from, merge, same_shape}
use Rattle.document.specs.declared.sizes.Sizes.{Sizes}
use Rattle.layout.specs.Mem.{Mem, mem}
use Rattle.layout.specs.Sizes.{head}
use Rattle.layout.specs.Places.{decoded}
use Rattle.layout.specs.Entries.{place_of}
use Rattle.layout.specs.Meaning.{kind_of, kinds, ranked}
use Rattle.layout.specs.Tests.{Walked, walked}
use Rattle.layout.specs.declared.place.Place.{Place}
use Rattle.layout.specs.declared.place.Place.TheVariants.{Absent, Sparse, Dense}
use Rattle.layout.proofs.Tests.{walked_of}
use Rattle.layout_laws.proofs.Walked.{walked_beside}
use Rattle.layout_laws.proofs.ChunkCounts.{over_chunks}
use Rattle.steps.specs.Effects.{EntryFor}
use Rattle.steps.proofs.Table.{header_kept}
use Rattle.steps.proofs.Moves.{Moved, open_after, walked_step, kinds_step}
use Rattle.calls.proofs.Needed.{count_imp}
use Rattle.unions.specs.Union.{standing, is_placed, new_entry, over_after, judged, barred_by, union_plan}
use Rattle.unions.specs.Joinable.{Joinable}
use Rattle.unions.proofs.Counts.{count_more, by_chunks}
use Rattle.unions.proofs.Judged.{judged_room}
use Rattle.document.specs.Results.{Outcome}
use Rattle.std.specs.Prelude.{Err, Ok}

-- ---- an accepted plan

gate : (a b c : Bool) (j : Outcome) → cond a (cond b (Err is_ranked) (cond c j (Err sizes_differ))) (Err not_laid_out) ≡ Ok tt
    → (a ≡ true) × (b ≡ false) × (c ≡ true) × (j ≡ Ok tt)
gate false b c j e = absurd cc
gate true true c j e = absurd cc
gate true false false j e = absurd cc
gate true false true j e = (refl, refl, refl, e)

open_here : (x y : Mem) (j : Join) → barred_by x y j ≡ false → ranked x ≡ false
open_here x y merge_from e = e
open_here x y merge e = go (ranked x) (ranked y) e
  where
    go : (a b : Bool) → (a || b) ≡ false → a ≡ false
    go true b e = e
    go false b e = refl

pub plan_joins : (x y : Mem) (j : Join) → union_plan x y j ≡ Ok tt → Joinable x y
unfolding union_plan
plan_joins x y j e =
    let g = gate (walked x && walked y) (barred_by x y j) (same_shape (head x) (head y)) (judged x y) e in
    let w = both (walked x) (walked y) g.0 in
    record {
      here = (walked_of x).sound w.0;
      there = (walked_of y).sound w.1;
      mode = open_here x y j g.1;
      shape = g.2;
      over = (judged_room x y g.3).0;
    }

-- ---- overflow entries

-- chunks past the direct ones that x or y has
either_past : Sizes → Mem → Mem → ℕ → Bool
either_past h x y c = leb h.d c && (is_present (kinds x c) || is_present (kinds y c))

placed_is : (q : Place) → is_placed q ≡ is_present (kind_of q)
placed_is Absent = refl
placed_is (Sparse r l) = refl
placed_is (Dense p) = refl

over_one : (p a b : Bool) → bool_byte (p && a) + bool_byte (b && (p && not a)) ≡ bool_byte (p && (a || b))
over_one true true true = refl
over_one true true false = refl
over_one true false true = refl
over_one true false false = refl
over_one false a true = refl
over_one false a false = refl

over_place : (p : Bool) (o q : Place)
    → bool_byte (p && is_present (kind_of o)) + bool_byte (is_placed q && (p && not (is_placed o))) ≡ bool_byte (p && (is_present (kind_of o) || is_present (kind_of q)))
over_place p o q =
    ap₂ (λ (a b : Bool). bool_byte (p && is_present (kind_of o)) + bool_byte (b && (p && not a))) (placed_is o) (placed_is q)
    ∙ over_one p (is_present (kind_of o)) (is_present (kind_of q))

module _ {x y : Mem} (w : Walked x (head x)) (v : Walked y (head y)) (same : same_shape (head x) (head y) ≡ true) where
  over_either : over_after x y ≡ count (either_past (head x) x y) (last_chunk (head x))
  unfolding new_entry kinds either_past
  over_either =
      let h = head x in
      let enters : ℕ → Place → Place → Bool = λ c o q. is_placed q && (leb h.d c && not (is_placed o)) in
      let a = over_chunks w in
      let b = by_chunks w v same (new_entry x y) enters (λ c o. refl) (λ e. refl) in
      let d = count_more (λ (c : ℕ). leb h.d c && is_present (kinds x c)) (λ (c : ℕ). enters c (place_of h x.table c) (place_of (head y) y.table c))
      (either_past h x y) (last_chunk h) (λ c l. over_place (leb h.d c) (place_of h x.table c) (place_of (head y) y.table c)) in
      omega arith

-- one more than another, which holds wherever the other does
count_less_by : (P Q : Ids) (c n : ℕ) → c < n → P c ≡ false → Q c ≡ true → ((j : ℕ) → P j ≡ true → Q j ≡ true) → count P n < count Q n
count_less_by P Q c n l p q f =
    let R : Ids = λ j. cond (eqb j c) true (P j) in
    let a = count_change P R c n l (λ j m d. ap (λ (b : Bool). cond b true (P j)) (ne_eqb j c d)) in
    let b : bool_byte (P c) ≡ 0 = ap bool_byte p in
    let d : bool_byte (R c) ≡ 1 = ap (λ (b : Bool). bool_byte (cond b true (P c))) (eq-eqb c c refl) in
    let e = count_imp R Q n (λ j r. go j (eqb j c) refl r) in
    omega arith
  where
    go : (j : ℕ) (b : Bool) → eqb j c ≡ b → cond b true (P j) ≡ true → Q j ≡ true
    go j true e r = ap Q (eqb-true j c e) ∙ q
    go j false e r = f j r

or_left : (p a b : Bool) → (p && a) ≡ true → (p && (a || b)) ≡ true
or_left true true b e = refl
or_left true false b e = absurd cc
or_left false a b e = e

or_right : (p a b : Bool) → p ≡ true → b ≡ true → (p && (a || b)) ≡ true
or_right p true b e f = ap (λ (i : Bool). i && true) e
or_right p false b e f = ap₂ ◌&&◌ e f

and_none : (p a : Bool) → a ≡ false → (p && a) ≡ false
and_none true a e = e
and_none false a e = refl

-- a chunk that the source has and the destination hasn't finds room for its entry
pub entry_room : {x y : Mem} → Joinable x y → (c : ℕ) → c < last_chunk (head x) → is_present (kinds x c) ≡ false → is_present (kinds y c) ≡ true
    → EntryFor (head x) x.table c
unfolding either_past
entry_room {x} {y} J c l a b d =
    let h = head x in
    let e = over_either J.here J.there J.shape in
    let f = over_chunks J.here in
    let g = J.over in
    let i = count_less_by (λ (j : ℕ). leb h.d j && is_present (kinds x j)) (either_past h x y) c (last_chunk h) l (and_none (leb h.d c) (is_present (kinds x c)) a)
    (or_right (leb h.d c) (is_present (kinds x c)) (is_present (kinds y c)) (le-leb h.d c d) b)
    (λ j. or_left (leb h.d j) (is_present (kinds x j)) (is_present (kinds y j))) in
    omega arith

-- ---- a step of a chunk that the source has

same_past : (p : Bool) {k m : Kind} (b : Bool) → k ≡ m → (p && (is_present k || b)) ≡ true → (p && (is_present m || b)) ≡ true
same_past p b e f = ap (λ (k : Kind). p && (is_present k || b)) (sym e) ∙ f

first_of : (p a : Bool) → (p && a) ≡ true → p ≡ true
first_of true a e = refl
first_of false a e = e

module _ {x y z : Mem} (J : Joinable x y) (c v : ℕ) (m : Moved (head x) x z c v) (far : c < last_chunk (head x)) (has : is_present (kinds y c) ≡ true) where
  pub head_moved : head z ≡ head x
  head_moved = header_kept (head x) x.table z.table c v m.wrote

  kind_then : (i : ℕ) → kinds z i ≡ cond (eqb i c) (kind_of (decoded v)) (kinds x i)
  kind_then = kinds_step x z c v (decoded v) J.here J.mode far m refl

  -- no chunk that neither had
  none_more : (i : ℕ) → either_past (head x) z y i ≡ true → either_past (head x) x y i ≡ true
  unfolding either_past
  none_more i e = go (eqb i c) refl
    where
      go : (b : Bool) → eqb i c ≡ b → (leb (head x).d i && (is_present (kinds x i) || is_present (kinds y i))) ≡ true
      go true q =
          or_right (leb (head x).d i) (is_present (kinds x i)) (is_present (kinds y i))
          (first_of (leb (head x).d i) (is_present (kinds z i) || is_present (kinds y i)) e)
          (ap (λ (j : ℕ). is_present (kinds y j)) (eqb-true i c q) ∙ has)
      go false q =
          same_past (leb (head x).d i) (is_present (kinds y i))
          (kind_then i ∙ ap (λ (b : Bool). cond b (kind_of (decoded v)) (kinds x i)) q) e

  walks : Walked z (head z)
  walks = subst (Walked z) (sym head_moved) (walked_step (head x) x z c v J.here J.mode far m)

  shape : same_shape (head z) (head y) ≡ true
  shape = subst (λ (h : Sizes). same_shape h (head y) ≡ true) (sym head_moved) J.shape

  fits : over_after z y ≤ (head z).v
  fits =
      let a = over_either walks J.there shape in
      let b = ap (λ (h : Sizes). count (either_past h z y) (last_chunk h)) head_moved in
      let d = over_either J.here J.there J.shape in
      let e = count_imp (either_past (head x) z y) (either_past (head x) x y) (last_chunk (head x)) none_more in
      let f = J.over in
      let g = ap (λ (h : Sizes). h.v) head_moved in
      omega arith

  pub joins_moved : Joinable z y
  joins_moved = record { here = walks; there = J.there; mode = open_after (head x) x z c v J.here J.mode far m; shape = shape; over = fits }

-- ---- other pages, as many

pub joins_pages : {x y : Mem} → Joinable x y → (ps : List ℕ) → length ps ≡ length x.pages → Joinable (mem ps x.rows x.blocks x.table) y
unfolding new_entry standing
joins_pages {x} {y} J ps e =
    let w = J.here in
    let r = w.room in
    record {
      here =
          walked_beside w ps x.rows x.blocks
          (record { in_pages = let i = r.in_pages in omega arith; in_rows = r.in_rows; in_blocks = r.in_blocks; in_table = r.in_table });
      there = J.there;
      mode = J.mode;
      shape = J.shape;
      over = J.over;
    }
