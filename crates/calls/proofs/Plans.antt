-- The plan of an insert on memory that follows the layout, by the place of its chunk. Assumes nothing.
use mathlib.Core.Path.{◌≡◌, refl, sym, ap, ap₂, ◌∙◌}
use mathlib.Core.Logic.{◌≢◌}
use mathlib.Core.List.{List}
use mathlib.Core.Bool.{Bool, true, false, cond, ◌&&◌}
use Prim.Native.Nat.{ℕ, ◌+◌, ◌-◌, ◌*◌, ◌/◌, ◌%◌, ◌<◌}
use native.Mathlib.Omega.{arith}
use lib.ListN.{get_or, set}
use lib.Seq.{set-get_or}
use lib.Dec.{leb, ltb, eqb}
use borrow.Author.Tests.{ltb-true, ltb-false, eqb-false, lt-ltb, le-leb}
use Rattle.layout.specs.Mem.{Mem}
use Rattle.layout.specs.Sizes.{direct_at, over_at, head, mode_at, over_count}
use Rattle.layout.specs.Places.{decoded}
use Rattle.layout.specs.Entries.{word_of, place_of}
use Rattle.layout.specs.Short.{over_place, word_in}
use Rattle.layout.specs.Meaning.{ranked}
use Rattle.layout.specs.Follows.{Follows}
use Rattle.layout.specs.Tests.{head_is}
use Rattle.layout.proofs.Tests.{head_of}
use Rattle.document.specs.declared.sizes.Sizes.{Sizes}
use Rattle.layout.specs.declared.place.Place.{Place}
use Rattle.layout.specs.declared.place.Place.TheVariants.{Absent, Sparse, Dense}
use Rattle.layout_laws.proofs.Entries.{Ordered, word_direct, word_of_direct}
use Rattle.layout_laws.proofs.Short.{over_word_is, word_in_is}
use Rattle.layout_laws.proofs.Walked.{laid_walked}
use Rattle.layout.specs.Writes.{over_put, put_word}
use Rattle.calls.specs.Reading.{shift_ok}
use Rattle.calls.specs.Insert.{free_row, free_page, start_chunk, turn_dense, into_place, into_dense, by_word, insert_plan, prepared_plan, Told, told, if_open}
use Rattle.calls.proofs.Readings.{shift_ok_law}
use Rattle.calls.proofs.Places.{inside_of}
use Rattle.calls.specs.Planned.{InsertPlan}
use Rattle.calls.specs.declared.plan.Plan.TheVariants.{Begin, Turn}
use Rattle.document.specs.Refusals.{is_ranked, not_laid_out, overflow_full, pages_full, rows_full}
use Rattle.std.specs.Prelude.{Err, Ok}

-- ---- a word, by what it says

pub sparse_word : (w r l : ℕ) → decoded w ≡ Sparse r l → w ≡ 1 + (2048 * r + l)
sparse_word w r l e = go (eqb w 0) refl (ltb w 268435456) e
  where
    go : (a : Bool) → eqb w 0 ≡ a → (b : Bool) → cond a Absent (cond b (Sparse ((w - 1) / 2048) ((w - 1) % 2048)) (Dense (w - 268435456))) ≡ Sparse r l → w ≡ 1 + (2048 * r + l)
    go true p b q = absurd cc
    go false p true q = let n = eqb-false w 0 p in let i : (w - 1) / 2048 ≡ r = cc in let j : (w - 1) % 2048 ≡ l = cc in omega arith
    go false p false q = absurd cc

-- its row, of all that a word can name
pub sparse_below : (w r l : ℕ) → decoded w ≡ Sparse r l → r < 131072
sparse_below w r l e = go (eqb w 0) refl (ltb w 268435456) refl e
  where
    go : (a : Bool) → eqb w 0 ≡ a → (b : Bool) → ltb w 268435456 ≡ b → cond a Absent (cond b (Sparse ((w - 1) / 2048) ((w - 1) % 2048)) (Dense (w - 268435456))) ≡ Sparse r l → r < 131072
    go true p b s q = absurd cc
    go false p true s q = let n = ltb-true w 268435456 s in let i : (w - 1) / 2048 ≡ r = cc in omega arith
    go false p false s q = absurd cc

pub dense_word : (w p : ℕ) → decoded w ≡ Dense p → w ≡ 268435456 + p
dense_word w p e = go (eqb w 0) (ltb w 268435456) refl e
  where
    go : (a b : Bool) → ltb w 268435456 ≡ b → cond a Absent (cond b (Sparse ((w - 1) / 2048) ((w - 1) % 2048)) (Dense (w - 268435456))) ≡ Dense p → w ≡ 268435456 + p
    go true b s q = absurd cc
    go false true s q = absurd cc
    go false false s q = let n = ltb-false w 268435456 s in let i : w - 268435456 ≡ p = cc in omega arith

-- ---- a word that is there, put again

pub set_same : (t : List ℕ) (i w : ℕ) → get_or t i 0 ≡ w → set t i w ≡ t
set_same t i w e = ap (set t i) (sym e) ∙ set-get_or t i 0

module _ (h : Sizes) (t : List ℕ) (o : Ordered h t) (c w : ℕ) (is : word_of h t c ≡ w) (some : w ≢ 0) where
  pub put_same : put_word h t c w ≡ t
  unfolding put_word
  put_same = go (ltb c h.d) refl
    where
      k : ℕ
      k = over_place t (16 + 2 * h.d) (over_count t) c

      at : (a : Bool) (new : List ℕ) → cond a (get_or t (over_at h k + 1) 0) 0 ≡ w → cond a (set t (over_at h k + 1) w) new ≡ t
      at true new e = set_same t (over_at h k + 1) w e
      at false new e = absurd (some (sym e))

      go : (b : Bool) → ltb c h.d ≡ b → cond b (set t (direct_at c) w) (over_put h t c w k) ≡ t
      go true e = let l = ltb-true c h.d e in set_same t (direct_at c) w (sym (word_direct h t c l) ∙ sym (word_of_direct h t o c l) ∙ is)
      go false e = at (ltb k (over_count t) && eqb (get_or t (over_at h k) 0) c) _ (over_word_is h t o c (ltb-false c h.d e) ∙ is)

-- ---- the plan

module _ {x : Mem} (w : Follows x) where
  pub head_ok : head_is (head x) x ≡ true
  head_ok = (head_of (head x) x).whole (record { sizes = w.sizes; room = w.room; mode = w.mode; over_fits = w.over_fits })

  tested : (shift_ok x.table && leb (mode_at x.table) 1) ≡ true
  tested = ap₂ ◌&&◌ (shift_ok_law x w.sizes) (le-leb (mode_at x.table) 1 w.mode)

  -- 3 never, 4 of a ranked set
  pub if_open_law : (t : Told) → if_open x t ≡ cond (ranked x) (told (Err is_ranked) x) t
  if_open_law t = ap (λ (b : Bool). cond b (cond (ranked x) (told (Err is_ranked) x) t) (told (Err not_laid_out) x)) tested

  -- the chunk's own place
  by_place : (plan : Place → InsertPlan) (c : ℕ) → by_word x plan (word_in x.table c) ≡ plan (place_of (head x) x.table c)
  by_place plan c =
      ap (by_word x plan) (word_in_is x (laid_walked w) c)
      ∙ ap (λ (b : Bool). cond b (plan (place_of (head x) x.table c)) (Err not_laid_out)) (inside_of (laid_walked w) c)

  pub plan_at : (c o : ℕ) → insert_plan x c o ≡ into_place x c o (place_of (head x) x.table c)
  unfolding insert_plan
  plan_at c o = by_place (into_place x c o) c

  pub prepared_at_law : (c o : ℕ) → prepared_plan x c o ≡ into_dense x o (place_of (head x) x.table c)
  unfolding prepared_plan
  prepared_at_law c o = by_place (into_dense x o) c

  -- the header is as the layout says
  pub start_chunk_law : (c : ℕ)
      → start_chunk x c ≡ cond (leb (head x).d c && leb (head x).v (over_count x.table)) (Err overflow_full) (cond (ltb (free_row x) (head x).r) (Ok (Begin (free_row x))) (Err rows_full))
  start_chunk_law c =
      ap
      (λ (b : Bool).
      cond b
      (cond (leb (head x).d c && leb (head x).v (over_count x.table)) (Err overflow_full) (cond (ltb (free_row x) (head x).r) (Ok (Begin (free_row x))) (Err rows_full)))
      (Err not_laid_out))
      head_ok

  pub turn_dense_law : (r l : ℕ) → r < (head x).r → turn_dense x r l ≡ cond (ltb (free_page x) (head x).p) (Ok (Turn r l (free_page x))) (Err pages_full)
  turn_dense_law r l m =
      ap (λ (b : Bool). cond b (cond (ltb (free_page x) (head x).p) (Ok (Turn r l (free_page x))) (Err pages_full)) (Err not_laid_out)) (ap₂ ◌&&◌ head_ok (lt-ltb r (head x).r m))
