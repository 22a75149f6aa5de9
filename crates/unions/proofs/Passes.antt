-- Both passes: what the set is between them, and at the end. Assumes nothing.
use mathlib.Core.Path.{◌≡◌, sym, subst}
use mathlib.Core.Logic.{◌≢◌}
use mathlib.Core.Bool.{true, false}
use Prim.Native.Nat.{ℕ, ◌≤◌, ◌<◌}
use native.Mathlib.Omega.{arith}
use Rattle.document.specs.State.{State}
use Rattle.document.specs.Room.{overflows, sparses, denses}
use Rattle.document.specs.Union.{union_map, same_shape, united}
use Rattle.document.specs.declared.sizes.Sizes.{Sizes}
use Rattle.layout.specs.Mem.{Mem}
use Rattle.layout.specs.Sizes.{head}
use Rattle.layout.specs.Entries.{place_of}
use Rattle.layout.specs.Meaning.{ranked, state_of}
use Rattle.layout.specs.Follows.{Follows}
use Rattle.layout.specs.declared.place.Place.TheVariants.{Absent}
use Rattle.steps.proofs.Slots.{entry_none}
use Rattle.unions.specs.Union.{source_chunk, source_entries, dense_to, united_by}
use Rattle.unions.proofs.Partly.{Has, Alike, Partly, partly_none, partly_all}
use Rattle.unions.proofs.Halfway.{halfway, half_none, all_none}
use Rattle.unions.proofs.FirstPass.{first_pass}
use Rattle.unions.proofs.SecondPass.{second_pass}
use Rattle.std.specs.Prelude.{Ok}

module _ {x y : Mem} (w : Follows x) (mode : ranked x ≡ false) (v : Follows y) (same : same_shape (head x) (head y) ≡ true)
    (over : overflows (head x) (union_map (state_of x) (state_of y)) ≤ (head x).v) (rows : sparses (head x) (union_map (state_of x) (state_of y)) ≤ (head x).r)
    (pages : denses (head x) (union_map (state_of x) (state_of y)) ≤ (head x).p) where
  abbrev half : State
  half = halfway (state_of x) (state_of y)

  abbrev whole : State
  whole = united (state_of x) (state_of y) (Ok tt)

  -- a chunk without an entry of the source
  lacks : (i : ℕ) → ((j : ℕ) → j < source_entries y → source_chunk y j ≢ i) → place_of (head y) y.table i ≡ Absent
  lacks i none = entry_none (head y) y.table i none

  -- ---- between the passes

  abbrev mid : Mem
  mid = dense_to x y (source_entries y)

  made_dense : Partly x y (state_of x) half (source_entries y) mid
  made_dense = first_pass w mode v same over pages (source_entries y) (omega arith)

  is_half : (i : ℕ) → Has mid i half
  is_half =
      partly_all made_dense
      (λ i none. subst (λ (h : Sizes). Alike h i (state_of x) half) (sym made_dense.sizes) (half_none x y i same (lacks i none)))

  pub halfway_there : Partly x y (halfway (state_of x) (state_of y)) (united (state_of x) (state_of y) (Ok tt)) 0 (dense_to x y (source_entries y))
  halfway_there = partly_none made_dense.follows made_dense.sizes made_dense.mode is_half

  -- ---- at the end

  pub all_there : Partly x y (halfway (state_of x) (state_of y)) (united (state_of x) (state_of y) (Ok tt)) (source_entries y) (united_by x y)
  unfolding united_by
  all_there = second_pass x mode v same over rows mid halfway_there (source_entries y) (omega arith)

  pub is_united : (i : ℕ) → Has (united_by x y) i (united (state_of x) (state_of y) (Ok tt))
  is_united =
      partly_all all_there
      (λ i none. subst (λ (h : Sizes). Alike h i half whole) (sym all_there.sizes) (all_none x y i same (lacks i none)))
