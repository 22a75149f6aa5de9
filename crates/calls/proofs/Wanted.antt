-- Id n into an open set: where it lies, the answer that is wanted, and what the map needs after. Assumes nothing.
use mathlib.Core.Path.{◌≡◌, refl, ap, ◌∙◌}
use mathlib.Core.Bool.{Bool, true, false, cond}
use Prim.Native.Nat.{ℕ, ◌/◌, ◌%◌, ◌^◌, ◌<◌}
use native.Mathlib.Nat.{mod-lt}
use native.Mathlib.Omega.{arith}
use lib.IntN.{ℤ, pos}
use lib.Pow.{pow_pos}
use lib.Dec.{leb}
use Rattle.layout.specs.Mem.{Mem}
use Rattle.document.specs.Sizes.{top, last_chunk}
use Rattle.layout.specs.Sizes.{head}
use Rattle.layout.specs.Entries.{place_of}
use Rattle.document.specs.State.{Kind}
use Rattle.layout.specs.Meaning.{offsets, holds, kind_of, kinds, ranked, state_of}
use Rattle.layout.specs.Follows.{Follows}
use Rattle.layout.specs.declared.place.Place.{Place}
use Rattle.steps.specs.Effects.{Open}
use Rattle.numbers.proofs.Splits as splits
use Rattle.calls.specs.Insert.{Told, acted}
use Rattle.document.specs.Insert.{chunk_size, grown, grown_map, new_answer}
use Rattle.document.specs.Room.{verdict}
use Rattle.calls.proofs.Outcomes.{Inserts}
use Rattle.calls.proofs.Verdicts.{verdict_room, sparses_fit, denses_fit, overflows_fit, Needs, needs}
use Rattle.calls.proofs.Grown.{grown_at, grown_off, known_member}
use Rattle.calls.specs.Planned.{InsertPlan}
use Rattle.calls.specs.declared.plan.Plan.TheVariants.{Known}
use Rattle.document.specs.Refusals.{is_ranked}
use Rattle.document.specs.Results.{Truth}
use Rattle.std.specs.Prelude.{Err, Ok}

-- where id n lies
abbrev pub chunk : Mem → ℕ → ℕ
chunk x n = n / top (head x)

abbrev pub offset : Mem → ℕ → ℕ
offset x n = n % top (head x)

abbrev pub placed : Mem → ℕ → Place
placed x n = place_of (head x) x.table (chunk x n)

-- the map with id n
abbrev pub after : Mem → ℕ → ℕ → Kind
after x n = grown_map (state_of x) (chunk x n)

-- what is told is document 01's answer, and the set after it
abbrev pub Says : Mem → ℤ → Truth → Told → Type 0
Says x z wanted t = Inserts x z wanted t.answer t.after

-- a plan that does as document 01 says
abbrev pub Good : Mem → ℕ → InsertPlan → Type 0
Good x n q = Says x (pos n) (new_answer (state_of x) (pos n)) (acted x (chunk x n) (offset x n) q)

-- an open set that follows the layout, and an id of 0 or more
pub record Into (x : Mem) (n : ℕ) : Type 0 where
  pub follows : Follows x
  pub mode : ranked x ≡ false
  pub small : n < 2 ^ 63

module _ {x : Mem} {n : ℕ} (i : Into x n) where
  chunk_in : chunk x n < last_chunk (head x)
  chunk_in = let s = i.follows.sizes.s_high in splits.chunk_below (head x).s n (omega arith) i.small

  pub offset_in : offset x n < top (head x)
  offset_in = mod-lt n (pow_pos (head x).s)

  pub open_at : Open x (chunk x n)
  open_at = record { follows = i.follows; mode = i.mode; chunk = chunk_in }

  pub holds_of : (p : Place) → placed x n ≡ p → holds x n ≡ offsets (head x) x p (offset x n)
  unfolding holds
  holds_of p e = ap (λ (q : Place). offsets (head x) x q (offset x n)) e

  pub kind_of_law : (p : Place) → placed x n ≡ p → kinds x (chunk x n) ≡ kind_of p
  unfolding kinds
  kind_of_law p e = ap kind_of e

  -- ---- the answer that is wanted

  wanted_if : (b : Bool) → holds x n ≡ b → new_answer (state_of x) (pos n) ≡ cond b (Ok false) (verdict (head x) (after x n) (Ok true))
  unfolding new_answer
  wanted_if b e =
      let v = verdict (head x) (after x n) (Ok true) in
      ap (λ (t : Bool). cond t (Err is_ranked) (cond (holds x n) (Ok false) v)) i.mode ∙ ap (λ (t : Bool). cond t (Ok false) v) e

  -- a member: no
  pub known_good : holds x n ≡ true → Good x n (Ok Known)
  known_good e = known_member i.follows n (new_answer (state_of x) (pos n)) e (wanted_if true e)

  pub wanted_new : holds x n ≡ false → new_answer (state_of x) (pos n) ≡ verdict (head x) (after x n) (Ok true)
  wanted_new e = wanted_if false e

  -- ---- what the map needs after

  pub grown_needs : (a b : Kind) → kinds x (chunk x n) ≡ a → grown a (chunk_size (state_of x) (chunk x n)) (head x).m ≡ b → Needs (head x) (kinds x) (after x n) (chunk x n) a b
  grown_needs a b e g =
      needs (head x) (kinds x) (after x n) (chunk x n) a b chunk_in (grown_off x (chunk x n)) e
      (grown_at x (chunk x n) ∙ ap (λ (k : Kind). grown k (chunk_size (state_of x) (chunk x n)) (head x).m) e ∙ g)

  -- a chunk that keeps its kind needs nothing
  pub same_room : (a : Kind) → kinds x (chunk x n) ≡ a → grown a (chunk_size (state_of x) (chunk x n)) (head x).m ≡ a → holds x n ≡ false → new_answer (state_of x) (pos n) ≡ Ok true
  same_room a e g new =
      let d = grown_needs a a e g in
      let u = d.over (leb (head x).d (chunk x n)) refl in
      let v = d.rows in
      let y = d.pages in
      let b = overflows_fit i.follows in
      let c = sparses_fit i.follows in
      let f = denses_fit i.follows in
      wanted_new new ∙ verdict_room (head x) (after x n) (Ok true) (omega arith) (omega arith) (omega arith)
