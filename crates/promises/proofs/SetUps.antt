-- Set-up as a step: accepted it makes an empty open set, refused it leaves memory. Assumes nothing.
use mathlib.Core.Path.{◌≡◌, refl, sym, ap, ◌∙◌}
use mathlib.Core.Bool.{Bool, true, false, cond}
use Rattle.document.specs.Sizes.{InRange}
use Rattle.document.specs.State.{State}
use Rattle.document.specs.declared.sizes.Sizes.{Sizes}
use Rattle.layout.specs.Mem.{Mem}
use Rattle.layout.specs.Sizes.{RoomIn}
use Rattle.layout.specs.Meaning.{state_of}
use Rattle.layout.specs.Follows.{Follows}
use Rattle.layout.specs.Tests.{in_range, room_in}
use Rattle.layout.specs.SetUp.{Did, did, fresh, set_up_by}
use Rattle.layout.proofs.Tests.{range_of, room_of}
use Rattle.contracts.specs.Does.{SetsUp}
use Rattle.promises.specs.Histories.{remade, RightSetUp}
use Rattle.document.specs.Refusals.{not_laid_out, outside_sizes, too_short}
use Rattle.document.specs.Results.{Outcome}
use Rattle.std.specs.Prelude.{Err, Ok}
use Rattle.document.specs.declared.refusal.Refusal.{Refusal}

differ : (n : Refusal) → ◌≡◌ {A = Outcome} (Ok tt) (Err n) → ⊥
differ n e = cc

module _ (h : Sizes) (x : Mem) where
  abbrev tested : Bool → Bool → Did
  tested a b = cond a (cond b (did (Ok tt) (fresh h x)) (did (Err too_short) x)) (did (Err outside_sizes) x)

  fit_by : (a b : Bool) → in_range h ≡ a → room_in h x ≡ b → {y : Mem} → did (Ok tt) y ≡ tested a b → InRange h × RoomIn h x
  fit_by true true p q e = ((range_of h).sound p, (room_of h x).sound q)
  fit_by true false p q e = absurd (differ too_short (ap (λ (d : Did). d.answer) e))
  fit_by false b p q e = absurd (differ outside_sizes (ap (λ (d : Did). d.answer) e))

  stays_by : (a b : Bool) {n : Refusal} {y : Mem} → did (Err n) y ≡ tested a b → y ≡ x
  stays_by true true {n} e = absurd (differ n (sym (ap (λ (d : Did). d.answer) e)))
  stays_by true false e = ap (λ (d : Did). d.after) e
  stays_by false b e = ap (λ (d : Did). d.after) e

  -- accepted: the sizes are of the table, and the slices long enough
  pub fit : {y : Mem} → did (Ok tt) y ≡ set_up_by h x → InRange h × RoomIn h x
  unfolding set_up_by
  fit e = fit_by (in_range h) (room_in h x) refl refl e

  pub stays : {n : Refusal} {y : Mem} → did (Err n) y ≡ set_up_by h x → y ≡ x
  unfolding set_up_by
  stays e = stays_by (in_range h) (room_in h x) e

  three_by : (a b : Bool) {y : Mem} → did (Err not_laid_out) y ≡ tested a b → ⊥
  three_by true true e = differ not_laid_out (sym (ap (λ (d : Did). d.answer) e))
  three_by true false e = let f : ◌≡◌ {A = Outcome} (Err not_laid_out) (Err too_short) = ap (λ (d : Did). d.answer) e in cc
  three_by false b e = let f : ◌≡◌ {A = Outcome} (Err not_laid_out) (Err outside_sizes) = ap (λ (d : Did). d.answer) e in cc

  pub not_three : {y : Mem} → SetsUp h x (Err not_laid_out) y → ⊥
  unfolding set_up_by
  not_three s = three_by (in_range h) (room_in h x) s.by

  pub set_up_right : {a : Outcome} {y : Mem} → SetsUp h x a y → RightSetUp h x a
  set_up_right s = record { outside = λ n. (s.outside n).0; short = λ z n. (s.short z n).0; made = λ z r. (s.made z r).0 }

-- what follows the layout before it does so after it, and stands for the set that set_up leaves
pub set_up_follows : (h : Sizes) (x : Mem) (a : Outcome) {y : Mem} → SetsUp h x a y → Follows x → Follows y
set_up_follows h x (Ok tt) s w = let f = fit h x s.by in (s.made f.0 f.1).1
set_up_follows h x (Err n) s w = rw (stays h x s.by) w

pub set_up_state : (h : Sizes) (x : Mem) (q : State) (a : Outcome) {y : Mem} → SetsUp h x a y → state_of x ≡ q → state_of y ≡ remade q h a
set_up_state h x q (Ok tt) s e = let f = fit h x s.by in (s.made f.0 f.1).2
set_up_state h x q (Err n) s e = ap state_of (stays h x s.by) ∙ e
