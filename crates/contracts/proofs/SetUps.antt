-- From set-up's model to what its contract says. Assumes nothing.
use mathlib.Core.Path.{◌≡◌, sym, ap, subst, ◌∙◌, fun_ext}
use Rattle.document.specs.Sizes.{InRange}
use Rattle.document.specs.State.{empty}
use Rattle.document.specs.declared.sizes.Sizes.{Sizes}
use Rattle.layout.specs.Mem.{Mem}
use Rattle.layout.specs.Sizes.{RoomIn}
use Rattle.layout.specs.Meaning.{state_of}
use Rattle.layout.specs.Follows.{Follows}
use Rattle.layout.specs.SetUp.{Did, did, fresh, set_up_by}
use Rattle.layout_laws.proofs.Fresh.{head_fresh, fresh_follows, fresh_holds, fresh_kinds, fresh_open}
use Rattle.layout_laws.proofs.SetUp.{set_up_sizes, set_up_short, set_up_done}
use Rattle.contracts.specs.Does.{SetsUp}
use Rattle.contracts.proofs.Steps.{same_state}
use Rattle.document.specs.Results.{Outcome}

parts : {a b : Outcome} {x y : Mem} → did a x ≡ did b y → (a ≡ b) × (x ≡ y)
parts e = (ap (λ (d : Did). d.answer) e, ap (λ (d : Did). d.after) e)

fresh_empty : (h : Sizes) (x : Mem) → InRange h → RoomIn h x → state_of (fresh h x) ≡ empty h
fresh_empty h x z r = same_state (head_fresh h x) (fresh_open h x z r) (fun_ext (fresh_holds h x z r)) (fun_ext (fresh_kinds h x z r))

pub sets_up : (h : Sizes) (x : Mem) {a : Outcome} {y : Mem} → did a y ≡ set_up_by h x → SetsUp h x a y
sets_up h x e =
    record {
      by = e;
      outside = λ n. parts (e ∙ set_up_sizes h x n);
      short = λ z n. parts (e ∙ set_up_short h x z n);
      made = λ z r.
          let p = parts (e ∙ set_up_done h x z r) in
          (p.0, subst Follows (sym p.1) (fresh_follows h x z r), ap state_of p.1 ∙ fresh_empty h x z r);
    }
