-- Ranking an open set and leaving the ranked form reaches the same memory. Assumes nothing.
use mathlib.Core.Path.{◌≡◌, ap, ◌∙◌}
use mathlib.Core.Bool.{Bool, true, false, cond}
use Rattle.layout.specs.Mem.{Mem}
use Rattle.layout.specs.Sizes.{head}
use Rattle.layout.specs.Meaning.{ranked}
use Rattle.layout.specs.Follows.{Follows}
use Rattle.layout.specs.SetUp.{Did, did}
use Rattle.document.specs.declared.sizes.Sizes.{Sizes}
use Rattle.layout_laws.proofs.Walked.{follows_walked}
use Rattle.document.specs.Calls.{rank_up, leave, Said}
use Rattle.contracts.specs.Runs.{Ran}
use Rattle.contracts.specs.Does.{Does}
use Rattle.ranks.specs.Form.{to_ranked, to_open, rank_up_by, open_by}
use Rattle.ranks.proofs.Forms.{rank_up_says}
use Rattle.ranks.proofs.Returns.{ranked_open}
use Rattle.document.specs.Refusals.{is_open, is_ranked, not_laid_out}
use Rattle.std.specs.Prelude.{Err, Ok}

ranks_up : {x : Mem} → Follows x → ranked x ≡ false → rank_up_by x ≡ did (Ok tt) (to_ranked (head x) x)
unfolding rank_up_by
ranks_up {x} w o =
    ap (λ (b : Bool). cond b (cond (ranked x) (did (Err is_ranked) x) (did (Ok tt) (to_ranked (head x) x))) (did (Err not_laid_out) x)) (follows_walked w)
    ∙ ap (λ (b : Bool). cond b (did (Err is_ranked) x) (did (Ok tt) (to_ranked (head x) x))) o

leaves_it : {y : Mem} → Follows y → ranked y ≡ true → open_by y ≡ did (Ok tt) (to_open (head y) y)
unfolding open_by
leaves_it {y} w r =
    ap (λ (b : Bool). cond b (cond (ranked y) (did (Ok tt) (to_open (head y) y)) (did (Err is_open) y)) (did (Err not_laid_out) y)) (follows_walked w)
    ∙ ap (λ (b : Bool). cond b (did (Ok tt) (to_open (head y) y)) (did (Err is_open) y)) r

model_back : {x : Mem} → Follows x → ranked x ≡ false → (open_by (rank_up_by x).after).after ≡ x
model_back {x} w o =
    let e = ranks_up w o in
    let t = rank_up_says w in
    let y = (rank_up_by x).after in
    ap (λ (d : Did). d.after) (leaves_it t.follows (t.mode (ap (λ (d : Did). d.answer) e)))
    ∙ ap (λ (h : Sizes). to_open h y) t.sizes
    ∙ ap (λ (d : Did). to_open (head x) d.after) e
    ∙ ranked_open w o

-- whatever the two contracts allow
pub up_and_back : {x : Mem} → Follows x → ranked x ≡ false → {a b : Said} {u v : Mem} → Does x rank_up a u → Does u leave b v → v ≡ x
up_and_back {x} w o d e =
    ap (λ (r : Ran). r.after) e.by
    ∙ ap (λ (u : Mem). (open_by u).after) (ap (λ (r : Ran). r.after) d.by)
    ∙ model_back w o
