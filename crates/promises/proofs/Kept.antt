-- Along every history memory follows the layout, stands for the set described, and gives document 01's answers. Assumes nothing.
use mathlib.Core.Path.{◌≡◌, ap, ap₂, subst, ◌∙◌}
use lib.ListN.{take}
use Rattle.document.specs.State.{State}
use Rattle.document.specs.Insert.{new_answer}
use Rattle.document.specs.Answers.{answer, after, reply}
use Rattle.document.specs.Union.{union_answer, united, leftover}
use Rattle.document.specs.Plan.{PlansFor}
use Rattle.document.specs.RangeList.{marks, marks_in, hits}
use Rattle.layout.specs.Mem.{Mem}
use Rattle.layout.specs.Meaning.{state_of}
use Rattle.layout.specs.Follows.{Follows}
use Rattle.lists.specs.Lists.{open_answer, unless_refused, answered, one_of}
use Rattle.lists.specs.Inserts.{in_turn, all_next, after_of}
use Rattle.promises.specs.Histories.{Step, set_up, changed, read, planned, marks_set, ends_set, read_all, inserted_all, Story, made, then, took, gave, last_by, last, Stepped, Happened, described_by, described, RightBy, Kept}
use Rattle.promises.proofs.SetUps.{fit, set_up_right, set_up_follows, set_up_state}
use Rattle.std.specs.Prelude.{Ok}

-- one step
pub record Onward (x : Mem) (q : State) (t : Step) : Type 0 where
  pub follows : Follows (last_by x t)
  pub state : state_of (last_by x t) ≡ described_by q t
  pub right : RightBy x q t

onward : (x : Mem) (q : State) (t : Step) → Follows x → state_of x ≡ q → Stepped x t → Onward x q t
onward x q (set_up h a y) w s d = record { follows = set_up_follows h x a d w; state = set_up_state h x q a d s; right = set_up_right h x d }
onward x q (changed c a y) w s d =
    let r = d.says w in
    record { follows = r.follows; state = r.state ∙ ap (λ (p : State). after p c) s; right = r.said ∙ ap (λ (p : State). answer p c) s }
onward x q (read k a) w s d = record { follows = w; state = s; right = d.says w ∙ ap (λ (p : State). reply p k) s }
onward x q (planned S bs a cs) w s d = record { follows = w; state = s; right = subst (λ (p : State). PlansFor p S bs a cs) s (d.says w) }
onward x q (marks_set rs a us) w s d = record { follows = w; state = s; right = subst (λ (p : State). (a ≡ (Ok tt)) × (us ≡ marks (hits p) rs)) s (d.says w) }
onward x q (ends_set los his ms a ns) w s d = record { follows = w; state = s; right = subst (λ (p : State). (a ≡ (Ok tt)) × (ns ≡ marks_in (hits p) los his ms)) s (d.says w) }
onward x q (read_all k ids ns a us) w s d = record {
  follows = w;
  state = s;
  right = subst (λ (p : State). (a ≡ open_answer p.mode k) × (us ≡ unless_refused a (answered (one_of p k) ids ns) ns)) s (d.says w);
}
onward x q (inserted_all ids a y) w s d =
    let r = d.says w in
    record {
      follows = r.follows;
      state = r.state ∙ ap (λ (p : State). all_next after_of p (take a.taken ids)) s;
      right = r.said ∙ ap (λ (p : State). in_turn new_answer after_of p ids) s;
    }

pub all_kept : (s : Story) → Happened s → Kept s
all_kept (made h x y) r =
    let f = fit h x r.by in
    let m = r.made f.0 f.1 in
    record { follows = m.1; state = m.2; right = tt }
all_kept (then s t) r =
    let k = all_kept s r.0 in
    let o = onward (last s) (described s) t k.follows k.state r.1 in
    record { follows = o.follows; state = o.state; right = (k.right, o.right) }
all_kept (took s t j a x y) r =
    let k = all_kept s r.0 in
    let i = all_kept t r.1 in
    let d = r.2.says k.follows i.follows in
    record {
      follows = d.follows;
      state = d.state ∙ ap₂ (λ (q p : State). united q p a) k.state i.state;
      right = (k.right, i.right, d.said ∙ ap₂ (λ (q p : State). union_answer q p j) k.state i.state);
    }
all_kept (gave s t j a x y) r =
    let k = all_kept s r.0 in
    let i = all_kept t r.1 in
    let d = r.2.says k.follows i.follows in
    record {
      follows = d.source_follows;
      state = d.source_state ∙ ap (λ (p : State). leftover p j a) i.state;
      right = (k.right, i.right, d.said ∙ ap₂ (λ (q p : State). union_answer q p j) k.state i.state);
    }
