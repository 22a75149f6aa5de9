-- What a reading call over a list answers by its tests, and its contract from what it leaves. Assumes nothing.
use mathlib.Core.Path.{◌≡◌, refl, sym, ap, ◌∙◌}
use mathlib.Core.List.{List}
use mathlib.Core.Bool.{Bool, true, false, cond}
use Prim.Native.Nat.{ℕ}
use lib.IntN.{ℤ}
use borrow.Author.Tests.{eq-eqb, ne_eqb}
use Rattle.document.specs.Refusals.{not_laid_out, is_open}
use Rattle.layout.specs.Mem.{Mem}
use Rattle.layout.specs.Sizes.{head, mode_at}
use Rattle.layout.specs.Meaning.{ranked, state_of}
use Rattle.layout.specs.Follows.{Follows}
use Rattle.layout.specs.Tests.{Walked, walked}
use Rattle.layout.proofs.Tests.{walked_of}
use Rattle.layout_laws.proofs.Walked.{follows_walked}
use Rattle.lists.specs.Lists.{ListAsk, get_all, rank_all, one_by, answered, open_answer, list_answer, unless_refused, one_of, AnswersAll}
use Rattle.lists.proofs.AfterWalk.{open_ranked, ones_are}
use Rattle.document.specs.Results.{Outcome}
use Rattle.std.specs.Prelude.{Err, Ok}

-- ---- the tests

module _ (x : Mem) (ok : Bool) (e : ok ≡ walked x) where
  by_walk : (k : ListAsk) (b : Bool) → ok ≡ b → cond b (open_answer (ranked x) k) (Err not_laid_out) ≡ list_answer x k
  by_walk k b t = ap (λ (c : Bool). cond c (open_answer (ranked x) k) (Err not_laid_out)) (sym t ∙ e)

  pub answers_bad : (k : ListAsk) → ok ≡ false → Err not_laid_out ≡ list_answer x k
  answers_bad k n = by_walk k false n

  module _ (y : ok ≡ true) where
    pub walks_well : Walked x (head x)
    walks_well = (walked_of x).sound (sym e ∙ y)

    pub answers_get : (Ok tt) ≡ list_answer x get_all
    answers_get = by_walk get_all true y

    module _ (m : ℕ) (em : m ≡ mode_at x.table) where
      by_mode : (b : Bool) → ranked x ≡ b → cond b (Ok tt) (Err is_open) ≡ list_answer x rank_all
      by_mode b t = ap (λ (c : Bool). cond c (Ok tt) (Err is_open)) (sym t) ∙ by_walk rank_all true y

      pub answers_open : (m ≡ 1 → ⊥) → Err is_open ≡ list_answer x rank_all
      answers_open n = by_mode false (ne_eqb (mode_at x.table) 1 (λ (q : mode_at x.table ≡ 1). n (em ∙ q)))

      pub answers_ranked : m ≡ 1 → (Ok tt) ≡ list_answer x rank_all
      answers_ranked o = by_mode true (eq-eqb (mode_at x.table) 1 (sym em ∙ o))

-- done, so the table passed the walk, and where ranks are asked for the set is ranked
pub passed : (x : Mem) (k : ListAsk) → list_answer x k ≡ (Ok tt) → Walked x (head x) × (open_answer (ranked x) k ≡ (Ok tt))
passed x k e = go (walked x) refl e
  where
    go : (b : Bool) → walked x ≡ b → cond b (open_answer (ranked x) k) (Err not_laid_out) ≡ (Ok tt) → Walked x (head x) × (open_answer (ranked x) k ≡ (Ok tt))
    go true t h = ((walked_of x).sound t, h)
    go false t h = absurd cc

pub judged : (x : Mem) → list_answer x rank_all ≡ (Ok tt) → Walked x (head x) × (ranked x ≡ true)
judged x e = let p = passed x rank_all e in (p.0, open_ranked (ranked x) p.1)

-- ---- the contract

module _ (x : Mem) (k : ListAsk) (ids : List ℤ) (ns : List ℕ) (ns' : List ℕ) where
  plainly : Follows x → (a : Outcome) → a ≡ open_answer (ranked x) k → ns' ≡ unless_refused a (answered (one_by x k) ids ns) ns → ns' ≡ unless_refused a (answered (one_of (state_of x) k) ids ns) ns
  plainly w (Ok tt) m q = q ∙ ap (λ (f : ℤ → ℕ). answered f ids ns) (ones_are w k (sym m))
  plainly w (Err c) m q = q

  pub answers_all : (a : Outcome) → a ≡ list_answer x k → ns' ≡ unless_refused a (answered (one_by x k) ids ns) ns → AnswersAll x k ids ns a ns'
  answers_all a e q = record {
    said = e;
    list = q;
    says = λ w.
        let m = e ∙ ap (λ (b : Bool). cond b (open_answer (ranked x) k) (Err not_laid_out)) (follows_walked w) in
        (m, plainly w a m q);
  }
