-- Ranks by the form that the table has, and what a customer reads of them. Assumes nothing.
use mathlib.Core.Path.{◌≡◌, refl, ap, ◌∙◌}
use Prim.Native.Nat.{ℕ}
use lib.IntN.{ℤ}
use mir.Syntax.{w64}
use mir.Val.{SFits, of_z, to_z}
use Rattle.numbers.proofs.Signs.{hop}
use Rattle.numbers.specs.Ids.{split_of}
use Rattle.layout.specs.Mem.{Mem}
use Rattle.layout.specs.Sizes.{head, total_at}
use Rattle.ranks.specs.Rank.{rank_split, rank_by, rank_if_split, rank_if_by, total_by}
use Rattle.ranked.specs.Modes.{form_in}
use Rattle.document.specs.Calls as calls
use Rattle.document.specs.Calls.{total_count, many, maybe}
use Rattle.contracts.specs.Does.{Answers}
use Rattle.contracts.proofs.Readings.{answers}
use Rattle.ranked.proofs.Modes.{by_form, form_way}
use Rattle.document.specs.Results.{Amount, Perhaps}
use Rattle.document.specs.declared.refusal.Refusal.{Refusal}
use Rattle.ranked.specs.declared.mode.Form.{Form}
use Rattle.ranked.specs.declared.mode.Form.TheVariants.{Open, Ranked}
use Rattle.document.specs.Refusals.{is_open}
use Rattle.std.specs.Prelude.{Err, Ok, Option, Result}

module _ (x : Mem) where
  module _ (z : ℤ) where
    pub rank_of : (a : Amount) → a ≡ rank_by x z → Answers x (calls.rank_of z) (many a)
    rank_of a e = answers x (calls.rank_of z) (ap many e)

    pub rank_if_of : (a : Perhaps) → a ≡ rank_if_by x z → Answers x (calls.rank_if_set z) (maybe a)
    rank_if_of a e = answers x (calls.rank_if_set z) (ap maybe e)

    rank_way : (a : Amount) (k : Result Form Refusal) → k ≡ form_in x.table → a ≡ by_form (rank_split x (split_of (head x).s z)) k → Answers x (calls.rank_of z) (many a)
    unfolding rank_by
    rank_way a k e q = answers x (calls.rank_of z) (ap many (q ∙ form_way x.table (rank_split x (split_of (head x).s z)) k e))

    pub rank_refused : (n : Refusal) → Err n ≡ form_in x.table → Answers x (calls.rank_of z) (many (Err n))
    rank_refused n e = rank_way (Err n) (Err n) e refl

    pub rank_open : (k : Form) → Ok k ≡ form_in x.table → k ≡ Open → Answers x (calls.rank_of z) (many (Err is_open))
    rank_open k e q = rank_way (Err is_open) (Ok k) e (rw q refl)

    pub rank_ranked : SFits w64 z → (k : Form) → Ok k ≡ form_in x.table → k ≡ Ranked → (s : ℕ) → s ≡ (head x).s → (q : Option (ℕ × ℕ)) → q ≡ split_of s (to_z w64 (of_z w64 z)) → (a : Amount) → a ≡ rank_split x q → Answers x (calls.rank_of z) (many a)
    rank_ranked f k e d s es q eq a ea =
        rank_way a (Ok k) e (rw d (ea ∙ ap (rank_split x) (eq ∙ hop (split_of s) z f ∙ ap (λ (n : ℕ). split_of n z) es)))

    rank_if_way : (a : Perhaps) (k : Result Form Refusal) → k ≡ form_in x.table → a ≡ by_form (rank_if_split x (split_of (head x).s z)) k → Answers x (calls.rank_if_set z) (maybe a)
    unfolding rank_if_by
    rank_if_way a k e q = answers x (calls.rank_if_set z) (ap maybe (q ∙ form_way x.table (rank_if_split x (split_of (head x).s z)) k e))

    pub rank_if_refused : (n : Refusal) → Err n ≡ form_in x.table → Answers x (calls.rank_if_set z) (maybe (Err n))
    rank_if_refused n e = rank_if_way (Err n) (Err n) e refl

    pub rank_if_open : (k : Form) → Ok k ≡ form_in x.table → k ≡ Open → Answers x (calls.rank_if_set z) (maybe (Err is_open))
    rank_if_open k e q = rank_if_way (Err is_open) (Ok k) e (rw q refl)

    pub rank_if_ranked : SFits w64 z → (k : Form) → Ok k ≡ form_in x.table → k ≡ Ranked → (s : ℕ) → s ≡ (head x).s → (q : Option (ℕ × ℕ)) → q ≡ split_of s (to_z w64 (of_z w64 z)) → (a : Perhaps) → a ≡ rank_if_split x q → Answers x (calls.rank_if_set z) (maybe a)
    rank_if_ranked f k e d s es q eq a ea =
        rank_if_way a (Ok k) e (rw d (ea ∙ ap (rank_if_split x) (eq ∙ hop (split_of s) z f ∙ ap (λ (n : ℕ). split_of n z) es)))

  pub total_of : (a : Amount) (k : Result Form Refusal) → k ≡ form_in x.table → a ≡ by_form (Ok (total_at x.table)) k → Answers x total_count (many a)
  unfolding total_by
  total_of a k e q = answers x total_count (ap many (q ∙ form_way x.table (Ok (total_at x.table)) k e))
