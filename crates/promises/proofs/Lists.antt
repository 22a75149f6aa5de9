-- What a customer reads of the calls over a list of ids: demand 1 of each, every answer the single call's, and after every history that of the set described. Assumes nothing.
use mathlib.Core.Path.{◌≡◌, refl, sym, ap, subst, ◌∙◌}
use mathlib.Core.List.{List, [], ◌∷◌}
use mathlib.Core.Bool.{Bool, true, false, cond}
use Prim.Native.Nat.{ℕ, zero, suc, ◌+◌, ◌^◌, ◌≤◌, ◌<◌}
use native.Mathlib.Nat.{not-suc-le-zero, le_of_suc-le-suc}
use native.Mathlib.Omega.{arith}
use lib.IntN.{ℤ, pos, negsuc}
use lib.ListN.{length, get_or, take}
use lib.Dec.{ltb}
use borrow.Author.Tests.{ltb-true, ltb-false}
use mir.Syntax.{w64}
use mir.Val.{SFits, bool_byte}
use Rattle.sums.specs.Ids.{Ids, rank}
use Rattle.sums.proofs.Counts.{count_le}
use Rattle.document.specs.State.{State}
use Rattle.document.specs.Calls.{insert, Said, whether, many, maybe, Refuses}
use Rattle.document.specs.Insert.{new_answer}
use Rattle.document.proofs.Threes.{answer_not_three}
use Rattle.layout.specs.Mem.{Mem}
use Rattle.layout.specs.Sizes.{head}
use Rattle.layout.specs.Meaning.{ranked, state_of}
use Rattle.layout.specs.Follows.{Follows}
use Rattle.layout.specs.Spare.{Spare}
use Rattle.layout.specs.Tests.{Walked}
use Rattle.calls.specs.Reading.{get_by}
use Rattle.calls.specs.Insert.{insert_by}
use Rattle.ranks.specs.Rank.{rank_by, rank_if_by}
use Rattle.contracts.specs.Does.{Answers}
use Rattle.contracts.proofs.Steps.{does}
use Rattle.lists.specs.declared.insert.Inserted.{Inserted}
use Rattle.lists.specs.Lists.{ListAsk, get_all, rank_all, rank_if_all, truth_number, amount_number, perhaps_number, one_by, answered, open_answer, list_answer, unless_refused, one_of, AnswersAll}
use Rattle.lists.specs.Inserts.{inserted_of, then_rest, in_turn, all_next, answer_by, after_by, after_of, InsertsAll}
use Rattle.lists.proofs.Answered.{answered_at, answered_past}
use Rattle.lists.proofs.AfterWalk.{get_told, rank_of_told, rank_if_told, open_ranked}
use Rattle.lists.proofs.Outcomes.{passed, answers_all}
use Rattle.lists.proofs.Turns.{Ending, whole, stopped, ending, fresh_few}
use Rattle.lists.proofs.Inserting.{Sofar, sofar_none, sofar_next, sofar_refused, sofar_all}
use Rattle.lists.proofs.Refusals.{never_zero}
use Rattle.lists.proofs.Spares.{inserts_spare}
use Rattle.contracts.specs.Runs.{ran_by}
use Rattle.promises.specs.Histories.{changed, Story, then, Happened, last, described}
use Rattle.promises.specs.Lists.{ask_of, Number, AllFit, inserted_into}
use Rattle.promises.proofs.Theorems.{kept}
use Rattle.document.specs.Refusals.{not_laid_out, number}
use Rattle.document.specs.Results.{Amount, Outcome, Perhaps, Truth}
use Rattle.std.specs.Prelude.{Err, None, Ok, Some}
use Rattle.document.specs.declared.refusal.Refusal.{Refusal}

-- ---- answers to a list

module _ (x : Mem) (k : ListAsk) (ids : List ℤ) (ns : List ℕ) where
  -- memory and lists before fix answer and list after
  pub unique_list : (a b : Outcome) (us vs : List ℕ) → AnswersAll x k ids ns a us → AnswersAll x k ids ns b vs → (a ≡ b) × (us ≡ vs)
  unique_list a b us vs d e =
      let q = d.said ∙ sym e.said in
      (q, d.list ∙ ap (λ (o : Outcome). unless_refused o (answered (one_by x k) ids ns) ns) q ∙ sym e.list)

  -- and there is one
  pub some_list : AnswersAll x k ids ns (list_answer x k) (unless_refused (list_answer x k) (answered (one_by x k) ids ns) ns)
  some_list = answers_all x k ids ns (unless_refused (list_answer x k) (answered (one_by x k) ids ns) ns) (list_answer x k) refl refl

  -- a refusal leaves every answer as it was
  pub refused_stays_list : (us : List ℕ) (n : Refusal) → AnswersAll x k ids ns (Err n) us → us ≡ ns
  refused_stays_list us n d = d.list

  -- answers past the ids stay
  pub rest_stays_list : (a : Outcome) (us : List ℕ) → AnswersAll x k ids ns a us → (i : ℕ) → length ids ≤ i → get_or us i 0 ≡ get_or ns i 0
  rest_stays_list a us d i l = ap (λ (r : List ℕ). get_or r i 0) d.list ∙ go a
    where
      go : (o : Outcome) → get_or (unless_refused o (answered (one_by x k) ids ns) ns) i 0 ≡ get_or ns i 0
      go (Ok tt) = answered_past (one_by x k) i ids ns l
      go (Err n) = refl

  -- memory that follows the layout is never the cause of a 3
  pub never_three_list : Follows x → (us : List ℕ) → AnswersAll x k ids ns (Err not_laid_out) us → ⊥
  never_three_list w us d = go k (ranked x) (d.says w).0
    where
      go : (j : ListAsk) (b : Bool) → Err not_laid_out ≡ open_answer b j → ⊥
      go get_all b e = cc
      go rank_all true e = cc
      go rank_all false e = cc
      go rank_if_all true e = cc
      go rank_if_all false e = cc

-- ---- each of them is the single call's

number_truth : (t : Truth) (b : Bool) → t ≡ Ok b → Number (whether t) (truth_number t)
number_truth t b e = subst (λ (r : Truth). Number (whether r) (truth_number r)) (sym e) refl

number_amount : (t : Amount) (n : ℕ) → t ≡ Ok n → Number (many t) (amount_number t)
number_amount t n e = subst (λ (r : Amount). Number (many r) (amount_number r)) (sym e) refl

number_perhaps : (t : Perhaps) (b : Bool) (n : ℕ) → t ≡ cond b (Ok (Some n)) (Ok None) → Number (maybe t) (perhaps_number t)
number_perhaps t b n e = subst (λ (r : Perhaps). Number (maybe r) (perhaps_number r)) (sym e) (go b)
  where
    go : (b : Bool) → Number (maybe (cond b (Ok (Some n)) (Ok None))) (perhaps_number (cond b (Ok (Some n)) (Ok None)))
    go true = refl
    go false = refl

number_of : {x : Mem} → Walked x (head x) → (k : ListAsk) → open_answer (ranked x) k ≡ (Ok tt) → (z : ℤ) (s : Said) → Answers x (ask_of k z) s → Number s (one_by x k z)
number_of {x} w get_all e z s a = let t = get_told w z in subst (λ (r : Said). Number r (one_by x get_all z)) (sym a.by) (number_truth (get_by x z) t.0 t.1)
number_of {x} w rank_all e z s a =
    let t = rank_of_told w (open_ranked (ranked x) e) z in
    subst (λ (r : Said). Number r (one_by x rank_all z)) (sym a.by) (number_amount (rank_by x z) t.0 t.1)
number_of {x} w rank_if_all e z s a =
    let t = rank_if_told w (open_ranked (ranked x) e) z in
    subst (λ (r : Said). Number r (one_by x rank_if_all z)) (sym a.by) (number_perhaps (rank_if_by x z) t.0 t.1 t.2)

-- where the list isn't refused no single call of any id is, and each answer stands for what the single call says
pub singly : (x : Mem) (k : ListAsk) (ids : List ℤ) (ns us : List ℕ) → AnswersAll x k ids ns (Ok tt) us → (i : ℕ) → i < length ids → i < length ns
    → (s : Said) → Answers x (ask_of k (get_or ids i (pos 0))) s → Number s (get_or us i 0)
singly x k ids ns us d i l m s a =
    let p = passed x k (sym d.said) in
    subst (Number s) (sym (ap (λ (r : List ℕ). get_or r i 0) d.list ∙ answered_at (one_by x k) i ids ns l m)) (number_of p.0 k p.1 (get_or ids i (pos 0)) s a)

-- no rank of an i64 is the number that stands for none
pub rank_small : (P : Ids) (z : ℤ) → SFits w64 z → rank P z < 2 ^ 63
unfolding rank
rank_small P (pos n) f = let l : n < 2 ^ 63 = f.sfits in omega (arith, count_le P n)
rank_small P (negsuc n) f = omega arith

-- ---- inserts of a list

module _ (x : Mem) (ids : List ℤ) where
  pub unique_inserts : (a b : Inserted) (y z : Mem) → InsertsAll x ids a y → InsertsAll x ids b z → (a ≡ b) × (y ≡ z)
  unique_inserts a b y z d e =
      let q = d.said ∙ sym e.said in
      (q, d.left ∙ ap (λ (c : Inserted). all_next after_by x (take c.taken ids)) q ∙ sym e.left)

  module _ (a : Inserted) (y : Mem) (d : InsertsAll x ids a y) where
    ends : Ending answer_by after_by x ids a
    ends = subst (Ending answer_by after_by x ids) (sym d.said) (ending answer_by after_by x ids)

    -- refused at once, it leaves memory as it was; later, as the ids before left it
    pub refused_stays_inserts : a.taken ≡ 0 → y ≡ x
    unfolding all_next
    refused_stays_inserts e = d.left ∙ ap (λ (n : ℕ). all_next after_by x (take n ids)) e

    -- 0 says that every id was taken
    pub all_taken : a.stop ≡ 0 → a.taken ≡ length ids
    all_taken e = go ends
      where
        go : Ending answer_by after_by x ids a → a.taken ≡ length ids
        go (whole t n) = t
        go (stopped l n s d) = absurd (never_zero (all_next after_by x (take a.taken ids)) (get_or ids a.taken (pos 0)) n s (sym d ∙ e))

    -- any other number, that it refused the next one, where the ids before it led
    pub next_refused : (a.stop ≡ 0 → ⊥) → (a.taken < length ids) × (n : Refusal) × (answer_by y (get_or ids a.taken (pos 0)) ≡ Err n) × (a.stop ≡ number n)
    next_refused n = go ends
      where
        go : Ending answer_by after_by x ids a → (a.taken < length ids) × (n : Refusal) × (answer_by y (get_or ids a.taken (pos 0)) ≡ Err n) × (a.stop ≡ number n)
        go (whole t e) = absurd (n e)
        go (stopped l k s e) = (l, k, ap (λ (m : Mem). answer_by m (get_or ids a.taken (pos 0))) d.left ∙ s, e)

    -- elements past the sizes are never written
    pub spare_stays_inserts : Spare (head x) x y
    spare_stays_inserts = subst (Spare (head x) x) (sym d.left) (inserts_spare x (take a.taken ids))

    pub fresh_of_taken : a.fresh ≤ a.taken
    fresh_of_taken = subst (λ (b : Inserted). b.fresh ≤ b.taken) (sym d.said) (fresh_few answer_by after_by x ids)

-- memory that follows the layout is never the cause of a 3
not_three_next : (r : Truth) (b : Inserted) → (Refuses (whether r) 3 → ⊥) → (b.stop ≡ 3 → ⊥) → (then_rest r b).stop ≡ 3 → ⊥
not_three_next (Ok v) b p q e = q e
not_three_next (Err n) b p q e = p e

not_three : (q : State) (zs : List ℤ) → (in_turn new_answer after_of q zs).stop ≡ 3 → ⊥
unfolding in_turn
not_three q [] e = omega arith
not_three q (z ∷ zs) e = not_three_next (new_answer q z) (in_turn new_answer after_of (after_of q z) zs) (answer_not_three q (insert z)) (not_three (after_of q z) zs) e

pub never_three_inserts : (x : Mem) → Follows x → (ids : List ℤ) (a : Inserted) (y : Mem) → InsertsAll x ids a y → a.stop ≡ 3 → ⊥
never_three_inserts x w ids a y d e = not_three (state_of x) ids (ap (λ (b : Inserted). b.stop) (sym (d.says w).said) ∙ e)

-- ---- there is an answer for every list of i64

fit_at : (zs : List ℤ) → AllFit zs → (i : ℕ) → i < length zs → SFits w64 (get_or zs i (pos 0))
fit_at [] f i l = absurd (not-suc-le-zero l)
fit_at (z ∷ zs) f zero l = f.0
fit_at (z ∷ zs) f (suc i) l = fit_at zs f.1 i (le_of_suc-le-suc l)

fit_taken : (zs : List ℤ) → AllFit zs → (n : ℕ) → AllFit (take n zs)
fit_taken zs f zero = tt
fit_taken [] f (suc n) = tt
fit_taken (z ∷ zs) f (suc n) = (f.0, fit_taken zs f.1 n)

module _ (x : Mem) (ids : List ℤ) (fit : AllFit ids) where
  abbrev Allowed : Type 0
  Allowed = (a : Inserted) × (y : Mem) × InsertsAll x ids a y

  some_from : (n i f : ℕ) (y : Mem) → Sofar x ids i f y → length ids ≤ i + n → Allowed
  some_from zero i f y s l = (inserted_of i f 0, y, sofar_all x ids i f y s (omega arith))
  some_from (suc n) i f y s l = go (ltb i (length ids)) refl (insert_by y (get_or ids i (pos 0))).answer refl (some_from n (i + 1))
    where
      go : (b : Bool) → ltb i (length ids) ≡ b → (r : Truth) → (insert_by y (get_or ids i (pos 0))).answer ≡ r
          → ((g : ℕ) (v : Mem) → Sofar x ids (i + 1) g v → length ids ≤ i + 1 + n → Allowed) → Allowed
      go false t r e more = (inserted_of i f 0, y, sofar_all x ids i f y s (ltb-false i (length ids) t))
      go true t (Ok b) e more =
          let m = ltb-true i (length ids) t in
          let d = does y (insert (get_or ids i (pos 0))) (fit_at ids fit i m) refl in
          more (f + bool_byte b) (insert_by y (get_or ids i (pos 0))).after
          (sofar_next x ids i f y s m (get_or ids i (pos 0)) refl (insert_by y (get_or ids i (pos 0))).after (insert_by y (get_or ids i (pos 0))).answer b d e) (omega arith)
      go true t (Err c) e more =
          let m = ltb-true i (length ids) t in
          let d = does y (insert (get_or ids i (pos 0))) (fit_at ids fit i m) refl in (
            inserted_of i f (number c),
            (insert_by y (get_or ids i (pos 0))).after,
            sofar_refused x ids i f y s m (get_or ids i (pos 0)) refl (insert_by y (get_or ids i (pos 0))).after (insert_by y (get_or ids i (pos 0))).answer c d e,
          )

  pub some_inserts : (a : Inserted) × (y : Mem) × InsertsAll x ids a y
  some_inserts = some_from (length ids) 0 0 x (sofar_none x ids) (omega arith)

-- ---- the history of a set that set_up made

-- single inserts in turn are steps of a history
into_ran : (s : Story) (zs : List ℤ) → AllFit zs → Happened s → Happened (inserted_into s zs)
into_ran s [] f r = r
into_ran s (z ∷ zs) f r = into_ran (then s (changed (insert z) (ran_by (last s) (insert z)).answer (ran_by (last s) (insert z)).after)) zs f.1 (r, does (last s) (insert z) f.0 refl)

into_last : (s : Story) (zs : List ℤ) → last (inserted_into s zs) ≡ all_next after_by (last s) zs
unfolding all_next
into_last s [] = refl
into_last s (z ∷ zs) = into_last (then s (changed (insert z) (ran_by (last s) (insert z)).answer (ran_by (last s) (insert z)).after)) zs

into_described : (s : Story) (zs : List ℤ) → described (inserted_into s zs) ≡ all_next after_of (described s) zs
unfolding all_next
into_described s [] = refl
into_described s (z ∷ zs) = into_described (then s (changed (insert z) (ran_by (last s) (insert z)).answer (ran_by (last s) (insert z)).after)) zs

module _ (s : Story) (ran : Happened s) where
  abbrev now : State
  now = described s

  -- the answers are those of the set described
  pub list_of_set : (k : ListAsk) (ids : List ℤ) (ns : List ℕ) (a : Outcome) (us : List ℕ) → AnswersAll (last s) k ids ns a us
      → (a ≡ open_answer now.mode k) × (us ≡ unless_refused a (answered (one_of now k) ids ns) ns)
  list_of_set k ids ns a us d =
      let t = kept s ran in
      subst (λ (q : State). (a ≡ open_answer q.mode k) × (us ≡ unless_refused a (answered (one_of q k) ids ns) ns)) t.state (d.says t.follows)

  -- `insert_all` is the history with single inserts of the ids that it took: so `kept` holds of it, and every answer on the way was document 01's
  module _ (ids : List ℤ) (fit : AllFit ids) (a : Inserted) (y : Mem) (d : InsertsAll (last s) ids a y) where
    pub steps_ran : Happened (inserted_into s (take a.taken ids))
    steps_ran = into_ran s (take a.taken ids) (fit_taken ids fit a.taken) ran

    pub steps_last : last (inserted_into s (take a.taken ids)) ≡ y
    steps_last = into_last s (take a.taken ids) ∙ sym d.left

    pub inserts_into_set : (a ≡ in_turn new_answer after_of now ids) × (state_of y ≡ all_next after_of now (take a.taken ids))
    inserts_into_set =
        let t = kept s ran in
        let r = d.says t.follows in
        subst (λ (q : State). (a ≡ in_turn new_answer after_of q ids) × (state_of y ≡ all_next after_of q (take a.taken ids))) t.state (r.said, r.state)

    pub steps_described : described (inserted_into s (take a.taken ids)) ≡ all_next after_of now (take a.taken ids)
    steps_described = into_described s (take a.taken ids)
