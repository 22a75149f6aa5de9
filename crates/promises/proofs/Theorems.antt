-- What a customer reads: demands 1, 2 and 3 of the contracts themselves, for every history of calls on memory that set_up made. Assumes nothing.
use mathlib.Core.Path.{◌≡◌, refl, sym, ap, subst, ◌∙◌}
use mathlib.Core.Bool.{Bool, true, false, cond}
use Prim.Native.Nat.{ℕ, ◌+◌, ◌-◌, ◌/◌, ◌≤◌, ◌<◌}
use mathlib.Core.List.{List}
use lib.IntN.{ℤ, pos}
use lib.ListN.{length, get_or}
use Rattle.sums.specs.Ids.{count, total, rank}
use Rattle.sums.proofs.Ranks.{nth_member, nth_one}
use Rattle.document.specs.State.{State}
use Rattle.document.specs.Union.{Join}
use Rattle.document.specs.Calls.{Call, Fitting, Ask, Said, whether, many, Refuses, rank_up, leave, iterate, rank_of, listed, check}
use Rattle.document.specs.Answers.{rank_answer, reply}
use Rattle.document.specs.declared.sizes.Sizes.{Sizes}
use Rattle.document.specs.declared.answer.Listing.{Listing}
use Rattle.document.specs.declared.plan.Plan.{Plan}
use Rattle.document.proofs.Threes.{answer_not_three, reply_not_three, union_not_three, plan_not_three}
use Rattle.layout.specs.Mem.{Mem}
use Rattle.layout.specs.Meaning.{state_of}
use Rattle.layout.specs.Follows.{Follows}
use Rattle.layout.specs.Sizes.{head}
use Rattle.layout.specs.SetUp.{Did, set_up_by}
use Rattle.layout.specs.Spare.{Spare}
use Rattle.layout_laws.specs.StandsFor.{StandsForOne}
use Rattle.layout_laws.proofs.StandsFor.{stands_for_one as one_state}
use Rattle.layout_laws.proofs.Spares.{set_up_spare}
use Rattle.contracts.specs.Takes.{Takes}
use Rattle.contracts.proofs.Spares.{spare}
use Rattle.contracts.proofs.Takes.{lowest_free as takes-lowest}
use Rattle.contracts.specs.Runs.{ran_by}
use Rattle.contracts.specs.Runs as runs
use Rattle.contracts.specs.Does.{Does, Answers, SetsUp, Joins}
use Rattle.contracts.proofs.Steps.{does}
use Rattle.contracts.proofs.SetUps.{sets_up}
use Rattle.contracts.proofs.Joins.{joins}
use Rattle.unions.specs.Union.{Met, union_by}
use Rattle.unions.specs.Takes.{TakesDenseFirst}
use Rattle.unions.proofs.Spares.{union_here_spare, union_there_spare}
use Rattle.cuts.specs.Plan.{Cut, plan_by}
use Rattle.cuts.specs.Promise.{Plans}
use Rattle.cuts.proofs.Plans.{plan_refused, plans_by}
use Rattle.promises.specs.Histories.{Story, Happened, last, described, Kept}
use Rattle.promises.specs.Cuts.{Cuts}
use Rattle.promises.specs.Listings.{Asked, Asking, AllListed}
use Rattle.promises.specs.Cases.{AllSay, table}
use Rattle.promises.proofs.SetUps.{stays, not_three}
use Rattle.promises.proofs.Kept.{all_kept}
use Rattle.promises.proofs.Refusals.{model_stays}
use Rattle.promises.proofs.Unique.{asked, asked_once, asked_some}
use Rattle.promises.proofs.Returns.{up_and_back}
use Rattle.promises.proofs.Cutting.{cut_set, spare_bounds}
use Rattle.promises.proofs.Unions.{union_stays, union_lowest}
use Rattle.promises.proofs.Listings.{lists_all, ends_soon, some_listed}
use Rattle.promises.proofs.Cases.{table_says}
use Rattle.document.specs.Refusals.{is_open, not_laid_out}
use Rattle.document.specs.Results.{Outcome, Planning}
use Rattle.std.specs.Prelude.{Err, Ok}
use Rattle.document.specs.declared.refusal.Refusal.{Refusal}

-- ---- demand 1: memory before fixes answer and memory after, whatever memory is

module _ (x : Mem) where
  pub unique : (c : Call) (a b : Said) (y z : Mem) → Does x c a y → Does x c b z → (a ≡ b) × (y ≡ z)
  unique c a b y z d e = let p = d.by ∙ sym e.by in (ap (λ (r : runs.Ran). r.answer) p, ap (λ (r : runs.Ran). r.after) p)

  pub unique_answer : (k : Ask) (a b : Said) → Answers x k a → Answers x k b → a ≡ b
  unique_answer k a b d e = asked_once x k d.by e.by

  pub unique_set_up : (h : Sizes) (a b : Outcome) (y z : Mem) → SetsUp h x a y → SetsUp h x b z → (a ≡ b) × (y ≡ z)
  unique_set_up h a b y z d e = let p = d.by ∙ sym e.by in (ap (λ (r : Did). r.answer) p, ap (λ (r : Did). r.after) p)

  pub unique_union : (y : Mem) (j : Join) (a b : Outcome) (u v p q : Mem) → Joins x y j a u v → Joins x y j b p q → (a ≡ b) × (u ≡ p) × (v ≡ q)
  unique_union y j a b u v p q d e =
      let r = d.by ∙ sym e.by in
      (ap (λ (m : Met). m.answer) r, ap (λ (m : Met). m.here) r, ap (λ (m : Met). m.there) r)

  pub unique_plan : (S : ℕ) (bs : List ℤ) (a b : Planning) (cs ds : List ℤ) → Plans x S bs a cs → Plans x S bs b ds → (a ≡ b) × (cs ≡ ds)
  unique_plan S bs a b cs ds d e = let p = d.by ∙ sym e.by in (ap (λ (r : Cut). r.answer) p, ap (λ (r : Cut). r.bounds) p)

  -- and there is one, for every id that is an i64
  pub some : (c : Call) → Fitting c → Does x c (ran_by x c).answer (ran_by x c).after
  some c f = does x c f refl

  pub some_answer : (k : Ask) → Answers x k (asked x k)
  some_answer k = asked_some x k

  pub some_set_up : (h : Sizes) → SetsUp h x (set_up_by h x).answer (set_up_by h x).after
  some_set_up h = sets_up h x refl

  pub some_union : (y : Mem) (j : Join) → Joins x y j (union_by x y j).answer (union_by x y j).here (union_by x y j).there
  some_union y j = joins x y j refl

  pub some_plan : (S : ℕ) (bs : List ℤ) → Plans x S bs (plan_by x S bs).answer (plan_by x S bs).bounds
  some_plan S bs = record { by = refl; says = plans_by S bs (plan_by x S bs).answer (plan_by x S bs).bounds refl }

  -- a refused call leaves memory, and boundaries, as they were
  pub refused_stays : (c : Call) (a : Said) (y : Mem) (n : ℕ) → Does x c a y → Refuses a n → y ≡ x
  refused_stays c a y n d r =
      ap (λ (s : runs.Ran). s.after) d.by ∙ model_stays x c n (subst (λ (b : Said). Refuses b n) (ap (λ (s : runs.Ran). s.answer) d.by) r)

  pub refused_stays_set_up : (h : Sizes) (y : Mem) (n : Refusal) → SetsUp h x (Err n) y → y ≡ x
  refused_stays_set_up h y n s = stays h x s.by

  pub refused_stays_union : (y : Mem) (j : Join) (u v : Mem) (n : Refusal) → Joins x y j (Err n) u v → (u ≡ x) × (v ≡ y)
  refused_stays_union y j u v n d = union_stays x y j n d.by

  pub refused_stays_plan : (S : ℕ) (bs : List ℤ) (cs : List ℤ) (n : Refusal) → Plans x S bs (Err n) cs → cs ≡ bs
  refused_stays_plan S bs cs n p =
      ap (λ (c : Cut). c.bounds) p.by ∙ plan_refused x S bs n (sym (ap (λ (c : Cut). c.answer) p.by))

  -- elements past the sizes are never written
  pub spare_stays : (c : Call) (a : Said) (y : Mem) → Does x c a y → Spare (head x) x y
  spare_stays c a y d = subst (λ (r : runs.Ran). Spare (head x) x r.after) (sym d.by) (spare x c)

  pub spare_stays_set_up : (h : Sizes) (a : Outcome) (y : Mem) → SetsUp h x a y → Spare h x y
  spare_stays_set_up h a y s = subst (λ (r : Did). Spare h x r.after) (sym s.by) (set_up_spare h x)

  pub spare_stays_union : (y : Mem) (j : Join) (a : Outcome) (u v : Mem) → Joins x y j a u v → Spare (head x) x u × Spare (head y) y v
  spare_stays_union y j a u v d = (
    subst (λ (m : Met). Spare (head x) x m.here) (sym d.by) (union_here_spare x y j),
    subst (λ (m : Met). Spare (head y) y m.there) (sym d.by) (union_there_spare x y j),
  )

  -- nor boundaries past the last
  pub spare_stays_plan : (S : ℕ) (bs : List ℤ) (p : Plan) (cs : List ℤ) → Plans x S bs (Ok p) cs
      → (k : ℕ) → p.partitions - 1 ≤ k → get_or cs k (pos 0) ≡ get_or bs k (pos 0)
  spare_stays_plan S bs p cs h k l = spare_bounds x S bs p cs h k l

  -- set_up never answers 3
  pub never_three_set_up : (h : Sizes) (y : Mem) → SetsUp h x (Err not_laid_out) y → ⊥
  never_three_set_up h y s = not_three h x s

-- ---- memory that follows the layout

module _ (x : Mem) (w : Follows x) where
  -- it stands for one set
  pub stands_for_one : StandsForOne x
  stands_for_one = one_state w

  -- the row or page that a chunk newly takes is the lowest that was free; over several chunks in rising order
  pub lowest_free : (c : Call) (a : Said) (y : Mem) → Fitting c → Does x c a y → Takes x c y
  lowest_free c a y f d = takes-lowest x c a y w f d

  -- of a union: first those that become dense, in rising order, then new rows
  pub lowest_free_union : (y : Mem) → Follows y → (j : Join) (u v : Mem) → Joins x y j (Ok tt) u v → TakesDenseFirst x u
  lowest_free_union y s j u v d = union_lowest x y j w s d.by

  -- it is never the cause of a 3
  pub never_three : (c : Call) (a : Said) (y : Mem) → Does x c a y → Refuses a 3 → ⊥
  never_three c a y d r = answer_not_three (state_of x) c (subst (λ (b : Said). Refuses b 3) (d.says w).said r)

  pub never_three_reading : (k : Ask) (a : Said) → Answers x k a → Refuses a 3 → ⊥
  never_three_reading k a d r = reply_not_three (state_of x) k (subst (λ (b : Said). Refuses b 3) (d.says w) r)

  pub never_three_union : (y : Mem) → Follows y → (j : Join) (u v : Mem) → Joins x y j (Err not_laid_out) u v → ⊥
  never_three_union y v j u z d = union_not_three (state_of x) (state_of y) j (sym (d.says w v).said)

  pub never_three_planning : (S : ℕ) (bs : List ℤ) (a : Planning) (cs : List ℤ) → Plans x S bs a cs → a ≡ Err not_laid_out → ⊥
  never_three_planning S bs a cs p e = let s = p.says w in plan_not_three (state_of x) S _ (sym s.answer ∙ e)

-- ---- demand 2: the history of a set that set_up made

module _ (s : Story) (ran : Happened s) where
  -- memory follows the layout and stands for the set that the accepted calls describe, and every answer was document 01's
  pub kept : Kept s
  kept = all_kept s ran

  -- the set described
  abbrev pub now : State
  now = described s

  -- every reading call answers by that set, and the full check says yes
  pub reads : (k : Ask) (a : Said) → Answers (last s) k a → a ≡ reply now k
  reads k a d = d.says kept.follows ∙ ap (λ (q : State). reply q k) kept.state

  pub check_says_yes : (a : Said) → Answers (last s) check a → a ≡ whether (Ok true)
  check_says_yes a d = reads check a d

  -- iteration: records from a start, each from where the last one said, up to the first with the mark, list exactly the members that are not below it, each once, rising
  pub all_listed : (start : ℤ) (rs : List Listing) → Asked (last s) start rs → AllListed now.members start rs
  all_listed start rs d = lists_all (last s) now.members (λ z r a. reads (iterate z) (listed r) a) start rs d

  -- the mark is reached, after at most total / 64 + 1 calls
  pub mark_comes : (start : ℤ) (rs : List Listing) → Asking (last s) start rs → length rs ≤ total now.members / 64 + 1
  mark_comes start rs d = ends_soon (last s) now.members (λ z r a. reads (iterate z) (listed r) a) start rs d

  pub mark_there : (start : ℤ) → (rs : List Listing) × Asked (last s) start rs
  mark_there start = some_listed (last s) now.members (λ z r a. reads (iterate z) (listed r) a) start

  -- ranking an open set and leaving the ranked form reaches the same memory
  pub ranked_and_left : now.mode ≡ false → (a b : Said) (u v : Mem) → Does (last s) rank_up a u → Does u leave b v → v ≡ last s
  ranked_and_left o a b u v d e = up_and_back kept.follows (ap (λ (q : State). q.mode) kept.state ∙ o) d e

  -- in a ranked set the k-th member in rising order, counted from 0, has rank k, and no other member has
  pub nth : now.mode ≡ true → (k : ℕ) → k < total now.members →
      (n : ℕ) × (now.members n ≡ true) × ((a : Said) → Answers (last s) (rank_of (pos n)) a → a ≡ many (Ok k))
      × ((m : ℕ) → now.members m ≡ true → rank now.members (pos m) ≡ k → m ≡ n)
  unfolding rank rank_answer
  nth o k l =
      let P = now.members in
      let w = nth_member P k l in
      let n = w.0 in
      let e : count P n ≡ k = w.3 in (
        n,
        w.2,
        λ a d. reads (rank_of (pos n)) a d ∙ ap (λ (b : Bool). many (cond b (Ok (count P n)) (Err is_open))) o ∙ ap (λ (j : ℕ). many (Ok j)) e,
        λ m p q. nth_one P m n p w.2 (q ∙ sym e),
      )

  -- ---- demand 3: planning the set that a history reaches and ranks, for every S and every room
  pub cuts : now.mode ≡ true → (S : ℕ) (bs : List ℤ) (a : Planning) (cs : List ℤ) → Plans (last s) S bs a cs → Cuts now.members S bs a cs
  cuts o S bs a cs p =
      let f = p.says kept.follows in
      subst (λ (q : State). Cuts q.members S bs a cs) kept.state (cut_set (state_of (last s)) S bs a cs f (ap (λ (q : State). q.mode) kept.state ∙ o))

-- ---- every row of the worked cases holds
pub cases : AllSay table
cases = table_says
