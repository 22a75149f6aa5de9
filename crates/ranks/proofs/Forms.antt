-- Ranking and leaving it: what document 01 says of both, one after the other, and their refusals on any memory. Assumes nothing.
use mathlib.Core.Path.{◌≡◌, refl, sym, subst}
use mathlib.Core.List.{List}
use mathlib.Core.Bool.{Bool, true, false, cond}
use Prim.Native.Nat.{ℕ, ◌+◌, ◌*◌, ◌≤◌}
use native.Mathlib.Omega.{arith}
use lib.ListN.{length}
use lib.Dec.{eqb}
use Rattle.sums.specs.Sums.{sum_to}
use Rattle.layout.specs.Mem.{Mem, mem}
use Rattle.layout.specs.Sizes.{blocks_of, over_at, head, mode_at, over_count}
use Rattle.layout.specs.Entries.{entries}
use Rattle.layout.specs.Meaning.{ranked, state_of}
use Rattle.layout.specs.Follows.{members_at, Follows}
use Rattle.layout.specs.Tests.{Walked, walked}
use Rattle.layout.specs.SetUp.{Did, did}
use Rattle.document.specs.declared.sizes.Sizes.{Sizes}
use Rattle.layout_laws.proofs.Sizes.{slot_inside}
use Rattle.layout_laws.proofs.Walked.{laid_walked, follows_walked}
use Rattle.layout.proofs.Zeroed.{zeroed_at, zeroed_length}
use Rattle.calls.proofs.Slots.{takes_none, places_stay}
use Rattle.ranks.specs.Form.{to_ranked, to_open, rank_up_by, open_by}
use Rattle.document.specs.Answers.{rank_up_answer, leave_answer}
use Rattle.ranks.proofs.Turns.{Turns}
use Rattle.ranks.proofs.Prefixes.{recounted}
use Rattle.ranks.proofs.Blocks.{blocks_length, blocks_at}
use Rattle.ranks.proofs.Recounts.{Recount, mode_is, head_same, recount_follows, recount_holds, recount_places, recount_kinds}
use Rattle.document.specs.Refusals.{is_open, is_ranked, not_laid_out}
use Rattle.std.specs.Prelude.{Err, Ok}
use Rattle.document.specs.declared.refusal.Refusal.{Refusal}

-- ---- a refusal leaves memory as it was, on any memory

abbrev Stays : Mem → Did → Type 0
Stays x d = (n : Refusal) → d.answer ≡ Err n → d.after ≡ x

stays_if : (x : Mem) (b : Bool) (d e : Did) → Stays x d → Stays x e → Stays x (cond b d e)
stays_if x true d e p q = p
stays_if x false d e p q = q

stays_done : (x y : Mem) → Stays x (did (Ok tt) y)
stays_done x y n q = absurd cc

stays_refused : (x : Mem) (k : Refusal) → Stays x (did (Err k) x)
stays_refused x k n q = refl

pub rank_up_refused : (x : Mem) (n : Refusal) → (rank_up_by x).answer ≡ Err n → (rank_up_by x).after ≡ x
unfolding rank_up_by
rank_up_refused x =
    stays_if x (walked x) (cond (eqb (mode_at x.table) 1) (did (Err is_ranked) x) (did (Ok tt) (to_ranked (head x) x))) (did (Err not_laid_out) x)
    (stays_if x (eqb (mode_at x.table) 1) (did (Err is_ranked) x) (did (Ok tt) (to_ranked (head x) x)) (stays_refused x is_ranked) (stays_done x (to_ranked (head x) x)))
    (stays_refused x not_laid_out)

pub open_refused : (x : Mem) (n : Refusal) → (open_by x).answer ≡ Err n → (open_by x).after ≡ x
unfolding open_by
open_refused x =
    stays_if x (walked x) (cond (eqb (mode_at x.table) 1) (did (Ok tt) (to_open (head x) x)) (did (Err is_open) x)) (did (Err not_laid_out) x)
    (stays_if x (eqb (mode_at x.table) 1) (did (Ok tt) (to_open (head x) x)) (did (Err is_open) x) (stays_done x (to_open (head x) x)) (stays_refused x is_open))
    (stays_refused x not_laid_out)

-- ---- what both write

pub entries_inside : {x : Mem} {h : Sizes} → Walked x h → over_at h (over_count x.table) ≤ length x.table
entries_inside w = let r = w.room.in_table in let f = w.over_fits in omega arith

module _ {x : Mem} (w : Walked x (head x)) where
  pub ranked_recount : Recount (head x) x true (to_ranked (head x) x).blocks (to_ranked (head x) x).table
  unfolding to_ranked
  ranked_recount = record {
    told = recounted (head x) x.table (sum_to (members_at (head x) x)) 1 (sum_to (members_at (head x) x) (entries (head x) x.table)) (entries_inside w);
    long = blocks_length (head x) x.pages x.blocks (head x).p;
    blocks = λ p i l m. blocks_at (head x) x.pages x.blocks (head x).p p i l m w.room.in_blocks;
  }

  pub open_recount : Recount (head x) x false (to_open (head x) x).blocks (to_open (head x) x).table
  unfolding to_open
  open_recount = record {
    told = recounted (head x) x.table (λ (_ : ℕ). 0) 0 0 (entries_inside w);
    long = zeroed_length ((head x).p * blocks_of (head x)) x.blocks w.room.in_blocks;
    blocks = λ p i l m. zeroed_at ((head x).p * blocks_of (head x)) x.blocks (p * blocks_of (head x) + i) (let s = slot_inside p (head x).p (blocks_of (head x)) l in omega arith);
  }

-- ---- what document 01 says

module _ {x : Mem} (w : Follows x) where
  turns_not : (b : Bool) (k : Refusal) → Turns x (Err k) b (Err k) x
  turns_not b k = record {
    answer = refl;
    follows = w;
    sizes = refl;
    mode = λ q. absurd cc;
    refused = λ n q. refl;
    members = λ n. refl;
    map = λ c. refl;
    takes = takes_none x;
  }

  turns_to : (b : Bool) (bl u : List ℕ) → Recount (head x) x b bl u → Turns x (Ok tt) b (Ok tt) (mem x.pages x.rows bl u)
  turns_to b bl u r = record {
    answer = refl;
    follows = recount_follows r w;
    sizes = head_same r;
    mode = λ q. mode_is r;
    refused = λ n q. absurd cc;
    members = recount_holds r;
    map = recount_kinds r;
    takes = places_stay x (mem x.pages x.rows bl u) (recount_places r);
  }

  pub rank_up_says : Turns x (rank_up_answer (state_of x)) true (rank_up_by x).answer (rank_up_by x).after
  unfolding rank_up_by rank_up_answer to_ranked
  rank_up_says = subst (λ (b : Bool). Said (cond b (tried (ranked x)) (did (Err not_laid_out) x))) (sym (follows_walked w)) (go (ranked x))
    where
      Said : Did → Type 0
      Said d = Turns x (cond (ranked x) (Err is_ranked) (Ok tt)) true d.answer d.after

      tried : Bool → Did
      tried b = cond b (did (Err is_ranked) x) (did (Ok tt) (to_ranked (head x) x))

      go : (b : Bool) → Turns x (cond b (Err is_ranked) (Ok tt)) true (tried b).answer (tried b).after
      go true = turns_not true is_ranked
      go false = turns_to true (to_ranked (head x) x).blocks (to_ranked (head x) x).table (ranked_recount (laid_walked w))

  pub open_says : Turns x (leave_answer (state_of x)) false (open_by x).answer (open_by x).after
  unfolding open_by leave_answer to_open
  open_says = subst (λ (b : Bool). Said (cond b (tried (ranked x)) (did (Err not_laid_out) x))) (sym (follows_walked w)) (go (ranked x))
    where
      Said : Did → Type 0
      Said d = Turns x (cond (ranked x) (Ok tt) (Err is_open)) false d.answer d.after

      tried : Bool → Did
      tried b = cond b (did (Ok tt) (to_open (head x) x)) (did (Err is_open) x)

      go : (b : Bool) → Turns x (cond b (Ok tt) (Err is_open)) false (tried b).answer (tried b).after
      go true = turns_to false (to_open (head x) x).blocks (to_open (head x) x).table (open_recount (laid_walked w))
      go false = turns_not false is_open
