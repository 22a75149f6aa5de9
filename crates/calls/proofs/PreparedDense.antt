-- `pre_allocate` that answers ok has made every chunk up to the maximum's dense, on any memory: after the walk and its two tests nothing is in the way. Assumes nothing.
use mathlib.Core.Path.{◌≡◌, refl, sym, ap, subst, ◌∙◌}
use mathlib.Core.Bool.{Bool, true, false, cond}
use Prim.Native.Nat.{ℕ, ◌+◌, ◌/◌, ◌≤◌, ◌<◌}
use native.Mathlib.Omega.{arith}
use lib.IntN.{pos}
use lib.Dec.{ltb}
use borrow.Author.Tests.{ltb-false, lt-ltb}
use Rattle.layout.specs.Mem.{Mem}
use Rattle.document.specs.Sizes.{top, last_chunk}
use Rattle.document.specs.Results.{Outcome}
use Rattle.document.specs.Refusals.{not_laid_out, is_ranked, overflow_full, pages_full}
use Rattle.layout.specs.Sizes.{head}
use Rattle.layout.specs.Tests.{Walked, walked}
use Rattle.document.specs.State.{dense}
use Rattle.layout.specs.Meaning.{kinds, ranked, state_of}
use Rattle.layout.specs.SetUp.{Did, did}
use Rattle.layout.proofs.Tests.{walked_of}
use Rattle.document.specs.Prepare.{dense_map}
use Rattle.document.specs.Room.{overflows, denses}
use Rattle.calls.specs.Prepare.{HasRoom, densed_to, over_needed, pages_needed, prepare_by}
use Rattle.calls.proofs.Needed.{few_chunks, over_needed_law, pages_needed_law}
use Rattle.calls.proofs.Reached.{Reached, reached}
use Rattle.std.specs.Prelude.{Err, Ok}
use Rattle.document.specs.declared.refusal.Refusal.{Refusal}

-- ---- an open set that passed the walk and has room

module _ {x : Mem} {c : ℕ} (a : HasRoom x c) where
  pub room_far : c < last_chunk (head x)
  room_far = few_chunks (head x) x.table a.walks.sizes c a.over

  pub room_over : overflows (head x) (dense_map (state_of x) c) ≤ (head x).v
  room_over = let e = over_needed_law a.walks c room_far in let l = a.over in omega arith

  pub room_pages : denses (head x) (dense_map (state_of x) c) ≤ (head x).p
  room_pages = let e = pages_needed_law a.walks c room_far in let l = a.pages in omega arith

  -- after each turn
  pub room_reached : (n : ℕ) → n ≤ c + 1 → Reached x n (densed_to (head x) x n)
  room_reached = reached a.walks a.mode c room_far room_over room_pages

-- ---- an accepted call

-- the maximum's chunk
abbrev pub last : Mem → ℕ → ℕ
last x i = i / top (head x)

pub record Accepted (x : Mem) (c : ℕ) (d : Did) : Type 0 where
  pub room : HasRoom x c
  pub after : d.after ≡ densed_to (head x) x (c + 1)

refused_done : (k : Refusal) → ◌≡◌ {A = Outcome} (Err k) (Ok tt) → ⊥
refused_done k e = cc

-- by the four tests
abbrev by : Mem → ℕ → Bool → Bool → Bool → Bool → Did
by x c a b u v =
    cond a
    (cond b (did (Err is_ranked) x)
    (cond u (did (Err overflow_full) x) (cond v (did (Err pages_full) x) (did (Ok tt) (densed_to (head x) x (c + 1))))))
    (did (Err not_laid_out) x)

accepted_by : (x : Mem) (c : ℕ) (a b u v : Bool) → walked x ≡ a → ranked x ≡ b → ltb (head x).v (over_needed (head x) x.table c) ≡ u
    → ltb (head x).p (pages_needed (head x) x.table c) ≡ v → (by x c a b u v).answer ≡ Ok tt → Accepted x c (by x c a b u v)
accepted_by x c false b u v o p q r e = absurd (refused_done not_laid_out e)
accepted_by x c true true u v o p q r e = absurd (refused_done is_ranked e)
accepted_by x c true false true v o p q r e = absurd (refused_done overflow_full e)
accepted_by x c true false false true o p q r e = absurd (refused_done pages_full e)
accepted_by x c true false false false o p q r e =
    record {
      room =
          record {
            walks = (walked_of x).sound o;
            mode = p;
            over = ltb-false (head x).v (over_needed (head x) x.table c) q;
            pages = ltb-false (head x).p (pages_needed (head x) x.table c) r;
          };
      after = refl;
    }

pub accepted : (x : Mem) (i : ℕ) → (prepare_by x (pos i)).answer ≡ Ok tt → Accepted x (last x i) (prepare_by x (pos i))
unfolding prepare_by
accepted x i =
    accepted_by x (last x i) (walked x) (ranked x) (ltb (head x).v (over_needed (head x) x.table (last x i)))
    (ltb (head x).p (pages_needed (head x) x.table (last x i))) refl refl refl refl

module _ (x : Mem) (i : ℕ) (done : (prepare_by x (pos i)).answer ≡ (Ok tt)) where
  at_last : Reached x (last x i + 1) (prepare_by x (pos i)).after
  at_last = let a = accepted x i done in subst (Reached x (last x i + 1)) (sym a.after) (room_reached a.room (last x i + 1) (omega arith))

  pub prepared_dense : (c : ℕ) → c ≤ i / top (head x) → kinds (prepare_by x (pos i)).after c ≡ dense
  prepared_dense c l = at_last.map c ∙ ap (λ (b : Bool). cond b dense (kinds x c)) (lt-ltb c (last x i + 1) (omega arith))

  -- and it passes the walk again
  pub prepared_walked : Walked (prepare_by x (pos i)).after (head (prepare_by x (pos i)).after)
  prepared_walked = at_last.walked
