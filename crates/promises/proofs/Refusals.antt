-- A refused call changes nothing, on any memory. Assumes nothing.
use mathlib.Core.Path.{◌≡◌, refl}
use Prim.Native.Nat.{ℕ}
use Rattle.document.specs.Insert.{done}
use Rattle.document.specs.Calls.{Call, insert, put, prepared, prepare, rank_up, leave, whether, that, Refuses}
use Rattle.layout.specs.Mem.{Mem}
use Rattle.calls.specs.Insert.{insert_by, prepared_by}
use Rattle.calls.specs.Prepare.{prepare_by}
use Rattle.calls.proofs.Refusals.{insert_refused, prepared_refused, prepare_refused}
use Rattle.ranks.specs.Form.{rank_up_by, open_by}
use Rattle.ranks.proofs.Forms.{rank_up_refused, open_refused}
use Rattle.contracts.specs.Runs.{ran_by}
use Rattle.document.specs.Results.{Outcome, Truth}
use Rattle.std.specs.Prelude.{Err, Ok}
use Rattle.document.specs.declared.refusal.Refusal.{Refusal}

refuses_truth : (a : Truth) (n : ℕ) → Refuses (whether a) n → (k : Refusal) × (a ≡ Err k)
refuses_truth (Ok b) n r = absurd r
refuses_truth (Err k) n r = (k, refl)

refuses_done : (a : Truth) (n : ℕ) → Refuses (that (done a)) n → (k : Refusal) × (a ≡ Err k)
refuses_done (Ok b) n r = absurd r
refuses_done (Err k) n r = (k, refl)

refuses_outcome : (a : Outcome) (n : ℕ) → Refuses (that a) n → (k : Refusal) × (a ≡ Err k)
refuses_outcome (Ok tt) n r = absurd r
refuses_outcome (Err k) n r = (k, refl)

pub model_stays : (x : Mem) (c : Call) (n : ℕ) → Refuses (ran_by x c).answer n → (ran_by x c).after ≡ x
model_stays x (insert z) n r = let k = refuses_truth (insert_by x z).answer n r in insert_refused x z k.0 k.1
model_stays x (put z) n r = let k = refuses_done (insert_by x z).answer n r in insert_refused x z k.0 k.1
model_stays x (prepared z) n r = let k = refuses_truth (prepared_by x z).answer n r in prepared_refused x z k.0 k.1
model_stays x (prepare z) n r = let k = refuses_outcome (prepare_by x z).answer n r in prepare_refused x z k.0 k.1
model_stays x rank_up n r = let k = refuses_outcome (rank_up_by x).answer n r in rank_up_refused x k.0 k.1
model_stays x leave n r = let k = refuses_outcome (open_by x).answer n r in open_refused x k.0 k.1
