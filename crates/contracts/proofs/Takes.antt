-- Document 01: the lowest free row or page is taken, by every call. Assumes nothing.
use mathlib.Core.Path.{sym, subst}
use Rattle.document.specs.Calls.{Call, insert, put, prepared, prepare, rank_up, leave, Fitting, Said}
use Rattle.layout.specs.Mem.{Mem}
use Rattle.layout.specs.Follows.{Follows}
use Rattle.calls.proofs.Inserting.{insert_says, prepared_says}
use Rattle.calls.proofs.Preparing.{prepare_says}
use Rattle.ranks.proofs.Forms.{rank_up_says, open_says}
use Rattle.contracts.specs.Runs.{Ran, ran_by}
use Rattle.contracts.specs.Does.{Does}
use Rattle.contracts.specs.Takes.{Takes}

model_takes : {x : Mem} → Follows x → (c : Call) → Fitting c → Takes x c (ran_by x c).after
model_takes w (insert z) f = (insert_says w z f).takes
model_takes w (put z) f = (insert_says w z f).takes
model_takes w (prepared z) f = (prepared_says w z f).takes
model_takes w (prepare z) f = (prepare_says w z f).takes
model_takes w rank_up f = (rank_up_says w).takes
model_takes w leave f = (open_says w).takes

pub lowest_free : (x : Mem) (c : Call) (a : Said) (y : Mem) → Follows x → Fitting c → Does x c a y → Takes x c y
lowest_free x c a y w f d = subst (λ (r : Ran). Takes x c r.after) (sym d.by) (model_takes w c f)
