-- A refusal changes nothing, on any memory. Assumes nothing.
use mathlib.Core.Path.{◌≡◌, refl}
use mathlib.Core.Bool.{Bool, true, false, cond, ◌&&◌}
use Prim.Native.Nat.{ℕ, ◌+◌, ◌/◌}
use lib.IntN.{ℤ, pos, negsuc}
use lib.ListN.{get_or}
use lib.Dec.{leb, ltb, eqb}
use Rattle.numbers.specs.Ids.{split_of}
use Rattle.layout.specs.Mem.{Mem}
use Rattle.document.specs.Sizes.{top}
use Rattle.layout.specs.Sizes.{head, mode_at}
use Rattle.layout.specs.Tests.{walked}
use Rattle.layout.specs.SetUp.{Did, did}
use Rattle.document.specs.declared.sizes.Sizes.{Sizes}
use Rattle.calls.specs.Reading.{shift_ok}
use Rattle.calls.specs.Insert.{insert_plan, prepared_plan, Told, told, acted, insert_at, insert_by, prepared_at, prepared_by}
use Rattle.calls.specs.Prepare.{densed_to, over_needed, pages_needed, prepare_to, prepare_id, prepare_by}
use Rattle.calls.specs.Planned.{InsertPlan}
use Rattle.calls.specs.declared.plan.Plan.TheVariants.{Begin, Enter, Known, Mark, Turn}
use Rattle.document.specs.Refusals.{is_ranked, not_laid_out, overflow_full, pages_full}
use Rattle.std.specs.Prelude.{Err, None, Ok, Option, Some}
use Rattle.document.specs.declared.refusal.Refusal.{Refusal}

-- ---- inserts

pub is_refused : (b : Bool) (n : Refusal) → Ok b ≡ Err n → ⊥
is_refused b n e = cc

abbrev Stays : Mem → Told → Type 0
Stays x t = (n : Refusal) → t.answer ≡ Err n → t.after ≡ x

stays_acted : (x : Mem) (c o : ℕ) (q : InsertPlan) → Stays x (acted x c o q)
stays_acted x c o (Err k) n e = refl
stays_acted x c o (Ok Known) n e = refl
stays_acted x c o (Ok (Mark p)) n e = absurd (is_refused true n e)
stays_acted x c o (Ok (Enter r l k)) n e = absurd (is_refused true n e)
stays_acted x c o (Ok (Begin r)) n e = absurd (is_refused true n e)
stays_acted x c o (Ok (Turn r l p)) n e = absurd (is_refused true n e)

stays_open : (x : Mem) (a b : Bool) (t : Told) → Stays x t → Stays x (cond a (cond b (told (Err is_ranked) x) t) (told (Err not_laid_out) x))
stays_open x true true t s n e = refl
stays_open x true false t s n e = s n e
stays_open x false b t s n e = refl

stays_insert : (x : Mem) (q : Option (ℕ × ℕ)) → Stays x (insert_at x q)
stays_insert x (Some (c, o)) = stays_acted x c o (insert_plan x c o)
stays_insert x None = λ n e. refl

pub insert_refused : (x : Mem) (z : ℤ) (n : Refusal) → (insert_by x z).answer ≡ Err n → (insert_by x z).after ≡ x
unfolding insert_by
insert_refused x z =
    let q = split_of (get_or x.table 0 0) z in
    stays_open x (shift_ok x.table && leb (mode_at x.table) 1) (eqb (mode_at x.table) 1) (insert_at x q) (stays_insert x q)

stays_prepared : (x : Mem) (q : Option (ℕ × ℕ)) → Stays x (prepared_at x q)
stays_prepared x (Some (c, o)) = stays_acted x c o (prepared_plan x c o)
stays_prepared x None = λ n e. refl

pub prepared_refused : (x : Mem) (z : ℤ) (n : Refusal) → (prepared_by x z).answer ≡ Err n → (prepared_by x z).after ≡ x
unfolding prepared_by
prepared_refused x z =
    let q = split_of (get_or x.table 0 0) z in
    stays_open x (shift_ok x.table && leb (mode_at x.table) 1) (eqb (mode_at x.table) 1) (prepared_at x q) (stays_prepared x q)

-- ---- preparation

abbrev Same : Mem → Did → Type 0
Same x d = (n : Refusal) → d.answer ≡ Err n → d.after ≡ x

same_cond : (x : Mem) (b : Bool) (d e : Did) → Same x d → Same x e → Same x (cond b d e)
same_cond x true d e p q = p
same_cond x false d e p q = q

same_refused : (x : Mem) (k : Refusal) → Same x (did (Err k) x)
same_refused x k n e = refl

same_done : (x y : Mem) → Same x (did (Ok tt) y)
same_done x y n e = absurd cc

same_to : (h : Sizes) (x : Mem) (c : ℕ) → Same x (prepare_to h x c)
same_to h x c =
    let d = did (Ok tt) (densed_to h x (c + 1)) in
    same_cond x (ltb h.v (over_needed h x.table c)) (did (Err overflow_full) x) (cond (ltb h.p (pages_needed h x.table c)) (did (Err pages_full) x) d) (same_refused x overflow_full)
    (same_cond x (ltb h.p (pages_needed h x.table c)) (did (Err pages_full) x) d (same_refused x pages_full) (same_done x (densed_to h x (c + 1))))

same_id : (x : Mem) (z : ℤ) → Same x (prepare_id x z)
same_id x (pos n) = same_to (head x) x (n / top (head x))
same_id x (negsuc n) = same_done x x

pub prepare_refused : (x : Mem) (z : ℤ) (n : Refusal) → (prepare_by x z).answer ≡ Err n → (prepare_by x z).after ≡ x
unfolding prepare_by
prepare_refused x z =
    same_cond x (walked x) (cond (eqb (mode_at x.table) 1) (did (Err is_ranked) x) (prepare_id x z)) (did (Err not_laid_out) x)
    (same_cond x (eqb (mode_at x.table) 1) (did (Err is_ranked) x) (prepare_id x z) (same_refused x is_ranked) (same_id x z))
    (same_refused x not_laid_out)
