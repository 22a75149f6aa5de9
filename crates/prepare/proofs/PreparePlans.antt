-- What the plan prepare_does, way by way, and that carrying it out is `pre_allocate`. Assumes nothing.
use mathlib.Core.Path.{◌≡◌, refl, sym, ◌∙◌, ap, ap₂, subst}
use mathlib.Core.List.{List}
use mathlib.Core.Bool.{Bool, true, false, cond, ◌&&◌}
use Prim.Native.Nat.{ℕ, ◌+◌, ◌-◌, ◌*◌, ◌/◌, ◌^◌, ◌≤◌, ◌<◌}
use native.Mathlib.Omega.{arith}
use lib.ListN.{length}
use lib.Dec.{ltb, eqb}
use lib.IntN.{ℤ, pos, negsuc}
use lib.Pow.{pow_mono}
use mir.Syntax.{w64}
use mir.Val.{SFits, bool_byte}
use borrow.Author.Tests.{eq-eqb, ne_eqb, lt-ltb, le-ltb, ltb-false}
use Rattle.numbers.specs.Ids.{chunk_of}
use Rattle.numbers.proofs.Signs.{pos_below}
use Rattle.numbers.proofs.Splits as splits
use Rattle.sums.specs.Ids.{count}
use Rattle.sums.proofs.Counts.{count_next}
use Rattle.layout.specs.Mem.{Mem, mem}
use Rattle.document.specs.Sizes.{InRange, top}
use Rattle.layout.specs.Sizes.{RoomIn, blocks_of, head, mode_at, over_count}
use Rattle.layout.specs.Places.{has_page}
use Rattle.layout.specs.Entries.{entries, chunk_at, place_at}
use Rattle.layout.specs.Short.{over_place}
use Rattle.layout.specs.Tests.{Walked, walked}
use Rattle.layout.specs.SetUp.{Did, did}
use Rattle.document.specs.declared.sizes.Sizes.{Sizes}
use Rattle.layout.specs.declared.place.Place.{Place}
use Rattle.layout.proofs.Tests.{walked_of}
use Rattle.layout_laws.proofs.Walked.{walked_beside}
use Rattle.calls.specs.Prepare.{densed_to, over_needed, pages_needed, prepare_id, prepare_by}
use Rattle.document.specs.Calls.{prepare, that}
use Rattle.contracts.specs.Runs.{by_outcome}
use Rattle.contracts.specs.Does.{Does}
use Rattle.contracts.proofs.Steps.{does}
use Rattle.prepare.specs.PreparePlan.{plan_to, plan_id, plan_prepare}
use Rattle.prepare.specs.Ready.{Sound}
use Rattle.document.specs.Refusals.{is_ranked, not_laid_out, overflow_full, pages_full}
use Rattle.document.specs.Results.{Outcome}
use Rattle.document.specs.declared.refusal.Refusal.{Refusal}
use Rattle.std.specs.Prelude.{Err, None, Ok, Option, Result, Some, ℕ}

-- ---- what is needed

module _ (h : Sizes) (t : List ℕ) (c : ℕ) where
  abbrev pub dense_past : ℕ → Bool
  dense_past = λ (e : ℕ). ltb c (chunk_at h t e) && has_page (place_at h t e)

  pub past_is : (e i : ℕ) (q : Place) (b : Bool) → i ≡ chunk_at h t e → q ≡ place_at h t e → b ≡ has_page q → (ltb c i && b) ≡ dense_past e
  past_is e i q b ei eq eb = ap₂ ◌&&◌ (ap (ltb c) ei) (eb ∙ ap has_page eq)

  pub past_more : (e k : ℕ) (b : Bool) → k ≡ count dense_past e → b ≡ dense_past e → k + bool_byte b ≡ count dense_past (e + 1)
  past_more e k b ek eb = ap₂ ◌+◌ ek (ap bool_byte eb) ∙ sym (count_next dense_past e)

  pub pages_are : (k e : ℕ) → k ≡ count dense_past e → e ≡ entries h t → k + (c + 1) ≡ pages_needed h t c
  unfolding pages_needed
  pages_are k e ek ee = ap (λ (i : ℕ). i + (c + 1)) (ek ∙ ap (count dense_past) ee)

  pub over_is : (n k i : ℕ) → n ≡ over_count t → k ≡ over_place t (16 + 2 * h.d) (over_count t) (c + 1) → i ≡ c + 1 - h.d → n - k + i ≡ over_needed h t c
  unfolding over_needed
  over_is n k i en ek ei = ap₂ ◌+◌ (ap₂ ◌-◌ en ek) ei

  -- ---- 6 before 8

  by : Bool → Bool → (Result (Option ℕ) Refusal)
  by a b = cond a (Err overflow_full) (cond b (Err pages_full) (Ok (Some c)))

  module _ (v : ℕ) (ev : v ≡ over_needed h t c) where
    pub judge_six : h.v < v → Err overflow_full ≡ plan_to h t c
    unfolding plan_to by
    judge_six l = ap (λ (a : Bool). by a (ltb h.p (pages_needed h t c))) (sym (ap (ltb h.v) (sym ev) ∙ lt-ltb h.v v l))

    module _ (l : v ≤ h.v) (p : ℕ) (ep : p ≡ pages_needed h t c) where
      not_six : ltb h.v (over_needed h t c) ≡ false
      not_six = ap (ltb h.v) (sym ev) ∙ le-ltb h.v v l

      pub judge_eight : h.p < p → Err pages_full ≡ plan_to h t c
      unfolding plan_to by
      judge_eight m = ap₂ by (sym not_six) (sym (ap (ltb h.p) (sym ep) ∙ lt-ltb h.p p m))

      pub judge_make : p ≤ h.p → Ok (Some c) ≡ plan_to h t c
      unfolding plan_to by
      judge_make m = ap₂ by (sym not_six) (sym (ap (ltb h.p) (sym ep) ∙ le-ltb h.p p m))

-- ---- 3, then 4

abbrev pub by_chunk : Sizes → Mem → (Option ℕ) → (Result (Option ℕ) Refusal)
by_chunk h x (Some c) = plan_to h x.table c
by_chunk h x None = Ok None

module _ (x : Mem) (z : ℤ) (a : Bool) (ea : a ≡ walked x) where
  gate : Bool → Bool → (Result (Option ℕ) Refusal)
  gate i j = cond i (cond j (Err is_ranked) (plan_id x z)) (Err not_laid_out)

  pub plan_three : a ≡ false → Err not_laid_out ≡ plan_prepare x z
  unfolding plan_prepare gate
  plan_three e = ap (λ (i : Bool). gate i (eqb (mode_at x.table) 1)) (sym e ∙ ea)

  module _ (ok : a ≡ true) (m : ℕ) (em : m ≡ mode_at x.table) where
    pub plan_four : m ≡ 1 → Err is_ranked ≡ plan_prepare x z
    unfolding plan_prepare gate
    plan_four e = ap₂ gate (sym ok ∙ ea) (sym (ap (λ (i : ℕ). eqb i 1) (sym em) ∙ eq-eqb m 1 e))

    pub is_walked : Walked x (head x)
    is_walked = (walked_of x).sound (sym ea ∙ ok)

    module _ (h : Sizes) (eh : h ≡ head x) where
      pub plan_range : InRange h × (over_count x.table ≤ 65536)
      plan_range =
          let W = is_walked in
          let f = W.over_fits in
          let v = W.sizes.v_high in
          (subst InRange (sym eh) W.sizes, omega arith)

      module _ (open-set : m ≡ 1 → ⊥) where
        plan_open : plan_id x z ≡ plan_prepare x z
        unfolding plan_prepare gate
        plan_open = ap₂ gate (sym ok ∙ ea) (sym (ap (λ (i : ℕ). eqb i 1) (sym em) ∙ ne_eqb m 1 open-set))

        chunk_plan : (w : ℤ) → by_chunk h x (chunk_of h.s w) ≡ plan_id x w
        chunk_plan (pos n) = ap (λ (k : Sizes). plan_to k x.table (n / top k)) eh
        chunk_plan (negsuc n) = refl

        pub plan_natural : (q : (Option ℕ)) → q ≡ chunk_of h.s z → by_chunk h x q ≡ plan_prepare x z
        plan_natural q e = ap (by_chunk h x) e ∙ chunk_plan z ∙ plan_open

-- a chunk id is far below 2^62
pub chunk_small : (s : ℕ) (z : ℤ) (c : ℕ) → 9 ≤ s → s ≤ 25 → SFits w64 z → Some c ≡ chunk_of s z → c < 2 ^ 62
chunk_small s (pos n) c low high f e =
    let q : c ≡ n / 2 ^ s = cc in
    let l = splits.chunk_below s n (omega arith) (pos_below n f) in
    let g : 2 ^ (63 - s) ≤ 2 ^ 62 = pow_mono {j = 62} (omega arith) in
    omega arith
chunk_small s (negsuc n) c low high f e = absurd (let g : ◌≡◌ {A = ℕ} 0 1 = cc in omega arith)

-- ---- carried out

abbrev pub carried_out : Mem → (Result (Option ℕ) Refusal) → Did
carried_out x (Err n) = did (Err n) x
carried_out x (Ok None) = did (Ok tt) x
carried_out x (Ok (Some c)) = did (Ok tt) (densed_to (head x) x (c + 1))

carried_out_law : (x : Mem) (z : ℤ) → carried_out x (plan_prepare x z) ≡ prepare_by x z
unfolding plan_prepare plan_to prepare_by
carried_out_law x z = go (walked x) (eqb (mode_at x.table) 1) z
  where
    pick : (a b : Bool) (c : ℕ) → carried_out x (cond a (Err overflow_full) (cond b (Err pages_full) (Ok (Some c))))
        ≡ cond a (did (Err overflow_full) x) (cond b (did (Err pages_full) x) (did (Ok tt) (densed_to (head x) x (c + 1))))
    pick true b c = refl
    pick false true c = refl
    pick false false c = refl

    go : (a b : Bool) (w : ℤ) → carried_out x (cond a (cond b (Err is_ranked) (plan_id x w)) (Err not_laid_out))
        ≡ cond a (cond b (did (Err is_ranked) x) (prepare_id x w)) (did (Err not_laid_out) x)
    go false b w = refl
    go true true w = refl
    go true false (pos n) =
        let c = n / top (head x) in
        pick (ltb (head x).v (over_needed (head x) x.table c)) (ltb (head x).p (pages_needed (head x) x.table c)) c
    go true false (negsuc n) = refl

-- a plan that was made, carried out
pub plan_carried : (x : Mem) (z : ℤ) (q r : Result (Option ℕ) Refusal) → q ≡ plan_prepare x z → q ≡ r → carried_out x r ≡ prepare_by x z
plan_carried x z q r e f = ap (carried_out x) (sym f ∙ e) ∙ carried_out_law x z

-- what the contract prepare_does of it
pub prepare_does : (x : Mem) (z : ℤ) → SFits w64 z → {r : Outcome} {y : Mem} → did r y ≡ prepare_by x z → Does x (prepare z) (that r) y
prepare_does x z f e = does x (prepare z) f (ap by_outcome e)

-- ---- a plan to make chunks dense stands on the walk and on room

not_make : (n : Refusal) (c : ℕ) → ◌≡◌ {A = Result (Option ℕ) Refusal} (Err n) (Ok (Some c)) → ⊥
not_make n c e = absurd cc

not_nothing : (c : ℕ) → ◌≡◌ {A = Result (Option ℕ) Refusal} (Ok None) (Ok (Some c)) → ⊥
not_nothing c e = absurd cc

gate_made : (a b : Bool) (p : Result (Option ℕ) Refusal) (c : ℕ) → cond a (cond b (Err is_ranked) p) (Err not_laid_out) ≡ Ok (Some c) → (a ≡ true) × (b ≡ false) × (p ≡ Ok (Some c))
gate_made true true p c e = absurd (not_make is_ranked c e)
gate_made true false p c e = (refl, refl, e)
gate_made false b p c e = absurd (not_make not_laid_out c e)

pick_made : (a b : Bool) (k c : ℕ) → cond a (Err overflow_full) (cond b (Err pages_full) (Ok (Some k))) ≡ Ok (Some c) → (a ≡ false) × (b ≡ false) × (k ≡ c)
pick_made true b k c e = absurd (not_make overflow_full c e)
pick_made false true k c e = absurd (not_make pages_full c e)
pick_made false false k c e = (refl, refl, cc)

-- what was judged
abbrev Fits : Mem → ℕ → Type 0
Fits x c = (over_needed (head x) x.table c ≤ (head x).v) × (pages_needed (head x) x.table c ≤ (head x).p)

id_made : (x : Mem) (z : ℤ) (c : ℕ) → plan_id x z ≡ Ok (Some c) → Fits x c
unfolding plan_to
id_made x (pos n) c e =
    let k = n / top (head x) in
    let g = pick_made (ltb (head x).v (over_needed (head x) x.table k)) (ltb (head x).p (pages_needed (head x) x.table k)) k c e in
    subst (Fits x) g.2 (ltb-false (head x).v (over_needed (head x) x.table k) g.0, ltb-false (head x).p (pages_needed (head x) x.table k) g.1)
id_made x (negsuc n) c e = absurd (not_nothing c e)

-- whatever the block counts are
room_beside : (x : Mem) → Walked x (head x) → (b : List ℕ) → (head x).p * blocks_of (head x) ≤ length b → RoomIn (head x) (mem x.pages x.rows b x.table)
room_beside x W b l = let r = W.room in record { in_pages = r.in_pages; in_rows = r.in_rows; in_blocks = l; in_table = r.in_table }

pub made_sound : (x : Mem) (z : ℤ) (q : Result (Option ℕ) Refusal) (c : ℕ) → q ≡ plan_prepare x z → q ≡ Ok (Some c) → Sound x.pages x.rows x.table c
unfolding plan_prepare
made_sound x z q c e f =
    let g = gate_made (walked x) (eqb (mode_at x.table) 1) (plan_id x z) c (sym e ∙ f) in
    let k = id_made x z c g.2 in
    let w = (walked_of x).sound g.0 in
    λ b l. record { walks = walked_beside w x.pages x.rows b (room_beside x w b l); mode = g.1; over = k.0; pages = k.1 }
