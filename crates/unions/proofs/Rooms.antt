-- Room for a chunk on the way: a map that has less than the one to come has a slot left. Assumes nothing.
use mathlib.Core.Path.{◌≡◌, refl, ap, ◌∙◌}
use mathlib.Core.Bool.{Bool, true, false, cond, ◌&&◌}
use Prim.Native.Nat.{ℕ, ◌-◌, ◌≤◌, ◌<◌}
use native.Mathlib.Omega.{arith}
use lib.Dec.{leb, ltb, eqb}
use mir.Val.{bool_byte}
use borrow.Author.Tests.{eqb-true, ltb-true, ltb-false, le-leb, eq-eqb, ne_eqb}
use Rattle.sums.specs.Ids.{Ids, count}
use Rattle.sums.proofs.Counts.{count_change}
use Rattle.sums.proofs.Rules.{both}
use Rattle.document.specs.Sizes.{last_chunk}
use Rattle.document.specs.State.{Kind, is_present, is_sparse, is_dense}
use Rattle.document.specs.Room.{overflows, sparses, denses}
use Rattle.layout.specs.Mem.{Mem}
use Rattle.layout.specs.Sizes.{head}
use Rattle.layout.specs.Free.{first_free}
use Rattle.layout.specs.Meaning.{kinds}
use Rattle.layout.specs.Follows.{FullTo, Follows}
use Rattle.steps.specs.Effects.{EntryFor}
use Rattle.calls.specs.Insert.{free_row, free_page}
use Rattle.layout.proofs.FirstFree.{taken, none_full}
use Rattle.calls.proofs.Needed.{count_imp}
use Rattle.calls.proofs.Verdicts.{overflows_is, sparses_is, denses_is}

-- ---- one more than is there

pub count_under : (P Q : Ids) (c n : ℕ) → c < n → ((j : ℕ) → P j ≡ true → Q j ≡ true) → P c ≡ false → Q c ≡ true → count P n < count Q n
count_under P Q c n l f p q =
    let a = count_change P more c n l (λ j m d. ap (λ (t : Bool). cond t true (P j)) (ne_eqb j c d)) in
    let b = count_imp more Q n (λ j. go j (eqb j c) refl) in
    let d : bool_byte (P c) ≡ 0 = ap bool_byte p in
    let e : bool_byte (more c) ≡ 1 = ap (λ (t : Bool). bool_byte (cond t true (P c))) (eq-eqb c c refl) in
    omega arith
  where
    more : Ids
    more j = cond (eqb j c) true (P j)

    go : (j : ℕ) (t : Bool) → eqb j c ≡ t → cond t true (P j) ≡ true → Q j ≡ true
    go j true k e = ap Q (eqb-true j c k) ∙ q
    go j false k e = f j e

-- ---- a slot of n is free where fewer have an owner

slot_free : {owner : ℕ → ℕ} {n k : ℕ} → FullTo owner n k → count (taken owner) n < n → first_free owner k (n - k) < n
slot_free {owner} {n} {k} w l = go (ltb (first_free owner k (n - k)) n) refl
  where
    go : (b : Bool) → ltb (first_free owner k (n - k)) n ≡ b → first_free owner k (n - k) < n
    go true e = ltb-true (first_free owner k (n - k)) n e
    go false e = absurd (let f = none_full w (ltb-false (first_free owner k (n - k)) n e) in omega arith)

-- ---- chunk c of memory on the way to a map

module _ {z : Mem} (w : Follows z) (map : ℕ → Kind) (c : ℕ) (far : c < last_chunk (head z)) where
  pub page_there : ((i : ℕ) → is_dense (kinds z i) ≡ true → is_dense (map i) ≡ true) → denses (head z) map ≤ (head z).p
      → is_dense (kinds z c) ≡ false → is_dense (map c) ≡ true → free_page z < (head z).p
  unfolding denses
  page_there f room a b =
      let u = count_under (λ (i : ℕ). is_dense (kinds z i)) (λ (i : ℕ). is_dense (map i)) c (last_chunk (head z)) far f a b in
      let e = denses_is w in
      slot_free w.pages_full_to (omega arith)

  pub row_there : ((i : ℕ) → is_sparse (kinds z i) ≡ true → is_sparse (map i) ≡ true) → sparses (head z) map ≤ (head z).r
      → is_sparse (kinds z c) ≡ false → is_sparse (map c) ≡ true → free_row z < (head z).r
  unfolding sparses
  row_there f room a b =
      let u = count_under (λ (i : ℕ). is_sparse (kinds z i)) (λ (i : ℕ). is_sparse (map i)) c (last_chunk (head z)) far f a b in
      let e = sparses_is w in
      slot_free w.rows_full_to (omega arith)

  pub entry_there : ((i : ℕ) → is_present (kinds z i) ≡ true → is_present (map i) ≡ true) → overflows (head z) map ≤ (head z).v
      → is_present (kinds z c) ≡ false → is_present (map c) ≡ true → EntryFor (head z) z.table c
  unfolding overflows
  entry_there f room a b l =
      let past = le-leb (head z).d c l in
      let u = count_under (λ (i : ℕ). leb (head z).d i && is_present (kinds z i)) (λ (i : ℕ). leb (head z).d i && is_present (map i)) c (last_chunk (head z)) far
      (λ i e. let g = both (leb (head z).d i) (is_present (kinds z i)) e in ap (λ (t : Bool). t && is_present (map i)) g.0 ∙ f i g.1)
      (ap (λ (t : Bool). t && is_present (kinds z c)) past ∙ a)
      (ap (λ (t : Bool). t && is_present (map c)) past ∙ b) in
      let e = overflows_is w in
      omega arith
