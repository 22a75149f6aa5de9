-- Entry by entry: what a turn asks for is there where the tests passed, and the lowest free slot is looked for from the last one on. Assumes nothing.
use mathlib.Core.Path.{◌≡◌, sym, ap, subst, ◌∙◌}
use mathlib.Core.Logic.{◌≢◌}
use mathlib.Core.List.{List}
use Prim.Native.Nat.{ℕ, ◌-◌, ◌*◌, ◌^◌, ◌≤◌, ◌<◌}
use native.Mathlib.Omega.{arith}
use lib.ListN.{length}
use lib.Pow.{pow_mono}
use Rattle.document.specs.Sizes.{InRange, last_chunk}
use Rattle.document.specs.declared.sizes.Sizes.{Sizes}
use Rattle.layout.specs.Mem.{Mem}
use Rattle.layout.specs.Sizes.{wide, head, rows_from, pages_from}
use Rattle.layout.specs.Places.{row_owner, page_owner}
use Rattle.layout.specs.Follows.{FullTo}
use Rattle.layout.specs.Entries.{entries, chunk_at}
use Rattle.layout.specs.Free.{first_free}
use Rattle.layout.proofs.FirstFree.{found_full, same_found}
use Rattle.unions.specs.Joinable.{Joinable}
use Rattle.unions.proofs.Standing.{chunk_in}
use Rattle.unions.proofs.Results.{same_s, same_m}
use Rattle.unions.proofs.Onward.{Turned}
use Rattle.merge_slots.specs.Pools.{PagePools, RowPools}
use Rattle.merging.specs.Ready.{Entry}

-- ---- on the way from x, with the source y: memory z

module _ {z y : Mem} (J : Joinable z y) (h g : Sizes) (eh : h ≡ head z) (eg : g ≡ head y) where
  sizes : InRange h
  sizes = subst InRange (sym eh) J.here.sizes

  there : InRange g
  there = subst InRange (sym eg) J.there.sizes

  pub page_pools : PagePools h g (length z.pages) (length y.pages)
  page_pools = record {
    here = sizes;
    there = there;
    same = ap (λ (k : Sizes). k.s) eh ∙ same_s z y J.shape ∙ sym (ap (λ (k : Sizes). k.s) eg);
    in_pages = subst (λ (k : Sizes). k.p * wide k ≤ length z.pages) (sym eh) J.here.room.in_pages;
    from_pages = subst (λ (k : Sizes). k.p * wide k ≤ length y.pages) (sym eg) J.there.room.in_pages;
  }

  pub row_pools : RowPools h g (length z.rows) (length y.rows)
  row_pools = record {
    here = sizes;
    there = there;
    same = ap (λ (k : Sizes). k.m) eh ∙ same_m z y J.shape ∙ sym (ap (λ (k : Sizes). k.m) eg);
    in_rows = subst (λ (k : Sizes). k.r * k.m ≤ length z.rows) (sym eh) J.here.room.in_rows;
    from_rows = subst (λ (k : Sizes). k.r * k.m ≤ length y.rows) (sym eg) J.there.room.in_rows;
  }

  -- as many as the sizes have
  pub entries_few : entries g y.table ≤ 327680
  entries_few =
      let a = there.d_high in
      let b = J.there.over_fits in
      let c = J.there.sizes.v_high in
      omega arith

  pub entry_ready : (e : ℕ) → e < entries g y.table → Entry h g z.table y.table e
  entry_ready e l =
      let f = J.here.over_fits in
      let v = J.here.sizes.v_high in
      let d = J.there.sizes.s_low in
      let n = entries_few in
      let i : e < entries (head y) y.table = subst (λ (k : Sizes). e < entries k y.table) eg l in
      let a = chunk_in J.there e i in
      let b : last_chunk (head y) ≤ 2 ^ 62 = pow_mono {i = 63 - (head y).s} {j = 62} (omega arith) in
      record {
        header = eh;
        source = eg;
        over = omega arith;
        entry = omega arith;
        chunk = subst (λ (k : Sizes). chunk_at k y.table e < 2 ^ 62) (sym eg) (omega arith);
      }

  pub full_rows : FullTo (row_owner h z.table) h.r (rows_from z.table)
  full_rows = subst (λ (k : Sizes). FullTo (row_owner k z.table) k.r (rows_from z.table)) (sym eh) J.here.rows_full_to

  pub full_pages : FullTo (page_owner h z.table) h.p (pages_from z.table)
  full_pages = subst (λ (k : Sizes). FullTo (page_owner k z.table) k.p (pages_from z.table)) (sym eh) J.here.pages_full_to

-- the lowest free slot of n, once those below p are taken: it is looked for from p on, and the model looks from the header's word on
module _ {owner : Sizes → List ℕ → ℕ → ℕ} {z y z' : Mem} (T : Turned owner z y z') (h : Sizes) (eh : h ≡ head z) (n : ℕ) {k k' : ℕ}
    (was : FullTo (owner h z.table) n k) (now : FullTo (owner h z'.table) n k') (p : ℕ) (low : p ≡ first_free (owner h z.table) k (n - k)) where
  still : (j : ℕ) → owner h z.table j ≢ 0 → owner h z'.table j ≢ 0
  still j = subst (λ (k : Sizes). owner k z.table j ≢ 0 → owner k z'.table j ≢ 0) (sym eh) (T.taken j)

  below : FullTo (owner h z'.table) n p
  below = let f = found_full was in record { within = let m = f.within in omega arith; owned = λ j l. still j (f.owned j (omega arith)) }

  pub slot_next : (p' : ℕ) → p' ≡ first_free (owner h z'.table) p (n - p) → p' ≡ first_free (owner h z'.table) k' (n - k')
  slot_next p' e = e ∙ same_found below now
