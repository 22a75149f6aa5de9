-- Each pass under way: memory is the model's after as many entries, and the cursor is the lowest free slot. Assumes nothing.
use mathlib.Core.Path.{◌≡◌, sym, ap, subst, ◌∙◌}
use mathlib.Core.List.{List}
use Prim.Native.Nat.{ℕ, ◌+◌, ◌-◌, ◌<◌}
use native.Mathlib.Numerals.{add-one}
use native.Mathlib.Omega.{arith}
use lib.ListN.{length}
use Rattle.document.specs.declared.sizes.Sizes.{Sizes}
use Rattle.layout.specs.Mem.{Mem, mem}
use Rattle.layout.specs.Sizes.{header_at}
use Rattle.layout.specs.Places.{row_owner, page_owner}
use Rattle.layout.specs.Entries.{entries}
use Rattle.layout.specs.Free.{first_free, free_row_in, free_page_in}
use Rattle.unions.specs.Union.{source_entries, dense_to, sparse_to}
use Rattle.unions.proofs.Onward.{Turned, Kept, dense_turned, sparse_turned, dense_kept, sparse_kept}
use Rattle.merge_slots.specs.Pools.{PagePools, RowPools}
use Rattle.merging.specs.Ready.{Entry, Sound, RowsSound}
use Rattle.merging.specs.Effects.{densely_at, sparsely_at, DenseTurn, SparseTurn}
use Rattle.merging.proofs.Turns.{page_pools, row_pools, entry_ready, full_rows, full_pages, slot_next}

-- ---- the first pass

pub record DenseWay (h : Sizes) (ps₀ rs₀ t₀ sp sr st ps rs t : List ℕ) (p e : ℕ) : Type 0 where
  pub lowest : p ≡ free_page_in h t
  pub same : (b sb : List ℕ) → mem ps rs b t ≡ dense_to (mem ps₀ rs₀ b t₀) (mem sp sr sb st) e

module _ (h g : Sizes) (ps₀ rs₀ t₀ sp sr st : List ℕ) (ok : Sound ps₀ rs₀ t₀ sp sr st) (eh : h ≡ header_at t₀) (eg : g ≡ header_at st) where
  abbrev x₀ : Mem
  x₀ = mem ps₀ rs₀ ok.0 t₀

  abbrev y₀ : Mem
  y₀ = mem sp sr ok.1 st

  module _ (ps rs t : List ℕ) (p e : ℕ) (w : DenseWay h ps₀ rs₀ t₀ sp sr st ps rs t p e) where
    abbrev z : Mem
    z = mem ps rs ok.0 t

    module _ (l : e < entries g st) where
      inside : e < source_entries (mem sp sr ok.1 st)
      inside = subst (λ (k : Sizes). e < entries k st) eg l

      kept : Kept (mem ps₀ rs₀ ok.0 t₀) (mem sp sr ok.1 st) (mem ps rs ok.0 t)
      kept = subst (Kept x₀ y₀) (sym (w.same ok.0 ok.1)) (dense_kept ok.2 e (let i = inside in omega arith))

      header : h ≡ header_at t
      header = eh ∙ sym kept.sizes

      pub dense_ready : PagePools h g (length ps) (length sp) × RowPools h g (length rs) (length sr) × Entry h g t st e × (p ≡ free_page_in h t)
      dense_ready = (page_pools kept.joins h g header eg, row_pools kept.joins h g header eg, entry_ready kept.joins h g header eg e l, w.lowest)

      pub dense_more : (ps' rs' t' : List ℕ) (p' : ℕ) → DenseTurn ps rs t ps' rs' t' sp sr st e → p' ≡ first_free (page_owner h t') p (h.p - p)
          → DenseWay h ps₀ rs₀ t₀ sp sr st ps' rs' t' p' (e + 1)
      unfolding dense_to
      dense_more ps' rs' t' p' turn low =
          let T : Turned page_owner (mem ps rs ok.0 t) (mem sp sr ok.1 st) (mem ps' rs' ok.0 t') =
          subst (Turned page_owner z y₀) (sym (turn ok.0 ok.1)) (dense_turned kept.joins e inside) in
          record {
            lowest = slot_next T h header h.p (full_pages kept.joins h g header eg) (full_pages T.joins h g (header ∙ sym T.sizes) eg) p w.lowest p' low;
            same = λ b sb.
                turn b sb ∙ ap (λ (x : Mem). densely_at x (mem sp sr sb st) e) (w.same b sb) ∙ ap (dense_to (mem ps₀ rs₀ b t₀) (mem sp sr sb st)) (sym (add-one e));
          }

-- ---- the second pass

pub record SparseWay (h : Sizes) (rs₀ t₀ sr st rs t : List ℕ) (r e : ℕ) : Type 0 where
  pub lowest : r ≡ free_row_in h t
  pub same : (p b sp sb : List ℕ) → mem p rs b t ≡ sparse_to (mem p rs₀ b t₀) (mem sp sr sb st) e

module _ (h g : Sizes) (rs₀ t₀ sr st : List ℕ) (ok : RowsSound rs₀ t₀ sr st) (eh : h ≡ header_at t₀) (eg : g ≡ header_at st) where
  abbrev here₀ : Mem
  here₀ = mem ok.0 rs₀ ok.2 t₀

  abbrev there₀ : Mem
  there₀ = mem ok.1 sr ok.3 st

  module _ (rs t : List ℕ) (r e : ℕ) (w : SparseWay h rs₀ t₀ sr st rs t r e) where
    abbrev now : Mem
    now = mem ok.0 rs ok.2 t

    module _ (l : e < entries g st) where
      within : e < source_entries (mem ok.1 sr ok.3 st)
      within = subst (λ (k : Sizes). e < entries k st) eg l

      holds : Kept (mem ok.0 rs₀ ok.2 t₀) (mem ok.1 sr ok.3 st) (mem ok.0 rs ok.2 t)
      holds = subst (Kept here₀ there₀) (sym (w.same ok.0 ok.2 ok.1 ok.3)) (sparse_kept ok.4 e (let i = within in omega arith))

      sizes_are : h ≡ header_at t
      sizes_are = eh ∙ sym holds.sizes

      pub sparse_ready : RowPools h g (length rs) (length sr) × Entry h g t st e × (r ≡ free_row_in h t)
      sparse_ready = (row_pools holds.joins h g sizes_are eg, entry_ready holds.joins h g sizes_are eg e l, w.lowest)

      pub sparse_more : (rs' t' : List ℕ) (r' : ℕ) → SparseTurn rs t rs' t' sr st e → r' ≡ first_free (row_owner h t') r (h.r - r) → SparseWay h rs₀ t₀ sr st rs' t' r' (e + 1)
      unfolding sparse_to
      sparse_more rs' t' r' turn low =
          let T : Turned row_owner (mem ok.0 rs ok.2 t) (mem ok.1 sr ok.3 st) (mem ok.0 rs' ok.2 t') =
          subst (Turned row_owner now there₀) (sym (turn ok.0 ok.2 ok.1 ok.3)) (sparse_turned holds.joins e within) in
          record {
            lowest = slot_next T h sizes_are h.r (full_rows holds.joins h g sizes_are eg) (full_rows T.joins h g (sizes_are ∙ sym T.sizes) eg) r w.lowest r' low;
            same = λ p b sp sb.
                turn p b sp sb ∙ ap (λ (x : Mem). sparsely_at x (mem sp sr sb st) e) (w.same p b sp sb)
                ∙ ap (sparse_to (mem p rs₀ b t₀) (mem sp sr sb st)) (sym (add-one e));
          }

-- ---- one after the other

module _ (h : Sizes) (ps rs t sp sr st : List ℕ) (ok : Sound ps rs t sp sr st) (eh : h ≡ header_at t) (ps₁ rs₁ t₁ : List ℕ)
    (first : (b sb : List ℕ) → mem ps₁ rs₁ b t₁ ≡ dense_to (mem ps rs b t) (mem sp sr sb st) (source_entries (mem sp sr sb st))) where
  after : Kept (mem ps rs ok.0 t) (mem sp sr ok.1 st) (mem ps₁ rs₁ ok.0 t₁)
  after =
      subst (Kept (mem ps rs ok.0 t) (mem sp sr ok.1 st)) (sym (first ok.0 ok.1))
      (dense_kept ok.2 (source_entries (mem sp sr ok.1 st)) (omega arith))

  pub second_sound : RowsSound rs₁ t₁ sr st × (h ≡ header_at t₁)
  second_sound = ((ps₁, sp, ok.0, ok.1, after.joins), eh ∙ sym after.sizes)
