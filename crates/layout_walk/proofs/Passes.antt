-- The pass over the entries: what one more entry adds, that eight absent ones add nothing, and what was seen at the end. Assumes nothing.
use mathlib.Core.Path.{◌≡◌, refl, sym, ◌∙◌, ap, ap₂, subst}
use mathlib.Core.List.{List}
use mathlib.Core.Bool.{Bool, true, false, not, ◌&&◌, ◌||◌, and-true}
use Prim.Native.Nat.{ℕ, zero, suc, ◌+◌, ◌-◌, ◌^◌, ◌≤◌, ◌<◌}
use native.Mathlib.Numerals.{add-one}
use native.Mathlib.Omega.{arith}
use lib.Dec.{leb, ltb, eqb}
use mir.Val.{bool_byte}
use borrow.Author.Tests.{le-leb}
use Rattle.sums.specs.Rules.{all_to}
use Rattle.sums.proofs.Rules.{all_none, all_more}
use Rattle.sums.proofs.Counts.{count_zero, count_le}
use Rattle.layout.specs.Sizes.{direct_at, total_at}
use Rattle.layout.specs.Places.{decoded, has_row, has_page}
use Rattle.layout.specs.Entries.{entries, chunk_at, word_at, prefix_at, place_at}
use Rattle.layout.specs.Eight.{eight_are, eight_absent}
use Rattle.layout.specs.Tests.{zeros, owned_is, place_is, rows_owned, pages_owned, sparse_in, dense_in, owners_are, ranked_at, prefix_rises, ranks_rise, froms_are, over_is, entries_are, table_is}
use Rattle.document.specs.declared.sizes.Sizes.{Sizes}
use Rattle.layout.specs.declared.place.Place.{Place}
use Rattle.layout.proofs.Tests.{after_entry, after_all}
use Rattle.layout.proofs.Eights.{absent_there, absent_each, prefix_each}
use Rattle.layout_walk.specs.Seen.{prefix_before, SeenTo, EightAlike}
use Rattle.layout_walk.proofs.Free.{count_more}

module _ (h : Sizes) (t : List ℕ) where
  -- ---- prefixes: what was seen of the entries before the one before e, with that one's prefix p, and the next prefix q, or the total

  rises_more : (e : ℕ) (a : Bool) (p q : ℕ) → e < entries h t → a ≡ all_to (prefix_rises h t) (e - 1) → p ≡ prefix_before h t e → q ≡ prefix_at h t e
      → (a && leb p q) ≡ all_to (prefix_rises h t) (e + 1 - 1)
  unfolding prefix_rises all_to
  rises_more zero a p q l ea ep eq = ap₂ ◌&&◌ ea (le-leb p q (omega (arith, ep)))
  rises_more (suc e) a p q l ea ep eq =
      let f : suc e - 1 ≡ e = omega arith in
      let g : suc e + 1 - 1 ≡ suc e = omega arith in
      let s : e + 1 ≡ suc e = add-one e in
      ap₂ ◌&&◌ (ea ∙ ap (all_to (prefix_rises h t)) f) (ap₂ leb ep (eq ∙ sym (after_entry h t e (omega arith) ∙ ap (prefix_at h t) s)))
      ∙ ap (all_to (prefix_rises h t)) (sym g)

  rises_all : (e : ℕ) (a : Bool) (p q : ℕ) → e ≡ entries h t → a ≡ all_to (prefix_rises h t) (e - 1) → p ≡ prefix_before h t e → q ≡ total_at t
      → (a && leb p q) ≡ all_to (prefix_rises h t) (entries h t)
  unfolding prefix_rises all_to
  rises_all zero a p q l ea ep eq = ap₂ ◌&&◌ ea (le-leb p q (omega (arith, ep))) ∙ ap (all_to (prefix_rises h t)) l
  rises_all (suc e) a p q l ea ep eq =
      let f : suc e - 1 ≡ e = omega arith in
      ap₂ ◌&&◌ (ea ∙ ap (all_to (prefix_rises h t)) f) (ap₂ leb ep (eq ∙ sym (after_all h t e (omega arith))))
      ∙ ap (all_to (prefix_rises h t)) l

  -- ---- one more entry

  pub seen_none : SeenTo h t 0 true 0 0 true 0
  seen_none = record {
    places = all_none _;
    in_rows = sym (count_zero _);
    in_pages = sym (count_zero _);
    rises = all_none _;
    last = refl;
  }

  module _ (e : ℕ) (ok : Bool) (rows pages : ℕ) (rise : Bool) (prefix : ℕ) (f : SeenTo h t e ok rows pages rise prefix) where
    pub seen_small : (rows ≤ e) × (pages ≤ e)
    seen_small = (omega (arith, f.in_rows, count_le (λ (i : ℕ). has_row (place_at h t i)) e), omega (arith, f.in_pages, count_le (λ (i : ℕ). has_page (place_at h t i)) e))

    module _ (l : e < entries h t) where
      pub seen_more : (q : Place) (b r d : Bool) (next : ℕ) → q ≡ place_at h t e → b ≡ place_is h t e → r ≡ has_row q → d ≡ has_page q → next ≡ prefix_at h t e
          → SeenTo h t (e + 1) (ok && b) (rows + bool_byte r) (pages + bool_byte d) (rise && leb prefix next) next
      seen_more q b r d next eq eb er ed en = record {
        places = all_more (place_is h t) e ok b f.places eb;
        in_rows = count_more (λ (i : ℕ). has_row (place_at h t i)) e rows r f.in_rows (er ∙ ap has_row eq);
        in_pages = count_more (λ (i : ℕ). has_page (place_at h t i)) e pages d f.in_pages (ed ∙ ap has_page eq);
        rises = rises_more e rise prefix next l f.rises f.last en;
        last = en ∙ ap (prefix_before h t) (sym (add-one e));
      }

      -- an absent one with the same prefix adds nothing
      seen_absent : word_at h t e ≡ 0 → prefix_at h t e ≡ prefix → SeenTo h t (e + 1) ok rows pages rise prefix
      unfolding place_is
      seen_absent w p =
          let z : decoded 0 ≡ place_at h t e = ap decoded (sym w) in
          let g = seen_more (decoded 0) true false false prefix z (ap (owned_is h t (chunk_at h t e)) z) refl refl (sym p) in
          let r : (rise && leb prefix prefix) ≡ rise = ap (λ (b : Bool). rise && b) (le-leb prefix prefix (omega arith)) ∙ and-true rise in
          record {
            places = sym (and-true ok) ∙ g.places;
            in_rows = omega (arith, g.in_rows);
            in_pages = omega (arith, g.in_pages);
            rises = sym r ∙ g.rises;
            last = g.last;
          }

  -- ---- eight at once

  pub alike : (e n : ℕ) → eight_absent t h.d e ≡ true → (b : Bool) → b ≡ eight_are t (direct_at e + 1) n → b ≡ true → EightAlike h t e n
  alike e n a b eb y =
      let l = absent_there h t e h.d refl a in
      record { direct = l; absent = absent_each h t e h.d refl a; level = prefix_each h t e n l (sym eb ∙ y) }

  module _ (e : ℕ) (ok : Bool) (rows pages : ℕ) (rise : Bool) (prefix : ℕ) (f : SeenTo h t e ok rows pages rise prefix) (a : EightAlike h t e prefix) where
    seen_some : (k : ℕ) → k ≤ 8 → SeenTo h t (e + k) ok rows pages rise prefix
    seen_some zero l = let z : e ≡ e + 0 = omega arith in subst (λ (i : ℕ). SeenTo h t i ok rows pages rise prefix) z f
    seen_some (suc k) l =
        let s : e + k + 1 ≡ e + suc k = omega arith in
        let d = a.direct in
        subst (λ (i : ℕ). SeenTo h t i ok rows pages rise prefix) s
        (seen_absent (e + k) ok rows pages rise prefix (seen_some k (omega arith)) (omega arith) (a.absent k (omega arith)) (a.level k (omega arith)))

    pub seen_eight : SeenTo h t (e + 8) ok rows pages rise prefix
    seen_eight = seen_some 8 (omega arith)

  -- ---- at the end

  module _ (e : ℕ) (en : e ≡ entries h t) (ok : Bool) (rows pages : ℕ) (rise : Bool) (prefix : ℕ) (f : SeenTo h t e ok rows pages rise prefix) where
    entries_seen : (o : Bool) → o ≡ (eqb (rows_owned h t) rows && eqb (pages_owned h t) pages) → (ok && o) ≡ entries_are h t
    unfolding entries_are owners_are
    entries_seen o eo =
        ap₂ ◌&&◌ (f.places ∙ ap (all_to (place_is h t)) en)
        (eo ∙ ap₂ (λ (i j : ℕ). eqb (rows_owned h t) i && eqb (pages_owned h t) j) (f.in_rows ∙ ap (sparse_in h t) en) (f.in_pages ∙ ap (dense_in h t) en))

    ranks_seen : (b : Bool) → b ≡ (not (ranked_at t) || (rise && leb prefix (total_at t) && ltb (total_at t) (2 ^ 63))) → b ≡ ranks_rise h t
    unfolding ranks_rise
    ranks_seen b eb = eb ∙ ap (λ (r : Bool). not (ranked_at t) || (r && ltb (total_at t) (2 ^ 63))) (rises_all e rise prefix (total_at t) en f.rises f.last refl)

    pub table_seen : (z v o b g : Bool) → z ≡ zeros t 11 5 → v ≡ over_is h t → o ≡ (eqb (rows_owned h t) rows && eqb (pages_owned h t) pages)
        → b ≡ (not (ranked_at t) || (rise && leb prefix (total_at t) && ltb (total_at t) (2 ^ 63))) → g ≡ froms_are h t → (z && v && (ok && o) && b && g) ≡ table_is h t
    unfolding table_is
    table_seen z v o b g ez ev eo eb eg = ap₂ ◌&&◌ (ap₂ ◌&&◌ (ap₂ ◌&&◌ (ap₂ ◌&&◌ ez ev) (entries_seen o eo)) (ranks_seen b eb)) eg
