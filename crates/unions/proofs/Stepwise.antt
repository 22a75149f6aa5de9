-- Steps of one chunk: none, one after another, what the chunk has after it, and a page that is written anew. Assumes nothing.
use mathlib.Core.Path.{◌≡◌, refl, sym, ap, ap₂, subst, ◌∙◌}
use mathlib.Core.List.{List}
use mathlib.Core.Bool.{Bool, true, false, cond}
use Prim.Native.Nat.{ℕ, ◌+◌, ◌*◌, ◌/◌, ◌%◌, ◌<◌}
use native.Mathlib.Nat.{mod-lt}
use native.Mathlib.Omega.{arith}
use lib.ListN.{length}
use lib.Dec.{eqb}
use lib.Pow.{pow_pos, high, low}
use mir.Val.{bool_byte}
use borrow.Author.Tests.{eqb-true, eq-eqb}
use Rattle.sums.specs.Ids.{Ids, count}
use Rattle.dense.specs.Bits.{is_set}
use Rattle.document.specs.Sizes.{top, last_chunk}
use Rattle.document.specs.State.{Kind}
use Rattle.document.specs.declared.sizes.Sizes.{Sizes}
use Rattle.layout.specs.Mem.{Mem, mem}
use Rattle.layout.specs.Sizes.{wide, page_owners_at, head}
use Rattle.layout.specs.Places.{encoded}
use Rattle.layout.specs.Entries.{word_of, place_of}
use Rattle.layout.specs.Meaning.{offsets, holds, kind_of, kinds}
use Rattle.layout.specs.Follows.{OwnsPage, Follows}
use Rattle.layout.specs.Writes.{put_word, put_page_owner, put_page}
use Rattle.layout.specs.declared.place.Place.{Place}
use Rattle.layout.specs.declared.place.Place.TheVariants.{Dense}
use Rattle.layout_laws.proofs.Entries.{laid_ordered}
use Rattle.layout_laws.proofs.Members.{holds_at}
use Rattle.layout_laws.proofs.Owners.{page_of_law}
use Rattle.layout_laws.proofs.Walked.{laid_walked}
use Rattle.steps.specs.Steps.{paged}
use Rattle.steps.specs.Effects.{Open, PageFor, Becomes}
use Rattle.steps.proofs.Paged.{paged_becomes}
use Rattle.layout.proofs.Owners.{put_owner_same}
use Rattle.calls.proofs.Plans.{dense_word, put_same}

-- ---- no step

twice : {A : Type 0} (t : Bool) (u v w : A) → cond t u (cond t v w) ≡ cond t u w
twice true u v w = refl
twice false u v w = refl

module _ {x : Mem} (c : ℕ) (q : Place) (w : Follows x) (e : place_of (head x) x.table c ≡ q) where
  abbrev place : ℕ → Place
  place = place_of (head x) x.table

  at : (i : ℕ) (t : Bool) → eqb i c ≡ t → place i ≡ cond t q (place i)
  at i true k = ap place (eqb-true i c k) ∙ e
  at i false k = refl

  kind_at : (i : ℕ) (t : Bool) → eqb i c ≡ t → kinds x i ≡ cond t (kind_of q) (kinds x i)
  unfolding kinds
  kind_at i true k = ap kind_of (at i true k)
  kind_at i false k = refl

  has_at_law : (n : ℕ) (t : Bool) → eqb (n / top (head x)) c ≡ t → holds x n ≡ cond t (offsets (head x) x q (n % top (head x))) (holds x n)
  unfolding holds
  has_at_law n true k = ap (λ (p : Place). offsets (head x) x p (n % top (head x))) (at (n / top (head x)) true k)
  has_at_law n false k = refl

  kind_here : kinds x c ≡ kind_of q
  unfolding kinds
  kind_here = ap kind_of e

  pub becomes_same : Becomes x x c q (offsets (head x) x q)
  becomes_same = record {
    follows = w;
    head_is = refl;
    mode_is = refl;
    places_is = λ i. at i (eqb i c) refl;
    kinds_is = λ i. kind_at i (eqb i c) refl;
    holds_is = λ n. has_at_law n (eqb (n / top (head x)) c) refl;
    counts = λ g. ap (λ (k : Kind). count (λ (i : ℕ). g i (kinds x i)) (last_chunk (head x)) + bool_byte (g c k)) kind_here;
  }

-- ---- after a step

module _ {x y : Mem} {c : ℕ} {q : Place} {os : Ids} (b : Becomes x y c q os) where
  pub place_after : place_of (head y) y.table c ≡ q
  place_after =
      ap (λ (h : Sizes). place_of h y.table c) b.head_is ∙ b.places_is c
      ∙ ap (λ (t : Bool). cond t q (place_of (head x) x.table c)) (eq-eqb c c refl)

  pub kind_after : kinds y c ≡ kind_of q
  kind_after = b.kinds_is c ∙ ap (λ (t : Bool). cond t (kind_of q) (kinds x c)) (eq-eqb c c refl)

  pub offsets_after : (n : ℕ) → n < top (head x) → offsets (head y) y q n ≡ os n
  offsets_after n l =
      let u = top (head x) in
      let there : top (head y) ≡ u = ap top b.head_is in
      let i = high c (head x).s l in
      ap (λ (p : Place). offsets (head y) y p n) (sym place_after)
      ∙ sym (holds_at y c n (omega arith))
      ∙ ap (λ (k : ℕ). holds y (c * k + n)) there
      ∙ b.holds_is (c * u + n)
      ∙ ap₂ (λ (t : Bool) (k : ℕ). cond t (os k) (holds x (c * u + n))) (eq-eqb ((c * u + n) / u) c i) (low c (head x).s l)

  -- with the same offsets
  pub becomes_as : (os' : Ids) → ((o : ℕ) → o < top (head x) → os o ≡ os' o) → Becomes x y c q os'
  becomes_as os' f = record {
    follows = b.follows;
    head_is = b.head_is;
    mode_is = b.mode_is;
    places_is = b.places_is;
    kinds_is = b.kinds_is;
    holds_is = λ n. b.holds_is n
        ∙ ap (λ (t : Bool). cond (eqb (n / top (head x)) c) t (holds x n)) (f (n % top (head x)) (mod-lt n (pow_pos (head x).s)));
    counts = b.counts;
  }

-- one after another
pub becomes_then : {x y z : Mem} {c : ℕ} {q r : Place} {os ps : Ids} → Becomes x y c q os → Becomes y z c r ps → Becomes x z c r ps
becomes_then {x} {y} {z} {c} {q} {r} {os} {ps} a b = record {
  follows = b.follows;
  head_is = b.head_is ∙ a.head_is;
  mode_is = b.mode_is ∙ a.mode_is;
  places_is = λ i.
      subst (λ (h : Sizes). place_of h z.table i ≡ cond (eqb i c) r (place_of h y.table i)) a.head_is (b.places_is i)
      ∙ ap (cond (eqb i c) r) (a.places_is i)
      ∙ twice (eqb i c) r q (place_of (head x) x.table i);
  kinds_is = λ i. b.kinds_is i ∙ ap (cond (eqb i c) (kind_of r)) (a.kinds_is i) ∙ twice (eqb i c) (kind_of r) (kind_of q) (kinds x i);
  holds_is = λ n.
      subst (λ (h : Sizes). holds z n ≡ cond (eqb (n / top h) c) (ps (n % top h)) (holds y n)) a.head_is (b.holds_is n)
      ∙ ap (cond (eqb (n / top (head x)) c) (ps (n % top (head x)))) (a.holds_is n)
      ∙ twice (eqb (n / top (head x)) c) (ps (n % top (head x))) (os (n % top (head x))) (holds x n);
  counts = λ g.
      (let s = subst
      (λ (h : Sizes). count (λ (i : ℕ). g i (kinds z i)) (last_chunk h) + bool_byte (g c (kinds y c))
      ≡ count (λ (i : ℕ). g i (kinds y i)) (last_chunk h) + bool_byte (g c (kind_of r)))
      a.head_is (b.counts g) in
      let t = a.counts g in
      let k = ap (λ (k : Kind). bool_byte (g c k)) (kind_after a) in
      omega arith);
}

-- ---- a dense chunk's page written anew

module _ {z : Mem} {c : ℕ} (o : Open z c) (p : ℕ) (e : place_of (head z) z.table c ≡ Dense p) (page : List ℕ) (long : length page ≡ wide (head z)) where
  owns : OwnsPage (head z) z.table c p
  owns = page_of_law (laid_walked o.follows) c p e

  -- its word and its page's owner are there already
  table_same : put_page_owner (head z) (put_word (head z) z.table c (encoded (Dense p))) p (c + 1) ≡ z.table
  table_same =
      let a = dense_word (word_of (head z) z.table c) p e in
      ap (λ (t : List ℕ). put_page_owner (head z) t p (c + 1)) (put_same (head z) z.table (laid_ordered o.follows) c (encoded (Dense p)) a (omega arith))
      ∙ put_owner_same 10 (page_owners_at (head z)) z.table p (c + 1) owns.owner (omega arith)

  page_is : paged (head z) z c (Dense p) p page ≡ mem (put_page (head z) z.pages p page) z.rows z.blocks z.table
  unfolding paged
  page_is = ap (mem (put_page (head z) z.pages p page) z.rows z.blocks) table_same

  pub page_anew : Becomes z (mem (put_page (head z) z.pages p page) z.rows z.blocks z.table) c (Dense p) (is_set page)
  page_anew =
      subst (λ (x : Mem). Becomes z x c (Dense p) (is_set page)) page_is
      (paged_becomes z c (Dense p) p page (record { set = o; old_is = sym e; there = owns.there; long = long; came = PageFor.own_page refl }))
