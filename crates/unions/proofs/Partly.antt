-- A pass over the source's entries: what holds of each chunk after some of them, and one more. Assumes nothing.
use mathlib.Core.Path.{◌≡◌, refl, sym, ap, subst, ◌∙◌}
use mathlib.Core.Logic.{◌⊎◌, inl, inr, ◌≢◌}
use mathlib.Core.Bool.{Bool, true, false, cond}
use Prim.Native.Nat.{ℕ, suc, ◌/◌, ◌%◌, ◌<◌}
use native.Mathlib.Omega.{arith}
use lib.Dec.{eqb}
use borrow.Author.Tests.{eqb-true, eq-eqb, ne_eqb}
use Rattle.sums.specs.Ids.{Ids}
use Rattle.sums.proofs.Sums.{last_or}
use Rattle.document.specs.Sizes.{top}
use Rattle.document.specs.State.{Kind, State}
use Rattle.document.specs.declared.sizes.Sizes.{Sizes}
use Rattle.layout.specs.Mem.{Mem}
use Rattle.layout.specs.Sizes.{head, mode_at}
use Rattle.layout.specs.Entries.{place_of}
use Rattle.layout.specs.Meaning.{offsets, holds, kind_of, kinds}
use Rattle.layout.specs.Follows.{Follows}
use Rattle.layout.specs.Lowest.{Moves, place_in}
use Rattle.layout.specs.Tests.{Walked}
use Rattle.layout.specs.declared.place.Place.{Place}
use Rattle.layout_laws.proofs.Keys.{Sought, found, missed, seek}
use Rattle.steps.specs.Effects.{Becomes}
use Rattle.calls.proofs.Slots.{Turn, takes_none, turn_becomes}
use Rattle.unions.specs.Union.{source_chunk, source_entries}
use Rattle.unions.proofs.Standing.{chunks_once}
use Rattle.unions.proofs.Stepwise.{becomes_same}

-- ---- one chunk

-- chunk i of memory z is as the set q has it
pub record Has (z : Mem) (i : ℕ) (q : State) : Type 0 where
  pub kind : kinds z i ≡ q.map i
  pub members : (n : ℕ) → n / top (head z) ≡ i → holds z n ≡ q.members n

-- two sets have the same chunk i, of as many ids as h says
pub record Alike (h : Sizes) (i : ℕ) (q p : State) : Type 0 where
  pub kind : q.map i ≡ p.map i
  pub members : (n : ℕ) → n / top h ≡ i → q.members n ≡ p.members n

pub has_alike : {z : Mem} {i : ℕ} {q p : State} → Has z i q → Alike (head z) i q p → Has z i p
has_alike a b = record { kind = a.kind ∙ b.kind; members = λ n e. a.members n e ∙ b.members n e }

pub alike_back : {h : Sizes} {i : ℕ} {q p : State} → Alike h i q p → Alike h i p q
alike_back a = record { kind = sym a.kind; members = λ n e. sym (a.members n e) }

-- ---- one turn

-- chunk c alone moves, to a place of kind k, and is then as the set q has it; a row or page that it takes is the lowest free one
pub record Goes (k : Kind) (y z : Mem) (c : ℕ) (q : State) : Type 0 where
  pub place : Place
  pub inside : Ids
  pub becomes : Becomes y z c place inside
  pub moves : Moves y (place_in y c) place
  pub lands : (place ≡ place_in y c) ⊎ (kind_of place ≡ k)
  pub kind : kind_of place ≡ q.map c
  pub members : (n : ℕ) → n / top (head y) ≡ c → inside (n % top (head y)) ≡ q.members n

-- it has its turn, and stays as it is
pub goes_nowhere : {k : Kind} {z : Mem} {c : ℕ} {q : State} → Follows z → Has z c q → Goes k z z c q
unfolding holds kinds
goes_nowhere {k} {z} {c} w a = record {
  place = place_of (head z) z.table c;
  inside = offsets (head z) z (place_of (head z) z.table c);
  becomes = becomes_same c (place_of (head z) z.table c) w refl;
  moves = takes_none z c;
  lands = inl refl;
  kind = a.kind;
  members = λ n e. ap (λ (i : ℕ). offsets (head z) z (place_of (head z) z.table i) (n % top (head z))) (sym e) ∙ a.members n e;
}

kinds_of : (z : Mem) (i : ℕ) → kinds z i ≡ kind_of (place_in z i)
unfolding kinds
kinds_of z i = refl

module _ {k : Kind} {y z : Mem} {c : ℕ} {q : State} (g : Goes k y z c q) where
  pub goes_turn : Turn y z c
  goes_turn = turn_becomes g.becomes g.moves

  -- it has the place that it had, or one of that kind
  pub goes_lands : (i : ℕ) (p : Place) → (place_in y i ≡ p) ⊎ (kinds y i ≡ k) → (place_in z i ≡ p) ⊎ (kinds z i ≡ k)
  goes_lands i p a = go (eqb i c) refl
    where
      b : Becomes y z c g.place g.inside
      b = g.becomes

      place_is : (t : Bool) → eqb i c ≡ t → place_in z i ≡ cond t g.place (place_in y i)
      place_is t e = ap (λ (h : Sizes). place_of h z.table i) b.head_is ∙ b.places_is i ∙ ap (λ (s : Bool). cond s g.place (place_in y i)) e

      kind_is : (t : Bool) → eqb i c ≡ t → kinds z i ≡ cond t (kind_of g.place) (kinds y i)
      kind_is t e = b.kinds_is i ∙ ap (λ (s : Bool). cond s (kind_of g.place) (kinds y i)) e

      kept : kinds z i ≡ kinds y i → place_in z i ≡ place_in y i → (place_in y i ≡ p) ⊎ (kinds y i ≡ k) → (place_in z i ≡ p) ⊎ (kinds z i ≡ k)
      kept e f (inl q) = inl (f ∙ q)
      kept e f (inr q) = inr (e ∙ q)

      here : eqb i c ≡ true → (g.place ≡ place_in y c) ⊎ (kind_of g.place ≡ k) → (place_in z i ≡ p) ⊎ (kinds z i ≡ k)
      here e (inl q) =
          let same : place_in z i ≡ place_in y i = place_is true e ∙ q ∙ ap (place_in y) (sym (eqb-true i c e)) in
          kept (kinds_of z i ∙ ap kind_of same ∙ sym (kinds_of y i)) same a
      here e (inr q) = inr (kind_is true e ∙ q)

      go : (t : Bool) → eqb i c ≡ t → (place_in z i ≡ p) ⊎ (kinds z i ≡ k)
      go true e = here e g.lands
      go false e = kept (kind_is false e) (place_is false e) a

  has_off : {i : ℕ} {p : State} → i ≢ c → Has y i p → Has z i p
  has_off {i} d a =
      let b = g.becomes in
      record {
        kind = b.kinds_is i ∙ ap (λ (t : Bool). cond t (kind_of g.place) (kinds y i)) (ne_eqb i c d) ∙ a.kind;
        members = λ n e.
            (let s : n / top (head y) ≡ i = ap (λ (h : Sizes). n / top h) (sym b.head_is) ∙ e in
            b.holds_is n
            ∙ ap (λ (t : Bool). cond t (g.inside (n % top (head y))) (holds y n)) (ne_eqb (n / top (head y)) c (λ k. d (sym s ∙ k)))
            ∙ a.members n s);
      }

  has_here : Has z c q
  has_here =
      let b = g.becomes in
      record {
        kind = b.kinds_is c ∙ ap (λ (t : Bool). cond t (kind_of g.place) (kinds y c)) (eq-eqb c c refl) ∙ g.kind;
        members = λ n e.
            (let s : n / top (head y) ≡ c = ap (λ (h : Sizes). n / top h) (sym b.head_is) ∙ e in
            b.holds_is n
            ∙ ap (λ (t : Bool). cond t (g.inside (n % top (head y))) (holds y n)) (eq-eqb (n / top (head y)) c s)
            ∙ g.members n s);
      }

-- ---- a pass

-- memory z after e of the entries of y: their chunks are as the set `to` has them, every other as `from` has it
pub record Partly (x y : Mem) (from to : State) (e : ℕ) (z : Mem) : Type 0 where
  pub follows : Follows z
  pub sizes : head z ≡ head x
  pub mode : mode_at z.table ≡ mode_at x.table
  pub turned : (j : ℕ) → j < e → Has z (source_chunk y j) to
  pub waits : (i : ℕ) → ((j : ℕ) → j < e → source_chunk y j ≢ i) → Has z i from

pub partly_none : {x y : Mem} {from to : State} {z : Mem} → Follows z → head z ≡ head x → mode_at z.table ≡ mode_at x.table → ((i : ℕ) → Has z i from)
    → Partly x y from to 0 z
partly_none w sizes mode has = record { follows = w; sizes = sizes; mode = mode; turned = λ j m. absurd (omega arith); waits = λ i none. has i }

module _ {x y : Mem} {from to : State} {e : ℕ} {z : Mem} (s : Partly x y from to e z) where
  -- what both sets say of kinds
  pub partly_kinds : (P : ℕ → Kind → Type 0) → ((i : ℕ) → P i (from.map i)) → ((i : ℕ) → P i (to.map i)) → (i : ℕ) → P i (kinds z i)
  partly_kinds P f t i = go (seek (source_chunk y) e i)
    where
      go : Sought (source_chunk y) e i → P i (kinds z i)
      go (found j l k) = subst (P i) (sym (ap (kinds z) (sym k) ∙ (s.turned j l).kind ∙ ap to.map k)) (t i)
      go (missed none) = subst (P i) (sym (s.waits i none).kind) (f i)

  -- at the end: chunks without an entry are alike in both
  pub partly_all : ((i : ℕ) → ((j : ℕ) → j < e → source_chunk y j ≢ i) → Alike (head z) i from to) → (i : ℕ) → Has z i to
  partly_all f i = go (seek (source_chunk y) e i)
    where
      go : Sought (source_chunk y) e i → Has z i to
      go (found j l k) = subst (λ (c : ℕ). Has z c to) k (s.turned j l)
      go (missed none) = has_alike (s.waits i none) (f i none)

  module _ (v : Walked y (head y)) (l : e < source_entries y) where
    -- the chunk of the next entry has not had its turn
    pub partly_next : Has z (source_chunk y e) from
    partly_next = s.waits (source_chunk y e) (λ j m k. let d = chunks_once v j e (omega arith) l k in omega arith)

    pub partly_more : {k : Kind} {n : Mem} → Goes k z n (source_chunk y e) to → Partly x y from to (suc e) n
    partly_more {k} {n} g = record {
      follows = g.becomes.follows;
      sizes = g.becomes.head_is ∙ s.sizes;
      mode = g.becomes.mode_is ∙ s.mode;
      turned = λ j m. then j (last_or j e m);
      waits = λ i none. has_off g (λ k. none e (omega arith) (sym k)) (s.waits i (λ j m. none j (omega arith)));
    }
      where
        then : (j : ℕ) → (j < e) ⊎ (j ≡ e) → Has n (source_chunk y j) to
        then j (inl m) = has_off g (λ k. let d = chunks_once v j e (omega arith) l k in omega arith) (s.turned j m)
        then j (inr k) = subst (λ (i : ℕ). Has n (source_chunk y i) to) (sym k) (has_here g)
