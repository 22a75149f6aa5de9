-- A chunk with one member more: from what a step does to memory, to what document 01 says of an insert. Assumes nothing.
use mathlib.Core.Path.{◌≡◌, refl, sym, ap, ap₂, ◌∙◌}
use mathlib.Core.Logic.{◌≢◌}
use mathlib.Core.Bool.{Bool, true, false, cond, ◌||◌}
use Prim.Native.Nat.{ℕ, ◌+◌, ◌*◌, ◌/◌, ◌%◌, ◌<◌}
use native.Mathlib.Nat.{mod-lt, div-add-mod'}
use lib.IntN.{ℤ, pos, negsuc}
use lib.Pow.{pow_pos}
use lib.Dec.{eqb}
use borrow.Author.Tests.{eqb-true, eqb-false, eq-eqb, ne_eqb}
use Rattle.sums.specs.Ids.{Ids}
use Rattle.sums.proofs.Counts.{count_ext}
use Rattle.layout.specs.Mem.{Mem}
use Rattle.document.specs.Sizes.{top}
use Rattle.layout.specs.Sizes.{head}
use Rattle.layout.specs.Entries.{place_of}
use Rattle.document.specs.State.{Kind}
use Rattle.layout.specs.Meaning.{offsets, holds, kind_of, kinds, state_of}
use Rattle.layout.specs.Follows.{size_of, Follows}
use Rattle.layout.specs.Lowest.{Moves, place_in}
use Rattle.layout.specs.declared.place.Place.{Place}
use Rattle.layout_laws.specs.Chunks
use Rattle.layout_laws.proofs.Members.{holds_at, size_is}
use Rattle.steps.specs.Effects.{Becomes}
use Rattle.document.specs.Insert.{chunk_size, grown, grown_map, map_after, is_id}
use Rattle.calls.proofs.Outcomes.{Inserts}
use Rattle.calls.proofs.Refusals.{is_refused}
use Rattle.calls.proofs.Slots.{takes_none, becomes_takes}
use Rattle.document.specs.Results.{Truth}
use Rattle.std.specs.Prelude.{Err, Ok}
use Rattle.document.specs.declared.refusal.Refusal.{Refusal}

-- ---- the map with a new member

pub grown_at : (x : Mem) (c : ℕ) → grown_map (state_of x) c c ≡ grown (kinds x c) (chunk_size (state_of x) c) (head x).m
unfolding grown_map
grown_at x c = ap (λ (b : Bool). cond b (grown (kinds x c) (chunk_size (state_of x) c) (head x).m) (kinds x c)) (eq-eqb c c refl)

pub grown_off : (x : Mem) (c c' : ℕ) → c' ≢ c → grown_map (state_of x) c c' ≡ kinds x c'
unfolding grown_map
grown_off x c c' d = ap (λ (b : Bool). cond b (grown (kinds x c) (chunk_size (state_of x) c) (head x).m) (kinds x c')) (ne_eqb c' c d)

-- the members of a chunk are those of its place
pub chunk_size_law : {x : Mem} → Follows x → (c : ℕ) → chunk_size (state_of x) c ≡ size_of (head x) x.pages (place_of (head x) x.table c)
unfolding chunk_size Chunks.members_of
chunk_size_law {x} w c =
    count_ext (λ (o : ℕ). holds x (c * top (head x) + o)) (offsets (head x) x (place_of (head x) x.table c)) (top (head x)) (λ o l. holds_at x c o l) ∙ size_is w c

-- ---- what is said of one id

is_same : (b c : Bool) → ◌≡◌ {A = Truth} (Ok b) (Ok c) → b ≡ c
is_same b c e = cc

is_not : (n : Refusal) (b : Bool) → Err n ≡ Ok b → ⊥
is_not n b e = is_refused b n (sym e)

module _ (x : Mem) (w : Follows x) where
  -- a refusal that is wanted
  pub refuses : (z : ℤ) (wanted : Truth) (k : Refusal) → wanted ≡ Err k → Inserts x z wanted (Err k) x
  refuses z wanted k e = record {
    answer = sym e;
    follows = w;
    sizes = refl;
    mode = refl;
    refused = λ n q. refl;
    members = λ b q. absurd (is_not k b q);
    map = λ b q. absurd (is_not k b q);
    takes = takes_none x;
  }

  -- a negative id, or one that is a member
  pub knows : (z : ℤ) (wanted : Truth) → wanted ≡ Ok false → ((n : ℕ) → holds x n ≡ (holds x n || is_id z n)) → ((c : ℕ) → kinds x c ≡ map_after (state_of x) z false c) → Inserts x z wanted (Ok false) x
  knows z wanted e m k = record {
    answer = sym e;
    follows = w;
    sizes = refl;
    mode = refl;
    refused = λ n q. refl;
    members = λ b q. m;
    map = λ b q c. k c ∙ ap (λ (b : Bool). map_after (state_of x) z b c) (is_same false b q);
    takes = takes_none x;
  }

or_none : (b : Bool) → b ≡ (b || false)
or_none true = refl
or_none false = refl

or_some : (b : Bool) → b ≡ true → (c : Bool) → b ≡ (b || c)
or_some b e c = e ∙ ap (λ (a : Bool). a || c) (sym e)

pub known_member : {x : Mem} → Follows x → (n : ℕ) (wanted : Truth) → holds x n ≡ true → wanted ≡ Ok false → Inserts x (pos n) wanted (Ok false) x
known_member {x} w n wanted h e = knows x w (pos n) wanted e (λ i. go i (eqb i n) refl) (λ c. refl)
  where
    go : (i : ℕ) (b : Bool) → eqb i n ≡ b → holds x i ≡ (holds x i || b)
    go i true q = or_some (holds x i) (ap (holds x) (eqb-true i n q) ∙ h) true
    go i false q = or_none (holds x i)

pub known_negative : {x : Mem} → Follows x → (n : ℕ) (wanted : Truth) → wanted ≡ Ok false → Inserts x (negsuc n) wanted (Ok false) x
known_negative {x} w n wanted e = knows x w (negsuc n) wanted e (λ i. or_none (holds x i)) (λ c. refl)

-- ---- a new member

-- ids of one chunk are told apart by their offsets
same_chunk : (t i n : ℕ) → i / t ≡ n / t → eqb (n % t) (i % t) ≡ eqb i n
same_chunk t i n e = go (eqb i n) refl
  where
    go : (b : Bool) → eqb i n ≡ b → eqb (n % t) (i % t) ≡ b
    go true q = eq-eqb (n % t) (i % t) (ap (λ (k : ℕ). k % t) (sym (eqb-true i n q)))
    go false q = ne_eqb (n % t) (i % t) (λ r. eqb-false i n q (sym (div-add-mod' i t) ∙ ap₂ (λ (a b : ℕ). a * t + b) e (sym r) ∙ div-add-mod' n t))

module _ {x y : Mem} (n : ℕ) (p : Place) (os : Ids) (b : Becomes x y (n / top (head x)) p os)
    (new : (o : ℕ) → o < top (head x) → os o ≡ (offsets (head x) x (place_of (head x) x.table (n / top (head x))) o || eqb (n % top (head x)) o)) where
  members_new : (i : ℕ) → holds y i ≡ (holds x i || eqb i n)
  unfolding holds
  members_new i = b.holds_is i ∙ go (eqb (i / top (head x)) (n / top (head x))) refl
    where
      here : i / top (head x) ≡ n / top (head x) → offsets (head x) x (place_of (head x) x.table (n / top (head x))) (i % top (head x)) ≡ holds x i
      here e = ap (λ (c : ℕ). offsets (head x) x (place_of (head x) x.table c) (i % top (head x))) (sym e)

      go : (t : Bool) → eqb (i / top (head x)) (n / top (head x)) ≡ t → cond t (os (i % top (head x))) (holds x i) ≡ (holds x i || eqb i n)
      go true q =
          let e = eqb-true (i / top (head x)) (n / top (head x)) q in
          new (i % top (head x)) (mod-lt i (pow_pos (head x).s)) ∙ ap₂ ◌||◌ (here e) (same_chunk (top (head x)) i n e)
      go false q =
          or_none (holds x i)
          ∙ ap (λ (a : Bool). holds x i || a) (sym (ne_eqb i n (λ e. eqb-false (i / top (head x)) (n / top (head x)) q (ap (λ (j : ℕ). j / top (head x)) e))))

  pub grows : (wanted : Truth) → wanted ≡ Ok true → kind_of p ≡ grown (kinds x (n / top (head x))) (chunk_size (state_of x) (n / top (head x))) (head x).m
      → Moves x (place_in x (n / top (head x))) p → Inserts x (pos n) wanted (Ok true) y
  unfolding grown_map
  grows wanted e g m = record {
    answer = sym e;
    follows = b.follows;
    sizes = b.head_is;
    mode = b.mode_is;
    refused = λ k q. absurd (is_refused true k q);
    members = λ a q. members_new;
    map = λ a q c. kinds_new c ∙ ap (λ (t : Bool). map_after (state_of x) (pos n) t c) (is_same true a q);
    takes = becomes_takes b m;
  }
    where
      kinds_new : (c : ℕ) → kinds y c ≡ grown_map (state_of x) (n / top (head x)) c
      kinds_new c = b.kinds_is c ∙ ap (λ (q : Kind). cond (eqb c (n / top (head x))) q (kinds x c)) g
