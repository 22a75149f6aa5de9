-- Every chunk's turn finds the table as the walk left it, so that each row that is met and each page that is taken lies inside its pool. Assumes nothing.
use mathlib.Core.Path.{◌≡◌, refl, sym, ap, ap₂, subst, ◌∙◌}
use mathlib.Core.List.{List}
use Prim.Native.Nat.{ℕ, ◌+◌, ◌-◌, ◌*◌, ◌^◌, ◌≤◌, ◌<◌}
use native.Mathlib.Numerals.{add-one}
use native.Mathlib.Omega.{arith}
use lib.ListN.{length, replicate, length-replicate}
use lib.Pow.{pow_mono}
use Rattle.layout.specs.Mem.{Mem, mem}
use Rattle.document.specs.Sizes.{InRange, last_chunk}
use Rattle.layout.specs.Sizes.{blocks_of, head, header_at, pages_from}
use Rattle.layout.specs.Places.{page_owner}
use Rattle.layout.specs.Entries.{place_of}
use Rattle.layout.specs.Follows.{Owned, FullTo}
use Rattle.document.specs.declared.sizes.Sizes.{Sizes}
use Rattle.layout.specs.declared.place.Place.{Place}
use Rattle.layout.specs.declared.place.Place.TheVariants.{Absent, Sparse, Dense}
use Rattle.layout_laws.proofs.Short.{word_in_is, owned_of}
use Rattle.layout.specs.Free.{first_free, free_page_in}
use Rattle.calls.specs.Prepare.{lowest_page, into_page, densed, densed_to, HasRoom, pages_needed}
use Rattle.layout.proofs.FirstFree.{found_full, same_found}
use Rattle.calls.proofs.Reached.{Reached, place_free, reached_more, turn_owner}
use Rattle.calls.proofs.PreparedDense.{room_far, room_over, room_pages, room_reached}
use Rattle.prepare.specs.Ready.{Sound, RowInside, Turnable}

row_inside : (h : Sizes) (t : List ℕ) (c : ℕ) (q : Place) → Owned h t c q → RowInside h q
row_inside h t c Absent o = tt
row_inside h t c (Sparse r l) o = (o.there, o.short)
row_inside h t c (Dense p) o = tt

-- ---- one turn

module _ (x : Mem) (c : ℕ) (a : HasRoom x c) (n : ℕ) (le : n ≤ c) (y : Mem) (s : Reached x n y) where
  abbrev p : ℕ
  p = lowest_page (head y) y

  -- what it asks for
  turnable_here : Turnable (head y) y.pages y.rows y.table n (lowest_page (head y) y)
  turnable_here =
      let w = s.walked in
      let z = w.sizes in
      let v = z.v_high in
      let f = w.over_fits in
      let far = room_far a in
      let h = z.s_low in
      let same = ap last_chunk s.sizes in
      let top62 : last_chunk (head y) ≤ 2 ^ 62 = pow_mono {i = 63 - (head y).s} {j = 62} (omega arith) in
      record {
        sizes = z;
        in_pages = w.room.in_pages;
        in_rows = w.room.in_rows;
        over = omega arith;
        chunk = omega arith;
        word = word_in_is y w n;
        row = row_inside (head y) y.table n (place_of (head y) y.table n) (owned_of w n);
        page = place_free x a.mode c n le (room_far a) y s (room_over a) (room_pages a) (place_of (head y) y.table n) refl;
      }

  pub turnable : Turnable (head x) y.pages y.rows y.table n (lowest_page (head x) y)
  turnable = subst (λ (h : Sizes). Turnable h y.pages y.rows y.table n (lowest_page h y)) s.sizes turnable_here

  -- the next free page lies at or after this one: the cursor of the loop is the model's lowest free page
  onward_here : first_free (page_owner (head y) (densed (head y) y n).table) p ((head y).p - p) ≡ lowest_page (head y) (densed (head y) y n)
  onward_here =
      let z = densed (head y) y n in
      let f = found_full s.walked.pages_full_to in
      let r = reached_more x a.mode c n le (room_far a) y s (room_over a) (room_pages a) in
      let below : FullTo (page_owner (head y) z.table) (head y).p p = record {
        within = f.within;
        owned = λ j l e. f.owned j l (sym (turn_owner x a.mode c n le (room_far a) y s (room_over a) (room_pages a) j (omega arith)) ∙ e);
      } in
      same_found below (subst (λ (h : Sizes). FullTo (page_owner h z.table) h.p (pages_from z.table)) (r.sizes ∙ sym s.sizes) r.walked.pages_full_to)

  pub onward : first_free (page_owner (head x) (densed (head x) y n).table) (lowest_page (head x) y) ((head x).p - lowest_page (head x) y) ≡ lowest_page (head x) (densed (head x) y n)
  onward =
      subst (λ (h : Sizes). first_free (page_owner h (densed h y n).table) (lowest_page h y) (h.p - lowest_page h y) ≡ lowest_page h (densed h y n))
      s.sizes onward_here

-- ---- the loop, whatever the block counts are

-- as many as the walk asks for
blocks_for : List ℕ → List ℕ
blocks_for t = replicate {A = ℕ} ((header_at t).p * blocks_of (header_at t)) 0

has_room : (ps rs t : List ℕ) (c : ℕ) → Sound ps rs t c → HasRoom (mem ps rs (blocks_for t) t) c
unfolding blocks_for
has_room ps rs t c ok =
    let e : length (blocks_for t) ≡ (header_at t).p * blocks_of (header_at t) = length-replicate ((header_at t).p * blocks_of (header_at t)) _ in
    ok (blocks_for t) (omega arith)

pub sound_range : (ps rs t : List ℕ) (c : ℕ) → Sound ps rs t c → InRange (header_at t)
sound_range ps rs t c ok = (has_room ps rs t c ok).walks.sizes

-- each of chunks 0 to c needs a page
pub sound_few : (ps rs t : List ℕ) (c : ℕ) → Sound ps rs t c → c + 1 ≤ 65536
unfolding pages_needed
sound_few ps rs t c ok = let r = has_room ps rs t c ok in omega (arith, r.pages, r.walks.sizes.p_high)

-- after the turns of chunks 0 to i - 1, with p the lowest free page
pub record Underway (h : Sizes) (ps₀ rs₀ t₀ : List ℕ) (c : ℕ) (ps rs t : List ℕ) (p i : ℕ) : Type 0 where
  pub header : h ≡ header_at t₀
  pub turns : i ≤ c + 1
  pub lowest : p ≡ free_page_in h t
  pub pages_long : length ps ≡ length ps₀
  pub rows_long : length rs ≡ length rs₀
  pub table_long : length t ≡ length t₀
  pub same : (b : List ℕ) → mem ps rs b t ≡ densed_to (header_at t₀) (mem ps₀ rs₀ b t₀) i

module _ (h : Sizes) (ps₀ rs₀ t₀ : List ℕ) (c : ℕ) where
  pub underway_none : h ≡ header_at t₀ → (p : ℕ) → p ≡ free_page_in h t₀ → Underway h ps₀ rs₀ t₀ c ps₀ rs₀ t₀ p 0
  unfolding densed_to
  underway_none e p f = record { header = e; turns = omega arith; lowest = f; pages_long = refl; rows_long = refl; table_long = refl; same = λ b. refl }

  module _ (ok : Sound ps₀ rs₀ t₀ c) (ps rs t : List ℕ) (p i : ℕ) (s : Underway h ps₀ rs₀ t₀ c ps rs t p i) where
    x₀ : Mem
    x₀ = mem ps₀ rs₀ (blocks_for t₀) t₀

    x : Mem
    x = mem ps rs (blocks_for t₀) t

    room : HasRoom x₀ c
    unfolding x₀
    room = has_room ps₀ rs₀ t₀ c ok

    reached : Reached x₀ i x
    unfolding x₀ x
    reached = subst (Reached (mem ps₀ rs₀ (blocks_for t₀) t₀) i) (sym (s.same (blocks_for t₀))) (room_reached (has_room ps₀ rs₀ t₀ c ok) i s.turns)

    lowest : p ≡ lowest_page (header_at t₀) (mem ps rs (blocks_for t₀) t)
    lowest = s.lowest ∙ ap (λ (g : Sizes). free_page_in g t) s.header

    pub underway_turn : i ≤ c → Turnable h ps rs t i p
    unfolding x₀ x
    underway_turn l =
        subst (λ (g : Sizes). Turnable g ps rs t i p) (sym s.header)
        (subst (Turnable (header_at t₀) ps rs t i) (sym lowest) (turnable (mem ps₀ rs₀ (blocks_for t₀) t₀) c room i l (mem ps rs (blocks_for t₀) t) reached))

    pub underway_more : i ≤ c → (ps' rs' t' : List ℕ) (p' : ℕ) → length ps' ≡ length ps → length rs' ≡ length rs → length t' ≡ length t
        → ((b : List ℕ) → mem ps' rs' b t' ≡ into_page h (mem ps rs b t) i p (place_of h t i)) → p' ≡ first_free (page_owner h t') p (h.p - p)
        → Underway h ps₀ rs₀ t₀ c ps' rs' t' p' (i + 1)
    unfolding x₀ x densed_to
    underway_more l ps' rs' t' p' lp lr lt e f =
        let g = header_at t₀ in
        let y = mem ps rs (blocks_for t₀) t in
        let turn : (b : List ℕ) → mem ps' rs' b t' ≡ densed (header_at t₀) (mem ps rs b t) i = λ b.
        e b ∙ ap₂ (λ (k : Sizes) (q : ℕ). into_page k (mem ps rs b t) i q (place_of k t i)) s.header lowest in
        record {
          header = s.header;
          turns = omega arith;
          lowest =
              f ∙ ap₂ (λ (k : Sizes) (q : ℕ). first_free (page_owner k t') q (k.p - q)) s.header lowest
              ∙ subst (λ (z : Mem). first_free (page_owner g z.table) (lowest_page g y) (g.p - lowest_page g y) ≡ lowest_page g z)
              (sym (turn (blocks_for t₀))) (onward (mem ps₀ rs₀ (blocks_for t₀) t₀) c room i l y reached)
              ∙ ap (λ (k : Sizes). free_page_in k t') (sym s.header);
          pages_long = lp ∙ s.pages_long;
          rows_long = lr ∙ s.rows_long;
          table_long = lt ∙ s.table_long;
          same = λ b. turn b ∙ ap (λ (z : Mem). densed (header_at t₀) z i) (s.same b) ∙ ap (densed_to (header_at t₀) (mem ps₀ rs₀ b t₀)) (sym (add-one i));
        }

    pub underway_end : c < i → (b : List ℕ) → mem ps rs b t ≡ densed_to (header_at t₀) (mem ps₀ rs₀ b t₀) (c + 1)
    underway_end l b =
        let e : i ≡ c + 1 = let m = s.turns in omega arith in
        s.same b ∙ ap (densed_to (header_at t₀) (mem ps₀ rs₀ b t₀)) e
