-- Every plan that is made can be carried out: the parts that it writes lie inside the slices. Assumes nothing.
use mathlib.Core.Path.{◌≡◌, refl, sym, ◌∙◌, ap, subst}
use mathlib.Core.List.{List}
use mathlib.Core.Bool.{Bool, true, false, cond, ◌&&◌}
use Prim.Native.Nat.{ℕ, ◌+◌, ◌-◌, ◌*◌, ◌^◌, ◌≤◌, ◌<◌}
use native.Mathlib.Omega.{arith}
use lib.Dec.{leb, ltb}
use lib.ListN.{length, get_or}
use borrow.Author.Tests.{ltb-true, le-ltb}
use Rattle.numbers.proofs.Powers.{powers}
use Rattle.sums.proofs.Rules.{both}
use Rattle.sparse.specs.Search.{spot_in}
use Rattle.sparse.proofs.Searches.{place_of, spot_le}
use Rattle.layout.specs.Mem.{Mem}
use Rattle.layout.specs.Sizes.{head, over_count}
use Rattle.layout.specs.Places.{row_part}
use Rattle.layout.specs.Short.{entries_in, direct_word, overflow_word, over_word, over_place, word_in}
use Rattle.layout.specs.Tests.{head_is}
use Rattle.layout.proofs.Finds.{entries_are_in}
use Rattle.layout.proofs.Tests.{head_of}
use Rattle.layout.specs.declared.place.Place.TheVariants.{Sparse}
use Rattle.calls.specs.Reading.{spot_by}
use Rattle.calls.specs.Insert.{free_row, free_page, start_chunk, turn_dense, into_row}
use Rattle.calls.proofs.Places.{Names, row_in, page_in, page_at}
use Rattle.calls.proofs.Plans.{sparse_below}
use Rattle.insert_plan.specs.Ready.{RowReady, Ready}
use Rattle.calls.specs.Planned.{InsertPlan}
use Rattle.calls.specs.declared.plan.Plan.TheVariants.{Begin, Enter, Turn}
use Rattle.document.specs.Refusals.{not_laid_out, overflow_full, pages_full, rows_full}
use Rattle.layout.specs.declared.find.Spot.TheVariants.{Page}
use Rattle.std.specs.Prelude.{Err, Ok, Result}

-- ---- a word that was found

found_if : (b : Bool) (u w : ℕ) → cond b (Ok u) (Err not_laid_out) ≡ Ok w → b ≡ true
found_if true u w e = refl
found_if false u w e = absurd cc

module _ (t : List ℕ) (c w : ℕ) (e : Ok w ≡ word_in t c) where
  over_found : get_or t 2 0 ≤ c → overflow_word t (get_or t 2 0) c ≡ Ok w
  unfolding word_in
  over_found l = ap (λ (b : Bool). cond b (direct_word t c) (overflow_word t (get_or t 2 0) c)) (sym (le-ltb c (get_or t 2 0) l)) ∙ sym e

  pub over_small : get_or t 2 0 ≤ c → (get_or t 2 0 ≤ 262144) × (over_count t ≤ 65536)
  over_small l =
      let d = get_or t 2 0 in
      let n = over_count t in
      let g = found_if (entries_in t d) (over_word t (16 + 2 * d) n c (over_place t (16 + 2 * d) n c)) w (over_found l) in
      let k = entries_are_in t d g in
      (k.direct, k.over)

-- ---- one plan

module _ (x : Mem) (c o s : ℕ) (es : s ≡ get_or x.table 0 0) (low : 9 ≤ s) (high : s ≤ 25) (chunk : c < 2 ^ 62) (within : o < 2 ^ s) where
  offset_small : o < 2 ^ 32
  offset_small = omega (arith, (powers s low high).most)

  top_is : 2 ^ s ≡ 2 ^ get_or x.table 0 0
  top_is = ap (λ (k : ℕ). 2 ^ k) es

  offset_bit : (n : ℕ) → n ≡ 2 ^ (get_or x.table 0 0 - 6) → o < 64 * n
  offset_bit n e =
      let f : n ≡ 2 ^ (s - 6) = e ∙ ap (λ (k : ℕ). 2 ^ (k - 6)) (sym es) in
      omega (arith, (powers s low high).words)

  -- what is asked where a part is looked at
  pub page_ready : (w a n : ℕ) → Ok (Page a n) ≡ spot_by x w → (a + n ≤ length x.pages) × (o < 64 * n)
  page_ready w a n f =
      let p = page_at x w a n f in
      let q = (page_in x p.page p.names.good).fits in
      let b = p.start in
      let d = p.long in
      (omega arith, offset_bit n d)

  pub row_ready : (w r l : ℕ) → Names x w (Sparse r l) → RowReady x.rows r l (head x) × (o < 2 ^ 32)
  row_ready w r l i =
      let q = row_in x r l i.good in
      (record { row = sparse_below w r l i.is; small = q.small; fits = q.fits; members = q.short }, offset_small)

  begin_if : (a f t : Bool) → head_is (head x) x ≡ a → ltb (free_row x) (head x).r ≡ t → Ready x.pages x.rows x.table c o (cond a (cond f (Err overflow_full) (cond t (Ok (Begin (free_row x))) (Err rows_full))) (Err not_laid_out))
  begin_if false f t p q = tt
  begin_if true true t p q = tt
  begin_if true false false p q = tt
  begin_if true false true p q =
      let h = (head_of (head x) x).sound p in
      let v = h.sizes.v_high in
      let n = h.over_fits in
      record {
        sizes = h.sizes;
        row = ltb-true (free_row x) (head x).r q;
        in_rows = h.room.in_rows;
        over = omega arith;
        chunk = chunk;
        offset = offset_small;
      }

  pub ready_begin : (q : InsertPlan) → q ≡ start_chunk x c → Ready x.pages x.rows x.table c o q
  ready_begin q e =
      subst (Ready x.pages x.rows x.table c o) (sym e)
      (begin_if (head_is (head x) x) (leb (head x).d c && leb (head x).v (over_count x.table)) (ltb (free_row x) (head x).r) refl refl)

  turn_if : (r l : ℕ) → l ≤ (head x).m → (a t : Bool) → (head_is (head x) x && ltb r (head x).r) ≡ a → ltb (free_page x) (head x).p ≡ t → Ready x.pages x.rows x.table c o (cond a (cond t (Ok (Turn r l (free_page x))) (Err pages_full)) (Err not_laid_out))
  turn_if r l m false t p q = tt
  turn_if r l m true false p q = tt
  turn_if r l m true true p q =
      let g = both (head_is (head x) x) (ltb r (head x).r) p in
      let h = (head_of (head x) x).sound g.0 in
      let v = h.sizes.v_high in
      let n = h.over_fits in
      record {
        sizes = h.sizes;
        row = ltb-true r (head x).r g.1;
        page = ltb-true (free_page x) (head x).p q;
        in_rows = h.room.in_rows;
        in_pages = h.room.in_pages;
        members = m;
        over = omega arith;
        chunk = chunk;
        offset = omega (arith, top_is);
      }

  ready_turn : (r l : ℕ) → l ≤ (head x).m → Ready x.pages x.rows x.table c o (turn_dense x r l)
  ready_turn r l m = turn_if r l m (head_is (head x) x && ltb r (head x).r) (ltb (free_page x) (head x).p) refl refl

  module _ (w : ℕ) (e : Ok w ≡ word_in x.table c) (r l : ℕ) (i : Names x w (Sparse r l)) where
    enter_if : (k : ℕ) → k ≤ l → (b : Bool) → ltb l (head x).m ≡ b → Ready x.pages x.rows x.table c o (cond b (Ok (Enter r l k)) (turn_dense x r l))
    enter_if k m true q =
        record {
          row = (row_ready w r l i).0;
          place = m;
          room = ltb-true l (head x).m q;
          offset = offset_small;
          chunk = chunk;
          over = over_small x.table c w e;
        }
    enter_if k m false q = ready_turn r l (row_in x r l i.good).short

    row_if : (p : Result ℕ ℕ) → place_of p ≤ l → Ready x.pages x.rows x.table c o (into_row x r l p)
    row_if (Ok k) m = tt
    row_if (Err k) m = enter_if k m (ltb l (head x).m) refl

    -- the plan of an insert into a row
    pub ready_row : (q : InsertPlan) → q ≡ into_row x r l (spot_in (row_part (head x) x.rows r) l o) → Ready x.pages x.rows x.table c o q
    ready_row q f =
        let row = row_part (head x) x.rows r in
        subst (Ready x.pages x.rows x.table c o) (sym f) (row_if (spot_in row l o) (spot_le row l o))
