-- No single call of a set that passed the walk is refused: every part lies in its pool. Assumes nothing.
use mathlib.Core.Path.{◌≡◌, refl, sym, ap, ap₂, ◌∙◌, fun_ext}
use mathlib.Core.Bool.{Bool, true, false, cond}
use Prim.Native.Nat.{ℕ, ◌/◌, ◌%◌}
use native.Mathlib.Omega.{arith}
use lib.IntN.{ℤ, pos, negsuc}
use Rattle.sums.specs.Ids.{RankIf, rank, rank_if}
use Rattle.numbers.specs.Ids.{split_of}
use Rattle.sparse.specs.Search.{found_in}
use Rattle.dense.specs.Bits.{is_set}
use Rattle.document.specs.Sizes.{top}
use Rattle.document.specs.Refusals.{not_laid_out, is_open}
use Rattle.document.specs.Answers.{perhaps_rank, rank_answer, rank_if_answer}
use Rattle.layout.specs.Mem.{Mem}
use Rattle.layout.specs.Sizes.{head}
use Rattle.layout.specs.Places.{row_part, page_part}
use Rattle.layout.specs.Entries.{place_of}
use Rattle.layout.specs.Short.{spot_on}
use Rattle.layout.specs.Meaning.{holds, ranked, state_of}
use Rattle.layout.specs.Follows.{Follows}
use Rattle.layout.specs.Tests.{Walked}
use Rattle.layout.specs.declared.place.Place.{Place}
use Rattle.layout.specs.declared.place.Place.TheVariants.{Absent, Sparse, Dense}
use Rattle.layout_laws.proofs.Short.{word_in_is}
use Rattle.calls.specs.Reading.{spot_if, has_at, has_split, get_by}
use Rattle.calls.proofs.Readings.{shift_ok_law, spot_of, get_is}
use Rattle.ranks.specs.Rank.{rank_seat, rank_split, if_ranked, rank_by, rank_in, perhaps_of, if_there, rank_if_seat, rank_if_split, rank_if_by}
use Rattle.ranks.proofs.Seats.{seat_is}
use Rattle.ranks.proofs.AfterWalk.{tests_pass, rank_told}
use Rattle.ranks.proofs.Ranks.{rank_is, rank_if_is}
use Rattle.lists.specs.Lists.{ListAsk, get_all, rank_all, rank_if_all, truth_number, amount_number, perhaps_number, no_rank, one_by, open_answer, rank_if_number, one_of}
use Rattle.document.specs.Results.{Amount, Truth}
use Rattle.layout.specs.Found.{Word}
use Rattle.document.specs.declared.refusal.Refusal.{Refusal}
use Rattle.std.specs.Prelude.{Err, None, Ok, Result, Some}

module _ {x : Mem} (w : Walked x (head x)) where
  -- ---- by where the id lies

  pub get_split : (z : ℤ) → get_by x z ≡ has_split x (split_of (head x).s z)
  unfolding get_by
  get_split z = ap (λ (b : Bool). cond b (has_split x (split_of (head x).s z)) (Err not_laid_out)) (shift_ok_law x w.sizes)

  module _ (r : ranked x ≡ true) where
    if_ranked_law : {A : Type 0} (a : Result A Refusal) → if_ranked x.table a ≡ a
    if_ranked_law a = ap₂ (λ (t b : Bool). cond t (cond b a (Err is_open)) (Err not_laid_out)) (tests_pass w) r

    pub rank_split_law : (z : ℤ) → rank_by x z ≡ rank_split x (split_of (head x).s z)
    unfolding rank_by
    rank_split_law z = if_ranked_law (rank_split x (split_of (head x).s z))

    pub rank_if_split_law : (z : ℤ) → rank_if_by x z ≡ rank_if_split x (split_of (head x).s z)
    unfolding rank_if_by
    rank_if_split_law z = if_ranked_law (rank_if_split x (split_of (head x).s z))

  -- ---- what each is told

  has_told : (o : ℕ) (p : Place) → (b : Bool) × (has_at x o (spot_on (head x) p) ≡ Ok b)
  has_told o Absent = (false, refl)
  has_told o (Sparse r l) = (found_in (row_part (head x) x.rows r) l o, refl)
  has_told o (Dense p) = (is_set (page_part (head x) x.pages p) o, refl)

  pub get_told : (z : ℤ) → (b : Bool) × (get_by x z ≡ Ok b)
  get_told (pos n) =
      let c = n / top (head x) in
      let o = n % top (head x) in
      let t = has_told o (place_of (head x) x.table c) in
      (t.0, get_split (pos n) ∙ ap (has_at x o) (spot_of w c) ∙ t.1)
  get_told (negsuc n) = (false, get_split (negsuc n))

  module _ (r : ranked x ≡ true) where
    pub rank_of_told : (z : ℤ) → (k : ℕ) × (rank_by x z ≡ Ok k)
    rank_of_told (pos n) = (rank_in x n, rank_told w r n)
    rank_of_told (negsuc n) = (0, rank_split_law r (negsuc n))

    -- is it there, and then where
    pub rank_if_is_by : (z : ℤ) → rank_if_by x z ≡ if_there (get_by x z) (perhaps_of (rank_by x z))
    rank_if_is_by (pos n) =
        let c = n / top (head x) in
        let o = n % top (head x) in
        rank_if_split_law r (pos n) ∙ ap (rank_if_seat x o) (seat_is w c)
        ∙ sym (ap₂ (λ (t : Truth) (a : Amount). if_there t (perhaps_of a)) (get_split (pos n) ∙ ap (λ (v : Word). has_at x o (spot_if x v)) (word_in_is x w c)) (rank_split_law r (pos n) ∙ ap (rank_seat x o) (seat_is w c)))
    rank_if_is_by (negsuc n) =
        rank_if_split_law r (negsuc n) ∙ sym (ap (λ (t : Truth). if_there t (perhaps_of (rank_by x (negsuc n)))) (get_split (negsuc n)))

    pub rank_if_told : (z : ℤ) → (b : Bool) × (k : ℕ) × (rank_if_by x z ≡ cond b (Ok (Some k)) (Ok None))
    rank_if_told z =
        let t = get_told z in
        let k = rank_of_told z in
        (t.0, k.0, rank_if_is_by z ∙ ap₂ (λ (v : Truth) (a : Amount). if_there v (perhaps_of a)) t.1 k.1)

    -- as numbers
    module _ (z : ℤ) where
      by_number : (b : Bool) (k : ℕ) → get_by x z ≡ Ok b → rank_by x z ≡ Ok k → perhaps_number (rank_if_by x z) ≡ perhaps_number (cond b (Ok (Some k)) (Ok None))
      by_number b k e f = ap perhaps_number (rank_if_is_by z ∙ ap₂ (λ (v : Truth) (a : Amount). if_there v (perhaps_of a)) e f)

      pub rank_if_none : truth_number (get_by x z) ≡ 0 → no_rank ≡ perhaps_number (rank_if_by x z)
      rank_if_none n = let t = get_told z in let k = rank_of_told z in go t.0 t.1 k.0 k.1
        where
          go : (b : Bool) → get_by x z ≡ Ok b → (k : ℕ) → rank_by x z ≡ Ok k → no_rank ≡ perhaps_number (rank_if_by x z)
          go true e k f = absurd (let m : ◌≡◌ {A = ℕ} 1 0 = sym (ap truth_number e) ∙ n in omega arith)
          go false e k f = sym (by_number false k e f)

      pub rank_if_some : (truth_number (get_by x z) ≡ 0 → ⊥) → amount_number (rank_by x z) ≡ perhaps_number (rank_if_by x z)
      rank_if_some n = let t = get_told z in let k = rank_of_told z in go t.0 t.1 k.0 k.1
        where
          go : (b : Bool) → get_by x z ≡ Ok b → (k : ℕ) → rank_by x z ≡ Ok k → amount_number (rank_by x z) ≡ perhaps_number (rank_if_by x z)
          go true e k f = ap amount_number f ∙ sym (by_number true k e f)
          go false e k f = absurd (n (ap truth_number e))

-- ---- by the plain set, where memory follows the layout

pub open_ranked : (mode : Bool) → open_answer mode rank_all ≡ (Ok tt) → mode ≡ true
open_ranked true e = refl
open_ranked false e = absurd cc

rank_if_number_law : (a : RankIf) → perhaps_number (perhaps_rank a) ≡ rank_if_number a
rank_if_number_law (RankIf.ranked k) = refl
rank_if_number_law RankIf.none = refl

pub ones_are : {x : Mem} → Follows x → (k : ListAsk) → open_answer (ranked x) k ≡ (Ok tt) → one_by x k ≡ one_of (state_of x) k
unfolding rank_answer rank_if_answer
ones_are {x} w get_all e = fun_ext (λ z. ap truth_number (get_is w z))
ones_are {x} w rank_all e = fun_ext (λ z.
    ap amount_number (rank_is w z ∙ ap (λ (b : Bool). cond b (Ok (rank (holds x) z)) (Err is_open)) (open_ranked (ranked x) e)))
ones_are {x} w rank_if_all e = fun_ext (λ z.
    ap perhaps_number (rank_if_is w z ∙ ap (λ (b : Bool). cond b (perhaps_rank (rank_if (holds x) z)) (Err is_open)) (open_ranked (ranked x) e))
    ∙ rank_if_number_law (rank_if (holds x) z))
