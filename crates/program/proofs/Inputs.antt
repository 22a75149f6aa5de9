-- Laws of the whole input: what the reader keeps, byte by byte, is what its lines say. Assumes nothing.
use mathlib.Core.Path.{◌≡◌, refl, sym, ◌∙◌, ap}
use mathlib.Core.Bool.{Bool, true, false, cond}
use mathlib.Core.List.{List, [], ◌∷◌, ◌++◌, append_assoc, append-nil}
use Prim.Native.Nat.{ℕ}
use lib.Dec.{eqb}
use lib.IntN.{ℤ}
use Rattle.lines.specs.Line.{size_line, id_line}
use Rattle.lines.specs.Reader.{next, read_from, line_of, size_in, id_in}
use Rattle.lines.specs.declared.Line.{Line}
use Rattle.lines.specs.declared.Line.TheVariants.{Empty}
use Rattle.lines.proofs.Lines.{line_snoc, size_says, id_says, empty_says}
use Rattle.program.specs.Input.{begun, lines_of, Read, whole, bad, following, with_id, after_id, ids_from, after_size, read_lines, read_plan}
use Rattle.program.specs.Turns.{Put, run, or_rest, in_turn, run_read, run_all}
use Rattle.program.specs.Reader.{begin, size_read, id_read, go_on, settled, fed, together, perform, feed, feed_parts, finished}
use Rattle.program.specs.declared.Act.TheVariants.{Go}
use Rattle.program.proofs.Parts.{parts}
use Rattle.document.specs.Results.{Outcome}
use Rattle.program.specs.declared.Input.TheVariants.{First, Next, Stopped}
use Rattle.program.specs.declared.Fault.{Fault}
use Rattle.std.specs.Prelude.{Err, None, Ok, Option, Some}

-- ---- a line that has begun

-- the first line has these bytes before it
abbrev continued : List ℕ → List (List ℕ) → List (List ℕ)
continued [] ls = ls
continued (a ∷ r) [] = (a ∷ r) ∷ []
continued (a ∷ r) (l ∷ ls) = ((a ∷ r) ++ l) ∷ ls

continued_end : (now : List ℕ) (ls : List (List ℕ)) → continued now ([] ∷ ls) ≡ now ∷ ls
continued_end [] ls = refl
continued_end (a ∷ r) ls = ap (λ (l : List ℕ). (a ∷ l) ∷ ls) (append-nil r)

continued_begun : (now : List ℕ) (b : ℕ) (ls : List (List ℕ)) → continued now (begun b ls) ≡ continued (now ++ (b ∷ [])) ls
continued_begun [] b [] = refl
continued_begun [] b (l ∷ ls) = refl
continued_begun (a ∷ r) b [] = refl
continued_begun (a ∷ r) b (l ∷ ls) = ap (λ (k : List ℕ). (a ∷ k) ∷ ls) (sym (append_assoc r (b ∷ []) l))

empty_line : line_of [] ≡ Empty
unfolding line_of read_from
empty_line = refl

module _ {X : Type 0} (put : X → ℤ → Put X) where
  -- ---- after a fault

  stopped_stays : (f : Fault) (x : X) (bs : List ℕ) → feed put (fed (Stopped f) x) bs ≡ fed (Stopped f) x
  unfolding feed
  stopped_stays f x [] = refl
  stopped_stays f x (b ∷ bs) = stopped_stays f x bs

  -- ---- an id

  run_with : (x : X) (z : ℤ) (r : Read) → run_read put x (with_id z r) ≡ or_rest (put x z).answer (put x z).after (run_read put (put x z).after r)
  unfolding in_turn
  run_with x z (whole s zs) = refl
  run_with x z (bad n zs) = refl

  -- the last line ends without a newline
  end_put : (a : Outcome) (n s : ℕ) (y : X) → run (settled (go_on a n s)) y ≡ or_rest a y (run (Ok s) y)
  end_put (Ok tt) n s y = refl
  end_put (Err c) n s y = refl

  end_id : (i : Option ℤ) (n s : ℕ) (x : X) → run (settled (perform put x (id_read i n s)).at) (perform put x (id_read i n s)).held ≡ run_read put x (after_id i n (ids_from s (following n) []))
  unfolding in_turn ids_from
  end_id (Some z) n s x = end_put (put x z).answer n s (put x z).after
  end_id None n s x = refl

  -- a newline ends the line
  module _ (n s : ℕ) (bs : List ℕ) (rest : (y : X) → finished put (feed put (fed (Next Empty (following n) s) y) bs) ≡ run_read put y (ids_from s (following n) (lines_of bs))) where
    line_put : (a : Outcome) (y : X) → finished put (feed put (fed (go_on a n s) y) bs) ≡ or_rest a y (run_read put y (ids_from s (following n) (lines_of bs)))
    line_put (Ok tt) y = rest y
    line_put (Err c) y = ap (finished put) (stopped_stays _ y bs)

    line_id : (i : Option ℤ) (x : X) → finished put (feed put (perform put x (id_read i n s)) bs) ≡ run_read put x (after_id i n (ids_from s (following n) (lines_of bs)))
    unfolding in_turn
    line_id (Some z) x = line_put (put x z).answer (put x z).after ∙ sym (run_with x z (ids_from s (following n) (lines_of bs)))
    line_id None x = ap (finished put) (stopped_stays _ x bs)

  -- ---- lines of ids

  next_last : (now : List ℕ) (n s : ℕ) (x : X) → finished put (fed (Next (line_of now) n s) x) ≡ run_read put x (ids_from s n (continued now []))
  unfolding in_turn ids_from
  next_last [] n s x = rw empty_line
  next_last (a ∷ r) n s x =
      ap (λ (t : Bool). run (settled (perform put x (cond t (Go (Next (line_of (a ∷ r)) n s)) (id_read (id_in (line_of (a ∷ r))) n s))).at) (perform put x (cond t (Go (Next (line_of (a ∷ r)) n s)) (id_read (id_in (line_of (a ∷ r))) n s))).held) (empty_says (a ∷ r))
      ∙ ap (λ (i : Option ℤ). run (settled (perform put x (id_read i n s)).at) (perform put x (id_read i n s)).held) (id_says (a ∷ r))
      ∙ end_id (id_line (a ∷ r)) n s x

  module _ (now : List ℕ) (n s : ℕ) (x : X) (b : ℕ) (bs : List ℕ)
      (rest : (y : X) → finished put (feed put (fed (Next (line_of []) (following n) s) y) bs) ≡ run_read put y (ids_from s (following n) (lines_of bs)))
      (more : finished put (feed put (fed (Next (line_of (now ++ (b ∷ []))) n s) x) bs) ≡ run_read put x (ids_from s n (continued (now ++ (b ∷ [])) (lines_of bs)))) where
    next_by : (t : Bool) → finished put (feed put (perform put x (cond t (id_read (id_in (line_of now)) n s) (Go (Next (next (line_of now) b) n s)))) bs) ≡ run_read put x (ids_from s n (continued now (cond t ([] ∷ lines_of bs) (begun b (lines_of bs)))))
    unfolding ids_from
    next_by true =
        ap (λ (i : Option ℤ). finished put (feed put (perform put x (id_read i n s)) bs)) (id_says now)
        ∙ line_id n s bs (λ (y : X). ap (λ (l : Line). finished put (feed put (fed (Next l (following n) s) y) bs)) (sym empty_line) ∙ rest y) (id_line now) x
        ∙ ap (λ (ls : List (List ℕ)). run_read put x (ids_from s n ls)) (sym (continued_end now (lines_of bs)))
    next_by false =
        ap (λ (l : Line). finished put (feed put (fed (Next l n s) x) bs)) (sym (line_snoc now b))
        ∙ more
        ∙ ap (λ (ls : List (List ℕ)). run_read put x (ids_from s n ls)) (sym (continued_begun now b (lines_of bs)))

  next_all : (now : List ℕ) (n s : ℕ) (x : X) (bs : List ℕ) → finished put (feed put (fed (Next (line_of now) n s) x) bs) ≡ run_read put x (ids_from s n (continued now (lines_of bs)))
  unfolding feed lines_of
  next_all now n s x [] = next_last now n s x
  next_all now n s x (b ∷ bs) = next_by now n s x b bs (λ (y : X). next_all [] (following n) s y bs) (next_all (now ++ (b ∷ [])) n s x bs) (eqb b 10)

  -- ---- the first line

  end_size : (k : Option ℕ) (x : X) → run (settled (size_read k)) x ≡ run_read put x (after_size k [])
  unfolding in_turn ids_from
  end_size (Some s) x = refl
  end_size None x = refl

  first_last : (now : List ℕ) (x : X) → finished put (fed (First (line_of now)) x) ≡ run_read put x (read_lines (continued now []))
  unfolding in_turn
  first_last [] x = rw empty_line
  first_last (a ∷ r) x = ap (λ (k : Option ℕ). run (settled (size_read k)) x) (size_says (a ∷ r)) ∙ end_size (size_line (a ∷ r)) x

  line_size : (k : Option ℕ) (x : X) (bs : List ℕ) → finished put (feed put (fed (size_read k) x) bs) ≡ run_read put x (after_size k (lines_of bs))
  unfolding in_turn
  line_size (Some s) x bs = ap (λ (l : Line). finished put (feed put (fed (Next l 2 s) x) bs)) (sym empty_line) ∙ next_all [] 2 s x bs
  line_size None x bs = ap (finished put) (stopped_stays _ x bs)

  module _ (now : List ℕ) (x : X) (b : ℕ) (bs : List ℕ)
      (more : finished put (feed put (fed (First (line_of (now ++ (b ∷ [])))) x) bs) ≡ run_read put x (read_lines (continued (now ++ (b ∷ [])) (lines_of bs)))) where
    first_by : (t : Bool) → finished put (feed put (perform put x (cond t (Go (size_read (size_in (line_of now)))) (Go (First (next (line_of now) b))))) bs) ≡ run_read put x (read_lines (continued now (cond t ([] ∷ lines_of bs) (begun b (lines_of bs)))))
    first_by true =
        ap (λ (k : Option ℕ). finished put (feed put (fed (size_read k) x) bs)) (size_says now)
        ∙ line_size (size_line now) x bs
        ∙ ap (λ (ls : List (List ℕ)). run_read put x (read_lines ls)) (sym (continued_end now (lines_of bs)))
    first_by false =
        ap (λ (l : Line). finished put (feed put (fed (First l) x) bs)) (sym (line_snoc now b))
        ∙ more
        ∙ ap (λ (ls : List (List ℕ)). run_read put x (read_lines ls)) (sym (continued_begun now b (lines_of bs)))

  first_all : (now : List ℕ) (x : X) (bs : List ℕ) → finished put (feed put (fed (First (line_of now)) x) bs) ≡ run_read put x (read_lines (continued now (lines_of bs)))
  unfolding feed lines_of
  first_all now x [] = first_last now x
  first_all now x (b ∷ bs) = first_by now x b bs (first_all (now ++ (b ∷ [])) x bs) (eqb b 10)

  -- ---- all of it

  -- byte by byte as by lines
  pub reads : (x : X) (bs : List ℕ) → finished put (feed put (fed begin x) bs) ≡ run_all put x bs
  unfolding read_plan
  reads x bs = ap (λ (l : Line). finished put (feed put (fed (First l) x) bs)) (sym empty_line) ∙ first_all [] x bs

  -- in parts of any length
  pub reads_parts : (x : X) (ps : List (List ℕ)) → finished put (feed_parts put (fed begin x) ps) ≡ run_all put x (together ps)
  reads_parts x ps = ap (finished put) (parts put (fed begin x) ps) ∙ reads x (together ps)
