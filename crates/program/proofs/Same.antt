-- Laws of turns: what is said of one thing that ids are put into holds of another that answers alike. Assumes nothing.
use mathlib.Core.Path.{◌≡◌, refl, subst}
use mathlib.Core.List.{List, [], ◌∷◌}
use Prim.Native.Nat.{ℕ}
use lib.IntN.{ℤ}
use mir.Syntax.{w64}
use mir.Val.{SFits}
use Rattle.lines.specs.Line.{size_line, id_line}
use Rattle.lines.proofs.Ways.{id_fits_law}
use Rattle.program.specs.Input.{lines_of, Read, whole, bad, following, after_id, ids_from, after_size, read_lines, read_plan}
use Rattle.program.specs.Turns.{Put, Run, or_rest, in_turn, run_read, run_all}
use Rattle.document.specs.Results.{Outcome}
use Rattle.program.specs.Faults.{Ended}
use Rattle.program.specs.declared.Fault.TheVariants.{Line}
use Rattle.std.specs.Prelude.{Err, None, Ok, Option, Some}

-- ---- the ids of the input are i64s

abbrev pub Fit : List ℤ → Type 0
Fit [] = Unit
Fit (z ∷ zs) = SFits w64 z × Fit zs

abbrev FitRead : Read → Type 0
FitRead (whole s zs) = Fit zs
FitRead (bad n zs) = Fit zs

after_fit : (i : Option ℤ) (n : ℕ) (r : Read) → ((z : ℤ) → i ≡ Some z → SFits w64 z) → FitRead r → FitRead (after_id i n r)
after_fit (Some z) n (whole s zs) h f = (h z refl, f)
after_fit (Some z) n (bad k zs) h f = (h z refl, f)
after_fit None n r h f = tt

ids_fit : (s n : ℕ) (ls : List (List ℕ)) → FitRead (ids_from s n ls)
unfolding ids_from
ids_fit s n [] = tt
ids_fit s n (l ∷ ls) = after_fit (id_line l) n (ids_from s (following n) ls) (id_fits_law l) (ids_fit s (following n) ls)

size_fit : (k : Option ℕ) (ls : List (List ℕ)) → FitRead (after_size k ls)
size_fit (Some s) ls = ids_fit s 2 ls
size_fit None ls = tt

lines_fit : (ls : List (List ℕ)) → FitRead (read_lines ls)
lines_fit [] = tt
lines_fit (l ∷ ls) = size_fit (size_line l) ls

-- ---- two that answer alike

module _ {X Y : Type 0} (putX : X → ℤ → Put X) (put_y : Y → ℤ → Put Y) (R : X → Y → Type 0)
    (alike : (x : X) (y : Y) (z : ℤ) → SFits w64 z → R x y → ((putX x z).answer ≡ (put_y y z).answer) × R (putX x z).after (put_y y z).after) where
  abbrev Same : Run X → Run Y → Type 0
  Same r q = (r.ended ≡ q.ended) × R r.left q.left

  or_same : (a : Outcome) (u : X) (v : Y) (r : Run X) (q : Run Y) → R u v → Same r q → Same (or_rest a u r) (or_rest a v q)
  or_same (Ok tt) u v r q h s = s
  or_same (Err c) u v r q h s = (refl, h)

  turns_same : (x : X) (y : Y) (zs : List ℤ) (e : Ended) → Fit zs → R x y → Same (in_turn putX x zs e) (in_turn put_y y zs e)
  unfolding in_turn
  turns_same x y [] e f h = (refl, h)
  turns_same x y (z ∷ zs) e f h =
      let p = alike x y z f.0 h in
      subst
      (λ (a : Outcome). Same (or_rest (putX x z).answer (putX x z).after (in_turn putX (putX x z).after zs e)) (or_rest a (put_y y z).after (in_turn put_y (put_y y z).after zs e)))
      p.0
      (or_same (putX x z).answer (putX x z).after (put_y y z).after _ _ p.1 (turns_same (putX x z).after (put_y y z).after zs e f.1 p.1))

  read_same : (x : X) (y : Y) (r : Read) → FitRead r → R x y → Same (run_read putX x r) (run_read put_y y r)
  read_same x y (whole s zs) f h = turns_same x y zs (Ok s) f h
  read_same x y (bad n zs) f h = turns_same x y zs (Err (Line n)) f h

  pub run_same : (x : X) (y : Y) (bs : List ℕ) → R x y → ((run_all putX x bs).ended ≡ (run_all put_y y bs).ended) × R (run_all putX x bs).left (run_all put_y y bs).left
  unfolding read_plan
  run_same x y bs h = read_same x y (read_lines (lines_of bs)) (lines_fit (lines_of bs)) h

-- ---- what every insert keeps

module _ {X : Type 0} (put : X → ℤ → Put X) (K : X → Type 0) (keeps : (x : X) (z : ℤ) → K x → K (put x z).after) where
  or_keeps : (a : Outcome) (u : X) (r : Run X) → K u → K r.left → K (or_rest a u r).left
  or_keeps (Ok tt) u r h k = k
  or_keeps (Err c) u r h k = h

  pub turns_keep : (x : X) (zs : List ℤ) (e : Ended) → K x → K (in_turn put x zs e).left
  unfolding in_turn
  turns_keep x [] e h = h
  turns_keep x (z ∷ zs) e h = or_keeps (put x z).answer (put x z).after _ (keeps x z h) (turns_keep (put x z).after zs e (keeps x z h))

  read_keeps : (x : X) (r : Read) → K x → K (run_read put x r).left
  read_keeps x (whole s zs) h = turns_keep x zs (Ok s) h
  read_keeps x (bad n zs) h = turns_keep x zs (Err (Line n)) h

  pub run_keeps : (x : X) (bs : List ℕ) → K x → K (run_all put x bs).left
  run_keeps x bs h = read_keeps x (read_plan bs) h
