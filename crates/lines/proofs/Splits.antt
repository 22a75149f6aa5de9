-- Laws of words: the words of a line are the parts that std's `split` gives at its spaces. Assumes nothing.
use mathlib.Core.Path.{◌≡◌, refl, sym, ◌∙◌, ap}
use mathlib.Core.Bool.{Bool, true, false, cond}
use mathlib.Core.List.{List, [], ◌∷◌}
use Prim.Native.Nat.{ℕ, zero, suc, ◌+◌, ◌≤◌, ◌<◌}
use native.Mathlib.Omega.{arith}
use lib.Dec.{eqb}
use lib.ListN.{length, get_or}
use denote.Ref.{Bor}
use Rattle.std.specs.Prelude.{Option, Some, None, option_map, unwrap_or}
use Rattle.std.proofs.lemmas.Option.{unwrap_or-slice_get}
use Rattle.std.specs.List.{slice_get, slice_split, onto_first, count_by, fold, AllWithin, HoldsAt}
use Rattle.std.proofs.lemmas.List.Splits.{length-slice_split}
use Rattle.lines.specs.Reader.{next, read_from, line_of}
use Rattle.lines.specs.declared.Line.{Line}
use Rattle.lines.specs.declared.Line.TheVariants.{Empty}
use Rattle.lines.specs.Words.{first_word, after_first, from_word, word_at, word_count, Names}

abbrev pub is_space : ℕ → Bool
is_space b = eqb b 32

abbrev pub parts : List ℕ → List (List ℕ)
parts bs = slice_split is_space bs

-- ---- the first part, and those behind it

first_of : (t : Bool) (b : ℕ) (bs : List ℕ) (ps : List (List ℕ)) → first_word bs ≡ get_or ps 0 [] → cond t [] (b ∷ first_word bs) ≡ get_or (cond t ([] ∷ ps) (onto_first b ps)) 0 []
first_of true b bs ps e = refl
first_of false b bs [] e = ap (λ (w : List ℕ). b ∷ w) e
first_of false b bs (p ∷ ps) e = ap (λ (w : List ℕ). b ∷ w) e

first_law : (bs : List ℕ) → first_word bs ≡ get_or (parts bs) 0 []
unfolding first_word
first_law [] = refl
first_law (b ∷ bs) = first_of (eqb b 32) b bs (parts bs) (first_law bs)

after_of : (t : Bool) (b j : ℕ) (bs : List ℕ) (ps : List (List ℕ)) → ps ≡ parts bs → get_or ps (suc j) [] ≡ get_or (parts (after_first bs)) j [] → get_or (cond t ([] ∷ ps) (onto_first b ps)) (suc j) [] ≡ get_or (parts (cond t bs (after_first bs))) j []
after_of true b j bs ps e h = ap (λ (q : List (List ℕ)). get_or q j []) e
after_of false b j bs [] e h = h
after_of false b j bs (p ∷ ps) e h = h

after_law : (bs : List ℕ) (j : ℕ) → get_or (parts bs) (suc j) [] ≡ get_or (parts (after_first bs)) j []
unfolding after_first
after_law [] zero = refl
after_law [] (suc j) = refl
after_law (b ∷ bs) j = after_of (eqb b 32) b j bs (parts bs) refl (after_law bs j)

-- word j is part j
pub word_law : (j : ℕ) (bs : List ℕ) → get_or (parts bs) j [] ≡ word_at j bs
unfolding word_at from_word
word_law zero bs = sym (first_law bs)
word_law (suc j) bs = after_law bs j ∙ word_law j (after_first bs)

parts_law : (bs : List ℕ) → length (parts bs) ≡ word_count bs
unfolding word_count
parts_law [] = refl
parts_law (b ∷ bs) = count_of (eqb b 32) b (parts bs) (word_count bs) (some_part bs) (parts_law bs)
  where
    some_part : (bs : List ℕ) → 0 < length (parts bs)
    some_part bs = omega (arith, length-slice_split is_space bs)

    count_of : (t : Bool) (b : ℕ) (ps : List (List ℕ)) (n : ℕ) → 0 < length ps → length ps ≡ n → length (cond t ([] ∷ ps) (onto_first b ps)) ≡ cond t (1 + n) n
    count_of true b ps n h e = omega arith
    count_of false b [] n h e = absurd (omega arith)
    count_of false b (p ∷ ps) n h e = e

pub count_law : (bs : List ℕ) → word_count bs ≡ 1 + count_by is_space bs
count_law bs = omega (arith, parts_law bs, length-slice_split is_space bs)

-- what `nth` gives of the parts, or nothing
pub nth_law : (j : ℕ) (bs : List ℕ) (r : Option (Bor (List ℕ))) (d w : Bor (List ℕ)) → option_map (λ (p : Bor (List ℕ)). p.now) r ≡ slice_get (parts bs) j → w ≡ unwrap_or r d → d.now ≡ [] → w.now ≡ word_at j bs
nth_law j bs r d w e f g = now_of r f ∙ ap (λ (o : Option (List ℕ)). unwrap_or o []) e ∙ unwrap_or-slice_get (parts bs) j [] ∙ word_law j bs
  where
    now_of : (r : Option (Bor (List ℕ))) → w ≡ unwrap_or r d → w.now ≡ unwrap_or (option_map (λ (p : Bor (List ℕ)). p.now) r) []
    now_of (Some p) f = ap (λ (q : Bor (List ℕ)). q.now) f
    now_of None f = ap (λ (q : Bor (List ℕ)). q.now) f ∙ g

-- ---- which of the names a word is

module _ (it names : List ℕ) where
  abbrev pub Yes : List ℕ → Type 0
  Yes w = w ≡ it

  abbrev pub No : List ℕ → Type 0
  No w = w ≡ it → ⊥

  none_before : (n r : ℕ) → AllWithin No (parts names) 0 n → r ≤ n → (k : ℕ) → k < r → word_at k names ≡ it → ⊥
  none_before n r h l k m e = h k [] (omega arith) (omega arith) (word_law k names ∙ e)

  pub names_some : (i : ℕ) → (i < length (parts names)) × HoldsAt Yes (parts names) i × AllWithin No (parts names) 0 i → Names it names i
  names_some i h =
      record {
        found = λ l. sym (word_law i names) ∙ h.1 [];
        none_before = none_before i i h.2 (omega arith);
        at_most = omega (arith, h.0, parts_law names);
      }

  pub names_none : (r : ℕ) → r ≡ word_count names → AllWithin No (parts names) 0 (length (parts names)) → Names it names r
  names_none r e h =
      record {
        found = λ l. absurd (omega arith);
        none_before = none_before (length (parts names)) r h (omega (arith, parts_law names));
        at_most = omega arith;
      }

-- ---- a word byte by byte

kept_from : (l : Line) (bs : List ℕ) → fold next l bs ≡ read_from l bs
unfolding read_from
kept_from l [] = refl
kept_from l (b ∷ bs) = kept_from (next l b) bs

pub kept_law : (bs : List ℕ) → fold next Empty bs ≡ line_of bs
unfolding line_of
kept_law bs = kept_from Empty bs

-- ---- numbers and ids

-- an answer that goes by what a word says
pub told : {A B : Type 0} (f : A → B) {r k s : A} → r ≡ k → r ≡ s → f k ≡ f s
told f p q = ap f (sym p ∙ q)
