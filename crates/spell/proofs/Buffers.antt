-- Laws of text behind text. Assumes nothing.
use mathlib.Core.Path.{◌≡◌, sym, ◌∙◌, ap}
use mathlib.Core.List.{List, [], ◌++◌, append_assoc, append-nil}
use Prim.Native.Nat.{ℕ, ◌+◌, ◌≤◌}
use native.Mathlib.Omega.{arith}
use lib.ListN.{length, take, length-append}
use Rattle.spell.specs.Spell.{Appends}

-- ---- one text behind another

pub then : (m n : ℕ) {a b c t u : List ℕ} {i j k : ℕ} → Appends m a b i j t → Appends n b c j k u → Appends (m + n) a c i k (t ++ u)
then m n {a} {b} {c} {t} {u} {i} {j} {k} p q =
    record {
      short = omega (arith, p.short, q.short, length-append t u);
      ends = omega (arith, p.ends, q.ends, length-append t u);
      says = q.says ∙ ap (λ (l : List ℕ). l ++ u) p.says ∙ append_assoc (take i a) t u;
    }

-- the same text, said otherwise, of at most so many bytes
pub spelt : {m n : ℕ} {a b t u : List ℕ} {i j : ℕ} → t ≡ u → m ≤ n → Appends m a b i j t → Appends n a b i j u
spelt {m} {n} {a} {b} {t} {u} {i} {j} e h p =
    let l : length t ≡ length u = ap length e in
    record {
      short = omega (arith, p.short);
      ends = omega (arith, p.ends);
      says = p.says ∙ ap (λ (x : List ℕ). take i a ++ x) e;
    }

-- nothing
pub nothing : (a : List ℕ) (i : ℕ) → Appends 0 a a i i []
nothing a i = record { short = omega arith; ends = omega arith; says = sym (append-nil (take i a)) }
