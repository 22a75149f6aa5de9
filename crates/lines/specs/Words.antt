-- The words of a line, separated by single spaces; an empty line has one word, which is empty.
use Rattle.std.specs.Prelude.{cond, List, [], ◌∷◌, ◌≡◌, ℕ, zero, suc, ◌+◌, ◌≤◌, ◌<◌, eqb}

-- the bytes before the first space
unfoldable pub first_word : List ℕ → List ℕ
first_word [] = []
first_word (b ∷ bs) = cond (eqb b 32) [] (b ∷ first_word bs)

-- the bytes after the first space
unfoldable pub after_first : List ℕ → List ℕ
after_first [] = []
after_first (b ∷ bs) = cond (eqb b 32) bs (after_first bs)

-- a line from its word j on
unfoldable pub from_word : ℕ → List ℕ → List ℕ
from_word zero bs = bs
from_word (suc j) bs = from_word j (after_first bs)

-- word j, counted from 0; empty past the last
unfoldable pub word_at : ℕ → List ℕ → List ℕ
word_at j bs = first_word (from_word j bs)

-- one more than spaces
unfoldable pub word_count : List ℕ → ℕ
word_count [] = 1
word_count (b ∷ bs) = cond (eqb b 32) (1 + word_count bs) (word_count bs)

-- r is the first of the names that the word is; how many they are, where it is none
pub record Names (word names : List ℕ) (r : ℕ) : Type 0 where
  pub found : r < word_count names → word_at r names ≡ word
  pub none_before : (k : ℕ) → k < r → word_at k names ≡ word → ⊥
  pub at_most : r ≤ word_count names
