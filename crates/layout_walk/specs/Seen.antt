-- What the walk's pass over the entries has seen, and where it may pass over eight of them.
use Rattle.std.specs.Prelude.{◌≡◌, ℕ, zero, suc, ◌+◌, ◌-◌, ◌≤◌, ◌<◌, List, Bool}
use Rattle.sums.specs.Rules.{all_to}
use Rattle.layout.specs.Entries.{word_at, prefix_at}
use Rattle.layout.specs.Tests.{place_is, sparse_in, dense_in, prefix_rises}
use Rattle.document.specs.declared.sizes.Sizes.{Sizes}

-- the prefix of the entry before e, 0 where there is none
abbrev pub prefix_before : Sizes → List ℕ → ℕ → ℕ
prefix_before h t zero = 0
prefix_before h t (suc e) = prefix_at h t e

-- of the entries before e: whether their places are good, how many rows and pages they name, whether no prefix is above the next, the last prefix
pub record SeenTo (h : Sizes) (t : List ℕ) (e : ℕ) (ok : Bool) (rows pages : ℕ) (rise : Bool) (prefix : ℕ) : Type 0 where
  pub places : ok ≡ all_to (place_is h t) e
  pub in_rows : rows ≡ sparse_in h t e
  pub in_pages : pages ≡ dense_in h t e
  pub rises : rise ≡ all_to (prefix_rises h t) (e - 1)
  pub last : prefix ≡ prefix_before h t e

-- entries e to e + 7 are direct ones and absent, and n is the prefix of each
pub record EightAlike (h : Sizes) (t : List ℕ) (e n : ℕ) : Type 0 where
  pub direct : e + 8 ≤ h.d
  pub absent : (i : ℕ) → i < 8 → word_at h t (e + i) ≡ 0
  pub level : (i : ℕ) → i < 8 → prefix_at h t (e + i) ≡ n
