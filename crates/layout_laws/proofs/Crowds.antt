-- How many entries there can be: ids rise, so up to c there are at most c + 1 of them, and fewer where an id has none. Assumes nothing.
use mathlib.Core.Path.{◌≡◌, refl, ap}
use mathlib.Core.Logic.{◌≢◌}
use mathlib.Core.List.{List}
use mathlib.Core.Bool.{Bool, true, false, cond, not}
use Prim.Native.Nat.{ℕ, zero, suc, ◌+◌, ◌-◌, ◌*◌, ◌≤◌, ◌<◌}
use native.Mathlib.Omega.{arith}
use lib.Dec.{ltb}
use borrow.Author.Tests.{ltb-true, ltb-false, le-ltb}
use Rattle.sums.specs.Ids.{count}
use Rattle.sparse.specs.Row.{Rising, below_of}
use Rattle.layout.specs.Sizes.{over_count}
use Rattle.layout.specs.Entries.{entries, chunk_at}
use Rattle.layout.specs.Short.{lower_key, over_place}
use Rattle.document.specs.declared.sizes.Sizes.{Sizes}
use Rattle.layout_laws.specs.Chunks.{first_entry}
use Rattle.layout_laws.proofs.Keys.{Cut, cut_count}
use Rattle.layout_laws.proofs.Halving.{lower_first}
use Rattle.layout_laws.proofs.Entries.{Ordered, chunk_rising}
use Rattle.layout_laws.proofs.Ranks.{entry_cut}
use Rattle.layout_laws.proofs.ChunkCounts.{count_not}

-- ---- keys that rise

module _ (key : ℕ → ℕ) (n : ℕ) (up : Rising key n) where
  rising_by_one : (i j : ℕ) → i + j < n → key i + j ≤ key (i + j)
  rising_by_one i zero l = let e : i + 0 ≡ i = omega arith in let k = ap key e in omega arith
  rising_by_one i (suc j) l = let r = rising_by_one i j (omega arith) in let s = up (i + j) (i + suc j) (omega arith) l in omega arith

  pub rising_least : (e : ℕ) → e < n → e ≤ key e
  rising_least e l = let r = rising_by_one 0 e (omega arith) in let q : 0 + e ≡ e = omega arith in let k = ap key q in omega arith

  -- at most N of them are below N
  crowd : (k N : ℕ) → Cut key n k N → k ≤ N
  crowd zero N u = omega arith
  crowd (suc j) N u = let f = u.fits in let r = rising_least j (omega arith) in let b = u.before j (omega arith) in omega arith

  -- and fewer, where m is not among them
  crowd_missed : (k c m : ℕ) → Cut key n k (c + 1) → m ≤ c → ((e : ℕ) → e < n → key e ≢ m) → k ≤ c
  crowd_missed k c m u l none = go (ltb i k) refl
    where
      i : ℕ
      i = lower_key n key m 0 n

      cut : Cut key n i m
      cut = lower_first key n m up

      go : (b : Bool) → ltb i k ≡ b → k ≤ c
      go false e = let a = ltb-false i k e in let b = crowd i m cut in omega arith
      go true e =
          let a = ltb-true i k e in
          let f = u.fits in
          let g = crowd i m cut in
          let j = k - i - 1 in
          let r = rising_by_one i j (omega arith) in
          let b = u.before (i + j) (omega arith) in
          let s = cut.after i (omega arith) (omega arith) in
          let d = none i (omega arith) in
          omega arith

-- ---- entries

-- entries of chunk N and on
unfoldable pub above : Sizes → List ℕ → ℕ → ℕ
above h t N = count (λ (e : ℕ). not (ltb (chunk_at h t e) N)) (entries h t)

module _ (h : Sizes) (t : List ℕ) (o : Ordered h t) where
  from_above : (N : ℕ) → first_entry h t N + above h t N ≡ entries h t
  unfolding above below_of
  from_above N =
      let a = cut_count (chunk_at h t) (entries h t) (first_entry h t N) N (entry_cut h t o N) in
      let b = count_not (λ (e : ℕ). ltb (chunk_at h t e) N) (entries h t) in
      omega arith

  pub above_over : (N : ℕ) → h.d ≤ N → above h t N ≡ over_count t - over_place t (16 + 2 * h.d) (over_count t) N
  unfolding first_entry
  above_over N l =
      let k = over_place t (16 + 2 * h.d) (over_count t) N in
      let e : first_entry h t N ≡ h.d + k = ap (λ (b : Bool). cond b N (h.d + k)) (le-ltb N h.d l) in
      let f = from_above N in
      omega arith

  -- where a chunk m of those up to c has no entry
  pub entries_missed : (c m : ℕ) → m ≤ c → ((e : ℕ) → e < entries h t → chunk_at h t e ≢ m) → entries h t ≤ c + above h t (c + 1)
  entries_missed c m l none =
      let k = crowd_missed (chunk_at h t) (entries h t) (chunk_rising h t o) (first_entry h t (c + 1)) c m (entry_cut h t o (c + 1)) l none in
      let f = from_above (c + 1) in
      omega arith
