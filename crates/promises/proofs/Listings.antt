-- Records that the contracts allow are document 01's, one after the other. Assumes nothing.
use mathlib.Core.Path.{◌≡◌, sym, ap, subst}
use mathlib.Core.List.{List, [], ◌∷◌}
use Prim.Native.Nat.{◌+◌, ◌/◌, ◌≤◌}
use lib.IntN.{ℤ}
use lib.ListN.{length}
use Rattle.sums.specs.Ids.{Ids, total}
use Rattle.document.specs.Iteration.{listing, refused_listing}
use Rattle.document.specs.Listings.{Chain, Begun}
use Rattle.document.specs.Calls.{Said, whether, that, many, maybe, listed, iterate}
use Rattle.document.specs.declared.answer.Listing.{Listing}
use Rattle.document.proofs.Listings.{chain_there, chain_lists, chain_short, begun_short}
use Rattle.layout.specs.Mem.{Mem}
use Rattle.calls.specs.Iteration.{iter_by}
use Rattle.contracts.specs.Does.{Answers}
use Rattle.promises.specs.Listings.{Asked, Asking, AllListed}
use Rattle.promises.proofs.Unique.{asked_some}

-- the record that is said
abbrev said : Said → Listing
said (whether a) = refused_listing 0
said (that a) = refused_listing 0
said (many a) = refused_listing 0
said (maybe a) = refused_listing 0
said (listed r) = r

-- memory x answers iteration by the plain set P
module _ (x : Mem) (P : Ids) (is : (start : ℤ) (r : Listing) → Answers x (iterate start) (listed r) → listed r ≡ listed (listing P start)) where
  told : (start : ℤ) (r : Listing) → Answers x (iterate start) (listed r) → r ≡ listing P start
  told start r d = ap said (is start r d)

  chained : (start : ℤ) (rs : List Listing) → Asked x start rs → Chain P start rs
  unfolding Chain
  chained start [] d = d
  chained start (r ∷ rs) d = (told start r d.0, d.1, λ e. chained r.next rs (d.2 e))

  begun : (start : ℤ) (rs : List Listing) → Asking x start rs → Begun P start rs
  unfolding Begun
  begun start [] d = d
  begun start (r ∷ rs) d = (told start r d.0, d.1, λ e. begun r.next rs (d.2 e))

  pub lists_all : (start : ℤ) (rs : List Listing) → Asked x start rs → AllListed P start rs
  lists_all start rs d = record { lists = chain_lists P start rs (chained start rs d); soon = chain_short P start rs (chained start rs d) }

  pub ends_soon : (start : ℤ) (rs : List Listing) → Asking x start rs → length rs ≤ total P / 64 + 1
  ends_soon start rs d = begun_short P start rs (begun start rs d)

  -- and there are such records
  here : (start : ℤ) → Answers x (iterate start) (listed (listing P start))
  here start = let d = asked_some x (iterate start) in subst (λ (a : Said). Answers x (iterate start) a) (is start (iter_by x start) d) d

  unchained : (start : ℤ) (rs : List Listing) → Chain P start rs → Asked x start rs
  unfolding Chain
  unchained start [] d = d
  unchained start (r ∷ rs) d =
      (subst (λ (q : Listing). Answers x (iterate start) (listed q)) (sym d.0) (here start), d.1, λ e. unchained r.next rs (d.2 e))

  pub some_listed : (start : ℤ) → (rs : List Listing) × Asked x start rs
  some_listed start = let k = chain_there P start in (k.0, unchained start k.0 k.1)
