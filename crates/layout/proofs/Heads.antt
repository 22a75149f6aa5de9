-- The header as it is read, and the test of the slices' lengths. Assumes nothing.
use mathlib.Core.Path.{◌≡◌, ap, ap₂}
use mathlib.Core.List.{List}
use mathlib.Core.Bool.{◌&&◌}
use Prim.Native.Nat.{ℕ, ◌*◌}
use lib.ListN.{get_or}
use lib.Dec.{leb}
use Rattle.layout.specs.Sizes.{wide, blocks_of, table_size, header_at}
use Rattle.layout.specs.Tests.{roomy}
use Rattle.layout.specs.SetUp.{sizes_of}
use Rattle.document.specs.declared.sizes.Sizes.{Sizes}

pub header_read : (t : List ℕ) (s m d v r p : ℕ) → s ≡ get_or t 0 0 → m ≡ get_or t 1 0 → d ≡ get_or t 2 0 → v ≡ get_or t 3 0 → r ≡ get_or t 4 0 → p ≡ get_or t 5 0
    → sizes_of s m d v r p ≡ header_at t
header_read t s m d v r p es em ed ev er ep = cc

pub room_passes : (h : Sizes) (pages rows blocks table a b d : ℕ) → a ≡ h.p * wide h → b ≡ h.r * h.m → d ≡ h.p * blocks_of h
    → (leb a pages && leb b rows && leb d blocks && leb (table_size h) table) ≡ roomy h pages rows blocks table
unfolding roomy
room_passes h pages rows blocks table a b d ea eb ed =
    ap (λ c. c && leb (table_size h) table)
    (ap₂ ◌&&◌ (ap₂ ◌&&◌ (ap (λ n. leb n pages) ea) (ap (λ n. leb n rows) eb)) (ap (λ n. leb n blocks) ed))
