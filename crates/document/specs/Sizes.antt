-- Document 01's table of sizes.
use Rattle.std.specs.Prelude.{ℕ, ◌-◌, ◌^◌, ◌≤◌}
use Rattle.document.specs.declared.sizes.Sizes.{Sizes}

pub record InRange (h : Sizes) : Type 0 where
  pub s_low : 9 ≤ h.s
  pub s_high : h.s ≤ 25
  pub m_low : 1 ≤ h.m
  pub m_high : h.m ≤ 1024
  pub d_high : h.d ≤ 262144
  pub v_high : h.v ≤ 65536
  pub r_high : h.r ≤ 65536
  pub p_high : h.p ≤ 65536

-- ids of a chunk
abbrev pub top : Sizes → ℕ
top h = 2 ^ h.s

-- chunk ids are below this
abbrev pub last_chunk : Sizes → ℕ
last_chunk h = 2 ^ (63 - h.s)
