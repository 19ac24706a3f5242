-- Worked edges of the rules.
use Rattle.std.specs.Prelude.{◌≡◌, ℕ}
use Rattle.burst.specs.declared.raw.RawBurst.{RawBurst}
use Rattle.burst.specs.Beats.{first_refusal, address_of, last_of}

-- a burst by its kind, start, size code and count
abbrev pub burst : ℕ → ℕ → ℕ → ℕ → RawBurst
burst k a s n = record { kind = k; start = a; size = s; count = n }

-- beat j of a burst covers the bytes f to l
abbrev pub Lies : RawBurst → ℕ → ℕ → ℕ → Type 0
Lies b j f l = (address_of b j ≡ f) × (last_of b j ≡ l)

pub record Edges : Type 0 where
  -- an unaligned INCR burst goes on at multiples of its size: 1–3, 4–7, 8–11
  pub incr_0 : Lies (burst 1 1 2 3) 0 1 3
  pub incr_1 : Lies (burst 1 1 2 3) 1 4 7
  pub incr_2 : Lies (burst 1 1 2 3) 2 8 11
  -- a WRAP burst turns at its container's end: 34h, 38h, 3Ch, 30h
  pub wrap_0 : address_of (burst 2 0x34 2 4) 0 ≡ 0x34
  pub wrap_1 : address_of (burst 2 0x34 2 4) 1 ≡ 0x38
  pub wrap_2 : address_of (burst 2 0x34 2 4) 2 ≡ 0x3c
  pub wrap_3 : address_of (burst 2 0x34 2 4) 3 ≡ 0x30
  -- both beats of an unaligned FIXED burst cover the one byte that is left
  pub fixed_0 : Lies (burst 0 3 1 2) 0 3 3
  pub fixed_1 : Lies (burst 0 3 1 2) 1 3 3
  -- the page rule on both sides
  pub page_fits : first_refusal 8 (burst 1 0xffc 2 1) ≡ 0
  pub page_two : first_refusal 8 (burst 1 0xffc 2 2) ≡ 5
  pub page_byte : first_refusal 8 (burst 1 0xffd 2 1) ≡ 5
  -- sixteen FIXED beats, and one too many
  pub fixed_16 : first_refusal 8 (burst 0 0 2 16) ≡ 0
  pub fixed_17 : first_refusal 8 (burst 0 0 2 17) ≡ 3
  -- a WRAP burst starts at a multiple of its size
  pub wrap_start : first_refusal 8 (burst 2 2 2 4) ≡ 4
