-- The octet of Flags: its five bits that have a name in the Rust `Flags`, and what is asked of them (the Supplement, Part A, 1.3).
--   named x, bit_at b x                == an octet of Flags without the bits that have no name; bit b of x, 0 or 1
--   limited_discoverable, general_discoverable, supports_classic, both_by_controller, both_by_host == what bits 0 to 4 say
--   discoverable_flags, broadcast_flags == the octet of a start, and that of a beacon
--   NamedBits x                       (Bits.named_bits)  `named x` keeps these five bits of x, and no other
--   digit b                           == 1 where b is true, otherwise 0
--   with_bits l g n c h above          == the octet whose bits 0 to 4 are these, and `above` those above them
--   Queries l g n c h above           (Bits.queries)     each query of it answers by its own bit, whatever the others are
--   Holds                             (Holding.holds)    both laws, of every octet
use Rattle.std.specs.Prelude.{◌≡◌, Bool, cond, not, ℕ, ◌+◌, ◌*◌, ◌/◌, ◌%◌, ◌^◌, ◌<◌, ◌≤◌, eqb}

-- bits 0 to 4 have a name in the Rust `Flags` (document 01)
unfoldable pub named : ℕ → ℕ
named x = x % 32

abbrev pub bit_at : ℕ → ℕ → ℕ
bit_at b x = x / 2 ^ b % 2

-- LE Limited Discoverable Mode
abbrev pub limited_discoverable : ℕ → Bool
limited_discoverable x = eqb (bit_at 0 x) 1

-- LE General Discoverable Mode
abbrev pub general_discoverable : ℕ → Bool
general_discoverable x = eqb (bit_at 1 x) 1

-- BR/EDR Not Supported
abbrev pub supports_classic : ℕ → Bool
supports_classic x = eqb (bit_at 2 x) 0

-- Simultaneous LE and BR/EDR to Same Device Capable: the controller, and the host
abbrev pub both_by_controller : ℕ → Bool
both_by_controller x = eqb (bit_at 3 x) 1

abbrev pub both_by_host : ℕ → Bool
both_by_host x = eqb (bit_at 4 x) 1

abbrev pub discoverable_flags : ℕ
discoverable_flags = 0x06

abbrev pub broadcast_flags : ℕ
broadcast_flags = 0x04

pub record NamedBits (x : ℕ) : Type 0 where
  pub kept : (b : ℕ) → b < 5 → bit_at b (named x) ≡ bit_at b x
  pub cleared : (b : ℕ) → 5 ≤ b → bit_at b (named x) ≡ 0

abbrev pub digit : Bool → ℕ
digit b = cond b 1 0

abbrev pub with_bits : Bool → Bool → Bool → Bool → Bool → ℕ → ℕ
with_bits l g n c h above = digit l + 2 * digit g + 4 * digit n + 8 * digit c + 16 * digit h + 32 * above

pub record Queries (l g n c h : Bool) (above : ℕ) : Type 0 where
  pub limited : limited_discoverable (with_bits l g n c h above) ≡ l
  pub general : general_discoverable (with_bits l g n c h above) ≡ g
  pub classic : supports_classic (with_bits l g n c h above) ≡ not n
  pub controller : both_by_controller (with_bits l g n c h above) ≡ c
  pub host : both_by_host (with_bits l g n c h above) ≡ h
  pub kept : named (with_bits l g n c h above) ≡ with_bits l g n c h 0

-- Both laws, with what they assume.
pub record Holds : Type 0 where
  pub named_bits : (x : ℕ) → NamedBits x
  pub queries : (l g n c h : Bool) (above : ℕ) → Queries l g n c h above
