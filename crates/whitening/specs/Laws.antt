-- What holds of whitening and of the CRC. Worked values stand in specs/Examples.
--   is_in n exponents        == n is one of the exponents
--   terms n exponents       == the terms of a polynomial below x^n, by their exponents: positions n - 1 to 0
--   Polynomials             (Polynomials.polynomials)  the two registers' terms, as the Core writes them, and as a number
--   Starts                  (Starts.starts)            where whitening starts: `whitening_iv` of each channel is the register's start
--   sum xs ys               == bits added modulo 2; what is longer is cut
--   Recurs channel          (Recurring.recurs)         the bits that leave the whitening register, by its polynomial
--   Whitens                 (Whitens.whitens)          whitening adds the register's bits to the packet's, and twice is not at all
--   each q ts               == the bits ts where q is true, otherwise zeros
--   product qs              == the polynomial qs times that of the CRC
--   Divides start octets    (Dividing.divides)         the CRC is what a division by the polynomial leaves
--   Numbers start octets    (Numbers.numbers)          the CRC as a number and as octets; only the low 24 bits of a start value count
--   CrcChecks start         (Errors.checks)            a packet's own CRC is right, no other is, and of two packets that differ in one bit not both are right
--   WhiteningRefuses channel packet (Limits.refusing)  which calls are refused, in which order, and what they leave
--   CrcStartOn channel start (Limits.starting)          where the CRC starts on each channel
--   Hears channel start     (Heard.hears)              what the flag tells of packets that are heard on a channel: a packet's own CRC, any other, and one bit
--   Holds                   (Holding.holds)            all of these, with what they assume; the cycle and what the code keeps of it (specs/Kept), and worked values (specs/Examples)
use Rattle.std.specs.Prelude.{◌≡◌, Bool, true, false, ◌&&◌, ◌||◌, List, [], ◌∷◌, ◌++◌, reverse, ℕ, zero, suc, ◌+◌, ◌≤◌, ◌<◌, ◌^◌, ◌%◌, eqb, length, drop, replicate, Ok, Err}
use Rattle.std.specs.Bool.{xor}
use Rattle.octets.specs.Bytes.{le_bytes}
use Rattle.octets.specs.declared.error.Error.{Error}
use Rattle.octets.specs.declared.error.Error.TheVariants.{Eof, InvalidLength, NoSuchIndex}
use Rattle.channels.specs.Phy.{index_of, whitening_start, data_whitening, advertising_whitening}
use Rattle.channels.specs.declared.phy.AdvertisingChannel.{AdvertisingChannel}
use Rattle.channels.specs.declared.phy.DataChannel.{DataChannel}
use Rattle.whitening.specs.Bits.{bits, number, bits_of}
use Rattle.whitening.specs.Whitening.{whitening_taps, register_on, leaving, whitened}
use Rattle.whitening.specs.Examples.{Examples}
use Rattle.whitening.specs.Kept.{OneCycle, Kept}
use Rattle.whitening.specs.Crc.{crc_taps, crc_of, crc_octets, crc_good}
use Rattle.whitening.specs.Packet.{whiten_of, whiten_after, start_on, flag_of}

-- the terms of a polynomial below x^n, by their exponents: positions n - 1 to 0
unfoldable pub is_in : ℕ → List ℕ → Bool
is_in n [] = false
is_in n (e ∷ es) = eqb n e || is_in n es

unfoldable pub terms : ℕ → List ℕ → List Bool
terms zero exponents = []
terms (suc n) exponents = is_in n exponents ∷ terms n exponents

pub record Polynomials : Type 0 where
  -- x^7 + x^4 + 1
  pub whitening : whitening_taps ≡ terms 7 (4 ∷ 0 ∷ [])
  -- x^24 + x^10 + x^9 + x^6 + x^4 + x^3 + x + 1, and the number that rubble has for it
  pub crc : crc_taps ≡ terms 24 (10 ∷ 9 ∷ 6 ∷ 4 ∷ 3 ∷ 1 ∷ 0 ∷ [])
  pub crc_poly : number (reverse crc_taps) + 2 ^ 24 ≡ 0b1_00000000_00000110_01011011

-- There is one start value: the number that `channels` gives for an index is the register, position 6 its lowest bit.
pub record Starts : Type 0 where
  pub register : (channel : ℕ) → bits 7 (whitening_start channel) ≡ register_on channel
  pub number_is : (channel : ℕ) → number (register_on channel) ≡ whitening_start channel
  pub data_channels : (c : DataChannel) → bits 7 (data_whitening c) ≡ register_on c.index
  pub advertising_channels : (c : AdvertisingChannel) → bits 7 (advertising_whitening c) ≡ register_on (index_of c)

-- bits added modulo 2; what is longer is cut
unfoldable pub sum : List Bool → List Bool → List Bool
sum [] ys = []
sum (x ∷ xs) [] = []
sum (x ∷ xs) (y ∷ ys) = xor x y ∷ sum xs ys

-- The bits that leave the whitening register: the first seven give the register, and each later one is the sum of the bits seven and three before it, as x^7 = x^4 + 1.
pub record Recurs (channel : ℕ) : Type 0 where
  pub first : sum (leaving 7 (register_on channel)) (replicate 3 false ++ leaving 4 (register_on channel)) ≡ register_on channel
  pub later : (n : ℕ) → drop 7 (leaving (n + 7) (register_on channel)) ≡ sum (leaving n (register_on channel)) (drop 4 (leaving (n + 4) (register_on channel)))

pub record Whitens : Type 0 where
  pub adds : (channel : ℕ) (packet : List ℕ) → bits_of (whitened channel packet) ≡ sum (bits_of packet) (leaving 336 (register_on channel))
  pub as_long : (channel : ℕ) (packet : List ℕ) → length packet ≤ 42 → length (whitened channel packet) ≡ length packet
  pub twice : (channel : ℕ) (packet : List ℕ) → length packet ≤ 42 → whitened channel (whitened channel packet) ≡ packet
  -- and of two calls, of any packet, refused or not
  pub called_twice : (channel : ℕ) (packet : List ℕ) → whiten_after channel (whiten_after channel packet) ≡ packet

-- A polynomial is the list of its coefficients, the highest first: quotient times x^24 + x^10 + x^9 + x^6 + x^4 + x^3 + x + 1 has 24 more than quotient.
unfoldable pub each : Bool → List Bool → List Bool
each q [] = []
each q (t ∷ ts) = (q && t) ∷ each q ts

unfoldable pub product : List Bool → List Bool
product [] = replicate 24 false
product (q ∷ qs) = sum (each q (terms 25 (24 ∷ 10 ∷ 9 ∷ 6 ∷ 4 ∷ 3 ∷ 1 ∷ 0 ∷ [])) ++ replicate (length qs) false) (false ∷ product qs)

-- The bits as they are heard and 24 zeros after them, the start value's 24 bits added to the front, position 23 first: divided by the polynomial, they leave the CRC.
pub record Divides (start : ℕ) (octets : List ℕ) : Type 0 where
  pub quotient : List Bool
  pub size : length quotient ≡ length (bits_of octets)
  pub left : sum (bits_of octets ++ replicate 24 false) (reverse (bits 24 start) ++ replicate (length (bits_of octets)) false)
      ≡ sum (product quotient) (replicate (length (bits_of octets)) false ++ bits 24 (crc_of start octets))

-- The octets that are sent are the number's, least significant first; "the low 24 bits of any start value" count.
pub record Numbers (start : ℕ) (octets : List ℕ) : Type 0 where
  pub small : crc_of start octets < 2 ^ 24
  pub sent : crc_octets start octets ≡ le_bytes 3 (crc_of start octets)
  pub low_24 : crc_of start octets ≡ crc_of (start % 2 ^ 24) octets

pub record CrcChecks (start : ℕ) : Type 0 where
  pub own : (octets : List ℕ) → crc_good start (octets ++ crc_octets start octets) ≡ true
  pub no_other : (octets last : List ℕ) → length last ≡ 3 → crc_good start (octets ++ last) ≡ true → last ≡ crc_octets start octets
  pub one_bit : (p q : List ℕ) (before after : List Bool) (b d : Bool) → bits_of p ≡ before ++ b ∷ after → bits_of q ≡ before ++ d ∷ after
      → crc_good start p ≡ true → crc_good start q ≡ true → b ≡ d

-- "10, channel above 39, tested first; a packet above 42 octets is 2, one under 5 is 1": `number_of` of octets has these numbers. What is refused stays as it is.
pub record WhiteningRefuses (channel : ℕ) (packet : List ℕ) : Type 0 where
  pub no_channel : 39 < channel → whiten_of channel packet ≡ Err NoSuchIndex
  pub too_long : channel ≤ 39 → 42 < length packet → whiten_of channel packet ≡ Err InvalidLength
  pub too_short : channel ≤ 39 → length packet < 5 → whiten_of channel packet ≡ Err Eof
  pub others : channel ≤ 39 → 5 ≤ length packet → length packet ≤ 42 → whiten_of channel packet ≡ Ok tt
  pub kept : (e : Error) → whiten_of channel packet ≡ Err e → whiten_after channel packet ≡ packet
  pub done : whiten_of channel packet ≡ Ok tt → whiten_after channel packet ≡ whitened channel packet
  -- where whitening is refused, so is the flag
  pub flag : (start : ℕ) (e : Error) → whiten_of channel packet ≡ Err e → flag_of channel start packet ≡ Err e

-- "started from `0x555555` on advertising channels and from the connect request's value afterwards", which is "unused on 37 to 39".
pub record CrcStartOn (channel start : ℕ) : Type 0 where
  pub data_channels : channel ≤ 36 → start_on channel start ≡ start
  pub advertising_channels : 37 ≤ channel → start_on channel start ≡ 0x555555
  pub unused : 37 ≤ channel → (other : ℕ) (packet : List ℕ) → flag_of channel start packet ≡ flag_of channel other packet

pub record Hears (channel start : ℕ) : Type 0 where
  -- the flag of any other packet says whether its last three octets, the whitening taken off, are its CRC
  pub told : (packet : List ℕ) → channel ≤ 39 → 5 ≤ length packet → length packet ≤ 42
      → flag_of channel start packet ≡ Ok (crc_good (start_on channel start) (whitened channel packet))
  pub own : (octets : List ℕ) → channel ≤ 39 → 2 ≤ length octets → length octets ≤ 39
      → flag_of channel start (whitened channel (octets ++ crc_octets (start_on channel start) octets)) ≡ Ok true
  pub no_other : (octets last : List ℕ) → length octets ≤ 39 → length last ≡ 3 → flag_of channel start (whitened channel (octets ++ last)) ≡ Ok true
      → last ≡ crc_octets (start_on channel start) octets
  pub one_bit : (p q : List ℕ) (before after : List Bool) (b d : Bool) → bits_of p ≡ before ++ b ∷ after → bits_of q ≡ before ++ d ∷ after
      → flag_of channel start p ≡ Ok true → flag_of channel start q ≡ Ok true → b ≡ d

pub record Holds : Type 0 where
  pub polynomials : Polynomials
  pub starts : Starts
  pub recurs : (channel : ℕ) → Recurs channel
  pub whitens : Whitens
  pub divides : (start : ℕ) (octets : List ℕ) → Divides start octets
  pub numbers : (start : ℕ) (octets : List ℕ) → Numbers start octets
  pub checks : (start : ℕ) → CrcChecks start
  pub refusing : (channel : ℕ) (packet : List ℕ) → WhiteningRefuses channel packet
  pub starting : (channel start : ℕ) → CrcStartOn channel start
  pub hears : (channel start : ℕ) → Hears channel start
  pub one_cycle : OneCycle
  pub kept : Kept
  pub examples : Examples
