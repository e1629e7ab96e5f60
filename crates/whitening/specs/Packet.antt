-- A packet as it is heard: which calls are refused, and what the others answer and leave.
--
--   | header 2 | payload 0 .. 37 | CRC 3 |
--
--   allowed channel n             == whether there is a channel of this index and a packet of n octets, tested in this order
--   whiten_of channel packet       == what `whiten` answers
--   leaves outcome channel packet == the packet whitened, or as it was where that is refused
--   whiten_after channel packet    == the packet after `whiten`
--   start_on channel start         == where the CRC starts on a channel
--   flagged outcome good          == the CRC flag `good`, or the refusal
--   flag_of channel start packet   == the CRC flag of a packet that is still whitened
--   flag_number answer             == the number of an answer, 0 where it is no refusal
use Rattle.std.specs.Prelude.{ℕ, Bool, cond, List, ltb, length, Result, Ok, Err}
use Rattle.octets.specs.Error.{number_of}
use Rattle.octets.specs.declared.error.Error.TheVariants.{Eof, InvalidLength, NoSuchIndex}
use Rattle.whitening.specs.Crc.{crc_good}
use Rattle.whitening.specs.Whitening.{whitened}
use Rattle.octets.specs.declared.error.Error.{Error}

abbrev pub allowed : ℕ → ℕ → Result (Unit {0}) Error
allowed channel n =
    cond (ltb 39 channel) (Err NoSuchIndex) (cond (ltb 42 n) (Err InvalidLength) (cond (ltb n 5) (Err Eof) (Ok tt)))

abbrev pub whiten_of : ℕ → List ℕ → Result (Unit {0}) Error
whiten_of channel packet = allowed channel (length packet)

abbrev pub leaves : Result (Unit {0}) Error → ℕ → List ℕ → List ℕ
leaves (Ok tt) channel packet = whitened channel packet
leaves (Err e) channel packet = packet

abbrev pub whiten_after : ℕ → List ℕ → List ℕ
whiten_after channel packet = leaves (whiten_of channel packet) channel packet

-- 0x555555 on the advertising channels, which do not use the connect request's value
abbrev pub start_on : ℕ → ℕ → ℕ
start_on channel start = cond (ltb 36 channel) 0x555555 start

abbrev pub flagged : Result (Unit {0}) Error → Bool → Result Bool Error
flagged (Ok tt) good = Ok good
flagged (Err e) good = Err e

abbrev pub flag_of : ℕ → ℕ → List ℕ → Result Bool Error
flag_of channel start packet = flagged (whiten_of channel packet) (crc_good (start_on channel start) (whitened channel packet))

abbrev pub flag_number : Result Bool Error → ℕ
flag_number (Ok good) = 0
flag_number (Err e) = number_of e
