-- A PDU of a header that was made, or not, and a payload, as numbers.
use Rattle.std.specs.Prelude.{List, ℕ, Result, Ok, Err}
use Rattle.advertising.specs.Pdu.{decode_of}
use Rattle.answers.specs.Packet.{packet_said}
use Rattle.answers.specs.declared.packet.Packet.{Packet}
use Rattle.addresses.specs.declared.header.Header.{Header}
use Rattle.octets.specs.declared.error.Error.{Error}

abbrev pub decoded_from : Result Header Error → List ℕ → Packet
decoded_from (Ok h) p = packet_said (decode_of h p)
decoded_from (Err e) p = packet_said (Err e)
