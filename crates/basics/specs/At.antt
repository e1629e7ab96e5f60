-- Headers at a position, as numbers.
--   header_got r                == a header that was read, and the position after it
--   header_written made out at  == what a write of a header that was made, or not, answers, and header_after what the buffer holds then
use Rattle.std.specs.Prelude.{List, ℕ, Result, Ok, Err}
use Rattle.octets.specs.Bytes.{write_to, out_after}
use Rattle.addresses.specs.Header.{header_octets}
use Rattle.answers.specs.Got.{found, refused_as, written_got}
use Rattle.answers.specs.declared.got.Got.{Got}
use Rattle.addresses.specs.declared.header.Header.{Header}
use Rattle.octets.specs.declared.error.Error.{Error}
use Rattle.octets.specs.declared.bytes.ByteReader.{ByteReader}

abbrev pub header_got : Result (Header × ByteReader) Error → Got
header_got (Ok (h, next)) = found h.0 next.at
header_got (Err e) = refused_as e

abbrev pub header_written : Result Header Error → List ℕ → ℕ → Got
header_written (Ok h) out at = written_got (write_to 2 out at)
header_written (Err e) out at = refused_as e

abbrev pub header_after : Result Header Error → List ℕ → ℕ → List ℕ
header_after (Ok h) out at = out_after (header_octets h) out at
header_after (Err e) out at = out
