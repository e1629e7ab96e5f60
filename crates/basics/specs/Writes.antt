-- A write that was cut to the space left, as numbers: how many octets were written, and the position after them.
use Rattle.answers.specs.Got.{found, refused_as}
use Rattle.answers.specs.declared.got.Got.{Got}
use Rattle.std.specs.Prelude.{Result, Ok, Err, ℕ}
use Rattle.octets.specs.declared.bytes.ByteWriter.{ByteWriter}
use Rattle.octets.specs.declared.error.Error.{Error}

abbrev pub truncated_got : Result (ℕ × ByteWriter) Error → Got
truncated_got (Ok (n, next)) = found n next.at
truncated_got (Err e) = refused_as e
