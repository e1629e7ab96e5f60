-- Answers that are up to two numbers: a refusal's number (document 01), 0 where there is none.
--   found a b                 == the numbers a and b, and no refusal
--   refused_as e               == the number of the refusal e, and zeros
--   one_got r, two_got r        == one number, and two, or the refusal
--   flag_got r                 == 1 where it is so, 0 where not, or the refusal
--   written_got w, passed_got s == the position after a write, and after octets that were passed over, or the refusal
use Rattle.std.specs.Prelude.{Bool, cond, ℕ, Result, Ok, Err}
use Rattle.octets.specs.Error.{number_of}
use Rattle.octets.specs.declared.error.Error.{Error}
use Rattle.answers.specs.declared.got.Got.{Got}
use Rattle.octets.specs.declared.bytes.ByteReader.{ByteReader}
use Rattle.octets.specs.declared.bytes.ByteWriter.{ByteWriter}

abbrev pub found : ℕ → ℕ → Got
found a b = record { number = 0; first = a; second = b }

abbrev pub refused_as : Error → Got
refused_as e = record { number = number_of e; first = 0; second = 0 }

abbrev pub one_got : Result ℕ Error → Got
one_got (Ok a) = found a 0
one_got (Err e) = refused_as e

abbrev pub two_got : Result (ℕ × ℕ) Error → Got
two_got (Ok (a, b)) = found a b
two_got (Err e) = refused_as e

abbrev pub flag_got : Result Bool Error → Got
flag_got (Ok b) = found (cond b 1 0) 0
flag_got (Err e) = refused_as e

abbrev pub written_got : Result ByteWriter Error → Got
written_got (Ok next) = found next.at 0
written_got (Err e) = refused_as e

abbrev pub passed_got : Result ByteReader Error → Got
passed_got (Ok next) = found next.at 0
passed_got (Err e) = refused_as e
