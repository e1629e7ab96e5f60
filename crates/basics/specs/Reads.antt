-- What was read, as numbers: a refusal's number (document 01), or 0, what was read, and the position after it.
--   left_got left empty                  == how many octets are left, and 1 where there is none
--   value_got r                          == a number that was read
--   part_said r                          == a part that was read: where it lies, and its length
--   five_said r, six_said r              == five octets, and six, or zeros where they were refused
use Rattle.std.specs.Prelude.{Bool, cond, List, ℕ, replicate, Result, Ok, Err}
use Rattle.octets.specs.Error.{number_of}
use Rattle.octets.specs.declared.bytes.Part as octets
use Rattle.answers.specs.Got.{found, refused_as}
use Rattle.answers.specs.declared.got.Got.{Got}
use Rattle.basics.specs.declared.reads.Five.{Five}
use Rattle.basics.specs.declared.reads.Part.{Part}
use Rattle.basics.specs.declared.reads.Six.{Six}
use Rattle.octets.specs.declared.bytes.ByteReader.{ByteReader}
use Rattle.octets.specs.declared.error.Error.{Error}

abbrev pub left_got : ℕ → Bool → Got
left_got left empty = found left (cond empty 1 0)

abbrev pub value_got : Result (ℕ × ByteReader) Error → Got
value_got (Ok (v, next)) = found v next.at
value_got (Err e) = refused_as e

abbrev pub part_said : Result (octets.Part × ByteReader) Error → Part
part_said (Ok (p, next)) = record { number = 0; start = p.start; len = p.len; next = next.at }
part_said (Err e) = record { number = number_of e; start = 0; len = 0; next = 0 }

abbrev pub five_said : Result (List ℕ × ByteReader) Error → Five
five_said (Ok (octets, next)) = record { number = 0; octets = octets; next = next.at }
five_said (Err e) = record { number = number_of e; octets = replicate 5 0; next = 0 }

abbrev pub six_said : Result (List ℕ × ByteReader) Error → Six
six_said (Ok (octets, next)) = record { number = 0; octets = octets; next = next.at }
six_said (Err e) = record { number = number_of e; octets = replicate 6 0; next = 0 }
