-- UUIDs that were read, as numbers, with the position after them.
use Rattle.std.specs.Prelude.{replicate, Result, Ok, Err}
use Rattle.octets.specs.Error.{number_of}
use Rattle.answers.specs.Got.{found, refused_as}
use Rattle.answers.specs.declared.got.Got.{Got}
use Rattle.basics.specs.declared.uuids.UuidRead.{UuidRead}
use Rattle.octets.specs.declared.bytes.ByteReader.{ByteReader}
use Rattle.octets.specs.declared.error.Error.{Error}
use Rattle.octets.specs.declared.uuid.Uuid16.{Uuid16}
use Rattle.octets.specs.declared.uuid.Uuid32.{Uuid32}
use Rattle.octets.specs.declared.uuid.Uuid128.{Uuid128}

abbrev pub uuid16_got : Result (Uuid16 × ByteReader) Error → Got
uuid16_got (Ok (uuid, next)) = found uuid.0 next.at
uuid16_got (Err e) = refused_as e

abbrev pub uuid32_got : Result (Uuid32 × ByteReader) Error → Got
uuid32_got (Ok (uuid, next)) = found uuid.0 next.at
uuid32_got (Err e) = refused_as e

abbrev pub uuid_said : Result (Uuid128 × ByteReader) Error → UuidRead
uuid_said (Ok (uuid, next)) = record { number = 0; octets = uuid.0; next = next.at }
uuid_said (Err e) = record { number = number_of e; octets = replicate 16 0; next = 0 }
