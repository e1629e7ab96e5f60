-- The outline that the code writes a record by says what the record is.
--   ByOutline a o              == writing by an outline of a record is writing the record
--   LentOutlines start len     == the outlines of the kinds that have no octets of their own
use Rattle.std.specs.Prelude.{◌≡◌, true, false, List, ℕ}
use Rattle.records_spec.specs.declared.ad_structure.AdStructure.{AdStructure}
use Rattle.records_spec.specs.declared.ad_structure.AdStructure.TheVariants.{ServiceUuids16, ServiceUuids32, ServiceUuids128, CompleteLocalName, ShortenedLocalName, Unknown}
use Rattle.records_spec.specs.Write.{Outline, units_check, name_check, no_check, lent_outline, IsOutline, lent_to, lent_after, written_to, written_after}
use Rattle.records_spec.specs.Order.{Lends, lent_octets}

pub record ByOutline (a : AdStructure) (o : Outline) : Type 0 where
  pub answers : (s out : List ℕ) (at : ℕ) → Lends a s → lent_to o (lent_octets a s) out at ≡ written_to a s out at
  pub after : (s out : List ℕ) (at : ℕ) → Lends a s → lent_after o (lent_octets a s) out at ≡ written_after a s out at

abbrev pub WrittenByOutline : Type 0
WrittenByOutline = (a : AdStructure) (o : Outline) → IsOutline a o → ByOutline a o

-- type octet; what the data must be: whole units of so many octets, a name, anything
pub record LentOutlines (start len : ℕ) : Type 0 where
  pub incomplete16 : IsOutline (ServiceUuids16 false start len) (lent_outline 0x02 start len (units_check 2))
  pub complete16 : IsOutline (ServiceUuids16 true start len) (lent_outline 0x03 start len (units_check 2))
  pub incomplete32 : IsOutline (ServiceUuids32 false start len) (lent_outline 0x04 start len (units_check 4))
  pub complete32 : IsOutline (ServiceUuids32 true start len) (lent_outline 0x05 start len (units_check 4))
  pub incomplete128 : IsOutline (ServiceUuids128 false start len) (lent_outline 0x06 start len (units_check 16))
  pub complete128 : IsOutline (ServiceUuids128 true start len) (lent_outline 0x07 start len (units_check 16))
  pub shortened : IsOutline (ShortenedLocalName start len) (lent_outline 0x08 start len name_check)
  pub complete : IsOutline (CompleteLocalName start len) (lent_outline 0x09 start len name_check)
  pub other : (ty : ℕ) → IsOutline (Unknown ty start len) (lent_outline ty start len no_check)
