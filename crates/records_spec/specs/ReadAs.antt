-- What a record is read as, by its octets and wherever it stands, in document 01's words: "Flags (type `01`, undefined bits .. cleared), 16-bit lists (`02`
-- incomplete, `03` complete), otherwise type and data"; "zero length 2, too few octets 1, wrong Flags 2, odd list data 1". And what `read_known` reads type and
-- data on to.
--   WholeRecord s at           == the record at position `at` of s has a type, and all the octets that its length octet counts
--   ReadAs s at                (ReadAs.read_as)     what reading at position `at` of s finds
--   OfNoKind ty                == no kind has the type ty
--   read_further s ty start len == what `read_known` answers for data of type ty that take `len` octets at `start` of s
--   ReadLent s ty start len    == what that is, where these octets lie in s
--   ReadOnAs s ty start len    (ReadAs.read_on_as)  what that is, where they do and where they do not
use Rattle.std.specs.Prelude.{◌≡◌, true, false, List, ℕ, ◌+◌, ◌*◌, ◌-◌, ◌%◌, ◌<◌, ◌≤◌, length, get_or, Result, Ok, Some, None, Err}
use Rattle.octets.specs.declared.error.Error.TheVariants.{Eof, InvalidLength, InvalidValue}
use Rattle.octets.specs.Bytes.{part}
use Rattle.utf8.specs.Utf8.{is_utf8}
use Rattle.records_spec.specs.declared.ad_structure.AdStructure.{AdStructure}
use Rattle.records_spec.specs.declared.ad_structure.AdStructure.TheVariants.{Flags, ServiceUuids16, Unknown}
use Rattle.records_spec.specs.Record.{record_at, known_read}
use Rattle.records_spec.specs.Layout.{ListKind, NameKind, NumberKind}
use Rattle.octets.specs.declared.error.Error.{Error}

pub record WholeRecord (s : List ℕ) (at : ℕ) : Type 0 where
  pub some : 0 < get_or s at 0
  pub inside : at + 1 + get_or s at 0 ≤ length s

pub record ReadAs (s : List ℕ) (at : ℕ) : Type 0 where
  pub past : length s < at → record_at s at ≡ Err Eof
  pub end : at ≡ length s → record_at s at ≡ Ok None
  pub zero_length : at < length s → get_or s at 0 ≡ 0 → record_at s at ≡ Err InvalidLength
  pub too_few : at < length s → 0 < get_or s at 0 → length s < at + 1 + get_or s at 0 → record_at s at ≡ Err Eof
  -- by the type octet
  pub flags : WholeRecord s at → get_or s (at + 1) 0 ≡ 0x01 → get_or s at 0 ≡ 2 → record_at s at ≡ Ok (Some (Flags (record { bits = get_or s (at + 2) 0 % 32 }), at + 3))
  pub wrong_flags : WholeRecord s at → get_or s (at + 1) 0 ≡ 0x01 → (get_or s at 0 ≡ 2 → ⊥) → record_at s at ≡ Err InvalidLength
  pub incomplete : WholeRecord s at → get_or s (at + 1) 0 ≡ 0x02 → get_or s at 0 % 2 ≡ 1 → record_at s at ≡ Ok (Some (ServiceUuids16 false (at + 2) (get_or s at 0 - 1), at + 1 + get_or s at 0))
  pub complete : WholeRecord s at → get_or s (at + 1) 0 ≡ 0x03 → get_or s at 0 % 2 ≡ 1 → record_at s at ≡ Ok (Some (ServiceUuids16 true (at + 2) (get_or s at 0 - 1), at + 1 + get_or s at 0))
  pub odd_incomplete : WholeRecord s at → get_or s (at + 1) 0 ≡ 0x02 → get_or s at 0 % 2 ≡ 0 → record_at s at ≡ Err Eof
  pub odd_complete : WholeRecord s at → get_or s (at + 1) 0 ≡ 0x03 → get_or s at 0 % 2 ≡ 0 → record_at s at ≡ Err Eof
  pub other : WholeRecord s at → (get_or s (at + 1) 0 ≡ 0x01 → ⊥) → (get_or s (at + 1) 0 ≡ 0x02 → ⊥) → (get_or s (at + 1) 0 ≡ 0x03 → ⊥)
      → record_at s at ≡ Ok (Some (Unknown (get_or s (at + 1) 0) (at + 2) (get_or s at 0 - 1), at + 1 + get_or s at 0))

-- a type that no kind has
pub record OfNoKind (ty : ℕ) : Type 0 where
  pub not_flags : ty ≡ 0x01 → ⊥
  pub not_list : (size : ℕ) (kind : ℕ → ℕ → AdStructure) → ListKind ty size kind → ⊥
  pub not_name : (kind : ℕ → ℕ → AdStructure) → NameKind ty kind → ⊥
  pub not_number : (kind : ℕ → ℕ → ℕ → AdStructure) → NumberKind ty kind → ⊥

abbrev pub read_further : List ℕ → ℕ → ℕ → ℕ → Result AdStructure Error
read_further s ty start len = known_read (Unknown ty start len) s

-- "name not UTF-8" 3; "a field .. needs more octets than there are" 1; "otherwise type and data"
pub record ReadLent (s : List ℕ) (ty start len : ℕ) : Type 0 where
  pub flags : ty ≡ 0x01 → len ≡ 1 → read_further s ty start len ≡ Ok (Flags (record { bits = get_or s start 0 % 32 }))
  pub wrong_flags : ty ≡ 0x01 → (len ≡ 1 → ⊥) → read_further s ty start len ≡ Err InvalidLength
  pub list : (size : ℕ) (kind : ℕ → ℕ → AdStructure) → ListKind ty size kind → len % size ≡ 0 → read_further s ty start len ≡ Ok (kind start len)
  pub broken_list : (size : ℕ) (kind : ℕ → ℕ → AdStructure) → ListKind ty size kind → (len % size ≡ 0 → ⊥) → read_further s ty start len ≡ Err Eof
  pub name : (kind : ℕ → ℕ → AdStructure) → NameKind ty kind → is_utf8 (part len s start) ≡ true → read_further s ty start len ≡ Ok (kind start len)
  pub bad_name : (kind : ℕ → ℕ → AdStructure) → NameKind ty kind → is_utf8 (part len s start) ≡ false → read_further s ty start len ≡ Err InvalidValue
  pub number : (kind : ℕ → ℕ → ℕ → AdStructure) → NumberKind ty kind → 2 ≤ len → read_further s ty start len ≡ Ok (kind (get_or s start 0 + 256 * get_or s (start + 1) 0) (start + 2) (len - 2))
  pub short_number : (kind : ℕ → ℕ → ℕ → AdStructure) → NumberKind ty kind → len < 2 → read_further s ty start len ≡ Err Eof
  pub other : OfNoKind ty → read_further s ty start len ≡ Ok (Unknown ty start len)

pub record ReadOnAs (s : List ℕ) (ty start len : ℕ) : Type 0 where
  pub not_lent : length s < start + len → read_further s ty start len ≡ Err Eof
  pub lent : start + len ≤ length s → ReadLent s ty start len
