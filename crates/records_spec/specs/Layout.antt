-- The octets of a record of each kind: length, type, octets of its own, and then the lent ones (types: Assigned Numbers, 2.3; numbers least significant octet first: the Supplement, Part A, 1).
--   ListKind ty size kind     == type ty is that of a list of UUIDs of `size` octets each
--   NameKind ty kind          == type ty is that of a name
--   NumberKind ty kind        == type ty is that of data which begin with a number of two octets
--   Layout a ty own start len == a has type ty and the octets `own`, and lends `len` octets from `start` on
--   LaidOut ty own start len s at out   == so it stands at position `at` of out, its lent octets being those of s
use Rattle.std.specs.Prelude.{◌≡◌, true, false, List, [], ◌∷◌, ℕ, ◌+◌, ◌/◌, ◌%◌, ◌<◌, length, get_or}
use Rattle.flags.specs.declared.Flags.{Flags}
use Rattle.records_spec.specs.declared.ad_structure.AdStructure.{AdStructure}
use Rattle.records_spec.specs.declared.ad_structure.AdStructure.TheVariants as ad

pub data ListKind : ℕ → ℕ → (ℕ → ℕ → AdStructure) → Type 0 where
  incomplete16 : ListKind 0x02 2 (ad.ServiceUuids16 false)
  complete16 : ListKind 0x03 2 (ad.ServiceUuids16 true)
  incomplete32 : ListKind 0x04 4 (ad.ServiceUuids32 false)
  complete32 : ListKind 0x05 4 (ad.ServiceUuids32 true)
  incomplete128 : ListKind 0x06 16 (ad.ServiceUuids128 false)
  complete128 : ListKind 0x07 16 (ad.ServiceUuids128 true)

pub data NameKind : ℕ → (ℕ → ℕ → AdStructure) → Type 0 where
  shortened_name : NameKind 0x08 ad.ShortenedLocalName
  complete_name : NameKind 0x09 ad.CompleteLocalName

pub data NumberKind : ℕ → (ℕ → ℕ → ℕ → AdStructure) → Type 0 where
  service_data : NumberKind 0x16 ad.ServiceData16
  company_data : NumberKind 0xFF (λ number. ad.ManufacturerSpecificData (record { 0 = number }))

pub data Layout : AdStructure → ℕ → List ℕ → ℕ → ℕ → Type 0 where
  flags : {f : Flags} → Layout (ad.Flags f) 0x01 (f.bits % 32 ∷ []) 0 0
  list : {ty size start len : ℕ} {kind : ℕ → ℕ → AdStructure} → ListKind ty size kind → Layout (kind start len) ty [] start len
  name : {ty start len : ℕ} {kind : ℕ → ℕ → AdStructure} → NameKind ty kind → Layout (kind start len) ty [] start len
  number : {ty n start len : ℕ} {kind : ℕ → ℕ → ℕ → AdStructure} → NumberKind ty kind → Layout (kind n start len) ty (n % 256 ∷ n / 256 % 256 ∷ []) start len
  other : {ty start len : ℕ} → Layout (ad.Unknown ty start len) ty [] start len

-- the length octet counts the type too
pub record LaidOut (ty : ℕ) (own : List ℕ) (start len : ℕ) (s : List ℕ) (at : ℕ) (out : List ℕ) : Type 0 where
  pub counted : get_or out at 0 ≡ 1 + (length own + len)
  pub type : get_or out (at + 1) 0 ≡ ty
  pub its_own : (j : ℕ) → j < length own → get_or out (at + 2 + j) 0 ≡ get_or own j 0
  pub lent : (j : ℕ) → j < len → get_or out (at + 2 + length own + j) 0 ≡ get_or s (start + j) 0
