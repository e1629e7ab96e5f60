use Rattle.std.proofs.Common.{◌≡◌, ◌+◌, ◌-◌, drop, ℕ, true, List}
use Rattle.octets.specs.Bytes.{has}
use Rattle.records_spec.specs.Record.{kind_read, known_read, lent_read}
use mathlib.Core.Path.{refl, sym, ◌∙◌}
use native.Mathlib.Omega.{arith}
use lib.ListN.{take}
use Rattle.records_spec.specs.declared.ad_structure.AdStructure.{AdStructure}
use Rattle.records.proofs.ad_structure.read_known.Goals as goal
use Rattle.records_spec.specs.declared.ad_structure.AdStructure.TheVariants as ad
use Rattle.std.specs.Prelude.{Result, Ok}
use Rattle.octets.specs.declared.error.Error.{Error}

-- a record that has a kind of its own is read no further
kept : (a : AdStructure) (s : List ℕ) → ((ty start len : ℕ) → a ≡ ad.Unknown ty start len → ⊥) → Ok a ≡ known_read a s
unfolding known_read
kept (ad.Flags f) s is = refl
kept (ad.ServiceUuids16 complete start len) s is = refl
kept (ad.ServiceUuids32 complete start len) s is = refl
kept (ad.ServiceUuids128 complete start len) s is = refl
kept (ad.ServiceData16 uuid start len) s is = refl
kept (ad.CompleteLocalName start len) s is = refl
kept (ad.ShortenedLocalName start len) s is = refl
kept (ad.ManufacturerSpecificData company start len) s is = refl
kept (ad.Unknown ty start len) s is = absurd (is ty start len refl)

data-read : (ty : ℕ) (s : List ℕ) (start len : ℕ) {r : Result AdStructure Error} → has len s start ≡ true → r ≡ kind_read ty (take (start + len - start) (drop start s)) start
    → r ≡ lent_read ty s start len
unfolding lent_read
data-read ty s start len there e =
    let size : start + len - start ≡ len = omega arith in
    rw there (rw size at e)

pub returns-then-has_octets : goal.returns-then-has_octets
unfolding known_read
returns-then-has_octets c = rw c.in-Unknown.is (data-read _ _ _ _ (sym c.has_octets.ensures ∙ c.if-has_octets.true) c.read_kind.ensures)

pub returns-else-has_octets : goal.returns-else-has_octets
unfolding known_read lent_read
returns-else-has_octets c = rw (c.in-Unknown.is, ← c.has_octets.ensures, c.if-has_octets.false)

pub returns-in_default : goal.returns-in_default
returns-in_default c = kept _ _ c.in_default.not-Unknown
