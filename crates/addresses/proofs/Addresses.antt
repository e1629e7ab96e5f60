-- The test of two addresses is equality, octets and kind, and what the code's `==` answers. Assumes nothing.
use Rattle.std.proofs.Common.{◌≡◌, Bool, ◌&&◌, nat_eq, refl, ap, arith}
use Rattle.std.specs.Str.{bytes_eq}
use Rattle.std.proofs.lemmas.Slice.Eq.{bytes_eq-Decides}
use lib.Dec.{eqb}
use lib.Pointwise.{pointwise}
use borrow.Author.Tests.{eq-eqb, eqb-true}
use denote.Enum.Bare.{sameb}
use Rattle.addresses.specs.contracts.device_address.AddressKind.{the_type}
use Rattle.addresses.specs.Address.{kind_number, same_address}
use Rattle.addresses.specs.Laws.{Equality}
use Rattle.addresses.specs.declared.device_address.AddressKind.{AddressKind}
use Rattle.addresses.specs.declared.device_address.AddressKind.TheVariants.{Public, Random}
use Rattle.addresses.specs.declared.device_address.DeviceAddress.{DeviceAddress}
use Rattle.octets.proofs.Places.{both_true}

pub one_kind : (k l : AddressKind) → kind_number k ≡ kind_number l → k ≡ l
one_kind Public Public e = refl
one_kind Public Random e = absurd (omega arith)
one_kind Random Public e = absurd (omega arith)
one_kind Random Random e = refl

pub equality : (a b : DeviceAddress) → Equality a b
unfolding same_address
equality a b =
    record {
      sound = λ e.
          let parts = both_true (bytes_eq a.bytes b.bytes) (eqb (kind_number a.kind) (kind_number b.kind)) e in
          let bytes = (bytes_eq-Decides a.bytes b.bytes).0 parts.0 in
          let kind = one_kind a.kind b.kind (eqb-true _ _ parts.1) in
          λ i. record { bytes = bytes i; kind = kind i };
      complete = λ e. rw (e, (bytes_eq-Decides b.bytes b.bytes).1 refl) (eq-eqb (kind_number b.kind) (kind_number b.kind) refl);
    }

kinds_compared : (k l : AddressKind) → sameb the_type k l ≡ eqb (kind_number k) (kind_number l)
kinds_compared Public Public = refl
kinds_compared Public Random = refl
kinds_compared Random Public = refl
kinds_compared Random Random = refl

-- `a == b` is that test
pub compared : (a b : DeviceAddress) → (pointwise nat_eq a.bytes b.bytes && sameb the_type a.kind b.kind) ≡ same_address a b
unfolding same_address
compared a b = ap (λ (t : Bool). bytes_eq a.bytes b.bytes && t) (kinds_compared a.kind b.kind)
