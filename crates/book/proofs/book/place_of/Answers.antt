-- The first of the filled seats that is the address.
use Rattle.std.proofs.Common.{rules, ◌≡◌, ◌+◌, ◌<◌, ◌&&◌, ℕ, zero, suc, List, [], ◌∷◌, Bool, true, false, length, take, refl, sym, ◌∙◌, nat_eq, arith}
use Rattle.std.proofs.lemmas.Iterator.{YieldsList-from_slice, YieldsList-from_take, IsFirst-from_position}
use Rattle.std.specs.Prelude.{Option, Some, None}
use Rattle.std.specs.List.{AllWithin, HoldsAt}
use Rattle.std.specs.Option.{MatchOption}
use lib.Pointwise.{pointwise}
use denote.Enum.Bare.{sameb}
use Rattle.addresses.specs.contracts.device_address.AddressKind.{the_type}
use Rattle.addresses.specs.Address.{same_address}
use Rattle.addresses.specs.declared.device_address.DeviceAddress.{DeviceAddress}
use Rattle.addresses.proofs.Addresses.{compared}
use Rattle.book_spec.specs.Book.{seat_number_from, seat_number}
use Rattle.book.specs.State.{number_in}
use Rattle.book.proofs.book.place_of.Goals as goal

-- what `==` of two addresses tests
abbrev is : DeviceAddress → DeviceAddress → Bool
is a x = pointwise nat_eq x.bytes a.bytes && sameb the_type x.kind a.kind

abbrev Is : DeviceAddress → DeviceAddress → Type 0
Is a x = is a x ≡ true

abbrev Other : DeviceAddress → DeviceAddress → Type 0
Other a x = is a x ≡ false

none : (a : DeviceAddress) (k : ℕ) (seats : List DeviceAddress) → AllWithin (Other a) seats 0 (length seats) → 0 ≡ seat_number_from a k seats
unfolding seat_number_from
none a k [] all = refl
none a k (x ∷ seats) all =
    let other : same_address x a ≡ false = sym (compared x a) ∙ all 0 x (omega arith) (omega arith) in
    rw other (none a (k + 1) seats (λ i d low high. all (suc i) d (omega arith) (omega arith)))

first : (a : DeviceAddress) (k i : ℕ) (seats : List DeviceAddress) → i < length seats → HoldsAt (Is a) seats i → AllWithin (Other a) seats 0 i → k + i + 1 ≡ seat_number_from a k seats
unfolding seat_number_from
first a k i [] inside found before = absurd (omega arith)
first a k zero (x ∷ seats) inside found before =
    let this : same_address x a ≡ true = sym (compared x a) ∙ found x in
    rw this (omega arith)
first a k (suc i) (x ∷ seats) inside found before =
    let other : same_address x a ≡ false = sym (compared x a) ∙ before 0 x (omega arith) (omega arith) in
    let next : k + suc i + 1 ≡ k + 1 + i + 1 = omega arith in
    rw other (next ∙ first a (k + 1) i seats (omega arith) (λ d. found d) (λ j d low high. before (suc j) d (omega arith) (omega arith)))

told : (a : DeviceAddress) (seats : List DeviceAddress) (r : Option ℕ) → MatchOption r (AllWithin (Other a) seats 0 (length seats)) (λ i. (i < length seats) × HoldsAt (Is a) seats i × AllWithin (Other a) seats 0 i)
    → number_in r ≡ seat_number a seats
told a seats None all = none a 0 seats all
told a seats (Some i) found = let from : 0 + i + 1 ≡ i + 1 = omega arith in sym from ∙ first a 0 i seats found.0 found.1 found.2

pub returns-clause-number : goal.returns-clause-number
returns-clause-number c =
    let a = c.args.address in
    let xs = c.args.addresses.now in
    told a (take c.args.filled xs) c.position.result
    (IsFirst-from_position _ _ _ (Is a) (Other a) c.position.ensures.ran (YieldsList-from_take c.args.filled (YieldsList-from_slice xs cc) c.take.ensures.count) (λ x q k. search rules) (λ x q k. search rules))
