-- What of an area is searched for a name, and what is told where one of the two is refused. Assumes nothing.
use mathlib.Core.List.{List, []}
use mathlib.Core.Path.{◌≡◌, sym}
use Prim.Native.Nat.{ℕ}
use native.Mathlib.Omega.{arith}
use lib.ListN.{length, take, length-take}
use Rattle.octets.specs.declared.error.Error.{Error}
use Rattle.records_spec.specs.HubReading.{read_padded}
use Rattle.records_spec.proofs.HubReads.{before, took}
use Rattle.names_spec.specs.Name.{chosen, after_area, name_of}
use Rattle.std.specs.Prelude.{Ok, Err}

-- ---- areas that are read as the hub reads: what is searched of them
module _ (s : List ℕ) {n taken : ℕ} (is : read_padded s ≡ Ok (n, taken)) where
  -- the octets that the records took
  pub as_long : taken ≡ length (take taken s)
  as_long = rw length-take (omega (arith, (took s n taken is []).inside))

module _ (a r : List ℕ) where
  pub both_read : {n first m second : ℕ} → read_padded a ≡ Ok (n, first) → read_padded r ≡ Ok (m, second) → chosen (take first a) (take second r) ≡ name_of a r
  unfolding name_of after_area
  both_read is also = sym (rw (is, also, before a _ _ is, before r _ _ also))

  pub first_refused : {e : Error} → read_padded a ≡ Err e → Err e ≡ name_of a r
  unfolding name_of after_area
  first_refused is = rw is

  pub second_refused : {n first : ℕ} {e : Error} → read_padded a ≡ Ok (n, first) → read_padded r ≡ Err e → Err e ≡ name_of a r
  unfolding name_of after_area
  second_refused is also = rw (is, also)
