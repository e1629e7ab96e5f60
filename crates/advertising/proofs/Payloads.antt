-- What the functions that read a payload meet, over values: the area as the code takes it, and what the hub's decoder answers. Assumes nothing.
use Rattle.std.proofs.Common.{◌≡◌, ℕ, ◌-◌, true, false, List, length, take, drop, sym, ap, ◌∙◌, arith, length-drop, take_all}
use Rattle.std.specs.Prelude.{Ok, Err}
use Rattle.octets.specs.declared.error.Error.{Error}
use Rattle.records_spec.specs.HubReading.{read_padded}
use Rattle.addresses.specs.Header.{type_of}
use Rattle.addresses.specs.declared.header.Header.{Header}
use Rattle.advertising.specs.Padded.{uncounted}
use Rattle.advertising.specs.Pdu.{sender_of, no_address, no_request, pdu_as, decode_of, has_area, padded_of}
use Rattle.advertising.specs.declared.pdu.Pdu.{Pdu}
use Rattle.advertising.proofs.Padded.{hears, hears_not, heard_bare}

-- what follows n octets, as the code takes it
pub rest_of : (n : ℕ) (p : List ℕ) → take (length p - n) (drop n p) ≡ drop n p
rest_of n p = take_all (length p - n) (drop n p) (rw length-drop (omega arith))

-- what `from_padded` answers, by what it calls
module _ (h : Header) (p : List ℕ) where
  pub hears_records : (n taken : ℕ) → has_area h p ≡ true → Ok (n, taken) ≡ read_padded (take (length p - 6) (drop 6 p))
      → padded_of h p ≡ Ok (pdu_as (type_of h) (sender_of h p) no_address (record { start = 6; len = length p - 6; count = n }) no_request, taken)
  hears_records n taken there read = hears h p there n taken (ap read_padded (sym (rest_of 6 p)) ∙ sym read)

  pub refuses_records : (e : Error) → has_area h p ≡ true → Err e ≡ read_padded (take (length p - 6) (drop 6 p)) → padded_of h p ≡ Err e
  refuses_records e there read = hears_not h p there e (ap read_padded (sym (rest_of 6 p)) ∙ sym read)

  pub hears_bare : (d : Pdu) → has_area h p ≡ false → Ok d ≡ decode_of h p → padded_of h p ≡ Ok (d, 0)
  hears_bare d none is = heard_bare h p none ∙ ap uncounted (sym is)

  pub refuses_bare : (e : Error) → has_area h p ≡ false → Err e ≡ decode_of h p → padded_of h p ≡ Err e
  refuses_bare e none is = heard_bare h p none ∙ ap uncounted (sym is)
