-- What is given as numbers. The kinds of records count from 1 in the order of `AdStructure`.
--   filter_for filtered                        == the filter, by whether a list is in use
--   structure_in kind complete value start len == the record of these numbers
use Rattle.std.specs.Prelude.{Bool, cond, ℕ, ◌%◌, eqb}
use Rattle.addresses.specs.declared.filter.AddressFilter.{AddressFilter}
use Rattle.addresses.specs.declared.filter.AddressFilter.TheVariants.{AllowAll, Whitelist}
use Rattle.flags.specs.Flags.{named}
use Rattle.records_spec.specs.declared.ad_structure.AdStructure.{AdStructure}
use Rattle.records_spec.specs.declared.ad_structure.AdStructure.TheVariants as ad

abbrev pub filter_for : Bool → AddressFilter
filter_for filtered = cond filtered Whitelist AllowAll

unfoldable pub structure_in : ℕ → Bool → ℕ → ℕ → ℕ → AdStructure
structure_in kind complete value start len =
    cond (eqb kind 1) (ad.Flags (record { bits = named (value % 256) }))
    (cond (eqb kind 2) (ad.ServiceUuids16 complete start len)
    (cond (eqb kind 3) (ad.ServiceUuids32 complete start len)
    (cond (eqb kind 4) (ad.ServiceUuids128 complete start len)
    (cond (eqb kind 5) (ad.ServiceData16 value start len)
    (cond (eqb kind 6) (ad.CompleteLocalName start len)
    (cond (eqb kind 7) (ad.ShortenedLocalName start len)
    (cond (eqb kind 8) (ad.ManufacturerSpecificData (record { 0 = value }) start len)
    (ad.Unknown (value % 256) start len))))))))
