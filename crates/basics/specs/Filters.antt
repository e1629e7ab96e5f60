-- The filter of a scanner by whether a list is in use.
use Rattle.addresses.specs.declared.filter.AddressFilter.{AddressFilter}
use Rattle.addresses.specs.declared.filter.ScanFilter.{ScanFilter}

abbrev pub scan_filter_of : AddressFilter → ScanFilter
scan_filter_of f = record { scan = f }
