-- The lines of the log (document 01, hublog; document 02, Note 7), each a row of right-justified columns and the octet 0A.
--
--     report       | item number 6 | channel 3 | kind 2 | six octets, 4 each | records 3 | 0A |
--     last line    | items 6       | reports 6 | flag 2 | 0A |
--
--   sent_columns sender records          == a report's line after its first columns: the kind, the six octets, the records, and the octet 0A
--   report_line number c sender records  == the line of a report that was heard on channel c
--   bare_line number sender records      == the same without the channel, as document 01 has it
--   line number s                       == the line of what a scanner answers, or none; line_by number c r: of its report, heard on channel c
--   reports_in s                         == how many reports that is
--   line_size, last_size, shortest        == octets of a report's line, of the last line, and of the shortest item that is reported
--   room_for n                           == room for the lines of n octets of items
--   SentIn s item                       == where the sender of a report stands in its item
use Rattle.std.specs.Prelude.{◌≡◌, ℕ, ◌*◌, ◌/◌, ◌≤◌, cond, length, None, Some, Ok, Err}
use mathlib.Core.List.{List, [], ◌∷◌, ◌++◌, map, flatten}
use Rattle.octets.specs.Bytes.{part}
use Rattle.channels.specs.Phy.{index_of}
use Rattle.channels.specs.declared.phy.AdvertisingChannel.{AdvertisingChannel}
use Rattle.addresses.specs.Address.{kind_number}
use Rattle.addresses.specs.declared.device_address.DeviceAddress.{DeviceAddress}
use Rattle.beacon_spec.specs.Scanner.{is_report}
use Rattle.beacon_spec.specs.State.{Report, Scanned}
use Rattle.beacon_spec.specs.declared.beacon.Sighting.{Sighting}
use Rattle.columns.specs.Column.{column}

abbrev pub sent_columns : DeviceAddress → ℕ → List ℕ
sent_columns sender records = column 2 (kind_number sender.kind) ++ (flatten (map (column 4) sender.bytes) ++ (column 3 records ++ (10 ∷ [])))

-- Note 7: the channel's index stands "after the item number"
unfoldable pub report_line : ℕ → AdvertisingChannel → DeviceAddress → ℕ → List ℕ
report_line number c sender records = column 6 number ++ (column 3 (index_of c) ++ sent_columns sender records)

abbrev pub bare_line : ℕ → DeviceAddress → ℕ → List ℕ
bare_line number sender records = column 6 number ++ sent_columns sender records

-- the scanner answers with the channel that it listens on
abbrev pub line_by : ℕ → AdvertisingChannel → Report → List ℕ
line_by number c (Ok (Some x)) = report_line number c x.sender x.adv_data.count
line_by number c (Ok None) = []
line_by number c (Err e) = []

unfoldable pub line : ℕ → Scanned → List ℕ
line number s = line_by number s.channel s.report

unfoldable pub reports_in : Scanned → ℕ
reports_in s = cond (is_report s.report) 1 0

abbrev pub line_size : ℕ
line_size = 39

abbrev pub last_size : ℕ
last_size = 15

-- the shortest item that is reported has an octet, a header and an address
abbrev pub shortest : ℕ
shortest = 9

abbrev pub room_for : ℕ → ℕ
room_for n = line_size * (n / shortest)

-- after the item's first octet and the header
abbrev pub SentIn : Scanned → List ℕ → Type 0
SentIn s item = (x : Sighting) → s.report ≡ Ok (Some x) → (shortest ≤ length item) × (part 6 item 3 ≡ x.sender.bytes)
