-- Beacons and scanners as numbers.
--   not_sent e                                 == the number of the refusal e, and zeros
--   broadcast_sent b                           == what is transmitted: the header and the three channels, or the refusal
--   beacon_sent made tx, beacon_after made tx   == what is transmitted of a beacon that was made, or not, and the transmit buffer afterwards
--   updated t u, updated_times n t u           == a scanner after one more timer update at time t, and after up to 3
--   at t                                      == the instant t
--   scanner_with f t i n                       == a scanner with a filter or without, configured at time t with interval i, after up to 3 timer updates then
--   updated_got u                              == the channel on which a scanner listens, and its next instant
--   no_sighting                                == a beacon that is blank; sighting_of r: the one that a report has, blank where it has none
--   report_said r channel                      == the numbers of a report, of none, or of a refusal
--   heard_said s                               == the numbers of what a scanner says of a packet
--   says_nothing number channel                == a number and a channel, and zeros for what would be reported
--   unheard e                                 == the number of the refusal e, and zeros
--   judged_by r s e                            == the refusal of a filter list where the report r is one, and otherwise the refusal e of a header
--   headless_of s list e                       == what a scanner says of a packet whose header was refused with e: a bad filter list is told first
--   heard_from s made p crc l                  == what a scanner says of a packet whose header was made, or not
use Rattle.std.specs.Prelude.{Bool, false, cond, List, [], ◌∷◌, map, get_or, ℕ, eqb, Result, Ok, Err, Option, Some, None}
use Rattle.octets.specs.Error.{number_of}
use Rattle.octets.specs.declared.error.Error.{Error}
use Rattle.octets.specs.declared.time.Instant.{Instant}
use Rattle.channels.specs.Phy.{index_of}
use Rattle.channels.specs.declared.phy.AdvertisingChannel.{AdvertisingChannel}
use Rattle.addresses.specs.Address.{is_random}
use Rattle.addresses.specs.Header.{header_of}
use Rattle.answers.specs.Given.{filter_for}
use Rattle.advertising.specs.Pdu.{no_address, no_data}
use Rattle.advertising.specs.PduBuf.{payload_after}
use Rattle.beacon_spec.specs.Scanner.{scanner_of, configured, timer_updated, scanned, report_number, is_report}
use Rattle.beacon_spec.specs.Sending.{broadcast_of}
use Rattle.beacon_spec.specs.State.{Beacon, Refusal, BeaconScanner, Scanned, Updated}
use Rattle.beacon_spec.specs.declared.beacon.Sighting.{Sighting}
use Rattle.answers.specs.Got.{found}
use Rattle.exports.specs.declared.air.Heard.{Heard}
use Rattle.exports.specs.declared.air.Sent.{Sent}
use Rattle.answers.specs.declared.got.Got.{Got}
use Rattle.addresses.specs.declared.header.Header.{Header}

abbrev pub not_sent : Error → Sent
not_sent e = record { number = number_of e; header = 0; first = 0; second = 0; third = 0 }

abbrev pub broadcast_sent : Result (Header × List AdvertisingChannel) Error → Sent
broadcast_sent (Ok (h, cs)) =
    record { number = 0; header = h.0; first = get_or (map index_of cs) 0 0; second = get_or (map index_of cs) 1 0; third = get_or (map index_of cs) 2 0 }
broadcast_sent (Err e) = not_sent e

abbrev pub beacon_sent : Result Beacon Refusal → List ℕ → Sent
beacon_sent (Ok b) tx = broadcast_sent (broadcast_of b tx)
beacon_sent (Err r) tx = not_sent r.error

abbrev pub beacon_after : Result Beacon Refusal → List ℕ → List ℕ
beacon_after (Ok b) tx = payload_after b.pdu tx
beacon_after (Err r) tx = tx

-- one more update
abbrev pub updated : Instant → Updated → Updated
updated t u = timer_updated u.scanner t

abbrev pub updated_times : ℕ → Instant → Updated → Updated
updated_times n t u =
    cond (eqb n 0) u
    (cond (eqb n 1) (updated t u)
    (cond (eqb n 2) (updated t (updated t u))
    (updated t (updated t (updated t u)))))

abbrev pub at : ℕ → Instant
at t = record { 0 = t }

unfoldable pub scanner_with : Bool → ℕ → ℕ → ℕ → Updated
scanner_with filtered t interval n = updated_times n (at t) (configured (scanner_of (filter_for filtered)) (at t) interval)

abbrev pub updated_got : Updated → Got
updated_got u = found (index_of u.cmd.channel) u.cmd.next_update.0

abbrev pub says_nothing : ℕ → ℕ → Heard
says_nothing number channel =
    record { number = number; reported = false; random = false; sender = 0 ∷ 0 ∷ 0 ∷ 0 ∷ 0 ∷ 0 ∷ []; start = 0; len = 0; count = 0; taken = 0; channel = channel }

abbrev pub no_sighting : Sighting
no_sighting = record { sender = no_address; adv_data = no_data; taken = 0 }

abbrev pub sighting_of : Result (Option Sighting) Error → Sighting
sighting_of (Ok (Some x)) = x
sighting_of (Ok None) = no_sighting
sighting_of (Err e) = no_sighting

abbrev pub report_said : Result (Option Sighting) Error → ℕ → Heard
report_said r channel =
    record {
      number = report_number r;
      reported = is_report r;
      random = is_random (sighting_of r).sender.kind;
      sender = (sighting_of r).sender.bytes;
      start = (sighting_of r).adv_data.start;
      len = (sighting_of r).adv_data.len;
      count = (sighting_of r).adv_data.count;
      taken = (sighting_of r).taken;
      channel = channel;
    }

abbrev pub heard_said : Scanned → Heard
heard_said s = report_said s.report (index_of s.channel)

abbrev pub unheard : Error → Heard
unheard e = says_nothing (number_of e) 0

-- "a filter list or name first (3)": without a header the scanner judges its list alone
abbrev pub judged_by : Result (Option Sighting) Error → Scanned → Error → Heard
judged_by (Ok r) s e = unheard e
judged_by (Err x) s e = heard_said s

abbrev pub headless_of : BeaconScanner → List ℕ → Error → Heard
headless_of s list e = judged_by (scanned s (header_of 0) [] false list).report (scanned s (header_of 0) [] false list) e

abbrev pub heard_from : BeaconScanner → Result Header Error → List ℕ → Bool → List ℕ → Heard
heard_from s (Ok h) p crcOk list = heard_said (scanned s h p crcOk list)
heard_from s (Err e) p crcOk list = headless_of s list e
