-- Lists of entries given as octets, 272 for each entry (drawn in src/scans.rt), on a fresh scanner.
--   with_next h next          == what a scanner says, and its next instant
--   listen_said u, hear_said s == what a scanner says when it listens anew, and of a packet
--   entry_after c s           == the scanner after the entry of octets c
--   entries_up_to s entries n  == the scanner after the first n entries
--   entries_after s entries   == the scanner after all entries
--   entry_said c list s       == what the entry of octets c answers, with a filter list
use Rattle.std.specs.Prelude.{cond, List, ℕ, zero, suc, ◌*◌, ◌/◌, eqb, length, get_or}
use Rattle.octets.specs.Bytes.{part_or}
use Rattle.channels.specs.Phy.{index_of}
use Rattle.beacon_spec.specs.Scanner.{configured, timer_updated, scanned}
use Rattle.beacon_spec.specs.State.{BeaconScanner, Scanned, Updated}
use Rattle.exports.specs.Air.{at, heard_said, says_nothing}
use Rattle.exports.specs.Lists.{time_in, interval_in, call_header, octets_in}
use Rattle.exports.specs.declared.air.Heard.{Heard}
use Rattle.exports.specs.declared.scans.Listened.{Listened}

abbrev pub with_next : Heard → ℕ → Listened
with_next h next =
    record {
      number = h.number;
      reported = h.reported;
      random = h.random;
      sender = h.sender;
      start = h.start;
      len = h.len;
      count = h.count;
      taken = h.taken;
      channel = h.channel;
      next = next;
    }

abbrev pub listen_said : Updated → Listened
listen_said u = with_next (says_nothing 0 (index_of u.cmd.channel)) u.cmd.next_update.0

abbrev pub hear_said : Scanned → Listened
hear_said s = with_next (heard_said s) 0

unfoldable pub entry_after : List ℕ → BeaconScanner → BeaconScanner
entry_after c s =
    cond (eqb (get_or c 0 0) 0) (configured s (at (time_in c)) (interval_in c)).scanner
    (cond (eqb (get_or c 0 0) 1) (timer_updated s (at (time_in c))).scanner s)

unfoldable pub entries_up_to : BeaconScanner → List ℕ → ℕ → BeaconScanner
entries_up_to s entries zero = s
entries_up_to s entries (suc i) = entry_after (part_or 272 entries (272 * i)) (entries_up_to s entries i)

unfoldable pub entries_after : BeaconScanner → List ℕ → BeaconScanner
entries_after s entries = entries_up_to s entries (length entries / 272)

unfoldable pub entry_said : List ℕ → List ℕ → BeaconScanner → Listened
entry_said c list s =
    cond (eqb (get_or c 0 0) 0) (listen_said (configured s (at (time_in c)) (interval_in c)))
    (cond (eqb (get_or c 0 0) 1) (listen_said (timer_updated s (at (time_in c))))
    (hear_said (scanned s (call_header c) (octets_in c) (eqb (get_or c 1 0) 1) list)))
