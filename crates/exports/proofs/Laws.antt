-- The laws of the numbers and of a call's octets. Computed, but for numbers without a name, room, and a list that is bad. Assumes nothing.
use mathlib.Core.Bool.{Bool}
use mathlib.Core.List.{List, [], ◌∷◌, ◌++◌}
use mathlib.Core.Path.{◌≡◌, refl}
use Prim.Native.Nat.{ℕ, zero, suc, ◌+◌}
use native.Mathlib.Omega.{arith}
use borrow.Author.Tests.{le-leb, lt-leb, ne_eqb}
use lib.ListN.{length, get_or, replicate}
use Rattle.addresses.specs.declared.device_address.DeviceAddress.{DeviceAddress}
use Rattle.addresses.specs.declared.header.Header.{Header}
use Rattle.beacon_spec.specs.Scanner.{scanned}
use Rattle.beacon_spec.specs.State.{Beacon, BeaconScanner}
use Rattle.radio_spec.specs.State.{State}
use Rattle.exports.specs.Air.{scanner_with}
use Rattle.exports.specs.Lists.{call_in, Board, called_by, step_of}
use Rattle.exports.specs.Packets.{built_as}
use Rattle.exports.specs.Scans.{entry_after, entry_said}
use Rattle.exports.specs.Laws.{Heads, BuiltSays, SentSays, Updates, HeardSays, drawn, Drawn, Calls, Entries, Short, Buffers, LentBuffers, CalledSays}

pub heads : (h : Header) (tx rx : Bool) (n : ℕ) → Heads h tx rx n
heads h tx rx n =
    record {
      says = refl;
      says_none = λ e. refl;
      got = refl;
      not_got = λ e. refl;
      set_is = refl;
      parsed_set_law = refl;
      not_parsed = λ e. refl;
    }

pub builds : (a : DeviceAddress) (s : List ℕ) → BuiltSays a s
unfolding built_as
builds a s =
    record {
      which_0 = refl;
      which_1 = refl;
      which_2 = refl;
      which_3 = refl;
      which_4 = refl;
      above_4 = λ which more. rw (ne_eqb which 0 (λ e. omega arith), ne_eqb which 1 (λ e. omega arith), ne_eqb which 2 (λ e. omega arith), ne_eqb which 3 (λ e. omega arith), ne_eqb which 4 (λ e. omega arith));
      frame_is = λ number pdu. refl;
      built_is = λ pdu. refl;
      not_built = λ e. refl;
    }

pub sends : (b : Beacon) (tx : List ℕ) → SentSays b tx
sends b tx =
    record {
      transmits = λ h x y z. refl;
      not_sent_law = λ e. refl;
      sends = refl;
      writes = refl;
      not_made = λ r. refl;
      keeps = λ r. refl;
    }

pub updates : (filtered : Bool) (t interval : ℕ) → Updates filtered t interval
unfolding scanner_with
updates filtered t interval =
    record {
      none_yet = refl;
      once = refl;
      twice = refl;
      more = λ n more. rw (ne_eqb n 0 (λ e. omega arith), ne_eqb n 1 (λ e. omega arith), ne_eqb n 2 (λ e. omega arith));
      got = λ u. refl;
    }

pub hears : (s : BeaconScanner) (h : Header) (p list : List ℕ) (crcOk : Bool) → HeardSays s h p list crcOk
unfolding scanned
hears s h p list crcOk =
    record {
      says = λ x. refl;
      reports = λ x c. refl;
      nothing = λ c. refl;
      refuses = λ e c. refl;
      hears = refl;
      no_header = λ e good. rw good;
      bad_list = λ e bad. rw bad;
      next_is = λ x next. refl;
      listens = λ u. refl;
      heard = λ x. refl;
    }

pub drawn_is : (crc buffer n t₀ t₁ t₂ t₃ i₀ i₁ i₂ i₃ h₀ h₁ : ℕ) (s : List ℕ) (kind : ℕ) → Drawn crc buffer n t₀ t₁ t₂ t₃ i₀ i₁ i₂ i₃ h₀ h₁ s kind
drawn_is crc buffer n t₀ t₁ t₂ t₃ i₀ i₁ i₂ i₃ h₀ h₁ s kind =
    record {
      time_is = refl;
      interval_is = refl;
      header_is = rw (le-leb 14 (length (drawn crc buffer n t₀ t₁ t₂ t₃ i₀ i₁ i₂ i₃ h₀ h₁ s kind)) (omega arith));
      octets_are = λ r. rw (le-leb (14 + n) (length (drawn crc buffer n t₀ t₁ t₂ t₃ i₀ i₁ i₂ i₃ h₀ h₁ s kind)) (omega arith));
      octets_cut = λ r. rw (lt-leb (14 + n) (length (drawn crc buffer n t₀ t₁ t₂ t₃ i₀ i₁ i₂ i₃ h₀ h₁ s kind)) (omega arith));
      buffer_1 = λ e. rw e;
      buffer_other = λ e. ne_eqb buffer 1 e;
    }

pub calls : (crc buffer n t₀ t₁ t₂ t₃ i₀ i₁ i₂ i₃ h₀ h₁ : ℕ) (s : List ℕ) (tx : List ℕ) → Calls crc buffer n t₀ t₁ t₂ t₃ i₀ i₁ i₂ i₃ h₀ h₁ s tx
unfolding call_in
calls crc buffer n t₀ t₁ t₂ t₃ i₀ i₁ i₂ i₃ h₀ h₁ s tx =
    record {
      kind_0 = refl;
      kind_1 = refl;
      kind_2 = refl;
      kind_3 = refl;
      kind_4 = refl;
      kind_5 = refl;
      above_5 = λ kind more. rw (ne_eqb kind 0 (λ e. omega arith), ne_eqb kind 1 (λ e. omega arith), ne_eqb kind 2 (λ e. omega arith), ne_eqb kind 3 (λ e. omega arith), ne_eqb kind 5 (λ e. omega arith));
    }

pub entries : (crc buffer n t₀ t₁ t₂ t₃ i₀ i₁ i₂ i₃ h₀ h₁ : ℕ) (s : List ℕ) (list : List ℕ) (x : BeaconScanner) → Entries crc buffer n t₀ t₁ t₂ t₃ i₀ i₁ i₂ i₃ h₀ h₁ s list x
unfolding entry_after entry_said
entries crc buffer n t₀ t₁ t₂ t₃ i₀ i₁ i₂ i₃ h₀ h₁ s list x =
    record {
      kind_0 = refl;
      kind_1 = refl;
      above_1 = λ kind more. rw (ne_eqb kind 0 (λ e. omega arith), ne_eqb kind 1 (λ e. omega arith));
      after_0 = refl;
      after_1 = refl;
      after_packet = λ kind more. rw (ne_eqb kind 0 (λ e. omega arith), ne_eqb kind 1 (λ e. omega arith));
    }

none_in_zeros : (k i : ℕ) → ◌≡◌ {A = ℕ} (get_or (replicate k 0) i 0) 0
none_in_zeros zero i = refl
none_in_zeros (suc k) zero = refl
none_in_zeros (suc k) (suc i) = none_in_zeros k i

zeros_after : (c : List ℕ) (k i : ℕ) → get_or (c ++ replicate k 0) i 0 ≡ get_or c i 0
zeros_after [] k i = none_in_zeros k i
zeros_after (x ∷ c) k zero = refl
zeros_after (x ∷ c) k (suc i) = zeros_after c k i

pub short : (tx list : List ℕ) (x : BeaconScanner) → Short tx list x
unfolding call_in entry_after entry_said
short tx list x =
    record {
      zeros_time = λ c k. rw (zeros_after c k 4, zeros_after c k 5, zeros_after c k 6, zeros_after c k 7);
      zeros_interval = λ c k. rw (zeros_after c k 8, zeros_after c k 9, zeros_after c k 10, zeros_after c k 11);
      zeros_buffer = λ c k. rw (zeros_after c k 2);
      no_time = refl;
      no_interval = refl;
      no_header = λ c few. rw (lt-leb 14 (length c) few);
      no_octets = λ c few. rw (lt-leb (14 + get_or c 3 0) (length c) few);
      no_buffer = refl;
      no_call = refl;
      kind_alone = (refl, (refl, (refl, refl)));
      no_packet = refl;
      no_entry = refl;
      after_none = refl;
      update_alone = refl;
      nothing_heard = refl;
    }

pub buffers : (d : State) (out : List ℕ) → Buffers d out
buffers d out =
    record {
      after_start = λ t i records tx. refl;
      after_tick = λ tx. refl;
      after_packet = λ end h p crc_good tx. refl;
      after_event = refl;
      after_stop = refl;
      after_set = λ records. refl;
    }

pub lends : (c : List ℕ) (s : Board) → LentBuffers c s
unfolding called_by step_of
lends c s =
    record {
      second_lent = λ e. rw e;
      second_written = λ e. rw e;
      first_lent = λ e. rw e;
      first_written = λ e. rw e;
    }

pub says : (adv conn : Bool) → CalledSays adv conn
says adv conn =
    record {
      refused = λ e. refl;
      sent = λ h c t. refl;
      listen = λ c. refl;
      respond = λ h c. refl;
      first_event = λ c t access crc. refl;
      next_event = λ c. refl;
      stopped = refl;
      scan_data_set = refl;
      mode_after_law = λ c. refl;
    }
