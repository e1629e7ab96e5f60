-- The laws of the numbers. Computed, but for the bits of an octet, room in a buffer, and three cycles or more. Assumes nothing.
use mathlib.Core.List.{List}
use mathlib.Core.Path.{◌≡◌, refl, ap}
use Prim.Native.Nat.{ℕ, ◌/◌, ◌%◌}
use native.Mathlib.Omega.{arith}
use borrow.Author.Tests.{le-leb, lt-leb, ne_eqb}
use lib.Dec.{eqb}
use Rattle.addresses.specs.declared.header.Header.{Header}
use Rattle.flags.specs.Flags.{named}
use Rattle.settings.specs.Settings.{Settings}
use Rattle.octets.specs.declared.bytes.ByteReader.{ByteReader}
use Rattle.octets.specs.declared.error.Error.{Error}
use Rattle.basics.specs.Areas.{structure_said}
use Rattle.basics.specs.Laws.{Areas, Structures, Readings, FlagsSay, Names, SettingsSay, PartsGot, Reads, Headers, Channels, CyclesGot, Filters}

pub areas : (at : ℕ) → Areas at
areas at =
    record {
      strict = λ n. refl;
      strict_refused = λ e. refl;
      as_hub_law = λ n taken. refl;
      as_hub_refused = λ e. refl;
      uuid_is = λ u next. refl;
      list_end = refl;
      uuid_refused = λ e. refl;
    }

pub structures : (next : ℕ) → Structures next
unfolding structure_said named
structures next =
    record {
      kind_1 = λ bits. refl;
      kind_2 = λ c s n. refl;
      kind_3 = λ c s n. refl;
      kind_4 = λ c s n. refl;
      kind_5 = λ u s n. refl;
      kind_6 = λ s n. refl;
      kind_7 = λ s n. refl;
      kind_8 = λ u s n. refl;
      kind_9 = λ t s n. refl;
      parsed_is = λ a. refl;
      parsed_refused = λ e. refl;
    }

pub readings : (s : List ℕ) → Readings s
unfolding structure_said
readings s =
    record {
      read_is = λ a next. refl;
      read_end = refl;
      read_refused = λ e. refl;
      known_is = λ a next. refl;
      known_end = refl;
      known_refused = λ e. refl;
    }

pub flags_say : (x : ℕ) → FlagsSay x
unfolding named
flags_say x =
    record {
      low_five = omega arith;
      bit_0 = let b : x % 32 / 1 % 2 ≡ x % 2 = omega arith in ap (λ n. eqb n 1) b;
      bit_1 = let b : x % 32 / 2 % 2 ≡ x / 2 % 2 = omega arith in ap (λ n. eqb n 1) b;
      bit_2 = let b : x % 32 / 4 % 2 ≡ x / 4 % 2 = omega arith in ap (λ n. eqb n 0) b;
      bit_3 = let b : x % 32 / 8 % 2 ≡ x / 8 % 2 = omega arith in ap (λ n. eqb n 1) b;
      bit_4 = let b : x % 32 / 16 % 2 ≡ x / 16 % 2 = omega arith in ap (λ n. eqb n 1) b;
    }

pub names : Names
names =
    record {
      in_reply_law = λ start len. refl;
      in_advertisement_law = λ start len. refl;
      name_refused = λ e. refl;
    }

pub taking : (s : Settings) → SettingsSay s
taking s =
    record {
      taken = refl;
      not_taken = λ e. refl;
    }

pub parts : (octets : List ℕ) (next : ByteReader) (e : Error) → PartsGot octets next e
parts octets next e =
    record {
      five = refl;
      not_five = refl;
      six = refl;
      not_six = refl;
      sixteen = refl;
      not_sixteen = refl;
    }

pub reads : Reads
reads =
    record {
      left = λ n. refl;
      spent = λ n. refl;
      part_is = λ start len next. refl;
      part_refused = λ e. refl;
      value_is = λ v next. refl;
      value_refused = λ e. refl;
      uuid16_is = λ v next. refl;
      uuid16_refused = λ e. refl;
      uuid32_is = λ v next. refl;
      uuid32_refused = λ e. refl;
      header_is = λ h next. refl;
      header_refused = λ e. refl;
      cut_to = λ n next. refl;
      cut_refused = λ e. refl;
    }

pub headers : (h : Header) (out : List ℕ) (at : ℕ) → Headers h out at
headers h out at =
    record {
      room = λ r. rw (le-leb _ _ r);
      no_room = λ r. rw (lt-leb _ _ r);
      after_is = refl;
      not_made = λ e. refl;
      after_not_made = λ e. refl;
    }

pub channels : Channels
channels =
    record {
      first_is = refl;
      second_is = refl;
      third_is = refl;
      data_is = λ c. refl;
      data_refused = λ e. refl;
      at_place = λ c. refl;
      at_place_refused = λ e. refl;
      hops_to = λ unmapped c. refl;
      hop_refused = λ e. refl;
    }

pub turns : CyclesGot
turns =
    record {
      none_yet = refl;
      once = refl;
      twice = refl;
      more = λ times more. rw (ne_eqb times 0 (λ e. omega arith), ne_eqb times 1 (λ e. omega arith), ne_eqb times 2 (λ e. omega arith));
    }

pub filters : Filters
filters = record { scan_by = λ f. refl }
