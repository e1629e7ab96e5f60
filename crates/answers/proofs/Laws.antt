-- The laws of the numbers. Computed, but for a kind that has no name. Assumes nothing.
use mathlib.Core.Bool.{Bool}
use mathlib.Core.Path.{◌≡◌, refl}
use Prim.Native.Nat.{ℕ, ◌%◌}
use native.Mathlib.Omega.{arith}
use borrow.Author.Tests.{ne_eqb}
use Rattle.flags.specs.Flags.{named}
use Rattle.records_spec.specs.declared.ad_structure.AdStructure.TheVariants as ad
use Rattle.advertising.specs.declared.pdu.Pdu.{Pdu}
use Rattle.answers.specs.Given.{structure_in}
use Rattle.answers.specs.Packet.{pdu_said}
use Rattle.answers.specs.Laws.{NumbersGot, Kinds, Passing, Packets, AccuracyCodes}

pub numbers : NumbersGot
numbers =
    record {
      two = λ a b. refl;
      not_found = λ e. refl;
      one = λ a. refl;
      not_one = λ e. refl;
      both = λ a b. refl;
      not_both = λ e. refl;
      so = refl;
      not_so = refl;
      not_told = λ e. refl;
      wrote = λ to. refl;
      not_written = λ e. refl;
      passed = λ to. refl;
      not_passed = λ e. refl;
    }

pub kinds : (complete : Bool) (value start len : ℕ) → Kinds complete value start len
unfolding structure_in named
kinds complete value start len =
    record {
      kind_1 = let low : value % 256 % 32 ≡ value % 32 = omega arith in λ i. ad.Flags (record { bits = low i });
      kind_2 = refl;
      kind_3 = refl;
      kind_4 = refl;
      kind_5 = refl;
      kind_6 = refl;
      kind_7 = refl;
      kind_8 = refl;
      kind_0 = refl;
      above_8 =
          λ kind above.
          rw (
            ne_eqb kind 1 (λ e. omega arith),
            ne_eqb kind 2 (λ e. omega arith),
            ne_eqb kind 3 (λ e. omega arith),
            ne_eqb kind 4 (λ e. omega arith),
            ne_eqb kind 5 (λ e. omega arith),
            ne_eqb kind 6 (λ e. omega arith),
            ne_eqb kind 7 (λ e. omega arith),
            ne_eqb kind 8 (λ e. omega arith),
          );
    }

pub passing : Passing
passing = record { in_use = refl; not_in_use = refl }

pub packets : (p : Pdu) → Packets p
unfolding pdu_said
packets p =
    record {
      number_is = refl;
      ty_is = refl;
      sender_random_is = refl;
      sender_is = refl;
      has_receiver_is = refl;
      receiver_random_is = refl;
      receiver_is = refl;
      start_is = refl;
      len_is = refl;
      count_is = refl;
      access_address_is = refl;
      crc_init_is = refl;
      win_size_is = refl;
      win_offset_is = refl;
      window_end_is = refl;
      interval_is = refl;
      latency_is = refl;
      timeout_is = refl;
      map_is = refl;
      map_count_is = refl;
      hop_is = refl;
      sca_is = refl;
      refused_is = λ e. refl;
    }

pub accuracies : AccuracyCodes
accuracies = record { in_order = refl }
