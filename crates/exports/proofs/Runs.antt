-- A list of calls goes by call after call, and a scanner's list by entry after entry: what follows a whole number of 272 octets changes nothing of what they do.
-- Assumes nothing.
use mathlib.Core.List.{List, ◌++◌}
use mathlib.Core.Path.{◌≡◌, refl, sym, ap, ◌∙◌}
use Prim.Native.Nat.{ℕ, zero, suc, ◌+◌, ◌*◌, ◌/◌, ◌≤◌, ◌<◌}
use native.Mathlib.Omega.{arith}
use borrow.Author.Tests.{le-leb}
use lib.ListN.{length, take, drop, length-append, length-drop}
use lib.Seq.{take_all, take-append-le, drop-append-le, drop-append_seam}
use Rattle.octets.specs.Bytes.{part_or}
use Rattle.addresses.specs.declared.device_address.DeviceAddress.{DeviceAddress}
use Rattle.beacon_spec.specs.State.{BeaconScanner}
use Rattle.radio_spec.specs.Calls.{fresh}
use Rattle.exports.specs.Lists.{Board, board_of, step_of, ran, ran_all}
use Rattle.exports.specs.Scans.{entry_after, entries_up_to, entries_after}
use Rattle.exports.specs.Laws.{CallByCall, EntryByEntry}

-- a part of what is in front, and the part that follows it
part_front : (l more : List ℕ) (i : ℕ) → 272 * suc i ≤ length l → part_or 272 (l ++ more) (272 * i) ≡ part_or 272 l (272 * i)
part_front l more i r =
    let long : part_or 272 (l ++ more) (272 * i) ≡ take 272 (drop (272 * i) (l ++ more)) = rw (le-leb (272 * i + 272) (length (l ++ more)) (omega (arith, length-append l more))) in
    let short : take 272 (drop (272 * i) l) ≡ part_or 272 l (272 * i) = rw (le-leb (272 * i + 272) (length l) (omega arith)) in
    long ∙ ap (take 272) (drop-append-le (272 * i) l more (omega arith)) ∙ take-append-le 272 (drop (272 * i) l) more (omega (arith, length-drop (272 * i) l)) ∙ short

part_next : (l more : List ℕ) (n : ℕ) → length l ≡ 272 * n → length more ≡ 272 → part_or 272 (l ++ more) (272 * n) ≡ more
part_next l more n e f =
    let long : part_or 272 (l ++ more) (272 * n) ≡ take 272 (drop (272 * n) (l ++ more)) = rw (le-leb (272 * n + 272) (length (l ++ more)) (omega (arith, length-append l more))) in
    long ∙ ap (λ (k : ℕ). take 272 (drop k (l ++ more))) (sym e) ∙ ap (take 272) (drop-append_seam l more) ∙ take_all 272 more (omega arith)

ran_front : (s : Board) (l more : List ℕ) (i : ℕ) → 272 * i ≤ length l → ran s (l ++ more) i ≡ ran s l i
unfolding ran
ran_front s l more zero r = refl
ran_front s l more (suc i) r = λ j. step_of (part_front l more i r j) (ran_front s l more i (omega arith) j)

entries_front : (s : BeaconScanner) (l more : List ℕ) (i : ℕ) → 272 * i ≤ length l → entries_up_to s (l ++ more) i ≡ entries_up_to s l i
unfolding entries_up_to
entries_front s l more zero r = refl
entries_front s l more (suc i) r = λ j. entry_after (part_front l more i r j) (entries_front s l more i (omega arith) j)

whole : (l more : List ℕ) (n : ℕ) → length l ≡ 272 * n → length more ≡ 272 → length (l ++ more) / 272 ≡ suc n
whole l more n e f = omega (arith, length-append l more)

cut : (l more : List ℕ) (n : ℕ) → length l ≡ 272 * n → length more < 272 → length (l ++ more) / 272 ≡ n
cut l more n e f = omega (arith, length-append l more)

of_all : (l : List ℕ) (n : ℕ) → length l ≡ 272 * n → length l / 272 ≡ n
of_all l n e = omega arith

pub call_by_call : (own : DeviceAddress) (calls more a b : List ℕ) (n : ℕ) → CallByCall own calls more a b n
unfolding ran ran_all
call_by_call own calls more a b n =
    let s : Board = board_of (fresh own) a b in
    record {
      none_yet = refl;
      one_more =
          λ e f.
          ap (ran s (calls ++ more)) (whole calls more n e f)
          ∙ (λ j. step_of (part_next calls more n e f j) (ran_front s calls more n (omega arith) j))
          ∙ ap (λ (k : ℕ). step_of more (ran s calls k)) (sym (of_all calls n e));
      cut_off = λ e f. ap (ran s (calls ++ more)) (cut calls more n e f) ∙ ran_front s calls more n (omega arith) ∙ ap (ran s calls) (sym (of_all calls n e));
    }

pub entry_by_entry : (s : BeaconScanner) (entries more : List ℕ) (n : ℕ) → EntryByEntry s entries more n
unfolding entries_up_to entries_after
entry_by_entry s entries more n =
    record {
      none_yet = refl;
      one_more =
          λ e f.
          ap (entries_up_to s (entries ++ more)) (whole entries more n e f)
          ∙ (λ j. entry_after (part_next entries more n e f j) (entries_front s entries more n (omega arith) j))
          ∙ ap (λ (k : ℕ). entry_after more (entries_up_to s entries k)) (sym (of_all entries n e));
      cut_off =
          λ e f. ap (entries_up_to s (entries ++ more)) (cut entries more n e f) ∙ entries_front s entries more n (omega arith) ∙ ap (entries_up_to s entries) (sym (of_all entries n e));
    }
