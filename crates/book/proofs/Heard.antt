-- The move of some octets; where a move that was found lies; and what a report answers by what was found. Assumes nothing.
use mathlib.Core.Bool.{true}
use mathlib.Core.List.{List, [], ◌∷◌, ◌++◌}
use mathlib.Core.Path.{◌≡◌, sym, ap, subst, ◌∙◌}
use Prim.Native.Nat.{ℕ, suc, ◌+◌, ◌-◌, ◌≤◌}
use native.Mathlib.Omega.{arith}
use lib.ListN.{length, get_or, take, drop, replicate, length-append}
use lib.Seq.{take-length}
use borrow.Author.Tests.{ne_eqb, eq-eqb, leb-true}
use Rattle.octets.specs.Bytes.{le}
use Rattle.octets.specs.declared.error.Error.{Error}
use Rattle.octets.proofs.Places.{both_true, drop_replicate}
use Rattle.addresses.specs.declared.device_address.DeviceAddress.{DeviceAddress}
use Rattle.records_spec.specs.HubReading.{read_padded}
use Rattle.records_spec.specs.Search.{searched, Decides, First, Stands, Told}
use Rattle.octets.specs.declared.bytes.Part.{Part}
use Rattle.records_spec.proofs.HubReads.{before}
use Rattle.records_spec.proofs.Search.{searching}
use Rattle.book_spec.specs.Book.{seat_number, seats_of, kept_at, taken, heard_as, report_call}
use Rattle.book_spec.specs.Moves.{move_of, is_move, move_in, heard_at}
use Rattle.book_spec.specs.State.{Book}
use Rattle.book_spec.specs.declared.Move.{Move}
use Rattle.std.specs.Prelude.{Ok, Err, Some, None}

-- ---- the octets of a move, written over zeros
pub over_zeros : (octets : List ℕ) {len : ℕ} {out : List ℕ} → len ≡ length octets → out ≡ take (length octets) octets ++ drop (length octets) (replicate 20 0)
    → record { len = len; octets = out } ≡ move_of octets
unfolding move_of
over_zeros octets {len} {out} size wrote =
    let is : out ≡ octets ++ replicate (20 - length octets) 0 = rw (← drop_replicate (length octets) 20) (wrote ∙ ap (λ (l : List ℕ). l ++ drop (length octets) (replicate 20 0)) (take-length octets)) in
    λ i. record { len = size i; octets = is i }

-- ---- where a move that was found lies
pub record Lies (s : List ℕ) (start len : ℕ) : Type 0 where
  pub some : 5 ≤ len
  pub few : len ≤ 24
  pub inside : start + len ≤ length s

module _ (company : ℕ) where
  Passes : ℕ → List ℕ → Type 0
  Passes ty octets = is_move company (0 ∷ ty ∷ octets) ≡ true

  -- the length octet is not asked
  decides : Decides (is_move company) Passes
  unfolding is_move Passes
  decides = record { sound = λ n ty octets e. e; complete = λ n ty octets e. e }

  sizes : (ty : ℕ) (octets : List ℕ) → Passes ty octets → (7 ≤ suc (suc (length octets))) × (suc (suc (length octets)) ≤ 26)
  unfolding is_move Passes
  sizes ty octets e =
      let one = both_true _ _ e in
      let two = both_true _ _ one.1 in
      (leb-true 7 (suc (suc (length octets))) one.0, leb-true (suc (suc (length octets))) 26 two.0)

  lies_there : (s : List ℕ) (start len : ℕ) → First Passes s start len → Lies s start len
  lies_there s start len f =
      let x : Stands Passes s start len = f.stands in
      let size = sizes x.type x.octets x.is in
      let whole : length s ≡ length x.before + suc (suc (length x.octets + length x.behind)) =
      ap length x.made_up ∙ length-append x.before (suc (length x.octets) ∷ x.type ∷ (x.octets ++ x.behind))
      ∙ ap (λ (k : ℕ). length x.before + suc (suc k)) (length-append x.octets x.behind) in
      record { some = omega (arith, x.long); few = omega (arith, x.long); inside = omega (arith, x.long, x.begins) }

  pub lies : (s : List ℕ) {n size : ℕ} {at : Part} → read_padded s ≡ Ok (n, size) → move_in company (take size s) ≡ Some at → Lies s at.start at.len
  unfolding move_in
  lies s {n} {size} {at} is found =
      lies_there s at.start at.len
      (subst (Told Passes s) (ap (searched (is_move company)) (before s n size is) ∙ found) (searching s (record { number = n; taken = size; accepted = is }) decides).told)

-- ---- what is heard of the move whose data were found
module _ (sender : DeviceAddress) (s : List ℕ) (at : Part) (b : Book) {n : ℕ} (read : n ≡ le (get_or s (at.start + 2) 0 ∷ get_or s (at.start + 3) 0 ∷ [])) where
  turn_read : le (get_or s (at.start + 2) 0 ∷ get_or s (at.start + 2 + 1) 0 ∷ []) ≡ n
  turn_read = let third : at.start + 2 + 1 ≡ at.start + 3 = omega arith in rw third (sym read)

  pub other_turn : (n ≡ b.turn → ⊥) → b ≡ taken sender (heard_at s (Some at)) b
  unfolding taken heard_at
  other_turn other = rw (turn_read, ne_eqb n b.turn other)

  pub open_turn : {k : ℕ} {m : Move} {after : Book} → n ≡ b.turn → m ≡ move_of (take (at.start + at.len - (at.start + 4)) (drop (at.start + 4) s)) → k ≡ seat_number sender (seats_of b)
      → after ≡ kept_at k m b → after ≡ taken sender (heard_at s (Some at)) b
  unfolding taken heard_at
  open_turn is played seat kept =
      let size : at.start + at.len - (at.start + 4) ≡ at.len - 4 = omega arith in
      rw (turn_read, eq-eqb n b.turn is, ← size, ← played, ← seat) kept

-- ---- what a report comes to
module _ (sender : DeviceAddress) (s : List ℕ) (b : Book) where
  pub area_refused : {e : Error} → read_padded s ≡ Err e → record { outcome = (Err e); book = b } ≡ report_call sender s b
  unfolding report_call heard_as
  area_refused is = rw is

  module _ {n size : ℕ} (is : read_padded s ≡ Ok (n, size)) where
    pub no_move_law : move_in b.company (take size s) ≡ None → record { outcome = (Ok tt); book = b } ≡ report_call sender s b
    unfolding report_call heard_as heard_at taken
    no_move_law none = rw (is, before s n size is, none)

    pub a_move : {at : Part} {after : Book} → move_in b.company (take size s) ≡ Some at → after ≡ taken sender (heard_at s (Some at)) b
        → record { outcome = (Ok tt); book = after } ≡ report_call sender s b
    unfolding report_call heard_as
    a_move found e = rw (is, before s n size is, found) (λ i. record { outcome = (Ok tt); book = e i })
