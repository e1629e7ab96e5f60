use mathlib.Core.Path.{◌≡◌, refl, ap, ◌∙◌}
use mathlib.Core.List.{List, [], ◌∷◌}
use Prim.Native.Nat.{ℕ}
use lib.ListN.{length, get_or}
use Rattle.octets.specs.Bytes.{at_front}
use Rattle.std.specs.Prelude.{Result, Ok, Err}
use Rattle.std.specs.Result.{result_unwrap_or}
use Rattle.octets.specs.declared.error.Error.{Error}
use Rattle.addresses.specs.declared.device_address.DeviceAddress.{DeviceAddress}
use Rattle.columns.specs.Row.{row_of}
use Rattle.book_spec.specs.Book.{seat_call}
use Rattle.book_spec.specs.History.{seat}
use Rattle.book_spec.specs.State.{Book, SeatCalled}
use Rattle.book.specs.State.{book_state}
use Rattle.club_spec.specs.Log.{seat_widths, seat_refusal, seat_number, reply_line}
use Rattle.club.proofs.Answering.{Answered, with_line}
use Rattle.club.proofs.log.seat_item.Goals as goal

same_number : (s : Result ℕ Error) → result_unwrap_or s 0 ≡ seat_number s
same_number (Ok k) = refl
same_number (Err e) = refl

sits : (b : Book) (a : DeviceAddress) (item out : List ℕ) {given : DeviceAddress} {x : SeatCalled} {number refusal n : ℕ} {out' : List ℕ} → given ≡ a → x ≡ seat_call given b
    → number ≡ result_unwrap_or x.seat 0 → refusal ≡ seat_refusal x.seat
    → (n ≡ length (row_of seat_widths (get_or item 0 0 ∷ refusal ∷ number ∷ []))) × (out' ≡ at_front (row_of seat_widths (get_or item 0 0 ∷ refusal ∷ number ∷ [])) out)
    → Answered b (seat a ∷ []) item x.book n out' out
unfolding reply_line
sits b a item out {x = x} is-given called is_number is-refusal wrote =
    let is = called ∙ ap (λ (a : DeviceAddress). seat_call a b) is-given in
    let numbers = is_number ∙ same_number x.seat ∙ ap (λ (x : SeatCalled). seat_number x.seat) is in
    let refusals = is-refusal ∙ ap (λ (x : SeatCalled). seat_refusal x.seat) is in
    with_line b (seat a ∷ []) item out (ap (λ (x : SeatCalled). x.book) is) (λ i. row_of seat_widths (get_or item 0 0 ∷ refusals i ∷ numbers i ∷ [])) wrote

pub returns : goal.returns
returns c =
    let a = c.args in
    sits (book_state a.book) _ a.item.now a.out.now c.address_in.ensures c.seat-called.ensures c.unwrap_or-number.ensures c.seat_refusal.ensures c.put_call-written.ensures
