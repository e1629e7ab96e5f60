use mathlib.Core.Path.{◌≡◌, sym, ap, ◌∙◌}
use mathlib.Core.Bool.{Bool, cond}
use mathlib.Core.List.{List, [], ◌∷◌}
use Prim.Native.Nat.{ℕ}
use lib.ListN.{length, get_or}
use borrow.Author.Tests.{eq-eqb}
use Rattle.octets.specs.Bytes.{at_front}
use Rattle.octets.specs.Error.{outcome_number}
use Rattle.columns.specs.Row.{row_of}
use Rattle.book_spec.specs.Book.{close_call}
use Rattle.book_spec.specs.History.{close}
use Rattle.book_spec.specs.State.{Book, BookCalled}
use Rattle.book.specs.State.{book_state}
use Rattle.club_spec.specs.Log.{close_widths, reply_line}
use Rattle.club.proofs.Answering.{Answered, with_line}
use Rattle.club.proofs.log.close_item.Goals as goal

closed : (b : Book) (item out : List ℕ) {x : BookCalled} {refusal turn n : ℕ} {out' : List ℕ} → get_or item 0 0 ≡ 5 → x ≡ close_call b → turn ≡ x.book.turn → refusal ≡ outcome_number x.outcome
    → (n ≡ length (row_of close_widths (get_or item 0 0 ∷ refusal ∷ turn ∷ []))) × (out' ≡ at_front (row_of close_widths (get_or item 0 0 ∷ refusal ∷ turn ∷ [])) out)
    → Answered b (close ∷ []) item x.book n out' out
unfolding reply_line
closed b item out is called is-turn is-refusal wrote =
    let turns = is-turn ∙ ap (λ (x : BookCalled). x.book.turn) called in
    let numbers = is-refusal ∙ ap (λ (x : BookCalled). outcome_number x.outcome) called in
    let row = row_of close_widths (get_or item 0 0 ∷ outcome_number (close_call b).outcome ∷ (close_call b).book.turn ∷ []) in
    with_line b (close ∷ []) item out (ap (λ (x : BookCalled). x.book) called)
    ((λ i. row_of close_widths (get_or item 0 0 ∷ numbers i ∷ turns i ∷ [])) ∙ ap (λ (t : Bool). cond t row []) (sym (eq-eqb (get_or item 0 0) 5 is))) wrote

pub returns : goal.returns
returns c =
    let a = c.args in
    closed (book_state a.book) a.item.now a.out.now c.requires.0.1 c.close-called.ensures c.open_turn-turn.ensures c.outcome_number.ensures c.put_call-written.ensures
