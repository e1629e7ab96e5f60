-- The log is that of the calls: `evening`. Assumes nothing.
use mathlib.Core.Path.{◌≡◌, refl, sym, ap, ◌∙◌}
use mathlib.Core.List.{List, [], ◌∷◌, ◌++◌}
use Prim.Native.Nat.{ℕ}
use lib.ListN.{get_or}
use Rattle.beacon_spec.specs.State.{BeaconScanner}
use Rattle.hub_spec.specs.Log.{scanner_after}
use Rattle.book_spec.specs.Book.{fresh_book}
use Rattle.book_spec.specs.History.{BookCall, read_turn, BookReply, number_is, next_book, reply_of, book_after, standing}
use Rattle.book_spec.specs.State.{Book}
use Rattle.book_spec.specs.TurnBook.{Replies}
use Rattle.book_spec.specs.TurnBook as right
use Rattle.book_spec.proofs.TurnBook.{turn_book}
use Rattle.club_spec.specs.Laws.{calls_of, scanner_on, Evening}
use Rattle.club_spec.specs.Log.{calls_for, reply_line, call_line, club_line, club_after, club_after_all, fresh_club}
use Rattle.club_spec.specs.State.{Club}

after_more : (b : Book) (calls more : List BookCall) → book_after b (calls ++ more) ≡ book_after (book_after b calls) more
after_more b [] more = refl
after_more b (c ∷ calls) more = after_more (next_book b c) calls more

book_is : (k : Club) (its : List (List ℕ)) → (club_after_all k its).book ≡ book_after k.book (calls_of k.scanner its)
unfolding club_after_all club_after
book_is k [] = refl
book_is k (item ∷ its) =
    book_is (club_after k item) its ∙ sym (after_more k.book (calls_for k.scanner item) (calls_of (scanner_after k.scanner item) its))

scanner_is : (k : Club) (its : List (List ℕ)) → (club_after_all k its).scanner ≡ scanner_on k.scanner its
unfolding club_after_all club_after
scanner_is k [] = refl
scanner_is k (item ∷ its) = scanner_is (club_after k item) its

line_is : (k : Club) (item : List ℕ) {b : Book} {s : BeaconScanner} {calls : List BookCall} → k.book ≡ b → k.scanner ≡ s → calls_for s item ≡ calls → club_line k item ≡ call_line item b calls
unfolding club_line
line_is k item book scanner makes = (λ i. call_line item (book i) (calls_for (scanner i) item)) ∙ ap (call_line item _) makes

module _ (company : ℕ) where
  -- the right reply to `read_turn`
  turn_told : (before : List BookCall) {r : BookReply} → Replies company before read_turn r → r ≡ number_is (standing before).turn
  turn_told before right.open_turn = refl

  turn_is : (before : List BookCall) → (book_after (fresh_book company) before).turn ≡ (standing before).turn
  turn_is before =
      let told : number_is (book_after (fresh_book company) before).turn ≡ number_is (standing before).turn = turn_told before (turn_book company before read_turn).replies in
      cc

  pub evening : (its : List (List ℕ)) → Evening company its
  evening its =
      let k : Club = fresh_club company in
      let calls : List BookCall = calls_of k.scanner its in
      record {
        book = book_is k its;
        scanner = scanner_is k its;
        silent = λ item none. line_is (club_after_all k its) item (book_is k its) (scanner_is k its) none;
        line = λ item c makes.
            record {
              reply = reply_of (book_after (fresh_book company) calls) c;
              right = (turn_book company calls c).replies;
              is = line_is (club_after_all k its) item (book_is k its) (scanner_is k its) makes
                  ∙ ap (reply_line (get_or item 0 0) (get_or item 1 0) (reply_of (book_after (fresh_book company) calls) c))
                  (sym (ap (λ (b : Book). b.turn) (after_more (fresh_book company) calls (c ∷ []))) ∙ turn_is (calls ++ (c ∷ [])));
            };
        open_turn = ap (λ (b : Book). b.turn) (book_is k its) ∙ turn_is calls;
      }
