-- The words of specs/History, each by its rule: `in_order`, `by_contracts`. Assumes nothing.
use mathlib.Core.List.{List, [], ◌∷◌, ◌++◌}
use mathlib.Core.Path.{◌≡◌, refl, ap}
use Rattle.book_spec.specs.History.{BookCall, next_book, book_after, BookStanding, first_standing, standing_on, standing_all, BookEntry, entries_from}
use Rattle.book_spec.specs.Laws.{InOrder, ByContracts}
use Rattle.book_spec.specs.State.{Book}
use Rattle.book_spec.proofs.Opened.{standing_append}

entries_append : (st : BookStanding) (calls : List BookCall) (c : BookCall)
    → entries_from st (calls ++ (c ∷ [])) ≡ entries_from st calls ++ (record { before = standing_all st calls; call = c } ∷ [])
entries_append st [] c = refl
entries_append st (d ∷ calls) c = ap (λ (l : List BookEntry). record { before = st; call = d } ∷ l) (entries_append (standing_on st d) calls c)

book_append : (b : Book) (calls : List BookCall) (c : BookCall) → book_after b (calls ++ (c ∷ [])) ≡ next_book (book_after b calls) c
book_append b [] c = refl
book_append b (d ∷ calls) c = book_append (next_book b d) calls c

pub in_order : (calls : List BookCall) (c : BookCall) → InOrder calls c
in_order calls c =
    record {
      at_first = refl;
      stands = standing_append first_standing calls (c ∷ []);
      no_entries = refl;
      one_entry = entries_append first_standing calls c;
      no_calls = λ b. refl;
      one_call = λ b. book_append b calls c;
    }

pub by_contracts : (b : Book) → ByContracts b
by_contracts b =
    record {
      seats = λ a. refl;
      seated_so = λ a. refl;
      hears = λ sender area. refl;
      heard_so = λ sender area. refl;
      closes = refl;
      closed_so = refl;
      seat_read = λ n. refl;
      seat_reply = λ n. refl;
      open_read = λ n. refl;
      open_reply = λ n. refl;
      closed_read = λ n. refl;
      closed_reply = λ n. refl;
      turn_read = refl;
      turn_reply = refl;
      company_read = refl;
      company_reply = refl;
    }
