-- What an item answers, over plain lists, as the functions of log.rt put it together. Assumes nothing.
use mathlib.Core.Path.{◌≡◌, refl, sym, ap, ◌∙◌, subst}
use mathlib.Core.Logic.{◌⊎◌, inl, inr, ⊎_elim}
use mathlib.Core.Bool.{false}
use mathlib.Core.List.{List, [], ◌∷◌}
use Prim.Native.Nat.{ℕ, ◌<◌, ◌≤◌}
use native.Mathlib.Omega.{arith}
use lib.Dec.{eqb}
use lib.ListN.{length, get_or, drop}
use borrow.Author.Tests.{le-leb, lt-leb, ne_eqb}
use Rattle.octets.specs.Bytes.{at_front}
use Rattle.std.specs.Prelude.{None, Some, Ok, Err}
use Rattle.beacon_spec.specs.State.{BeaconScanner, Report, Scanned}
use Rattle.columns.specs.Row.{row_of}
use Rattle.items.specs.Item.{tick, packet}
use Rattle.hub_spec.specs.Log.{heard_in}
use Rattle.book_spec.specs.History.{BookCall, book_after}
use Rattle.book_spec.specs.State.{Book}
use Rattle.book_spec.specs.declared.Move.{Move}
use Rattle.club_spec.specs.Item.{IsClubItem, heard, seats, closes, reads}
use Rattle.club_spec.specs.Log.{packet_calls, report_calls, own_calls, calls_for, move_widths, reply_line, call_line}

-- `AnswersCall`, of what was written and left in `out`
abbrev pub Answered : Book → List BookCall → List ℕ → Book → ℕ → List ℕ → List ℕ → Type 0
Answered b calls item b' n out' out = (b' ≡ book_after b calls) × ((n ≡ length (call_line item b calls)) × (out' ≡ at_front (call_line item b calls) out))

-- a line that was written, and the book after the call
pub with_line : (b : Book) (calls : List BookCall) (item out : List ℕ) {b' : Book} {row out' : List ℕ} {n : ℕ} → b' ≡ book_after b calls → row ≡ call_line item b calls
    → (n ≡ length row) × (out' ≡ at_front row out) → Answered b calls item b' n out' out
with_line b calls item out book line wrote = (book, (wrote.0 ∙ ap length line, wrote.1 ∙ ap (λ (l : List ℕ). at_front l out) line))

-- by the calls that are these
pub same_calls : (b : Book) (item out : List ℕ) {calls calls' : List BookCall} {b' : Book} {n : ℕ} {out' : List ℕ} → calls' ≡ calls → Answered b calls item b' n out' out → Answered b calls' item b' n out' out
same_calls b item out {b' = b'} {n = n} {out' = out'} is answers = subst (λ (cs : List BookCall). Answered b cs item b' n out' out) (sym is) answers

-- How long an item is, by its first octet
not_heard : {first : ℕ} → (first ≡ 1) ⊎ (first ≡ 2) → 2 < first → ⊥
not_heard (inl good) high = omega arith
not_heard (inr bad) high = omega arith

pub seat_long : (item : List ℕ) → IsClubItem item → 2 < get_or item 0 0 → get_or item 0 0 ≤ 4 → 7 ≤ length item
seat_long item (heard tick) high low = omega arith
seat_long item (heard (packet first h0 h1 payload which counted)) high low = absurd (not_heard which high)
seat_long item (seats first address which six) high low = omega arith
seat_long item closes high low = omega arith
seat_long item (reads first n which) high low = ⊎_elim (λ six. omega arith) (λ seven. omega arith) which

pub read_long : (item : List ℕ) → IsClubItem item → 5 < get_or item 0 0 → 2 ≤ length item
read_long item (heard tick) high = omega arith
read_long item (heard (packet first h0 h1 payload which counted)) high = omega arith
read_long item (seats first address which six) high = omega (arith, six)
read_long item closes high = omega arith
read_long item (reads first n which) high = omega arith

-- The calls of an item, by its first octet

-- a report has no line
silent : (b : Book) (item : List ℕ) (sc : Scanned) (payload : List ℕ) → get_or item 0 0 ≤ 2 → call_line item b (packet_calls sc payload) ≡ []
unfolding reply_line
silent b item sc payload low = go sc.report (ne_eqb (get_or item 0 0) 5 (λ e. omega arith))
  where
    go : (r : Report) → eqb (get_or item 0 0) 5 ≡ false → call_line item b (report_calls r payload) ≡ []
    go (Ok (Some x)) other = rw other refl
    go (Ok None) other = refl
    go (Err e) other = refl

pub heard_answer : (b : Book) (s : BeaconScanner) (item out : List ℕ) {b' : Book} → 0 < length item → get_or item 0 0 ≤ 2 → b' ≡ book_after b (packet_calls (heard_in s item) (drop 3 item))
    → Answered b (calls_for s item) item b' 0 out out
unfolding calls_for
heard_answer b s [] out some low is = absurd (omega arith)
heard_answer b s (first ∷ rest) out some low is =
    rw (le-leb first 2 low)
    (with_line b (packet_calls (heard_in s (first ∷ rest)) (drop 2 rest)) (first ∷ rest) out is (sym (silent b (first ∷ rest) (heard_in s (first ∷ rest)) (drop 2 rest) low)) (refl, refl))

pub own_calls_law : (s : BeaconScanner) (item : List ℕ) → 0 < length item → 2 < get_or item 0 0 → calls_for s item ≡ own_calls (get_or item 0 0) (drop 1 item)
unfolding calls_for
own_calls_law s [] some high = absurd (omega arith)
own_calls_law s (first ∷ rest) some high = rw (lt-leb first 2 high) refl

-- a move that was read, by its parts as they are handed on
pub read_answer : (b : Book) (calls : List BookCall) (item out : List ℕ) (m : Move) {x : Move} {first n size : ℕ} {out' : List ℕ} → b ≡ book_after b calls
    → call_line item b calls ≡ row_of move_widths (get_or item 0 0 ∷ get_or item 1 0 ∷ m.len ∷ m.octets) → first ≡ get_or item 0 0 → n ≡ get_or item 1 0 → x ≡ m
    → (size ≡ length (row_of move_widths (first ∷ n ∷ x.len ∷ x.octets))) × (out' ≡ at_front (row_of move_widths (first ∷ n ∷ x.len ∷ x.octets)) out)
    → Answered b calls item b size out' out
read_answer b calls item out m book line is-first is-n is wrote =
    with_line b calls item out book ((λ i. row_of move_widths (is-first i ∷ is-n i ∷ (is i).len ∷ (is i).octets)) ∙ sym line) wrote
