use mathlib.Core.Path.{◌≡◌, refl, ap, ◌∙◌}
use mathlib.Core.List.{List, [], ◌∷◌}
use Prim.Native.Nat.{ℕ}
use lib.ListN.{length, get_or}
use Rattle.octets.specs.Bytes.{at_front}
use Rattle.columns.specs.Row.{row_of}
use Rattle.book_spec.specs.Book.{closed_at}
use Rattle.book_spec.specs.History.{read_closed}
use Rattle.book_spec.specs.State.{Book}
use Rattle.book_spec.specs.declared.Move.{Move}
use Rattle.book.specs.State.{book_state}
use Rattle.club_spec.specs.Log.{move_widths, reply_line}
use Rattle.club.proofs.Answering.{Answered, read_answer}
use Rattle.club.proofs.log.closed_item.Goals as goal

reads : (b : Book) (item out : List ℕ) {x : Move} {first n size : ℕ} {out' : List ℕ} → n ≡ get_or item 1 0 → x ≡ closed_at b n → first ≡ get_or item 0 0
    → (size ≡ length (row_of move_widths (first ∷ n ∷ x.len ∷ x.octets))) × (out' ≡ at_front (row_of move_widths (first ∷ n ∷ x.len ∷ x.octets)) out)
    → Answered b (read_closed (get_or item 1 0) ∷ []) item b size out' out
unfolding reply_line
reads b item out is-n is is-first wrote =
    read_answer b (read_closed (get_or item 1 0) ∷ []) item out (closed_at b (get_or item 1 0)) refl refl is-first is-n (is ∙ ap (closed_at b) is-n) wrote

pub returns : goal.returns
returns c =
    let a = c.args in
    reads (book_state a.book) a.item.now a.out.now refl c.closed_move.ensures refl c.put_move-written.ensures
