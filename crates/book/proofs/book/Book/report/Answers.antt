use Rattle.std.proofs.Common.{[]}
use mathlib.Core.Path.{sym, ◌∙◌}
use native.Mathlib.Omega.{arith}
use lib.ListN.{length-take}
use Rattle.records_spec.proofs.HubReads.{took}
use Rattle.book.proofs.Heard.{area_refused, no_move_law, a_move, lies}
use Rattle.book.proofs.book.Book.report.Goals as goal

-- `Book::report` meets its contract: the area is read, and what is searched of it is the records that were read. Assumes nothing.

pub slice_bounds-find_move-end : goal.slice_bounds-find_move-end
slice_bounds-find_move-end c =
    let read = sym c.read_padded_area.ensures ∙ c.in-Ok.is in
    rw length-take (omega (arith, (took _ _ _ read []).inside))

pub take-requires : goal.take-requires
take-requires c =
    let fits = lies _ _ (sym c.read_padded_area.ensures ∙ c.in-Ok.is) (sym c.find_move.ensures ∙ c.in-Some.is) in
    (fits.some, fits.few, fits.inside)

pub returns-in-Err : goal.returns-in-Err
returns-in-Err c = area_refused _ _ _ (sym c.read_padded_area.ensures ∙ c.in-Err.is)

pub returns-in-None : goal.returns-in-None
returns-in-None c = no_move_law _ _ _ (sym c.read_padded_area.ensures ∙ c.in-Ok.is) (sym c.find_move.ensures ∙ c.in-None.is)

pub returns-in-Some : goal.returns-in-Some
returns-in-Some c = a_move _ _ _ (sym c.read_padded_area.ensures ∙ c.in-Ok.is) (sym c.find_move.ensures ∙ c.in-Some.is) c.take.ensures
