use Rattle.std.proofs.Common.{◌≡◌, ◌++◌, ◌≤◌, length, drop, ℕ, ◌+◌, List}
use Rattle.std.proofs.lemmas.Result.{err_from_is_err_and}
use Rattle.records_spec.specs.Area.{AcceptedFrom, read_area, rewritten, rewritten_to, rewritten_after, may_rewrite}
use mathlib.Core.Path.{sym}
use native.Mathlib.Omega.{arith}
use borrow.Author.Tests.{lt-ltb, le-ltb}
use Rattle.records_spec.proofs.Rewritten.{rewritten_length}
use Rattle.records.proofs.area.rewrite_area.Goals as goal
use Rattle.std.specs.Prelude.{Result, Ok, Err}
use Rattle.octets.specs.declared.bytes.ByteWriter.{ByteWriter}
use Rattle.octets.specs.declared.error.Error.{Error}

-- `records::area::rewrite_area` meets its contract: each way is the case of `may_rewrite` that what `read_area` found picks.
-- Assumes nothing.
-- what was written, in the words of `rewritten_to` and `rewritten_after`
as-asked : (s out : List ℕ) {n : ℕ} {l : List ℕ} {r : Result ByteWriter Error} → read_area s ≡ Ok n → length s ≤ length out → (r ≡ Ok (record { at = length s })) × (l ≡ rewritten s ++ drop (length s) out)
    → (r ≡ rewritten_to s out) × (l ≡ rewritten_after s out)
unfolding rewritten_to rewritten_after may_rewrite
as-asked s out is room e =
    let fine = le-ltb (length out) (length s) room in
    let size : 0 + length (rewritten s) ≡ length s = rw (rewritten_length s) (omega arith) in
    (rw (e.0, is, fine, size), rw (is, fine, size) e.1)

-- what is read strictly may be written again
accepted : {s : List ℕ} {n : ℕ} → read_area s ≡ Ok n → AcceptedFrom s 0
unfolding read_area
accepted {n = n} is = record { count = n; accepted = is }

-- what is not read so is refused
bad_area : (s out : List ℕ) {e : Error} → Err e ≡ read_area s → (Err e ≡ rewritten_to s out) × (out ≡ rewritten_after s out)
unfolding rewritten_to rewritten_after may_rewrite
bad_area s out is = (rw (← is), rw (← is))

pub returns-in_err-_count : goal.returns-in_err-_count
returns-in_err-_count c =
    let p = err_from_is_err_and c.from_residual.result c.from_residual.ensures.1 in
    rw (p.1, p.2) (bad_area _ _ c.in_err-_count.ensures)

pub returns-then-out-s : goal.returns-then-out-s
unfolding rewritten_to rewritten_after may_rewrite
returns-then-out-s c =
    let few = lt-ltb _ _ c.if-out-s.true in
    (rw (← c.in_ok-_count.ensures, few), rw (← c.in_ok-_count.ensures, few))

pub write_records-requires : goal.write_records-requires
write_records-requires c = (accepted (sym c.in_ok-_count.ensures), c.if-out-s.false)

pub returns : goal.returns
returns c =
    as-asked _ _ (sym c.in_ok-_count.ensures) c.if-out-s.false c.write_records.ensures
