-- The outline that the code writes a record by: `written_by_outline`, `lent_outlines`.
-- Assumes nothing.
use mathlib.Core.Path.{refl}
use Prim.Native.Nat.{ℕ}
use Rattle.octets.proofs.Places.{enough}
use Rattle.records_spec.specs.Write.{record_start, record_len, data_of, may_write, lent_to, lent_after, record_octets, written_to, written_after}
use Rattle.records_spec.specs.Order.{lent_octets}
use Rattle.records_spec.specs.Outlines.{WrittenByOutline, LentOutlines}

pub written_by_outline : WrittenByOutline
unfolding written_to written_after may_write lent_to lent_after record_octets data_of
written_by_outline a o is =
    record {
      answers = λ s out at lends. rw (enough (record_len a) s (record_start a) lends, is.check (lent_octets a s), is.own, is.type);
      after = λ s out at lends. rw (enough (record_len a) s (record_start a) lends, is.check (lent_octets a s), is.own, is.type);
    }

pub lent_outlines : (start len : ℕ) → LentOutlines start len
lent_outlines start len =
    record {
      incomplete16 = record { type = refl; own = refl; many = refl; start = refl; len = refl; check = λ d. refl };
      complete16 = record { type = refl; own = refl; many = refl; start = refl; len = refl; check = λ d. refl };
      incomplete32 = record { type = refl; own = refl; many = refl; start = refl; len = refl; check = λ d. refl };
      complete32 = record { type = refl; own = refl; many = refl; start = refl; len = refl; check = λ d. refl };
      incomplete128 = record { type = refl; own = refl; many = refl; start = refl; len = refl; check = λ d. refl };
      complete128 = record { type = refl; own = refl; many = refl; start = refl; len = refl; check = λ d. refl };
      shortened = record { type = refl; own = refl; many = refl; start = refl; len = refl; check = λ d. refl };
      complete = record { type = refl; own = refl; many = refl; start = refl; len = refl; check = λ d. refl };
      other = λ ty. record { type = refl; own = refl; many = refl; start = refl; len = refl; check = λ d. refl };
    }
