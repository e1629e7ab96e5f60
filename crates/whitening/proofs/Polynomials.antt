-- The terms of the two registers. Computed. Assumes nothing.
use mathlib.Core.Path.{refl}
use Rattle.whitening.specs.Bits.{number}
use Rattle.whitening.specs.Laws.{is_in, terms, Polynomials}

pub polynomials : Polynomials
unfolding is_in terms number
polynomials = record { whitening = refl; crc = refl; crc_poly = refl }
