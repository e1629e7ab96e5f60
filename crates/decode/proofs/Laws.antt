-- What a header and a payload are answered with. Computed. Assumes nothing.
use mathlib.Core.List.{List}
use mathlib.Core.Path.{refl}
use Prim.Native.Nat.{ℕ}
use Rattle.addresses.specs.declared.header.Header.{Header}
use Rattle.decode.specs.Laws.{Decodes}

pub decodes : (h : Header) (p : List ℕ) → Decodes h p
decodes h p = record { reads = refl; no_header = λ e. refl }
