-- What is made of a write's answer, once it is known to be a success or a refusal, is made of what the write is to answer. Assumes nothing.
use mathlib.Core.List.{List}
use mathlib.Core.Path.{◌≡◌, sym, ap, ◌∙◌}
use Prim.Native.Nat.{ℕ}
use Rattle.radio_spec.specs.State.{Step}
use Rattle.std.specs.Prelude.{Result}
use Rattle.octets.specs.declared.bytes.ByteWriter.{ByteWriter}
use Rattle.octets.specs.declared.error.Error.{Error}

-- the write answers w, which is found to be x, and leaves l
pub made_of : (make : Result ByteWriter Error → Step) {s : Step} {w x to : Result ByteWriter Error} {l after : List ℕ} → s ≡ make x → w ≡ x → (w ≡ to) × (l ≡ after) → (s ≡ make to) × (l ≡ after)
made_of make made is wrote = (made ∙ ap make (sym is ∙ wrote.0), wrote.1)
