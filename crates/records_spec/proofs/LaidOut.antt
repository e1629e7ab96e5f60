-- The octets of a record that was written, by its layout: `standing`.
-- Assumes nothing.
use mathlib.Core.Path.{◌≡◌, refl, sym, ap, ◌∙◌}
use mathlib.Core.List.{List, ◌∷◌, ◌++◌}
use Prim.Native.Nat.{ℕ, suc, ◌+◌, ◌≤◌, ◌<◌}
use native.Mathlib.Omega.{arith}
use lib.ListN.{length, get_or, drop, length-append, get_or-append}
use lib.Seq.{get_or-append-add, get_or-take, get_or-drop}
use Rattle.octets.specs.Bytes.{part, written}
use Rattle.octets.proofs.Laws.{parts, written_keeps}
use Rattle.records_spec.specs.declared.ad_structure.AdStructure.{AdStructure}
use Rattle.records_spec.specs.Record.{record_of}
use Rattle.flags.specs.Flags.{named}
use Rattle.records_spec.specs.Write.{record_start, record_len, data_of, record_octets}
use Rattle.records_spec.specs.Layout.{incomplete16, complete16, incomplete32, complete32, incomplete128, complete128, shortened_name, complete_name, service_data, company_data, Layout, flags, list, name, number, other, LaidOut}
use Rattle.records_spec.specs.Order.{data_octets, Lends}

-- where the lent octets lie, how many octets the data are, and what they are
pub lies : {a : AdStructure} {ty start len : ℕ} {own : List ℕ} → Layout a ty own start len → (record_start a ≡ start) × (record_len a ≡ len)
lies flags = (refl, refl)
lies (list incomplete16) = (refl, refl)
lies (list complete16) = (refl, refl)
lies (list incomplete32) = (refl, refl)
lies (list complete32) = (refl, refl)
lies (list incomplete128) = (refl, refl)
lies (list complete128) = (refl, refl)
lies (name shortened_name) = (refl, refl)
lies (name complete_name) = (refl, refl)
lies (number service_data) = (refl, refl)
lies (number company_data) = (refl, refl)
lies other = (refl, refl)

pub counts : {a : AdStructure} {ty start len : ℕ} {own : List ℕ} → Layout a ty own start len → data_octets a ≡ length own + len
counts flags = omega arith
counts (list incomplete16) = omega arith
counts (list complete16) = omega arith
counts (list incomplete32) = omega arith
counts (list complete32) = omega arith
counts (list incomplete128) = omega arith
counts (list complete128) = omega arith
counts (name shortened_name) = omega arith
counts (name complete_name) = omega arith
counts (number service_data) = omega arith
counts (number company_data) = omega arith
counts other = omega arith

octets_are : {a : AdStructure} {ty start len : ℕ} {own : List ℕ} (s : List ℕ) → Layout a ty own start len → record_octets a s ≡ suc (length (own ++ part len s start)) ∷ ty ∷ (own ++ part len s start)
unfolding record_octets record_of data_of named
octets_are s flags = refl
octets_are s (list incomplete16) = refl
octets_are s (list complete16) = refl
octets_are s (list incomplete32) = refl
octets_are s (list complete32) = refl
octets_are s (list incomplete128) = refl
octets_are s (list complete128) = refl
octets_are s (name shortened_name) = refl
octets_are s (name complete_name) = refl
octets_are s (number service_data) = refl
octets_are s (number company_data) = refl
octets_are s other = refl

-- octet i of what was written
written_octet : (xs out : List ℕ) (at i : ℕ) → at + length xs ≤ length out → i < length xs → get_or (written xs out at) (at + i) 0 ≡ get_or xs i 0
written_octet xs out at i room h =
    sym (get_or-drop at (written xs out at) i 0) ∙ sym (get_or-take (length xs) (drop at (written xs out at)) i 0 h) ∙ ap (λ (l : List ℕ). get_or l i 0) (written_keeps xs out at room).there

-- octets of a record, its own before those that are lent
laid_out : (ty : ℕ) (own : List ℕ) (start len : ℕ) (s out : List ℕ) (at : ℕ) → start + len ≤ length s → at + 2 + (length own + len) ≤ length out
    → LaidOut ty own start len s at (written (suc (length (own ++ part len s start)) ∷ ty ∷ (own ++ part len s start)) out at)
laid_out ty own start len s out at inside room =
    let d : List ℕ = own ++ part len s start in
    let xs : List ℕ = suc (length d) ∷ ty ∷ d in
    let lent : length (part len s start) ≡ len = (parts s).as_long len start inside in
    let long : length d ≡ length own + len = rw (length-append, lent) in
    let octet : (i k : ℕ) → k ≡ at + i → i < length xs → get_or (written xs out at) k 0 ≡ get_or xs i 0 = λ i k is h. rw is (written_octet xs out at i (omega arith) h) in
    record {
      counted = octet 0 at (omega arith) (omega arith) ∙ omega arith;
      type = octet 1 (at + 1) refl (omega arith);
      its_own = λ j h. octet (suc (suc j)) (at + 2 + j) (omega arith) (omega arith) ∙ get_or-append own (part len s start) 0 j h;
      lent = λ j h. octet (suc (suc (length own + j))) (at + 2 + length own + j) (omega arith) (omega arith) ∙ get_or-append-add own (part len s start) j 0 ∙ get_or-take len (drop start s) j 0 h ∙ get_or-drop start s j 0;
    }

-- so stands a record that was written
pub standing : {a : AdStructure} {ty start len : ℕ} {own : List ℕ} (s out : List ℕ) (at : ℕ) → Layout a ty own start len → Lends a s → at + 2 + data_octets a ≤ length out
    → LaidOut ty own start len s at (written (record_octets a s) out at)
standing {a} {ty} {start} {len} {own} s out at laid lends room =
    rw (octets_are s laid) (laid_out ty own start len s out at (rw (← (lies laid).0, ← (lies laid).1) lends) (omega (arith, counts laid)))
