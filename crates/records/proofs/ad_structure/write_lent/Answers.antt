-- Where all checks pass, the record is put.
use Rattle.std.proofs.Common.{◌≡◌, ◌++◌, ◌+◌, ◌≤◌, length, ℕ, List, Bool, true, false}
use Rattle.std.proofs.lemmas.Result.{err_from_is_err_and}
use Rattle.std.specs.Prelude.{Result, Ok, Err}
use Rattle.octets.specs.Bytes.{written}
use Rattle.octets.specs.declared.error.Error.{Error}
use Rattle.octets.specs.declared.error.Error.TheVariants.{Eof, RecordLength}
use Rattle.records_spec.specs.Record.{record_of}
use Rattle.records_spec.specs.Write.{space_in, space_for, and_then, lent_to, lent_after, Outline, own_in}
use Rattle.records.specs.State.{outline_state}
use mathlib.Core.Bool.{cond}
use mathlib.Core.Path.{refl, ap, ◌∙◌}
use Prim.Native.Nat.{suc}
use native.Mathlib.Omega.{arith}
use lib.Dec.{leb, ltb}
use lib.ListN.{take, length-append, length-take}
use borrow.Author.Tests.{leb-true}
use Rattle.records.proofs.ad_structure.write_lent.Goals as goal

own_size : (o : Outline) (d : List ℕ) → o.held ≤ 2 → length (own_in o ++ d) ≡ o.held + length d
own_size o d short = simp (length-append, length-take) (omega arith)

-- where there is space
room : (n size at : ℕ) → Ok tt ≡ space_in n size at → at + (n + 2) ≤ size
room n size at e = leb-true (at + (n + 2)) size (go (leb (at + (n + 2)) size) e)
  where
    go : (b : Bool) → Ok tt ≡ cond {A = Result (Unit {0}) Error} b (cond (ltb 255 (n + 1)) (Err RecordLength) (Ok tt)) (Err Eof) → b ≡ true
    go true e = refl
    go false e = absurd (let z : ◌≡◌ {A = ℕ} 0 1 = cc in omega arith)

-- a record whose data are not what they must be, or for which there is too little space
unfit : (o : Outline) (d out : List ℕ) (at : ℕ) {e : Error} → Err e ≡ o.check d → (Err e ≡ lent_to o d out at) × (out ≡ lent_after o d out at)
unfolding lent_to lent_after
unfit o d out at bad = (rw (← bad), rw (← bad))

crowded : (o : Outline) (d out : List ℕ) (at : ℕ) {e : Error} → o.held ≤ 2 → Ok tt ≡ o.check d → Err e ≡ space_in (o.held + length d) (length out) at → (Err e ≡ lent_to o d out at) × (out ≡ lent_after o d out at)
unfolding lent_to lent_after
crowded o d out at short fine full = let size = own_size o d short in (rw (← fine, size, ← full), rw (← fine, size, ← full))

-- a record that is put
put : (o : Outline) (d out : List ℕ) (at : ℕ) (own : List ℕ) {l : List ℕ} → o.held ≤ 2 → own ≡ own_in o → Ok tt ≡ o.check d → Ok tt ≡ space_in (o.held + length d) (length out) at
    → l ≡ written (record_of o.ty (own ++ d)) out at → (Ok (record { at = at + 2 + (o.held + length d) }) ≡ lent_to o d out at) × (l ≡ lent_after o d out at)
unfolding lent_to lent_after record_of
put o d out at own short is fine space wrote =
    let size = own_size o d short in
    let next : at + 2 + (o.held + length d) ≡ at + suc (suc (length (own_in o ++ d))) = omega arith in
    let may : Ok tt ≡ and_then (o.check d) (space_for (own_in o ++ d) out at) = rw (← fine, size) space in
    rw (← may) (ap (λ (end : ℕ). Ok (record { at = end })) next, wrote ∙ ap (λ (xs : List ℕ). written (record_of o.ty (xs ++ d)) out at) is)

pub returns-in_err-check : goal.returns-in_err-check
returns-in_err-check c =
    let p = err_from_is_err_and c.from_residual.result c.from_residual.ensures.1 in
    rw (p.1, p.2) (unfit (outline_state c.args.outline) _ _ _ c.in_err-check.ensures)

pub returns-in_err-space_for : goal.returns-in_err-space_for
returns-in_err-space_for c =
    let p = err_from_is_err_and c.from_residual-in_err-space_for.result c.from_residual-in_err-space_for.ensures.1 in
    rw (p.1, p.2) (crowded (outline_state c.args.outline) _ _ _ c.requires c.in_ok-check.ensures c.in_err-space_for.ensures)

pub put_record-requires : goal.put_record-requires
put_record-requires c =
    let a = c.args in
    let fits : a.writer.at + (a.outline.held + length a.«data».now + 2) ≤ length a.out.now = room _ _ _ c.in_ok-space_for.ensures in
    let own = length-take a.outline.held c.u16_to_le_bytes-own.result in
    (omega (arith, own), omega (arith, own))

pub returns : goal.returns
returns c =
    let a = c.args in
    put (outline_state a.outline) a.«data».now a.out.now a.writer.at _ c.requires (ap (take a.outline.held) c.u16_to_le_bytes-own.ensures) c.in_ok-check.ensures c.in_ok-space_for.ensures c.put_record.ensures
