-- By what stands after the good records: a bad one, and whether zeros alone stand from there on.
use Rattle.std.proofs.Common.{◌≡◌, ◌-◌, ◌<◌, length, take, drop, ℕ, Bool, List, sym, ap, ◌∙◌, arith, length-drop}
use mathlib.Core.Bool.{cond}
use mathlib.Core.Path.{subst}
use lib.Seq.{take_all}
use Rattle.octets.specs.declared.error.Error.{Error}
use Rattle.records_spec.specs.Accepted.{Bad, zero_length, too_few, wrong_flags, odd_list, FrontOf}
use Rattle.records_spec.specs.Area.{front_of}
use Rattle.records_spec.specs.HubReading.{is_zeros, read_padded}
use Rattle.records_spec.specs.declared.area.BadRecord.{BadRecord}
use Rattle.records_spec.proofs.Fronts.{fronted}
use Rattle.records_spec.proofs.HubReads.{read_whole, read_behind}
use Rattle.records.proofs.area.read_padded_area.Goals as goal
use Rattle.std.specs.Prelude.{Result, Ok, Err}

begins : (l : List ℕ) (e : Error) → Bad l e → 0 < length l
begins _ _ zero_length = omega arith
begins _ _ (too_few some few) = omega arith
begins _ _ (wrong_flags some there type other) = omega arith
begins _ _ (odd_list some there type even) = omega arith

-- it stands within the area
inside : (s : List ℕ) (bad : BadRecord) → Err bad ≡ front_of s → bad.at < length s
inside s bad found =
    let told = subst (FrontOf s) (sym found) (fronted s).told in
    omega (arith, begins (drop bad.at s) bad.error told.1, length-drop bad.at s)

behind : (s : List ℕ) (bad : BadRecord) {b t : Bool} → Err bad ≡ front_of s → b ≡ is_zeros (take (length s - bad.at) (drop bad.at s)) → b ≡ t
    → cond t (Ok (bad.count, bad.at)) (Err bad.error) ≡ read_padded s
behind s bad found test came =
    let told = subst (FrontOf s) (sym found) (fronted s).told in
    let rest = take_all (length s - bad.at) (drop bad.at s) (omega (arith, length-drop bad.at s)) in
    sym (read_behind s bad.at told.0 told.1
    ∙ ap (λ (z : Bool). cond {A = Result (ℕ × ℕ) Error} z (Ok (bad.count, bad.at)) (Err bad.error)) (sym (test ∙ ap is_zeros rest) ∙ came))

pub slice_bounds-is_zeros-count : goal.slice_bounds-is_zeros-count
slice_bounds-is_zeros-count c = omega (arith, inside _ _ c.in-Err.ensures)

pub slice_bounds-is_zeros-start : goal.slice_bounds-is_zeros-start
slice_bounds-is_zeros-start c = omega (arith, inside _ _ c.in-Err.ensures)

pub returns-then-is_zeros : goal.returns-then-is_zeros
returns-then-is_zeros c = behind _ _ c.in-Err.ensures c.is_zeros.ensures c.if-is_zeros.true

pub returns-else-is_zeros : goal.returns-else-is_zeros
returns-else-is_zeros c = behind _ _ c.in-Err.ensures c.is_zeros.ensures c.if-is_zeros.false

pub returns-in-Ok : goal.returns-in-Ok
returns-in-Ok c = sym (read_whole _ (subst (FrontOf _) (sym c.in-Ok.ensures) (fronted _).told))
