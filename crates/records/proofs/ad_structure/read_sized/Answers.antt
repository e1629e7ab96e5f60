use Rattle.std.proofs.Common.{◌≡◌, ◌+◌, ◌≤◌, ◌<◌, length, get_or, drop, ℕ, ◌-◌, List}
use Rattle.std.proofs.lemmas.Result.{err_from_is_err_and}
use Rattle.records_spec.specs.Record.{data_read, first, record_read, up_to}
use mathlib.Core.Path.{sym, ap, ◌∙◌}
use Prim.Native.Nat.{suc}
use native.Mathlib.Omega.{arith}
use lib.ListN.{take, length-drop, length-take}
use lib.Seq.{get_or-drop, get_or-take, drop-drop}
use borrow.Author.Tests.{eq-eqb, ne_eqb, lt-ltb, le-ltb}
use Rattle.octets.proofs.Places.{front, drop_take}
use Rattle.records.proofs.ad_structure.read_sized.Goals as goal

-- a record that lies within s, with its data as the code takes them
within : (s : List ℕ) (at n : ℕ) → n ≡ get_or s at 0 → (n ≡ 0 → ⊥) → at + 1 + n ≤ length s
    → record_read (first (drop at s)) at ≡ up_to (at + 1 + n) (data_read (get_or s (at + 1) 0) (take (at + 1 + n - (at + 2)) (drop (at + 2) s)) (at + 2))
unfolding record_read first
within s at n is more fits =
    let whole : length (take n (drop (at + 1) s)) ≡ n = simp (length-take, length-drop) (omega arith) in
    let type-in : 0 < n = omega arith in
    let type_at : at + 1 + 0 ≡ at + 1 = omega arith in
    let data-at : at + 1 + 1 ≡ at + 2 = omega arith in
    let data-long : at + 1 + n - (at + 2) ≡ n - 1 = omega arith in
    let end : at + suc n ≡ at + 1 + n = omega arith in
    simp (front s at (omega arith), ← is, ne_eqb _ _ more, whole, le-ltb n n (omega arith), get_or-take, drop_take 1 n (drop (at + 1) s), get_or-drop, drop-drop, type_at, data-at, data-long, end)

room : (size at n : ℕ) → at < size → n ≤ size - at - 1 → at + 1 + n ≤ size
room size at n within fits = omega arith

pub returns-then-len-eq0 : goal.returns-then-len-eq0
unfolding record_read first
returns-then-len-eq0 c =
    let a = c.args in
    rw (front a.s.now a.at c.requires.0, ← c.requires.1, eq-eqb _ _ c.if-len-eq0.true)

pub returns-then-s-at : goal.returns-then-s-at
unfolding record_read first
returns-then-s-at c =
    let a = c.args in
    let body = take a.len (drop (a.at + 1) a.s.now) in
    rw (front a.s.now a.at c.requires.0, ← c.requires.1, ne_eqb _ _ c.if-len-eq0.false, lt-ltb (length body) a.len (simp (length-take, length-drop) (omega arith)))

pub returns-in_err-ad : goal.returns-in_err-ad
unfolding up_to
returns-in_err-ad c =
    let p = err_from_is_err_and c.from_residual.result c.from_residual.ensures.1 in
    rw (p.1, p.2) (sym (within _ _ _ c.requires.1 c.if-len-eq0.false (room _ _ _ c.requires.0 c.if-s-at.false) ∙ ap (up_to _) (sym c.in_err-ad.ensures)))

pub returns : goal.returns
unfolding up_to
returns c = sym (within _ _ _ c.requires.1 c.if-len-eq0.false (room _ _ _ c.requires.0 c.if-s-at.false) ∙ ap (up_to _) (sym c.in_ok-ad.ensures))
