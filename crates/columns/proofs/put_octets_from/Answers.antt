use Rattle.std.proofs.Common.{◌≡◌, refl, ap, ◌∙◌, List, [], ◌∷◌, ◌++◌, append_assoc, ℕ, suc, ◌+◌, ◌-◌, ◌*◌, ◌<◌, ◌≤◌, arith, add-one, length, get_or, take, drop, length-append, length-drop, drop-cons}
use lib.ListN.{length-take, drop_of_length-le, take-append-drop}
use lib.Seq.{take_at, drop_at, drop-drop}
use borrow.Author.Tests.{le-leb, lt-leb}
use borrow.Rule.Slice.PartMut.{put_mid}
use Rattle.columns.specs.Table.{octet_from, octets_from}
use Rattle.columns.proofs.Printed.{octet_length}
use Rattle.columns.proofs.Widths.{part_size, put_part}
use Rattle.columns.proofs.put_octets_from.Goals as goal

no_room : (t os out : List ℕ) → length out < 4 → octets_from t os out ≡ out
unfolding octets_from
no_room t [] out few = refl
no_room t (o ∷ os) out few = rw (lt-leb 4 (length out) few) refl

one_more : (t os : List ℕ) (o : ℕ) (out : List ℕ) → 4 ≤ length out → octets_from t (o ∷ os) out ≡ octet_from t 4 o ++ octets_from t os (drop 4 out)
unfolding octets_from
one_more t os o out room = rw (le-leb 4 (length out) room) refl

-- an octet is written from `at` on
module _ (table octets out part : List ℕ) (i at : ℕ) (more : i < length octets) (end : at + 4 ≤ length out)
    (wrote : part ≡ octet_from table (length (take (at + 4 - at) (drop at out))) (get_or octets i 0)) where
  put : put_mid at (at + 4 - at) out part ≡ (take at out ++ octet_from table 4 (get_or octets i 0)) ++ drop (at + 4) out
  put =
      let ordered : at ≤ at + 4 = omega arith in
      let width : length (take (at + 4 - at) (drop at out)) ≡ 4 = part_size out ordered end ∙ omega arith in
      put_part out part ordered end ∙ rw (wrote, width) refl

  front : length (take at out ++ octet_from table 4 (get_or octets i 0)) ≡ at + 4
  front = simp (length-append, length-take, octet_length) (omega arith)

  long : length (put_mid at (at + 4 - at) out part) ≡ length out
  long = ap length put ∙ simp (length-append, length-take, length-drop, octet_length) (omega arith)

  advance : take (at + 4) (put_mid at (at + 4 - at) out part) ++ octets_from table (drop (i + 1) octets) (drop (at + 4) (put_mid at (at + 4 - at) out part))
      ≡ take at out ++ octets_from table (drop i octets) (drop at out)
  advance =
      let done : List ℕ = take at out ++ octet_from table 4 (get_or octets i 0) in
      let there : 4 ≤ length (drop at out) = rw length-drop (omega arith) in
      rw (put, take_at done (drop (at + 4) out) (at + 4) front, drop_at done (drop (at + 4) out) (at + 4) front, append_assoc, add-one i, drop-cons octets i 0 more, one_more table (drop (suc i) octets) (get_or octets i 0) (drop at out) there, drop-drop 4 at out)
      refl

pub loop-i-preserved : goal.loop-i-preserved
loop-i-preserved c =
    let was = c.loop-i.invariant in
    let at : ℕ = 4 * c.loop-i.i in
    let next : 4 * (c.loop-i.i + 1) ≡ at + 4 = omega arith in
    let end : at + 4 ≤ length c.loop-i.out = omega arith in
    rw next (record {
      inside = omega (arith, end, long c.args.table.now c.args.octets.now c.loop-i.out _ c.loop-i.i at c.loop-i-test.true end c.put_octet_from.ensures);
      whole = advance _ _ _ _ _ at c.loop-i-test.true end c.put_octet_from.ensures ∙ was.whole;
    })

-- nothing more is written
finished : (table octets out : List ℕ) (i at : ℕ) → octets_from table (drop i octets) (drop at out) ≡ drop at out
    → out ≡ take at out ++ octets_from table (drop i octets) (drop at out)
finished table octets out i at last = rw (last, take-append-drop) refl

pub returns-then-out-at-lt4 : goal.returns-then-out-at-lt4
returns-then-out-at-lt4 c =
    let out = c.loop-i.out in
    let few : length (drop (4 * c.loop-i.i) out) < 4 = rw length-drop (omega arith) in
    finished c.args.table.now c.args.octets.now out c.loop-i.i (4 * c.loop-i.i) (no_room _ _ _ few) ∙ c.loop-i.invariant.whole

pub returns : goal.returns
unfolding octets_from
returns c =
    let end : length c.args.octets.now ≤ c.loop-i.i = omega arith in
    finished c.args.table.now c.args.octets.now c.loop-i.out c.loop-i.i (4 * c.loop-i.i) (rw (drop_of_length-le c.args.octets.now end) refl) ∙ c.loop-i.invariant.whole
