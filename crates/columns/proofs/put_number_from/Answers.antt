use Rattle.std.proofs.Common.{◌≡◌, refl, ap, ◌∙◌, List, ◌++◌, append_assoc, ℕ, zero, suc, ◌-◌, ◌/◌, ◌<◌, ◌≤◌, arith, length, take, drop, length-append, length-drop}
use lib.ListN.{length-take}
use lib.Seq.{drop_at}
use borrow.Author.Tests.{lt-ltb, le-ltb}
use borrow.Rule.Slice.PartMut.{put_mid}
use Rattle.columns.specs.Table.{octet_from, ends_as, number_from}
use Rattle.columns.proofs.Printed.{octet_length}
use Rattle.columns.proofs.Widths.{part_size, put_part}
use Rattle.columns.proofs.put_number_from.Goals as goal

-- an octet, or fewer than two columns: nothing is left before it
whole_octet : (t : List ℕ) (w n : ℕ) → n < 256 → number_from t w n ≡ octet_from t w (ends_as n)
unfolding number_from octet_from
whole_octet t zero n small = refl
whole_octet t (suc zero) n small = refl
whole_octet t (suc (suc w)) n small = rw (lt-ltb n 256 small) refl

few_columns : (t : List ℕ) (w n : ℕ) → w < 2 → number_from t w n ≡ octet_from t w (ends_as n)
unfolding number_from octet_from
few_columns t zero n few = refl
few_columns t (suc zero) n few = refl
few_columns t (suc (suc w)) n few = absurd (omega arith)

two_digits : (t : List ℕ) (w n : ℕ) → 2 ≤ w → 256 ≤ n → number_from t w n ≡ number_from t (w - 2) (n / 100) ++ octet_from t 2 (ends_as n)
unfolding number_from
two_digits t zero n two many = absurd (omega arith)
two_digits t (suc zero) n two many = absurd (omega arith)
two_digits t (suc (suc w)) n two many =
    let left : suc (suc w) - 2 ≡ w = omega arith in
    rw (left, le-ltb n 256 many) refl

-- two digits are written up to `end`
module _ (table out part : List ℕ) (left x end : ℕ) (inside : end ≤ length out) (two : 2 ≤ end) (many : 256 ≤ left) (is : x ≡ ends_as left)
    (wrote : part ≡ octet_from table (length (take (end - (end - 2)) (drop (end - 2) out))) x) where
  put : put_mid (end - 2) (end - (end - 2)) out part ≡ (take (end - 2) out ++ octet_from table 2 (ends_as left)) ++ drop end out
  put =
      let ordered : end - 2 ≤ end = omega arith in
      let width : length (take (end - (end - 2)) (drop (end - 2) out)) ≡ 2 = part_size out ordered inside ∙ omega arith in
      put_part out part ordered inside ∙ rw (wrote, width, is) refl

  long : length (put_mid (end - 2) (end - (end - 2)) out part) ≡ length out
  long = ap length put ∙ simp (length-append, length-take, length-drop, octet_length) (omega arith)

  advance : number_from table (end - 2) (left / 100) ++ drop (end - 2) (put_mid (end - 2) (end - (end - 2)) out part) ≡ number_from table end left ++ drop end out
  advance =
      let front : length (take (end - 2) out) ≡ end - 2 = simp length-take (omega arith) in
      rw (put, append_assoc, drop_at (take (end - 2) out) (octet_from table 2 (ends_as left) ++ drop end out) (end - 2) front, two_digits table end left two many, append_assoc)
      refl

pub loop-end-preserved : goal.loop-end-preserved
loop-end-preserved c =
    let was = c.loop-end.invariant in
    record {
      inside = omega (arith, long c.args.table.now c.loop-end.out _ _ _ c.loop-end.end was.inside c.loop-end-test.true c.if-left-lt256.false c.ends_as-in-loop-end.ensures c.put_octet_from-in-loop-end.ensures);
      whole = advance _ _ _ _ _ _ was.inside c.loop-end-test.true c.if-left-lt256.false c.ends_as-in-loop-end.ensures c.put_octet_from-in-loop-end.ensures ∙ was.whole;
    }

-- what stands before `end` is written last
finished : (table out : List ℕ) (left end x : ℕ) {part : List ℕ} → end ≤ length out → x ≡ ends_as left → number_from table end left ≡ octet_from table end (ends_as left)
    → part ≡ octet_from table (length (take end out)) x → part ++ drop end out ≡ number_from table end left ++ drop end out
finished table out left end x inside is last wrote =
    let width : length (take end out) ≡ end = simp length-take (omega arith) in
    rw (wrote, width, is, last) refl

pub returns-then-left-lt256 : goal.returns-then-left-lt256
returns-then-left-lt256 c =
    finished _ _ c.loop-end.left c.loop-end.end _ c.loop-end.invariant.inside c.ends_as.ensures (whole_octet _ _ _ c.if-left-lt256.true) c.put_octet_from.ensures
    ∙ c.loop-end.invariant.whole

pub returns : goal.returns
returns c =
    finished _ _ c.loop-end.left c.loop-end.end _ c.loop-end.invariant.inside c.ends_as-2.ensures (few_columns _ _ _ c.loop-end-test.false) c.put_octet_from-2.ensures
    ∙ c.loop-end.invariant.whole
