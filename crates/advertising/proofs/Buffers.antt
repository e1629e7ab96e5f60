-- Payloads in 37 octets: what is placed after what stands there, and records rewritten after it. Assumes nothing.
use Rattle.std.proofs.Common.{◌≡◌, ℕ, ◌+◌, ◌-◌, ◌≤◌, Bool, true, false, ltb, List, [], ◌∷◌, ◌++◌, length, get_or, take, drop, replicate, sym, refl, ap, ◌∙◌, append_assoc, zero-add, append-nil, arith, length-append, length-drop, take_at, take_all, drop_at, ltb-false}
use Rattle.std.proofs.lemmas.List.{drop_all}
use lib.ListN.{length-replicate}
use lib.Seq.{drop-append-add}
use Rattle.octets.specs.Bytes.{write_to, out_after}
use Rattle.octets.specs.declared.bytes.ByteWriter.{ByteWriter}
use Rattle.octets.proofs.Places.{enough, part_octets, drop_replicate}
use Rattle.records_spec.specs.Area.{read_area, rewritten, may_rewrite, rewritten_to, rewritten_after}
use Rattle.records_spec.specs.Write.{checked_to, checked_after}
use Rattle.records_spec.proofs.RoundTrip.{round_trip}
use Rattle.advertising.specs.PduBuf.{to37, header_for, buf_of, after_reading, with_records}
use Rattle.addresses.specs.declared.header.Header.{Header}
use Rattle.addresses.specs.declared.header.PduType.{PduType}
use borrow.Rule.Slice.PartMut.{put_mid}
use Rattle.advertising.specs.declared.pdu_buf.PduBuf.{PduBuf}
use Rattle.std.specs.Prelude.{Result, Ok, Err}
use Rattle.octets.specs.declared.error.Error.{Error}

-- the zeros after xs
abbrev pub room : List ℕ → List ℕ
room xs = replicate (37 - length xs) 0

-- octets in the place of zeros after xs
pad_rest : (xs ys : List ℕ) → xs ++ (ys ++ drop (length ys) (room xs)) ≡ to37 (xs ++ ys)
pad_rest xs ys =
    let left : 37 - length xs - length ys ≡ 37 - length (xs ++ ys) = simp length-append (omega arith) in
    rw (drop_replicate (length ys) (37 - length xs), left, append_assoc)

pub pad_on : (xs ys : List ℕ) (at : ℕ) → length xs ≡ at → at + length ys ≤ 37 → out_after ys (to37 xs) at ≡ to37 (xs ++ ys)
pad_on xs ys at is fits =
    let long : length (to37 xs) ≡ 37 = simp (length-append, length-replicate) (omega arith) in
    let behind : drop (at + length ys) (to37 xs) ≡ drop (length ys) (room xs) = rw (← is) (drop-append-add xs (room xs) (length ys)) in
    rw (enough (length ys) (to37 xs) at (omega arith), take_at xs (room xs) at is, behind) (pad_rest xs ys)

-- records that were written end within the space
pub inside : (s out : List ℕ) {next : ByteWriter} → rewritten_to s out ≡ Ok next → next.at ≤ length out
unfolding rewritten_to may_rewrite
inside s out {next} = go (read_area s)
  where
    fits : (n : ℕ) (b : Bool) → ltb (length out) (length s) ≡ b → checked_to (may_rewrite (Ok n) s out) (rewritten s) 0 ≡ Ok next → next.at ≤ length out
    fits n true e is =
        let refused = rw e at is in
        let z : ◌≡◌ {A = ℕ} 0 1 = cc in
        absurd (omega arith)
    fits n false e is =
        let wrote = rw e at is in
        let at : 0 + length (rewritten s) ≡ next.at = cc in
        omega (arith, ltb-false (length out) (length s) e, (round_trip s).as_long)

    go : (a : Result ℕ Error) → checked_to (may_rewrite a s out) (rewritten s) 0 ≡ Ok next → next.at ≤ length out
    go (Ok n) is = fits n (ltb (length out) (length s)) refl is
    go (Err e) is = let z : ◌≡◌ {A = ℕ} 0 1 = cc in absurd (omega arith)

-- the PDU whose payload is l, where records were written up to a position after n octets, or why there is none
abbrev pub from_written : PduType → Bool → ℕ → List ℕ → Result ByteWriter Error → Result PduBuf Error
from_written ty tx n l (Ok next) = Ok (record { header = header_for ty tx false (n + next.at); payload_buf = l })
from_written ty tx n l (Err e) = Err e

-- records rewritten after xs
pub filled : (ty : PduType) (tx : Bool) (xs s : List ℕ)
    → from_written ty tx (length xs) (xs ++ rewritten_after s (room xs)) (rewritten_to s (room xs)) ≡ with_records ty tx xs s
unfolding rewritten_to rewritten_after may_rewrite with_records after_reading buf_of
filled ty tx xs s = go (read_area s)
  where
    end : length xs + (0 + length (rewritten s)) ≡ length (xs ++ rewritten s)
    end = simp length-append (omega arith)

    contents : xs ++ (rewritten s ++ drop (0 + length (rewritten s)) (room xs)) ≡ to37 (xs ++ rewritten s)
    contents = rw zero-add (pad_rest xs (rewritten s))

    fits : (n : ℕ) (b : Bool) → ltb (37 - length xs) (length s) ≡ b
        → from_written ty tx (length xs) (xs ++ checked_after (may_rewrite (Ok n) s (room xs)) (rewritten s) (room xs) 0) (checked_to (may_rewrite (Ok n) s (room xs)) (rewritten s) 0)
        ≡ after_reading ty tx xs s (Ok n)
    fits n true e = rw (length-replicate {A = ℕ} (37 - length xs) 0, e)
    fits n false e =
        rw (length-replicate {A = ℕ} (37 - length xs) 0, e)
        (λ i. Ok (record { header = header_for ty tx false (end i); payload_buf = contents i }))

    go : (a : Result ℕ Error)
        → from_written ty tx (length xs) (xs ++ checked_after (may_rewrite a s (room xs)) (rewritten s) (room xs) 0) (checked_to (may_rewrite a s (room xs)) (rewritten s) 0)
        ≡ after_reading ty tx xs s a
    go (Ok n) = fits n (ltb (37 - length xs) (length s)) refl
    go (Err e) = refl

-- what `fill` has: xs written at the front of zeros, and the records of s in what follows
abbrev zeros : List ℕ
zeros = replicate 37 0

written_at : (xs : List ℕ) {w : ByteWriter} {from : ℕ} → from ≡ 0 → length xs ≤ 37 → Ok w ≡ write_to (length xs) zeros from → w.at ≡ length xs
written_at xs {w} start fits is =
    let wrote : ◌≡◌ {A = Result ByteWriter Error} (Ok w) (Ok (record { at = 0 + length xs })) = is ∙ rw start (rw (enough (length xs) zeros 0 (omega arith))) in
    let same : w ≡ record { at = 0 + length xs } = cc in
    ap (λ (x : ByteWriter). x.at) same ∙ zero-add (length xs)

-- where the records go
behind : (xs : List ℕ) {out : List ℕ} {at from : ℕ} → from ≡ 0 → length xs ≤ 37 → at ≡ length xs → out ≡ out_after xs zeros from → (out ≡ to37 xs) × (take (37 - at) (drop at out) ≡ room xs)
behind xs {out} start fits is held =
    let whole : out ≡ to37 xs = held ∙ rw start (pad_on [] xs 0 refl (omega arith)) in
    let rest : drop (length xs) (to37 xs) ≡ room xs = drop_at xs (room xs) (length xs) refl in
    (whole, rw (is, whole, rest) (take_all (37 - length xs) (room xs) (rw length-replicate (omega arith))))

module _ (xs s : List ℕ) (w : ByteWriter) (out : List ℕ) {from : ℕ} (start : from ≡ 0) (fits : length xs ≤ 37) (is : Ok w ≡ write_to (length xs) zeros from) (held : out ≡ out_after xs zeros from) where
  abbrev space : List ℕ
  space = take (37 - w.at) (drop w.at out)

  pub fill_ends : (next : ByteWriter) → Ok next ≡ rewritten_to s space → (w.at ≡ length xs) × (w.at + next.at ≤ 37)
  fill_ends next wrote =
      let at = written_at xs start fits is in
      let room_left = inside s space (sym wrote) in
      (at, omega (arith, ap length (behind xs start fits at held).1, length-replicate {A = ℕ} (37 - length xs) 0))

  module _ (ty : PduType) (tx : Bool) where
    pub fill_refused : (e : Error) → Err e ≡ rewritten_to s space → with_records ty tx xs s ≡ Err e
    fill_refused e bad =
        let rest = (behind xs start fits (written_at xs start fits is) held).1 in
        sym (filled ty tx xs s) ∙ ap (from_written ty tx (length xs) (xs ++ rewritten_after s (room xs))) (ap (rewritten_to s) (sym rest) ∙ sym bad)

    pub fill_filled : (next : ByteWriter) (l : List ℕ) (h : Header) → Ok next ≡ rewritten_to s space → l ≡ rewritten_after s space → h ≡ header_for ty tx false (w.at + next.at)
        → with_records ty tx xs s ≡ Ok (record { header = h; payload_buf = put_mid w.at (37 - w.at) out l })
    fill_filled next l h wrote left counts =
        let at = written_at xs start fits is in
        let both = behind xs start fits at held in
        let long : length out ≡ 37 = ap length both.0 ∙ simp (length-append, length-replicate) (omega arith) in
        let front : take w.at out ≡ xs = rw (both.0, at) (take_at xs (room xs) (length xs) refl) in
        let none : drop (37 - w.at) (drop w.at out) ≡ [] = drop_all (37 - w.at) (drop w.at out) (rw length-drop (omega arith)) in
        let l_is : l ≡ rewritten_after s (room xs) = left ∙ ap (rewritten_after s) both.1 in
        let payload : xs ++ rewritten_after s (room xs) ≡ put_mid w.at (37 - w.at) out l = rw (← l_is) (rw (front, none, append-nil)) in
        let header : header_for ty tx false (length xs + next.at) ≡ h = sym (counts ∙ ap (λ (n : ℕ). header_for ty tx false (n + next.at)) at) in
        sym (filled ty tx xs s)
        ∙ ap (from_written ty tx (length xs) (xs ++ rewritten_after s (room xs))) (ap (rewritten_to s) (sym both.1) ∙ sym wrote)
        ∙ (λ i. Ok (record { header = header i; payload_buf = payload i }))

-- six octets placed in 37 zeros, and others after them
pub placed_first : (xs : List ℕ) {l : List ℕ} → length xs ≡ 6 → l ≡ out_after xs (to37 []) 0 → l ≡ to37 xs
placed_first xs long e = e ∙ pad_on [] xs 0 refl (omega arith)

pub placed_behind : (xs ys : List ℕ) {front l : List ℕ} → length xs ≡ 6 → length ys ≤ 31 → front ≡ to37 xs → l ≡ out_after ys front 6 → l ≡ to37 (xs ++ ys)
placed_behind xs ys long short is e = e ∙ rw is (pad_on xs ys 6 long (omega arith))

-- six octets, one by one, before others
pub six_first : (xs ys : List ℕ) → length xs ≡ 6 → get_or xs 0 0 ∷ get_or xs 1 0 ∷ get_or xs 2 0 ∷ get_or xs 3 0 ∷ get_or xs 4 0 ∷ get_or xs 5 0 ∷ ys ≡ xs ++ ys
six_first xs ys six = ap (λ (l : List ℕ). l ++ ys) (sym (part_octets 5 xs 0 (omega arith)) ∙ take_all 6 xs (omega arith))
