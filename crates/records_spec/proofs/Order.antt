-- When writing a record is refused, and in which order: `ordered`.
-- Assumes nothing.
use mathlib.Core.Path.{◌≡◌, refl, sym, ap, ◌∙◌}
use mathlib.Core.Bool.{false}
use mathlib.Core.List.{List}
use Prim.Native.Nat.{ℕ, ◌+◌, ◌-◌, ◌%◌, ◌≤◌, ◌<◌}
use native.Mathlib.Omega.{arith}
use lib.ListN.{length, get_or, drop}
use lib.Seq.{get_or-take, get_or-drop}
use borrow.Author.Tests.{ne_eqb, le-leb, lt-leb, lt-ltb, le-ltb}
use Rattle.octets.specs.declared.error.Error.{Error}
use Rattle.octets.specs.declared.error.Error.TheVariants.{Eof, InvalidValue, RecordLength}
use Rattle.octets.specs.Bytes.{written}
use Rattle.utf8.specs.Utf8.{is_utf8}
use Rattle.octets.proofs.Laws.{parts, written_keeps}
use Rattle.octets.proofs.Places.{enough, too_few}
use Rattle.records_spec.specs.declared.ad_structure.AdStructure.{AdStructure}
use Rattle.records_spec.specs.declared.ad_structure.AdStructure.TheVariants as ad
use Rattle.records_spec.specs.Record.{record_of}
use Rattle.records_spec.specs.Write.{record_start, record_len, record_check, data_of, may_write, record_octets, written_to, written_after}
use Rattle.records_spec.specs.Order.{IsName, uuid_octets, data_octets, Lends, lent_octets, Sound, NotWritten, Put, Ordered}
use Rattle.records_spec.proofs.LaidOut.{lies, standing}
use Rattle.std.specs.Prelude.{Ok, Err}

-- the check of each kind
fine : (a : AdStructure) (s : List ℕ) → Sound a s → record_check a (lent_octets a s) ≡ Ok tt
fine (ad.Flags f) s ok = refl
fine (ad.ServiceUuids16 complete start len) s ok = rw ((parts s).as_long len start ok.lends, ok.list)
fine (ad.ServiceUuids32 complete start len) s ok = rw ((parts s).as_long len start ok.lends, ok.list)
fine (ad.ServiceUuids128 complete start len) s ok = rw ((parts s).as_long len start ok.lends, ok.list)
fine (ad.ServiceData16 uuid start len) s ok = refl
fine (ad.CompleteLocalName start len) s ok = rw (ok.name tt)
fine (ad.ShortenedLocalName start len) s ok = rw (ok.name tt)
fine (ad.ManufacturerSpecificData company start len) s ok = refl
fine (ad.Unknown ty start len) s ok = refl

name_refused : (a : AdStructure) (s : List ℕ) → IsName a → is_utf8 (lent_octets a s) ≡ false → record_check a (lent_octets a s) ≡ Err InvalidValue
name_refused (ad.Flags f) s is bad = absurd is
name_refused (ad.ServiceUuids16 complete start len) s is bad = absurd is
name_refused (ad.ServiceUuids32 complete start len) s is bad = absurd is
name_refused (ad.ServiceUuids128 complete start len) s is bad = absurd is
name_refused (ad.ServiceData16 uuid start len) s is bad = absurd is
name_refused (ad.CompleteLocalName start len) s is bad = rw bad
name_refused (ad.ShortenedLocalName start len) s is bad = rw bad
name_refused (ad.ManufacturerSpecificData company start len) s is bad = absurd is
name_refused (ad.Unknown ty start len) s is bad = absurd is

list_refused : (a : AdStructure) (s : List ℕ) → Lends a s → (record_len a % uuid_octets a ≡ 0 → ⊥) → record_check a (lent_octets a s) ≡ Err Eof
list_refused (ad.Flags f) s lends odd = absurd (odd refl)
list_refused (ad.ServiceUuids16 complete start len) s lends odd = rw ((parts s).as_long len start lends, ne_eqb (len % 2) 0 odd)
list_refused (ad.ServiceUuids32 complete start len) s lends odd = rw ((parts s).as_long len start lends, ne_eqb (len % 4) 0 odd)
list_refused (ad.ServiceUuids128 complete start len) s lends odd = rw ((parts s).as_long len start lends, ne_eqb (len % 16) 0 odd)
list_refused (ad.ServiceData16 uuid start len) s lends odd = absurd (odd (omega arith))
list_refused (ad.CompleteLocalName start len) s lends odd = absurd (odd (omega arith))
list_refused (ad.ShortenedLocalName start len) s lends odd = absurd (odd (omega arith))
list_refused (ad.ManufacturerSpecificData company start len) s lends odd = absurd (odd (omega arith))
list_refused (ad.Unknown ty start len) s lends odd = absurd (odd (omega arith))

size : (a : AdStructure) (s : List ℕ) → Lends a s → length (data_of a s) ≡ data_octets a
unfolding data_of
size (ad.Flags f) s lends = refl
size (ad.ServiceUuids16 complete start len) s lends = (parts s).as_long len start lends
size (ad.ServiceUuids32 complete start len) s lends = (parts s).as_long len start lends
size (ad.ServiceUuids128 complete start len) s lends = (parts s).as_long len start lends
size (ad.ServiceData16 uuid start len) s lends = omega (arith, (parts s).as_long len start lends)
size (ad.CompleteLocalName start len) s lends = (parts s).as_long len start lends
size (ad.ShortenedLocalName start len) s lends = (parts s).as_long len start lends
size (ad.ManufacturerSpecificData company start len) s lends = omega (arith, (parts s).as_long len start lends)
size (ad.Unknown ty start len) s lends = (parts s).as_long len start lends

-- lists that are the same from m on have the same octets there
behind_octet : (l out : List ℕ) (i m : ℕ) → drop m l ≡ drop m out → m ≤ i → get_or l i 0 ≡ get_or out i 0
behind_octet l out i m same past =
    let is : m + (i - m) ≡ i = omega arith in
    ap (λ (j : ℕ). get_or l j 0) (sym is) ∙ sym (get_or-drop m l (i - m) 0) ∙ ap (λ (l : List ℕ). get_or l (i - m) 0) same ∙ get_or-drop m out (i - m) 0 ∙ ap (λ (j : ℕ). get_or out j 0) is

module _ (a : AdStructure) (s out : List ℕ) (at : ℕ) where
  not_written : {e : Error} → may_write a s out at ≡ Err e → NotWritten a s out at e
  unfolding written_to written_after
  not_written is = record { answers = rw is; kept = rw is }

  -- where the data are lent and pass, space and length decide
  module _ (ok : Sound a s) where
    long : length (data_of a s) ≡ data_octets a
    long = size a s ok.lends

    few : length out < at + 2 + data_octets a → may_write a s out at ≡ Err Eof
    unfolding may_write
    few h = rw (enough (record_len a) s (record_start a) ok.lends, fine a s ok, lt-leb (at + (length (data_of a s) + 2)) (length out) (omega (arith, long)))

    over : at + 2 + data_octets a ≤ length out → 255 < 1 + data_octets a → may_write a s out at ≡ Err RecordLength
    unfolding may_write
    over h l = rw (enough (record_len a) s (record_start a) ok.lends, fine a s ok, le-leb (at + (length (data_of a s) + 2)) (length out) (omega (arith, long)), lt-ltb 255 (length (data_of a s) + 1) (omega (arith, long)))

    may : at + 2 + data_octets a ≤ length out → 1 + data_octets a ≤ 255 → may_write a s out at ≡ Ok tt
    unfolding may_write
    may h l = rw (enough (record_len a) s (record_start a) ok.lends, fine a s ok, le-leb (at + (length (data_of a s) + 2)) (length out) (omega (arith, long)), le-ltb 255 (length (data_of a s) + 1) (omega (arith, long)))

    octets_long : length (record_octets a s) ≡ 2 + data_octets a
    unfolding record_octets record_of
    octets_long = omega (arith, long)

    put : at + 2 + data_octets a ≤ length out → 1 + data_octets a ≤ 255 → Put a s out at
    unfolding written_to written_after
    put h l =
        let xs = record_octets a s in
        let keeps = written_keeps xs out at (omega (arith, octets_long)) in
        let ends : at + length xs ≡ at + 2 + data_octets a = omega (arith, octets_long) in
        let after : written_after a s out at ≡ written xs out at = rw (may h l) in
        record {
          answers = rw (may h l, ends);
          as_long = rw after keeps.as_long;
          octets = λ laid. rw after (standing s out at laid ok.lends h);
          before = λ i low. rw after (sym (get_or-take at (written xs out at) i 0 low) ∙ ap (λ (l : List ℕ). get_or l i 0) keeps.before ∙ get_or-take at out i 0 low);
          behind = λ i past. rw after (behind_octet (written xs out at) out i (at + length xs) keeps.behind (omega (arith, ends)));
        }

pub ordered : (a : AdStructure) (s out : List ℕ) (at : ℕ) → Ordered a s out at
unfolding may_write
ordered a s out at =
    record {
      places = lies;
      not_lent = λ h. not_written a s out at (rw (too_few (record_len a) s (record_start a) (omega arith)));
      bad_name = λ lends is bad. not_written a s out at (rw (enough (record_len a) s (record_start a) lends, name_refused a s is bad));
      bad_list = λ lends odd. not_written a s out at (rw (enough (record_len a) s (record_start a) lends, list_refused a s lends odd));
      no_space = λ ok h. not_written a s out at (few a s out at ok h);
      too_long = λ ok h l. not_written a s out at (over a s out at ok h l);
      written = λ ok h l. put a s out at ok h l;
    }
