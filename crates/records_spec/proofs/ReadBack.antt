-- What reading finds of a record that was written: `written_and_read_back`, and a write that is not read back: `not_as_itself`.
-- Assumes nothing.
use mathlib.Core.Path.{◌≡◌, refl, ap}
use mathlib.Core.Bool.{Bool, true, false, cond}
use mathlib.Core.List.{List, ◌∷◌, ◌++◌}
use Prim.Native.Nat.{ℕ, suc, ◌+◌, ◌-◌, ◌≤◌, ◌<◌, ◌^◌}
use native.Mathlib.Nat.{add-zero}
use native.Mathlib.Omega.{arith}
use lib.ListN.{length, take, drop}
use lib.Seq.{length-take-le, take_at, drop_at, drop-drop}
use lib.Dec.{eqb-suc-zero}
use borrow.Author.Tests.{leb-true, le-ltb, ne_eqb}
use Rattle.octets.specs.declared.error.Error.{Error}
use Rattle.octets.specs.declared.error.Error.TheVariants.{Eof, InvalidValue}
use Rattle.octets.specs.declared.uuid.UuidKind.{UuidKind}
use Rattle.octets.specs.declared.uuid.UuidKind.TheVariants.{Uuid16, Uuid32, Uuid128}
use Rattle.utf8.specs.Utf8.{is_utf8}
use Rattle.octets.specs.Bytes.{has, part, le_bytes, written}
use Rattle.octets.proofs.Laws.{written_keeps, parts}
use Rattle.octets.proofs.Numbers.{field}
use Rattle.octets.proofs.Places.{enough}
use Rattle.records_spec.specs.declared.ad_structure.AdStructure.{AdStructure}
use Rattle.records_spec.specs.declared.ad_structure.AdStructure.TheVariants as ad
use Rattle.records_spec.specs.Record.{record_of, flags_read, whole_uuids, uuid_list, uuids_read, local_name, name_read, pair_kind, pair_read, number_read, data_read, kind_read, up_to, record_read, first, record_at, lent_read, known_read}
use Rattle.records_spec.specs.Write.{record_type, record_own, record_start, record_len, list_check, name_check, record_check, data_of, space_for, and_then, may_write, record_octets, written_after}
use Rattle.records_spec.specs.ReadBack.{moved_to, AsItself, OfKnownType, left_as, WrittenAndReadBack, NotAsItself}
use Rattle.records_spec.proofs.Space.{space_fine}
use Rattle.records_spec.proofs.Again.{named_twice}
use Rattle.std.specs.Prelude.{Result, Ok, Err}

-- what was tested of a record that may be written
record May (a : AdStructure) (s out : List ℕ) (at : ℕ) : Type 0 where
  placed : record_start a + record_len a ≤ length s
  checked : record_check a (part (record_len a) s (record_start a)) ≡ Ok tt
  space : at + (length (data_of a s) + 2) ≤ length out

may : (a : AdStructure) (s out : List ℕ) (at : ℕ) → may_write a s out at ≡ Ok tt → May a s out at
unfolding may_write
may a s out at = go (has (record_len a) s (record_start a)) refl
  where
    check : Result (Unit {0}) Error
    check = record_check a (part (record_len a) s (record_start a))

    go : (there : Bool) → has (record_len a) s (record_start a) ≡ there → cond there (and_then check (space_for (data_of a s) out at)) (Err Eof) ≡ Ok tt → May a s out at
    go false t e = absurd (let z : ◌≡◌ {A = ℕ} 0 1 = cc in omega arith)
    go true t e =
        let fits = space_fine check (length (data_of a s)) (length out) at e in
        record { placed = leb-true (record_start a + record_len a) (length s) t; checked = fits.0; space = fits.1 }

-- what begins at the position of a record that was written, and what begins at its data
module _ (ty : ℕ) (d out : List ℕ) (at : ℕ) (space : at + (length d + 2) ≤ length out) where
  behind : List ℕ
  behind = drop (at + suc (suc (length d))) out

  begins : drop at (written (record_of ty d) out at) ≡ suc (length d) ∷ ty ∷ (d ++ behind)
  unfolding record_of behind
  begins = drop_at (take at out) (record_of ty d ++ behind) at (length-take-le at out (omega arith))

  long : length (written (record_of ty d) out at) ≡ length out
  unfolding record_of
  long = (written_keeps (record_of ty d) out at (omega arith)).as_long

  data_there : part (length d) (written (record_of ty d) out at) (at + 2) ≡ d
  data_there = rw (← drop-drop, begins) (take_at d behind (length d) refl)

  read_written : record_at (written (record_of ty d) out at) at ≡ up_to (at + length (record_of ty d)) (data_read ty d (at + 2))
  unfolding record_at first record_read record_of
  read_written =
      rw (le-ltb (length (written (record_of ty d) out at)) at (omega (arith, long)), begins, take_at d behind (length d) refl, eqb-suc-zero, le-ltb (suc (length d)) (suc (length d)) (omega arith))

-- a list or a name that passed its check
whole_fine : (b : Bool) (e : Error) → cond {A = Result (Unit {0}) Error} b (Ok tt) (Err e) ≡ Ok tt → b ≡ true
whole_fine true e h = refl
whole_fine false e h = absurd (let z : ◌≡◌ {A = ℕ} 0 1 = cc in omega arith)

uuids_back : (k : UuidKind) (complete : Bool) (len from : ℕ) (s : List ℕ) (start : ℕ) → from + len ≤ length s → list_check k (part len s from) ≡ Ok tt
    → uuids_read k complete (part len s from) start ≡ Ok (uuid_list k complete start len)
unfolding uuids_read
uuids_back k complete len from s start placed fine = rw (whole_fine (whole_uuids k (part len s from)) Eof fine, (parts s).as_long len from placed)

name_back : (complete : Bool) (len from : ℕ) (s : List ℕ) (start : ℕ) → from + len ≤ length s → name_check (part len s from) ≡ Ok tt
    → name_read complete (part len s from) start ≡ Ok (local_name complete start len)
unfolding name_read
name_back complete len from s start placed fine = rw (whole_fine (is_utf8 (part len s from)) InvalidValue fine, (parts s).as_long len from placed)

read_itself : (a : AdStructure) (s out : List ℕ) (at start : ℕ) → May a s out at → AsItself a → data_read (record_type a) (data_of a s) start ≡ Ok (moved_to start a)
unfolding data_read data_of flags_read
read_itself (ad.Flags f) s out at start m is = ap (λ (x : ℕ). Ok (ad.Flags (record { bits = x }))) (named_twice f.bits)
read_itself (ad.ServiceUuids16 true from len) s out at start m is = uuids_back Uuid16 true len from s start m.placed m.checked
read_itself (ad.ServiceUuids16 false from len) s out at start m is = uuids_back Uuid16 false len from s start m.placed m.checked
read_itself (ad.ServiceUuids32 complete from len) s out at start m is = absurd is
read_itself (ad.ServiceUuids128 complete from len) s out at start m is = absurd is
read_itself (ad.ServiceData16 uuid from len) s out at start m is = absurd is
read_itself (ad.CompleteLocalName from len) s out at start m is = absurd is
read_itself (ad.ShortenedLocalName from len) s out at start m is = absurd is
read_itself (ad.ManufacturerSpecificData company from len) s out at start m is = absurd is
read_itself (ad.Unknown ty from len) s out at start m is = rw (ne_eqb ty 1 is.0, ne_eqb ty 2 is.1, ne_eqb ty 3 is.2, (parts s).as_long len from m.placed)

left : (a : AdStructure) (s : List ℕ) (start : ℕ) → OfKnownType a → data_read (record_type a) (data_of a s) start ≡ Ok (left_as a s start)
unfolding data_read
left (ad.Flags f) s start is = absurd is
left (ad.ServiceUuids16 complete from len) s start is = absurd is
left (ad.ServiceUuids32 true from len) s start is = refl
left (ad.ServiceUuids32 false from len) s start is = refl
left (ad.ServiceUuids128 true from len) s start is = refl
left (ad.ServiceUuids128 false from len) s start is = refl
left (ad.ServiceData16 uuid from len) s start is = refl
left (ad.CompleteLocalName from len) s start is = refl
left (ad.ShortenedLocalName from len) s start is = refl
left (ad.ManufacturerSpecificData company from len) s start is = refl
left (ad.Unknown ty from len) s start is = absurd is

-- a number of two octets and the data after it
pair_back : (kind : ℕ → ℕ → ℕ → AdStructure) (v : ℕ) (d : List ℕ) (start : ℕ) → v < 2 ^ 16 → pair_read kind (le_bytes 2 v ++ d) start ≡ Ok (kind v (start + 2) (length d))
unfolding number_read
pair_back kind v d start small =
    let size : suc (suc (length d)) - 2 ≡ length d = omega arith in
    rw (le-ltb (suc (suc (length d))) 2 (omega arith), size, (field 2).number_back v small)

known_itself : (a : AdStructure) (s out : List ℕ) (at start : ℕ) → May a s out at → OfKnownType a
    → kind_read (record_type a) (data_of a s) start ≡ Ok (moved_to (start + length (record_own a)) a)
unfolding kind_read data_of
known_itself (ad.Flags f) s out at start m is = absurd is
known_itself (ad.ServiceUuids16 complete from len) s out at start m is = absurd is
known_itself (ad.ServiceUuids32 true from len) s out at start m is = rw add-zero (uuids_back Uuid32 true len from s start m.placed m.checked)
known_itself (ad.ServiceUuids32 false from len) s out at start m is = rw add-zero (uuids_back Uuid32 false len from s start m.placed m.checked)
known_itself (ad.ServiceUuids128 true from len) s out at start m is = rw add-zero (uuids_back Uuid128 true len from s start m.placed m.checked)
known_itself (ad.ServiceUuids128 false from len) s out at start m is = rw add-zero (uuids_back Uuid128 false len from s start m.placed m.checked)
known_itself (ad.ServiceData16 uuid from len) s out at start m is = rw (pair_back (pair_kind true) uuid (part len s from) start is, (parts s).as_long len from m.placed)
known_itself (ad.CompleteLocalName from len) s out at start m is = rw add-zero (name_back true len from s start m.placed m.checked)
known_itself (ad.ShortenedLocalName from len) s out at start m is = rw add-zero (name_back false len from s start m.placed m.checked)
known_itself (ad.ManufacturerSpecificData company from len) s out at start m is = rw (pair_back (pair_kind false) company.0 (part len s from) start is, (parts s).as_long len from m.placed)
known_itself (ad.Unknown ty from len) s out at start m is = absurd is

pub written_and_read_back : WrittenAndReadBack
unfolding written_after record_octets known_read lent_read up_to
written_and_read_back a s out at fine =
    let m = may a s out at fine in
    let d = data_of a s in
    let o = written (record_of (record_type a) d) out at in
    let reads = read_written (record_type a) d out at m.space in
    let there = data_there (record_type a) d out at m.space in
    let size : at + 2 + length d ≤ length o = omega (arith, long (record_type a) d out at m.space, m.space) in
    record {
      reads = rw fine reads;
      there = rw fine there;
      itself = λ is. rw fine (rw (read_itself a s out at (at + 2) m is) at reads);
      known = λ is. rw fine (rw (left a s (at + 2) is) at reads, rw (enough (length d) o (at + 2) size, there) (known_itself a s out at (at + 2) m is));
    }

pub not_as_itself : NotAsItself
unfolding written_after record_octets may_write data_of record_of record_at record_read first data_read flags_read up_to
not_as_itself = record { writes = refl; refuses = refl }
