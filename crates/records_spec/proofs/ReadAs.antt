-- What a record is read as, and read on to, by its octets: `read_as`, `read_on_as`.
-- Assumes nothing.
use mathlib.Core.Path.{◌≡◌, ◌∙◌}
use mathlib.Core.Bool.{true, false}
use mathlib.Core.List.{List, ◌∷◌}
use Prim.Native.Nat.{ℕ, suc, ◌+◌, ◌*◌, ◌-◌, ◌%◌, ◌≤◌, ◌<◌}
use native.Mathlib.Omega.{arith}
use lib.ListN.{length, get_or, drop, length-take, length-drop, drop_of_length-le}
use lib.Seq.{get_or-take, get_or-drop, drop-drop}
use borrow.Author.Tests.{ne_eqb, eq-eqb, lt-ltb, le-ltb}
use Rattle.octets.specs.declared.error.Error.TheVariants.{Eof, InvalidValue}
use Rattle.octets.specs.Bytes.{part, le}
use Rattle.utf8.specs.Utf8.{is_utf8}
use Rattle.octets.proofs.Laws.{parts}
use Rattle.octets.proofs.Places.{enough, too_few, front, part_octets, drop_take}
use Rattle.records_spec.specs.declared.ad_structure.AdStructure.{AdStructure}
use Rattle.records_spec.specs.declared.ad_structure.AdStructure.TheVariants as ad
use Rattle.records_spec.specs.Record.{flags_read, uuids_read, name_read, number_read, data_read, kind_read, up_to, record_read, first, record_at, lent_read, known_read}
use Rattle.flags.specs.Flags.{named}
use Rattle.records_spec.specs.Layout.{ListKind, incomplete16, complete16, incomplete32, complete32, incomplete128, complete128, NameKind, shortened_name, complete_name, NumberKind, service_data, company_data}
use Rattle.records_spec.specs.ReadAs.{WholeRecord, ReadAs, OfNoKind, read_further, ReadOnAs}
use Rattle.std.specs.Prelude.{Ok, None, Err}

-- the first octet of a part, and the number that two of them are
part_first : (n : ℕ) (s : List ℕ) (start : ℕ) → 0 < n → get_or (part n s start) 0 0 ≡ get_or s start 0
part_first n s start some =
    let here : start + 0 ≡ start = omega arith in
    rw (get_or-take n (drop start s) 0 0 some, get_or-drop start s 0 0, here)

module _ (s : List ℕ) (at : ℕ) where
  -- a record begins there
  begun : at < length s → record_at s at ≡ record_read (get_or s at 0 ∷ part (get_or s at 0) s (at + 1)) at
  unfolding record_at first
  begun inside = rw (le-ltb (length s) at (omega arith), front s at inside)

  nothing : at ≡ length s → record_at s at ≡ Ok None
  unfolding record_at first record_read
  nothing is = rw (le-ltb (length s) at (omega arith), drop_of_length-le s {i = at} (omega arith))

  beyond : length s < at → record_at s at ≡ Err Eof
  unfolding record_at
  beyond h = rw (lt-ltb (length s) at h)

  module _ (w : WholeRecord s at) where
    size : length (part (get_or s at 0 - 1) s (at + 2)) ≡ get_or s at 0 - 1
    size = (parts s).as_long (get_or s at 0 - 1) (at + 2) (omega (arith, w.some, w.inside))

    -- its type and data are read up to where it ends
    by_type_law : record_at s at ≡ up_to (at + 1 + get_or s at 0) (data_read (get_or s (at + 1) 0) (part (get_or s at 0 - 1) s (at + 2)) (at + 2))
    unfolding record_read
    by_type_law =
        let n = get_or s at 0 in
        let body = part n s (at + 1) in
        let long : length body ≡ n = (parts s).as_long n (at + 1) (omega (arith, w.inside)) in
        let next : at + 1 + 1 ≡ at + 2 = omega arith in
        let ends : at + suc n ≡ at + 1 + n = omega arith in
        let rest : drop 1 body ≡ part (n - 1) s (at + 2) = rw (drop_take 1 n (drop (at + 1) s), drop-drop 1 (at + 1) s, next) in
        begun (omega (arith, w.inside)) ∙ rw (ne_eqb n 0 (omega (arith, w.some)), long, le-ltb n n (omega arith), part_first n s (at + 1) w.some, rest, ends)

pub read_as : (s : List ℕ) (at : ℕ) → ReadAs s at
unfolding record_read data_read flags_read uuids_read up_to named
read_as s at =
    let n = get_or s at 0 in
    record {
      past = beyond s at;
      end = nothing s at;
      zero_length = λ inside none. begun s at inside ∙ rw none;
      too_few = λ inside some few. begun s at inside ∙ rw (ne_eqb n 0 (omega arith), lt-ltb (length (part n s (at + 1))) n (rw (length-take, length-drop) (omega arith)));
      flags = λ w is two. let ends : at + 1 + 2 ≡ at + 3 = omega arith in
          by_type_law s at w ∙ rw (is, eq-eqb (length (part (n - 1) s (at + 2))) 1 (omega (arith, size s at w)), part_first (n - 1) s (at + 2) (omega arith), two, ends);
      wrong_flags = λ w is other. by_type_law s at w ∙ rw (is, ne_eqb (length (part (n - 1) s (at + 2))) 1 (λ one. other (omega (arith, size s at w, w.some))));
      incomplete = λ w is odd. by_type_law s at w ∙ rw (is, size s at w, eq-eqb ((n - 1) % 2) 0 (omega arith));
      complete = λ w is odd. by_type_law s at w ∙ rw (is, size s at w, eq-eqb ((n - 1) % 2) 0 (omega arith));
      odd_incomplete = λ w is even. by_type_law s at w ∙ rw (is, size s at w, ne_eqb ((n - 1) % 2) 0 (omega (arith, w.some)));
      odd_complete = λ w is even. by_type_law s at w ∙ rw (is, size s at w, ne_eqb ((n - 1) % 2) 0 (omega (arith, w.some)));
      other = λ w f i c. by_type_law s at w ∙ rw (ne_eqb (get_or s (at + 1) 0) 1 f, ne_eqb (get_or s (at + 1) 0) 2 i, ne_eqb (get_or s (at + 1) 0) 3 c, size s at w);
    }

module _ (s : List ℕ) (start len : ℕ) (inside : start + len ≤ length s) where
  long : length (part len s start) ≡ len
  long = (parts s).as_long len start inside

  -- data that are lent are read by their type
  on : (ty : ℕ) → read_further s ty start len ≡ kind_read ty (part len s start) start
  unfolding known_read lent_read
  on ty = rw (enough len s start inside)

  list_on : (ty size : ℕ) (kind : ℕ → ℕ → AdStructure) → ListKind ty size kind → len % size ≡ 0 → read_further s ty start len ≡ Ok (kind start len)
  unfolding kind_read data_read uuids_read
  list_on ty size kind incomplete16 whole = on 0x02 ∙ rw (long, whole)
  list_on ty size kind complete16 whole = on 0x03 ∙ rw (long, whole)
  list_on ty size kind incomplete32 whole = on 0x04 ∙ rw (long, whole)
  list_on ty size kind complete32 whole = on 0x05 ∙ rw (long, whole)
  list_on ty size kind incomplete128 whole = on 0x06 ∙ rw (long, whole)
  list_on ty size kind complete128 whole = on 0x07 ∙ rw (long, whole)

  broken_on : (ty size : ℕ) (kind : ℕ → ℕ → AdStructure) → ListKind ty size kind → (len % size ≡ 0 → ⊥) → read_further s ty start len ≡ Err Eof
  unfolding kind_read data_read uuids_read
  broken_on ty size kind incomplete16 half = on 0x02 ∙ rw (long, ne_eqb (len % 2) 0 half)
  broken_on ty size kind complete16 half = on 0x03 ∙ rw (long, ne_eqb (len % 2) 0 half)
  broken_on ty size kind incomplete32 half = on 0x04 ∙ rw (long, ne_eqb (len % 4) 0 half)
  broken_on ty size kind complete32 half = on 0x05 ∙ rw (long, ne_eqb (len % 4) 0 half)
  broken_on ty size kind incomplete128 half = on 0x06 ∙ rw (long, ne_eqb (len % 16) 0 half)
  broken_on ty size kind complete128 half = on 0x07 ∙ rw (long, ne_eqb (len % 16) 0 half)

  name_on : (ty : ℕ) (kind : ℕ → ℕ → AdStructure) → NameKind ty kind → is_utf8 (part len s start) ≡ true → read_further s ty start len ≡ Ok (kind start len)
  unfolding kind_read name_read
  name_on ty kind shortened_name good = on 0x08 ∙ rw (good, long)
  name_on ty kind complete_name good = on 0x09 ∙ rw (good, long)

  bad_on : (ty : ℕ) (kind : ℕ → ℕ → AdStructure) → NameKind ty kind → is_utf8 (part len s start) ≡ false → read_further s ty start len ≡ Err InvalidValue
  unfolding kind_read name_read
  bad_on ty kind shortened_name bad = on 0x08 ∙ rw bad
  bad_on ty kind complete_name bad = on 0x09 ∙ rw bad

  pair : 2 ≤ len → le (part 2 (part len s start) 0) ≡ get_or s start 0 + 256 * get_or s (start + 1) 0
  pair two =
      let all : start + 0 ≡ start = omega arith in
      rw ((parts s).of_part 2 len start 0 two, all, part_octets 1 s start (omega arith)) (omega arith)

  number_on : (ty : ℕ) (kind : ℕ → ℕ → ℕ → AdStructure) → NumberKind ty kind → 2 ≤ len → read_further s ty start len ≡ Ok (kind (get_or s start 0 + 256 * get_or s (start + 1) 0) (start + 2) (len - 2))
  unfolding kind_read number_read
  number_on ty kind service_data two = on 0x16 ∙ rw (long, le-ltb len 2 two, pair two)
  number_on ty kind company_data two = on 0xFF ∙ rw (long, le-ltb len 2 two, pair two)

  short_on : (ty : ℕ) (kind : ℕ → ℕ → ℕ → AdStructure) → NumberKind ty kind → len < 2 → read_further s ty start len ≡ Err Eof
  unfolding kind_read number_read
  short_on ty kind service_data few = on 0x16 ∙ rw (long, lt-ltb len 2 few)
  short_on ty kind company_data few = on 0xFF ∙ rw (long, lt-ltb len 2 few)

  other_on : (ty : ℕ) → OfNoKind ty → read_further s ty start len ≡ Ok (ad.Unknown ty start len)
  unfolding kind_read data_read
  other_on ty none =
      let list : (t size : ℕ) (kind : ℕ → ℕ → AdStructure) → ListKind t size kind → ty ≡ t → ⊥ = λ t size kind is e. none.not_list size kind (rw e is) in
      let name : (t : ℕ) (kind : ℕ → ℕ → AdStructure) → NameKind t kind → ty ≡ t → ⊥ = λ t kind is e. none.not_name kind (rw e is) in
      let number : (t : ℕ) (kind : ℕ → ℕ → ℕ → AdStructure) → NumberKind t kind → ty ≡ t → ⊥ = λ t kind is e. none.not_number kind (rw e is) in
      on ty
      ∙ rw (
        ne_eqb ty 1 none.not_flags,
        ne_eqb ty 2 (list _ _ _ incomplete16),
        ne_eqb ty 3 (list _ _ _ complete16),
        ne_eqb ty 4 (list _ _ _ incomplete32),
        ne_eqb ty 5 (list _ _ _ complete32),
        ne_eqb ty 6 (list _ _ _ incomplete128),
        ne_eqb ty 7 (list _ _ _ complete128),
        ne_eqb ty 8 (name _ _ shortened_name),
        ne_eqb ty 9 (name _ _ complete_name),
        ne_eqb ty 0x16 (number _ _ service_data),
        ne_eqb ty 0xFF (number _ _ company_data),
        long,
      )

pub read_on_as : (s : List ℕ) (ty start len : ℕ) → ReadOnAs s ty start len
unfolding known_read lent_read kind_read data_read flags_read named
read_on_as s ty start len =
    record {
      not_lent = λ h. rw (too_few len s start h);
      lent = λ inside. record {
        flags = λ is one. on s start len inside ty ∙ rw (is, long s start len inside, one, part_first 1 s start (omega arith));
        wrong_flags = λ is other. on s start len inside ty ∙ rw (is, long s start len inside, ne_eqb len 1 other);
        list = list_on s start len inside ty;
        broken_list = broken_on s start len inside ty;
        name = name_on s start len inside ty;
        bad_name = bad_on s start len inside ty;
        number = number_on s start len inside ty;
        short_number = short_on s start len inside ty;
        other = other_on s start len inside ty;
      };
    }
