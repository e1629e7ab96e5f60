-- The look-up in the words of document 02's Note 4: "The result is the name's own octets in whichever of the two lent areas holds it. A complete name in
-- the reply comes first, then complete in the advertisement, then shortened in the reply, then shortened in the advertisement. Within an area the first such
-- record with well-formed UTF-8 counts; others are passed over. New numbers: 11, neither area has such a record, after the reading refusals of the
-- advertisement and then the reply." `First (Named ty) s start len` (records_spec, specs/Search): the first such record of s has its data there.
--   Named ty type octets        == a record of type ty whose data are well-formed UTF-8
--   complete_type, shortened_type == the type octets of a complete name, and of a shortened one
--   Answers a r p               == p is the answer for the advertisement a and the reply r
--   LooksUp a r                 (Names.looks_up)   `name_of` is that answer, and no other place is
--   NoNames a r                 == both are read, and no name of either type stands in either
--   Eleven a r                  (Names.eleven)     11 exactly where this is so
--   HandsOn a r                 (Names.hands_on)   the part handed on is the data of the record that is found, in its own area and place
--   Hands s start len from part == what is handed on of s for a place: the octets there, where they lie; none, at its start, where it has fewer
--   AnyPlace a r                (Names.any_place)  the part that any place names, in any two areas
--   flags_area                   == a record of Flags
--   ada, bo, broken, empty ty   == records of type ty: names "Ada" and "Bo", one that is not UTF-8, and an empty one
--   zero_octets n                == n zeros
--   cut_short, no_length        == a record that is cut short, and a zero length before another octet
--   reply_at, advertisement_at  == a place in the reply, or in the advertisement
--   NameRows                    (Names.rows)       worked values: places
--   lent x at octets            == octets that are lent at a place
--   handed_part x a r            == where the name lies for an advertisement and a reply, and its octets
--   PartRows x                  (Names.part_rows)  worked values: what is handed on
--   Holds                       (Names.holds)      all of these, of every two areas
use Rattle.std.specs.Prelude.{true, List, [], ◌∷◌, ◌++◌, map, ◌≡◌, ℕ, ◌+◌, ◌<◌, length, replicate, Result, Ok, Err}
use Rattle.std.specs.Borrow.{Bor}
use Rattle.octets.specs.declared.error.Error.{Error}
use Rattle.octets.specs.declared.error.Error.TheVariants.{Eof, InvalidLength, NoName}
use Rattle.utf8.specs.Utf8.{is_utf8}
use Rattle.records_spec.specs.HubReading.{read_padded}
use Rattle.records_spec.specs.Search.{IsRead, Stands, First, Nowhere}
use Rattle.names_spec.specs.Name.{name_of, handed_from, handed_on, name_from, name_octets}
use Rattle.names_spec.specs.declared.NamePlace.{NamePlace}
use Rattle.names_spec.specs.declared.NamePlace.TheVariants.{InReply, InAdvertisement}

-- a record of type ty whose data are well-formed UTF-8
abbrev pub Named : ℕ → ℕ → List ℕ → Type 0
Named ty type octets = (type ≡ ty) × (is_utf8 octets ≡ true)

-- the type octets of names as numbers, apart from the definition's own (Assigned Numbers, 2.3)
abbrev pub complete_type : ℕ
complete_type = 0x09

abbrev pub shortened_type : ℕ
shortened_type = 0x08

pub data Answers (a r : List ℕ) : Result NamePlace Error → Type 0 where
  bad_advertisement : (e : Error) → read_padded a ≡ Err e → Answers a r (Err e)
  bad_reply : (e : Error) → IsRead a → read_padded r ≡ Err e → Answers a r (Err e)
  complete_in_reply : (start len : ℕ) → IsRead a → IsRead r → First (Named complete_type) r start len → Answers a r (Ok (InReply (record { start = start; len = len })))
  complete_in_advertisement : (start len : ℕ) → IsRead a → IsRead r → Nowhere (Named complete_type) r → First (Named complete_type) a start len → Answers a r (Ok (InAdvertisement (record { start = start; len = len })))
  shortened_in_reply : (start len : ℕ) → IsRead a → IsRead r → Nowhere (Named complete_type) r → Nowhere (Named complete_type) a → First (Named shortened_type) r start len → Answers a r (Ok (InReply (record { start = start; len = len })))
  shortened_in_advertisement : (start len : ℕ) → IsRead a → IsRead r → Nowhere (Named complete_type) r → Nowhere (Named complete_type) a → Nowhere (Named shortened_type) r → First (Named shortened_type) a start len
      → Answers a r (Ok (InAdvertisement (record { start = start; len = len })))
  no_name : IsRead a → IsRead r → Nowhere (Named complete_type) r → Nowhere (Named complete_type) a → Nowhere (Named shortened_type) r → Nowhere (Named shortened_type) a → Answers a r (Err NoName)

pub record LooksUp (a r : List ℕ) : Type 0 where
  pub found : Answers a r (name_of a r)
  pub only : (p : Result NamePlace Error) → Answers a r p → name_of a r ≡ p

-- both areas are read, and no name of either type stands in either
pub record NoNames (a r : List ℕ) : Type 0 where
  pub advertisement : IsRead a
  pub reply : IsRead r
  pub complete : Nowhere (Named complete_type) a × Nowhere (Named complete_type) r
  pub shortened : Nowhere (Named shortened_type) a × Nowhere (Named shortened_type) r

pub record Eleven (a r : List ℕ) : Type 0 where
  pub only_then : name_of a r ≡ Err NoName → NoNames a r
  pub then : NoNames a r → name_of a r ≡ Err NoName

-- the data of the record that is found, in its own area and place
pub record HandsOn (a r : Bor (List ℕ)) : Type 0 where
  pub of_reply : (ty start len : ℕ) → name_of a.now r.now ≡ Ok (InReply (record { start = start; len = len })) → (n : Stands (Named ty) r.now start len)
      → (name_octets a.now r.now ≡ n.octets) × (name_from a r ≡ (r.ref_ptr.0, r.ref_ptr.1 + start))
  pub of_advertisement : (ty start len : ℕ) → name_of a.now r.now ≡ Ok (InAdvertisement (record { start = start; len = len })) → (n : Stands (Named ty) a.now start len)
      → (name_octets a.now r.now ≡ n.octets) × (name_from a r ≡ (a.ref_ptr.0, a.ref_ptr.1 + start))
  -- no octets, and a place of the advertisement
  pub refused : (e : Error) → name_of a.now r.now ≡ Err e → (name_from a r ≡ a.ref_ptr) × (name_octets a.now r.now ≡ [])

-- what is handed on of s for a place in it: the octets that stand there, where they lie; none, at its start, where it has fewer
pub record Hands (s : Bor (List ℕ)) (start len : ℕ) (from : ℕ × ℕ) (part : List ℕ) : Type 0 where
  pub there : (before xs behind : List ℕ) → s.now ≡ before ++ (xs ++ behind) → length before ≡ start → length xs ≡ len → (part ≡ xs) × (from ≡ (s.ref_ptr.0, s.ref_ptr.1 + start))
  pub fewer : length s.now < start + len → (part ≡ []) × (from ≡ s.ref_ptr)

pub record AnyPlace (a r : Bor (List ℕ)) : Type 0 where
  pub of_reply : (start len : ℕ) → Hands r start len (handed_from (Ok (InReply (record { start = start; len = len }))) a r) (handed_on (Ok (InReply (record { start = start; len = len }))) a.now r.now)
  pub of_advertisement : (start len : ℕ) → Hands a start len (handed_from (Ok (InAdvertisement (record { start = start; len = len }))) a r) (handed_on (Ok (InAdvertisement (record { start = start; len = len }))) a.now r.now)
  pub refused : (e : Error) → (handed_from (Err e) a r ≡ a.ref_ptr) × (handed_on (Err e) a.now r.now ≡ [])

-- Flags, and names: "Ada", "Bo", one that is not UTF-8, and an empty one
abbrev pub flags_area : List ℕ
flags_area = 0x02 ∷ 0x01 ∷ 0x06 ∷ []

abbrev pub ada : ℕ → List ℕ
ada ty = 0x04 ∷ ty ∷ 0x41 ∷ 0x64 ∷ 0x61 ∷ []

abbrev pub bo : ℕ → List ℕ
bo ty = 0x03 ∷ ty ∷ 0x42 ∷ 0x6F ∷ []

abbrev pub broken : ℕ → List ℕ
broken ty = 0x02 ∷ ty ∷ 0xC3 ∷ []

abbrev pub empty : ℕ → List ℕ
empty ty = 0x01 ∷ ty ∷ []

abbrev pub zero_octets : ℕ → List ℕ
zero_octets n = replicate n 0x00

-- a record that is cut short: 1; a zero length before another octet, and Flags without data: 2
abbrev pub cut_short : List ℕ
cut_short = 0x04 ∷ 0x09 ∷ 0x41 ∷ []

abbrev pub no_length : List ℕ
no_length = 0x00 ∷ 0x01 ∷ []

abbrev pub reply_at : ℕ → ℕ → Result NamePlace Error
reply_at start len = Ok (InReply (record { start = start; len = len }))

abbrev pub advertisement_at : ℕ → ℕ → Result NamePlace Error
advertisement_at start len = Ok (InAdvertisement (record { start = start; len = len }))

pub record NameRows : Type 0 where
  -- each of the four places, with names in the places after it, in either order; then none
  pub first : map (λ (a : List ℕ). name_of a (ada 0x08 ++ bo 0x09)) ((ada 0x09 ++ bo 0x08) ∷ (bo 0x08 ++ ada 0x09) ∷ ada 0x08 ∷ flags_area ∷ [] ∷ [])
      ≡ reply_at 7 2 ∷ reply_at 7 2 ∷ reply_at 7 2 ∷ reply_at 7 2 ∷ reply_at 7 2 ∷ []
  pub second : map (name_of (flags_area ++ (bo 0x08 ++ ada 0x09))) (ada 0x08 ∷ flags_area ∷ [] ∷ []) ≡ advertisement_at 9 3 ∷ advertisement_at 9 3 ∷ advertisement_at 9 3 ∷ []
  pub third : map (λ (a : List ℕ). name_of a (flags_area ++ bo 0x08)) (ada 0x08 ∷ flags_area ∷ [] ∷ []) ≡ reply_at 5 2 ∷ reply_at 5 2 ∷ reply_at 5 2 ∷ []
  pub fourth : map (name_of (ada 0x08)) (flags_area ∷ [] ∷ []) ≡ advertisement_at 2 3 ∷ advertisement_at 2 3 ∷ []
  pub none : map (name_of []) ([] ∷ flags_area ∷ ada 0x07 ∷ ada 0x0A ∷ broken 0x09 ∷ broken 0x08 ∷ []) ≡ replicate 6 (Err NoName)
  pub none_either : map (λ (a : List ℕ). name_of a flags_area) (flags_area ∷ ada 0x07 ∷ ada 0x0A ∷ broken 0x09 ∷ broken 0x08 ∷ []) ≡ replicate 5 (Err NoName)
  -- of two in an area the first; one that is not UTF-8 is passed over, within its area and from search to search
  pub of_two : map (name_of []) ((ada 0x09 ++ bo 0x09) ∷ (bo 0x08 ++ ada 0x08) ∷ []) ≡ reply_at 2 3 ∷ reply_at 2 2 ∷ []
  pub passed_over : map (name_of (bo 0x09)) ((broken 0x09 ++ ada 0x09) ∷ (broken 0x09 ++ ada 0x08) ∷ []) ≡ reply_at 5 3 ∷ advertisement_at 2 2 ∷ []
  pub passed_over_twice : name_of (broken 0x09 ++ bo 0x08) (broken 0x09 ++ (broken 0x08 ++ ada 0x08)) ≡ reply_at 8 3
  -- an empty name counts
  pub nothing_in_it : map (name_of (ada 0x09)) (empty 0x09 ∷ (empty 0x09 ++ bo 0x09) ∷ empty 0x08 ∷ []) ≡ reply_at 2 0 ∷ reply_at 2 0 ∷ advertisement_at 2 3 ∷ []
  -- padding after either, or in place of it; what stands after the zero is no name, and 2
  pub padded_areas : map (λ (n : ℕ). name_of (flags_area ++ zero_octets n) (bo 0x09 ++ zero_octets n)) (1 ∷ 24 ∷ []) ≡ reply_at 2 2 ∷ reply_at 2 2 ∷ []
  pub padded_alone : map (λ (n : ℕ). name_of (bo 0x08 ++ zero_octets n) (zero_octets n)) (0 ∷ 1 ∷ 27 ∷ []) ≡ advertisement_at 2 2 ∷ advertisement_at 2 2 ∷ advertisement_at 2 2 ∷ []
  pub zeros_alone : name_of (zero_octets 31) (zero_octets 31) ≡ Err NoName
  pub behind_the_zero : map (name_of (ada 0x09)) ((zero_octets 1 ++ bo 0x09) ∷ (bo 0x09 ++ (zero_octets 1 ++ ada 0x09)) ∷ []) ≡ Err InvalidLength ∷ Err InvalidLength ∷ []
  -- each refusal in each area, whatever name the other has; the advertisement's first; both before 11
  pub bad_first : map (λ (a : List ℕ). name_of a (ada 0x09)) (cut_short ∷ no_length ∷ empty 0x01 ∷ []) ≡ Err Eof ∷ Err InvalidLength ∷ Err InvalidLength ∷ []
  pub bad_second : map (name_of (ada 0x09)) (cut_short ∷ no_length ∷ empty 0x01 ∷ []) ≡ Err Eof ∷ Err InvalidLength ∷ Err InvalidLength ∷ []
  pub bad_both : name_of cut_short no_length ≡ Err Eof
  pub bad_both_ways : name_of no_length cut_short ≡ Err InvalidLength
  pub bad_before_none : name_of flags_area (flags_area ++ cut_short) ≡ Err Eof
  -- a bad record after a name: its refusal
  pub bad_behind : map (name_of (ada 0x09 ++ cut_short)) ([] ∷ bo 0x09 ∷ []) ≡ Err Eof ∷ Err Eof ∷ []

-- octets that are lent at a place
abbrev pub lent : Bor (List ℕ) → ℕ × ℕ → List ℕ → Bor (List ℕ)
lent x at octets = record { ref_ptr = at; now = octets }

-- of an advertisement and a reply: where the name lies, and its octets
abbrev pub handed_part : Bor (List ℕ) → List ℕ → List ℕ → (ℕ × ℕ) × List ℕ
handed_part x a r = (name_from (lent x (1, 10) a) (lent x (2, 20) r), name_octets a r)

pub record PartRows (x : Bor (List ℕ)) : Type 0 where
  pub first : handed_part x (ada 0x09) (ada 0x08 ++ bo 0x09) ≡ ((2, 27), 0x42 ∷ 0x6F ∷ [])
  pub second : handed_part x (bo 0x08 ++ ada 0x09) (bo 0x08) ≡ ((1, 16), 0x41 ∷ 0x64 ∷ 0x61 ∷ [])
  pub third : handed_part x (ada 0x08) (flags_area ++ bo 0x08) ≡ ((2, 25), 0x42 ∷ 0x6F ∷ [])
  pub fourth : handed_part x (ada 0x08 ++ zero_octets 2) (zero_octets 2) ≡ ((1, 12), 0x41 ∷ 0x64 ∷ 0x61 ∷ [])
  -- an empty name lies in its own place; where there is none, the advertisement's start is answered
  pub nothing_in_it : handed_part x (ada 0x09) (flags_area ++ empty 0x09) ≡ ((2, 25), [])
  pub none : handed_part x flags_area flags_area ≡ ((1, 10), [])
  pub bad : handed_part x (ada 0x09) cut_short ≡ ((1, 10), [])

pub record Holds : Type 0 where
  pub looks_up : (a r : List ℕ) → LooksUp a r
  pub eleven : (a r : List ℕ) → Eleven a r
  pub hands_on : (a r : Bor (List ℕ)) → HandsOn a r
  pub any_place : (a r : Bor (List ℕ)) → AnyPlace a r
  pub rows : NameRows
  pub part_rows : (x : Bor (List ℕ)) → PartRows x
