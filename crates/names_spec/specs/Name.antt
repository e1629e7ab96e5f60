-- The player's name beside a move (document 02, Note 4; types: Assigned Numbers, 2.3). specs/Laws says it in the Note's words.
--   is_name ty r                            == a record's octets r: its type is ty, and its data are well-formed UTF-8
--   name_in ty s                            == where the first such record of the area s, which has no padding, has its data
--   in_reply f else, in_advertisement f else == what a search of the reply, or of the advertisement, found, or `else` where it found nothing
--   chosen a r                             == the first of the four searches that finds something, in an advertisement a and a reply r without padding
--   after_area a name                       == the refusal of an area, or `name` where it was accepted
--   name_of a r                             == the place chosen where both are read as the hub reads them, or the refusal
--   handed_from p a r, handed_on p a r       == where the octets lie that a place p names in the areas a and r, and these octets
--   name_from a r, name_octets a r           == the same of the place that is found
use Rattle.std.specs.Prelude.{Bool, ◌&&◌, List, [], ℕ, eqb, get_or, drop, Result, Ok, Err, Option, Some, None}
use Rattle.std.specs.Borrow.{Bor}
use Rattle.octets.specs.Bytes.{part_or, part_place}
use Rattle.octets.specs.declared.error.Error.TheVariants.{NoName}
use Rattle.utf8.specs.Utf8.{is_utf8}
use Rattle.records_spec.specs.Types.{shortened_name_type, complete_name_type}
use Rattle.records_spec.specs.Search.{searched}
use Rattle.octets.specs.declared.bytes.Part.{Part}
use Rattle.records_spec.specs.HubReading.{unpadded, read_padded}
use Rattle.names_spec.specs.declared.NamePlace.{NamePlace}
use Rattle.names_spec.specs.declared.NamePlace.TheVariants as place
use Rattle.octets.specs.declared.error.Error.{Error}

-- a record is its length, its type and its data (the Core, Vol 3 Part C, 11); those of a name are UTF-8 (the Supplement, Part A, 1.2)
unfoldable pub is_name : ℕ → List ℕ → Bool
is_name ty r = eqb (get_or r 1 0) ty && is_utf8 (drop 2 r)

unfoldable pub name_in : ℕ → List ℕ → Option Part
name_in ty s = searched (is_name ty) s

-- what a search of the reply, or of the advertisement, finds; or else what comes after it
unfoldable pub in_reply : Option Part → Result NamePlace Error → Result NamePlace Error
in_reply (Some part) else = Ok (place.InReply part)
in_reply None else = else

unfoldable pub in_advertisement : Option Part → Result NamePlace Error → Result NamePlace Error
in_advertisement (Some part) else = Ok (place.InAdvertisement part)
in_advertisement None else = else

-- "A complete name in the reply comes first, then complete in the advertisement, then shortened in the reply, then shortened in the advertisement."
unfoldable pub chosen : List ℕ → List ℕ → Result NamePlace Error
chosen advertisement reply =
    in_reply (name_in complete_name_type reply)
    (in_advertisement (name_in complete_name_type advertisement)
    (in_reply (name_in shortened_name_type reply)
    (in_advertisement (name_in shortened_name_type advertisement)
    (Err NoName))))

-- a reading refusal comes before anything else
unfoldable pub after_area : Result (ℕ × ℕ) Error → Result NamePlace Error → Result NamePlace Error
after_area (Ok (n, taken)) name = name
after_area (Err e) name = Err e

unfoldable pub name_of : List ℕ → List ℕ → Result NamePlace Error
name_of advertisement reply = after_area (read_padded advertisement) (after_area (read_padded reply) (chosen (unpadded advertisement) (unpadded reply)))

abbrev pub handed_from : Result NamePlace Error → Bor (List ℕ) → Bor (List ℕ) → ℕ × ℕ
handed_from (Ok (place.InReply part)) advertisement reply = part_place part.len reply part.start
handed_from (Ok (place.InAdvertisement part)) advertisement reply = part_place part.len advertisement part.start
handed_from (Err e) advertisement reply = advertisement.ref_ptr

abbrev pub handed_on : Result NamePlace Error → List ℕ → List ℕ → List ℕ
handed_on (Ok (place.InReply part)) advertisement reply = part_or part.len reply part.start
handed_on (Ok (place.InAdvertisement part)) advertisement reply = part_or part.len advertisement part.start
handed_on (Err e) advertisement reply = []

abbrev pub name_from : Bor (List ℕ) → Bor (List ℕ) → ℕ × ℕ
name_from advertisement reply = handed_from (name_of advertisement.now reply.now) advertisement reply

abbrev pub name_octets : List ℕ → List ℕ → List ℕ
name_octets advertisement reply = handed_on (name_of advertisement reply) advertisement reply
