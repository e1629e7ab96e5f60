-- A record that was left as type and data, read on and written again: `read_on_and_rewritten`.
-- Assumes nothing.
use mathlib.Core.Path.{◌≡◌, refl, sym, ap, ◌∙◌, subst}
use mathlib.Core.Bool.{Bool, true, false, cond}
use mathlib.Core.List.{List, [], ◌∷◌, ◌++◌}
use Prim.Native.Nat.{ℕ, ◌+◌, ◌-◌, ◌≤◌, ◌<◌}
use native.Mathlib.Omega.{arith}
use lib.ListN.{length, get_or, take, drop, take-append-drop}
use lib.Seq.{get_or-take, get_or-drop, drop-drop}
use lib.Dec.{ltb, eqb}
use borrow.Author.Tests.{leb-true, eqb-true, ltb-false, le-ltb}
use Rattle.octets.specs.declared.error.Error.TheVariants.{Eof, InvalidValue}
use Rattle.octets.specs.declared.uuid.UuidKind.TheVariants.{Uuid32, Uuid128}
use Rattle.octets.specs.Bytes.{has, part, le, le_bytes}
use Rattle.octets.specs.Laws.{Octets}
use Rattle.utf8.specs.Utf8.{is_utf8}
use Rattle.octets.proofs.Laws.{parts, octet_at}
use Rattle.octets.proofs.Numbers.{field}
use Rattle.octets.proofs.Places.{enough, part_octets, drop_take}
use Rattle.records_spec.specs.declared.ad_structure.AdStructure.{AdStructure}
use Rattle.records_spec.specs.declared.ad_structure.AdStructure.TheVariants as ad
use Rattle.records_spec.specs.Record.{record_of, uuids_read, local_name, name_read, pair_kind, of_kind, pair_read, number_read, data_read, kind_read, lent_read, known_read}
use Rattle.records_spec.specs.Write.{record_start, record_len, data_of, may_write, record_octets, written_to, written_after}
use Rattle.records_spec.specs.Area.{clean}
use Rattle.records_spec.specs.RoundTrip.{ReadOnAgain, ReadOnAndRewritten}
use Rattle.records_spec.proofs.Again.{clean_data_law, clean_data_length, Means, Meant, lent, uuids_meant, meant}
use Rattle.std.specs.Prelude.{Ok, Err}

module _ (s : List ℕ) (ty : ℕ) (d : List ℕ) (start : ℕ) (room : start + length d ≤ length s) (lies : part (length d) s start ≡ d) where
  name_meant : (complete : Bool) → cond complete 9 8 ≡ ty → (ty ≡ 1 → ⊥) → Meant s ty d start (name_read complete d start)
  unfolding name_read data_of
  name_meant complete is other = go (is_utf8 d) complete is refl
    where
      go : (good complete : Bool) → cond complete 9 8 ≡ ty → is_utf8 d ≡ good → Meant s ty d start (cond good (Ok (local_name complete start (length d))) (Err InvalidValue))
      go true true is e = record { type = is; inside = room; fine = rw (lies, e); octets = lies ∙ lent s ty d start room lies other }
      go true false is e = record { type = is; inside = room; fine = rw (lies, e); octets = lies ∙ lent s ty d start room lies other }
      go false complete is e = tt

  -- a number of two octets, and the data after it
  joined : 2 ≤ length d → get_or d 0 0 < 256 → get_or d 1 0 < 256 → le_bytes 2 (le (part 2 d 0)) ++ part (length d - 2) s (start + 2) ≡ d
  joined two low high =
      let pair : part 2 d 0 ≡ get_or d 0 0 ∷ get_or d 1 0 ∷ [] = part_octets 1 d 0 two in
      let number : le_bytes 2 (le (part 2 d 0)) ≡ take 2 d = rw pair ((field 2).octets_back (get_or d 0 0 ∷ get_or d 1 0 ∷ []) refl (low, (high, tt))) ∙ sym pair in
      let rest : part (length d - 2) s (start + 2) ≡ drop 2 d =
      ap (take (length d - 2)) (sym (drop-drop 2 start s)) ∙ sym (drop_take 2 (length d) (drop start s)) ∙ ap (drop 2) lies in
      ap (λ (l : List ℕ). l ++ part (length d - 2) s (start + 2)) number ∙ ap (λ (l : List ℕ). take 2 d ++ l) rest ∙ take-append-drop 2 d

  pair_meant : (service : Bool) → cond service 0x16 0xFF ≡ ty → (ty ≡ 1 → ⊥) → (2 ≤ length d → (get_or d 0 0 < 256) × (get_or d 1 0 < 256)) → Meant s ty d start (pair_read (pair_kind service) d start)
  unfolding number_read data_of
  pair_meant service is other octets = go (ltb (length d) 2) service is refl
    where
      go : (short service : Bool) → cond service 0x16 0xFF ≡ ty → ltb (length d) 2 ≡ short
          → Meant s ty d start (of_kind (pair_kind service) (cond short (Err Eof) (Ok (le (part 2 d 0), record { start = start + 2; len = length d - 2 }))))
      go true service is e = tt
      go false true is e =
          let two : 2 ≤ length d = ltb-false (length d) 2 e in
          record { type = is; inside = omega arith; fine = refl; octets = joined two (octets two).0 (octets two).1 ∙ lent s ty d start room lies other }
      go false false is e =
          let two : 2 ≤ length d = ltb-false (length d) 2 e in
          record { type = is; inside = omega arith; fine = refl; octets = joined two (octets two).0 (octets two).1 ∙ lent s ty d start room lies other }

  kind_meant : (2 ≤ length d → (get_or d 0 0 < 256) × (get_or d 1 0 < 256)) → Meant s ty d start (kind_read ty d start)
  unfolding kind_read
  kind_meant octets = go (eqb ty 4) (eqb ty 5) (eqb ty 6) (eqb ty 7) (eqb ty 8) (eqb ty 9) (eqb ty 0x16) (eqb ty 0xFF) refl refl refl refl refl refl refl refl
    where
      go : (a b c e f g h i : Bool) → eqb ty 4 ≡ a → eqb ty 5 ≡ b → eqb ty 6 ≡ c → eqb ty 7 ≡ e → eqb ty 8 ≡ f → eqb ty 9 ≡ g → eqb ty 0x16 ≡ h → eqb ty 0xFF ≡ i
          → Meant s ty d start (cond a (uuids_read Uuid32 false d start) (cond b (uuids_read Uuid32 true d start) (cond c (uuids_read Uuid128 false d start) (cond e (uuids_read Uuid128 true d start) (cond f (name_read false d start) (cond g (name_read true d start) (cond h (pair_read (pair_kind true) d start) (cond i (pair_read (pair_kind false) d start) (data_read ty d start)))))))))
      go true b c e f g h i p₁ p₂ p₃ p₄ p₅ p₆ p₇ p₈ = uuids_meant s ty d start room lies Uuid32 false (sym (eqb-true ty 4 p₁)) (λ t. omega (arith, eqb-true ty 4 p₁))
      go false true c e f g h i p₁ p₂ p₃ p₄ p₅ p₆ p₇ p₈ = uuids_meant s ty d start room lies Uuid32 true (sym (eqb-true ty 5 p₂)) (λ t. omega (arith, eqb-true ty 5 p₂))
      go false false true e f g h i p₁ p₂ p₃ p₄ p₅ p₆ p₇ p₈ = uuids_meant s ty d start room lies Uuid128 false (sym (eqb-true ty 6 p₃)) (λ t. omega (arith, eqb-true ty 6 p₃))
      go false false false true f g h i p₁ p₂ p₃ p₄ p₅ p₆ p₇ p₈ = uuids_meant s ty d start room lies Uuid128 true (sym (eqb-true ty 7 p₄)) (λ t. omega (arith, eqb-true ty 7 p₄))
      go false false false false true g h i p₁ p₂ p₃ p₄ p₅ p₆ p₇ p₈ = name_meant false (sym (eqb-true ty 8 p₅)) (λ t. omega (arith, eqb-true ty 8 p₅))
      go false false false false false true h i p₁ p₂ p₃ p₄ p₅ p₆ p₇ p₈ = name_meant true (sym (eqb-true ty 9 p₆)) (λ t. omega (arith, eqb-true ty 9 p₆))
      go false false false false false false true i p₁ p₂ p₃ p₄ p₅ p₆ p₇ p₈ = pair_meant true (sym (eqb-true ty 0x16 p₇)) (λ t. omega (arith, eqb-true ty 0x16 p₇)) octets
      go false false false false false false false true p₁ p₂ p₃ p₄ p₅ p₆ p₇ p₈ = pair_meant false (sym (eqb-true ty 0xFF p₈)) (λ t. omega (arith, eqb-true ty 0xFF p₈)) octets
      go false false false false false false false false p₁ p₂ p₃ p₄ p₅ p₆ p₇ p₈ = meant s ty d start room lies

-- what is meant is written again
module _ (s : List ℕ) (ty start len : ℕ) (b : AdStructure) (inside : start + len ≤ length s) (m : Means s ty (part len s start) start b) where
  size : length (data_of b s) ≡ len
  size = rw (m.octets, clean_data_length ty (part len s start)) ((parts s).as_long len start inside)

  may : (out : List ℕ) (at : ℕ) → at + 2 + len ≤ length out → len < 255 → may_write b s out at ≡ Ok tt
  unfolding may_write
  may out at room short =
      simp (enough (record_len b) s (record_start b) m.inside, m.fine, enough (length (data_of b s) + 2) out at (omega (arith, size)), le-ltb 255 (length (data_of b s) + 1) (omega (arith, size)))

  octets_are : record_octets b s ≡ clean (record_of ty (part len s start))
  unfolding record_octets record_of
  octets_are = rw (clean_data_law, m.type, m.octets, clean_data_length ty (part len s start))

  octets_long : length (record_octets b s) ≡ 2 + len
  unfolding record_octets record_of
  octets_long = omega (arith, size)

  written_so : (out : List ℕ) (at : ℕ) → at + 2 + len ≤ length out → len < 255 → ReadOnAgain ty start len s out at b
  unfolding written_to written_after
  written_so out at room short =
      let ends : at + length (record_octets b s) ≡ at + 2 + len = omega (arith, octets_long) in
      record { answers = rw (may out at room short, ends); writes = rw (may out at room short, octets_are) }

again : (s : List ℕ) → Octets s → (ty start len : ℕ) (b : AdStructure) → known_read (ad.Unknown ty start len) s ≡ Ok b → (out : List ℕ) (at : ℕ) → at + 2 + len ≤ length out → len < 255
    → ReadOnAgain ty start len s out at b
unfolding known_read lent_read
again s octets ty start len b = go (has len s start) refl
  where
    d : List ℕ
    d = part len s start

    go : (there : Bool) → has len s start ≡ there → cond there (kind_read ty d start) (Err Eof) ≡ Ok b → (out : List ℕ) (at : ℕ) → at + 2 + len ≤ length out → len < 255
        → ReadOnAgain ty start len s out at b
    go false t e out at room short = absurd (let z : ◌≡◌ {A = ℕ} 0 1 = cc in omega arith)
    go true t e out at room short =
        let inside : start + len ≤ length s = leb-true (start + len) (length s) t in
        let long : length d ≡ len = (parts s).as_long len start inside in
        let octet : (i : ℕ) → i < len → get_or d i 0 < 256 =
        λ i h. rw (get_or-take len (drop start s) i 0 h, get_or-drop start s i 0) (octet_at s (start + i) octets (omega arith)) in
        let lies : part (length d) s start ≡ d = ap (λ (n : ℕ). part n s start) long in
        let means : Meant s ty d start (kind_read ty d start) = kind_meant s ty d start (omega arith) lies (λ two. (octet 0 (omega arith), octet 1 (omega arith))) in
        written_so s ty start len b inside (subst (Meant s ty d start) e means) out at room short

same : (s : List ℕ) (a : AdStructure) → ((ty start len : ℕ) → a ≡ ad.Unknown ty start len → ⊥) → known_read a s ≡ Ok a
unfolding known_read
same s (ad.Flags f) other = refl
same s (ad.ServiceUuids16 complete start len) other = refl
same s (ad.ServiceUuids32 complete start len) other = refl
same s (ad.ServiceUuids128 complete start len) other = refl
same s (ad.ServiceData16 uuid start len) other = refl
same s (ad.CompleteLocalName start len) other = refl
same s (ad.ShortenedLocalName start len) other = refl
same s (ad.ManufacturerSpecificData company start len) other = refl
same s (ad.Unknown ty start len) other = absurd (other ty start len refl)

pub read_on_and_rewritten : (s : List ℕ) → ReadOnAndRewritten s
read_on_and_rewritten s = record { again = again s; same = same s }
