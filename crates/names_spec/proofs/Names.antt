-- The look-up in the Note's words: `looks_up`, `eleven`, `hands_on`, `any_place`; worked values: `rows`, `part_rows`; all of them: `holds`. Assumes nothing.
use mathlib.Core.List.{List, [], ◌∷◌, ◌++◌, append_assoc, flatten}
use mathlib.Core.Path.{◌≡◌, refl, sym, ap, subst, ◌∙◌}
use Prim.Native.Nat.{ℕ, suc, ◌+◌}
use native.Mathlib.Omega.{arith}
use lib.Dec.{eqb}
use lib.ListN.{length, length-append}
use borrow.Author.Tests.{eqb-true, eq-eqb}
use denote.Ref.{Bor}
use Rattle.octets.specs.Bytes.{part_or, part_place}
use Rattle.octets.specs.declared.error.Error.{Error}
use Rattle.octets.specs.declared.error.Error.TheVariants.{NoName}
use Rattle.octets.proofs.PartOf.{part_is}
use Rattle.octets.proofs.Places.{both_true}
use Rattle.utf8.specs.Utf8.{is_utf8, row_in, utf8_after}
use Rattle.records_spec.specs.Accepted.{Bad, zero_length, too_few, wrong_flags, odd_list}
use Rattle.records_spec.specs.Area.{cut, reads, with_first, area_of, read_area}
use Rattle.records_spec.specs.HubReads.{Fault, bad_record, not_zero, PaddedVerdict}
use Rattle.records_spec.specs.HubReading.{before_zero, unpadded, is_zeros, ended_by, read_padded}
use Rattle.records_spec.specs.Record.{flags_read, uuids_read, data_read, up_to, record_read, first}
use Rattle.flags.specs.Flags.{named}
use Rattle.records_spec.specs.Search.{first_where, searched, IsRead, Stands, Told, Decides, Searching}
use Rattle.octets.specs.declared.bytes.Part.{Part}
use Rattle.records_spec.proofs.HubReads.{hub_reads}
use Rattle.records_spec.proofs.Search.{searching}
use Rattle.names_spec.specs.Laws.{Named, complete_type, shortened_type, Answers, bad_advertisement, bad_reply, complete_in_reply, complete_in_advertisement, shortened_in_reply, shortened_in_advertisement, no_name, LooksUp, NoNames, Eleven, HandsOn, Hands, AnyPlace, NameRows, PartRows, Holds}
use Rattle.names_spec.specs.Name.{is_name, name_in, in_reply, in_advertisement, chosen, after_area, name_of}
use Rattle.names_spec.specs.declared.NamePlace.{NamePlace}
use Rattle.std.specs.Prelude.{Result, Ok, Err, Option, Some, None}

-- the test of a record is whether it is a name
decides_name : (ty : ℕ) → Decides (is_name ty) (Named ty)
unfolding is_name
decides_name ty =
    record {
      sound = λ n t octets passes. let holds = both_true (eqb t ty) (is_utf8 octets) passes in (eqb-true t ty holds.0, holds.1);
      complete = λ n t octets is. rw (eq-eqb t ty is.0, is.1);
    }

-- what is found of a type in an area that is read
search : (s : List ℕ) → IsRead s → (ty : ℕ) → Searching (is_name ty) (Named ty) s
search s x ty = searching s x (decides_name ty)

module _ (a r : List ℕ) where
  -- the searches of two areas that are read
  choice : IsRead a → IsRead r → Answers a r (chosen (unpadded a) (unpadded r))
  unfolding chosen in_reply in_advertisement name_in
  choice x y =
      pick (name_in complete_type (unpadded r)) (search r y complete_type).told (name_in complete_type (unpadded a)) (search a x complete_type).told (name_in shortened_type (unpadded r)) (search r y shortened_type).told
      (name_in shortened_type (unpadded a)) (search a x shortened_type).told
    where
      pick : (f : Option Part) → Told (Named complete_type) r f → (g : Option Part) → Told (Named complete_type) a g → (h : Option Part) → Told (Named shortened_type) r h → (k : Option Part) → Told (Named shortened_type) a k
          → Answers a r (in_reply f (in_advertisement g (in_reply h (in_advertisement k (Err NoName)))))
      pick (Some at) tf g tg h th k tk = complete_in_reply at.start at.len x y tf
      pick None tf (Some at) tg h th k tk = complete_in_advertisement at.start at.len x y tf tg
      pick None tf None tg (Some at) th k tk = shortened_in_reply at.start at.len x y tf tg th
      pick None tf None tg None th (Some at) tk = shortened_in_advertisement at.start at.len x y tf tg th tk
      pick None tf None tg None th None tk = no_name x y tf tg th tk

  found : Answers a r (name_of a r)
  unfolding name_of after_area
  found = go (read_padded a) refl (read_padded r) refl
    where
      go : (x : Result (ℕ × ℕ) Error) → read_padded a ≡ x → (y : Result (ℕ × ℕ) Error) → read_padded r ≡ y → Answers a r (after_area x (after_area y (chosen (unpadded a) (unpadded r))))
      go (Err e) is y also = bad_advertisement e is
      go (Ok (n, taken)) is (Err e) also = bad_reply e (record { number = n; taken = taken; accepted = is }) also
      go (Ok (n, taken)) is (Ok (m, more)) also = choice (record { number = n; taken = taken; accepted = is }) (record { number = m; taken = more; accepted = also })

  -- what is left of the definition where both areas are read
  read_both : IsRead a → IsRead r → name_of a r ≡ chosen (unpadded a) (unpadded r)
  unfolding name_of after_area
  read_both x y = rw (x.accepted, y.accepted)

  only : (p : Result NamePlace Error) → Answers a r p → name_of a r ≡ p
  unfolding name_of after_area chosen in_reply in_advertisement name_in
  only _ (bad_advertisement e is) = rw is
  only _ (bad_reply e x is) = rw (x.accepted, is)
  only _ (complete_in_reply start len x y c) = read_both x y ∙ rw ((search r y complete_type).first start len c)
  only _ (complete_in_advertisement start len x y n c) = read_both x y ∙ rw ((search r y complete_type).none n, (search a x complete_type).first start len c)
  only _ (shortened_in_reply start len x y n m c) = read_both x y ∙ rw ((search r y complete_type).none n, (search a x complete_type).none m, (search r y shortened_type).first start len c)
  only _ (shortened_in_advertisement start len x y n m k c) =
      read_both x y ∙ rw ((search r y complete_type).none n, (search a x complete_type).none m, (search r y shortened_type).none k, (search a x shortened_type).first start len c)
  only _ (no_name x y n m k l) = read_both x y ∙ rw ((search r y complete_type).none n, (search a x complete_type).none m, (search r y shortened_type).none k, (search a x shortened_type).none l)

pub looks_up : (a r : List ℕ) → LooksUp a r
looks_up a r = record { found = found a r; only = only a r }

-- no area is refused for want of a name
no_bad : (l : List ℕ) (e : Error) → Bad l e → e ≡ NoName → ⊥
no_bad _ _ zero_length is = let z : ◌≡◌ {A = ℕ} 0 1 = cc in omega arith
no_bad _ _ (too_few some few) is = let z : ◌≡◌ {A = ℕ} 0 1 = cc in omega arith
no_bad _ _ (wrong_flags some there type other) is = let z : ◌≡◌ {A = ℕ} 0 1 = cc in omega arith
no_bad _ _ (odd_list some there type even) is = let z : ◌≡◌ {A = ℕ} 0 1 = cc in omega arith

no_fault : (s : List ℕ) → read_padded s ≡ Err NoName → ⊥
no_fault s is = go NoName refl (subst (PaddedVerdict s) is (hub_reads s).found)
  where
    go : (e : Error) → e ≡ NoName → Fault s e → ⊥
    go e same (bad_record front m n rest cuts good some bad) = no_bad _ e bad same
    go _ same (not_zero front m k x rest cuts good some) = let z : ◌≡◌ {A = ℕ} 0 1 = cc in omega arith

pub eleven : (a r : List ℕ) → Eleven a r
eleven a r =
    record {
      only_then = λ is. go (name_of a r) is (found a r);
      then = λ n. only a r (Err NoName) (no_name n.advertisement n.reply n.complete.1 n.complete.0 n.shortened.1 n.shortened.0);
    }
  where
    refusals : {e : Error} → ◌≡◌ {A = Result NamePlace Error} (Err e) (Err NoName) → e ≡ NoName
    refusals is = cc

    go : (p : Result NamePlace Error) → p ≡ Err NoName → Answers a r p → NoNames a r
    go _ is (bad_advertisement e bad) = absurd (no_fault a (bad ∙ ap Err (refusals is)))
    go _ is (bad_reply e x bad) = absurd (no_fault r (bad ∙ ap Err (refusals is)))
    go _ is (complete_in_reply start len x y c) = absurd (let z : ◌≡◌ {A = ℕ} 0 1 = cc in omega arith)
    go _ is (complete_in_advertisement start len x y n c) = absurd (let z : ◌≡◌ {A = ℕ} 0 1 = cc in omega arith)
    go _ is (shortened_in_reply start len x y n m c) = absurd (let z : ◌≡◌ {A = ℕ} 0 1 = cc in omega arith)
    go _ is (shortened_in_advertisement start len x y n m k c) = absurd (let z : ◌≡◌ {A = ℕ} 0 1 = cc in omega arith)
    go _ is (no_name x y n m k l) = record { advertisement = x; reply = y; complete = (m, n); shortened = (l, k) }

-- ---- the part that is handed on
-- by octets' law of parts
hands : (s : Bor (List ℕ)) (start len : ℕ) → Hands s start len (part_place len s start) (part_or len s.now start)
hands s start len =
    record {
      there = λ before xs behind is begins long.
          let told = (part_is s).there before xs behind is in
          rw (← begins, ← long) (told.0, told.1);
      fewer = λ few. (part_is s).fewer len start few;
    }

part_there : (s : Bor (List ℕ)) (ty start len : ℕ) (n : Stands (Named ty) s.now start len) → (part_or len s.now start ≡ n.octets) × (part_place len s start ≡ (s.ref_ptr.0, s.ref_ptr.1 + start))
part_there s ty start len n =
    let ahead : List ℕ = n.before ++ (suc (length n.octets) ∷ n.type ∷ []) in
    let cuts : s.now ≡ ahead ++ (n.octets ++ n.behind) = n.made_up ∙ sym (append_assoc n.before (suc (length n.octets) ∷ n.type ∷ []) (n.octets ++ n.behind)) in
    (hands s start len).there ahead n.octets n.behind cuts (length-append n.before (suc (length n.octets) ∷ n.type ∷ []) ∙ sym n.begins) (sym n.long)

pub hands_on : (a r : Bor (List ℕ)) → HandsOn a r
hands_on a r =
    record {
      of_reply = λ ty start len is n. rw is (part_there r ty start len n);
      of_advertisement = λ ty start len is n. rw is (part_there a ty start len n);
      refused = λ e is. rw is (refl, refl);
    }

pub any_place : (a r : Bor (List ℕ)) → AnyPlace a r
any_place a r = record { of_reply = hands r; of_advertisement = hands a; refused = λ e. (refl, refl) }

pub rows : NameRows
unfolding name_of after_area chosen in_reply in_advertisement name_in searched first_where is_name row_in utf8_after read_padded ended_by is_zeros unpadded before_zero flatten read_area area_of reads with_first cut first record_read data_read flags_read uuids_read up_to named
rows =
    record {
      first = refl;
      second = refl;
      third = refl;
      fourth = refl;
      none = refl;
      none_either = refl;
      of_two = refl;
      passed_over = refl;
      passed_over_twice = refl;
      nothing_in_it = refl;
      padded_areas = refl;
      padded_alone = refl;
      zeros_alone = refl;
      behind_the_zero = refl;
      bad_first = refl;
      bad_second = refl;
      bad_both = refl;
      bad_both_ways = refl;
      bad_before_none = refl;
      bad_behind = refl;
    }

pub part_rows : (x : Bor (List ℕ)) → PartRows x
unfolding name_of after_area chosen in_reply in_advertisement name_in searched first_where is_name row_in utf8_after read_padded ended_by is_zeros unpadded before_zero flatten read_area area_of reads with_first cut first record_read data_read flags_read uuids_read up_to named
part_rows x = record { first = refl; second = refl; third = refl; fourth = refl; nothing_in_it = refl; none = refl; bad = refl }

pub holds : Holds
holds = record { looks_up = looks_up; eleven = eleven; hands_on = hands_on; any_place = any_place; rows = rows; part_rows = part_rows }
