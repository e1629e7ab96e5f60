-- A record that was read is written again as it stood, save the bits of Flags that have no name: `written_again`.
-- Assumes nothing.
use mathlib.Core.Path.{◌≡◌, refl, sym, ap, ◌∙◌, subst}
use mathlib.Core.Bool.{Bool, true, false, cond}
use mathlib.Core.List.{List, [], ◌∷◌}
use Prim.Native.Nat.{ℕ, suc, ◌+◌, ◌-◌, ◌≤◌, ◌<◌}
use native.Mathlib.Omega.{arith}
use lib.ListN.{length, get_or, set, take, drop, length-set, length-take, length-drop}
use lib.Seq.{drop-drop}
use lib.Dec.{ltb, eqb}
use borrow.Author.Tests.{eqb-true, eqb-false, ltb-false, le-ltb}
use Rattle.octets.specs.declared.error.Error.TheVariants.{Eof, InvalidLength}
use Rattle.octets.specs.declared.uuid.UuidKind.{UuidKind}
use Rattle.octets.specs.declared.uuid.UuidKind.TheVariants.{Uuid16, Uuid32, Uuid128}
use Rattle.octets.specs.Bytes.{part}
use Rattle.octets.proofs.Places.{enough, front, drop_take}
use Rattle.records_spec.specs.declared.ad_structure.AdStructure.{AdStructure}
use Rattle.records_spec.specs.declared.ad_structure.AdStructure.TheVariants as ad
use Rattle.records_spec.specs.Record.{record_of, flags_read, whole_uuids, uuid_list, uuids_read, data_read, up_to, record_read, first}
use Rattle.flags.specs.Flags.{named}
use Rattle.records_spec.specs.Write.{list_type, record_type, record_start, record_len, record_check, data_of, may_write, record_octets}
use Rattle.records_spec.specs.Area.{clean}
use Rattle.records_spec.proofs.Lists.{take_length_take}
use Rattle.records_spec.proofs.Cuts.{here, Step, stepped}
use Rattle.std.specs.Prelude.{Result, Ok, Option, Some, None, Err}
use Rattle.octets.specs.declared.error.Error.{Error}

pub named_twice : (x : ℕ) → named (named x) ≡ named x
unfolding named
named_twice x = omega arith

-- data as they are written again
abbrev pub clean_data : ℕ → List ℕ → List ℕ
clean_data ty d = cond (eqb ty 1) (set d 0 (named (get_or d 0 0))) d

pub clean_data_law : (n ty : ℕ) (d : List ℕ) → clean (n ∷ ty ∷ d) ≡ n ∷ ty ∷ clean_data ty d
unfolding clean
clean_data_law n ty d = go (eqb ty 1)
  where
    go : (flags : Bool) → cond flags (set (n ∷ ty ∷ d) 2 (named (get_or d 0 0))) (n ∷ ty ∷ d) ≡ n ∷ ty ∷ cond flags (set d 0 (named (get_or d 0 0))) d
    go true = refl
    go false = refl

pub clean_data_length : (ty : ℕ) (d : List ℕ) → length (clean_data ty d) ≡ length d
clean_data_length ty d = go (eqb ty 1)
  where
    go : (flags : Bool) → length (cond flags (set d 0 (named (get_or d 0 0))) d) ≡ length d
    go true = length-set d 0 (named (get_or d 0 0))
    go false = refl

-- what a structure says that was read from data d of type ty, which lie at `start` of s
pub record Means (s : List ℕ) (ty : ℕ) (d : List ℕ) (start : ℕ) (a : AdStructure) : Type 0 where
  pub type : record_type a ≡ ty
  pub inside : record_start a + record_len a ≤ length s
  pub fine : record_check a (part (record_len a) s (record_start a)) ≡ Ok tt
  pub octets : data_of a s ≡ clean_data ty d

abbrev pub Meant : List ℕ → ℕ → List ℕ → ℕ → Result AdStructure Error → Type 0
Meant s ty d start (Ok a) = Means s ty d start a
Meant s ty d start (Err e) = Unit {0}

one_octet : (d : List ℕ) → length d ≡ 1 → named (named (get_or d 0 0)) ∷ [] ≡ set d 0 (named (get_or d 0 0))
one_octet [] one = absurd (omega arith)
one_octet (b ∷ []) one = ap (λ (x : ℕ). x ∷ []) (named_twice b)
one_octet (b ∷ x ∷ d) one = absurd (omega arith)

module _ (s : List ℕ) (ty : ℕ) (d : List ℕ) (start : ℕ) (room : start + length d ≤ length s) (lies : part (length d) s start ≡ d) where
  flags_meant : ty ≡ 1 → Meant s ty d start (flags_read d)
  unfolding flags_read data_of
  flags_meant is = go (eqb (length d) 1) refl
    where
      go : (one : Bool) → eqb (length d) 1 ≡ one → Meant s ty d start (cond one (Ok (ad.Flags (record { bits = named (get_or d 0 0) }))) (Err InvalidLength))
      go true e = record { type = sym is; inside = omega arith; fine = refl; octets = rw is (one_octet d (eqb-true (length d) 1 e)) }
      go false e = tt

  -- data that are lent whole
  pub lent : (ty ≡ 1 → ⊥) → d ≡ clean_data ty d
  lent other = go (eqb ty 1) refl
    where
      go : (flags : Bool) → eqb ty 1 ≡ flags → d ≡ cond flags (set d 0 (named (get_or d 0 0))) d
      go true e = absurd (other (eqb-true ty 1 e))
      go false e = refl

  pub uuids_meant : (k : UuidKind) (complete : Bool) → list_type k complete ≡ ty → (ty ≡ 1 → ⊥) → Meant s ty d start (uuids_read k complete d start)
  unfolding uuids_read data_of
  uuids_meant k complete is other = go (whole_uuids k d) k is refl
    where
      go : (whole : Bool) (k : UuidKind) → list_type k complete ≡ ty → whole_uuids k d ≡ whole → Meant s ty d start (cond whole (Ok (uuid_list k complete start (length d))) (Err Eof))
      go true Uuid16 is e = record { type = is; inside = room; fine = rw (lies, e); octets = lies ∙ lent other }
      go true Uuid32 is e = record { type = is; inside = room; fine = rw (lies, e); octets = lies ∙ lent other }
      go true Uuid128 is e = record { type = is; inside = room; fine = rw (lies, e); octets = lies ∙ lent other }
      go false k is e = tt

  pub meant : Meant s ty d start (data_read ty d start)
  unfolding data_read data_of
  meant = go (eqb ty 1) (eqb ty 2) (eqb ty 3) refl refl refl
    where
      go : (f i c : Bool) → eqb ty 1 ≡ f → eqb ty 2 ≡ i → eqb ty 3 ≡ c
          → Meant s ty d start (cond f (flags_read d) (cond i (uuids_read Uuid16 false d start) (cond c (uuids_read Uuid16 true d start) (Ok (ad.Unknown ty start (length d))))))
      go true i c e₁ e₂ e₃ = flags_meant (eqb-true ty 1 e₁)
      go false true c e₁ e₂ e₃ = uuids_meant Uuid16 false (sym (eqb-true ty 2 e₂)) (eqb-false ty 1 e₁)
      go false false true e₁ e₂ e₃ = uuids_meant Uuid16 true (sym (eqb-true ty 3 e₃)) (eqb-false ty 1 e₁)
      go false false false e₁ e₂ e₃ = record { type = refl; inside = room; fine = refl; octets = lies ∙ lent (eqb-false ty 1 e₁) }

-- a record of n octets at position `at` of s, as reading finds it
abbrev Meaning : List ℕ → ℕ → ℕ → List ℕ → Result (Option (AdStructure × ℕ)) Error → Type 0
Meaning s at n body (Ok (Some (a, next))) = (length body ≡ n) × (0 < n) × Means s (get_or body 0 0) (drop 1 body) (at + 2) a
Meaning s at n body (Ok None) = Unit {0}
Meaning s at n body (Err e) = Unit {0}

meaning : (s : List ℕ) (at n : ℕ) (body : List ℕ) → body ≡ take n (drop (at + 1) s) → at + 1 ≤ length s → Meaning s at n body (record_read (n ∷ body) at)
unfolding record_read up_to
meaning s at n body is h = go (eqb n 0) (ltb (length body) n) (data_read (get_or body 0 0) (drop 1 body) (at + 2)) refl refl (λ some. meant s (get_or body 0 0) (drop 1 body) (at + 2) (room some) lies)
  where
    next : at + 1 + 1 ≡ at + 2
    next = omega arith

    d_is : drop 1 body ≡ take (n - 1) (drop (at + 2) s)
    d_is = rw (is, drop_take 1 _ _, drop-drop, next)

    room : 0 < length body → at + 2 + length (drop 1 body) ≤ length s
    room some = rw (length-drop, is, length-take, length-drop) (omega (arith, rw (is, length-take, length-drop) at some))

    lies : part (length (drop 1 body)) s (at + 2) ≡ drop 1 body
    lies = rw d_is (take_length_take (n - 1) (drop (at + 2) s))

    go : (none short : Bool) (p : Result AdStructure Error) → eqb n 0 ≡ none → ltb (length body) n ≡ short → (0 < length body → Meant s (get_or body 0 0) (drop 1 body) (at + 2) p)
        → Meaning s at n body (cond none (Err InvalidLength) (cond short (Err Eof) (up_to (at + length (n ∷ body)) p)))
    go true short p z f m = tt
    go false true p z f m = tt
    go false false (Ok a) z f m =
        let long : n ≤ length body = ltb-false (length body) n f in
        let some : n ≡ 0 → ⊥ = eqb-false n 0 z in
        let most : length body ≤ n = rw (is, length-take) (omega arith) in
        (omega arith, omega arith, m (omega arith))
    go false false (Err e) z f m = tt

head_tail : (l : List ℕ) → 0 < length l → l ≡ get_or l 0 0 ∷ drop 1 l
head_tail [] some = absurd (omega arith)
head_tail (x ∷ l) some = refl

-- so it may be written again where there is space, and its octets are the same
pub record Again (s out : List ℕ) (at : ℕ) (a : AdStructure) : Type 0 where
  pub may : may_write a s out at ≡ Ok tt
  pub octets : record_octets a s ≡ clean (first (drop at s))

pub written_again : (s out : List ℕ) (at : ℕ) {a : AdStructure} {next : ℕ} → here s at ≡ Ok (Some (a, next)) → get_or s at 0 < 256 → next ≤ length out → Again s out at a
unfolding here first record_octets may_write record_of
written_again s out at {a} {next} e octet h =
    let step : Step s at next = stepped s at e in
    let inside : at < length s = omega (arith, step.later, step.inside) in
    let n = get_or s at 0 in
    let body = take n (drop (at + 1) s) in
    let octets-at : first (drop at s) ≡ n ∷ body = rw (front s at inside) in
    let read : record_read (n ∷ body) at ≡ (Ok (Some (a, next))) = rw octets-at at e in
    let m : (length body ≡ n) × (0 < n) × Means s (get_or body 0 0) (drop 1 body) (at + 2) a = subst (Meaning s at n body) read (meaning s at n body refl (omega arith)) in
    let means = m.2 in
    let size : suc (length (data_of a s)) ≡ n = rw (means.octets, clean_data_length (get_or body 0 0) (drop 1 body), length-drop) (omega (arith, m.0, m.1)) in
    let ends : at + suc (length body) ≡ next = rw octets-at at step.ends in
    record {
      may = simp (enough (record_len a) s (record_start a) means.inside, means.fine, enough (length (data_of a s) + 2) out at (omega arith), le-ltb 255 (length (data_of a s) + 1) (omega arith));
      octets = rw (octets-at, size, means.type, means.octets, ← clean_data_law) (ap (λ (l : List ℕ). clean (n ∷ l)) (sym (head_tail body (omega (arith, m.0, m.1)))));
    }
