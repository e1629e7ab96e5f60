-- What it means that some number passes a test, that a whitelist matches, and which filter a request is held to. Assumes nothing.
use mathlib.Core.Bool.{Bool, true, false, cond, not, ◌||◌, or-false, or-true}
use mathlib.Core.List.{List, ◌∷◌}
use mathlib.Core.Logic.{inl, inr}
use mathlib.Core.Path.{◌≡◌, refl, sym, ap, ◌∙◌}
use Prim.Native.Nat.{ℕ, zero, suc, ◌+◌, ◌*◌, ◌/◌, ◌%◌, ◌≤◌, ◌<◌}
use native.Mathlib.Omega.{arith}
use lib.ListN.{length, get_or}
use lib.Dec.{eqb, ltb}
use borrow.Author.Tests.{eqb-true, eq-eqb, le-ltb, ltb-false, not-true}
use Rattle.octets.proofs.Places.{both_true, front}
use Rattle.octets.specs.Bytes.{part}
use Rattle.octets.specs.declared.error.Error.TheVariants.{InvalidValue}
use Rattle.addresses.specs.Address.{kind_number, kind_of}
use Rattle.addresses.specs.Filter.{any, entry_at, bad_kind, entry_is, is_list, whitelisted, matches_of}
use Rattle.addresses.specs.Laws.{ListEntry, Listed, HeldTo, Policies}
use Rattle.addresses.specs.declared.device_address.DeviceAddress.{DeviceAddress}
use Rattle.addresses.specs.declared.filter.AddressFilter.{AddressFilter}
use Rattle.addresses.specs.declared.filter.AddressFilter.TheVariants.{AllowAll, Whitelist}
use Rattle.addresses.proofs.Addresses.{equality, one_kind}
use Rattle.std.specs.Prelude.{Ok, Err}

pub any_none : (p : ℕ → Bool) (n : ℕ) → ((i : ℕ) → i < n → p i ≡ false) → any p n ≡ false
unfolding any
any_none p zero none = refl
any_none p (suc n) none = rw (any_none p n (λ i h. none i (omega arith)), none n (omega arith))

pub any_found : (p : ℕ → Bool) (n i : ℕ) → i < n → p i ≡ true → any p n ≡ true
unfolding any
any_found p zero i h e = absurd (omega arith)
any_found p (suc n) i h e = go (p n) refl (any_found p n i)
  where
    go : (b : Bool) → p n ≡ b → (i < n → p i ≡ true → any p n ≡ true) → any p n || p n ≡ true
    go true last before = rw last (or-true (any p n))
    go false last before =
        let other : i ≡ n → ⊥ = λ same. let z : ◌≡◌ {A = ℕ} 0 1 = cc (ap p same) in omega arith in
        rw (before (omega arith) e)

-- a number that passes
record Passing (p : ℕ → Bool) (n : ℕ) : Type 0 where
  number : ℕ
  below : number < n
  passes : p number ≡ true

any_passing : (p : ℕ → Bool) (n : ℕ) → any p n ≡ true → Passing p n
unfolding any
any_passing p zero e = let z : ◌≡◌ {A = ℕ} 0 1 = cc in absurd (omega arith)
any_passing p (suc n) e = go (p n) refl e (any_passing p n)
  where
    go : (b : Bool) → p n ≡ b → any p n || p n ≡ true → (any p n ≡ true → Passing p n) → Passing p (suc n)
    go true last found before = record { number = n; below = omega arith; passes = last }
    go false last found before =
        let earlier = before (sym (or-false (any p n)) ∙ (rw last at found)) in
        record { number = earlier.number; below = omega (arith, earlier.below); passes = earlier.passes }

-- a list without a bad kind
kind_small : (list : List ℕ) (n i : ℕ) → any (bad_kind list) n ≡ false → i < n → get_or list (7 * i) 0 ≤ 1
kind_small list n i none h = go (ltb 1 (get_or list (7 * i) 0)) refl
  where
    go : (b : Bool) → ltb 1 (get_or list (7 * i) 0) ≡ b → get_or list (7 * i) 0 ≤ 1
    go true e =
        let found = any_found (bad_kind list) n i h e in
        let z : ◌≡◌ {A = ℕ} 0 1 = cc in
        absurd (omega arith)
    go false e = ltb-false 1 (get_or list (7 * i) 0) e

-- and the other way
kinds_small : (list : List ℕ) (n : ℕ) → ((i : ℕ) → i < n → get_or list (7 * i) 0 ≤ 1) → any (bad_kind list) n ≡ false
unfolding any
kinds_small list zero small = refl
kinds_small list (suc n) small = rw (kinds_small list n (λ i l. small i (omega arith)), le-ltb 1 (get_or list (7 * n) 0) (small n (omega arith)))

-- an address as an entry has it
abbrev entry_octets : DeviceAddress → List ℕ
entry_octets a = kind_number a.kind ∷ a.bytes

octets_same : (a b : DeviceAddress) → entry_octets a ≡ entry_octets b → a ≡ b
octets_same a b e =
    let first : kind_number a.kind ≡ kind_number b.kind = cc in
    let others : a.bytes ≡ b.bytes = cc in
    let kinds = one_kind a.kind b.kind first in
    λ i. record { bytes = others i; kind = kinds i }

-- the octets of an entry of a list
entry_octets_law : (list : List ℕ) (i : ℕ) → 7 * i + 7 ≤ length list → get_or list (7 * i) 0 ≤ 1 → part 7 list (7 * i) ≡ entry_octets (entry_at list i)
entry_octets_law list i inside small = rw (front list (7 * i) (omega arith)) (ap (λ (k : ℕ). k ∷ part 6 list (7 * i + 1)) (numbered (get_or list (7 * i) 0) small))
  where
    numbered : (k : ℕ) → k ≤ 1 → k ≡ kind_number (kind_of (eqb k 1))
    numbered zero h = refl
    numbered (suc zero) h = refl
    numbered (suc (suc k)) h = absurd (omega arith)

pub listed : (list : List ℕ) (a : DeviceAddress) → Listed list a
unfolding whitelisted any
listed list a =
    record {
      tested = tested;
      whole = λ l k. rw (eq-eqb (length list % 7) 0 l, kinds_small list (length list / 7) k);
      refused = λ bad. rw bad;
      sound = sound (is_list list) refl;
      complete = λ good entry.
          let same : entry_at list entry.place ≡ a = octets_same (entry_at list entry.place) a (sym (octets_there good entry.place entry.inside) ∙ entry.is) in
          let found = any_found (entry_is list a) (length list / 7) entry.place entry.inside ((equality (entry_at list entry.place) a).complete same) in
          rw (good, found);
      other = λ good none. rw good (ap Ok (nobody good (any (entry_is list a) (length list / 7)) refl none));
      empty = refl;
      all = refl;
    }
  where
    tested : is_list list ≡ true → (length list % 7 ≡ 0) × ((i : ℕ) → i < length list / 7 → get_or list (7 * i) 0 ≤ 1)
    tested good =
        let parts = both_true (eqb (length list % 7) 0) (not (any (bad_kind list) (length list / 7))) good in
        (eqb-true (length list % 7) 0 parts.0, λ i h. kind_small list (length list / 7) i (not-true (any (bad_kind list) (length list / 7)) parts.1) h)

    octets_there : is_list list ≡ true → (i : ℕ) → i < length list / 7 → part 7 list (7 * i) ≡ entry_octets (entry_at list i)
    octets_there good i h = entry_octets_law list i (omega arith) ((tested good).1 i h)

    entry_of : is_list list ≡ true → Passing (entry_is list a) (length list / 7) → ListEntry list a
    entry_of good found =
        record {
          place = found.number;
          inside = found.below;
          is = octets_there good found.number found.below ∙ ap entry_octets ((equality (entry_at list found.number) a).sound found.passes);
        }

    nobody : is_list list ≡ true → (b : Bool) → any (entry_is list a) (length list / 7) ≡ b → (ListEntry list a → ⊥) → b ≡ false
    nobody good true e none = absurd (none (entry_of good (any_passing (entry_is list a) (length list / 7) e)))
    nobody good false e none = refl

    sound : (b : Bool) → is_list list ≡ b → cond (is_list list) (Ok (any (entry_is list a) (length list / 7))) (Err InvalidValue) ≡ Ok true → ListEntry list a
    sound true e is =
        let answer = rw e at is in
        entry_of e (any_passing (entry_is list a) (length list / 7) (cc))
    sound false e is =
        let answer = rw e at is in
        let z : ◌≡◌ {A = ℕ} 0 1 = cc in
        absurd (omega arith)

two_filters : AllowAll ≡ Whitelist → ⊥
two_filters e = let z : ◌≡◌ {A = ℕ} 0 1 = cc in omega arith

pub policies : (scan connect : AddressFilter) (list : List ℕ) (a : DeviceAddress) → Policies scan connect list a
policies scan connect list a = record { scans = held scan; scans_alone = λ other. refl; connects = held connect; connects_alone = λ other. refl; scanner = held scan }
  where
    held : (f : AddressFilter) → HeldTo f list a (matches_of f list a)
    held AllowAll =
        record {
          passes = λ is. inl refl;
          all = λ f. refl;
          entry = λ f good e. refl;
          no_entry = λ f. absurd (two_filters f);
          refused = λ f. absurd (two_filters f);
        }
    held Whitelist =
        record {
          passes = λ is. inr ((listed list a).sound is);
          all = λ f. absurd (two_filters (sym f));
          entry = λ f. (listed list a).complete;
          no_entry = λ f. (listed list a).other;
          refused = λ f. (listed list a).refused;
        }
