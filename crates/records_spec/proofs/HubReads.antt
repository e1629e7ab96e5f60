-- The hub's reading accepts exactly the areas of accepted records and then zeros alone, and refuses the others as their first fault is: `hub_reads`; where it differs from the
-- strict reading: `differs`; what rewriting the octets taken writes: `took`; worked values: `rows`. Assumes nothing.
use mathlib.Core.Path.{◌≡◌, refl, sym, ap, ◌∙◌, subst}
use mathlib.Core.Bool.{Bool, true, false, cond, ◌&&◌}
use mathlib.Core.List.{List, [], ◌∷◌, ◌++◌, append_assoc, append-nil, flatten}
use Prim.Native.Nat.{ℕ, zero, suc, ◌+◌, ◌-◌, ◌≤◌, ◌<◌}
use native.Mathlib.Omega.{arith}
use lib.ListN.{length, get_or, take, drop, replicate, length-append, length-take, length-drop, length-replicate, get_or-replicate, drop_of_length-le, take-append-drop, get_or-append}
use lib.Seq.{take_at, drop_at, take_all, get_or-take, get_or-append-add}
use lib.Dec.{eqb}
use borrow.Author.Tests.{eqb-true, eqb-false, ne_eqb}
use Rattle.octets.specs.Lists.{All}
use Rattle.octets.specs.declared.error.Error.{Error}
use Rattle.octets.specs.declared.error.Error.TheVariants.{InvalidLength}
use Rattle.records_spec.specs.Record.{flags_read, uuids_read, data_read, up_to, record_read, first}
use Rattle.flags.specs.Flags.{named}
use Rattle.records_spec.specs.Area.{cut, reads, with_first, area_of, read_area}
use Rattle.records_spec.specs.Accepted.{GoodRecord, IsList, Tiling, Bad, zero_length, too_few, wrong_flags, odd_list, FirstBad, Verdict}
use Rattle.records_spec.specs.HubReading.{before_zero, unpadded, is_zeros, ended_by, read_padded, area_in}
use Rattle.records_spec.specs.HubReads.{Padding, Fault, bad_record, not_zero, PaddedVerdict, HubReads, ZeroLength, took_all, Differs, WithoutSize, Took, PaddedRows}
use Rattle.records_spec.proofs.Accepted.{decided}
use Rattle.records_spec.proofs.Cuts.{cut_skip}
use Rattle.records_spec.proofs.Restored.{rewriting}
use Rattle.std.specs.Prelude.{Result, Ok, Err}

-- strictly accepted records are pieces, and the other way
pub tiling_of : (s : List ℕ) {m : ℕ} → read_area s ≡ Ok m → Tiling s m
tiling_of s is = subst (Verdict s) is (decided s).verdict

-- the octets before a zero length, after good records
pub unpadded_behind : (rs : List (List ℕ)) (l : List ℕ) → All GoodRecord rs → unpadded (flatten rs ++ l) ≡ flatten rs ++ unpadded l
unfolding unpadded before_zero cut first flatten
unpadded_behind [] l all = refl
unpadded_behind ([] ∷ rs) l all = absurd all.0
unpadded_behind ((n ∷ body) ∷ rs) l all =
    let more : List ℕ = flatten rs ++ l in
    let long : length body ≡ n = all.0.whole in
    let some : eqb n 0 ≡ false = ne_eqb n 0 (omega (arith, all.0.some)) in
    let later : unpadded more ≡ flatten rs ++ unpadded l = unpadded_behind rs l all.1 in
    rw (append_assoc body (flatten rs) l, some, take_at body more n long, cut_skip (body ++ more) n, drop_at body more n long, later)
    (ap (λ (k : List ℕ). n ∷ k) (sym (append_assoc body (flatten rs) (unpadded l))))

-- a zero length ends the records, another does not
unpadded_zero : (rest : List ℕ) → unpadded (0 ∷ rest) ≡ []
unfolding unpadded before_zero cut first flatten
unpadded_zero rest = refl

unpadded_nil : unpadded [] ≡ []
unfolding unpadded before_zero cut flatten
unpadded_nil = refl

unpadded_more : (n : ℕ) (rest : List ℕ) → 0 < n → unpadded (n ∷ rest) ≡ n ∷ (take n rest ++ unpadded (drop n rest))
unfolding unpadded before_zero cut first flatten
unpadded_more n rest some = rw (ne_eqb n 0 (omega arith), cut_skip rest n)

-- zeros as a test
zeros_are : (n : ℕ) → is_zeros (replicate n 0) ≡ true
unfolding is_zeros
zeros_are zero = refl
zeros_are (suc n) = zeros_are n

not_zeros : (n x : ℕ) (rest : List ℕ) → 0 < x → is_zeros (replicate n 0 ++ (x ∷ rest)) ≡ false
unfolding is_zeros
not_zeros zero x rest some = rw (ne_eqb x 0 (omega arith))
not_zeros (suc n) x rest some = not_zeros n x rest some

-- octets are zeros alone, or zeros and an octet that is not
data Split : List ℕ → Bool → Type 0 where
  alone : (n : ℕ) {l : List ℕ} → l ≡ replicate n 0 → Split l true
  another : (n x : ℕ) (rest : List ℕ) {l : List ℕ} → l ≡ replicate n 0 ++ (x ∷ rest) → 0 < x → Split l false

split : (l : List ℕ) → Split l (is_zeros l)
unfolding is_zeros
split [] = alone 0 refl
split (x ∷ l) = go (eqb x 0) refl (is_zeros l) (split l)
  where
    go : (t : Bool) → eqb x 0 ≡ t → (z : Bool) → Split l z → Split (x ∷ l) (t && z)
    go false e z later = another 0 x l refl (let other : x ≡ 0 → ⊥ = eqb-false x 0 e in omega arith)
    go true e true (alone n is) = alone (suc n) (ap (λ (k : List ℕ). x ∷ k) is ∙ ap (λ (k : ℕ). k ∷ replicate n 0) (eqb-true x 0 e))
    go true e false (another n y rest is some) =
        another (suc n) y rest (ap (λ (k : List ℕ). x ∷ k) is ∙ ap (λ (k : ℕ). k ∷ (replicate n 0 ++ (y ∷ rest))) (eqb-true x 0 e)) some

-- a bad record is bad in the octets before the padding too
module _ (n : ℕ) (rest l : List ℕ) (some : 0 < n) (there : n ≤ length rest) where
  there_too : n ≤ length (take n rest ++ l)
  there_too = rw (length-append, length-take) (omega arith)

  type_too : get_or (take n rest ++ l) 0 0 ≡ get_or rest 0 0
  type_too = get_or-append (take n rest) l 0 0 (rw length-take (omega arith)) ∙ get_or-take n rest 0 0 some

still_bad : (n : ℕ) (rest : List ℕ) {e : Error} → 0 < n → Bad (n ∷ rest) e → Bad (n ∷ (take n rest ++ unpadded (drop n rest))) e
still_bad n rest some zero_length = absurd (omega arith)
still_bad n rest some (too_few more few) =
    too_few {n = n} {rest = take n rest ++ unpadded (drop n rest)} more (rw (take_all n rest (omega arith), drop_of_length-le rest {i = n} (omega arith), unpadded_nil, append-nil rest) few)
still_bad n rest some (wrong_flags more there is other) =
    wrong_flags more (there_too n rest (unpadded (drop n rest)) some there) (type_too n rest (unpadded (drop n rest)) some there ∙ is) other
still_bad n rest some (odd_list more there is even) =
    odd_list more (there_too n rest (unpadded (drop n rest)) some there) (subst IsList (sym (type_too n rest (unpadded (drop n rest)) some there)) is) even

-- what is read of good records: alone, before a zero length, and before a bad record of another length
module _ (front : List ℕ) {m : ℕ} (t : Tiling front m) where
  strict : read_area front ≡ Ok m
  strict = (decided front).accepted t

  unpadded_front : (l : List ℕ) → unpadded (front ++ l) ≡ front ++ unpadded l
  unpadded_front l = subst (λ (k : List ℕ). unpadded (k ++ l) ≡ k ++ unpadded l) t.tile (unpadded_behind t.pieces l t.good)

  pub read_whole : read_padded front ≡ Ok (m, length front)
  unfolding read_padded ended_by is_zeros
  read_whole =
      let all : unpadded front ≡ front = ap unpadded (sym (append-nil front)) ∙ unpadded_front [] ∙ ap (λ (l : List ℕ). front ++ l) unpadded_nil ∙ append-nil front in
      rw (all, strict, drop_of_length-le front {i = length front} (omega arith))

  pub read_ended : (rest : List ℕ) → read_padded (front ++ (0 ∷ rest)) ≡ cond (is_zeros rest) (Ok (m, length front)) (Err InvalidLength)
  unfolding read_padded ended_by is_zeros
  read_ended rest =
      let before : unpadded (front ++ (0 ∷ rest)) ≡ front = unpadded_front (0 ∷ rest) ∙ ap (λ (l : List ℕ). front ++ l) (unpadded_zero rest) ∙ append-nil front in
      rw (before, strict, drop_at front (0 ∷ rest) (length front) refl) (go (is_zeros rest))
    where
      go : (z : Bool) → ended_by (Ok m) (length front) z ≡ cond z (Ok (m, length front)) (Err InvalidLength)
      go true = refl
      go false = refl

  pub read_bad : (n : ℕ) (rest : List ℕ) {e : Error} → 0 < n → Bad (n ∷ rest) e → read_padded (front ++ (n ∷ rest)) ≡ Err e
  unfolding read_padded ended_by
  read_bad n rest {e} some bad =
      let more : List ℕ = take n rest ++ unpadded (drop n rest) in
      let before : unpadded (front ++ (n ∷ rest)) ≡ front ++ (n ∷ more) = unpadded_front (n ∷ rest) ∙ ap (λ (l : List ℕ). front ++ l) (unpadded_more n rest some) in
      let f : FirstBad (front ++ (n ∷ more)) e =
      record { pieces = t.pieces; rest = n ∷ more; tile = ap (λ (l : List ℕ). l ++ (n ∷ more)) t.tile; good = t.good; bad = still_bad n rest some bad } in
      rw (before, (decided (front ++ (n ∷ more))).refused f)

-- how an area begins: it is good records alone, or a zero length stands after them, or another bad record does
pub data Cases (s : List ℕ) : Type 0 where
  whole : (m : ℕ) → Tiling s m → Cases s
  ended : (front rest : List ℕ) (m : ℕ) → s ≡ front ++ (0 ∷ rest) → Tiling front m → Cases s
  bad : (front : List ℕ) (m n : ℕ) (rest : List ℕ) (e : Error) → s ≡ front ++ (n ∷ rest) → Tiling front m → 0 < n → Bad (n ∷ rest) e → Cases s

pub cases : (s : List ℕ) → Cases s
cases s = go (read_area s) (decided s).verdict
  where
    behind : (front : List ℕ) (m : ℕ) (l : List ℕ) (e : Error) → s ≡ front ++ l → Tiling front m → Bad l e → Cases s
    behind front m _ _ is t (zero_length {rest}) = ended front rest m is t
    behind front m _ _ is t (too_few {n} {rest} some few) = bad front m n rest _ is t some (too_few some few)
    behind front m _ _ is t (wrong_flags {n} {rest} some there type other) = bad front m n rest _ is t some (wrong_flags some there type other)
    behind front m _ _ is t (odd_list {n} {rest} some there type even) = bad front m n rest _ is t some (odd_list some there type even)

    go : (a : Result ℕ Error) → Verdict s a → Cases s
    go (Ok m) t = whole m t
    go (Err e) f = behind (flatten f.pieces) (length f.pieces) f.rest e (sym f.tile) (record { pieces = f.pieces; tile = refl; good = f.good; count = refl }) f.bad

-- what is read by the octets from the first bad record on
pub read_behind : (s : List ℕ) (at : ℕ) {m : ℕ} {e : Error} → Tiling (take at s) m → Bad (drop at s) e → read_padded s ≡ cond (is_zeros (drop at s)) (Ok (m, at)) (Err e)
unfolding is_zeros
read_behind s at {m} {e} t b = go (drop at s) e refl b
  where
    -- there is one
    size : (n : ℕ) (rest : List ℕ) → drop at s ≡ n ∷ rest → length (take at s) ≡ at
    size n rest is = length-take at s ∙ (let left : length s - at ≡ suc (length rest) = sym (length-drop at s) ∙ ap length is in omega arith)

    cuts : (l : List ℕ) → drop at s ≡ l → s ≡ take at s ++ l
    cuts l is = sym (take-append-drop at s) ∙ ap (λ (k : List ℕ). take at s ++ k) is

    other : (n : ℕ) (rest : List ℕ) (e : Error) → drop at s ≡ n ∷ rest → 0 < n → Bad (n ∷ rest) e
        → read_padded s ≡ cond (is_zeros (n ∷ rest)) (Ok (m, at)) (Err e)
    other n rest e is some b = rw (ne_eqb n 0 (omega arith)) (ap read_padded (cuts (n ∷ rest) is) ∙ read_bad (take at s) t n rest some b)

    go : (l : List ℕ) (e : Error) → drop at s ≡ l → Bad l e → read_padded s ≡ cond (is_zeros l) (Ok (m, at)) (Err e)
    go _ _ is (zero_length {rest}) =
        ap read_padded (cuts (0 ∷ rest) is) ∙ read_ended (take at s) t rest
        ∙ ap (λ (k : ℕ). cond (is_zeros rest) (Ok (m, k)) (Err InvalidLength)) (size 0 rest is)
    go _ _ is (too_few {n} {rest} some few) = other n rest _ is some (too_few some few)
    go _ _ is (wrong_flags {n} {rest} some there type else) = other n rest _ is some (wrong_flags some there type else)
    go _ _ is (odd_list {n} {rest} some there type even) = other n rest _ is some (odd_list some there type even)

-- the first bad record of an area that begins so
refused_by_law : (s front : List ℕ) {m : ℕ} (l : List ℕ) {e : Error} → s ≡ front ++ l → Tiling front m → Bad l e → read_area s ≡ Err e
refused_by_law s front l is t b =
    (decided s).refused (record { pieces = t.pieces; rest = l; tile = ap (λ (k : List ℕ). k ++ l) t.tile ∙ sym is; good = t.good; bad = b })

pub hub_reads : (s : List ℕ) → HubReads s
hub_reads s = record { found = found (cases s); accepted = accepted; refused = refused }
  where
    zeros_behind : (front rest : List ℕ) (m : ℕ) → s ≡ front ++ (0 ∷ rest) → Tiling front m → (z : Bool) → Split rest z
        → PaddedVerdict s (cond z (Ok (m, length front)) (Err InvalidLength))
    zeros_behind front rest m is t true (alone n zeros) =
        record { front = front; zeros = suc n; made_up = is ∙ ap (λ (l : List ℕ). front ++ (0 ∷ l)) zeros; strict = strict front t; size = refl }
    zeros_behind front rest m is t false (another n x more zeros some) =
        not_zero front m n x more (is ∙ ap (λ (l : List ℕ). front ++ (0 ∷ l)) zeros) (strict front t) some

    found : Cases s → PaddedVerdict s (read_padded s)
    found (whole m t) = rw (read_whole s t) (record { front = s; zeros = 0; made_up = sym (append-nil s); strict = strict s t; size = refl })
    found (ended front rest m is t) = subst (PaddedVerdict s) (sym (ap read_padded is ∙ read_ended front t rest)) (zeros_behind front rest m is t (is_zeros rest) (split rest))
    found (bad front m n rest e is t some b) = subst (PaddedVerdict s) (sym (ap read_padded is ∙ read_bad front t n rest some b)) (bad_record front m n rest is (strict front t) some b)

    with_zeros : (front : List ℕ) (m k : ℕ) → s ≡ front ++ replicate k 0 → Tiling front m → read_padded s ≡ Ok (m, length front)
    with_zeros front m zero is t = ap read_padded (is ∙ append-nil front) ∙ read_whole front t
    with_zeros front m (suc k) is t =
        ap read_padded is ∙ read_ended front t (replicate k 0) ∙ ap (λ (z : Bool). cond z (Ok (m, length front)) (Err InvalidLength)) (zeros_are k)

    accepted : {m taken : ℕ} → Padding s m taken → read_padded s ≡ Ok (m, taken)
    accepted {m} p = with_zeros p.front m p.zeros p.made_up (tiling_of p.front p.strict) ∙ ap (λ (k : ℕ). Ok (m, k)) p.size

    refused : {e : Error} → Fault s e → read_padded s ≡ Err e
    refused (bad_record front m n rest is good some b) = ap read_padded is ∙ read_bad front (tiling_of front good) n rest some b
    refused (not_zero front m k x rest is good some) =
        ap read_padded is ∙ read_ended front (tiling_of front good) (replicate k 0 ++ (x ∷ rest))
        ∙ ap (λ (z : Bool). cond z (Ok (m, length front)) (Err InvalidLength)) (not_zeros k x rest some)

pub differs : (s : List ℕ) → Differs s
differs s =
    record {
      agree = λ none. agree none (cases s);
      strict = λ z. refused_by_law s z.front (0 ∷ z.rest) z.made_up (tiling_of z.front z.strict) zero_length;
      ended = λ z k zeros. at_zero z true (ap is_zeros zeros ∙ zeros_are k);
      unended = λ z fails. at_zero z false (unended z.rest fails (is_zeros z.rest) (split z.rest));
      accepts = λ n is. read_whole s (tiling_of s is);
      refuses = λ e is. refuses e is (cases s);
    }
  where
    agree : (ZeroLength s → ⊥) → Cases s → read_padded s ≡ took_all (read_area s) (length s)
    agree none (whole m t) = rw (read_whole s t, strict s t)
    agree none (ended front rest m is t) = absurd (none (record { front = front; rest = rest; number = m; made_up = is; strict = strict front t }))
    agree none (bad front m n rest e is t some b) = rw (refused_by_law s front (n ∷ rest) is t b) (ap read_padded is ∙ read_bad front t n rest some b)

    at_zero : (z : ZeroLength s) (b : Bool) → is_zeros z.rest ≡ b → read_padded s ≡ cond b (Ok (z.number, length z.front)) (Err InvalidLength)
    at_zero z b is =
        ap read_padded z.made_up ∙ read_ended z.front (tiling_of z.front z.strict) z.rest
        ∙ ap (λ (b : Bool). cond b (Ok (z.number, length z.front)) (Err InvalidLength)) is

    unended : (l : List ℕ) → ((k : ℕ) → l ≡ replicate k 0 → ⊥) → (b : Bool) → Split l b → b ≡ false
    unended l fails true (alone k is) = absurd (fails k is)
    unended l fails false (another k x rest is some) = refl

    refuses : (e : Error) → read_padded s ≡ Err e → Cases s → read_area s ≡ Err e
    refuses e is (whole m t) = absurd (let both = sym (read_whole s t) ∙ is in let z : ◌≡◌ {A = ℕ} 0 1 = cc in omega arith)
    refuses e is (ended front rest m at t) = go (is_zeros rest) (sym (ap read_padded at ∙ read_ended front t rest) ∙ is)
      where
        go : (z : Bool) → cond {A = Result (ℕ × ℕ) Error} z (Ok (m, length front)) (Err InvalidLength) ≡ Err e → read_area s ≡ Err e
        go true both = absurd (let z : ◌≡◌ {A = ℕ} 0 1 = cc in omega arith)
        go false both = refused_by_law s front (0 ∷ rest) at t zero_length ∙ ap Err cc
    refuses e is (bad front m n rest k at t some b) =
        let both : (Err k) ≡ (Err e) = sym (ap read_padded at ∙ read_bad front t n rest some b) ∙ is in
        refused_by_law s front (n ∷ rest) at t b ∙ ap Err cc

pub without_size : WithoutSize
unfolding area_in
without_size (Ok n) size = refl
without_size (Err e) size = refl

all_zero : (k : ℕ) → unpadded (replicate k 0) ≡ []
all_zero zero = unpadded_nil
all_zero (suc k) = unpadded_zero (replicate k 0)

-- an area that is accepted so
module _ (s : List ℕ) (m taken : ℕ) (is : read_padded s ≡ Ok (m, taken)) where
  padding : Padding s m taken
  padding = subst (PaddedVerdict s) is (hub_reads s).found

  front : List ℕ
  front = padding.front

  long : length s ≡ taken + padding.zeros
  unfolding front
  long = ap length padding.made_up ∙ length-append padding.front (replicate padding.zeros 0) ∙ rw (length-replicate, padding.size)

  front_is : take taken s ≡ front
  unfolding front
  front_is = ap (take taken) padding.made_up ∙ take_at padding.front (replicate padding.zeros 0) taken padding.size

  -- the octets taken are those before the first zero length
  pub before : unpadded s ≡ take taken s
  unfolding front
  before =
      ap unpadded padding.made_up ∙ unpadded_front padding.front (tiling_of padding.front padding.strict) (replicate padding.zeros 0)
      ∙ ap (λ (l : List ℕ). padding.front ++ l) (all_zero padding.zeros) ∙ append-nil padding.front ∙ sym front_is

  pub took : (out : List ℕ) → Took s out m taken is
  unfolding front
  took out =
      let strictly : read_area (take taken s) ≡ (Ok m) = ap read_area front_is ∙ padding.strict in
      let size : length (take taken s) ≡ taken = ap length front_is ∙ padding.size in
      record {
        inside = omega (arith, long);
        strictly = strictly;
        zeros = λ i past inside.
            let j = i - taken in
            let at : i ≡ length padding.front + j = omega (arith, padding.size) in
            ap (λ (k : ℕ). get_or s k 0) at ∙ ap (λ (l : List ℕ). get_or l (length padding.front + j) 0) padding.made_up
            ∙ get_or-append-add padding.front (replicate padding.zeros 0) j 0 ∙ get_or-replicate padding.zeros j 0 0 (omega (arith, long));
        restores = λ room. (rewriting (take taken s) out).restores m strictly (omega arith);
        no_room = λ few. (rewriting (take taken s) out).no_room m strictly (omega arith);
      }

pub rows : PaddedRows
unfolding read_padded ended_by is_zeros unpadded before_zero area_in flatten read_area area_of reads with_first cut first record_read data_read flags_read uuids_read up_to named
rows =
    record {
      zeros_alone = refl;
      filling = refl;
      ended = refl;
      zeros_inside = refl;
      behind = refl;
      behind_the_first = refl;
      before = refl;
      both = refl;
      strict = refl;
    }
