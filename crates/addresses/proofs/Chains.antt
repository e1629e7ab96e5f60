-- What a chain over the entries of a list answers: whether some entry passes a test. Assumes nothing.
use Rattle.std.proofs.Common.{◌≡◌, ℕ, ◌+◌, ◌*◌, ◌/◌, ◌<◌, ◌≤◌, Bool, true, false, List, [], length, take, drop, get_or, slice_index_or, get_or-take, get_or-drop, sym, ap, ◌∙◌, arith, Bor, MatchBool}
use Rattle.std.specs.Prelude.{Option, Some, None, IsTrue, IfSome, IsSomeAnd}
use Rattle.std.specs.Option.{option_map}
use Rattle.std.specs.Iterator.Runs.{Run, SomeRun, IsChunksExactRun, AnyItemGives, AllItemsGive}
use Rattle.std.specs.List.{IsSubsliceAt}
use Rattle.std.specs.Fn.{Called}
use denote.Param.Members.{Mut}
use Rattle.octets.specs.Bytes.{part}
use Rattle.octets.proofs.Laws.{parts}
use Rattle.addresses.specs.Filter.{any, entry_at}
use Rattle.addresses.proofs.Entries.{any_found, any_none}

-- the front of an entry, and its address
pub kind_in : (list : List ℕ) (k : ℕ) → k * 7 + 7 ≤ length list → get_or (take 7 (drop (k * 7) list)) 0 0 ≡ get_or list (7 * k) 0
kind_in list k h = let place : k * 7 + 0 ≡ 7 * k = omega arith in rw (get_or-take 7 (drop (k * 7) list) 0 0 (omega arith), get_or-drop (k * 7) list 0 0, place)

pub entry_in : (list : List ℕ) (k : ℕ) → k * 7 + 7 ≤ length list → entry_at (take 7 (drop (k * 7) list)) 0 ≡ entry_at list k
entry_in list k h =
    let place : k * 7 ≡ 7 * k = omega arith in
    let octets : part 6 (part 7 list (7 * k)) 1 ≡ part 6 list (7 * k + 1) = (parts list).of_part 6 7 (7 * k) 1 (omega arith) in
    rw (kind_in list k, place, octets)

-- `any` of the chunks of 7 octets, by a test of a chunk: some place passes it
pub chain_any : {S F : Type 0} {steps : S → Option (Bor (List ℕ)) → S → Type 0} (s : S) (g : Mut F (Bor (List ℕ) × Unit {0}) Bool) (f : F) (list : List ℕ) (test : List ℕ → Bool) (p : ℕ → Bool) (r : Bool)
    → SomeRun steps s (λ q. MatchBool r (AnyItemGives q g f true) (IsTrue q.whole × AllItemsGive q g f false))
    → ((q : Run steps) → q.from ≡ s → IsChunksExactRun q 7 list)
    → ((x : Bor (List ℕ)) (b : Bool) (h : F) → Called g f (x, tt) b h → (h ≡ f) × (length x.now ≡ 7 → b ≡ test x.now))
    → ((k : ℕ) → k * 7 + 7 ≤ length list → test (take 7 (drop (k * 7) list)) ≡ p k)
    → r ≡ any p (length list / 7)
chain_any {S} {F} {steps} s g f list test p r ran chunks calls same = go r ran.2
  where
    q : Run steps
    q = ran.0

    chunk : IsChunksExactRun q 7 list
    chunk = chunks q ran.1

    -- what the test says of the item at a place
    place : (k : ℕ) (x : Bor (List ℕ)) (b : Bool) → (length x.now ≡ 7) × (k * 7 + 7 ≤ length list) × IsSubsliceAt 7 list (k * 7) x.now → Called g f (x, tt) b f → (k < length list / 7) × (p k ≡ b)
    place k x b here called = (omega (arith, here.1), sym ((calls x b f called).1 here.0 ∙ ap test here.2.0 ∙ same k here.1))

    go : (b : Bool) → MatchBool b (AnyItemGives q g f true) (IsTrue q.whole × AllItemsGive q g f false) → b ≡ any p (length list / 7)
    go true says = found (says (λ a b h k. (calls a.0 b h k).0))
      where
        found : (k : ℕ) × (k < q.len) × IsSomeAnd (q.at k) (λ x. Called g f (x, tt) true f) → true ≡ any p (length list / 7)
        found (k, below, at) = here (q.at k) (chunk.2 k) at
          where
            here : (o : Option (Bor (List ℕ))) → IfSome o (λ x. (length x.now ≡ 7) × (k * 7 + 7 ≤ length list) × IsSubsliceAt 7 list (k * 7) x.now) → IsSomeAnd o (λ x. Called g f (x, tt) true f) → true ≡ any p (length list / 7)
            here None is called = absurd called
            here (Some x) is called = let passes = place k x true is called in sym (any_found p (length list / 7) k passes.0 passes.1)
    go false says = sym (any_none p (length list / 7) (λ k below. none k (q.at k) (omega (arith, chunk.1 says.0)) (chunk.2 k) (says.1 (λ a b h k. (calls a.0 b h k).0) k) (q.reads k (record { ref_ptr = (0, 0); now = [] }))))
      where
        none : (k : ℕ) (o : Option (Bor (List ℕ))) → k < q.len → IfSome o (λ x. (length x.now ≡ 7) × (k * 7 + 7 ≤ length list) × IsSubsliceAt 7 list (k * 7) x.now) → IfSome o (λ x. Called g f (x, tt) false f) → (k < q.len → option_map (λ y. y) o ≡ Some (slice_index_or q.items k (record { ref_ptr = (0, 0); now = [] }))) → p k ≡ false
        none k None below is called reads = absurd (let z = reads below in cc)
        none k (Some x) below is called reads = (place k x false is called).1
