-- The search of an area for a record: the first that passes a test of its octets, and what that means in words.
--   first_where test rs at     == where the first of the records rs that passes the test has its data, rs standing from `at` on
--   searched test s           == the same of an area s without padding
--   IsRead s                  == the hub's reading accepts the area s
--   Stands P s start len      == a record stands in s after records that are accepted strictly, perhaps none; its type and its data, `len` octets from `start` on, are P
--   First P s start len       == so it does, and no earlier one
--   Nowhere P s               == there is none
--   Told P s f                == f tells the first, or that there is none
--   Decides test P            == the test of a record's octets passes exactly where its type and data are P
--   Searching test P s        (Search.searching)   in an area that is read, the search tells the first or that there is none, where the test decides P
use Rattle.std.specs.Prelude.{Bool, true, cond, List, [], ◌∷◌, ◌++◌, ◌≡◌, ℕ, suc, ◌+◌, ◌-◌, ◌≤◌, length, Ok, Option, Some, None}
use Rattle.octets.specs.declared.bytes.Part.{Part}
use Rattle.records_spec.specs.Area.{records, read_area}
use Rattle.records_spec.specs.HubReading.{unpadded, read_padded}

-- a record's data stand after its length and its type (the Core, Vol 3 Part C, 11)
unfoldable pub first_where : (List ℕ → Bool) → List (List ℕ) → ℕ → Option Part
first_where test [] at = None
first_where test (r ∷ rs) at = cond (test r) (Some (record { start = at + 2; len = length r - 2 })) (first_where test rs (at + length r))

unfoldable pub searched : (List ℕ → Bool) → List ℕ → Option Part
searched test s = first_where test (records s) 0

pub record IsRead (s : List ℕ) : Type 0 where
  pub number : ℕ
  pub taken : ℕ
  pub accepted : read_padded s ≡ Ok (number, taken)

-- the length octet counts type and data
pub record Stands (P : ℕ → List ℕ → Type 0) (s : List ℕ) (start len : ℕ) : Type 0 where
  pub before : List ℕ
  pub type : ℕ
  pub octets : List ℕ
  pub behind : List ℕ
  pub number : ℕ
  pub made_up : s ≡ before ++ (suc (length octets) ∷ type ∷ (octets ++ behind))
  pub at_its_place : read_area before ≡ Ok number
  pub is : P type octets
  pub begins : start ≡ length before + 2
  pub long : len ≡ length octets

pub record First (P : ℕ → List ℕ → Type 0) (s : List ℕ) (start len : ℕ) : Type 0 where
  pub stands : Stands P s start len
  pub earliest : (start' len' : ℕ) → Stands P s start' len' → start ≤ start'

abbrev pub Nowhere : (ℕ → List ℕ → Type 0) → List ℕ → Type 0
Nowhere P s = (start len : ℕ) → Stands P s start len → ⊥

abbrev pub Told : (ℕ → List ℕ → Type 0) → List ℕ → Option Part → Type 0
Told P s (Some at) = First P s at.start at.len
Told P s None = Nowhere P s

pub record Decides (test : List ℕ → Bool) (P : ℕ → List ℕ → Type 0) : Type 0 where
  pub sound : (n ty : ℕ) (octets : List ℕ) → test (n ∷ ty ∷ octets) ≡ true → P ty octets
  pub complete : (n ty : ℕ) (octets : List ℕ) → P ty octets → test (n ∷ ty ∷ octets) ≡ true

-- no other place is told
pub record Searching (test : List ℕ → Bool) (P : ℕ → List ℕ → Type 0) (s : List ℕ) : Type 0 where
  pub told : Told P s (searched test (unpadded s))
  pub first : (start len : ℕ) → First P s start len → searched test (unpadded s) ≡ Some (record { start = start; len = len })
  pub none : Nowhere P s → searched test (unpadded s) ≡ None
