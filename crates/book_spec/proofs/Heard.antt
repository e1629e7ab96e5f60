-- Which reports qualify, by what the book hears in them: `counts` and `qualifies`. Assumes nothing.
use mathlib.Core.Path.{◌≡◌, refl, sym, ap, subst, ◌∙◌}
use mathlib.Core.Bool.{true}
use mathlib.Core.List.{List}
use Prim.Native.Nat.{ℕ, ◌<◌}
use native.Mathlib.Omega.{arith}
use Rattle.addresses.specs.declared.device_address.DeviceAddress.{DeviceAddress}
use Rattle.records_spec.specs.HubReading.{unpadded}
use Rattle.records_spec.specs.Search.{searched, IsRead, First, Told}
use Rattle.std.specs.Prelude.{Option, Some, None}
use Rattle.octets.specs.declared.bytes.Part.{Part}
use Rattle.records_spec.proofs.Search.{searching}
use Rattle.book_spec.specs.History.{report, BookStanding, BookEntry}
use Rattle.book_spec.specs.Laws.{HearsMove}
use Rattle.book_spec.specs.Moves.{is_move, move_in, heard_at, move_heard}
use Rattle.book_spec.specs.TurnBook.{MoveRecord, SeatIs, Qualifies}
use Rattle.book_spec.specs.declared.Move.{Move}
use Rattle.book_spec.proofs.Changes.{clash}
use Rattle.book_spec.proofs.Moves.{move_test, hears_move}

record FirstMove (company : ℕ) (s : List ℕ) : Type 0 where
  start : ℕ
  len : ℕ
  first : First (MoveRecord company) s start len

-- a report from seat n in turn t, by what is heard
pub record Counts (company n t : ℕ) (st : BookStanding) (sender : DeviceAddress) (area : List ℕ) : Type 0 where
  pub found : (move_heard company area).found ≡ true
  pub its_turn : (move_heard company area).turn ≡ t
  pub open_then : st.turn ≡ t
  pub from_seat : SeatIs n sender st.seats

-- a move that qualifies has octets
pub qualifies_some : (company n t : ℕ) (e : BookEntry) (m : Move) → Qualifies company n t e m → 0 < m.len
qualifies_some company n t e m q = omega (arith, q.its_move.some, q.its_move.number)

found_first : (company : ℕ) (s : List ℕ) → IsRead s → (move_heard company s).found ≡ true → FirstMove company s
unfolding move_in heard_at
found_first company s read = go (searched (is_move company) (unpadded s)) (searching s read (move_test company)).told
  where
    go : (f : Option Part) → Told (MoveRecord company) s f → (heard_at s f).found ≡ true → FirstMove company s
    go (Some at) told e = record { start = at.start; len = at.len; first = told }
    go None told e = clash e refl

module _ (company n t : ℕ) (st : BookStanding) (sender : DeviceAddress) (area : List ℕ) where
  pub counts : (m : Move) → Qualifies company n t (record { before = st; call = report sender area }) m → Counts company n t st sender area
  counts m q =
      let is = q.is_report_law in
      let by : sender ≡ q.sender = cc in
      let same : area ≡ q.area = cc in
      let heard : HearsMove company q.area = hears_move company q.area q.read in
      record {
        found = ap (λ (s : List ℕ). (move_heard company s).found) same ∙ heard.found q.start q.len q.first;
        its_turn = ap (λ (s : List ℕ). (move_heard company s).turn) same ∙ heard.turn q.start q.len q.first ∙ q.its_turn;
        open_then = q.open_then;
        from_seat = subst (λ (a : DeviceAddress). SeatIs n a st.seats) (sym by) q.from_seat;
      }

  pub qualifies : IsRead area → Counts company n t st sender area → Qualifies company n t (record { before = st; call = report sender area }) (move_heard company area).played
  qualifies read c =
      let f : FirstMove company area = found_first company area read c.found in
      let heard : HearsMove company area = hears_move company area read in
      record {
        sender = sender;
        area = area;
        is_report_law = refl;
        read = read;
        from_seat = c.from_seat;
        open_then = c.open_then;
        start = f.start;
        len = f.len;
        first = f.first;
        its_turn = sym (heard.turn f.start f.len f.first) ∙ c.its_turn;
        its_move = heard.played f.start f.len f.first;
      }
