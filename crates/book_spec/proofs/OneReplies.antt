-- `Replies` admits one reply only: `one_reply`. Assumes nothing.
--   SeatIs and a number    give one address: `one_address`
--   Qualifies and an entry give one move: `one_move`
--   Earliest, KeptIs       give one move: `one_earliest`, `one_kept`
use mathlib.Core.Path.{◌≡◌, refl, sym, ap, subst, ◌∙◌}
use mathlib.Core.Logic.{◌⊎◌, inl, inr}
use mathlib.Core.List.{List, [], ◌∷◌, ◌++◌, head-eq_of_cons-eq, tail-eq_of_cons-eq}
use Prim.Native.Nat.{ℕ, ◌+◌, ◌-◌, ◌<◌}
use native.Mathlib.Omega.{arith}
use lib.ListN.{length, get_or, length-append}
use lib.Seq.{get_or_at}
use Rattle.octets.specs.Bytes.{part}
use Rattle.octets.specs.declared.error.Error.{Error}
use Rattle.addresses.specs.declared.device_address.DeviceAddress.{DeviceAddress}
use Rattle.records_spec.specs.HubReading.{read_padded}
use Rattle.records_spec.specs.Search.{IsRead}
use Rattle.book_spec.specs.History.{BookCall, called, seat_is, move_is, standing, BookEntry, entries}
use Rattle.book_spec.specs.Moves.{move_heard}
use Rattle.book_spec.specs.TurnBook.{SeatIs, IsMoveOf, Qualifies, Unheard, KeptIs, OneReply}
use Rattle.book_spec.specs.TurnBook.KeptIs.{kept, none}
use Rattle.book_spec.specs.TurnBook.Replies.{already, full, sits, bad_area, heard, last_turn, closed, filled_seat, empty_seat_law, open_move, closed_move, none_closed, open_turn, its_company}
use Rattle.book_spec.specs.declared.Move.{Move}
use Rattle.book_spec.proofs.Moves.{hears_move}
use Rattle.std.specs.Prelude.{Err, Some}

-- ---- seats
seat_place : (d : DeviceAddress) (n : ℕ) (a : DeviceAddress) (seats : List DeviceAddress) → SeatIs n a seats → get_or seats (n - 1) d ≡ a
seat_place d n a seats s =
    let at : length s.earlier ≡ n - 1 = omega (arith, s.counted) in
    ap (λ (l : List DeviceAddress). get_or l (n - 1) d) s.tile ∙ get_or_at s.earlier a s.later d (n - 1) at

one_address : (n : ℕ) (a b : DeviceAddress) (seats : List DeviceAddress) → SeatIs n a seats → SeatIs n b seats → a ≡ b
one_address n a b seats s t = sym (seat_place a n a seats s) ∙ seat_place a n b seats t

seat_inside : (n : ℕ) (a : DeviceAddress) (seats : List DeviceAddress) → SeatIs n a seats → (n ≡ 0) ⊎ (length seats < n) → ⊥
seat_inside n a seats s (inl first) = omega (arith, s.counted, first)
seat_inside n a seats s (inr past) = omega (arith, s.counted, past, ap length s.tile, length-append s.earlier (a ∷ s.later))

-- ---- moves
move_is_law : (m k : Move) (octets : List ℕ) → IsMoveOf m octets → IsMoveOf k octets → m ≡ k
move_is_law m k octets is also = λ i. record { len = (is.number ∙ sym also.number) i; octets = (is.octets_are ∙ sym also.octets_are) i }

-- the move of a report that qualifies is the one heard
move_heard_law : (company n t : ℕ) (e : BookEntry) (m : Move) (q : Qualifies company n t e m) → m ≡ (move_heard company q.area).played
move_heard_law company n t e m q =
    move_is_law m (move_heard company q.area).played (part (q.len - 4) q.area (q.start + 4)) q.its_move ((hears_move company q.area q.read).played q.start q.len q.first)

one_move : (company n t : ℕ) (e : BookEntry) (m k : Move) → Qualifies company n t e m → Qualifies company n t e k → m ≡ k
one_move company n t e m k q p =
    let is = q.is_report_law in
    let also = p.is_report_law in
    let same : q.area ≡ p.area = cc in
    move_heard_law company n t e m q ∙ ap (λ (s : List ℕ). (move_heard company s).played) same ∙ sym (move_heard_law company n t e k p)

module _ {P : BookEntry → Move → Type 0} (one : (e : BookEntry) (m k : Move) → P e m → P e k → m ≡ k) where
  -- of two earliest entries neither stands before the other
  one_earliest : (m k : Move) (xs ys : List BookEntry) (x y : BookEntry) (xs' ys' : List BookEntry) → xs ++ (x ∷ xs') ≡ ys ++ (y ∷ ys')
      → Unheard P xs → P x m → Unheard P ys → P y k → m ≡ k
  one_earliest m k [] [] x y xs' ys' e u p v q = one y m k (subst (λ (z : BookEntry). P z m) (head-eq_of_cons-eq e) p) q
  one_earliest m k [] (z ∷ ys) x y xs' ys' e u p v q = absurd (v.0 m (subst (λ (z : BookEntry). P z m) (head-eq_of_cons-eq e) p))
  one_earliest m k (z ∷ xs) [] x y xs' ys' e u p v q = absurd (u.0 k (subst (λ (z : BookEntry). P z k) (sym (head-eq_of_cons-eq e)) q))
  one_earliest m k (z ∷ xs) (w ∷ ys) x y xs' ys' e u p v q = one_earliest m k xs ys x y xs' ys' (tail-eq_of_cons-eq e) u.1 p v.1 q

  heard_within : (es xs : List BookEntry) (x : BookEntry) (xs' : List BookEntry) (m : Move) → es ≡ xs ++ (x ∷ xs') → P x m → Unheard P es → ⊥
  heard_within es xs x xs' m e p unheard = go xs (subst (Unheard P) e unheard)
    where
      go : (l : List BookEntry) → Unheard P (l ++ (x ∷ xs')) → ⊥
      go [] u = u.0 m p
      go (z ∷ l) u = go l u.1

  one_kept : (es : List BookEntry) (m k : Move) → KeptIs P es m → KeptIs P es k → m ≡ k
  one_kept es _ _ (kept m x) (kept k y) =
      one_earliest m k x.earlier y.earlier x.entry y.entry x.later y.later (sym x.tile ∙ y.tile) x.unheard x.qualifies y.unheard y.qualifies
  one_kept es _ _ (kept m x) (none unheard) = absurd (heard_within es x.earlier x.entry x.later m x.tile x.qualifies unheard)
  one_kept es _ _ (none unheard) (kept k y) = absurd (heard_within es y.earlier y.entry y.later k y.tile y.qualifies unheard)
  one_kept es _ _ (none unheard) (none also) = refl

-- ---- replies
not_both : (area : List ℕ) (e : Error) → read_padded area ≡ Err e → IsRead area → ⊥
not_both area e refused read =
    let is = read.accepted in
    let z : ◌≡◌ {A = ℕ} 0 1 = cc in
    omega arith

pub one_reply : (company : ℕ) (before : List BookCall) (c : BookCall) → OneReply company before c
one_reply company before _ _ _ (already a s) (already _ t) = refl
one_reply company before _ _ _ (already a s) (full _ free _) = absurd (free s)
one_reply company before _ _ _ (already a s) (sits _ free _) = absurd (free s)
one_reply company before _ _ _ (full a free all) (already _ s) = absurd (free s)
one_reply company before _ _ _ (full a free all) (full _ _ _) = refl
one_reply company before _ _ _ (full a free all) (sits _ _ room) = absurd (omega (arith, all, room))
one_reply company before _ _ _ (sits a free room) (already _ s) = absurd (free s)
one_reply company before _ _ _ (sits a free room) (full _ _ all) = absurd (omega (arith, all, room))
one_reply company before _ _ _ (sits a free room) (sits _ _ _) = refl
one_reply company before _ _ _ (bad_area sender area e is) (bad_area _ _ k also) = ap (λ (x : Error). called (Err x)) (let same : e ≡ k = cc in same)
one_reply company before _ _ _ (bad_area sender area e is) (heard _ _ read) = absurd (not_both area e is read)
one_reply company before _ _ _ (heard sender area read) (bad_area _ _ e is) = absurd (not_both area e is read)
one_reply company before _ _ _ (heard sender area read) (heard _ _ _) = refl
one_reply company before _ _ _ (last_turn is) (last_turn _) = refl
one_reply company before _ _ _ (last_turn is) (closed below) = absurd (omega (arith, is, below))
one_reply company before _ _ _ (closed below) (last_turn is) = absurd (omega (arith, is, below))
one_reply company before _ _ _ (closed below) (closed _) = refl
one_reply company before _ _ _ (filled_seat n a s) (filled_seat _ b t) =
    ap (λ (x : DeviceAddress). seat_is (Some x)) (one_address n a b (standing before).seats s t)
one_reply company before _ _ _ (filled_seat n a s) (empty_seat_law _ outside) = absurd (seat_inside n a (standing before).seats s outside)
one_reply company before _ _ _ (empty_seat_law n outside) (filled_seat _ a s) = absurd (seat_inside n a (standing before).seats s outside)
one_reply company before _ _ _ (empty_seat_law n outside) (empty_seat_law _ _) = refl
one_reply company before _ _ _ (open_move n m is) (open_move _ k also) =
    ap move_is (one_kept (one_move company n (standing before).turn) (entries before) m k is also)
one_reply company before _ _ _ (closed_move n t m now is) (closed_move _ u k then also) =
    let same : u ≡ t = omega (arith, now, then) in
    ap move_is (one_kept (one_move company n t) (entries before) m k is (subst (λ (x : ℕ). KeptIs (Qualifies company n x) (entries before) k) same also))
one_reply company before _ _ _ (closed_move n t m now is) (none_closed _ first) = absurd (omega (arith, now, first))
one_reply company before _ _ _ (none_closed n first) (closed_move _ t m now is) = absurd (omega (arith, now, first))
one_reply company before _ _ _ (none_closed n first) (none_closed _ _) = refl
one_reply company before _ _ _ open_turn open_turn = refl
one_reply company before _ _ _ its_company its_company = refl
