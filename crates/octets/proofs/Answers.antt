-- What reads and writes answer where there are octets enough, where there are too few, and of a write of as much as fits.
-- Assumes nothing.
use Rattle.std.proofs.Common.{◌≡◌, ℕ, ◌+◌, ◌-◌, ◌<◌, ◌≤◌, List, length, take, drop, refl, arith, length-take, take_all, le-leb}
use lib.ListN.{length-replicate}
use lib.Seq.{take-append_seam, drop-append_seam}
use borrow.Author.Tests.{lt-leb}
use Rattle.octets.specs.Laws.{Enough, TooFew, AtFront, OutcomeSays, Truncates, Left}
use Rattle.octets.specs.declared.error.Error.{Error}
use Rattle.octets.proofs.Places as places

pub enough : (n : ℕ) (s : List ℕ) (at : ℕ) → at + n ≤ length s → Enough n s at
enough n s at h =
    let is = places.enough n s at h in
    record { passed = rw is; slice = rw is; array = rw (length-replicate, is); array_with_next = rw (length-replicate, is); write = rw is; after = λ xs size. rw (size, is) }

pub too_few : (n : ℕ) (s : List ℕ) (at : ℕ) → length s < at + n → TooFew n s at
too_few n s at h =
    let is = places.too_few n s at h in
    record {
      passed = rw is;
      slice = rw is;
      write = rw is;
      u8 = λ one. rw (rw one at is);
      u16 = λ two. (rw (rw two at is), rw (rw two at is));
      u32 = λ four. (rw (rw four at is), rw (rw four at is));
      into = λ dst size. rw (size, is);
      array = rw (length-replicate, is);
      array_refused = rw is;
      uuid128_refused = λ full. rw (rw full at is);
      kept = λ xs size. rw (size, is);
    }

pub at_front_law : (xs out : List ℕ) → AtFront xs out
at_front_law xs out = record { there = take-append_seam xs (drop (length xs) out); kept = drop-append_seam xs (drop (length xs) out) }

pub outcome_says : (e : Error) → OutcomeSays e
outcome_says e = record { refused = refl; accepted = refl; is_refused = refl; is_accepted_law = refl }

pub truncates : (xs out : List ℕ) (at : ℕ) → Truncates xs out at
truncates xs out at =
    record {
      all = λ h. let size = take_all (length out - at) xs (omega arith) in (rw (size, places.enough (length xs) out at h), size);
      to_the_end = λ n end some.
          let left : length out - at ≡ n = omega arith in
          let size : length (take n xs) ≡ n = simp length-take (omega arith) in
          let fits = places.enough n out at (omega arith) in
          (rw (left, size, fits, end), rw left);
      past = λ h.
          let none_left : length out - at ≡ 0 = omega arith in
          let is = places.too_few 0 out at (omega arith) in
          (rw (none_left, is), rw (none_left, is));
    }

pub left : (s : List ℕ) (at : ℕ) → Left s at
left s at =
    record { some = λ h. omega arith; past = λ h. omega arith; spent = λ h. le-leb (length s) at h; unspent = λ h. lt-leb (length s) at h }
