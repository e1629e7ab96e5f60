-- What `write_records` keeps: what was written so far, with what rewriting the rest gives, is what is wanted; it ends where the loop stands, and `out` is as it
-- was after it. Assumes nothing.
use mathlib.Core.Path.{◌≡◌, refl, sym, ap, subst, ◌∙◌}
use mathlib.Core.List.{List, [], ◌++◌, append_assoc, append-nil, flatten}
use Prim.Native.Nat.{ℕ, ◌+◌, ◌≤◌, ◌<◌}
use native.Mathlib.Omega.{arith}
use lib.ListN.{length, get_or, drop, length-append, length-drop}
use lib.Seq.{take_at, drop-append-add, drop-drop}
use Rattle.records_spec.specs.declared.ad_structure.AdStructure.{AdStructure}
use Rattle.octets.specs.Bytes.{written}
use Rattle.records_spec.specs.Record.{first, record_at}
use Rattle.records_spec.specs.Write.{written_to, written_after}
use Rattle.records_spec.specs.Area.{cut, AcceptedFrom, clean, rewritten}
use Rattle.records_spec.proofs.Cuts.{here, at_here, Step, stepped, ended, accepted_more, accepted_reads}
use Rattle.records_spec.proofs.Again.{written_again}
use Rattle.records_spec.proofs.Rewritten.{clean_length, rewritten_step}
use Rattle.octets.specs.declared.bytes.ByteWriter.{ByteWriter}
use Rattle.octets.specs.declared.error.Error.{Error}
use Rattle.std.specs.Prelude.{Result, Ok, Err, Option, Some, None}

pub record Progress (s out₀ out : List ℕ) (at : ℕ) : Type 0 where
  pub done : List ℕ
  pub inside : at ≤ length s
  pub from : AcceptedFrom s at
  pub size : length done ≡ at
  pub whole : done ++ rewritten (drop at s) ≡ rewritten s
  pub contents : out ≡ done ++ drop at out₀

-- what a turn reads
read_at : {s out₀ out : List ℕ} {at : ℕ} {r : Result (Option (AdStructure × ℕ)) Error} → Progress s out₀ out at → r ≡ record_at s at → here s at ≡ r
read_at {s} {at = at} p e = sym (e ∙ at_here s at p.inside)

pub as_long : {s out₀ out : List ℕ} {at : ℕ} → Progress s out₀ out at → length s ≤ length out₀ → length out ≡ length out₀
as_long p room = simp (p.contents, length-append, length-drop, p.size) (omega (arith, p.inside))

-- nothing is written yet
pub begun : {s out : List ℕ} {at : ℕ} → at ≡ 0 → AcceptedFrom s 0 → Progress s out out at
begun is from = rw is (record { done = []; inside = omega arith; from = from; size = refl; whole = refl; contents = refl })

-- the writer after a record is where the next one begins
abbrev Onward : List ℕ → List ℕ → List ℕ → ℕ → Result ByteWriter Error → Type 0
Onward s out₀ out at (Ok writer) = (at < writer.at) × Progress s out₀ out writer.at
Onward s out₀ out at (Err e) = ⊥

-- a record is written
pub advance : {s out₀ out l : List ℕ} {at next : ℕ} {a : AdStructure} {r t : Result ByteWriter Error} → Progress s out₀ out at → length s ≤ length out₀ → Ok (Some (a, next)) ≡ record_at s at
    → get_or s at 0 < 256 → (r ≡ written_to a s out at) × (l ≡ written_after a s out at) → r ≡ t → Onward s out₀ l at t
unfolding written_to written_after
advance {s} {out₀} {out} {l} {at} {next} {a} p room read octet wrote is =
    let e = read_at p read in
    let step : Step s at next = stepped s at e in
    let r : List ℕ = clean (first (drop at s)) in
    let size : at + length r ≡ next = rw clean_length step.ends in
    let again = written_again s out at e octet (omega (arith, as_long p room, step.inside)) in
    let behind : drop (at + length r) (p.done ++ drop at out₀) ≡ drop next out₀ =
    rw (← p.size, drop-append-add, p.size, drop-drop, size) in
    let ends : written_to a s out at ≡ Ok (record { at = next }) = rw (again.may, again.octets, size) in
    let stands : l ≡ written r out at = rw (again.may, again.octets) at wrote.1 in
    subst (Onward s out₀ l at) (sym ends ∙ sym wrote.0 ∙ is) (
      step.later,
      rw stands (record {
        done = p.done ++ r;
        inside = step.inside;
        from = accepted_more s at e p.from;
        size = simp (length-append, p.size, size);
        whole = append_assoc p.done r (rewritten (drop next s)) ∙ ap (λ (l : List ℕ). p.done ++ l) (sym (rewritten_step step)) ∙ p.whole;
        contents = simp (p.contents, take_at p.done (drop at out₀) at p.size, behind, append_assoc);
      }),
    )

-- no record is refused
pub none_refused : {s out₀ out : List ℕ} {at : ℕ} {e : Error} → Progress s out₀ out at → Err e ≡ record_at s at → ⊥
none_refused {s} {at = at} p read = accepted_reads s at (read_at p read) p.from

pub finished : {s out₀ out : List ℕ} {at : ℕ} → Progress s out₀ out at → Ok None ≡ record_at s at → (at ≡ length s) × (out ≡ rewritten s ++ drop (length s) out₀)
unfolding rewritten flatten cut
finished {s} {at = at} p read =
    let end : drop at s ≡ [] = ended s at (read_at p read) in
    let all : at ≡ length s = omega (arith, p.inside, rw length-drop at (ap length end)) in
    let all_written : p.done ≡ rewritten s = sym (append-nil p.done) ∙ (rw end at p.whole) in
    (all, p.contents ∙ simp (all_written, all))
