-- How far a run of the log is before each read, and what a read makes of it. Assumes nothing.
use mathlib.Core.Path.{◌≡◌, refl, sym, ap, ◌∙◌}
use mathlib.Core.Bool.{Bool, true, false, true≢false, ◌||◌}
use mathlib.Core.List.{List, ◌++◌}
use Prim.Native.Nat.{ℕ, ◌+◌, ◌*◌, ◌<◌, ◌≤◌}
use native.Mathlib.Omega.{arith}
use lib.ListN.{length, take}
use lib.Dec.{eqb}
use borrow.Author.Tests.{eqb-false}
use Rattle.hub_spec.specs.Line.{line_size, last_size}
use Rattle.hub_spec.specs.Log.{most_items, hub_of, octets_left, is_last, block_lines}
use Rattle.hub_spec.specs.Reads.{NextBlock, Ended}
use Rattle.hub_spec.specs.State.{Hub, Block}
use Rattle.hub_spec.proofs.AnyReads.{block_taken}
use Rattle.hub_spec.proofs.Runs as runs
use Rattle.hub_spec.proofs.Runs.{Running, begins, counts, few, log_few, to_read, fewer_left}

-- before each read
pub record Going (buf₀ out₀ buf out : List ℕ) (h : Hub) (kept n : ℕ) : Type 0 where
  pub buf_long : length buf ≡ length buf₀
  pub out_long : length out ≡ length out₀
  pub run : Running h (take kept buf) n
  pub short : kept < 66

not_first : (a b : Bool) → a || b ≡ false → a ≡ false
not_first true b e = absurd (true≢false e)
not_first false b e = refl

module _ {h : Hub} {kept : List ℕ} {t : Block} {left out : List ℕ} {n more : ℕ} (run : Running h kept n) (next : NextBlock h kept t left out more) where
  nothing : Bool
  nothing = eqb (length next.read) 0

  abbrev s : List ℕ
  s = kept ++ next.read

  last : is_last h s nothing ≡ t.is_stopped
  unfolding nothing
  last = sym (ap (λ (b : Block). b.is_stopped) next.block)

  -- what is added to what was written
  more_is : more ≡ length (block_lines h s nothing)
  unfolding nothing
  more_is = next.written ∙ ap (λ (b : Block). b.written) next.block

  hub_is : t.hub ≡ hub_of h s
  hub_is = ap (λ (b : Block). b.hub) next.block

  pub go_on : t.is_stopped ≡ false → Running t.hub left (n + more)
  unfolding nothing
  go_on e = rw (hub_is, next.left_over_law, more_is) (runs.goes_on run next.read nothing (last ∙ e))

  pub end : t.is_stopped ≡ true → Ended t.hub (n + more)
  unfolding nothing
  end e = rw (hub_is, more_is) (runs.ends run next.read nothing (last ∙ e))

  kept_is : t.kept ≡ length (octets_left h s)
  kept_is = ap (λ (b : Block). b.kept) next.block

  pub fewer : length kept < 66 → t.is_stopped ≡ false → (to_read t.hub t.kept < to_read h (length kept)) × (t.kept < 66)
  unfolding nothing
  fewer short e =
      let some : length next.read ≡ 0 → ⊥ = eqb-false (length next.read) 0 (not_first nothing _ (last ∙ e)) in
      (rw (hub_is, kept_is) (fewer_left h kept next.read nothing short (counts run).0 some (last ∙ e)), rw kept_is ((block_taken h s nothing).short (last ∙ e)))

  pub bound : n + more ≤ line_size * most_items + last_size
  bound = go t.is_stopped refl
    where
      go : (b : Bool) → t.is_stopped ≡ b → n + more ≤ line_size * most_items + last_size
      go true e = let all = end e in omega (arith, all.written, log_few all.input)
      go false e = omega (arith, few (go_on e))
