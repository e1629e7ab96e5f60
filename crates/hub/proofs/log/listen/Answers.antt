use Rattle.std.proofs.Common.{◌≡◌, refl, sym, ap, ◌∙◌, cond, List, [], ◌∷◌, ℕ, arith, length, get_or}
use lib.Dec.{eqb}
use borrow.Author.Tests.{eq-eqb, ne_eqb}
use Rattle.octets.specs.declared.time.Instant.{Instant}
use Rattle.beacon_spec.specs.Scanner.{timer_updated}
use Rattle.beacon_spec.specs.State.{BeaconScanner, Updated}
use Rattle.hub_spec.specs.Log.{start, scanner_after}
use Rattle.hub.proofs.log.listen.Goals as goal

nothing : (s : BeaconScanner) (item : List ℕ) → length item ≡ 0 → s ≡ scanner_after s item
unfolding scanner_after
nothing s [] e = refl
nothing s (first ∷ rest) e = absurd (omega arith)

some : (s : BeaconScanner) (item : List ℕ) → (length item ≡ 0 → ⊥) → scanner_after s item ≡ cond (eqb (get_or item 0 0) 0) (timer_updated s start).scanner s
unfolding scanner_after
some s [] more = absurd (more refl)
some s (first ∷ rest) more = refl

ticked : (s : BeaconScanner) (item : List ℕ) {t : Instant} {u : Updated} → (length item ≡ 0 → ⊥) → get_or item 0 0 ≡ 0 → t ≡ start → u ≡ timer_updated s t
    → u.scanner ≡ scanner_after s item
ticked s item more is is-t is-u =
    ap (λ (u : Updated). u.scanner) is-u
    ∙ ap (λ (t : Instant). (timer_updated s t).scanner) is-t
    ∙ sym (some s item more ∙ simp (eq-eqb (get_or item 0 0) 0 is))

pub returns-then-item-eq0 : goal.returns-then-item-eq0
returns-then-item-eq0 c = nothing _ _ c.if-item-eq0.true

pub returns-then-item-eq-TICK : goal.returns-then-item-eq-TICK
returns-then-item-eq-TICK c = ticked _ _ c.if-item-eq0.false c.if-item-eq-TICK.true c.start.ensures c.timer_update-updated.ensures

pub returns : goal.returns
returns c = sym (some _ _ c.if-item-eq0.false ∙ simp (ne_eqb _ _ c.if-item-eq-TICK.false))
