use Rattle.std.proofs.Common.{◌≡◌, sym, ap, ◌∙◌, Bool, true, false, cond, List, ℕ, length, take, Option, Some, None}
use Rattle.octets.specs.Bytes.{at_front}
use Rattle.hub_spec.specs.Log.{block_lines, block_of, is_ready, rest_in, taken_in, rest_after, lines_after}
use Rattle.hub_spec.specs.State.{Hub, Block}
use Rattle.hub_spec.proofs.AnyReads.{all_ready}
use Rattle.hub.specs.State.{hub_state}
use Rattle.hub.proofs.log.Hub.take_in.Goals as goal

module _ (h : Hub) (buf : List ℕ) (filled : ℕ) (isEnd : Bool) (out : List ℕ) where
  abbrev ready : Bool
  ready = is_ready h filled (length buf) (length out)

  -- what the contract says
  Takes : Option Block → List ℕ → List ℕ → Type 0
  Takes r buf' out' = (r ≡ taken_in h buf filled isEnd out) × ((buf' ≡ rest_after h buf filled out) × (out' ≡ lines_after h buf filled isEnd out))

  took : {t : Block} {buf' out' : List ℕ} → ready ≡ true → (t ≡ block_of h (take filled buf) isEnd) × ((buf' ≡ rest_in h buf filled) × (out' ≡ at_front (block_lines h (take filled buf) isEnd) out))
      → Takes (Some t) buf' out'
  unfolding Takes
  took is e =
      (ap Some e.0 ∙ ap (λ (b : Bool). cond b (Some (block_of h (take filled buf) isEnd)) None) (sym is), (e.1.0 ∙ ap (λ (b : Bool). cond b (rest_in h buf filled) buf) (sym is), e.1.1 ∙ ap (λ (b : Bool). cond b (at_front (block_lines h (take filled buf) isEnd) out) out) (sym is)))

  refused : ready ≡ false → Takes None buf out
  unfolding Takes
  refused is =
      (ap (λ (b : Bool). cond b (Some (block_of h (take filled buf) isEnd)) None) (sym is), (ap (λ (b : Bool). cond b (rest_in h buf filled) buf) (sym is), ap (λ (b : Bool). cond b (at_front (block_lines h (take filled buf) isEnd) out) out) (sym is)))

pub take_block-requires : goal.take_block-requires
take_block-requires c =
    all_ready (hub_state c.args.self) c.args.buf.now c.args.filled c.args.out.now (sym c.is_ready.ensures ∙ c.if-is_ready.true)

pub returns-then-is_ready : goal.returns-then-is_ready
unfolding Takes
returns-then-is_ready c =
    let a = c.args in
    took (hub_state a.self) a.buf.now a.filled a.is_end a.out.now (sym c.is_ready.ensures ∙ c.if-is_ready.true) c.take_block.ensures

pub returns-else-is_ready : goal.returns-else-is_ready
unfolding Takes
returns-else-is_ready c =
    let a = c.args in
    refused (hub_state a.self) a.buf.now a.filled a.is_end a.out.now (sym c.is_ready.ensures ∙ c.if-is_ready.false)
