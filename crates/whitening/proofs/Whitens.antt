-- What whitening does, and what two calls do. Assumes nothing.
use mathlib.Core.Path.{◌≡◌, refl, ap, ◌∙◌}
use mathlib.Core.List.{List}
use Prim.Native.Nat.{ℕ}
use lib.ListN.{length}
use Rattle.whitening.specs.Laws.{Whitens}
use Rattle.whitening.specs.Packet.{allowed, whiten_of, leaves, whiten_after}
use Rattle.whitening.specs.Whitening.{whitened}
use Rattle.whitening.proofs.Limits.{allowed_done}
use Rattle.whitening.proofs.Twice.{adds, twice, whitened_length}
use Rattle.std.specs.Prelude.{Result, Ok, Err}
use Rattle.octets.specs.declared.error.Error.{Error}

called_twice : (channel : ℕ) (packet : List ℕ) → whiten_after channel (whiten_after channel packet) ≡ packet
called_twice channel packet = go (whiten_of channel packet) refl
  where
    go : (answer : Result (Unit {0}) Error) → whiten_of channel packet ≡ answer → whiten_after channel (leaves (whiten_of channel packet) channel packet) ≡ packet
    go (Ok tt) is =
        let most = (allowed_done channel (length packet) is).most in
        let same : whiten_of channel (whitened channel packet) ≡ (Ok tt) = ap (allowed channel) (whitened_length channel packet most) ∙ is in
        ap (λ (a : Result (Unit {0}) Error). whiten_after channel (leaves a channel packet)) is
        ∙ ap (λ (a : Result (Unit {0}) Error). leaves a channel (whitened channel packet)) same
        ∙ twice channel packet most
    go (Err e) is = ap (λ (a : Result (Unit {0}) Error). whiten_after channel (leaves a channel packet)) is ∙ ap (λ (a : Result (Unit {0}) Error). leaves a channel packet) is

pub whitens : Whitens
whitens = record { adds = adds; as_long = whitened_length; twice = twice; called_twice = called_twice }
