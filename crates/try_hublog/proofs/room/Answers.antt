use Rattle.std.proofs.Common.{◌≡◌, ℕ, length, replicate, sym}
use Rattle.std.proofs.Math.ListN.{length-replicate}
use Rattle.try_hublog.proofs.room.Goals as goal

zeros_long : (n : ℕ) → n ≡ length {A = ℕ} (replicate n 0)
zeros_long n = sym (length-replicate {A = ℕ} n 0)

pub returns : goal.returns
returns c = zeros_long 600000
