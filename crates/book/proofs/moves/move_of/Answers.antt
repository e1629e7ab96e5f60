use Rattle.std.proofs.Common.{ℕ, List, ◌++◌, length, drop, replicate, sym, ap, ◌∙◌, refl}
use Rattle.std.proofs.Math.Seq.{take-length}
use Rattle.book.proofs.Heard.{over_zeros}
use Rattle.book.proofs.moves.move_of.Goals as goal

pub returns : goal.returns
returns c =
    let s = c.args.part.now in
    over_zeros s refl (ap (λ (l : List ℕ). l ++ drop (length s) (replicate 20 0)) (c.copy_from_slice.ensures.after ∙ sym (take-length s)))
