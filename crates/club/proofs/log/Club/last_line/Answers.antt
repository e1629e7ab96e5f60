use mathlib.Core.Path.{ap, ◌∙◌}
use mathlib.Core.List.{[], ◌∷◌}
use Prim.Native.Nat.{ℕ}
use Rattle.columns.specs.Row.{row_of}
use Rattle.hub_spec.specs.Log.{left_over}
use Rattle.club_spec.specs.Log.{end_widths, end_line}
use Rattle.club.proofs.log.Club.last_line.Goals as goal

pub returns : goal.returns
unfolding end_line
returns c = c.put_last.ensures ∙ ap (λ (turn : ℕ). row_of end_widths (turn ∷ left_over c.args.left ∷ [])) c.open_turn.ensures
