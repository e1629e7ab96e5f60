use Rattle.names_spec.specs.Name.{name_in}
use Rattle.names.proofs.name_in.Goals as goal

pub returns : goal.returns
unfolding name_in
returns c = c.find_record.ensures
