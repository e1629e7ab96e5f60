-- What is written of a record, read as a record of the specification.
--   content_check c      == what the content c of src/ad_structure.rt asks of data
--   outline_state o      == the outline o of src/ad_structure.rt
use Rattle.std.specs.Prelude.{ℕ, List, Result}
use Rattle.octets.specs.declared.error.Error.{Error}
use Rattle.records_spec.specs.Write as spec
use Rattle.records_spec.specs.Write.{no_check, list_check, name_check}
use Rattle.records.specs.declared.ad_structure.Content.{Content}
use Rattle.records.specs.declared.ad_structure.Content.TheVariants.{Octets, Uuids, Text}
use Rattle.records.specs.declared.ad_structure.Outline.{Outline}

abbrev pub content_check : Content → List ℕ → Result (Unit {0}) Error
content_check Octets = no_check
content_check (Uuids kind) = list_check kind
content_check Text = name_check

abbrev pub outline_state : Outline → spec.Outline
outline_state o = record { ty = o.ty; own = o.own; held = o.held; start = o.start; len = o.len; check = content_check o.content }
