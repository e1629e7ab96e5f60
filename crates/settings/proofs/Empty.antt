-- What is answered for a request whose map marks no channel: `empty_of`. Assumes nothing.
use Rattle.std.proofs.Common.{◌≡◌, eq-eqb}
use Rattle.std.specs.Prelude.{Err}
use Rattle.octets.specs.declared.error.Error.TheVariants.{EmptyMap}
use Rattle.advertising.specs.declared.pdu.ConnectRequestData.{ConnectRequestData}
use Rattle.settings.specs.Settings.{taken_of}

pub empty_of : (l : ConnectRequestData) → l.chm.num_used_channels ≡ 0 → Err EmptyMap ≡ taken_of l
unfolding taken_of
empty_of l none_marked = rw (eq-eqb l.chm.num_used_channels 0 none_marked)
