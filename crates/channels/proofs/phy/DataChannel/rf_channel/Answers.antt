-- Each arm is a part of the Core's table.
use mathlib.Core.Path.{sym}
use Rattle.std.proofs.Common.{rules}
use Rattle.channels.proofs.Frequencies.{data_table, data_rf_none}
use Rattle.channels.proofs.phy.DataChannel.rf_channel.Goals as goal

pub returns-in-0-to-10 : goal.returns-in-0-to-10
returns-in-0-to-10 c = sym (data_table.low _ (search rules))

pub returns-in-11-to-36 : goal.returns-in-11-to-36
returns-in-11-to-36 c = sym (data_table.high _ (search rules) (search rules))

pub returns-in_default : goal.returns-in_default
returns-in_default c = sym (data_rf_none _ (search rules))
