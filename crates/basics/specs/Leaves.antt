-- Channels, maps and hops as numbers.
--   channel_after times        == the advertising channel after up to 3 cycles from the first
--   advertising_channel, data_channel   == what there is to say of a channel
--   found_got, hop_got          == the answers of a map
use Rattle.std.specs.Prelude.{cond, ℕ, eqb, Result, Ok, Err}
use Rattle.octets.specs.Error.{number_of}
use Rattle.channels.specs.Phy.{frequency, whitening_start, index_of, first_channel, cycled, advertising_rf, data_rf}
use Rattle.channels.specs.declared.connection.Hop.{Hop}
use Rattle.channels.specs.declared.phy.AdvertisingChannel.{AdvertisingChannel}
use Rattle.answers.specs.Got.{found, refused_as}
use Rattle.answers.specs.declared.got.Got.{Got}
use Rattle.basics.specs.declared.leaves.Channel.{Channel}
use Rattle.octets.specs.declared.error.Error.{Error}
use Rattle.channels.specs.declared.phy.DataChannel.{DataChannel}

abbrev pub channel_after : ℕ → AdvertisingChannel
channel_after times =
    cond (eqb times 0) first_channel
    (cond (eqb times 1) (cycled first_channel)
    (cond (eqb times 2) (cycled (cycled first_channel))
    (cycled (cycled (cycled first_channel)))))

abbrev pub advertising_channel : AdvertisingChannel → Channel
advertising_channel c =
    record {
      number = 0;
      index = index_of c;
      rf_channel = advertising_rf c;
      whitening_iv = whitening_start (index_of c);
      freq = frequency (advertising_rf c);
    }

abbrev pub data_channel : Result DataChannel Error → Channel
data_channel (Ok c) =
    record {
      number = 0;
      index = c.index;
      rf_channel = data_rf c.index;
      whitening_iv = whitening_start c.index;
      freq = frequency (data_rf c.index);
    }
data_channel (Err e) = record { number = number_of e; index = 0; rf_channel = 0; whitening_iv = 0; freq = 0 }

abbrev pub found_got : Result DataChannel Error → Got
found_got (Ok c) = found c.index 0
found_got (Err e) = refused_as e

abbrev pub hop_got : Result Hop Error → Got
hop_got (Ok h) = found h.unmapped h.channel.index
hop_got (Err e) = refused_as e
