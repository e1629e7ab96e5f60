-- Settings as numbers.
--   said_of s         == their values, with the number 0
--   settings_said r   == those of settings that were taken, or the number of a refusal, and zeros
--   Examples         (Settings.examples)  worked values
use Rattle.std.specs.Prelude.{[], ◌∷◌, replicate, ◌≡◌, Result, Ok, Err}
use Rattle.octets.specs.Error.{number_of}
use Rattle.octets.specs.declared.error.Error.TheVariants.{EmptyMap, OutOfRange}
use Rattle.settings.specs.Settings.{Settings, settings_as}
use Rattle.basics.specs.declared.setting.SettingsSaid.{SettingsSaid}
use Rattle.octets.specs.declared.error.Error.{Error}

abbrev pub said_of : Settings → SettingsSaid
said_of s =
    record {
      number = 0;
      hop = s.hop;
      map = s.chm.raw;
      channels = s.chm.num_used_channels;
      interval = s.interval;
      latency = s.latency;
      timeout = s.timeout;
      win_size = s.win_size;
      win_offset = s.win_offset;
    }

abbrev pub settings_said : Result Settings Error → SettingsSaid
settings_said (Ok s) = said_of s
settings_said (Err e) =
    record {
      number = number_of e;
      hop = 0;
      map = replicate 5 0;
      channels = 0;
      interval = 0;
      latency = 0;
      timeout = 0;
      win_size = 0;
      win_offset = 0;
    }

pub record Examples : Type 0 where
  pub told : settings_said (Ok (settings_as 1 (record { raw = 2 ∷ 3 ∷ 4 ∷ 5 ∷ 6 ∷ []; num_used_channels = 7 }) 8 9 10 11 12))
      ≡ record { number = 0; hop = 1; map = 2 ∷ 3 ∷ 4 ∷ 5 ∷ 6 ∷ []; channels = 7; interval = 8; latency = 9; timeout = 10; win_size = 11; win_offset = 12 }
  pub empty : settings_said (Err EmptyMap)
      ≡ record { number = 6; hop = 0; map = 0 ∷ 0 ∷ 0 ∷ 0 ∷ 0 ∷ []; channels = 0; interval = 0; latency = 0; timeout = 0; win_size = 0; win_offset = 0 }
  pub outside : settings_said (Err OutOfRange)
      ≡ record { number = 12; hop = 0; map = 0 ∷ 0 ∷ 0 ∷ 0 ∷ 0 ∷ []; channels = 0; interval = 0; latency = 0; timeout = 0; win_size = 0; win_offset = 0 }
