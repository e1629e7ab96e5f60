-- The settings of a connection that are taken (document 02, Note 6), as counts; their ranges are in specs/Ranges. The theorems are those of proofs/Ranges.antt and,
-- of all, proofs/Holding.antt.
--   Settings                           == the counts of settings, in range or not
--   Within s                          == the ranges hold of settings; is_within s: whether they do
--   settings_as ..                     == settings of these values
--   least_settings                     == the least of each range, over all channels
--   settings_of s, answer_of r         == the counts of the code's settings, and of what it answers
--   AsItIs                            (Holding.as_it_is)  what is read so is what the code has
--   settings_in l                      == the settings that a decoded request has, in range or not
--   judged s                          == what is answered for settings; taken_of l: for those of a decoded request
--   alone_of o                         == the same for the 22 octets of LLData
--   Taking o s t                      == s are the settings in the octets o of LLData, and t is what is taken of them, or the refusal
--   Settles p                         (Ranges.settles)  what is taken of a connect request's payload, and what is refused
--   Alone o                           (Ranges.alone)    the same of the 22 octets alone, and that those before them say nothing
--   lldata ..                         == LLData of given settings, for worked values
--   two_marked, one_marked, none_marked  == maps of two channels, of one, and of none
--   number_with ..                     == the number that taking such LLData answers
--   RangeLimits                       (Ranges.limits)   worked values on both sides of each limit
--   Holds                             (Holding.holds)   all of these, with what they assume
use Rattle.std.specs.Prelude.{Bool, cond, List, [], ◌∷◌, ◌++◌, map, ◌≡◌, ℕ, ◌/◌, ◌%◌, ◌≤◌, eqb, length, replicate, Result, Ok, Err}
use Rattle.std.specs.Result.{result_unwrap_or}
use Rattle.channels.specs.Map.{from_raw, all_channels}
use Rattle.channels.specs.declared.channel_map.ChannelMap.{ChannelMap}
use Rattle.octets.specs.Bytes.{le, le_bytes}
use Rattle.octets.specs.declared.error.Error.{Error}
use Rattle.octets.specs.declared.error.Error.TheVariants.{EmptyMap, OutOfRange}
use Rattle.advertising.specs.Laws.{Figure}
use Rattle.advertising.specs.Pdu.{ll_data_figure, ll_data_of, ll_data_in, request_of}
use Rattle.advertising.specs.Refusals.{number_in}
use Rattle.advertising.specs.declared.pdu.ConnectRequestData.{ConnectRequestData}
use Rattle.settings.specs.Ranges.{Ranges, in_ranges, Tests, InTime}
use Rattle.settings.specs.declared.ConnectionSettings.{ConnectionSettings}

-- the counts of settings, in range or not
pub record Settings : Type 0 where
  pub hop : ℕ
  pub chm : ChannelMap
  pub interval : ℕ
  pub latency : ℕ
  pub timeout : ℕ
  pub win_size : ℕ
  pub win_offset : ℕ

abbrev pub Within : Settings → Type 0
Within s = Ranges s.hop s.chm.num_used_channels s.interval s.latency s.timeout s.win_size s.win_offset

abbrev pub settings_as : ℕ → ChannelMap → ℕ → ℕ → ℕ → ℕ → ℕ → Settings
settings_as hop chm interval latency timeout winSize winOffset =
    record { hop = hop; chm = chm; interval = interval; latency = latency; timeout = timeout; win_size = winSize; win_offset = winOffset }

abbrev pub least_settings : Settings
least_settings = settings_as 5 all_channels 6 0 10 1 0

abbrev pub settings_of : ConnectionSettings → Settings
settings_of s = settings_as s.hop s.chm s.interval s.latency s.timeout s.win_size s.win_offset

abbrev pub answer_of : Result ConnectionSettings Error → Result Settings Error
answer_of (Ok s) = Ok (settings_of s)
answer_of (Err e) = Err e

-- the code's settings are read as they are, count by count, and so is its answer
pub record AsItIs : Type 0 where
  pub hop : (s : ConnectionSettings) → (settings_of s).hop ≡ s.hop
  pub chm : (s : ConnectionSettings) → (settings_of s).chm ≡ s.chm
  pub interval : (s : ConnectionSettings) → (settings_of s).interval ≡ s.interval
  pub latency : (s : ConnectionSettings) → (settings_of s).latency ≡ s.latency
  pub timeout : (s : ConnectionSettings) → (settings_of s).timeout ≡ s.timeout
  pub win_size : (s : ConnectionSettings) → (settings_of s).win_size ≡ s.win_size
  pub win_offset : (s : ConnectionSettings) → (settings_of s).win_offset ≡ s.win_offset
  pub taken : (s : ConnectionSettings) → answer_of (Ok s) ≡ Ok (settings_of s)
  pub refused : (e : Error) → answer_of (Err e) ≡ Err e

-- a request's data are kept in µs, the count times its unit
abbrev pub settings_in : ConnectRequestData → Settings
settings_in l = settings_as l.hop l.chm (l.interval / 1250) l.latency (l.timeout / 10000) (l.win_size / 1250) (l.win_offset / 1250)

abbrev pub is_within : Settings → Bool
is_within s = in_ranges s.hop s.chm.num_used_channels s.interval s.latency s.timeout s.win_size s.win_offset

-- "12, a setting outside its range .., after 6"
abbrev pub judged : Settings → Result Settings Error
judged s = cond (eqb s.chm.num_used_channels 0) (Err EmptyMap) (cond (is_within s) (Ok s) (Err OutOfRange))

unfoldable pub taken_of : ConnectRequestData → Result Settings Error
taken_of l = judged (settings_in l)

abbrev pub alone_of : List ℕ → Result Settings Error
alone_of o = taken_of (ll_data_of o)

-- Settings are taken exactly where they are within the ranges, and are then the request's own counts: the numbers of LLData's fields, as the figure in
-- specs/Pdu.antt draws them. Where the map marks no channel, they are refused with 6, and where it marks one and a setting is outside its range, with 12.
pub record Taking (o : List ℕ) (s : Settings) (t : Result Settings Error) : Type 0 where
  pub counts : (aa crcInit winSize winOffset interval latency timeout chM hopSca further : List ℕ)
      → Figure ll_data_figure (aa ∷ crcInit ∷ winSize ∷ winOffset ∷ interval ∷ latency ∷ timeout ∷ chM ∷ hopSca ∷ []) further o
      → s ≡ settings_as (le hopSca % 32) (from_raw chM) (le interval) (le latency) (le timeout) (le winSize) (le winOffset)
  pub sound : (x : Settings) → t ≡ Ok x → (x ≡ s) × Within s
  pub complete : Within s → t ≡ Ok s
  pub empty : s.chm.num_used_channels ≡ 0 → t ≡ Err EmptyMap
  pub outside : 1 ≤ s.chm.num_used_channels → (Within s → ⊥) → t ≡ Err OutOfRange
  -- a caller that goes on with the least settings then has these: hop 5, all channels, interval 6, latency 0, timeout 10, window 1, offset 0
  pub empty_least : s.chm.num_used_channels ≡ 0 → result_unwrap_or t least_settings ≡ settings_as 5 all_channels 6 0 10 1 0
  pub outside_least : 1 ≤ s.chm.num_used_channels → (Within s → ⊥) → result_unwrap_or t least_settings ≡ settings_as 5 all_channels 6 0 10 1 0
  -- and settings within the ranges whatever was asked
  pub kept : Within (result_unwrap_or t least_settings)

abbrev pub Settles : List ℕ → Type 0
Settles p = Taking (ll_data_in p) (settings_in (request_of p)) (taken_of (request_of p))

-- The 22 octets alone, and after any two addresses.
pub record Alone (o : List ℕ) : Type 0 where
  pub octets : Taking o (settings_in (ll_data_of o)) (alone_of o)
  pub addresses : (front : List ℕ) → length front ≡ 12 → request_of (front ++ o) ≡ ll_data_of o

-- LLData with an access address, a CRC start, and these settings; the last octet has the hop and the clock accuracy
abbrev pub lldata : ℕ → List ℕ → ℕ → ℕ → ℕ → ℕ → ℕ → List ℕ
lldata hopSca chm interval latency timeout winSize winOffset =
    (0xD6 ∷ 0xBE ∷ 0x89 ∷ 0x8E ∷ 0x56 ∷ 0x34 ∷ 0x12 ∷ winSize ∷ [])
    ++ (le_bytes 2 winOffset ++ (le_bytes 2 interval ++ (le_bytes 2 latency ++ (le_bytes 2 timeout ++ (chm ++ (hopSca ∷ []))))))

-- maps of two channels, of one, and of none with each bit set that stands for no channel
abbrev pub two_marked : List ℕ
two_marked = 0x01 ∷ 0x00 ∷ 0x00 ∷ 0x00 ∷ 0x10 ∷ []

abbrev pub one_marked : List ℕ
one_marked = 0x00 ∷ 0x00 ∷ 0x00 ∷ 0x00 ∷ 0xF0 ∷ []

abbrev pub none_marked : List ℕ
none_marked = 0x00 ∷ 0x00 ∷ 0x00 ∷ 0x00 ∷ 0xE0 ∷ []

abbrev pub number_with : ℕ → List ℕ → ℕ → ℕ → ℕ → ℕ → ℕ → ℕ
number_with hopSca chm interval latency timeout winSize winOffset = number_in (alone_of (lldata hopSca chm interval latency timeout winSize winOffset))

pub record RangeLimits : Type 0 where
  -- the low five bits of the last octet
  pub hop : map (λ (o : ℕ). number_with o two_marked 24 0 100 2 3) (0x00 ∷ 0x04 ∷ 0x05 ∷ 0x10 ∷ 0x11 ∷ 0x1F ∷ 0xE4 ∷ 0xE5 ∷ 0xF0 ∷ 0xF1 ∷ []) ≡ 12 ∷ 12 ∷ 0 ∷ 0 ∷ 12 ∷ 12 ∷ 12 ∷ 0 ∷ 0 ∷ 12 ∷ []
  pub channels : map (λ (chm : List ℕ). number_with 5 chm 24 0 100 2 3) (replicate 5 0x00 ∷ none_marked ∷ one_marked ∷ two_marked ∷ replicate 5 0xFF ∷ []) ≡ 6 ∷ 6 ∷ 12 ∷ 0 ∷ 0 ∷ []
  pub interval : map (λ (n : ℕ). number_with 5 two_marked n 0 3200 1 0) (0 ∷ 1 ∷ 2 ∷ 3 ∷ 4 ∷ 5 ∷ 6 ∷ 3200 ∷ 3201 ∷ 65535 ∷ []) ≡ 12 ∷ 12 ∷ 12 ∷ 12 ∷ 12 ∷ 12 ∷ 0 ∷ 0 ∷ 12 ∷ 12 ∷ []
  pub latency : map (λ (n : ℕ). number_with 5 two_marked 6 n 3200 1 0) (0 ∷ 499 ∷ 500 ∷ 65535 ∷ []) ≡ 0 ∷ 0 ∷ 12 ∷ 12 ∷ []
  pub timeout : map (λ (n : ℕ). number_with 5 two_marked 6 0 n 1 0) (0 ∷ 9 ∷ 10 ∷ 3200 ∷ 3201 ∷ 65535 ∷ []) ≡ 12 ∷ 12 ∷ 0 ∷ 0 ∷ 12 ∷ 12 ∷ []
  -- 400 above (1 + 1) × 200 or not; 44 above 43, not 44; 3,000 not above 500 × 6; 12,800 above 500 × 25, not 500 × 26; 9,600 not above 3 × 3,200
  pub timeout_above : map (λ (n : ℕ). number_with 5 two_marked 200 1 n 2 3) (100 ∷ 101 ∷ []) ≡ 12 ∷ 0 ∷ []
  pub timeout_11 : map (λ (n : ℕ). number_with 5 two_marked n 0 11 2 3) (41 ∷ 42 ∷ 43 ∷ 44 ∷ []) ≡ 0 ∷ 0 ∷ 0 ∷ 12 ∷ []
  pub latency_499 : map (λ (n : ℕ). number_with 5 two_marked 6 499 n 2 3) (750 ∷ 751 ∷ []) ≡ 12 ∷ 0 ∷ []
  pub timeout_3200 : map (λ (n : ℕ). number_with 5 two_marked n 499 3200 2 3) (25 ∷ 26 ∷ []) ≡ 0 ∷ 12 ∷ []
  pub interval_3200 : map (λ (n : ℕ). number_with 5 two_marked 3200 2 n 2 3) (2400 ∷ 2401 ∷ []) ≡ 12 ∷ 0 ∷ []
  -- 8 where the interval is 9 or more, and below that the interval less one
  pub win_size : map (λ (n : ℕ). number_with 5 two_marked 24 0 100 n 3) (0 ∷ 1 ∷ 8 ∷ 9 ∷ 255 ∷ []) ≡ 12 ∷ 0 ∷ 0 ∷ 12 ∷ 12 ∷ []
  pub win_size_9 : map (λ (n : ℕ). number_with 5 two_marked 9 0 100 n 3) (8 ∷ 9 ∷ []) ≡ 0 ∷ 12 ∷ []
  pub win_size_8 : map (λ (n : ℕ). number_with 5 two_marked 8 0 100 n 3) (7 ∷ 8 ∷ []) ≡ 0 ∷ 12 ∷ []
  pub win_size_6 : map (λ (n : ℕ). number_with 5 two_marked 6 0 100 n 3) (5 ∷ 6 ∷ []) ≡ 0 ∷ 12 ∷ []
  pub win_offset : map (λ (n : ℕ). number_with 5 two_marked 24 0 100 2 n) (0 ∷ 24 ∷ 25 ∷ 65535 ∷ []) ≡ 0 ∷ 0 ∷ 12 ∷ 12 ∷ []
  -- no channel, with another setting outside its range; all octets zero, all FF; 65,535 three times
  pub order : number_with 0x11 none_marked 0 0 0 0 0 ∷ number_in (alone_of (replicate 22 0x00)) ∷ number_in (alone_of (replicate 22 0xFF)) ∷ number_with 5 two_marked 65535 65535 65535 2 3 ∷ [] ≡ 6 ∷ 6 ∷ 12 ∷ 12 ∷ []
  -- the settings themselves, by their octets
  pub octets : lldata 0x2A two_marked 300 4 800 7 200
      ≡ 0xD6 ∷ 0xBE ∷ 0x89 ∷ 0x8E ∷ 0x56 ∷ 0x34 ∷ 0x12 ∷ 0x07 ∷ 0xC8 ∷ 0x00 ∷ 0x2C ∷ 0x01 ∷ 0x04 ∷ 0x00 ∷ 0x20 ∷ 0x03 ∷ 0x01 ∷ 0x00 ∷ 0x00 ∷ 0x00 ∷ 0x10 ∷ 0x2A ∷ []
  pub taken : alone_of (lldata 0x2A two_marked 300 4 800 7 200)
      ≡ Ok (record { hop = 10; chm = from_raw two_marked; interval = 300; latency = 4; timeout = 800; win_size = 7; win_offset = 200 })
  pub not_taken : alone_of (lldata 0x31 two_marked 300 4 800 7 200) ≡ Err OutOfRange
  -- and those that are the least
  pub least : result_unwrap_or (alone_of (lldata 0x31 two_marked 300 4 800 7 200)) least_settings
      ≡ record { hop = 5; chm = from_raw (replicate 5 0xFF); interval = 6; latency = 0; timeout = 10; win_size = 1; win_offset = 0 }

-- All of these, with what they assume.
pub record Holds : Type 0 where
  pub tests : Tests
  pub in_time : InTime
  pub least_kept : Within least_settings
  pub settles : (p : List ℕ) → Settles p
  pub alone : (o : List ℕ) → Alone o
  pub limits : RangeLimits
  pub as_it_is : AsItIs
