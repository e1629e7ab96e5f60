-- The ranges of a connection's settings (document 02, Note 6; the Core, Vol 6 Part B), as the counts that a connect request has: window fields and interval of
-- 1,250 µs, the latency of events, the timeout of 10 ms. The theorems are those of proofs/Ranges.antt.
--   Ranges ..                         == the ranges, as facts about hop, marked channels, interval, latency, timeout, window size and window offset
--   between low x high                == x is from `low` to `high`
--   times_in_range .., window_in_range .. == whether the ranges hold of interval, latency and timeout; of window size and window offset
--   in_ranges ..                       == whether they hold of all
--   Tests                             (Ranges.tests)    the test is the ranges, both ways
--   Times ..                          == the ranges as the Core says them, in µs
--   InTime                            (Ranges.in_time)  these are the ranges
use Rattle.std.specs.Prelude.{Bool, true, ◌&&◌, ◌≡◌, ℕ, ◌+◌, ◌-◌, ◌*◌, ◌≤◌, ◌<◌, min, leb, ltb}

-- "hop 5 to 16, at least two channels, interval 6 to 3,200, latency 0 to 499, timeout 10 to 3,200, timeout × 4 above (1 + latency) × interval, window size 1 to
-- the lesser of 8 and interval − 1, window offset at most interval"
pub record Ranges (hop channels interval latency timeout winSize winOffset : ℕ) : Type 0 where
  -- 2.3.3.1 and 4.5.8.2
  pub hop_least : 5 ≤ hop
  pub hop_most : hop ≤ 16
  -- 4.5.8.1
  pub two_channels : 2 ≤ channels
  -- 4.5.1: 7.5 ms to 4 s, and fewer than 500 events
  pub interval_least : 6 ≤ interval
  pub interval_most : interval ≤ 3200
  pub latency_most : latency ≤ 499
  -- 4.5.2: 100 ms to 32 s, and above twice the time from one event that is not slept through to the next
  pub timeout_least : 10 ≤ timeout
  pub timeout_most : timeout ≤ 3200
  pub timeout_above : (1 + latency) * interval < timeout * 4
  -- 4.5.3
  pub win_size_least : 1 ≤ winSize
  pub win_size_most : winSize ≤ min 8 (interval - 1)
  pub win_offset_most : winOffset ≤ interval

abbrev pub between : ℕ → ℕ → ℕ → Bool
between low x high = leb low x && leb x high

abbrev pub times_in_range : ℕ → ℕ → ℕ → Bool
times_in_range interval latency timeout =
    between 6 interval 3200 && (leb latency 499 && (between 10 timeout 3200 && ltb ((1 + latency) * interval) (timeout * 4)))

abbrev pub window_in_range : ℕ → ℕ → ℕ → Bool
window_in_range interval winSize winOffset = between 1 winSize (min 8 (interval - 1)) && leb winOffset interval

unfoldable pub in_ranges : ℕ → ℕ → ℕ → ℕ → ℕ → ℕ → ℕ → Bool
in_ranges hop channels interval latency timeout winSize winOffset =
    between 5 hop 16 && (leb 2 channels && (times_in_range interval latency timeout && window_in_range interval winSize winOffset))

abbrev pub Tests : Type 0
Tests =
    (hop channels interval latency timeout winSize winOffset : ℕ)
    → (in_ranges hop channels interval latency timeout winSize winOffset ≡ true → Ranges hop channels interval latency timeout winSize winOffset)
    × (Ranges hop channels interval latency timeout winSize winOffset → in_ranges hop channels interval latency timeout winSize winOffset ≡ true)

-- the same in the Core's own words: times in µs, a latency of fewer than 500 events, a timeout above twice (1 + latency) × interval
pub record Times (hop channels interval latency timeout winSize winOffset : ℕ) : Type 0 where
  pub hop_above : 4 < hop
  pub hop_below : hop < 17
  pub channels_above : 1 < channels
  pub interval_least : 7500 ≤ interval * 1250
  pub interval_most : interval * 1250 ≤ 4000000
  pub latency_below : latency < 500
  pub timeout_least : 100000 ≤ timeout * 10000
  pub timeout_most : timeout * 10000 ≤ 32000000
  pub timeout_above : 2 * ((1 + latency) * (interval * 1250)) < timeout * 10000
  pub win_size_least : 1250 ≤ winSize * 1250
  pub win_size_most : winSize * 1250 ≤ 10000
  pub win_size_inside : winSize * 1250 + 1250 ≤ interval * 1250
  pub win_offset_most : winOffset * 1250 ≤ interval * 1250

abbrev pub InTime : Type 0
InTime =
    (hop channels interval latency timeout winSize winOffset : ℕ)
    → (Ranges hop channels interval latency timeout winSize winOffset → Times hop channels interval latency timeout winSize winOffset)
    × (Times hop channels interval latency timeout winSize winOffset → Ranges hop channels interval latency timeout winSize winOffset)
