use Rattle.std.proofs.Common.{◌≡◌, ℕ, ◌/◌, sym, ap, ◌∙◌, arith}
use Rattle.channels.specs.declared.channel_map.ChannelMap.{ChannelMap}
use Rattle.settings.specs.Ranges.{in_ranges}
use Rattle.settings.specs.Settings.{Settings, settings_as, is_within}
use Rattle.settings.proofs.Empty.{empty_of}
use Rattle.settings.proofs.Ranges.{tests, are_in, within_of, outside_of}
use Rattle.settings.proofs.ConnectionSettings.of.Goals as goal

pub returns-then-channels-eq0 : goal.returns-then-channels-eq0
returns-then-channels-eq0 c = empty_of c.args.lldata (sym (c.num_used_channels-channels.ensures ∙ ap (λ (m : ChannelMap). m.num_used_channels) c.channel_map-chm.ensures) ∙ c.if-channels-eq0.true)

pub returns-then-not-in_ranges : goal.returns-then-not-in_ranges
returns-then-not-in_ranges c =
    let found : Settings =
    settings_as c.hop-hop.result c.channel_map-chm.result (c.interval-interval.result / 1250) c.slave_latency-latency.result (c.supervision_timeout-timeout.result / 10000) (c.win_size-win_size.result / 1250) (c.win_offset-win_offset.result / 1250) in
    let tested : is_within found ≡ c.in_ranges.result =
    ap (λ (n : ℕ). in_ranges found.hop n found.interval found.latency found.timeout found.win_size found.win_offset) (sym c.num_used_channels-channels.ensures) ∙ sym c.in_ranges.ensures in
    outside_of c.args.lldata found (are_in c.args.lldata c.hop-hop.ensures c.channel_map-chm.ensures c.interval-interval.ensures c.slave_latency-latency.ensures c.supervision_timeout-timeout.ensures c.win_size-win_size.ensures c.win_offset-win_offset.ensures)
    (λ none. c.if-channels-eq0.false (c.num_used_channels-channels.ensures ∙ none)) (tested ∙ c.if-not-in_ranges.true)

pub overflow_cast-result : goal.overflow_cast-result
overflow_cast-result c =
    let ranges = (tests _ _ _ _ _ _ _).0 (sym c.in_ranges.ensures ∙ c.if-not-in_ranges.false) in
    omega (arith, ranges.interval_most)

pub overflow_cast-result-2 : goal.overflow_cast-result-2
overflow_cast-result-2 c =
    let ranges = (tests _ _ _ _ _ _ _).0 (sym c.in_ranges.ensures ∙ c.if-not-in_ranges.false) in
    omega (arith, ranges.timeout_most)

pub overflow_cast-result-3 : goal.overflow_cast-result-3
overflow_cast-result-3 c =
    let ranges = (tests _ _ _ _ _ _ _).0 (sym c.in_ranges.ensures ∙ c.if-not-in_ranges.false) in
    omega (arith, ranges.win_size_most)

pub overflow_cast-result-4 : goal.overflow_cast-result-4
overflow_cast-result-4 c =
    let ranges = (tests _ _ _ _ _ _ _).0 (sym c.in_ranges.ensures ∙ c.if-not-in_ranges.false) in
    omega (arith, ranges.win_offset_most, ranges.interval_most)

pub invariant_of-result : goal.invariant_of-result
invariant_of-result c =
    let ranges = (tests _ _ _ _ _ _ _).0 (sym c.in_ranges.ensures ∙ c.if-not-in_ranges.false) in
    record { within = rw (← c.num_used_channels-channels.ensures) ranges }

pub returns : goal.returns
returns c =
    let found : Settings =
    settings_as c.hop-hop.result c.channel_map-chm.result (c.interval-interval.result / 1250) c.slave_latency-latency.result (c.supervision_timeout-timeout.result / 10000) (c.win_size-win_size.result / 1250) (c.win_offset-win_offset.result / 1250) in
    let tested : is_within found ≡ c.in_ranges.result =
    ap (λ (n : ℕ). in_ranges found.hop n found.interval found.latency found.timeout found.win_size found.win_offset) (sym c.num_used_channels-channels.ensures) ∙ sym c.in_ranges.ensures in
    within_of c.args.lldata found (are_in c.args.lldata c.hop-hop.ensures c.channel_map-chm.ensures c.interval-interval.ensures c.slave_latency-latency.ensures c.supervision_timeout-timeout.ensures c.win_size-win_size.ensures c.win_offset-win_offset.ensures)
    (λ none. c.if-channels-eq0.false (c.num_used_channels-channels.ensures ∙ none)) (tested ∙ c.if-not-in_ranges.false)
