-- The samples of the log hold of the definitions: `sample`; and lines that fill their room: `just_room`. Assumes nothing.
use mathlib.Core.Path.{◌≡◌, refl, sym, ap, ◌∙◌}
use mathlib.Core.List.{List, [], ◌∷◌, ◌++◌, flatten, append_assoc, append-nil}
use mathlib.Core.Logic.{inl, inr}
use Prim.Native.Nat.{ℕ, zero, suc, ◌+◌, ◌-◌, ◌*◌, ◌≤◌}
use native.Mathlib.Omega.{arith}
use lib.ListN.{length, replicate, length-append, length-replicate}
use Rattle.octets.specs.Lists.{All}
use Rattle.addresses.specs.Header.{pdu_type}
use Rattle.advertising.specs.Pdu.{decode_by, by_type, undirected, with_area}
use Rattle.beacon_spec.specs.Scanner.{scanned, sighted}
use Rattle.columns.proofs.Widths.{column_length}
use Rattle.columns.specs.Column.{leading, column}
use Rattle.columns.specs.Text.{ascii, lines}
use Rattle.items.proofs.Falling.{falls}
use Rattle.items.proofs.Items.{one_whole, none_whole}
use Rattle.items.specs.Item.{IsItem, size_of, whole_size, items, after_items, tick, packet}
use Rattle.records_spec.specs.Area.{cut, reads, with_first, area_of, read_area}
use Rattle.records_spec.specs.HubReading.{before_zero, unpadded, is_zeros, ended_by, read_padded, area_in}
use Rattle.records_spec.specs.Record.{first, flags_read, data_read, up_to, record_read}
use Rattle.flags.specs.Flags.{named}
use Rattle.hub_spec.specs.Line.{line_size, report_line, line, reports_in}
use Rattle.hub_spec.specs.Log.{most_items, heard_in, scanner_after, after_item, printed, after_all, printed_all, last_line, fresh_hub, log_of}
use Rattle.hub_spec.specs.Sample.{beacon, bad_beacon, padded_beacon, unended_beacon, long_packet, short_beacon, six_items, tick_items, Sample, JustRoom}

-- step by step: computing `items` would unfold it 999,999 times
both : items most_items (0x00 ∷ beacon) ≡ (0x00 ∷ []) ∷ beacon ∷ []
unfolding size_of whole_size
both =
    one_whole (most_items - 1) (0x00 ∷ beacon) refl
    ∙ ap (λ (its : List (List ℕ)). (0x00 ∷ []) ∷ its) (one_whole (most_items - 2) beacon refl)
    ∙ ap (λ (its : List (List ℕ)). (0x00 ∷ []) ∷ beacon ∷ its) (none_whole (most_items - 2) [] refl)

no_items : items most_items [] ≡ []
unfolding size_of whole_size
no_items = none_whole most_items [] refl

-- an item by itself
alone : (s : List ℕ) → items most_items s ≡ s ∷ items (most_items - 1) [] → items most_items s ≡ s ∷ []
unfolding size_of whole_size
alone s one = one ∙ ap (λ (its : List (List ℕ)). s ∷ its) (none_whole (most_items - 1) [] refl)

bad_item : items most_items bad_beacon ≡ bad_beacon ∷ []
unfolding size_of whole_size
bad_item = alone bad_beacon (one_whole (most_items - 1) bad_beacon refl)

padded_item : items most_items padded_beacon ≡ padded_beacon ∷ []
unfolding size_of whole_size
padded_item = alone padded_beacon (one_whole (most_items - 1) padded_beacon refl)

unended_item : items most_items unended_beacon ≡ unended_beacon ∷ []
unfolding size_of whole_size
unended_item = alone unended_beacon (one_whole (most_items - 1) unended_beacon refl)

long_item : items most_items long_packet ≡ long_packet ∷ []
unfolding size_of whole_size
long_item = alone long_packet (one_whole (most_items - 1) long_packet refl)

above_item : items most_items (0x01 ∷ 0x00 ∷ 0xC0 ∷ []) ≡ (0x01 ∷ 0x00 ∷ 0xC0 ∷ []) ∷ []
unfolding size_of whole_size
above_item = alone (0x01 ∷ 0x00 ∷ 0xC0 ∷ []) (one_whole (most_items - 1) (0x01 ∷ 0x00 ∷ 0xC0 ∷ []) refl)

broken_item : items most_items (0x03 ∷ []) ≡ []
unfolding size_of whole_size
broken_item = none_whole most_items (0x03 ∷ []) refl

cut_item : items most_items (0x01 ∷ 0x42 ∷ []) ≡ []
unfolding size_of whole_size
cut_item = none_whole most_items (0x01 ∷ 0x42 ∷ []) refl

-- items, one after the other
each_found : (its : List (List ℕ)) (n : ℕ) (rest : List ℕ) → All IsItem its → items (length its + n) (flatten its ++ rest) ≡ its ++ items n rest
unfolding flatten
each_found [] n rest all = ap (λ (k : ℕ). items k rest) (omega arith)
each_found (item ∷ its) n rest all =
    let one_more : length (item ∷ its) + n ≡ suc (length its + n) = omega arith in
    rw (one_more, append_assoc) ((falls (length its + n) []).found item (flatten its ++ rest) all.0 ∙ ap (λ (l : List (List ℕ)). item ∷ l) (each_found its n rest all.1))

ticked_items : items most_items (flatten tick_items) ≡ tick_items
unfolding size_of whole_size
ticked_items =
    ap (items most_items) (sym (append-nil (flatten tick_items)))
    ∙ each_found tick_items (most_items - 11) []
    (packet _ _ _ _ (inl refl) refl, (tick, (packet _ _ _ _ (inl refl) refl, (tick, (packet _ _ _ _ (inr refl) refl, (tick, (packet _ _ _ _ (inl refl) refl, (packet _ _ _ _ (inl refl) refl, (tick, (tick, (packet _ _ _ _ (inl refl) refl, tt)))))))))))
    ∙ ap (λ (l : List (List ℕ)). tick_items ++ l) (none_whole (most_items - 11) [] refl)

six : items most_items (flatten six_items ++ (0x03 ∷ [])) ≡ six_items
unfolding size_of whole_size
six =
    each_found six_items (most_items - 6) (0x03 ∷ [])
    (tick, (packet _ _ _ _ (inr refl) refl, (packet _ _ _ _ (inl refl) refl, (packet _ _ _ _ (inl refl) refl, (packet _ _ _ _ (inl refl) refl, (packet _ _ _ _ (inl refl) refl, tt))))))
    ∙ ap (λ (l : List (List ℕ)). six_items ++ l) (none_whole (most_items - 6) (0x03 ∷ []) refl)

pub sample : Sample
unfolding leading column ascii lines after_items flatten scanned sighted heard_in scanner_after report_line line reports_in after_item printed after_all printed_all last_line log_of decode_by by_type undirected with_area pdu_type read_padded ended_by is_zeros unpadded before_zero area_in read_area area_of reads with_first cut first record_read data_read flags_read up_to named
sample =
    record {
      sample = rw both;
      empty = rw no_items;
      crc_bad_law = rw bad_item;
      zeros = rw padded_item;
      another = rw unended_item;
      six_bits = rw long_item;
      two_above = rw above_item;
      broken = rw broken_item;
      cut_short = rw cut_item;
      six_items_law = rw six;
      channels = rw ticked_items;
    }

-- short beacons, one after the other
short_items : (k : ℕ) → All IsItem (replicate k short_beacon)
short_items zero = tt
short_items (suc k) = (packet _ _ _ _ (inl refl) refl, short_items k)

short_found : (k : ℕ) → k ≤ most_items → items most_items (flatten (replicate k short_beacon)) ≡ replicate k short_beacon
unfolding size_of whole_size
short_found k few =
    let all : List (List ℕ) = replicate k short_beacon in
    let most : length all + (most_items - k) ≡ most_items = rw length-replicate (omega arith) in
    ap (λ (n : ℕ). items n (flatten all)) (sym most)
    ∙ ap (items (length all + (most_items - k))) (sym (append-nil (flatten all)))
    ∙ each_found all (most_items - k) [] (short_items k)
    ∙ ap (λ (l : List (List ℕ)). all ++ l) (none_whole (most_items - k) [] refl)
    ∙ append-nil all

-- each prints a line
short_lines : (k count reports : ℕ) → length (printed_all (record { items = count; reports = reports; scanner = fresh_hub.scanner }) (replicate k short_beacon)) ≡ line_size * k
unfolding leading column flatten scanned sighted heard_in scanner_after report_line line reports_in after_item printed printed_all decode_by by_type undirected with_area pdu_type read_padded ended_by is_zeros unpadded before_zero area_in read_area area_of reads cut
short_lines zero count reports = refl
short_lines (suc k) count reports = simp (length-append, column_length) (omega (arith, short_lines k (count + 1) (reports + 1)))

short_octets : (k : ℕ) → length (flatten (replicate k short_beacon)) ≡ 9 * k
unfolding flatten
short_octets zero = refl
short_octets (suc k) = omega (arith, short_octets k)

pub just_room : (k : ℕ) → JustRoom k
just_room k few more under-9 = rw (short_octets k) (ap (λ (its : List (List ℕ)). length (printed_all fresh_hub its)) (short_found k few) ∙ short_lines k 0 0 ∙ omega arith)
