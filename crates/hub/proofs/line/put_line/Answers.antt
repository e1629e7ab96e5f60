-- One column is written after the other.
use Rattle.std.proofs.Common.{◌≡◌, ◌∙◌, List, append_assoc, ℕ, ◌+◌, ◌<◌, ◌≤◌, arith, length, get_or, take, drop}
use lib.ListN.{set}
use borrow.Rule.Slice.PartMut.{put_mid}
use Rattle.octets.proofs.Lists.{all_at}
use Rattle.octets.specs.Bytes.{written, at_front}
use Rattle.channels.specs.Phy.{index_of}
use Rattle.channels.specs.declared.phy.AdvertisingChannel.{AdvertisingChannel}
use Rattle.addresses.specs.Address.{kind_number}
use Rattle.addresses.specs.declared.device_address.DeviceAddress.{DeviceAddress}
use Rattle.columns.specs.Column.{column}
use Rattle.columns.specs.Table.{octet_columns, octets_from}
use Rattle.hub_spec.specs.Line.{line_size, report_line}
use Rattle.hub_spec.proofs.Pieces.{nothing_yet, then_octet, then_octets, then_put}
use Rattle.hub.proofs.line.put_line.Goals as goal

-- as the calls write them
all_columns : (sender : DeviceAddress) (number : ℕ) (c : AdvertisingChannel) (records : ℕ) (out : List ℕ) {index kind : ℕ} {octets p₁ p₂ p₃ p₄ p₅ : List ℕ}
    → line_size ≤ length out → length octets ≡ 6 → octets ≡ sender.bytes → ((i : ℕ) → i < length octets → get_or octets i 0 < 256) → index ≡ index_of c → kind ≡ kind_number sender.kind
    → p₁ ≡ column (length (take 6 out)) number
    → let out₁ = put_mid 0 6 out p₁ in
    p₂ ≡ column (length (take 3 (drop 6 out₁))) index
    → let out₂ = put_mid 6 3 out₁ p₂ in
    p₃ ≡ column (length (take 2 (drop 9 out₂))) kind
    → let out₃ = put_mid 9 2 out₂ p₃ in
    p₄ ≡ octets_from octet_columns octets (take 24 (drop 11 out₃))
    → let out₄ = put_mid 11 24 out₃ p₄ in
    p₅ ≡ column (length (take 3 (drop 35 out₄))) records
    → set (put_mid 35 3 out₄ p₅) 38 10 ≡ at_front (report_line number c sender records) out
unfolding report_line
all_columns sender number c records out {index} {kind} {octets} fits six is-octets all is-index is-kind e₁ e₂ e₃ e₄ e₅ =
    let w₁ = then_put (nothing_yet out 0) (omega arith) 6 number (omega arith) e₁ in
    let w₂ = then_put w₁ (omega arith) 3 index (omega arith) e₂ in
    let w₃ = then_put w₂ (omega arith) 2 kind (omega arith) e₃ in
    let w₄ = then_octets w₃ (omega arith) octets 24 (all_at (λ (x : ℕ). x < 256) octets all) (omega (arith, six)) (omega arith) e₄ in
    let w₅ = then_put w₄ (omega arith) 3 records (omega arith) e₅ in
    let w₆ = then_octet w₅ (omega arith) 10 (omega arith) in
    let first : 0 + length (report_line number c sender records) ≡ length (report_line number c sender records) = omega arith in
    let whole : _ ≡ written (report_line number c sender records) out 0 = w₆.contents ∙ simp (append_assoc, is-index, is-kind, is-octets) in
    whole ∙ rw first

pub returns : goal.returns
returns c =
    all_columns c.args.sender c.args.number c.args.channel c.args.records c.args.out.now c.requires.1.1 c.requires.1.0 c.requires.0
    (λ i inside. omega (arith, c.type_inv.octets i))
    c.channel.ensures c.kind_number.ensures c.put_column.ensures c.put_octet.ensures c.put_octet-2.ensures c.put_octets.ensures c.put_column-2.ensures
