-- A connect request field by field, the accuracies by their codes, and the end of the transmit window. Computed. Assumes nothing.
use Rattle.std.proofs.Common.{zero, suc, refl, arith}
use Rattle.addresses.specs.Header.{pdu_type}
use Rattle.records_spec.specs.Area.{cut, reads, area_of, read_area}
use Rattle.advertising.specs.Laws.{RequestExample, Accuracies, WindowEnd}
use Rattle.advertising.specs.Pdu.{ll_data_of, with_area, undirected, connect_request, by_type, decode_by}

pub example : RequestExample
unfolding decode_by by_type undirected with_area connect_request ll_data_of pdu_type read_area area_of reads cut
example = record { connect_request_law = refl; hops = refl; clocks = refl; no_receiver = refl; no_lldata = refl; no_records = refl; refused = refl }

pub accuracies : Accuracies
accuracies zero h = refl
accuracies (suc zero) h = refl
accuracies (suc (suc zero)) h = refl
accuracies (suc (suc (suc zero))) h = refl
accuracies (suc (suc (suc (suc zero)))) h = refl
accuracies (suc (suc (suc (suc (suc zero))))) h = refl
accuracies (suc (suc (suc (suc (suc (suc zero)))))) h = refl
accuracies (suc (suc (suc (suc (suc (suc (suc zero))))))) h = refl
accuracies (suc (suc (suc (suc (suc (suc (suc (suc n)))))))) h = absurd (omega arith)

pub window_end_law : WindowEnd
window_end_law d = omega arith
