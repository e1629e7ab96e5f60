-- Payloads as fields of a figure's widths: each field is its part, and a payload that is long enough is its parts; those of LLData, in a connect request. Assumes nothing.
use Rattle.std.proofs.Common.{◌≡◌, ℕ, zero, suc, ◌+◌, ◌*◌, ◌/◌, ◌%◌, ◌≤◌, List, [], ◌∷◌, ◌++◌, map, length, get_or, take, drop, sym, refl, ap, append_assoc, arith, length-append, length-drop, take-append-drop, length-take, drop-drop}
use mathlib.Core.List.{flatten}
use lib.Seq.{take-append_seam, drop-append_seam, drop-append-add}
use Rattle.channels.specs.Map.{from_raw}
use Rattle.octets.specs.Lists.{total}
use Rattle.octets.specs.Bytes.{part, le}
use Rattle.advertising.specs.Laws.{Figure}
use Rattle.advertising.specs.Pdu.{field_at, connect_figure, accuracy_of, ll_data_of, ll_data_in, request_of}

tiled : (fs : List (List ℕ)) (further : List ℕ) (k : ℕ) → field_at (map length fs) k (flatten fs ++ further) ≡ get_or fs k []
unfolding flatten
tiled [] further zero = refl
tiled [] further (suc k) = refl
tiled (f ∷ fs) further zero = rw (append_assoc f (flatten fs) further) (take-append_seam f (flatten fs ++ further))
tiled (f ∷ fs) further (suc k) =
    rw (append_assoc f (flatten fs) further, drop-append-add f (flatten fs ++ further) (total (take k (map length fs)))) (tiled fs further k)

all_long : (fs : List (List ℕ)) → length (flatten fs) ≡ total (map length fs)
unfolding flatten
all_long [] = refl
all_long (f ∷ fs) = simp length-append (omega (arith, all_long fs))

module _ {widths : List ℕ} {fields : List (List ℕ)} {further p : List ℕ} (fig : Figure widths fields further p) where
  -- a field of the figure
  pub field_is : (k : ℕ) → field_at widths k p ≡ get_or fields k []
  field_is k = rw (← fig.sizes, fig.tiles) (tiled fields further k)

  -- what lies after the figure, and how long the payload is
  pub behind : drop (total widths) p ≡ further
  behind = rw (← fig.sizes, fig.tiles, ← all_long fields) (drop-append_seam (flatten fields) further)

  pub long : length p ≡ total widths + length further
  long = rw (← fig.sizes, fig.tiles, ← all_long fields) (length-append (flatten fields) further)

-- the fields of a payload from a position on
abbrev pub cutting : List ℕ → List ℕ → ℕ → List (List ℕ)
cutting [] p at = []
cutting (w ∷ ws) p at = part w p at ∷ cutting ws p (at + w)

cutting_sizes : (ws p : List ℕ) (at : ℕ) → at + total ws ≤ length p → map length (cutting ws p at) ≡ ws
cutting_sizes [] p at h = refl
cutting_sizes (w ∷ ws) p at h =
    let size : length (part w p at) ≡ w = simp (length-take, length-drop) (omega arith) in
    rw (size, cutting_sizes ws p (at + w) (omega arith))

cutting_tiles : (ws p : List ℕ) (at : ℕ) → drop at p ≡ flatten (cutting ws p at) ++ drop (at + total ws) p
unfolding flatten
cutting_tiles [] p at = let none : at + 0 ≡ at = omega arith in rw none
cutting_tiles (w ∷ ws) p at =
    let far : at + (w + total ws) ≡ at + w + total ws = omega arith in
    rw (far, append_assoc, ← cutting_tiles ws p (at + w), ← drop-drop w at p) (sym (take-append-drop w (drop at p)))

pub cut_figure : (widths p : List ℕ) → total widths ≤ length p → Figure widths (cutting widths p 0) (drop (total widths) p) p
cut_figure widths p h =
    let none : 0 + total widths ≡ total widths = omega arith in
    record { sizes = cutting_sizes widths p 0 (omega arith); tiles = rw (← none) (cutting_tiles widths p 0) }

-- the fields of LLData, by their places in a connect request
module _ (p : List ℕ) where
  pub part_after : (n k : ℕ) → part n (ll_data_in p) k ≡ part n p (12 + k)
  part_after n k = ap (take n) (drop-drop k 12 p)

  pub request_is : request_of p
      ≡ record {
        access_address = le (field_at connect_figure 2 p);
        crc_init = le (field_at connect_figure 3 p);
        win_size = le (field_at connect_figure 4 p) * 1250;
        win_offset = le (field_at connect_figure 5 p) * 1250;
        interval = le (field_at connect_figure 6 p) * 1250;
        latency = le (field_at connect_figure 7 p);
        timeout = le (field_at connect_figure 8 p) * 10000;
        chm = from_raw (field_at connect_figure 9 p);
        hop = le (field_at connect_figure 10 p) % 32;
        sca = accuracy_of (le (field_at connect_figure 10 p) / 32);
      }
  unfolding ll_data_of
  request_is = λ i.
      record {
        access_address = le (part_after 4 0 i);
        crc_init = le (part_after 3 4 i);
        win_size = le (part_after 1 7 i) * 1250;
        win_offset = le (part_after 2 8 i) * 1250;
        interval = le (part_after 2 10 i) * 1250;
        latency = le (part_after 2 12 i);
        timeout = le (part_after 2 14 i) * 10000;
        chm = from_raw (part_after 5 16 i);
        hop = le (part_after 1 21 i) % 32;
        sca = accuracy_of (le (part_after 1 21 i) / 32);
      }
