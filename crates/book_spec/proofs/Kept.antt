-- The move that is kept of a list of entries, with one entry more. Assumes nothing.
use mathlib.Core.Path.{◌≡◌, refl, ap, ◌∙◌}
use mathlib.Core.Bool.{cond}
use mathlib.Core.List.{List, [], ◌∷◌, ◌++◌, append_assoc}
use Prim.Native.Nat.{◌<◌}
use native.Mathlib.Omega.{arith}
use lib.Dec.{eqb}
use borrow.Author.Tests.{ne_eqb}
use Rattle.octets.specs.Lists.{All}
use Rattle.octets.proofs.Lists.{all_append}
use Rattle.book_spec.specs.History.{BookEntry}
use Rattle.book_spec.specs.TurnBook.{Earliest, KeptIs}
use Rattle.book_spec.specs.TurnBook.KeptIs.{kept, none}
use Rattle.book_spec.specs.declared.Move.{Move}

pub all_map : {A : Type 0} {P Q : A → Type 0} → ((x : A) → P x → Q x) → (xs : List A) → All P xs → All Q xs
all_map f [] all = tt
all_map f (x ∷ xs) all = (f x all.0, all_map f xs all.1)

module _ {P : BookEntry → Move → Type 0} (es : List BookEntry) (e : BookEntry) where
  still_first : {m : Move} → Earliest P es m → Earliest P (es ++ (e ∷ [])) m
  still_first first =
      record {
        earlier = first.earlier;
        entry = first.entry;
        later = first.later ++ (e ∷ []);
        tile = ap (λ (l : List BookEntry). l ++ (e ∷ [])) first.tile ∙ append_assoc first.earlier (first.entry ∷ first.later) (e ∷ []);
        unheard = first.unheard;
        qualifies = first.qualifies;
      }

  -- one that does not qualify
  pub kept_pass : {m : Move} → ((k : Move) → P e k → ⊥) → KeptIs P es m → KeptIs P (es ++ (e ∷ [])) m
  kept_pass not-it (kept m first) = kept m (still_first first)
  kept_pass not-it (none unheard) = none (all_append (λ (x : BookEntry). (m : Move) → P x m → ⊥) es (e ∷ []) unheard (not-it, tt))

  -- one that qualifies, where a move has octets
  pub kept_take : (some : (x : BookEntry) (m : Move) → P x m → 0 < m.len) (m k : Move) → P e k → KeptIs P es m → KeptIs P (es ++ (e ∷ [])) (cond (eqb m.len 0) k m)
  kept_take some _ k it (kept m first) =
      let more : m.len ≡ 0 → ⊥ = λ z. omega (arith, some first.entry m first.qualifies) in
      rw (ne_eqb m.len 0 more) (kept m (still_first first))
  kept_take some _ k it (none unheard) =
      kept k (record { earlier = es; entry = e; later = []; tile = refl; unheard = unheard; qualifies = it })
