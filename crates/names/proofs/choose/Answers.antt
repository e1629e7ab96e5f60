-- Each search that finds nothing leaves the next.
use Rattle.std.proofs.Common.{rules, ◌≡◌, ap, ◌∙◌}
use Rattle.std.proofs.lemmas.Option.{MatchOption-at_some, MatchOption-at_none}
use Rattle.std.specs.Prelude.{Result, Err, Option, Some, None}
use Rattle.std.specs.Option.{MatchOption, option_map, ok_or}
use Rattle.octets.specs.declared.bytes.Part.{Part}
use Rattle.octets.specs.declared.error.Error.{Error}
use Rattle.octets.specs.declared.error.Error.TheVariants.{NoName}
use Rattle.records_spec.specs.Types.{shortened_name_type, complete_name_type}
use Rattle.names_spec.specs.Name.{name_in, in_reply, in_advertisement, chosen}
use Rattle.names_spec.specs.declared.NamePlace.{NamePlace}
use Rattle.names_spec.specs.declared.NamePlace.TheVariants.{InReply, InAdvertisement}
use Rattle.names.proofs.choose.Goals as goal

-- `or_else`, whose closure answers p
record OrElse (o p o' : Option NamePlace) : Type 0 where
  answered : MatchOption o (o' ≡ p) (λ x. o' ≡ Some x)

by_answer : {P : Type 0} (o p o' : Option NamePlace) → MatchOption o P (λ x. o' ≡ Some x) → (P → o' ≡ p) → OrElse o p o'
by_answer None p o' e answer = record { answered = answer e }
by_answer (Some x) p o' e answer = record { answered = e }

some : {o p o' : Option NamePlace} {x : NamePlace} → o ≡ Some x → OrElse o p o' → o' ≡ Some x
some {o} {p} {o'} {x} is e = MatchOption-at_some (o' ≡ p) (λ x. o' ≡ Some x) x is e.answered

none : {o p o' : Option NamePlace} → o ≡ None → OrElse o p o' → o' ≡ p
none {o} {p} {o'} is e = MatchOption-at_none (o' ≡ p) (λ x. o' ≡ Some x) is e.answered

chain : (f g h k : Option Part) {one two three four : Option NamePlace} {r : Result NamePlace Error} → one ≡ option_map InReply f → OrElse one (option_map InAdvertisement g) two → OrElse two (option_map InReply h) three
    → OrElse three (option_map InAdvertisement k) four → r ≡ ok_or four NoName → r ≡ in_reply f (in_advertisement g (in_reply h (in_advertisement k (Err NoName))))
unfolding in_reply in_advertisement
chain (Some p) g h k a b c d e = e ∙ ap (λ o. ok_or o NoName) (some (some (some a b) c) d)
chain None (Some p) h k a b c d e = e ∙ ap (λ o. ok_or o NoName) (some (some (none a b) c) d)
chain None None (Some p) k a b c d e = e ∙ ap (λ o. ok_or o NoName) (some (none (none a b) c) d)
chain None None None (Some p) a b c d e = e ∙ ap (λ o. ok_or o NoName) (none (none (none a b) c) d)
chain None None None None a b c d e = e ∙ ap (λ o. ok_or o NoName) (none (none (none a b) c) d)

pub returns : goal.returns
unfolding chosen
returns c =
    let a = c.args.advertisement.now in
    let r = c.args.reply.now in
    chain (name_in complete_name_type r) (name_in complete_name_type a) (name_in shortened_name_type r) (name_in shortened_name_type a) (search rules)
    (by_answer c.map.result _ c.or_else.result c.or_else.ensures (λ e. search rules))
    (by_answer c.or_else.result _ c.or_else-2.result c.or_else-2.ensures (λ e. search rules))
    (by_answer c.or_else-2.result _ c.or_else-3.result c.or_else-3.ensures (λ e. search rules))
    c.ok_or.ensures.value
