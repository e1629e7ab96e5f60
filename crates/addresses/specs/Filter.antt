-- Which addresses pass a filter (document 01, filter.rs and "Rust forms that need another form").
--
--     entry of a list  | kind     | address  |
--                      | 1 octet  | 6 octets |
--
--   any p n               == some number below n passes p
--   entry_at list i        == the address of entry i
--   bad_kind list i        == the kind of entry i is neither public nor random
--   entry_is list a i      == entry i is the address a
--   is_list list           == whole entries, each of a kind
--   whitelisted list a    == whether some entry is the address a, or the refusal of what is no list
--   matches_of f list a    == whether the address a passes the filter f, with its list
--   adv_filter_of s c       == the advertising filter policy of a filter for scan requests and one for connect requests
--   may_scan p list a, may_connect p list a, should_scan p list a    == whether the address a passes the filter that the policy p has for it
use Rattle.std.specs.Prelude.{Bool, true, false, cond, not, ◌&&◌, ◌||◌, List, ℕ, zero, suc, ◌+◌, ◌*◌, ◌/◌, ◌%◌, eqb, ltb, length, get_or, Result, Ok, Err}
use Rattle.octets.specs.Bytes.{part}
use Rattle.octets.specs.declared.error.Error.TheVariants.{InvalidValue}
use Rattle.addresses.specs.Address.{kind_of, address_of, same_address}
use Rattle.addresses.specs.declared.device_address.DeviceAddress.{DeviceAddress}
use Rattle.addresses.specs.declared.filter.AddressFilter.{AddressFilter}
use Rattle.addresses.specs.declared.filter.AddressFilter.TheVariants.{AllowAll, Whitelist}
use Rattle.addresses.specs.declared.filter.AdvFilter.{AdvFilter}
use Rattle.addresses.specs.declared.filter.ScanFilter.{ScanFilter}
use Rattle.octets.specs.declared.error.Error.{Error}

unfoldable pub any : (ℕ → Bool) → ℕ → Bool
any p zero = false
any p (suc n) = any p n || p n

abbrev pub entry_at : List ℕ → ℕ → DeviceAddress
entry_at list i = address_of (part 6 list (7 * i + 1)) (kind_of (eqb (get_or list (7 * i) 0) 1))

abbrev pub bad_kind : List ℕ → ℕ → Bool
bad_kind list i = ltb 1 (get_or list (7 * i) 0)

abbrev pub entry_is : List ℕ → DeviceAddress → ℕ → Bool
entry_is list a i = same_address (entry_at list i) a

abbrev pub is_list : List ℕ → Bool
is_list list = eqb (length list % 7) 0 && not (any (bad_kind list) (length list / 7))

unfoldable pub whitelisted : List ℕ → DeviceAddress → Result Bool Error
whitelisted list a = cond (is_list list) (Ok (any (entry_is list a) (length list / 7))) (Err InvalidValue)

abbrev pub matches_of : AddressFilter → List ℕ → DeviceAddress → Result Bool Error
matches_of AllowAll list a = Ok true
matches_of Whitelist list a = whitelisted list a

abbrev pub adv_filter_of : AddressFilter → AddressFilter → AdvFilter
adv_filter_of scan connect = record { scan = scan; connect = connect }

abbrev pub may_scan : AdvFilter → List ℕ → DeviceAddress → Result Bool Error
may_scan p list a = matches_of p.scan list a

abbrev pub may_connect : AdvFilter → List ℕ → DeviceAddress → Result Bool Error
may_connect p list a = matches_of p.connect list a

abbrev pub should_scan : ScanFilter → List ℕ → DeviceAddress → Result Bool Error
should_scan p list a = matches_of p.scan list a
