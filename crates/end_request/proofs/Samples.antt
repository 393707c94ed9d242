-- The definitions computed: what each accepts, and what it refuses.
use Rattle.std.proofs.Common.{◌≡◌, pos, true, false, List, [], ◌∷◌, Some, None, Ok, Err, codes, refl}
use Rattle.toml.specs.Data.{integer, array, table, no_items, no_members, member}
use Rattle.sso_base.specs.Words.{Text}
use Rattle.configuration_rows.specs.declared.no.RegNo.TheVariants.{WrongKind}
use Rattle.client_registry.specs.declared.records.Client.{Client}
use Rattle.client_registry.specs.Configuration.{Configuration}
use Rattle.client_registry.proofs.SampleRegistry.{op}
use Rattle.client_registry.specs.Records.{usual_settings}
use Rattle.request_params.specs.Form.{Pair}
use Rattle.id_token.specs.declared.no.IdNo.TheVariants as id_no
use Rattle.end_request.specs.declared.wish.EndNo.TheVariants as no
use Rattle.end_request.specs.Returning.{ReturnLists, has_return, is_other_kind, returns_row, path_at, KeepsRule}
use Rattle.end_request.specs.Hints.{is_for, may_be}
use Rattle.end_request.specs.Ending.{counts, named_client, hinted_client, is_allowed, end_wish, wish_by, unless_twice, back_of}

-- ---- where a browser may be sent

abbrev bye : Text
bye = codes "http://127.0.0.1:8081/bye"

abbrev lists : ReturnLists
lists = (bye ∷ []) ∷ [] ∷ []

its_own_is_registered : has_return lists 0 bye ≡ true
its_own_is_registered = refl

not_that_of_another_client : has_return lists 1 bye ≡ false
not_that_of_another_client = refl

not_with_another_byte : has_return lists 0 (codes "http://127.0.0.1:8081/bye/") ≡ false
not_with_another_byte = refl

not_of_an_unknown_client : has_return lists 2 bye ≡ false
not_of_an_unknown_client = refl

-- ---- a configuration

absent_is_fine : is_other_kind None ≡ false
absent_is_fine = refl

empty_is_fine : is_other_kind (Some (array no_items)) ≡ false
empty_is_fine = refl

number_is_refused : is_other_kind (Some (integer (pos 5))) ≡ true
number_is_refused = refl

a_number_in_a_row : returns_row 0 (table (member (codes "post_logout_redirect_uris") (integer (pos 5)) no_members)) ≡ WrongKind (path_at 0) ∷ []
a_number_in_a_row = refl

no_rule_is_broken : KeepsRule []
no_rule_is_broken = record { urls = refl; few = refl }

-- ---- requests

abbrev shop : Client
shop =
    record {
      id = codes "shop";
      secret = codes "shop-secret-shop-secret-shop-secret";
      old_secret = None;
      seals_old = false;
      redirects = [];
      types = true ∷ false ∷ false ∷ false ∷ false ∷ false ∷ [];
      pairwise = false;
      asks_consent = true;
      logout = None;
      logout_session = false;
      redirect_urls = [];
      logout_url = None;
      title = codes "shop";
    }

abbrev site : Configuration
site =
    record {
      provider = op;
      prefix = [];
      listen = codes "127.0.0.1:8080";
      secure = false;
      users = [];
      clients = shop ∷ [];
      parties = [];
      subjects = [] ∷ [];
      lasting = false;
      full_pages = false;
      title = codes "127.0.0.1";
      settings = usual_settings;
    }

abbrev none : List Pair
none = []

state_counts : counts (codes "state", codes "x") ≡ true
state_counts = refl

empty_does_not_count : counts (codes "state", []) ≡ false
empty_does_not_count = refl

other_does_not_count : counts (codes "logout_hint", codes "x") ≡ false
other_does_not_count = refl

bare_request : wish_by site lists none ≡ Ok (end_wish None None None)
bare_request = refl

known_client : named_client site (Some (codes "shop")) ≡ Ok (Some 0)
known_client = refl

unknown_client : named_client site (Some (codes "bank")) ≡ Err no.Client
unknown_client = refl

no_hint : hinted_client site (Some 0) None ≡ Ok None
no_hint = refl

uri_without_a_hint : wish_by site lists ((codes "client_id", codes "shop") ∷ (codes "post_logout_redirect_uri", bye) ∷ []) ≡ Err no.Return
uri_without_a_hint = refl

nowhere_is_allowed : is_allowed lists None None ≡ true
nowhere_is_allowed = refl

named_one_only : may_be (Some 0) 1 ≡ false
named_one_only = refl

no_token_is_no_hint : is_for op.issuer (codes "shop") (Err id_no.Issuer) ≡ false
no_token_is_no_hint = refl

repeated_name_is_refused : unless_twice (Some (codes "state")) (Ok (end_wish None None None)) ≡ Err (no.Twice (codes "state"))
repeated_name_is_refused = refl

back_without_state : back_of (Some bye) None ≡ Some bye
back_without_state = refl

back_nowhere : back_of None (Some (codes "x")) ≡ None
back_nowhere = refl
