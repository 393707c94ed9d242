-- An honest login to its end, in a world that has no other place. It meets all conditions of a login and all premises of a world. At
-- its last place the party accepts the login of the user whose password the browser gave. So all premises of the sign-on theorem, and of the
-- laws of authorization, hold together in a world that ends with a session.
use Rattle.std.specs.Prelude.{◌≡◌, ℕ, Bool, true, false, ◌&&◌, ◌||◌, List, ◌∷◌, length}
use Rattle.std.specs.List.{list_any}
use Rattle.sso_base.specs.Words.{Text}
use Rattle.oidc_words.specs.Types.{types_text}
use Rattle.client_registry.specs.Configuration.{Configuration, subject_at}
use Rattle.client_registry.specs.Numbers.{party_row}
use Rattle.client_registry.specs.Registered.{IsRegistry}
use Rattle.op_exchange.specs.declared.reply.OpReply.{OpReply}
use Rattle.op_exchange.specs.declared.reply.OpReply.TheVariants.{Info}
use Rattle.oidc_words.specs.declared.response_types.Types.{Types}
use Rattle.sso_places.specs.Legal.{IsLegalWorld}
use Rattle.sso_places.specs.Premises.{IsUnforged, IsUnleaked, IsJoined, IsInOrder, HasDistinctWords, HasDistinctHashes}
use Rattle.sso_places.specs.Site.{own_site}
use Rattle.sso_places.specs.Unshared.{IsUnshared}
use Rattle.sso_places.specs.World.{Place, Provider, Party, Nothing}
use Rattle.honest_places.specs.Login.{Visitor, MayLogIn, IsHonest}
use Rattle.honest_places.specs.Outcome.{LetsIn, gives_password}
use Rattle.honest_worlds.specs.Session.{HoldsSession}

-- the provider answers UserInfo at this place
abbrev pub is_info : OpReply → Bool
is_info (Info claims) = true
is_info reply = false

abbrev pub answers_info : Place → Bool
answers_info (Provider from request p) = is_info p.reply
answers_info (Party n from request p) = false
answers_info Nothing = false

-- a party of this response type gets an access token
abbrev pub gets_access : Types → Bool
gets_access types = types.code || types.token

-- at a party of this response type, that requests UserInfo or does not, and with this many places
pub record IsWholeLogin (response_type : Text) (asks_for_info : Bool) (places : ℕ) : Type 0 where
  pub configuration : Configuration
  pub visitor : Visitor
  pub last : Place
  pub earlier : List Place
  pub type_is : types_text (party_row configuration visitor.party).types ≡ response_type
  pub info_is : (party_row configuration visitor.party).userinfo ≡ asks_for_info
  pub count : length (last ∷ earlier) ≡ places
  -- the registry and the world
  pub registry : IsRegistry configuration
  pub legal : IsLegalWorld (own_site configuration) (last ∷ earlier)
  pub order : IsInOrder (last ∷ earlier)
  pub distinct : HasDistinctWords (last ∷ earlier)
  pub hashes : HasDistinctHashes (last ∷ earlier)
  pub unforged : IsUnforged (own_site configuration) (last ∷ earlier)
  pub unleaked : IsUnleaked (last ∷ earlier)
  pub joined : IsJoined (last ∷ earlier)
  -- no access token is shared, and UserInfo is answered if the party requests it and gets an access token
  pub unshared : IsUnshared (last ∷ earlier)
  pub informs : list_any answers_info (last ∷ earlier) ≡ (asks_for_info && gets_access (party_row configuration visitor.party).types)
  -- the login
  pub may : MayLogIn configuration visitor
  pub honest : IsHonest configuration visitor (last ∷ earlier) (last ∷ earlier)
  pub password : list_any gives_password (last ∷ earlier) ≡ true
  pub lets_in : LetsIn visitor last (subject_at configuration (party_row configuration visitor.party).client visitor.user)
  -- its session
  pub session : HoldsSession (own_site configuration) visitor (last ∷ earlier)
