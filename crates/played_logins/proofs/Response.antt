-- The first five places of a login at a party of any response type are those that lines of a trace make: `begin`, `follow`, `login`,
-- `consent` and `follow` again.
use Rattle.std.proofs.Common.{◌≡◌, ◌+◌, Bool, true, false, List, [], ◌∷◌, codes, Some, None, option_and_then, nat_le, refl, ap}
use Rattle.sso_base.specs.Journal.{most_weight}
use Rattle.sso_base.proofs.OnLiterals.{base64url_on_literals}
use Rattle.oidc_words.specs.Types.{is_in_fragment}
use Rattle.client_registry.specs.Configuration.{Configuration}
use Rattle.auth_answer.specs.Printing.{answer_form}
use Rattle.op_exchange.proofs.Sample.{callback_uri}
use Rattle.op_exchange.specs.Weight.{ask_weight as op_weight}
use Rattle.op_answer.proofs.FirstLogin.{login_page, login_entry, consent_page, consent_entry}
use Rattle.rp_exchange.specs.Weight.{ask_weight as rp_weight}
use Rattle.rp_exchange.specs.declared.ask.RpAsk.TheVariants as rp_ask
use Rattle.rp_exchange.specs.declared.reply.RpReply.{RpReply}
use Rattle.rp_answer.proofs.Sample.{word, words}
use Rattle.sso_places.specs.declared.types.To.TheVariants as to
use Rattle.sso_places.specs.declared.types.WorldAsk.TheVariants.{Http}
use Rattle.sso_places.specs.Legal.{IsLegalWorld}
use Rattle.sso_places.specs.Site.{Site, own_site}
use Rattle.sso_places.specs.World.{World}
use Rattle.sso_places.proofs.Places.{legal_before}
use Rattle.running_world.specs.Stepping.{role_weight}
use Rattle.trace_lines.specs.declared.line.Line.{Line}
use Rattle.trace_lines.specs.declared.line.Line.TheVariants.{At, Begin, Follow, Login, Consent}
use Rattle.web_requests.specs.Following.{response_ask, followed}
use Rattle.web_requests.specs.Locations.{location_at, location_of}
use Rattle.web_requests.specs.Sending.{sent}
use Rattle.web_requests.proofs.FollowedRequests.{request_there}
use Rattle.oidc_replay.specs.Sending.{followed_on, line_sent}
use Rattle.honest_worlds.proofs.AnyType.{Wants, types_of, registered}
use Rattle.honest_worlds.proofs.UpToAnswer.{begins, asked, begins_there, may, authorizes, authorize_entry, authorizes_there, logs_in, logs_in_there, fills_in, consents, says_yes, answer, answered, consents_there, three}
use Rattle.honest_worlds.proofs.Responding.{jar, response, callback_entry, four, request, responded}
use Rattle.played_logins.proofs.Going.{jars_in, Makes, nothing_made, asks_provider, asks_party}

-- the lines, newest first
abbrev begin_lines : List Line
begin_lines = Begin 1 0 ∷ At 1000 ∷ []

abbrev request_lines : List Line
request_lines = Follow 1 1 ∷ begin_lines

abbrev login_lines : List Line
login_lines = Login 1 2 (codes "alice") (codes "password") ∷ request_lines

abbrev consent_lines : List Line
consent_lines = Consent 1 3 true ∷ login_lines

abbrev pub response_lines : List Line
response_lines = Follow 1 4 ∷ consent_lines

module _ (wants : Wants) where
  abbrev c : Configuration
  c = registered wants

  abbrev s : Site
  s = own_site c

  abbrev one : World
  one = begins_there wants ∷ []

  abbrev two : World
  two = authorizes_there wants ∷ one

  -- ---- what the lines send

  request_sent : line_sent c one (jars_in one) (Follow 1 1) ≡ Some (sent 1 to.Provider (authorizes wants))
  unfolding followed
  request_sent = ap (option_and_then (followed_on c (jars_in one) 1)) (request_there c 0 (word 2) (word 3) (may wants) (word 1))

  at_uri : (fragment : Bool) → followed_on c (jars_in (four wants)) 1 (location_at c callback_uri fragment (answer_form (answer wants)))
      ≡ Some (sent 1 (to.Party 0) (response_ask (codes "/cb") fragment (answer_form (answer wants)) (jar wants)))
  unfolding followed
  at_uri true = refl
  at_uri false = refl

  response_sent : line_sent c (four wants) (jars_in (four wants)) (Follow 1 4) ≡ Some (sent 1 (to.Party 0) (response wants))
  unfolding location_of
  response_sent = at_uri (is_in_fragment (types_of wants))

  -- ---- there is room for it

  request_light : nat_le (role_weight to.Provider one + op_weight (authorize_entry wants).ask) most_weight ≡ true
  unfolding base64url_on_literals
  request_light = refl

  login_light : nat_le (role_weight to.Provider two + op_weight login_entry.ask) most_weight ≡ true
  unfolding base64url_on_literals
  login_light = refl

  consent_light : nat_le (role_weight to.Provider (three wants) + op_weight consent_entry.ask) most_weight ≡ true
  unfolding base64url_on_literals
  consent_light = refl

  -- ---- the play, whatever the party replies to the response

  pub up_to_response : (told : RpReply) → IsLegalWorld s (responded wants told ∷ four wants) → nat_le (role_weight (to.Party 0) (four wants) + rp_weight (callback_entry wants).ask) most_weight ≡ true
      → Makes c response_lines (responded wants told ∷ four wants)
  up_to_response told legal light =
      let fourth : IsLegalWorld s (four wants) = legal_before s (responded wants told) (four wants) legal in
      let third : IsLegalWorld s (three wants) = legal_before s (consents_there wants) (three wants) fourth in
      let second : IsLegalWorld s two = legal_before s (logs_in_there wants) two third in
      let first : IsLegalWorld s one = legal_before s (authorizes_there wants) one second in
      let begun : Makes c begin_lines one =
      asks_party c (At 1000 ∷ []) [] (nothing_made c) (Begin 1 0) (λ play. refl) 0 1 (Http (begins wants)) (words 1) (rp_ask.Begin None) (asked wants) first refl refl refl refl in
      let authorized : Makes c request_lines two =
      asks_provider c begin_lines one begun (Follow 1 1) (λ play. refl) 1 (authorizes wants) (words 5) (authorize_entry wants).ask login_page second refl refl request_sent request_light in
      let signed_in : Makes c login_lines (three wants) =
      asks_provider c request_lines two authorized (Login 1 2 (codes "alice") (codes "password")) (λ play. refl) 1 (logs_in wants) (words 9) login_entry.ask consent_page third refl refl (fills_in wants) login_light in
      let consented : Makes c consent_lines (four wants) =
      asks_provider c login_lines (three wants) signed_in (Consent 1 3 true) (λ play. refl) 1 (consents wants) (words 13) consent_entry.ask (answered wants) fourth refl refl (says_yes wants) consent_light in
      asks_party c consent_lines (four wants) consented (Follow 1 4) (λ play. refl) 0 1 (request wants) (words 17) (callback_entry wants).ask told legal refl refl response_sent light
