-- The contents of the places of a play: the answers to what lines send, each with the words of its number.
use Rattle.std.proofs.Common.{◌≡◌, ℕ, suc, ◌≤◌, ◌<◌, ◌==◌, Bool, true, cond, List, [], ◌∷◌, length, Option, Some, None, is_some, option_map, option_and_then, IfSome, inl, inr, refl, sym, ap, ◌∙◌, subst, arith}
use Rattle.std.proofs.lemmas.Option.{same_Some}
use Rattle.std.specs.List.{AllByRecursion}
use Rattle.sso_base.specs.Words.{Word, Text}
use Rattle.sso_base.specs.declared.http.Ask.{Ask}
use Rattle.sso_base.specs.declared.http.HttpReply.{HttpReply}
use Rattle.sso_base.specs.declared.message.Answered.{Answered}
use Rattle.sso_base.proofs.Decided.{same}
use Rattle.sso_base.proofs.RowLaws.{bool_cases}
use Rattle.sso_model.specs.Lists.{Has}
use Rattle.sso_model.proofs.ListLaws.{all_has}
use Rattle.oidc_words.specs.Paths.{login_path, consent_path}
use Rattle.client_registry.specs.Configuration.{Configuration}
use Rattle.rp_exchange.specs.declared.reply.RpReply.{RpReply}
use Rattle.rp_exchange.specs.declared.reply.RpReply.TheVariants as rp
use Rattle.rp_answer.specs.Answering.{rp_answer}
use Rattle.rp_answer.specs.Past.{RpPair}
use Rattle.sso_places.specs.declared.types.Jar.{Jar}
use Rattle.sso_places.specs.declared.types.To.{To}
use Rattle.sso_places.specs.declared.types.To.TheVariants as to
use Rattle.sso_places.specs.declared.types.WorldAsk.{WorldAsk}
use Rattle.sso_places.specs.declared.types.WorldAsk.TheVariants.{Http, Tokens, Info}
use Rattle.sso_places.specs.declared.types.WorldReply.{WorldReply}
use Rattle.sso_places.specs.declared.types.WorldReply.TheVariants as reply
use Rattle.sso_places.specs.Legal.{IsAsked, party_prepared}
use Rattle.sso_places.specs.Premises.{asks_under, holds}
use Rattle.sso_places.specs.Site.{own_site, setup_at}
use Rattle.sso_places.specs.World.{Place, Provider, Party, Nothing, World, place_at, from_of, rp_past, role_at, reply_at}
use Rattle.cookie_jars.specs.declared.jar_note.JarNote.{JarNote}
use Rattle.cookie_jars.specs.Jars.{jar_of}
use Rattle.running_world.specs.Stepping.{IsForRole, stepped}
use Rattle.trace_lines.specs.declared.line.Line.{Line}
use Rattle.trace_lines.specs.declared.line.Line.TheVariants.{At, Steal, Show, Begin, Follow, Mix, Forge, Login, Consent, Visit, Leave, SignOut, Carry, Back, Raw}
use Rattle.web_requests.specs.declared.location.Location.{Location}
use Rattle.web_requests.specs.declared.sent.Sent.{Sent}
use Rattle.web_requests.specs.Following.{receiver, followed}
use Rattle.web_requests.specs.Posting.{login_turn, consent_turn, login_form, consent_form, form_posted, login_posted, consent_posted}
use Rattle.web_requests.specs.Carrying.{carried}
use Rattle.sso_places.specs.Legal.{IsRole}
use Rattle.web_requests.specs.Handing.{answer_in, printed, handed, handed_back}
use Rattle.web_requests.specs.Raw.{raw_sent}
use Rattle.web_requests.specs.Sending.{sent}
use Rattle.web_requests.specs.Arriving.{Arrives}
use Rattle.web_requests.proofs.Arrivals.{followed_arrives, carried_arrives}
use Rattle.oidc_replay.specs.Words.{words_after}
use Rattle.oidc_replay.specs.Sending.{NamesRole, reply_of, location_in, mixed_in, forged_in, followed_on, handed_between, line_sent}
use Rattle.oidc_replay.specs.Text.{http_at}
use Rattle.oidc_replay.specs.Play.{Played, with_place, has_room, asked, asked_if, line_played, play_on, play_lines}

-- ---- answers of servers are to questions of the play

-- the number is that of a place that holds a question under the word
pub record Questioned (world : World) (from : ℕ) (w : Word) : Type 0 where
  pub place : Place
  pub has : Has world place
  pub holds : holds w place ≡ true
  pub from_is : from_of place ≡ from

-- an answer of another server is one to such a question
abbrev pub IsHanded : World → ℕ → WorldAsk → Type 0
IsHanded world from (Http request) = Unit {0}
IsHanded world from (Tokens w answer) = Questioned world from w
IsHanded world from (Info w answer) = Questioned world from w

-- it is what a place of the play printed
pub record WasPrinted (c : Configuration) (world : World) (answer : Answered) : Type 0 where
  pub place : Place
  pub has : Has world place
  pub told : HttpReply
  pub printed_is : http_at c place ≡ Some told
  pub answer_is : answer_in told ≡ answer

abbrev pub IsPrinted : Configuration → World → WorldAsk → Type 0
IsPrinted c world (Http request) = Unit {0}
IsPrinted c world (Tokens w answer) = WasPrinted c world answer
IsPrinted c world (Info w answer) = WasPrinted c world answer

-- The request is one that a line can send, and its recipient may receive such requests. If `known` is true, the recipient is in
-- the registry.
pub record IsSent (known : Type 0) (c : Configuration) (world : World) (s : Sent) : Type 0 where
  pub handed : IsHanded world s.from s.ask
  pub printed : IsPrinted c world s.ask
  pub asks : IsForRole s.to s.ask
  pub role : known → IsRole c s.to

-- ---- what lines send

found : (world : World) (number : ℕ) (x : Place) → place_at world number ≡ Some x → Has world x
found [] number x h = absurd (cc)
found (y ∷ world) number x h =
    let C : Bool → Option Place = λ b. cond b (Some y) (place_at world number) in
    elim (bool_cases (number == suc (length world))) [
      | inl here ↦ inl (same_Some y x (sym (ap C here) ∙ h))
      | inr other ↦ inr (found world number x (sym (ap C other) ∙ h))
    ]

-- every role may receive an HTTP request
asks_any : (role : To) (request : Ask) → IsForRole role (Http request)
asks_any to.Provider request = tt
asks_any (to.Party n) request = tt

module _ (known : Type 0) (c : Configuration) (world : World) (jars : List JarNote) where
  abbrev Sends : Option Sent → Type 0
  Sends o = IfSome o (IsSent known c world)

  requested : (from : ℕ) (role : To) (request : Ask) → (known → IsRole c role) → IsSent known c world (sent from role request)
  requested from role request is_role = record { handed = tt; printed = tt; asks = asks_any role request; role = is_role }

  arrived : (from : ℕ) (s : Sent) → Arrives c from s → IsSent known c world s
  arrived from s there = subst (IsSent known c world) (sym there.is) (requested from s.to there.request (λ k. there.role))

  -- ---- what follows a location

  led_by : (from : ℕ) (l : Location) (jar : Jar) (o : Option Sent) → followed c from l jar ≡ o → Sends o
  led_by from l jar None is = tt
  led_by from l jar (Some s) is = arrived from s (followed_arrives c from jar l s is).1

  led_to : (from : ℕ) (l : Location) (role : Option To) → Sends (option_and_then (λ r. followed c from l (jar_of jars from r)) role)
  led_to from l None = tt
  led_to from l (Some role) = led_by from l (jar_of jars from role) (followed c from l (jar_of jars from role)) refl

  led : (from : ℕ) (o : Option Location) → Sends (option_and_then (followed_on c jars from) o)
  led from None = tt
  led from (Some l) = led_to from l (receiver c l)

  -- ---- what is posted

  login_at : (from : ℕ) (user password : Text) (jar : Jar) (o : Option Word) → Sends (option_map (λ turn. form_posted c from login_path (login_form turn user password) jar) o)
  login_at from user password jar None = tt
  login_at from user password jar (Some turn) = record { handed = tt; printed = tt; asks = tt; role = λ k. tt }

  login_of : (from : ℕ) (user password : Text) (jar : Jar) (o : Option WorldReply) → Sends (option_and_then (λ told. login_posted c from told user password jar) o)
  unfolding login_posted
  login_of from user password jar None = tt
  login_of from user password jar (Some told) = login_at from user password jar (login_turn told)

  consent_at : (from : ℕ) (agree : Bool) (jar : Jar) (o : Option Word) → Sends (option_map (λ turn. form_posted c from consent_path (consent_form turn agree) jar) o)
  consent_at from agree jar None = tt
  consent_at from agree jar (Some turn) = record { handed = tt; printed = tt; asks = tt; role = λ k. tt }

  consent_of : (from : ℕ) (agree : Bool) (jar : Jar) (o : Option WorldReply) → Sends (option_and_then (λ told. consent_posted c from told agree jar) o)
  unfolding consent_posted
  consent_of from agree jar None = tt
  consent_of from agree jar (Some told) = consent_at from agree jar (consent_turn told)

  -- ---- what servers send

  carried_by : (told : WorldReply) (message : ℕ) (o : Option Sent) → carried c told message ≡ o → Sends o
  carried_by told message None is = tt
  carried_by told message (Some s) is = arrived 0 s (carried_arrives c told message s is)

  carried_of : (message : ℕ) (o : Option WorldReply) → Sends (option_and_then (λ told. carried c told message) o)
  carried_of message None = tt
  carried_of message (Some told) = carried_by told message (carried c told message) refl

  -- the question of a place, by its number
  questioned : (n from : ℕ) (request : WorldAsk) (p : RpPair) (w : Word) (told : RpReply) → Has world (Party n from request p) → p.reply ≡ told → asks_under w told ≡ true → Questioned world from w
  questioned n from request p w told has is asks =
      record { place = Party n from request p; has = has; holds = ap (asks_under w) is ∙ asks; from_is = refl }

  handed_by : (n from : ℕ) (request : WorldAsk) (p : RpPair) (answer : Answered) (told : RpReply) → Has world (Party n from request p) → WasPrinted c world answer → p.reply ≡ told → (known → n < length c.parties)
      → Sends (handed from (to.Party n) (reply.Party told) answer)
  handed_by n from request p answer (rp.Exchange w message) has was is low =
      record { handed = questioned n from request p w (rp.Exchange w message) has is (same w w refl); printed = was; asks = tt; role = low }
  handed_by n from request p answer (rp.Fetch w message) has was is low =
      record { handed = questioned n from request p w (rp.Fetch w message) has is (same w w refl); printed = was; asks = tt; role = low }
  handed_by n from request p answer told has was is low = tt

  handed_http : (n from : ℕ) (request : WorldAsk) (p : RpPair) (answering : Place) (o : Option HttpReply) → Has world (Party n from request p) → Has world answering → http_at c answering ≡ o
      → (known → n < length c.parties) → Sends (option_and_then (λ h. handed from (to.Party n) (reply.Party p.reply) (answer_in h)) o)
  handed_http n from request p answering None has there is low = tt
  handed_http n from request p answering (Some h) has there is low =
      handed_by n from request p (answer_in h) p.reply has (record { place = answering; has = there; told = h; printed_is = is; answer_is = refl }) refl low

  handed_other : (n from : ℕ) (request : WorldAsk) (p : RpPair) (answering : Place) (other : Option To) → Has world (Party n from request p) → Has world answering → role_at answering ≡ other
      → (known → n < length c.parties) → Sends (option_and_then (λ role. handed_back c from (to.Party n) (reply.Party p.reply) role (reply_at answering)) other)
  unfolding handed_back
  handed_other n from request p answering None has there is low = tt
  handed_other n from request p answering (Some role) has there is low =
      let P : Option To → Option HttpReply = λ o. option_and_then (λ r. printed c r (reply_at answering)) o in
      handed_http n from request p answering (printed c role (reply_at answering)) has there (ap P is) low

  no_hand : (from : ℕ) (told : WorldReply) (o : Option HttpReply) → Sends (option_and_then (λ h. handed from to.Provider told (answer_in h)) o)
  no_hand from told None = tt
  no_hand from told (Some h) = tt

  provider_hands : (from : ℕ) (told : WorldReply) (answering : Place) (other : Option To) → Sends (option_and_then (λ role. handed_back c from to.Provider told role (reply_at answering)) other)
  unfolding handed_back
  provider_hands from told answering None = tt
  provider_hands from told answering (Some role) = no_hand from told (printed c role (reply_at answering))

  handed_from : (asking answering : Place) → Has world asking → Has world answering → (known → IsAsked c asking) → Sends (handed_between c asking answering)
  handed_from (Provider from request p) answering has there prepared = provider_hands from (reply.Provider p.reply) answering (role_at answering)
  handed_from (Party n from request p) answering has there prepared = handed_other n from request p answering (role_at answering) has there refl (λ k. (prepared k).0)
  handed_from Nothing answering has there prepared = tt

  handed_to : (asking : Place) (answer : ℕ) (o : Option Place) → Has world asking → place_at world answer ≡ o → (known → IsAsked c asking) → Sends (option_and_then (handed_between c asking) o)
  handed_to asking answer None has is prepared = tt
  handed_to asking answer (Some answering) has is prepared = handed_from asking answering has (found world answer answering is) prepared

  handed_of : (place answer : ℕ) (o : Option Place) → (known → AllByRecursion (IsAsked c) world) → place_at world place ≡ o
      → Sends (option_and_then (λ asking. option_and_then (handed_between c asking) (place_at world answer)) o)
  handed_of place answer None prepared is = tt
  handed_of place answer (Some asking) prepared is =
      let has : Has world asking = found world place asking is in
      handed_to asking answer (place_at world answer) has refl (λ k. all_has (IsAsked c) world asking (prepared k) has)

-- ---- all lines

-- what is known of a line that was read, and of the places before it
abbrev pub IsKnown : Configuration → World → Line → Type 0
IsKnown c world line = NamesRole c line × AllByRecursion (IsAsked c) world

pub lines_send : (c : Configuration) (world : World) (jars : List JarNote) (line : Line) → IfSome (line_sent c world jars line) (IsSent (IsKnown c world line) c world)
unfolding raw_sent
lines_send c world jars (Begin from party) = record { handed = tt; printed = tt; asks = tt; role = λ k. k.0 }
lines_send c world jars (Visit from party) = record { handed = tt; printed = tt; asks = tt; role = λ k. k.0 }
lines_send c world jars (Leave from party) = record { handed = tt; printed = tt; asks = tt; role = λ k. k.0 }
lines_send c world jars (SignOut from) = record { handed = tt; printed = tt; asks = tt; role = λ k. tt }
lines_send c world jars (Follow from place) = led (IsKnown c world (Follow from place)) c world jars from (location_in c world place)
lines_send c world jars (Mix from place name other) = led (IsKnown c world (Mix from place name other)) c world jars from (mixed_in c world place name other)
lines_send c world jars (Forge from place user) = led (IsKnown c world (Forge from place user)) c world jars from (forged_in c world place user)
lines_send c world jars (Login from place user password) =
    login_of (IsKnown c world (Login from place user password)) c world jars from user password (jar_of jars from to.Provider) (reply_of world place)
lines_send c world jars (Consent from place agree) = consent_of (IsKnown c world (Consent from place agree)) c world jars from agree (jar_of jars from to.Provider) (reply_of world place)
lines_send c world jars (Carry place message) = carried_of (IsKnown c world (Carry place message)) c world jars message (reply_of world place)
lines_send c world jars (Back place answer) = handed_of (IsKnown c world (Back place answer)) c world jars place answer (place_at world place) (λ k. k.1) refl
lines_send c world jars (Raw from role method target first second auth body) = record { handed = tt; printed = tt; asks = asks_any role _; role = λ k. k.0 }
lines_send c world jars (At seconds) = tt
lines_send c world jars (Steal thief owner) = tt
lines_send c world jars (Show place) = tt

-- ---- places

-- the place of a party holds the answer of its core, with the words of its number
pub record IsPartyPlace (c : Configuration) (seed : List ℕ) (world : World) (n from : ℕ) (request : WorldAsk) (p : RpPair) : Type 0 where
  pub fresh : p.entry.fresh ≡ words_after seed (length world)
  pub asked : p.entry.ask ≡ party_prepared c n request
  pub answered : p.reply ≡ rp_answer (setup_at (own_site c) n) (rp_past n world) p.entry
  pub handed : IsHanded world from request
  pub printed : IsPrinted c world request

abbrev pub IsPlaced : Configuration → List ℕ → World → Place → Type 0
IsPlaced c seed world (Provider from request p) = p.entry.fresh ≡ words_after seed (length world)
IsPlaced c seed world (Party n from request p) = IsPartyPlace c seed world n from request p
IsPlaced c seed world Nothing = Unit {0}

-- each place has this property, given those before it
abbrev pub IsPlayed : Configuration → List ℕ → World → Type 0
IsPlayed c seed [] = Unit {0}
IsPlayed c seed (x ∷ world) = IsPlayed c seed world × IsPlaced c seed world x

-- what was played, of at most `count` lines
pub record HasPlayed (c : Configuration) (seed : List ℕ) (count : ℕ) (world : World) : Type 0 where
  pub places : IsPlayed c seed world
  pub few : length world ≤ count

one_more : (c : Configuration) (seed : List ℕ) (count : ℕ) (world : World) (x : Place) → HasPlayed c seed count world → IsPlaced c seed world x → HasPlayed c seed (suc count) (x ∷ world)
one_more c seed count world x old is =
    let few : length world ≤ count = old.few in
    record { places = (old.places, is); few = omega arith }

no_more : (c : Configuration) (seed : List ℕ) (count : ℕ) (world : World) → HasPlayed c seed count world → HasPlayed c seed (suc count) world
no_more c seed count world old =
    let few : length world ≤ count = old.few in
    record { places = old.places; few = omega arith }

stepped_placed : (c : Configuration) (seed : List ℕ) (from : ℕ) (role : To) (at : ℕ) (ask : WorldAsk) (world : World) → IsHanded world from ask → IsPrinted c world ask → IsPlaced c seed world (stepped (own_site c) from role at (words_after seed (length world)) ask world)
stepped_placed c seed from to.Provider at (Http request) world handed was = refl
stepped_placed c seed from to.Provider at (Tokens w answer) world handed was = tt
stepped_placed c seed from to.Provider at (Info w answer) world handed was = tt
stepped_placed c seed from (to.Party n) at ask world handed was = record { fresh = refl; asked = refl; answered = refl; handed = handed; printed = was }

module _ (c : Configuration) (seed : List ℕ) (count : ℕ) where
  asked_played : (known : Type 0) (play : Played) (s : Sent) → HasPlayed c seed count play.world → IsSent known c play.world s → HasPlayed c seed (suc count) (asked c seed play s).world
  asked_played known play s old is =
      let x : Place = stepped (own_site c) s.from s.to play.at (words_after seed (length play.world)) s.ask play.world in
      let H : Bool → Type 0 = λ b. HasPlayed c seed (suc count) (cond b (with_place play x) (record play { ended = Some (suc (length play.world)) })).world in
      elim (bool_cases (has_room c play.world s)) [
        | inl room ↦ subst H (sym room) (one_more c seed count play.world x old (stepped_placed c seed s.from s.to play.at s.ask play.world is.handed is.printed))
        | inr full ↦ subst H (sym full) (no_more c seed count play.world old)
      ]

  asked_if_played : (known : Type 0) (play : Played) (o : Option Sent) → HasPlayed c seed count play.world → IfSome o (IsSent known c play.world) → HasPlayed c seed (suc count) (asked_if c seed play o).world
  asked_if_played known play None old is = one_more c seed count play.world Nothing old tt
  asked_if_played known play (Some s) old is = asked_played known play s old is

  -- the place of a line
  placed_next : (play : Played) (line : Line) → HasPlayed c seed count play.world → HasPlayed c seed (suc count) (asked_if c seed play (line_sent c play.world play.jars line)).world
  placed_next play line old = asked_if_played (IsKnown c play.world line) play (line_sent c play.world play.jars line) old (lines_send c play.world play.jars line)

  line_next : (play : Played) (line : Line) → HasPlayed c seed count play.world → HasPlayed c seed (suc count) (line_played c seed play line).world
  line_next play (At seconds) old = no_more c seed count play.world old
  line_next play (Steal thief owner) old = no_more c seed count play.world old
  line_next play (Show place) old = no_more c seed count play.world old
  line_next play (Begin from party) old = placed_next play (Begin from party) old
  line_next play (Visit from party) old = placed_next play (Visit from party) old
  line_next play (Leave from party) old = placed_next play (Leave from party) old
  line_next play (SignOut from) old = placed_next play (SignOut from) old
  line_next play (Follow from place) old = placed_next play (Follow from place) old
  line_next play (Mix from place name other) old = placed_next play (Mix from place name other) old
  line_next play (Forge from place user) old = placed_next play (Forge from place user) old
  line_next play (Login from place user password) old = placed_next play (Login from place user password) old
  line_next play (Consent from place agree) old = placed_next play (Consent from place agree) old
  line_next play (Carry place message) old = placed_next play (Carry place message) old
  line_next play (Back place answer) old = placed_next play (Back place answer) old
  line_next play (Raw from role method target first second auth body) old = placed_next play (Raw from role method target first second auth body) old

  next_played : (play : Played) (line : Line) → HasPlayed c seed count play.world → HasPlayed c seed (suc count) (play_on c seed play line).world
  next_played play line old =
      let H : Bool → Type 0 = λ b. HasPlayed c seed (suc count) (cond b play (line_played c seed play line)).world in
      elim (bool_cases (is_some play.ended)) [
        | inl over ↦ subst H (sym over) (no_more c seed count play.world old)
        | inr on ↦ subst H (sym on) (line_next play line old)
      ]

pub lines_played : (c : Configuration) (seed : List ℕ) (lines : List Line) → HasPlayed c seed (length lines) (play_lines c seed lines).world
lines_played c seed [] = record { places = tt; few = omega arith }
lines_played c seed (line ∷ lines) = next_played c seed (length lines) (play_lines c seed lines) line (lines_played c seed lines)
