-- What follows a location, and what is carried, arrives at a role of the registry; what is handed back, at the party that waits.
use Rattle.std.proofs.Common.{◌≡◌, ◌++◌, ℕ, List, [], Bool, true, false, cond, Option, Some, None, is_some, option_map, option_and_then, unwrap_or, slice_get, refl, ap, subst}
use Rattle.std.specs.Str.{bytes_eq}
use Rattle.sso_base.specs.Words.{Text}
use Rattle.sso_base.specs.Texts.{is_given}
use Rattle.sso_base.specs.declared.http.HttpReply.{HttpReply}
use Rattle.sso_base.specs.declared.message.Message.{Message}
use Rattle.sso_base.specs.declared.message.Answered.{Answered}
use Rattle.oidc_words.specs.Paths.{authorize_path, token_path, userinfo_path}
use Rattle.client_registry.specs.declared.records.Party.{Party}
use Rattle.client_registry.specs.Records.{no_url}
use Rattle.client_registry.specs.Configuration.{Configuration}
use Rattle.client_registry.specs.Numbers.{client_of, party_row, party_client, no_party}
use Rattle.rp_exchange.specs.declared.reply.RpReply.{RpReply}
use Rattle.rp_exchange.specs.declared.reply.RpReply.TheVariants as rp
use Rattle.sso_places.specs.declared.types.Jar.{Jar}
use Rattle.sso_places.specs.declared.types.To.{To}
use Rattle.sso_places.specs.declared.types.To.TheVariants as to
use Rattle.sso_places.specs.declared.types.WorldReply.{WorldReply}
use Rattle.sso_places.specs.declared.types.WorldReply.TheVariants as replied
use Rattle.web_requests.specs.declared.sent.Sent.{Sent}
use Rattle.web_requests.specs.declared.location.Location.{Location}
use Rattle.web_requests.specs.declared.location.Location.TheVariants as location
use Rattle.web_requests.specs.Sending.{got}
use Rattle.web_requests.specs.Following.{party_of_uri, receiver, response_ask, response_sent, request_sent, followed}
use Rattle.web_requests.specs.Carrying.{logs_out_at, party_of_logout, message_ask, logout_ask, at_provider, at_party, delivered, messages_of, carried}
use Rattle.web_requests.specs.Handing.{answer_in, printed, handed, handed_back}
use Rattle.web_requests.specs.Arriving.{Arrives, GoesBack}
use Rattle.web_requests.proofs.FoundPlaces.{found_below}

one_sent : (s t : Sent) → Some s ≡ Some t → s ≡ t
one_sent s t h = cc

-- ---- what follows a location

module _ (c : Configuration) (from : ℕ) (jar : Jar) where
  request_arrives : (query : List ℕ) → Arrives c from (request_sent c from query jar)
  request_arrives query = record { request = got (c.prefix ++ authorize_path) query jar; is = refl; role = tt }

  response_arrives : (uri : Text) (fragment : Bool) (form : List ℕ) (n : ℕ) → party_of_uri c uri ≡ Some n → Arrives c from (response_sent c from fragment form jar n)
  response_arrives uri fragment form n is = record {
    request = response_ask (party_row c n).redirect_url.path fragment form jar;
    is = refl;
    role = found_below (λ (party : Party). bytes_eq party.redirect uri) c.parties no_party n is;
  }

  response_at : (uri : Text) (fragment : Bool) (form : List ℕ) (o : Option ℕ) (s : Sent) → party_of_uri c uri ≡ o → option_map (response_sent c from fragment form jar) o ≡ Some s
      → (option_map to.Party o ≡ Some s.to) × Arrives c from s
  response_at uri fragment form None s is h = absurd (cc)
  response_at uri fragment form (Some n) s is h =
      let same : response_sent c from fragment form jar n ≡ s = one_sent (response_sent c from fragment form jar n) s h in
      (ap (λ (x : Sent). Some x.to) same, subst (Arrives c from) same (response_arrives uri fragment form n is))

  pub followed_arrives : (l : Location) (s : Sent) → followed c from l jar ≡ Some s → (receiver c l ≡ Some s.to) × Arrives c from s
  unfolding followed
  followed_arrives (location.Provider query) s h =
      let same : request_sent c from query jar ≡ s = one_sent (request_sent c from query jar) s h in
      (ap (λ (x : Sent). Some x.to) same, subst (Arrives c from) same (request_arrives query))
  followed_arrives (location.Client uri fragment form) s h = response_at uri fragment form (party_of_uri c uri) s refl h

  some_at : (fragment : Bool) (form : List ℕ) (o : Option ℕ) → is_some (option_map (response_sent c from fragment form jar) o) ≡ is_some (option_map to.Party o)
  some_at fragment form None = refl
  some_at fragment form (Some n) = refl

  pub followed_where : (l : Location) → is_some (followed c from l jar) ≡ is_some (receiver c l)
  unfolding followed
  followed_where (location.Provider query) = refl
  followed_where (location.Client uri fragment form) = some_at fragment form (party_of_uri c uri)

-- ---- what is carried

module _ (c : Configuration) where
  provider_arrives : (path : Text) (message : Message) → Arrives c 0 (at_provider c path message)
  provider_arrives path message = record { request = message_ask (c.prefix ++ path) [] message; is = refl; role = tt }

  party_at : (message : Message) (o : Option ℕ) (s : Sent) → party_of_logout c message.to ≡ o → option_map (at_party c message) o ≡ Some s → Arrives c 0 s
  party_at message None s is h = absurd (cc)
  party_at message (Some n) s is h =
      let there : Arrives c 0 (at_party c message n) = record {
        request = logout_ask (unwrap_or (party_client c n).logout_url no_url) message;
        is = refl;
        role = found_below (λ (party : Party). logs_out_at message.to (client_of c party)) c.parties no_party n is;
      } in
      subst (Arrives c 0) (one_sent (at_party c message n) s h) there

  either_at : (b : Bool) (x : Sent) (rest : Option Sent) (s : Sent) → Arrives c 0 x → (rest ≡ Some s → Arrives c 0 s) → cond b (Some x) rest ≡ Some s → Arrives c 0 s
  either_at true x rest s there later h = subst (Arrives c 0) (one_sent x s h) there
  either_at false x rest s there later h = later h

  delivered_arrives : (message : Message) (s : Sent) → delivered c message ≡ Some s → Arrives c 0 s
  delivered_arrives message s h =
      let last : Option Sent = option_map (at_party c message) (party_of_logout c message.to) in
      either_at (bytes_eq c.provider.token message.to) (at_provider c token_path message) (cond (is_given message.to c.provider.userinfo) (Some (at_provider c userinfo_path message)) last) s
      (provider_arrives token_path message)
      (either_at (is_given message.to c.provider.userinfo) (at_provider c userinfo_path message) last s (provider_arrives userinfo_path message) (party_at message (party_of_logout c message.to) s refl))
      h

  message_at : (o : Option Message) (s : Sent) → option_and_then (delivered c) o ≡ Some s → Arrives c 0 s
  message_at None s h = absurd (cc)
  message_at (Some message) s h = delivered_arrives message s h

  pub carried_arrives : (reply : WorldReply) (number : ℕ) (s : Sent) → carried c reply number ≡ Some s → Arrives c 0 s
  unfolding carried
  carried_arrives reply number s h = message_at (slice_get (messages_of reply) number) s h

-- ---- what is handed back

module _ (from n : ℕ) (answer : Answered) (s : Sent) where
  nothing : None ≡ Some s → GoesBack from (to.Party n) s
  nothing h = absurd (cc)

  back_at : (t : Sent) → t.from ≡ from → t.to ≡ to.Party n → Some t ≡ Some s → GoesBack from (to.Party n) s
  back_at t sender receiver h =
      subst (GoesBack from (to.Party n)) (one_sent t s h) (record { number = n; party = refl; sender = sender; receiver = receiver })

  party_back : (reply : RpReply) → handed from (to.Party n) (replied.Party reply) answer ≡ Some s → GoesBack from (to.Party n) s
  party_back (rp.Ask url browser) h = nothing h
  party_back rp.Fragment h = nothing h
  party_back (rp.Exchange pending message) h = back_at _ refl refl h
  party_back (rp.Fetch pending message) h = back_at _ refl refl h
  party_back (rp.Entered session sub) h = nothing h
  party_back (rp.User sub) h = nothing h
  party_back rp.Nobody h = nothing h
  party_back (rp.Left ended) h = nothing h
  party_back (rp.Ended count) h = nothing h
  party_back (rp.Refused why) h = nothing h
  party_back rp.NotHere h = nothing h

  reply_back : (reply : WorldReply) → handed from (to.Party n) reply answer ≡ Some s → GoesBack from (to.Party n) s
  reply_back (replied.Provider reply) h = nothing h
  reply_back (replied.Party reply) h = party_back reply h
  reply_back replied.Nothing h = nothing h

handed_goes_back : (from : ℕ) (role : To) (reply : WorldReply) (answer : Answered) (s : Sent) → handed from role reply answer ≡ Some s → GoesBack from role s
handed_goes_back from to.Provider reply answer s h = absurd (cc)
handed_goes_back from (to.Party n) reply answer s h = reply_back from n answer s reply h

told_back : (from : ℕ) (role : To) (reply : WorldReply) (o : Option HttpReply) (s : Sent) → option_and_then (λ told. handed from role reply (answer_in told)) o ≡ Some s → GoesBack from role s
told_back from role reply None s h = absurd (cc)
told_back from role reply (Some told) s h = handed_goes_back from role reply (answer_in told) s h

pub handed_back_goes_back : (c : Configuration) (from : ℕ) (role : To) (reply : WorldReply) (other : To) (answer : WorldReply) (s : Sent) → handed_back c from role reply other answer ≡ Some s → GoesBack from role s
unfolding handed_back
handed_back_goes_back c from role reply other answer s h = told_back from role reply (printed c other answer) s h
