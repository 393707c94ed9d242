-- What the replies to authorization responses say: each test of the response is seen here once.
use Rattle.std.proofs.Common.{◌≡◌, Bool, true, false, cond, Option, Some, None, Result, Ok, Err, refl, sym, subst, inl, inr}
use Rattle.sso_base.specs.Words.{Word, Text, is_word, fresh_word}
use Rattle.sso_base.specs.declared.history.Entry.{Entry}
use Rattle.id_token.specs.declared.claims.IdClaims.{IdClaims}
use Rattle.id_token.specs.declared.no.IdNo.{IdNo}
use Rattle.id_token.specs.Judging.{id_judged}
use Rattle.oidc_words.specs.declared.errors.AuthError.{AuthError}
use Rattle.auth_answer.specs.declared.heard.Heard.{Heard}
use Rattle.rp_login.specs.declared.rows.LoginRow.{LoginRow}
use Rattle.rp_exchange.specs.declared.ask.RpAsk.{RpAsk}
use Rattle.rp_exchange.specs.declared.ask.RpAsk.TheVariants as ask
use Rattle.rp_exchange.specs.declared.no.Part.{Part}
use Rattle.rp_exchange.specs.declared.no.RpNo.TheVariants as no
use Rattle.rp_exchange.specs.declared.reply.RpReply.{RpReply}
use Rattle.rp_exchange.specs.declared.reply.RpReply.TheVariants.{Refused}
use Rattle.rp_answer.specs.Past.{RpPast}
use Rattle.rp_answer.specs.Setup.{PartySetup, party_of}
use Rattle.rp_answer.specs.Asked.{if_wanted}
use Rattle.rp_answer.specs.Logins.{live_login}
use Rattle.rp_answer.specs.Replies.{front_access, front_code, front_rules, part_missing, info_endpoint, fetch_or_enter, exchange_or_enter, front_judged, front_read, response_parts, response_error, response_of, response_to}
use Rattle.rp_answer.specs.Causes.{OwnLogin, WholeResponse, GoodClaims, IdRefused, IfGood}
use Rattle.rp_answer.proofs.Caused.{Caused}

module _ (s : PartySetup) (past : RpPast) (e : Entry RpAsk) (heard : Heard) (id : Option (Result IdClaims IdNo)) (browser : Option Word) where
  abbrev Told : RpReply → Type 0
  Told reply = Caused s past e (ask.Callback (Ok heard) id browser) reply

  -- what was read of the ID Token, where the response type has one
  abbrev wanted_id : Option (Result IdClaims IdNo)
  wanted_id = if_wanted (party_of s).types.id_token id

  -- there is no code: UserInfo is asked for, else the claims let in
  without_code : (login : LoginRow) → WholeResponse s past e heard browser login → (claims : IdClaims) → GoodClaims (front_rules s login heard) e.at wanted_id claims → front_code s heard ≡ None
      → (endpoint : Option Text) → info_endpoint s ≡ endpoint → (access : Option Text) → front_access s heard ≡ access
      → Told (fetch_or_enter e endpoint access (fresh_word e.fresh 0) claims.sub)
  without_code login response claims good no_code None no_endpoint access access_is =
      record { login = login; response = response; claims = claims; accepted = good; no_code = no_code; not_fetched = inl no_endpoint; drawn = refl; sub_is = refl }
  without_code login response claims good no_code (Some endpoint) endpoint_is None no_access =
      record { login = login; response = response; claims = claims; accepted = good; no_code = no_code; not_fetched = inr no_access; drawn = refl; sub_is = refl }
  without_code login response claims good no_code (Some endpoint) endpoint_is (Some access) access_is =
      record {
        login = login;
        response = response;
        claims = claims;
        accepted = good;
        no_code = no_code;
        endpoint = endpoint;
        endpoint_is = endpoint_is;
        access = access;
        access_is = access_is;
        drawn = refl;
        message_is = refl;
      }

  -- the ID Token was accepted: a code is exchanged, else its claims count
  accepted_by : (login : LoginRow) → WholeResponse s past e heard browser login → (claims : IdClaims) → GoodClaims (front_rules s login heard) e.at wanted_id claims
      → (code : Option Text) → front_code s heard ≡ code → Told (exchange_or_enter s e heard code (Some claims))
  accepted_by login response claims good (Some code) code_is =
      let G : Option (Result IdClaims IdNo) → Type 0 = IfGood (front_rules s login heard) e.at in
      let accepted : G (Some (Ok claims)) = record { read = refl; good = good.good; judged = good.judged } in
      record {
        login = login;
        response = response;
        accepted = subst G (sym good.read) accepted;
        code = code;
        code_is = code_is;
        drawn = refl;
        message_is = refl;
      }
  accepted_by login response claims good None no_code = without_code login response claims good no_code (info_endpoint s) refl (front_access s heard) refl

  -- there was none to accept
  without_id : (login : LoginRow) → WholeResponse s past e heard browser login → wanted_id ≡ None → (code : Option Text) → front_code s heard ≡ code
      → Told (exchange_or_enter s e heard code None)
  without_id login response none (Some code) code_is =
      let G : Option (Result IdClaims IdNo) → Type 0 = IfGood (front_rules s login heard) e.at in
      record {
        login = login;
        response = response;
        accepted = subst G (sym none) tt;
        code = code;
        code_is = code_is;
        drawn = refl;
        message_is = refl;
      }
  without_id login response none None no_code =
      inr (record { login = login; response = response; no_code = no_code; no_id = none; part_is = refl })

  judged_by : (login : LoginRow) → WholeResponse s past e heard browser login → (claims : IdClaims) → wanted_id ≡ Some (Ok claims)
      → (judged : Result (Unit {0}) IdNo) → id_judged (front_rules s login heard) claims e.at ≡ judged → Told (front_judged s e heard claims judged)
  judged_by login response claims read (Err why) judged =
      let R : Option (Result IdClaims IdNo) → Type 0 = λ found. IdRefused (front_rules s login heard) e.at found why in
      let bad : R (Some (Ok claims)) = record { judged = judged } in
      record { login = login; response = response; refused = subst R (sym read) bad }
  judged_by login response claims read (Ok good) judged =
      accepted_by login response claims (record { read = read; good = good; judged = judged }) (front_code s heard) refl

  read_by : (login : LoginRow) → WholeResponse s past e heard browser login → (found : Option (Result IdClaims IdNo)) → wanted_id ≡ found → Told (front_read s e login heard found)
  read_by login response None read = without_id login response read (front_code s heard) refl
  read_by login response (Some (Err why)) read =
      let R : Option (Result IdClaims IdNo) → Type 0 = λ found. IdRefused (front_rules s login heard) e.at found why in
      record { login = login; response = response; refused = subst R (sym read) refl }
  read_by login response (Some (Ok claims)) read = judged_by login response claims read (id_judged (front_rules s login heard) claims e.at) refl

  parts_by : (login : LoginRow) → OwnLogin past e heard browser login → heard.error ≡ None → (lacking : Option Part) → part_missing (party_of s).types heard ≡ lacking
      → Told (response_parts s e login heard id lacking)
  parts_by login own no_error (Some missing) lacks = inl (record { login = login; own = own; no_error = no_error; lacks = lacks })
  parts_by login own no_error None whole = read_by login (record { own = own; no_error = no_error; whole = whole }) wanted_id refl

  error_by : (login : LoginRow) → OwnLogin past e heard browser login → (error : Option AuthError) → heard.error ≡ error → Told (response_error s e login heard id error)
  error_by login own (Some code) error = record { login = login; own = own; error = error }
  error_by login own None no_error = parts_by login own no_error (part_missing (party_of s).types heard) refl

  browser_by : (login : LoginRow) → live_login past e.at heard.state ≡ Some login → (same : Bool) → is_word browser login.browser ≡ same
      → Told (cond same (response_error s e login heard id heard.error) (Refused no.WrongBrowser))
  browser_by login live false other = record { login = login; live = live; other = other }
  browser_by login live true same = error_by login (record { live = live; same_browser = same }) heard.error refl

  login_by : (state : Word) → heard.state ≡ Some state → (found : Option LoginRow) → live_login past e.at (Some state) ≡ found
      → Told (response_of s e heard id browser found)
  login_by state given None stale = record { state = state; given = given; stale = stale }
  login_by state given (Some login) live =
      let L : Option Word → Type 0 = λ named. live_login past e.at named ≡ Some login in
      browser_by login (subst L (sym given) live) (is_word browser login.browser) refl

  pub responses_caused : (state : Option Word) → heard.state ≡ state → Told (response_to s past e heard id browser state)
  responses_caused None none = none
  responses_caused (Some state) given = login_by state given (live_login past e.at (Some state)) refl
