-- The parts of causes, each on a case that it refuses; and the one that no sample login meets.
use Rattle.std.proofs.Common.{◌≡◌, true, false, [], ◌∷◌, Some, None, Ok, refl, sym, ap, subst}
use Rattle.std.specs.Str.{bytes_eq}
use Rattle.sso_base.specs.Words.{Word, Text, word_text}
use Rattle.sso_base.specs.declared.message.Message.{Message}
use Rattle.id_token.specs.declared.no.IdNo.{IdNo}
use Rattle.id_token.specs.Judging.{id_judged}
use Rattle.oidc_words.specs.declared.errors.AuthError.{AuthError}
use Rattle.auth_answer.specs.declared.heard.Heard.{Heard}
use Rattle.token_endpoint.specs.declared.no.TokensNo.TheVariants as tokens_no
use Rattle.rp_exchange.specs.declared.no.Part.{Part}
use Rattle.rp_exchange.specs.declared.no.Part.TheVariants as part
use Rattle.rp_exchange.specs.declared.no.RpNo.TheVariants as no
use Rattle.rp_exchange.specs.declared.reply.RpReply.TheVariants.{Refused}
use Rattle.rp_answer.specs.Setup.{PartySetup}
use Rattle.rp_answer.specs.Logins.{live_login}
use Rattle.rp_answer.specs.Replies.{back_rules}
use Rattle.rp_answer.specs.Answering.{rp_answer}
use Rattle.rp_answer.specs.Causes.{BadClaims, LoginBegun, CodeExchanged, EnteredAtOnce, EnteredAfterExchange, LiveVisit, StaleState, OtherBrowser, ProviderRefused, PartMissing, NothingToEnterBy, FrontTokenRefused, ExchangeFailed, BackTokenRefused, AnotherSubject}
use Rattle.rp_answer.proofs.Sample.{word, op, shop, registered, shop_setup, news_setup}
use Rattle.rp_answer.proofs.FirstVisit.{begin_entry, past_begin, heard, callback_entry, past_callback, claims, tokens_entry, past_entered, visit_entry}
use Rattle.rp_answer.proofs.FrontLogin.{past_front, heard_front, waiting}
use Rattle.rp_answer.proofs.EachRefusal.{response, came, failed_exchange, stateless, unknown_state}
use Rattle.rp_answer.proofs.RowSamples.{login}

-- ---- replies

-- the browser's word is drawn
other_word_drawn : (to : Text) → LoginBegun shop_setup [] begin_entry None to (word 2) → ⊥
other_word_drawn to h = let same : false ≡ true = ap (λ (w : Word). bytes_eq w (word 2)) h.browser_is in cc

-- a response type without a code
no_code_to_exchange : (access : Text) (w : Word) (message : Message) → CodeExchanged news_setup past_front (callback_entry 1000 (word 1)) (heard_front access) None (Some (word 1)) w message → ⊥
no_code_to_exchange access w message h = let code = h.code_is in cc

-- a response type with a code lets nobody in at once
code_enters_none : (w : Word) (sub : Text) → EnteredAtOnce shop_setup past_begin (callback_entry 1000 (word 1)) heard None (Some (word 1)) w sub → ⊥
code_enters_none w sub h = let code = h.no_code in cc

-- nor does a token response without an ID Token
no_claims_enter : (w : Word) (sub : Text) → EnteredAfterExchange shop_setup past_callback failed_exchange (word 17) came None w sub → ⊥
no_claims_enter w sub h = let read = h.accepted.read in cc

old_visit_is_none : (t sub : Text) → LiveVisit shop_setup (past_entered t) (visit_entry 29800) (Some (word 26)) sub → ⊥
old_visit_is_none t sub h = let live = h.live in cc

-- ---- refusals

state_is_not_stale : StaleState past_begin (callback_entry 1599 (word 1)) heard → ⊥
state_is_not_stale h =
    let entry = callback_entry 1599 (word 1) in
    let state : Some (word 2) ≡ Some h.state = h.given in
    let stale : live_login past_begin entry.at (Some (word 2)) ≡ None = subst (λ state. live_login past_begin entry.at state ≡ None) (sym state) h.stale in
    cc

no_state_is_not_stale : StaleState past_begin stateless (record heard { state = None }) → ⊥
no_state_is_not_stale h = let given = h.given in cc

-- a login that isn't there has no other browser
unknown_is_not_other : OtherBrowser past_begin unknown_state (record heard { state = Some (word 9) }) (Some (word 5)) → ⊥
unknown_is_not_other h = let live = h.live in cc

no_provider_error : (code : AuthError) → ProviderRefused past_begin (callback_entry 1000 (word 1)) heard (Some (word 1)) code → ⊥
no_provider_error code h = let error = h.error in cc

no_part_is_missing : (missing : Part) → PartMissing shop_setup past_begin (callback_entry 1000 (word 1)) heard (Some (word 1)) missing → ⊥
no_part_is_missing missing h = let lacks = h.lacks in cc

no_front_token : (why : IdNo) → FrontTokenRefused shop_setup past_begin (callback_entry 1000 (word 1)) heard None (Some (word 1)) why → ⊥
no_front_token why h = h.refused

-- the claims are good
no_bad_claims : (t : Text) (why : IdNo) → bytes_eq t (word_text (word 3)) ≡ true → BadClaims (back_rules shop_setup waiting came) 1000 (claims t) why → ⊥
no_bad_claims t why same h =
    let good : id_judged (back_rules shop_setup waiting came) (claims t) 1000 ≡ Ok tt = rw same refl in
    let judged = h.judged in
    cc

other_failure : ExchangeFailed shop_setup past_callback failed_exchange (word 17) (tokens_no.Status 400) tokens_no.NotBearer → ⊥
other_failure h = let failed = h.failed in cc

no_back_token : (why : IdNo) → BackTokenRefused shop_setup past_callback failed_exchange (word 17) came None why → ⊥
no_back_token why h = h.refused

-- an exchange that isn't there has no other subject
no_other_subject : (t : Text) → AnotherSubject shop_setup past_callback (tokens_entry 1000 t) (word 18) came (Some (Ok (claims t))) → ⊥
no_other_subject t h = let live = h.live in cc

-- ---- a response type with neither a code nor an ID Token

abbrev token_setup : PartySetup
token_setup =
    record { configuration = registered (record shop { types = record { code = false; id_token = false; token = true } } ∷ []); number = 0; provider = op }

abbrev heard_token : Text → Heard
heard_token access = record (heard_front access) { id = None }

token_enters_none : (access : Text) → rp_answer token_setup past_begin (response (heard_token access) None) ≡ Refused (no.Missing part.Id)
unfolding rp_answer
token_enters_none access = refl

nothing_to_enter_by : (access : Text) → NothingToEnterBy token_setup past_begin (response (heard_token access) None) (heard_token access) None (Some (word 1)) part.Id
nothing_to_enter_by access =
    record {
      login = login;
      response = record { own = record { live = refl; same_browser = refl }; no_error = refl; whole = refl };
      no_code = refl;
      no_id = refl;
      part_is = refl;
    }

code_to_enter_by : NothingToEnterBy shop_setup past_begin (callback_entry 1000 (word 1)) heard None (Some (word 1)) part.Id → ⊥
code_to_enter_by h = let code = h.no_code in cc
