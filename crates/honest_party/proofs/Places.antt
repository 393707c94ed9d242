-- The places of an honest login at its party, each with its reply.
use Rattle.std.proofs.Common.{◌≡◌, not, ℕ, Bool, true, false, List, Option, Some, None, option_map, Result, Ok, refl, sym, ap, ◌∙◌, subst, ◌⊎◌, inl, inr}
use Rattle.std.specs.Str.{bytes_eq}
use Rattle.sso_base.specs.Words.{Word, Text, is_word, fresh_word, word_text}
use Rattle.sso_base.specs.Texts.{is_other}
use Rattle.sso_base.specs.declared.history.Entry.{Entry}
use Rattle.sso_base.proofs.RowLaws.{bytes_true}
use Rattle.oidc_words.specs.declared.response_types.Types.{Types}
use Rattle.client_registry.specs.Configuration.{Configuration, subject_at}
use Rattle.auth_request.specs.declared.wish.Wish.{Wish}
use Rattle.auth_answer.specs.declared.heard.Heard.{Heard}
use Rattle.id_token.specs.declared.claims.IdClaims.{IdClaims}
use Rattle.id_token.specs.declared.no.IdNo.{IdNo}
use Rattle.token_endpoint.specs.declared.reading.Tokens.{Tokens}
use Rattle.op_issue.specs.declared.issuing.Authentication.{Authentication}
use Rattle.op_issue.specs.IdTokens.{id_claims, issued_id}
use Rattle.op_issue.specs.Issued.{if_wished, issued_code, issued_access}
use Rattle.rp_login.specs.declared.rows.LoginRow.{LoginRow}
use Rattle.rp_login.specs.declared.rows.PendingRow.{PendingRow}
use Rattle.rp_login.specs.declared.rows.Stage.TheVariants as stage
use Rattle.rp_exchange.specs.declared.ask.RpAsk.{RpAsk}
use Rattle.rp_exchange.specs.declared.ask.RpAsk.TheVariants as ask
use Rattle.rp_exchange.specs.declared.reply.RpReply.{RpReply}
use Rattle.rp_exchange.specs.Asks.{is_read_of, is_prepared}
use Rattle.rp_answer.specs.Past.{RpPast}
use Rattle.rp_answer.specs.Setup.{PartySetup, party_of}
use Rattle.rp_answer.specs.Asked.{if_wanted, claims_read, sub_in}
use Rattle.rp_answer.specs.Logins.{live_login}
use Rattle.rp_answer.specs.Pendings.{pending_started, live_pending}
use Rattle.rp_answer.specs.Replies.{begin, front_access, front_code, part_missing, exchange, info_endpoint, fetched, entered, fetch_or_enter, exchange_or_enter}
use Rattle.rp_answer.specs.Alive.{dead_for}
use Rattle.rp_answer.specs.Answering.{rp_reply, rp_answer}
use Rattle.honest_party.proofs.OwnParty.{IsOwnParty, HasRoom, InTime}
use Rattle.honest_party.proofs.Judged.{front_good, back_good}
use Rattle.honest_party.proofs.Replying.{replied, GoodResponse, response_counts, tokens_count, info_counts}
use Rattle.honest_party.proofs.Followed.{PartysWish, heard_of, claims_of}

-- ---- flags

same_flag : {X : Type 0} (b : Bool) (x : X) → if_wanted b (if_wished b x) ≡ if_wanted b (Some x)
same_flag true x = refl
same_flag false x = refl

text_of_flag : (b : Bool) (w : Word) → if_wanted b (option_map word_text (if_wished b w)) ≡ option_map word_text (if_wished b w)
text_of_flag true w = refl
text_of_flag false w = refl

read_of_flag : (b : Bool) (t : Text) (x : IdClaims) → is_read_of (if_wished b t) (if_wished b (Ok x)) ≡ true
read_of_flag true t x = refl
read_of_flag false t x = refl

whole_of : (code token id_token : Bool) (v w : Word) (t : Text) (state : Option Word)
    → part_missing (record { code = code; id_token = id_token; token = token })
    (record { state = state; error = None; code = option_map word_text (if_wished code v); access = option_map word_text (if_wished token w); id = if_wished id_token t }) ≡ None
whole_of true true true v w t state = refl
whole_of true true false v w t state = refl
whole_of true false true v w t state = refl
whole_of true false false v w t state = refl
whole_of false true true v w t state = refl
whole_of false true false v w t state = refl
whole_of false false true v w t state = refl
whole_of false false false v w t state = refl

same_text : (t : Text) → not (bytes_eq t t) ≡ false
same_text t = ap not (bytes_true t t refl)

subject_of_flag : (b : Bool) (x : IdClaims) (t : Text) → x.sub ≡ t → is_other t (sub_in (if_wanted b (claims_read (if_wished b (Ok x))))) ≡ false
subject_of_flag true x t is = ap (λ u. is_other t (Some u)) is ∙ same_text t
subject_of_flag false x t is = refl

-- ---- how a login goes on

-- UserInfo is requested with this access token, or else the subject is logged in
pub record Fetches (s : PartySetup) (w access : Word) (r : RpReply) : Type 0 where
  pub endpoint : Text
  pub endpoint_is : info_endpoint s ≡ Some endpoint
  pub reply_is : r ≡ fetched endpoint (word_text access) w

abbrev pub FetchesOrEnters : PartySetup → Entry RpAsk → Word → Option Word → Text → RpReply → Type 0
FetchesOrEnters s e w None sub r = r ≡ entered e sub
FetchesOrEnters s e w (Some access) sub r = Fetches s w access r ⊎ (r ≡ entered e sub)

fetches : (s : PartySetup) (e : Entry RpAsk) (w : Word) (access : Option Word) (sub : Text) (endpoint : Option Text) → info_endpoint s ≡ endpoint
    → FetchesOrEnters s e w access sub (fetch_or_enter e endpoint (option_map word_text access) w sub)
fetches s e w None sub None is = refl
fetches s e w None sub (Some endpoint) is = refl
fetches s e w (Some access) sub None is = inr refl
fetches s e w (Some access) sub (Some endpoint) is = inl (record { endpoint = endpoint; endpoint_is = is; reply_is = refl })

module _ (s : PartySetup) (own : IsOwnParty s) (past : RpPast) (e : Entry RpAsk) (room : HasRoom s past e) (alive : dead_for (party_of s).types past e.at e.ask ≡ None) where
  abbrev c : Configuration
  c = s.configuration

  abbrev n : ℕ
  n = s.number

  as_asked : (asked : RpAsk) → e.ask ≡ asked → is_prepared asked ≡ true → rp_answer s past e ≡ rp_reply s past e asked
  as_asked asked is prepared = replied s past e (ap is_prepared is ∙ prepared) alive room ∙ ap (rp_reply s past e) is

  -- ---- the begin

  pub begin_asks : (presented : Option Word) → e.ask ≡ ask.Begin presented → rp_answer s past e ≡ begin s past e presented
  begin_asks presented is = as_asked (ask.Begin presented) is refl

  -- ---- an authorization response

  module _ (wish : Wish) (who : Authentication) (at : ℕ) (fresh : List Word) (state : Word) (browser : Option Word) (login : LoginRow)
      (partys : PartysWish c n own.registry own.low wish state) (time : wish.types.id_token ≡ true → InTime s wish who at login.nonce login.begun e.at)
      (live : live_login past e.at (Some state) ≡ Some login) (same : is_word browser login.browser ≡ true) where
    abbrev heard : Heard
    heard = heard_of c n own.registry own.low wish who at fresh state

    abbrev claims : IdClaims
    claims = claims_of c n own.registry own.low wish who at fresh

    abbrev id : Option (Result IdClaims IdNo)
    id = if_wished wish.types.id_token (Ok claims)

    access_is : front_access s heard ≡ option_map word_text (issued_access wish fresh)
    access_is = ap (λ (t : Types). if_wanted t.token heard.access) (sym partys.types) ∙ text_of_flag wish.types.token (fresh_word fresh 3)

    code_is : front_code s heard ≡ option_map word_text (issued_code wish fresh)
    code_is = ap (λ (t : Types). if_wanted t.code heard.code) (sym partys.types) ∙ text_of_flag wish.types.code (fresh_word fresh 2)

    good : GoodResponse s past e heard id browser login claims
    good = record {
      state = state;
      given = refl;
      live = live;
      same_browser = same;
      no_error = refl;
      whole = ap (λ (t : Types). part_missing t heard) (sym partys.types)
          ∙ whole_of wish.types.code wish.types.token wish.types.id_token (fresh_word fresh 2) (fresh_word fresh 3) (issued_id c wish who at (issued_access wish fresh) (issued_code wish fresh)) (Some state);
      read = ap (λ (t : Types). if_wanted t.id_token id) (sym partys.types)
          ∙ same_flag wish.types.id_token (Ok claims)
          ∙ ap (λ (t : Types). if_wanted t.id_token (Some (Ok claims))) partys.types;
      judged = λ wanted. front_good s own wish who at login e.at (time (ap (λ (t : Types). t.id_token) partys.types ∙ wanted)) (issued_access wish fresh) (issued_code wish fresh) heard access_is code_is;
    }

    module _ (asked : e.ask ≡ ask.Callback (Ok heard) id browser) where
      callback_counts : rp_answer s past e ≡ exchange_or_enter s e heard (front_code s heard) (if_wanted (party_of s).types.id_token (Some claims))
      callback_counts =
          as_asked (ask.Callback (Ok heard) id browser) asked (read_of_flag wish.types.id_token (issued_id c wish who at (issued_access wish fresh) (issued_code wish fresh)) claims)
          ∙ response_counts s past e heard id browser login claims good

      pub callback_exchanges : wish.types.code ≡ true → rp_answer s past e ≡ exchange s e (word_text (fresh_word fresh 2))
      callback_exchanges code =
          callback_counts
          ∙ ap (λ o. exchange_or_enter s e heard o (if_wanted (party_of s).types.id_token (Some claims))) (code_is ∙ ap (λ b. option_map word_text (if_wished b (fresh_word fresh 2))) code)

      subject_is : claims.sub ≡ subject_at c wish.client who.user
      unfolding id_claims
      subject_is = refl

      pub callback_enters : wish.types.code ≡ false → wish.types.id_token ≡ true
          → FetchesOrEnters s e (fresh_word e.fresh 0) (issued_access wish fresh) (subject_at c wish.client who.user) (rp_answer s past e)
      callback_enters code id_token =
          let w : Word = fresh_word e.fresh 0 in
          let sub : Text = subject_at c wish.client who.user in
          let told : rp_answer s past e ≡ fetch_or_enter e (info_endpoint s) (option_map word_text (issued_access wish fresh)) w sub =
          callback_counts
          ∙ ap (λ o. exchange_or_enter s e heard o (if_wanted (party_of s).types.id_token (Some claims))) (code_is ∙ ap (λ b. option_map word_text (if_wished b (fresh_word fresh 2))) code)
          ∙ ap (λ b. exchange_or_enter s e heard None (if_wanted b (Some claims))) (ap (λ (t : Types). t.id_token) (sym partys.types) ∙ id_token)
          ∙ ap (λ a. fetch_or_enter e (info_endpoint s) a w claims.sub) access_is
          ∙ ap (fetch_or_enter e (info_endpoint s) (option_map word_text (issued_access wish fresh)) w) subject_is in
          subst (FetchesOrEnters s e w (issued_access wish fresh) sub) (sym told) (fetches s e w (issued_access wish fresh) sub (info_endpoint s) refl)

      -- what waits remembers no other subject
      pub front_subject : (w : Word) → is_other (subject_at c wish.client who.user) (pending_started (party_of s).types e.at (ask.Callback (Ok heard) id browser) w stage.Tokens login).sub ≡ false
      front_subject w =
          ap (λ (t : Types). is_other (subject_at c wish.client who.user) (sub_in (if_wanted t.id_token (claims_read id)))) (sym partys.types)
          ∙ subject_of_flag wish.types.id_token claims (subject_at c wish.client who.user) subject_is

  -- ---- a token response

  pub tokens_enter : (wish : Wish) (who : Authentication) (at : ℕ) (w access : Word) (pending : PendingRow) (came : Tokens) → InTime s wish who at pending.nonce pending.begun e.at
      → live_pending (party_of s).types past e.at w stage.Tokens ≡ Some pending → pending.word ≡ w → came.access ≡ word_text access → is_other (subject_at c wish.client who.user) pending.sub ≡ false
      → e.ask ≡ ask.Tokens w (Ok came) (Some (Ok (id_claims c wish who at (Some access) None)))
      → FetchesOrEnters s e w (Some access) (subject_at c wish.client who.user) (rp_answer s past e)
  unfolding id_claims
  tokens_enter wish who at w access pending came time live word access_is subject asked =
      let claims : IdClaims = id_claims c wish who at (Some access) None in
      let sub : Text = subject_at c wish.client who.user in
      let told : rp_answer s past e ≡ fetch_or_enter e (info_endpoint s) (Some (word_text access)) w sub =
      as_asked (ask.Tokens w (Ok came) (Some (Ok claims))) asked refl
      ∙ tokens_count s e pending came (Some (Ok claims)) claims (live_pending (party_of s).types past e.at w stage.Tokens) live refl (back_good s own wish who at pending e.at time access came access_is) subject
      ∙ ap (λ a. fetch_or_enter e (info_endpoint s) (Some a) pending.word sub) access_is
      ∙ ap (λ v. fetch_or_enter e (info_endpoint s) (Some (word_text access)) v sub) word in
      subst (FetchesOrEnters s e w (Some access) sub) (sym told) (fetches s e w (Some access) sub (info_endpoint s) refl)

  -- ---- a UserInfo response

  pub info_enters : (w : Word) (pending : PendingRow) (sub : Text) → live_pending (party_of s).types past e.at w stage.Info ≡ Some pending → is_other sub pending.sub ≡ false
      → e.ask ≡ ask.Info w (Ok sub) → rp_answer s past e ≡ entered e sub
  info_enters w pending sub live subject asked =
      as_asked (ask.Info w (Ok sub)) asked refl ∙ info_counts e pending sub (live_pending (party_of s).types past e.at w stage.Info) live subject
