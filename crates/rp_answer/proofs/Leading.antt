-- What each cause leads to: the reply that there is, were there always room and had no logout come first.
use Rattle.std.proofs.Common.{◌≡◌, ℕ, Bool, true, false, cond, Option, Some, None, Result, Ok, Err, refl, sym, ◌∙◌, ap, inl, inr}
use Rattle.sso_base.specs.Words.{Word, Text, fresh_word}
use Rattle.sso_base.specs.Texts.{is_other}
use Rattle.sso_base.specs.declared.history.Entry.{Entry}
use Rattle.sso_base.specs.declared.message.Message.{Message}
use Rattle.id_token.specs.declared.claims.IdClaims.{IdClaims}
use Rattle.id_token.specs.declared.no.IdNo.{IdNo}
use Rattle.oidc_words.specs.declared.errors.AuthError.{AuthError}
use Rattle.auth_answer.specs.declared.heard.Heard.{Heard}
use Rattle.auth_answer.specs.declared.no.AnswerNo.TheVariants as answer_no
use Rattle.token_endpoint.specs.declared.reading.Tokens.{Tokens}
use Rattle.token_endpoint.specs.declared.no.TokensNo.{TokensNo}
use Rattle.userinfo.specs.declared.no.InfoNo.{InfoNo}
use Rattle.logout_token.specs.declared.no.LogoutNo.{LogoutNo}
use Rattle.logout_token.specs.declared.claims.LogoutClaims.{LogoutClaims}
use Rattle.rp_login.specs.declared.rows.LoginRow.{LoginRow}
use Rattle.rp_login.specs.declared.rows.PendingRow.{PendingRow}
use Rattle.rp_login.specs.declared.rows.SessionRow.{SessionRow}
use Rattle.rp_login.specs.declared.rows.SeenRow.{SeenRow}
use Rattle.rp_login.specs.declared.rows.Stage.TheVariants as stage
use Rattle.rp_exchange.specs.declared.ask.RpAsk.{RpAsk}
use Rattle.rp_exchange.specs.declared.ask.RpAsk.TheVariants as ask
use Rattle.rp_exchange.specs.declared.no.Part.{Part}
use Rattle.rp_exchange.specs.declared.no.RpNo.{RpNo}
use Rattle.rp_exchange.specs.declared.no.RpNo.TheVariants as no
use Rattle.rp_exchange.specs.declared.reply.RpReply.{RpReply}
use Rattle.rp_exchange.specs.declared.reply.RpReply.TheVariants.{Ask, Fragment, Exchange, Fetch, Entered, User, Nobody, Left, Ended, Refused}
use Rattle.rp_answer.specs.Past.{RpPast}
use Rattle.rp_answer.specs.Setup.{PartySetup, party_of}
use Rattle.rp_answer.specs.Asked.{if_wanted}
use Rattle.rp_answer.specs.Logins.{live_login}
use Rattle.rp_answer.specs.Pendings.{live_pending}
use Rattle.rp_answer.specs.Replies.{front_access, front_code, front_rules, back_rules, part_missing, info_endpoint, exchange, entered, fetch_or_enter, exchange_or_enter, front_judged, front_read, response_parts, response_error, response_of, response_to, back_accepted, back_judged, back_read, tokens, info, visited, logout_new, logout_good, logout}
use Rattle.rp_answer.specs.Answering.{rp_reply}
use Rattle.rp_answer.specs.Causes.{OwnLogin, WholeResponse, GoodClaims, IdRefused, IfGood, NotFetched, AskCause, FragmentCause, ExchangeCause, FetchCause, MayEnter, UserCause, NobodyCause, LeftCause, EndedCause, ResponseRefused, TokensRefused, InfoRefused, LogoutRefused, RefusedCause}

-- ---- replies with equal parts are equal

same_ask : {x y : Text} {w v : Word} → x ≡ y → w ≡ v → Ask x w ≡ Ask y v
same_ask p q = cc

same_exchange : {w v : Word} {x y : Message} → w ≡ v → x ≡ y → Exchange w x ≡ Exchange v y
same_exchange p q = cc

same_fetch : {w v : Word} {x y : Message} → w ≡ v → x ≡ y → Fetch w x ≡ Fetch v y
same_fetch p q = cc

same_entered : {w v : Word} {x y : Text} → w ≡ v → x ≡ y → Entered w x ≡ Entered v y
same_entered p q = cc

-- a refusal that is neither Full nor EndedSid
abbrev pub is_plain : RpNo → Bool
is_plain (no.Full table) = false
is_plain (no.EndedSid place) = false
is_plain other = true

module _ (s : PartySetup) (past : RpPast) (e : Entry RpAsk) where
  -- UserInfo is not asked for
  enters : (endpoint access : Option Text) (w : Word) (sub : Text) → NotFetched endpoint access → fetch_or_enter e endpoint access w sub ≡ entered e sub
  enters None access w sub none = refl
  enters (Some endpoint) None w sub none = refl
  enters (Some endpoint) (Some access) w sub (inl none) = cc
  enters (Some endpoint) (Some access) w sub (inr none) = cc

  -- ---- authorization responses

  module _ (heard : Heard) (id : Option (Result IdClaims IdNo)) (browser : Option Word) where
    abbrev reply_to : RpReply
    reply_to = response_to s past e heard id browser heard.state

    abbrev wanted_id : Option (Result IdClaims IdNo)
    wanted_id = if_wanted (party_of s).types.id_token id

    -- the response of a live login
    state_by : (login : LoginRow) (state : Option Word) → live_login past e.at state ≡ Some login → response_to s past e heard id browser state ≡ response_of s e heard id browser (Some login)
    state_by login None live = cc
    state_by login (Some state) live = let R : Option LoginRow → RpReply = λ o. response_of s e heard id browser o in ap R live

    own_login : (login : LoginRow) → OwnLogin past e heard browser login → reply_to ≡ response_error s e login heard id heard.error
    own_login login own =
        let B : Bool → RpReply = λ b. cond b (response_error s e login heard id heard.error) (Refused no.WrongBrowser) in
        state_by login heard.state own.live ∙ ap B own.same_browser

    parts_of : (login : LoginRow) → OwnLogin past e heard browser login → heard.error ≡ None → reply_to ≡ response_parts s e login heard id (part_missing (party_of s).types heard)
    parts_of login own no_error = let E : Option AuthError → RpReply = λ o. response_error s e login heard id o in own_login login own ∙ ap E no_error

    whole_response : (login : LoginRow) → WholeResponse s past e heard browser login → reply_to ≡ front_read s e login heard wanted_id
    whole_response login response =
        let P : Option Part → RpReply = λ o. response_parts s e login heard id o in parts_of login response.own response.no_error ∙ ap P response.whole

    good_claims : (login : LoginRow) (claims : IdClaims) → WholeResponse s past e heard browser login → GoodClaims (front_rules s login heard) e.at wanted_id claims → front_code s heard ≡ None
        → reply_to ≡ fetch_or_enter e (info_endpoint s) (front_access s heard) (fresh_word e.fresh 0) claims.sub
    good_claims login claims response good no_code =
        let F : Option (Result IdClaims IdNo) → RpReply = λ o. front_read s e login heard o in
        let J : Result (Unit {0}) IdNo → RpReply = λ j. front_judged s e heard claims j in
        let C : Option Text → RpReply = λ o. exchange_or_enter s e heard o (Some claims) in
        whole_response login response ∙ (ap F good.read ∙ (ap J good.judged ∙ ap C no_code))

    code_exchanged : (login : LoginRow) (code : Text) (found : Option (Result IdClaims IdNo)) → IfGood (front_rules s login heard) e.at found → front_code s heard ≡ Some code
        → front_read s e login heard found ≡ exchange s e code
    code_exchanged login code None good code_is = let C : Option Text → RpReply = λ o. exchange_or_enter s e heard o None in ap C code_is
    code_exchanged login code (Some (Err why)) good code_is = absurd good
    code_exchanged login code (Some (Ok claims)) good code_is =
        let J : Result (Unit {0}) IdNo → RpReply = λ j. front_judged s e heard claims j in
        let C : Option Text → RpReply = λ o. exchange_or_enter s e heard o (Some claims) in
        ap J good.judged ∙ ap C code_is

    front_refused : (login : LoginRow) (why : IdNo) (found : Option (Result IdClaims IdNo)) → IdRefused (front_rules s login heard) e.at found why → front_read s e login heard found ≡ Refused (no.Id why)
    front_refused login why None bad = absurd bad
    front_refused login why (Some (Err read)) bad = let R : IdNo → RpReply = λ x. Refused (no.Id x) in ap R bad
    front_refused login why (Some (Ok claims)) bad = let J : Result (Unit {0}) IdNo → RpReply = λ j. front_judged s e heard claims j in ap J bad.judged

    response_refused : (why : RpNo) → is_plain why ≡ true → ResponseRefused s past e heard id browser why → reply_to ≡ Refused why
    response_refused no.NoState own cause = let R : Option Word → RpReply = λ o. response_to s past e heard id browser o in ap R cause
    response_refused no.StaleLogin own cause =
        let R : Option Word → RpReply = λ o. response_to s past e heard id browser o in
        let L : Option LoginRow → RpReply = λ o. response_of s e heard id browser o in
        ap R cause.given ∙ ap L cause.stale
    response_refused no.WrongBrowser own cause =
        let B : Bool → RpReply = λ b. cond b (response_error s e cause.login heard id heard.error) (Refused no.WrongBrowser) in
        state_by cause.login heard.state cause.live ∙ ap B cause.other
    response_refused (no.Provider code) own cause = let E : Option AuthError → RpReply = λ o. response_error s e cause.login heard id o in own_login cause.login cause.own ∙ ap E cause.error
    response_refused (no.Missing missing) own (inl cause) =
        let P : Option Part → RpReply = λ o. response_parts s e cause.login heard id o in parts_of cause.login cause.own cause.no_error ∙ ap P cause.lacks
    response_refused (no.Missing missing) own (inr cause) =
        let F : Option (Result IdClaims IdNo) → RpReply = λ o. front_read s e cause.login heard o in
        let C : Option Text → RpReply = λ o. exchange_or_enter s e heard o None in
        let M : Part → RpReply = λ x. Refused (no.Missing x) in
        whole_response cause.login cause.response ∙ (ap F cause.no_id ∙ (ap C cause.no_code ∙ ap M (sym cause.part_is)))
    response_refused (no.Id why) own cause = whole_response cause.login cause.response ∙ front_refused cause.login why wanted_id cause.refused
    response_refused (no.EndedSid place) own cause = cc
    response_refused (no.Full table) own cause = cc
    response_refused other own cause = absurd cause

  -- ---- token responses

  module _ (w : Word) (came : Tokens) (id : Option (Result IdClaims IdNo)) where
    abbrev tokens_to : RpReply
    tokens_to = tokens s e (live_pending (party_of s).types past e.at w stage.Tokens) (Ok came) id

    back_answered : (pending : PendingRow) → live_pending (party_of s).types past e.at w stage.Tokens ≡ Some pending → tokens_to ≡ back_read s e pending came id
    back_answered pending live = let L : Option PendingRow → RpReply = λ o. tokens s e o (Ok came) id in ap L live

    back_good : (pending : PendingRow) (claims : IdClaims) (other : Bool) → live_pending (party_of s).types past e.at w stage.Tokens ≡ Some pending → GoodClaims (back_rules s pending came) e.at id claims
        → is_other claims.sub pending.sub ≡ other → tokens_to ≡ cond other (Refused no.SubjectDiffers) (back_accepted s e pending came claims)
    back_good pending claims other live good is =
        let R : Option (Result IdClaims IdNo) → RpReply = λ o. back_read s e pending came o in
        let J : Result (Unit {0}) IdNo → RpReply = λ j. back_judged s e pending came claims j in
        let B : Bool → RpReply = λ b. cond b (Refused no.SubjectDiffers) (back_accepted s e pending came claims) in
        back_answered pending live ∙ (ap R good.read ∙ (ap J good.judged ∙ ap B is))

    back_refused : (pending : PendingRow) (why : IdNo) (found : Option (Result IdClaims IdNo)) → IdRefused (back_rules s pending came) e.at found why → back_read s e pending came found ≡ Refused (no.Id why)
    back_refused pending why None bad = absurd bad
    back_refused pending why (Some (Err read)) bad = let R : IdNo → RpReply = λ x. Refused (no.Id x) in ap R bad
    back_refused pending why (Some (Ok claims)) bad = let J : Result (Unit {0}) IdNo → RpReply = λ j. back_judged s e pending came claims j in ap J bad.judged

  tokens_refused : (w : Word) (came : Result Tokens TokensNo) (id : Option (Result IdClaims IdNo)) (why : RpNo) → is_plain why ≡ true → TokensRefused s past e w came id why
      → tokens s e (live_pending (party_of s).types past e.at w stage.Tokens) came id ≡ Refused why
  tokens_refused w came id no.StalePending own cause = let L : Option PendingRow → RpReply = λ o. tokens s e o came id in ap L cause
  tokens_refused w (Err came) id (no.Tokens why) own cause =
      let L : Option PendingRow → RpReply = λ o. tokens s e o (Err came) id in
      let T : TokensNo → RpReply = λ x. Refused (no.Tokens x) in
      ap L cause.live ∙ ap T cause.failed
  tokens_refused w (Ok came) id (no.Id why) own cause = back_answered w came id cause.exchange cause.live ∙ back_refused w came id cause.exchange why id cause.refused
  tokens_refused w (Ok came) id no.SubjectDiffers own cause = back_good w came id cause.exchange cause.claims true cause.live cause.accepted cause.other
  tokens_refused w came id (no.EndedSid place) own cause = cc
  tokens_refused w came id (no.Full table) own cause = cc
  tokens_refused w came id other own cause = absurd cause

  -- ---- UserInfo responses

  info_answered : (w : Word) (sub : Text) (pending : PendingRow) (other : Bool) → live_pending (party_of s).types past e.at w stage.Info ≡ Some pending → is_other sub pending.sub ≡ other
      → info e (live_pending (party_of s).types past e.at w stage.Info) (Ok sub) ≡ cond other (Refused no.SubjectDiffers) (entered e sub)
  info_answered w sub pending other live is =
      let L : Option PendingRow → RpReply = λ o. info e o (Ok sub) in
      let B : Bool → RpReply = λ b. cond b (Refused no.SubjectDiffers) (entered e sub) in
      ap L live ∙ ap B is

  info_refused : (w : Word) (came : Result Text InfoNo) (why : RpNo) → is_plain why ≡ true → InfoRefused s past e w came why
      → info e (live_pending (party_of s).types past e.at w stage.Info) came ≡ Refused why
  info_refused w came no.StalePending own cause = let L : Option PendingRow → RpReply = λ o. info e o came in ap L cause
  info_refused w (Err came) (no.Info why) own cause =
      let L : Option PendingRow → RpReply = λ o. info e o (Err came) in
      let I : InfoNo → RpReply = λ x. Refused (no.Info x) in
      ap L cause.live ∙ ap I cause.failed
  info_refused w (Ok came) no.SubjectDiffers own cause = info_answered w came cause.exchange true cause.live cause.other
  info_refused w came (no.EndedSid place) own cause = cc
  info_refused w came (no.Full table) own cause = cc
  info_refused w came other own cause = absurd cause

  -- ---- logout requests

  logout_refused : (claims : Result LogoutClaims LogoutNo) (why : RpNo) → is_plain why ≡ true → LogoutRefused s past e claims why → logout s past e claims ≡ Refused why
  logout_refused (Err read) (no.Logout why) own cause = let R : LogoutNo → RpReply = λ x. Refused (no.Logout x) in ap R cause
  logout_refused (Ok claims) (no.Logout why) own cause = let G : Result (Unit {0}) LogoutNo → RpReply = λ j. logout_good s past e claims j in ap G cause.judged
  logout_refused (Ok claims) (no.Seen place) own cause =
      let G : Result (Unit {0}) LogoutNo → RpReply = λ j. logout_good s past e claims j in
      let N : Option SeenRow → RpReply = λ o. logout_new s past e claims o in
      let P : ℕ → RpReply = λ n. Refused (no.Seen n) in
      ap G cause.judged ∙ (ap N cause.live ∙ ap P cause.place_is)
  logout_refused claims (no.Full table) own cause = cc
  logout_refused claims other own cause = absurd cause

  -- ---- each reply

  pub ask_replied : (asked : RpAsk) (to : Text) (browser : Word) → AskCause s past e asked to browser → rp_reply s past e asked ≡ Ask to browser
  ask_replied (ask.Begin presented) to browser cause = same_ask cause.location cause.browser_is
  ask_replied other to browser cause = absurd cause

  pub fragment_replied : (asked : RpAsk) → FragmentCause asked → rp_reply s past e asked ≡ Fragment
  fragment_replied ask.Fragment cause = refl
  fragment_replied other cause = absurd cause

  pub exchange_replied : (asked : RpAsk) (w : Word) (message : Message) → ExchangeCause s past e asked w message → rp_reply s past e asked ≡ Exchange w message
  exchange_replied (ask.Callback (Ok heard) id browser) w message cause =
      whole_response heard id browser cause.login cause.response ∙
      (code_exchanged heard id browser cause.login cause.code (if_wanted (party_of s).types.id_token id) cause.accepted cause.code_is ∙ same_exchange cause.drawn cause.message_is)
  exchange_replied other w message cause = absurd cause

  pub fetch_replied : (asked : RpAsk) (w : Word) (message : Message) → FetchCause s past e asked w message → rp_reply s past e asked ≡ Fetch w message
  fetch_replied (ask.Callback (Ok heard) id browser) w message cause =
      let E : Option Text → RpReply = λ o. fetch_or_enter e o (front_access s heard) (fresh_word e.fresh 0) cause.claims.sub in
      let A : Option Text → RpReply = λ o. fetch_or_enter e (Some cause.endpoint) o (fresh_word e.fresh 0) cause.claims.sub in
      good_claims heard id browser cause.login cause.claims cause.response cause.accepted cause.no_code ∙ (ap E cause.endpoint_is ∙ (ap A cause.access_is ∙ same_fetch cause.drawn cause.message_is))
  fetch_replied (ask.Tokens pending (Ok came) id) w message cause =
      let E : Option Text → RpReply = λ o. fetch_or_enter e o (Some came.access) cause.exchange.word cause.claims.sub in
      back_good pending came id cause.exchange cause.claims false cause.live cause.accepted cause.same_subject ∙ (ap E cause.endpoint_is ∙ same_fetch cause.word_kept cause.message_is)
  fetch_replied other w message cause = absurd cause

  pub entered_replied : (asked : RpAsk) (w : Word) (sub : Text) → MayEnter s past e asked w sub → rp_reply s past e asked ≡ Entered w sub
  entered_replied (ask.Callback (Ok heard) id browser) w sub cause =
      good_claims heard id browser cause.login cause.claims cause.response cause.accepted cause.no_code ∙
      (enters (info_endpoint s) (front_access s heard) (fresh_word e.fresh 0) cause.claims.sub cause.not_fetched ∙ same_entered cause.drawn cause.sub_is)
  entered_replied (ask.Tokens pending (Ok came) id) w sub cause =
      let E : Option Text → RpReply = λ o. fetch_or_enter e o (Some came.access) cause.exchange.word cause.claims.sub in
      back_good pending came id cause.exchange cause.claims false cause.live cause.accepted cause.same_subject ∙ (ap E cause.not_fetched ∙ same_entered cause.drawn cause.sub_is)
  entered_replied (ask.Info pending (Ok came)) w sub cause = info_answered pending came cause.exchange false cause.live cause.same_subject ∙ same_entered cause.drawn cause.sub_is
  entered_replied other w sub cause = absurd cause

  pub user_replied : (asked : RpAsk) (sub : Text) → UserCause s past e asked sub → rp_reply s past e asked ≡ User sub
  user_replied (ask.Visit session) sub cause =
      let V : Option SessionRow → RpReply = λ o. visited o in
      let U : Text → RpReply = λ t. User t in
      ap V cause.live ∙ ap U cause.sub_is
  user_replied other sub cause = absurd cause

  pub nobody_replied : (asked : RpAsk) → NobodyCause s past e asked → rp_reply s past e asked ≡ Nobody
  nobody_replied (ask.Visit session) cause = let V : Option SessionRow → RpReply = λ o. visited o in ap V cause
  nobody_replied other cause = absurd cause

  pub left_replied : (asked : RpAsk) (ended : Bool) → LeftCause s past e asked ended → rp_reply s past e asked ≡ Left ended
  left_replied (ask.Leave session) ended cause = let L : Bool → RpReply = λ b. Left b in ap L cause
  left_replied other ended cause = absurd cause

  pub ended_replied : (asked : RpAsk) (count : ℕ) → EndedCause s past e asked count → rp_reply s past e asked ≡ Ended count
  ended_replied (ask.Logout (Ok claims)) count cause =
      let G : Result (Unit {0}) LogoutNo → RpReply = λ j. logout_good s past e claims j in
      let N : Option SeenRow → RpReply = λ o. logout_new s past e claims o in
      let E : ℕ → RpReply = λ n. Ended n in
      ap G cause.judged ∙ (ap N cause.unseen ∙ ap E cause.count_is)
  ended_replied other count cause = absurd cause

  -- a refusal other than Full and EndedSid
  pub refusal_replied : (asked : RpAsk) (why : RpNo) → is_plain why ≡ true → RefusedCause s past e asked why → rp_reply s past e asked ≡ Refused why
  refusal_replied (ask.Begin presented) (no.Full table) own cause = cc
  refusal_replied (ask.Callback (Err (answer_no.Twice name)) id browser) why own cause = let R : RpNo → RpReply = λ x. Refused x in ap R (sym cause)
  refusal_replied (ask.Callback (Ok heard) id browser) why own cause = response_refused heard id browser why own cause
  refusal_replied (ask.Tokens w came id) why own cause = tokens_refused w came id why own cause
  refusal_replied (ask.Info w came) why own cause = info_refused w came why own cause
  refusal_replied (ask.Logout claims) why own cause = logout_refused claims why own cause
  refusal_replied other why own cause = absurd cause
