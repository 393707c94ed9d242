-- What a step updates: its calls may be made, and after them the tables are those after the pair.
use Rattle.std.proofs.Common.{◌≡◌, ◌<◌, ◌≤◌, ℕ, Bool, true, false, ◌&&◌, ◌||◌, List, length, filter_map, ◌∷◌, Option, Some, None, option_and_then, Ok, IfSome, refl, sym, ◌∙◌, ap, subst, arith}
use Rattle.std.proofs.lemmas.Bool.{and_parts}
use Rattle.sso_base.specs.Words.{Word, word_of_text}
use Rattle.sso_base.specs.Rows.{without, put, row_of, lives, live_rows}
use Rattle.client_registry.specs.Configuration.{Configuration}
use Rattle.client_registry.specs.Numbers.{is_client, is_user}
use Rattle.auth_request.specs.declared.wish.Wish.{Wish}
use Rattle.auth_request.specs.declared.wish.Verdict.TheVariants as verdict
use Rattle.oidc_words.specs.declared.scopes.Scopes.{Scopes}
use Rattle.oidc_words.specs.Scopes.{joined}
use Rattle.code_grant.specs.declared.rows.TurnRow.{TurnRow}
use Rattle.code_grant.specs.declared.rows.SessionRow.{SessionRow}
use Rattle.code_grant.specs.declared.rows.CodeRow.{CodeRow}
use Rattle.code_grant.specs.declared.rows.TokenRow.{TokenRow}
use Rattle.code_grant.specs.declared.table.Reserved.{Reserved}
use Rattle.code_grant.specs.Rows.{turn_name, turn_begun, session_name, session_begun, code_name, code_begun, access_name, access_begun}
use Rattle.oidc_words.specs.Lives.{turn_life, session_life, code_life, access_life}
use Rattle.held_rows.specs.Held.{most_rows, is_full, MayAddRow}
use Rattle.code_grant.specs.Consents.{granted_to}
use Rattle.code_grant.specs.Tables.{Tables, purged}
use Rattle.held_rows.proofs.HeldLaws.{filter_short}
use Rattle.op_exchange.specs.declared.ask.OpAsk.{OpAsk}
use Rattle.op_exchange.specs.declared.ask.OpAsk.TheVariants as ask
use Rattle.op_exchange.specs.declared.reply.OpReply.{OpReply}
use Rattle.op_exchange.specs.declared.reply.OpReply.TheVariants as reply
use Rattle.auth_request.specs.Values.{is_short_nonce}
use Rattle.op_exchange.specs.Asks.{is_prepared_wish}
use Rattle.op_exchange.specs.Replied.{code_in, access_in}
use Rattle.op_answer.specs.Past.{OpPair, OpPast}
use Rattle.op_answer.specs.Turns.{turns, turn_started, turn_made, turn_kept, live_turns}
use Rattle.op_answer.specs.Sessions.{sessions, session_made, session_kept, live_sessions, session_of, session_used, client_answered, wish_by}
use Rattle.op_answer.specs.Codes.{codes_issued, code_issued, code_made_by, code_made, code_kept, code_of, code_named, held_code}
use Rattle.op_answer.specs.AccessTokens.{accesses, access_issued, access_answered, access_redeemed, access_given, access_made, access_kept}
use Rattle.op_answer.specs.Consents.{granted_by, turn_agreed}
use Rattle.op_answer.specs.Room.{lacks_turn, lacks_session, lacks_code, lacks_access}
use Rattle.op_answer.specs.Causes.{is_own}
use Rattle.op_answer.proofs.KeptNames.{some_same, turn_names, code_names, access_names}
use Rattle.op_answer.proofs.Standing.{own_replies_stand}
use Rattle.op_tables.specs.Agreeing.{is_own_code}
use Rattle.op_tables.specs.Keeping.{FindsCode, FindsAgreement, TellsRedemption, MayPut, IsUpdate}
use Rattle.op_tables.specs.Updating.{MayUpdate}
use Rattle.op_tables.proofs.AnswerTells.{IsOfClient, answer_tells}
use Rattle.op_answer.proofs.KeptRows.{turn_begun_kept, session_begun_kept, code_begun_kept, access_begun_kept}
use Rattle.op_tables.proofs.Carried.{turn_made_begun, session_made_begun, code_made_begun, access_made_begun}
use Rattle.op_tables.proofs.Finding.{finds_code, finds_agreement}
use Rattle.held_rows.proofs.Kept.{all_live}
use Rattle.held_rows.proofs.Found.{same_later, found_good}
use Rattle.held_rows.proofs.Added.{kept_latest}
use Rattle.op_tables.proofs.TakenRows.{may_add_reserved, if_both, if_three, if_has}
use Rattle.op_tables.proofs.TakenSessions.{few_beside}

-- ---- what was lacking for a row that is made

pub first_false : (a b c d : Bool) → (a || b || c || d) ≡ false → a ≡ false
first_false true b c d h = cc
first_false false b c d h = refl

pub third_false : (a b c d : Bool) → (a || b || c || d) ≡ false → c ≡ false
third_false true b c d h = cc
third_false false true c d h = cc
third_false false false true d h = cc
third_false false false false d h = refl

fourth_false : (a b c d : Bool) → (a || b || c || d) ≡ false → d ≡ false
fourth_false true b c d h = cc
fourth_false false true c d h = cc
fourth_false false false true d h = cc
fourth_false false false false true h = cc
fourth_false false false false false h = refl

module _ (past : OpPast) (at : ℕ) where
  pub turn_lacks : (asked : OpAsk) (told : OpReply) (row : TurnRow) → turn_started at asked told ≡ Some row
      → (is_own told ≡ true) × (lacks_turn past at asked told ≡ is_full most_rows turn_name row.word (live_turns past at))
  turn_lacks (ask.Authorize (verdict.Grant wish) b session) (reply.LoginPage w browser again) row h =
      let made : TurnRow = record { word = w; browser = browser; wish = wish; session = None; in_turn = false; begun = at } in
      let F : TurnRow → Bool = λ r. is_full most_rows turn_name r.word (live_turns past at) in
      (refl, ap F (some_same made row h))
  turn_lacks (ask.Authorize (verdict.Grant wish) b session) (reply.ConsentPage w browser given client scopes) row h =
      let made : TurnRow = record { word = w; browser = browser; wish = wish; session = session; in_turn = false; begun = at } in
      let F : TurnRow → Bool = λ r. is_full most_rows turn_name r.word (live_turns past at) in
      (refl, ap F (some_same made row h))
  turn_lacks asked told row h = cc

-- a reply with a code or an access token is the provider's own
pub own_code : (told : OpReply) (w : Word) → code_in told ≡ Some w → is_own told ≡ true
own_code (reply.Answered answer given) w h = refl
own_code told w h = cc

own_access : (told : OpReply) (w : Word) → access_in told ≡ Some w → is_own told ≡ true
own_access (reply.Answered answer given) w h = refl
own_access (reply.Tokens access id) w h = refl
own_access told w h = cc

pub code_by_word : (by at : ℕ) (w : Option Word) (wish : Option Wish) (session : Option SessionRow) (row : CodeRow) → code_made_by by at w wish session ≡ Some row → w ≡ Some row.word
code_by_word by at (Some w) (Some wish) (Some session) row h =
    let N : CodeRow → Option Word = λ r. Some r.word in
    ap N (some_same (code_issued by at w wish session) row h)
code_by_word by at (Some w) (Some wish) None row h = cc
code_by_word by at (Some w) None session row h = cc
code_by_word by at None wish session row h = cc

answered_word : (by at : ℕ) (w : Option Word) (wish : Option Wish) (session : Option SessionRow) (row : TokenRow) → access_answered by at w wish session ≡ Some row → w ≡ Some row.word
answered_word by at (Some w) (Some wish) (Some session) row h =
    let N : TokenRow → Option Word = λ r. Some r.word in
    ap N (some_same (access_issued by at w None wish session.user) row h)
answered_word by at (Some w) (Some wish) None row h = cc
answered_word by at (Some w) None session row h = cc
answered_word by at None wish session row h = cc

redeemed_word : (by at : ℕ) (w : Word) (code : Option CodeRow) (row : TokenRow) → access_redeemed by at w code ≡ Some row → Some w ≡ Some row.word
redeemed_word by at w None row h = cc
redeemed_word by at w (Some code) row h =
    let N : TokenRow → Option Word = λ r. Some r.word in
    ap N (some_same (access_issued by at w (Some code.word) code.wish code.user) row h)

given_word : (past : OpPast) (p : OpPair) (asked : OpAsk) (told : OpReply) (row : TokenRow) → access_given past p asked told ≡ Some row → access_in told ≡ Some row.word
given_word past p (ask.Token (Ok grant)) (reply.Tokens w id) row h = redeemed_word (length past) p.entry.at w (code_of past (word_of_text grant.code)) row h
given_word past p asked (reply.Answered answer given) row h =
    answered_word (length past) p.entry.at answer.access (wish_by past asked) (session_of (p ∷ past) (session_used past asked (reply.Answered answer given))) row h
given_word past p asked told row h = cc

-- ---- what the calls before the rows are put leave

-- of the tables t that were purged, with what b says is granted
pub record IsKept (t : Tables) (past : OpPast) (p : OpPair) (b v : Tables) : Type 0 where
  pub turns : v.turns ≡ filter_map (turn_kept past p) (live_rows turn_life turn_begun p.entry.at t.turns)
  pub sessions : v.sessions ≡ filter_map (session_kept past p) (live_rows session_life session_begun p.entry.at t.sessions)
  pub codes : v.codes ≡ filter_map (code_kept past p) (live_rows code_life code_begun p.entry.at t.codes)
  pub tokens : v.tokens ≡ filter_map (access_kept past p) (live_rows access_life access_begun p.entry.at t.tokens)
  pub reserved : v.reserved ≡ t.reserved
  pub consents : v.consents ≡ b.consents

abbrev with_turns : OpPast → OpPair → Tables → Tables
with_turns past p t = record t { turns = filter_map (turn_kept past p) t.turns }

abbrev with_sessions : OpPast → OpPair → Tables → Tables
with_sessions past p t = record t { sessions = filter_map (session_kept past p) t.sessions }

abbrev with_codes : OpPast → OpPair → Tables → Tables
with_codes past p t = record t { codes = filter_map (code_kept past p) t.codes; tokens = filter_map (access_kept past p) t.tokens }

abbrev all_reserved : Reserved
all_reserved = record { turns = true; sessions = true; codes = true; tokens = true }

-- what the pair grants is joined to what was granted
abbrev Grants : OpPast → OpPair → Tables → Tables → Type 0
Grants past p x y = (user client : ℕ) → user < 512 → client < 128
    → granted_to user client y.consents ≡ joined (granted_to user client x.consents) (granted_by past user client (turn_agreed past p.entry.ask p.reply))

-- a purge before and the other calls after it grant nothing
granted_through : (past : OpPast) (p : OpPair) (t a b v u : Tables) → a ≡ purged p.entry.at t → v.consents ≡ b.consents → u.consents ≡ v.consents → Grants past p a b → Grants past p t u
granted_through past p t a b v u purge kept same granted user client low few =
    let G : List Scopes → Scopes = λ xs. granted_to user client xs in
    let J : Tables → Scopes = λ x. joined (granted_to user client x.consents) (granted_by past user client (turn_agreed past p.entry.ask p.reply)) in
    ap G (same ∙ kept) ∙ granted user client low few ∙ ap J purge

-- one call after the other: a purge, a grant, then each table
module _ (past : OpPast) (p : OpPair) (t a b d e : Tables) (purge : a ≡ purged p.entry.at t) (grants : b ≡ record a { consents = b.consents }) where
  codes_before : d ≡ with_turns past p b → e ≡ with_sessions past p d → live_rows code_life code_begun p.entry.at t.codes ≡ e.codes
  codes_before one two =
      let C : Tables → List CodeRow = λ x. x.codes in
      sym (ap C two ∙ ap C one ∙ ap C grants ∙ ap C purge)

  calls_keep : (v : Tables) → d ≡ with_turns past p b → e ≡ with_sessions past p d → v ≡ with_codes past p e → IsKept t past p b v
  calls_keep v one two three =
      let T : Tables → List TurnRow = λ x. x.turns in
      let S : Tables → List SessionRow = λ x. x.sessions in
      let C : Tables → List CodeRow = λ x. x.codes in
      let A : Tables → List TokenRow = λ x. x.tokens in
      let R : Tables → Reserved = λ x. x.reserved in
      let G : Tables → List Scopes = λ x. x.consents in
      let KT : Tables → List TurnRow = λ x. filter_map (turn_kept past p) x.turns in
      let KS : Tables → List SessionRow = λ x. filter_map (session_kept past p) x.sessions in
      let KC : Tables → List CodeRow = λ x. filter_map (code_kept past p) x.codes in
      let KA : Tables → List TokenRow = λ x. filter_map (access_kept past p) x.tokens in
      record {
        turns = ap T three ∙ ap T two ∙ ap T one ∙ ap KT grants ∙ ap KT purge;
        sessions = ap S three ∙ ap S two ∙ ap KS one ∙ ap KS grants ∙ ap KS purge;
        codes = ap C three ∙ ap KC two ∙ ap KC one ∙ ap KC grants ∙ ap KC purge;
        tokens = ap A three ∙ ap KA two ∙ ap KA one ∙ ap KA grants ∙ ap KA purge;
        reserved = ap R three ∙ ap R two ∙ ap R one ∙ ap R grants ∙ ap R purge;
        consents = ap G three ∙ ap G two ∙ ap G one;
      }

-- ---- what is taken up

prepared_client : (c : Configuration) (wish : Wish) → is_prepared_wish c wish ≡ true → is_client c wish.client ≡ true
prepared_client c wish h =
    let both = and_parts (is_client c wish.client && is_short_nonce wish.nonce) wish.scopes.openid h in
    (and_parts (is_client c wish.client) (is_short_nonce wish.nonce) both.0).0

module _ {t : Tables} {p : OpPair} {turn : Option TurnRow} {session : Option SessionRow} {code : Option CodeRow} {token : Option TokenRow} {used : Option Word} {client : Option ℕ} {c : Configuration} {past : OpPast} {before : ℕ}
    (up : MayUpdate t p turn session code token used client c past before) where
  abbrev at : ℕ
  at = p.entry.at

  room_for : is_own p.reply ≡ true → (lacks_turn past at p.entry.ask p.reply || lacks_session past at p.entry.ask p.reply || lacks_code past at (code_in p.reply) || lacks_access past at (access_in p.reply)) ≡ false
  room_for own = (own_replies_stand c past p.entry p.reply own (sym up.reply_is)).room

  -- ---- what the calls ask

  pub agreement_is_found : {a : Tables} → a ≡ purged at t → FindsAgreement a past p.entry.ask p.reply
  agreement_is_found {a} purge =
      let A : Tables → Type 0 = λ x. FindsAgreement x past p.entry.ask p.reply in
      let R : OpReply → Type 0 = λ r. FindsAgreement (purged at t) past p.entry.ask r in
      subst A (sym purge) (subst R (sym up.reply_is) (finds_agreement c t past p.entry before up.order up.agrees))

  code_is_found : (codes : List CodeRow) → live_rows code_life code_begun at t.codes ≡ codes → FindsCode codes past at p.entry.ask
  code_is_found codes is =
      let F : List CodeRow → Type 0 = λ xs. FindsCode xs past at p.entry.ask in
      subst F is (finds_code t past before at up.order up.agrees p.entry.ask)

  of_client : (named : Option Word) (row : CodeRow) → option_and_then (λ (w : Word). row_of code_name w (live_rows code_life code_begun at t.codes)) named ≡ Some row → is_client c row.wish.client ≡ true
  of_client None row h = cc
  of_client (Some w) row h =
      let own : is_own_code c row ≡ true = found_good code_name (is_own_code c) w (live_rows code_life code_begun at t.codes) row (all_live (is_own_code c) code_life code_begun at t.codes up.own.codes) h in
      prepared_client c row.wish (and_parts (is_user c row.user) (is_prepared_wish c row.wish) own).1

  redemption_is_told : TellsRedemption past at p.entry.ask p.reply
  redemption_is_told =
      let R : OpReply → Type 0 = λ r. TellsRedemption past at p.entry.ask r in
      let known : IsOfClient c (held_code past at (code_named p.entry.ask)) = λ row h. of_client (code_named p.entry.ask) row (finds_code t past before at up.order up.agrees p.entry.ask ∙ h) in
      subst R (sym up.reply_is) (answer_tells c past p.entry known)

  -- what they leave, as their contracts say
  pub calls_leave : {a b d e v : Tables} → a ≡ purged at t → b ≡ record a { consents = b.consents } → ((q : OpPast) → d ≡ with_turns q p b)
      → ((q : OpPast) → ((n : ℕ) → client ≡ Some n → session_used q p.entry.ask p.reply ≡ used) → client_answered q p ≡ client → e ≡ with_sessions q p d)
      → ((q : OpPast) → FindsCode e.codes q at p.entry.ask → TellsRedemption q at p.entry.ask p.reply → v ≡ with_codes q p e) → IsKept t past p b v
  calls_leave {a} {b} {d} {e} {v} purge grants one two three =
      let second : e ≡ with_sessions past p d = two past up.used_is up.client_is in
      let finds = code_is_found e.codes (codes_before past p t a b d e purge grants (one past) second) in
      calls_keep past p t a b d e purge grants v (one past) second (three past finds redemption_is_told)

  -- ---- the rows may be put

  module _ {b v : Tables} (kept : IsKept t past p b v) (reserved : t.reserved ≡ all_reserved) where
    has_room : v.reserved ≡ all_reserved
    has_room = kept.reserved ∙ reserved

    turn_fits : (row : TurnRow) → turn ≡ Some row → MayAddRow turn_name turn_begun v.reserved.turns v.turns row
    turn_fits row is =
        let made : turn_made (turns past) past p ≡ Some row = sym up.turn_is ∙ is in
        let told = turn_lacks past at p.entry.ask p.reply row made in
        let room = first_false (lacks_turn past at p.entry.ask p.reply) (lacks_session past at p.entry.ask p.reply) (lacks_code past at (code_in p.reply)) (lacks_access past at (access_in p.reply)) (room_for told.0) in
        let L : List TurnRow → Type 0 = λ xs. MayAddRow turn_name turn_begun v.reserved.turns xs row in
        let B : Reserved → Type 0 = λ r. MayAddRow turn_name turn_begun r.turns (filter_map (turn_kept past p) (live_rows turn_life turn_begun at t.turns)) row in
        subst L (sym kept.turns) (subst B (sym has_room)
        (may_add_reserved turn_name turn_life turn_begun (turn_kept past p) before at up.order t.turns (turn_names past p) (turn_begun_kept past p) up.begun.turns (turns past) up.agrees.turns row
        (turn_made_begun (turns past) past p row made) (sym told.1 ∙ room)))

    pub turn_may : IfSome turn (λ r. r.wish.client < 128) → IfSome turn (λ r. MayAddRow turn_name turn_begun v.reserved.turns v.turns r × (r.wish.client < 128))
    turn_may low = if_both (λ (r : TurnRow). MayAddRow turn_name turn_begun v.reserved.turns v.turns r) (λ (r : TurnRow). r.wish.client < 128) turn turn_fits low

    session_fits : length t.sessions ≤ most_rows → (row : SessionRow) → session ≡ Some row → MayPut session_name session_begun v.reserved.sessions v.sessions row
    session_fits most row is =
        let made : session_made (sessions past) past p ≡ Some row = sym up.session_is ∙ is in
        let held : List SessionRow = live_rows session_life session_begun at t.sessions in
        let live : held ≡ live_sessions past at = same_later session_name session_life session_begun before at up.order t.sessions (sessions past) up.agrees.sessions in
        let short : length held ≤ length t.sessions = filter_short (λ (r : SessionRow). lives session_life r.auth_time at) t.sessions in
        let all : length t.sessions ≤ 65536 = most in
        let low : length held ≤ 65536 = omega arith in
        let N : List SessionRow → Type 0 = λ xs. length xs ≤ most_rows in
        let F : List SessionRow → Type 0 = λ xs. length (without session_name row.word (filter_map (session_kept past p) xs)) < most_rows in
        let L : List SessionRow → Type 0 = λ xs. MayPut session_name session_begun v.reserved.sessions xs row in
        let B : Reserved → Type 0 = λ r. MayPut session_name session_begun r.sessions (filter_map (session_kept past p) held) row in
        let there : MayPut session_name session_begun true (filter_map (session_kept past p) held) row = record {
          room = refl;
          few = subst F (sym live) (few_beside c past p up.reply_is (subst N live low) row made);
          latest = kept_latest most_rows session_name session_life session_begun (session_kept past p) before at up.order t.sessions (session_begun_kept past p) up.begun.sessions row (session_made_begun (sessions past) past p row made);
        } in
        subst L (sym kept.sessions) (subst B (sym has_room) there)

    pub session_may : IfSome session (λ r. length t.sessions ≤ most_rows) → IfSome session (λ r. r.user < 512) → IfSome session (λ r. MayPut session_name session_begun v.reserved.sessions v.sessions r × (r.user < 512))
    session_may most low =
        let few : (r : SessionRow) → session ≡ Some r → length t.sessions ≤ most_rows = λ r is. if_has (λ (x : SessionRow). length t.sessions ≤ most_rows) session r most is in
        if_both (λ (r : SessionRow). MayPut session_name session_begun v.reserved.sessions v.sessions r) (λ (r : SessionRow). r.user < 512) session (λ r is. session_fits (few r is) r is) low

    code_fits : (row : CodeRow) → code ≡ Some row → MayAddRow code_name code_begun v.reserved.codes v.codes row
    code_fits row is =
        let made : code_made (codes_issued past) past p ≡ Some row = sym up.code_is ∙ is in
        let word : code_in p.reply ≡ Some row.word = code_by_word (length past) at (code_in p.reply) (wish_by past p.entry.ask) (session_of (p ∷ past) (session_used past p.entry.ask p.reply)) row made in
        let room = third_false (lacks_turn past at p.entry.ask p.reply) (lacks_session past at p.entry.ask p.reply) (lacks_code past at (code_in p.reply)) (lacks_access past at (access_in p.reply)) (room_for (own_code p.reply row.word word)) in
        let F : Option Word → Bool = λ o. lacks_code past at o in
        let L : List CodeRow → Type 0 = λ xs. MayAddRow code_name code_begun v.reserved.codes xs row in
        let B : Reserved → Type 0 = λ r. MayAddRow code_name code_begun r.codes (filter_map (code_kept past p) (live_rows code_life code_begun at t.codes)) row in
        subst L (sym kept.codes) (subst B (sym has_room)
        (may_add_reserved code_name code_life code_begun (code_kept past p) before at up.order t.codes (code_names past p) (code_begun_kept past p) up.begun.codes (codes_issued past) up.agrees.codes row
        (code_made_begun (codes_issued past) past p row made) (sym (ap F word) ∙ room)))

    pub code_may : IfSome code (λ r. (r.user < 512) × (r.wish.client < 128)) → IfSome code (λ r. MayAddRow code_name code_begun v.reserved.codes v.codes r × (r.user < 512) × (r.wish.client < 128))
    code_may low = if_three (λ (r : CodeRow). MayAddRow code_name code_begun v.reserved.codes v.codes r) (λ (r : CodeRow). r.user < 512) (λ (r : CodeRow). r.wish.client < 128) code code_fits low

    token_fits : (row : TokenRow) → token ≡ Some row → MayAddRow access_name access_begun v.reserved.tokens v.tokens row
    token_fits row is =
        let made : access_made (accesses past) past p ≡ Some row = sym up.token_is ∙ is in
        let word : access_in p.reply ≡ Some row.word = given_word past p p.entry.ask p.reply row made in
        let room = fourth_false (lacks_turn past at p.entry.ask p.reply) (lacks_session past at p.entry.ask p.reply) (lacks_code past at (code_in p.reply)) (lacks_access past at (access_in p.reply)) (room_for (own_access p.reply row.word word)) in
        let F : Option Word → Bool = λ o. lacks_access past at o in
        let L : List TokenRow → Type 0 = λ xs. MayAddRow access_name access_begun v.reserved.tokens xs row in
        let B : Reserved → Type 0 = λ r. MayAddRow access_name access_begun r.tokens (filter_map (access_kept past p) (live_rows access_life access_begun at t.tokens)) row in
        subst L (sym kept.tokens) (subst B (sym has_room)
        (may_add_reserved access_name access_life access_begun (access_kept past p) before at up.order t.tokens (access_names past p) (access_begun_kept past p) up.begun.tokens (accesses past) up.agrees.tokens row
        (access_made_begun (accesses past) past p row made) (sym (ap F word) ∙ room)))

    pub token_may : IfSome token (λ r. (r.user < 512) × (r.client < 128)) → IfSome token (λ r. MayAddRow access_name access_begun v.reserved.tokens v.tokens r × (r.user < 512) × (r.client < 128))
    token_may low = if_three (λ (r : TokenRow). MayAddRow access_name access_begun v.reserved.tokens v.tokens r) (λ (r : TokenRow). r.user < 512) (λ (r : TokenRow). r.client < 128) token token_fits low

  -- ---- the tables after the pair

  module _ {a b v u : Tables} (purge : a ≡ purged at t) (kept : IsKept t past p b v) where
    pub follows : u.turns ≡ put turn_name turn v.turns → u.sessions ≡ put session_name session v.sessions → u.codes ≡ put code_name code v.codes → u.tokens ≡ put access_name token v.tokens
        → u.consents ≡ v.consents → Grants past p a b → IsUpdate t u past p
    follows one two three four same granted =
        let T : Option TurnRow → List TurnRow → List TurnRow = λ m xs. put turn_name m xs in
        let S : Option SessionRow → List SessionRow → List SessionRow = λ m xs. put session_name m xs in
        let C : Option CodeRow → List CodeRow → List CodeRow = λ m xs. put code_name m xs in
        let A : Option TokenRow → List TokenRow → List TokenRow = λ m xs. put access_name m xs in
        let MT : Option TurnRow → List TurnRow = λ m. put turn_name m v.turns in
        let MS : Option SessionRow → List SessionRow = λ m. put session_name m v.sessions in
        let MC : Option CodeRow → List CodeRow = λ m. put code_name m v.codes in
        let MA : Option TokenRow → List TokenRow = λ m. put access_name m v.tokens in
        record {
          turns_are = one ∙ ap MT up.turn_is ∙ ap (T (turn_made (turns past) past p)) kept.turns;
          sessions_are = two ∙ ap MS up.session_is ∙ ap (S (session_made (sessions past) past p)) kept.sessions;
          codes_are = three ∙ ap MC up.code_is ∙ ap (C (code_made (codes_issued past) past p)) kept.codes;
          tokens_are = four ∙ ap MA up.token_is ∙ ap (A (access_made (accesses past) past p)) kept.tokens;
          grants_are = granted_through past p t a b v u purge kept.consents same granted;
        }
