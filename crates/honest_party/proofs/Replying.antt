-- What a party replies at the places of a login that goes well.
use Rattle.std.proofs.Common.{◌≡◌, Bool, true, false, cond, Option, Some, None, Result, Ok, refl, ap, ◌∙◌}
use Rattle.sso_base.specs.Words.{Word, Text, is_word}
use Rattle.sso_base.specs.Texts.{is_other}
use Rattle.sso_base.specs.declared.history.Entry.{Entry}
use Rattle.id_token.specs.declared.claims.IdClaims.{IdClaims}
use Rattle.id_token.specs.declared.no.IdNo.{IdNo}
use Rattle.id_token.specs.Judging.{id_judged}
use Rattle.auth_answer.specs.declared.heard.Heard.{Heard}
use Rattle.token_endpoint.specs.declared.reading.Tokens.{Tokens}
use Rattle.rp_login.specs.declared.table.RpTable.{RpTable}
use Rattle.rp_login.specs.declared.rows.LoginRow.{LoginRow}
use Rattle.rp_login.specs.declared.rows.PendingRow.{PendingRow}
use Rattle.rp_exchange.specs.declared.ask.RpAsk.{RpAsk}
use Rattle.rp_exchange.specs.declared.no.RpNo.TheVariants as no
use Rattle.rp_exchange.specs.declared.reply.RpReply.{RpReply}
use Rattle.rp_exchange.specs.declared.reply.RpReply.TheVariants.{Entered, Refused, NotHere}
use Rattle.rp_exchange.specs.Asks.{is_prepared}
use Rattle.rp_answer.specs.Past.{RpPast}
use Rattle.rp_answer.specs.Setup.{PartySetup, party_of}
use Rattle.rp_answer.specs.Asked.{if_wanted}
use Rattle.rp_answer.specs.Logins.{live_login}
use Rattle.rp_answer.specs.Replies.{front_code, front_rules, back_rules, part_missing, info_endpoint, fetch_or_enter, exchange_or_enter, entered, front_judged}
use Rattle.rp_answer.specs.Replies.{front_read, response_parts, response_error, response_of, response_to, back_judged, back_read, back_accepted, tokens, info}
use Rattle.rp_answer.specs.Alive.{dead_for, unless_dead}
use Rattle.rp_answer.specs.Room.{table_lacking, unless_lacking}
use Rattle.rp_login.specs.declared.rows.DeadRow.{DeadRow}
use Rattle.rp_answer.specs.Answering.{rp_reply, rp_told, rp_answer}
use Rattle.honest_party.proofs.OwnParty.{HasRoom}

-- ---- if there is room, and no logout came first, the reply is the one that there would be

unless_told : (prepared : Bool) (lacking : Option RpTable) (reply : RpReply) → prepared ≡ true → ((table : RpTable) → ¬ (cond prepared (unless_lacking reply lacking) NotHere ≡ Refused (no.Full table)))
    → cond prepared (unless_lacking reply lacking) NotHere ≡ reply
unless_told false lacking reply is room = absurd (cc)
unless_told true None reply is room = refl
unless_told true (Some table) reply is room = absurd (room table refl)

unless_none : (reply : RpReply) → unless_dead reply None ≡ reply
unless_none (Entered w sub) = refl
unless_none reply = refl

pub replied : (s : PartySetup) (past : RpPast) (e : Entry RpAsk) → is_prepared e.ask ≡ true → dead_for (party_of s).types past e.at e.ask ≡ None → HasRoom s past e → rp_answer s past e ≡ rp_reply s past e e.ask
unfolding rp_answer
replied s past e is alive room =
    let first : RpReply = rp_told s past e e.ask in
    let D : Option DeadRow → RpReply = λ o. unless_dead (rp_reply s past e e.ask) o in
    unless_told (is_prepared e.ask) (table_lacking (party_of s).types past e first) first is room ∙ (ap D alive ∙ unless_none (rp_reply s past e e.ask))

-- ---- an authorization response

pub record GoodResponse (s : PartySetup) (past : RpPast) (e : Entry RpAsk) (heard : Heard) (id : Option (Result IdClaims IdNo)) (browser : Option Word) (login : LoginRow) (claims : IdClaims) : Type 0 where
  pub state : Word
  pub given : heard.state ≡ Some state
  pub live : live_login past e.at (Some state) ≡ Some login
  pub same_browser : is_word browser login.browser ≡ true
  pub no_error : heard.error ≡ None
  pub whole : part_missing (party_of s).types heard ≡ None
  pub read : if_wanted (party_of s).types.id_token id ≡ if_wanted (party_of s).types.id_token (Some (Ok claims))
  pub judged : (party_of s).types.id_token ≡ true → id_judged (front_rules s login heard) claims e.at ≡ Ok tt

module _ (s : PartySetup) (past : RpPast) (e : Entry RpAsk) (heard : Heard) (id : Option (Result IdClaims IdNo)) (browser : Option Word) (login : LoginRow) (claims : IdClaims)
    (g : GoodResponse s past e heard id browser login claims) where
  abbrev counted : Bool → RpReply
  counted wanted = exchange_or_enter s e heard (front_code s heard) (if_wanted wanted (Some claims))

  read_as : (wanted : Bool) → (wanted ≡ true → id_judged (front_rules s login heard) claims e.at ≡ Ok tt) → front_read s e login heard (if_wanted wanted (Some (Ok claims))) ≡ counted wanted
  read_as true judged = ap (front_judged s e heard claims) (judged refl)
  read_as false judged = refl

  pub response_counts : response_to s past e heard id browser heard.state ≡ counted (party_of s).types.id_token
  response_counts =
      ap (response_to s past e heard id browser) g.given
      ∙ ap (response_of s e heard id browser) g.live
      ∙ ap (λ b. cond b (response_error s e login heard id heard.error) (Refused no.WrongBrowser)) g.same_browser
      ∙ ap (response_error s e login heard id) g.no_error
      ∙ ap (response_parts s e login heard id) g.whole
      ∙ ap (front_read s e login heard) g.read
      ∙ read_as (party_of s).types.id_token g.judged

-- ---- a token response

pub tokens_count : (s : PartySetup) (e : Entry RpAsk) (pending : PendingRow) (came : Tokens) (id : Option (Result IdClaims IdNo)) (claims : IdClaims) (found : Option PendingRow)
    → found ≡ Some pending → id ≡ Some (Ok claims) → id_judged (back_rules s pending came) claims e.at ≡ Ok tt → is_other claims.sub pending.sub ≡ false
    → tokens s e found (Ok came) id ≡ fetch_or_enter e (info_endpoint s) (Some came.access) pending.word claims.sub
tokens_count s e pending came id claims found is read judged same =
    ap (λ o. tokens s e o (Ok came) id) is
    ∙ ap (back_read s e pending came) read
    ∙ ap (back_judged s e pending came claims) judged
    ∙ ap (λ b. cond b (Refused no.SubjectDiffers) (back_accepted s e pending came claims)) same

-- ---- a UserInfo response

pub info_counts : (e : Entry RpAsk) (pending : PendingRow) (sub : Text) (found : Option PendingRow) → found ≡ Some pending → is_other sub pending.sub ≡ false → info e found (Ok sub) ≡ entered e sub
info_counts e pending sub found is same =
    ap (λ o. info e o (Ok sub)) is ∙ ap (λ b. cond b (Refused no.SubjectDiffers) (entered e sub)) same
