-- What the replies to token responses say: each test of the response is seen here once.
use Rattle.std.proofs.Common.{◌≡◌, Bool, true, false, cond, Option, Some, None, Result, Ok, Err, refl}
use Rattle.sso_base.specs.Words.{Word, Text}
use Rattle.sso_base.specs.Texts.{is_other}
use Rattle.sso_base.specs.declared.history.Entry.{Entry}
use Rattle.id_token.specs.declared.claims.IdClaims.{IdClaims}
use Rattle.id_token.specs.declared.no.IdNo.{IdNo}
use Rattle.id_token.specs.Judging.{id_judged}
use Rattle.token_endpoint.specs.declared.reading.Tokens.{Tokens}
use Rattle.token_endpoint.specs.declared.no.TokensNo.{TokensNo}
use Rattle.rp_login.specs.declared.rows.PendingRow.{PendingRow}
use Rattle.rp_login.specs.declared.rows.Stage.TheVariants as stage
use Rattle.rp_exchange.specs.declared.ask.RpAsk.{RpAsk}
use Rattle.rp_exchange.specs.declared.ask.RpAsk.TheVariants as ask
use Rattle.rp_exchange.specs.declared.no.RpNo.TheVariants as no
use Rattle.rp_exchange.specs.declared.reply.RpReply.TheVariants.{Refused}
use Rattle.rp_exchange.specs.Asks.{is_prepared}
use Rattle.rp_answer.specs.Past.{RpPast}
use Rattle.rp_answer.specs.Setup.{PartySetup, party_of}
use Rattle.rp_answer.specs.Pendings.{live_pending}
use Rattle.rp_answer.specs.Replies.{back_rules, info_endpoint, fetch_or_enter, back_accepted, back_judged, back_read, tokens}
use Rattle.rp_answer.specs.Causes.{GoodClaims}
use Rattle.rp_answer.proofs.Caused.{Caused}

module _ (s : PartySetup) (past : RpPast) (e : Entry RpAsk) (w : Word) where
  abbrev Live : PendingRow → Type 0
  Live pending = live_pending (party_of s).types past e.at w stage.Tokens ≡ Some pending

  -- the claims count: UserInfo is asked for, else they let in
  accepted_by : (pending : PendingRow) → Live pending → (came : Tokens) (claims : IdClaims) → GoodClaims (back_rules s pending came) e.at (Some (Ok claims)) claims → is_other claims.sub pending.sub ≡ false
      → (endpoint : Option Text) → info_endpoint s ≡ endpoint
      → Caused s past e (ask.Tokens w (Ok came) (Some (Ok claims))) (fetch_or_enter e endpoint (Some came.access) pending.word claims.sub)
  accepted_by pending live came claims good same None no_endpoint =
      record { exchange = pending; live = live; claims = claims; accepted = good; same_subject = same; not_fetched = no_endpoint; drawn = refl; sub_is = refl }
  accepted_by pending live came claims good same (Some endpoint) endpoint_is =
      record {
        exchange = pending;
        live = live;
        claims = claims;
        accepted = good;
        same_subject = same;
        endpoint = endpoint;
        endpoint_is = endpoint_is;
        word_kept = refl;
        message_is = refl;
      }

  subject_by : (pending : PendingRow) → Live pending → (came : Tokens) (claims : IdClaims) → GoodClaims (back_rules s pending came) e.at (Some (Ok claims)) claims
      → (other : Bool) → is_other claims.sub pending.sub ≡ other
      → Caused s past e (ask.Tokens w (Ok came) (Some (Ok claims))) (cond other (Refused no.SubjectDiffers) (back_accepted s e pending came claims))
  subject_by pending live came claims good false same = accepted_by pending live came claims good same (info_endpoint s) refl
  subject_by pending live came claims good true other = record { exchange = pending; live = live; claims = claims; accepted = good; other = other }

  judged_by : (pending : PendingRow) → Live pending → (came : Tokens) (claims : IdClaims) (judged : Result (Unit {0}) IdNo)
      → id_judged (back_rules s pending came) claims e.at ≡ judged → Caused s past e (ask.Tokens w (Ok came) (Some (Ok claims))) (back_judged s e pending came claims judged)
  judged_by pending live came claims (Err why) judged = record { exchange = pending; live = live; refused = record { judged = judged } }
  judged_by pending live came claims (Ok good) judged =
      subject_by pending live came claims (record { read = refl; good = good; judged = judged }) (is_other claims.sub pending.sub) refl

  -- something was read of the ID Token, which every token response has
  read_by : (pending : PendingRow) → Live pending → (came : Tokens) (id : Option (Result IdClaims IdNo)) → is_prepared (ask.Tokens w (Ok came) id) ≡ true
      → Caused s past e (ask.Tokens w (Ok came) id) (back_read s e pending came id)
  read_by pending live came None prepared = cc
  read_by pending live came (Some (Err why)) prepared = record { exchange = pending; live = live; refused = refl }
  read_by pending live came (Some (Ok claims)) prepared = judged_by pending live came claims (id_judged (back_rules s pending came) claims e.at) refl

  pub tokens_caused : (found : Option PendingRow) → live_pending (party_of s).types past e.at w stage.Tokens ≡ found → (came : Result Tokens TokensNo) (id : Option (Result IdClaims IdNo))
      → is_prepared (ask.Tokens w came id) ≡ true → Caused s past e (ask.Tokens w came id) (tokens s e found came id)
  tokens_caused None stale came id prepared = stale
  tokens_caused (Some pending) live (Err why) id prepared = record { exchange = pending; live = live; failed = refl }
  tokens_caused (Some pending) live (Ok came) id prepared = read_by pending live came id prepared
