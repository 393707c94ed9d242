-- The code that is exchanged, and the access token with which UserInfo is asked for, came with an ID Token that has its hash.
use Rattle.std.proofs.Common.{◌≡◌, Bool, true, false, ◌&&◌, cond, Option, Some, None, is_none, Result, Ok, Err, refl, sym, ◌∙◌, ap, subst, inl, inr}
use Rattle.sso_base.specs.Words.{Word, Text}
use Rattle.sso_base.specs.declared.history.Entry.{Entry}
use Rattle.sso_base.specs.declared.message.Message.{Message}
use Rattle.id_token.specs.declared.claims.IdClaims.{IdClaims}
use Rattle.id_token.specs.declared.no.IdNo.{IdNo}
use Rattle.id_token.specs.HalfHash.{half_hash_of}
use Rattle.id_token.specs.Judging.{Meets}
use Rattle.id_token.proofs.Good.{passes_good}
use Rattle.auth_answer.specs.declared.heard.Heard.{Heard}
use Rattle.oidc_words.specs.declared.response_types.Types.{Types}
use Rattle.rp_login.specs.declared.rows.LoginRow.{LoginRow}
use Rattle.rp_exchange.specs.declared.ask.RpAsk.{RpAsk}
use Rattle.rp_exchange.specs.declared.ask.RpAsk.TheVariants as ask
use Rattle.rp_exchange.specs.declared.no.Part.TheVariants as part
use Rattle.rp_exchange.specs.declared.reply.RpReply.TheVariants as reply
use Rattle.rp_exchange.specs.Asks.{is_read_of, is_prepared}
use Rattle.rp_answer.specs.Past.{RpPast}
use Rattle.rp_answer.specs.Setup.{PartySetup, party_of}
use Rattle.rp_answer.specs.Asked.{if_wanted, claims_read}
use Rattle.rp_answer.specs.Replies.{must_hash, front_rules, back_rules, part_missing}
use Rattle.rp_answer.specs.Answering.{rp_answer}
use Rattle.rp_answer.specs.Causes.{GoodClaims, IfGood, ExchangeCause, FetchCause}
use Rattle.rp_answer.specs.Hashes.{CodeHasHash, AccessHasHash}
use Rattle.rp_answer.proofs.Stood.{own_replies_stand}
use Rattle.rp_answer.proofs.Answers.{exchanges_have_a_cause, fetches_have_a_cause}
use Rattle.rp_answer.proofs.Exchanges.{judged_where_wanted, judged_of}

-- a text that is there has its hash among the claims
must_be : (text claim : Option Text) (given : Text) → text ≡ Some given → Meets (must_hash text) claim → claim ≡ Some (half_hash_of given)
must_be text claim given is meets =
    let M : Option Text → Type 0 = λ o. Meets (must_hash o) claim in
    subst M is meets

-- ---- a whole response of a type that has an ID Token was read with one

nothing_missing : (a b c : Bool) → cond a (Some part.Code) (cond b (Some part.Access) (cond c (Some part.Id) None)) ≡ None → c ≡ false
nothing_missing true b c h = cc
nothing_missing false true c h = cc
nothing_missing false false true h = cc
nothing_missing false false false h = refl

whole_has_id : (types : Types) (heard : Heard) → types.id_token ≡ true → part_missing types heard ≡ None → heard.id ≡ None → ⊥
whole_has_id types heard wanted whole none =
    let lacks : (types.id_token && is_none heard.id) ≡ false = nothing_missing (types.code && is_none heard.code) (types.token && is_none heard.access) (types.id_token && is_none heard.id) whole in
    let A : Bool → Bool = λ b. b && is_none heard.id in
    let N : Option Text → Bool = λ o. is_none o in
    let never : true ≡ false = sym (ap A wanted ∙ ap N none) ∙ lacks in
    cc

record IsRead (id : Option (Result IdClaims IdNo)) : Type 0 where
  read : Result IdClaims IdNo
  there : id ≡ Some read

read_where_there : (text : Option Text) (id : Option (Result IdClaims IdNo)) → is_read_of text id ≡ true → (text ≡ None → ⊥) → IsRead id
read_where_there None id prepared there = absurd (there refl)
read_where_there (Some text) None prepared there = cc
read_where_there (Some text) (Some read) prepared there = record { read = read; there = refl }

-- ---- the ID Token that was accepted

record Accepted (s : PartySetup) (e : Entry RpAsk) (login : LoginRow) (heard : Heard) (id : Option (Result IdClaims IdNo)) : Type 0 where
  claims : IdClaims
  good : GoodClaims (front_rules s login heard) e.at id claims

accepted_of : (s : PartySetup) (e : Entry RpAsk) (login : LoginRow) (heard : Heard) (id : Option (Result IdClaims IdNo)) (read : Result IdClaims IdNo) → id ≡ Some read → IfGood (front_rules s login heard) e.at id
    → Accepted s e login heard id
accepted_of s e login heard id (Err why) is good =
    let G : Option (Result IdClaims IdNo) → Type 0 = IfGood (front_rules s login heard) e.at in
    absurd (subst G is good)
accepted_of s e login heard id (Ok claims) is good =
    let G : Option (Result IdClaims IdNo) → Type 0 = IfGood (front_rules s login heard) e.at in
    let found : G (Some (Ok claims)) = subst G is good in
    record { claims = claims; good = record { read = is; good = found.good; judged = found.judged } }

module _ (s : PartySetup) (past : RpPast) (e : Entry RpAsk) where
  code_by : (asked : RpAsk) → e.ask ≡ asked → is_prepared asked ≡ true → (w : Word) (message : Message) → (party_of s).types.id_token ≡ true → ExchangeCause s past e asked w message → CodeHasHash s e message
  code_by (ask.Callback (Ok heard) id browser) is prepared w message wanted cause =
      let there = read_where_there heard.id id prepared (whole_has_id (party_of s).types heard wanted cause.response.whole) in
      let W : Bool → Option (Result IdClaims IdNo) = λ b. if_wanted b id in
      let found = accepted_of s e cause.login heard (if_wanted (party_of s).types.id_token id) there.read (ap W wanted ∙ there.there) cause.accepted in
      let good = passes_good (front_rules s cause.login heard) found.claims e.at found.good.judged in
      record {
        heard = heard;
        id = id;
        browser = browser;
        asked = is;
        code = cause.code;
        code_is = cause.code_is;
        message_is = cause.message_is;
        claims = found.claims;
        came = ap (judged_of s) is ∙ judged_where_wanted (party_of s).types.id_token id found.claims found.good.read;
        hash = must_be _ found.claims.c_hash cause.code cause.code_is good.code;
      }
  code_by asked is prepared w message wanted cause = absurd cause

  pub codes_have_their_hash : (w : Word) (message : Message) → (party_of s).types.id_token ≡ true → rp_answer s past e ≡ reply.Exchange w message → CodeHasHash s e message
  codes_have_their_hash w message wanted h =
      code_by e.ask refl (own_replies_stand s past e (reply.Exchange w message) refl h).prepared w message wanted (exchanges_have_a_cause s past e w message h)

  access_by : (asked : RpAsk) → e.ask ≡ asked → (w : Word) (message : Message) → FetchCause s past e asked w message → AccessHasHash s e message
  access_by (ask.Callback (Ok heard) id browser) is w message cause =
      let good = passes_good (front_rules s cause.login heard) cause.claims e.at cause.accepted.judged in
      record {
        endpoint = cause.endpoint;
        endpoint_is = cause.endpoint_is;
        access = cause.access;
        message_is = cause.message_is;
        claims = cause.claims;
        came = ap (judged_of s) is ∙ judged_where_wanted (party_of s).types.id_token id cause.claims cause.accepted.read;
        beside = inl (record {
          heard = heard;
          id = id;
          browser = browser;
          asked = is;
          access_is = cause.access_is;
          hash = must_be _ cause.claims.at_hash cause.access cause.access_is good.token;
        });
      }
  access_by (ask.Tokens pending (Ok came) id) is w message cause =
      let good = passes_good (back_rules s cause.exchange came) cause.claims e.at cause.accepted.judged in
      record {
        endpoint = cause.endpoint;
        endpoint_is = cause.endpoint_is;
        access = came.access;
        message_is = cause.message_is;
        claims = cause.claims;
        came = ap (judged_of s) is ∙ ap claims_read cause.accepted.read;
        beside = inr (record { pending = pending; came = came; id = id; asked = is; access_is = refl; hash = good.token });
      }
  access_by asked is w message cause = absurd cause

  pub access_tokens_have_their_hash : (w : Word) (message : Message) → rp_answer s past e ≡ reply.Fetch w message → AccessHasHash s e message
  access_tokens_have_their_hash w message h = access_by e.ask refl w message (fetches_have_a_cause s past e w message h)
