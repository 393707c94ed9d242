-- The last places of a login whose party asks for UserInfo: the request gets alice's claims, and these let her in. All premises are
-- kept.
use Rattle.std.proofs.Common.{◌≡◌, ◌≤◌, Bool, true, List, [], ◌∷◌, codes, Option, Some, None, Ok, refl, sym, ap, arith}
use Rattle.sso_base.specs.Legal.{last_moment}
use Rattle.sso_base.specs.Rows.{lives}
use Rattle.sso_base.specs.Words.{Word, Text, IsWord, word_text}
use Rattle.sso_base.specs.declared.history.Entry.{Entry}
use Rattle.sso_base.specs.declared.http.Ask.{Ask}
use Rattle.sso_base.specs.declared.message.Message.{Message}
use Rattle.sso_base.proofs.Utf8Bytes.{IsUtf8-are_ascii}
use Rattle.oidc_words.specs.Lives.{access_life, pending_life}
use Rattle.oidc_words.specs.Paths.{userinfo_path}
use Rattle.claim_set.specs.Reading.{claims_text}
use Rattle.client_registry.specs.Configuration.{Configuration}
use Rattle.userinfo.specs.Request.{info_message}
use Rattle.userinfo.specs.Held.{info_members}
use Rattle.userinfo.specs.declared.header.Bearer.TheVariants.{Given}
use Rattle.code_grant.specs.declared.rows.TokenRow.{TokenRow}
use Rattle.op_exchange.specs.Values.{IsOpAsk}
use Rattle.op_exchange.specs.declared.ask.OpAsk.{OpAsk}
use Rattle.op_exchange.specs.declared.ask.OpAsk.TheVariants as op_ask
use Rattle.op_exchange.specs.declared.reply.OpReply.{OpReply}
use Rattle.op_exchange.specs.declared.reply.OpReply.TheVariants as op
use Rattle.op_exchange.proofs.Sample.{profile_scopes}
use Rattle.op_request.specs.Prepared.{prepared as op_prepared}
use Rattle.op_answer.specs.AccessTokens.{access_token_of}
use Rattle.op_answer.specs.Answering.{op_answer}
use Rattle.op_answer.proofs.FirstLogin.{entry_at as op_entry, pair_of as op_pair}
use Rattle.rp_login.specs.declared.rows.PendingRow.{PendingRow}
use Rattle.rp_exchange.specs.Values.{IsRpAsk}
use Rattle.rp_exchange.specs.declared.ask.RpAsk.{RpAsk}
use Rattle.rp_exchange.specs.declared.ask.RpAsk.TheVariants as rp_ask
use Rattle.rp_exchange.specs.declared.reply.RpReply.{RpReply}
use Rattle.rp_exchange.specs.declared.reply.RpReply.TheVariants as rp
use Rattle.rp_answer.specs.Answering.{rp_answer}
use Rattle.rp_answer.specs.Past.{RpPair}
use Rattle.rp_answer.specs.Pendings.{pending_of}
use Rattle.rp_answer.proofs.Sample.{word, entry_at, pair_of}
use Rattle.sso_places.specs.declared.types.Jar.{Jar}
use Rattle.sso_places.specs.declared.types.To.TheVariants as to
use Rattle.sso_places.specs.declared.types.WorldAsk.{WorldAsk}
use Rattle.sso_places.specs.declared.types.WorldAsk.TheVariants.{Info}
use Rattle.sso_places.specs.declared.types.WorldReply.TheVariants as reply
use Rattle.sso_places.specs.Cookies.{jar_set}
use Rattle.sso_places.specs.Site.{own_site, setup_at}
use Rattle.sso_places.specs.World.{Place, Provider, Party, op_past, rp_past}
use Rattle.sso_places.proofs.SmallSite.{drawn_word, legal_entry}
use Rattle.cookie_jars.specs.Jars.{jar_with}
use Rattle.web_requests.specs.Asked.{AnswersInfo}
use Rattle.web_requests.specs.Carrying.{message_ask, carried}
use Rattle.web_requests.specs.Handing.{handed_back}
use Rattle.web_requests.specs.Sending.{sent}
use Rattle.web_requests.proofs.CarriedMessages.{info_request_read, info_handed}
use Rattle.honest_places.specs.Login.{jar_shown, jar_after, FitsJar}
use Rattle.honest_worlds.proofs.Alone.{provider_reads_it, KeepsAll, provider_next, party_next}
use Rattle.honest_worlds.proofs.AnyType.{Wants, types_of, registered, is_registry, visitor}
use Rattle.honest_worlds.proofs.Exchanging.{from_there}
use Rattle.honest_worlds.proofs.NoLogout.{HasNoLogout, not_named}

abbrev endpoint : Text
endpoint = codes "http://127.0.0.1:8080/userinfo"

-- UserInfo is asked for with an access token
abbrev pub question : Word → Message
question access = info_message endpoint (word_text access)

abbrev pub fetch : Word → RpReply
fetch access = rp.Fetch (word 17) (question access)

abbrev pub entered : Word → RpReply
entered w = rp.Entered w (codes "alice")

abbrev pub info_entry : Word → Entry OpAsk
info_entry access = op_entry 1000 29 (op_ask.Info (Given access))

abbrev pub told_entry : Entry RpAsk
told_entry = entry_at 1000 33 (rp_ask.Info (word 17) (Ok (codes "alice")))

abbrev pub access_in_time : Option TokenRow → Bool
access_in_time None = true
access_in_time (Some row) = lives access_life row.issued 1000

module _ (wants : Wants) (access : Word) (request : WorldAsk) (e : Entry RpAsk) (earlier : List Place) where
  abbrev c : Configuration
  c = registered wants

  -- the place at which the party asks for UserInfo
  abbrev asking : RpPair
  asking = pair_of e (fetch access)

  abbrev pub asks_there : Place
  asks_there = Party 0 1 request asking

  abbrev pub told : OpReply
  told = op.Info (claims_text (info_members c 0 0 profile_scopes []))

  -- what is needed of the places up to there
  pub record NeedsInfo : Type 0 where
    pub before : KeepsAll c visitor asks_there earlier
    pub is_word : IsWord access
    pub early : last_moment (op_past earlier) ≤ 1000
    pub at : e.at ≤ 1000
    pub jar : Jar
    pub cookies : FitsJar jar (jar_after to.Provider earlier)
    pub known : op_answer c (op_past earlier) (info_entry access) ≡ told
    pub token_in_time : (row : TokenRow) → access_token_of (op_past earlier) access ≡ Some row → lives access_life row.issued 1000 ≡ true
    pub waits_in_time : (row : PendingRow) → pending_of (types_of wants) (asking ∷ rp_past 0 earlier) (word 17) ≡ Some row → lives pending_life row.since 1000 ≡ true
    pub quiet : HasNoLogout (asking ∷ rp_past 0 earlier)
    pub enters : rp_answer (setup_at (own_site c) 0) (asking ∷ rp_past 0 earlier) told_entry ≡ entered (word 34)

  -- ---- the UserInfo request gets claims

  abbrev pub informs : Ask
  informs = message_ask userinfo_path [] (question access)

  abbrev pub informs_there : Place
  informs_there = Provider 0 informs (op_pair (info_entry access) told)

  pub carries : carried c (reply.Party (fetch access)) 0 ≡ Some (sent 0 to.Provider informs)
  unfolding carried info_message
  carries = refl

  pub info_is_asked : IsWord access → op_prepared c informs ≡ op_ask.Info (Given access)
  info_is_asked is =
      provider_reads_it c 0 (carried c (reply.Party (fetch access)) 0) informs (op_ask.Info (Given access)) (info_request_read c (is_registry wants) endpoint (word 17) access refl is) carries

  informed : NeedsInfo → KeepsAll c visitor informs_there (asks_there ∷ earlier)
  informed needs =
      provider_next c visitor asks_there earlier 0 informs (op_pair (info_entry access) told) needs.before
      (record {
        jar = needs.jar;
        called = carries;
        cookies = needs.cookies;
        replies = record {
          asked = info_is_asked needs.is_word;
          entry = legal_entry IsOpAsk 29 (op_ask.Info (Given access)) refl needs.is_word;
          after_own = needs.early;
          after_all = needs.at;
          answered = needs.known;
        };
        in_time = λ row is kept. needs.token_in_time row is;
        room = refl;
        unforged = refl;
        unleaked = refl;
      })

  -- ---- the claims are given back

  pub handed : AnswersInfo 1 0 (word 17) (handed_back c 1 (to.Party 0) (reply.Party (fetch access)) to.Provider (reply.Provider told)) told_entry.ask
  handed = info_handed c 1 0 0 0 (word 17) (question access) profile_scopes [] (is_registry wants)

  abbrev pub enters_there : Place
  enters_there = Party 0 1 (Info (word 17) handed.answer) (pair_of told_entry (entered (word 34)))

  pub entering : NeedsInfo → KeepsAll c visitor enters_there (informs_there ∷ asks_there ∷ earlier)
  entering needs =
      party_next c visitor informs_there (asks_there ∷ earlier) 0 1 (Info (word 17) handed.answer) (pair_of told_entry (entered (word 34))) (informed needs)
      (record {
        jar = jar_with (jar_set asks_there) (jar_shown asks_there);
        called = handed.is;
        cookies = refl;
        replies = record {
          known = omega arith;
          asked = handed.read;
          entry = legal_entry IsRpAsk 33 told_entry.ask refl (drawn_word (word 17) refl refl, IsUtf8-are_ascii (codes "alice") refl);
          after_own = needs.at;
          after_all = omega arith;
          answered = needs.enters;
        };
        in_time = λ row is kept. needs.waits_in_time row is;
        alive = λ sid is. not_named (asking ∷ rp_past 0 earlier) sid needs.quiet;
        room = refl;
        unforged = refl;
        unleaked = refl;
        joined = λ y is. sym (ap from_there is);
      })
