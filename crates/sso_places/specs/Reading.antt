-- The reading of a world: the steps of the sign-on machine that its places make.
use Rattle.std.specs.Prelude.{ℕ, suc, ◌+◌, ◌==◌, ◌&&◌, nat_le, Bool, true, false, List, [], ◌∷◌, ◌++◌, length, filter, map, Option, Some, None, option_and_then}
use Rattle.std.specs.Prelude.{Ok, slice_index_or, if◌then◌else◌, option_map}
use Rattle.std.specs.List.{position_from}
use Rattle.std.specs.Str.{bytes_eq}
use Rattle.sso_base.specs.Words.{Word, Text, fresh_word, word_text}
use Rattle.sso_base.specs.Rows.{row_of}
use Rattle.sso_base.specs.Texts.{is_given}
use Rattle.sso_model.specs.Rows.{Sent, Live, Machine, Step, begin, sign, answer, redeem, out, close, enter, see, drop, end, lapse, unnamed, Dead, forget}
use Rattle.sso_model.specs.Machine.{start, after_all}
use Rattle.oidc_words.specs.Lives.{visit_life, seen_life}
use Rattle.client_registry.specs.Configuration.{Configuration}
use Rattle.client_registry.specs.Numbers.{client_at}
use Rattle.auth_request.specs.declared.wish.Wish.{Wish}
use Rattle.code_grant.specs.declared.rows.SessionRow.{SessionRow}
use Rattle.op_exchange.specs.declared.ask.OpAsk.{OpAsk}
use Rattle.op_exchange.specs.declared.ask.OpAsk.TheVariants as op_ask
use Rattle.op_exchange.specs.declared.reply.OpReply.{OpReply}
use Rattle.op_exchange.specs.declared.reply.OpReply.TheVariants as op
use Rattle.op_exchange.specs.Replied.{session_given}
use Rattle.op_issue.specs.LogoutTokens.{logout_id, wants_sid}
use Rattle.op_answer.specs.Past.{OpPair, OpPast}
use Rattle.op_answer.specs.Sessions.{signed_user, wish_by, session_used, session_of}
use Rattle.op_answer.specs.Legal.{code_redeemed}
use Rattle.rp_login.specs.declared.rows.SessionRow.{SessionRow as Visit}
use Rattle.rp_login.specs.Rows.{dead_name, dead_begun}
use Rattle.rp_exchange.specs.declared.ask.RpAsk.{RpAsk}
use Rattle.rp_exchange.specs.declared.ask.RpAsk.TheVariants as rp_ask
use Rattle.rp_exchange.specs.declared.reply.RpReply.{RpReply}
use Rattle.rp_exchange.specs.declared.reply.RpReply.TheVariants as rp
use Rattle.rp_answer.specs.Past.{RpPair, RpPast}
use Rattle.rp_answer.specs.Visits.{visit_by}
use Rattle.rp_answer.specs.Deads.{deads}
use Rattle.sso_places.specs.Site.{Site, client_of_party, types_at}
use Rattle.sso_places.specs.World.{Place, Provider, Party, Nothing, World, place_at, op_past, rp_past, fresh_of, moment_of, op_place, entered_as}
use Rattle.sso_places.specs.Told.{told_clients, session_ended}

-- ---- the provider: a correct password

-- a reply that sets a session word: the user signs in, under the session identifier (`sid`) of that session
abbrev pub sign_of : ℕ → Option ℕ → Option SessionRow → Step
sign_of from (Some user) (Some session) = sign (record { sid = word_text session.sid; user = user; browser = from })
sign_of from user session = unnamed

abbrev pub sign_steps : ℕ → OpPast → OpPair → Option Word → List Step
sign_steps from past p None = []
sign_steps from past p (Some w) = sign_of from (signed_user p.entry.ask) (session_of (p ∷ past) (Some w)) ∷ []

-- ---- an answer: by the request and the session to which its code would belong

abbrev pub answer_of : ℕ → ℕ → Option Wish → Option SessionRow → Step
answer_of number from (Some wish) (Some session) =
    answer (record {
      event = number;
      browser = from;
      nonce = wish.nonce;
      client = wish.client;
      user = session.user;
      sid = word_text session.sid;
    })
answer_of number from wish session = unnamed

-- ---- tokens: the place that issued the code, and the client of the grant

abbrev pub redeem_of : Option ℕ → OpAsk → Step
redeem_of (Some event) (op_ask.Token (Ok grant)) = redeem event grant.client
redeem_of event asked = unnamed

-- ---- a sign-out of a live session: a message goes out to each notified client, and the session ends

-- a message, identified by the place of the sign-out and the client
abbrev pub sent_to : Configuration → ℕ → SessionRow → ℕ → Sent
sent_to c number session client =
    record {
      place = number;
      client = client;
      user = session.user;
      sid = word_text session.sid;
      only = wants_sid (client_at c client);
    }

abbrev pub sign_out_steps : Configuration → ℕ → Option SessionRow → List Step
sign_out_steps c number None = []
sign_out_steps c number (Some session) =
    map (λ client. out (sent_to c number session client)) (told_clients c session.clients) ++ close (word_text session.sid) ∷ []

-- ---- all steps of a place of the provider

abbrev pub reply_steps : Configuration → World → ℕ → OpPast → OpPair → OpReply → List Step
reply_steps c world from past p (op.Answered given set) =
    answer_of (suc (length world)) from (wish_by past p.entry.ask)
    (session_of (p ∷ past) (session_used past p.entry.ask p.reply)) ∷ []
reply_steps c world from past p (op.Tokens access id) =
    redeem_of (option_and_then (op_place world) (code_redeemed past p)) p.entry.ask ∷ []
reply_steps c world from past p (op.SignedOut messages) =
    sign_out_steps c (suc (length world)) (session_ended past p.entry.at p.entry.ask)
reply_steps c world from past p reply = []

abbrev pub provider_steps : Configuration → World → ℕ → OpPast → OpPair → List Step
provider_steps c world from past p = sign_steps from past p (session_given p.reply) ++ reply_steps c world from past p p.reply

-- ---- a relying party: a login enters

-- the user with this subject at the client (OpenID Connect Core 1.0, 8)
abbrev pub user_of_subject : Configuration → ℕ → Text → Option ℕ
user_of_subject c client sub = position_from (λ t. bytes_eq t sub) 0 (slice_index_or c.subjects client [])

abbrev pub enter_as : ℕ → ℕ → ℕ → Word → Option ℕ → Option Text → Step
enter_as number client from nonce (Some user) (Some sid) =
    enter (record { event = number; client = client; browser = from; nonce = Some (word_text nonce); user = user; sid = sid })
enter_as number client from nonce user sid = unnamed

-- the new session has the nonce of its login, and the subject and `sid` of its last ID Token
abbrev pub enter_of : Configuration → ℕ → ℕ → ℕ → Option Visit → Step
enter_of c number client from None = unnamed
enter_of c number client from (Some visit) = enter_as number client from visit.nonce (user_of_subject c client visit.sub) visit.sid

-- ---- a user is shown, or a browser leaves: the session that the cookie names, by the place at which it was entered

abbrev pub see_of : Option ℕ → ℕ → ℕ → Option ℕ → Step
see_of (Some event) client from (Some user) = see event client from user
see_of event client from user = unnamed

abbrev pub drop_of : Option ℕ → ℕ → ℕ → Step
drop_of (Some event) client from = drop event client from
drop_of None client from = unnamed

-- ---- a logout token is accepted: the message with its `jti` (OpenID Connect Back-Channel Logout 1.0, 2.4)

-- the `jti` of a message is made from a random word of the sign-out and the client
abbrev pub jti_at : ℕ → Option Place → Option Text
jti_at client None = None
jti_at client (Some place) = Some (logout_id (fresh_word (fresh_of place) 0) client)

abbrev pub has_jti : World → ℕ → Text → Sent → Bool
has_jti world client jti message = (message.client == client) && is_given jti (jti_at client (place_at world message.place))

-- the message with this `jti` to the client, among those that went out
abbrev pub message_named : World → ℕ → Text → List Sent → Option Sent
message_named world client jti [] = None
message_named world client jti (message ∷ messages) =
    if has_jti world client jti message then Some message else message_named world client jti messages

abbrev pub end_of : Option Sent → ℕ → Step
end_of (Some message) count = end message count
end_of None count = unnamed

-- ---- all steps of a place of a party, except its lapses and forgets

abbrev pub party_steps : Site → World → List Sent → ℕ → ℕ → RpPast → RpPair → RpAsk → RpReply → List Step
party_steps s world sent n from past p asked (rp.Ask to browser) =
    begin (record { client = client_of_party s n; browser = from; nonce = Some (word_text (fresh_word p.entry.fresh 2)) }) ∷ []
party_steps s world sent n from past p asked (rp.Entered w sub) =
    enter_of s.configuration (suc (length world)) (client_of_party s n) from
    (visit_by (types_at s n) p.entry.at past asked (rp.Entered w sub)) ∷ []
party_steps s world sent n from past p (rp_ask.Visit (Some w)) (rp.User sub) =
    see_of (entered_as n w world) (client_of_party s n) from (user_of_subject s.configuration (client_of_party s n) sub) ∷ []
party_steps s world sent n from past p asked (rp.User sub) = unnamed ∷ []
party_steps s world sent n from past p (rp_ask.Leave (Some w)) (rp.Left true) =
    drop_of (entered_as n w world) (client_of_party s n) from ∷ []
party_steps s world sent n from past p asked (rp.Left true) = unnamed ∷ []
party_steps s world sent n from past p (rp_ask.Logout (Ok claims)) (rp.Ended count) =
    end_of (message_named world (client_of_party s n) claims.jti sent) count ∷ []
party_steps s world sent n from past p asked (rp.Ended count) = unnamed ∷ []
party_steps s world sent n from past p asked reply = []

-- ---- lapses: the client's sessions whose age has reached their lifetime

abbrev pub is_after : ℕ → ℕ → Option ℕ → Bool
is_after life at None = false
is_after life at (Some entered) = nat_le (entered + life) at

abbrev pub is_over : World → ℕ → ℕ → Live → Bool
is_over world client at row =
    (row.client == client) && is_after visit_life at (option_and_then moment_of (place_at world row.event))

-- in the order in which the sessions were entered
abbrev pub lapses : World → ℕ → ℕ → Machine → List Step
lapses world client at m = map (λ (row : Live). lapse row.event) (filter (is_over world client at) m.live)

-- ---- forgets: the ended session identifiers of the client whose logout was accepted 661 seconds before, or more

abbrev pub is_forgotten : RpPast → ℕ → ℕ → Dead → Bool
is_forgotten past client at row =
    (row.client == client) && is_after seen_life at (option_map dead_begun (row_of dead_name row.sid (deads past)))

abbrev pub forgets : RpPast → ℕ → ℕ → Machine → List Step
forgets past client at m = map (λ (row : Dead). forget row) (filter (is_forgotten past client at) m.dead)

-- ---- places, and worlds

-- the steps of a place, after this world and this machine
abbrev pub steps_at : Site → World → Machine → Place → List Step
steps_at s world m (Provider from request p) = provider_steps s.configuration world from (op_past world) p
steps_at s world m (Party n from request p) =
    lapses world (client_of_party s n) p.entry.at m
    ++ (forgets (rp_past n world) (client_of_party s n) p.entry.at m
    ++ party_steps s world m.out n from (rp_past n world) p p.entry.ask p.reply)
steps_at s world m Nothing = []

-- the machine after the steps of a world
abbrev pub machine_of : Site → World → Machine
machine_of s [] = start
machine_of s (x ∷ world) = after_all (machine_of s world) (steps_at s world (machine_of s world) x)
