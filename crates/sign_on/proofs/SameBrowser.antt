-- The browser that received the answer to a nonce is one that sent it: it is the same from the authorization request to the
-- answer.
use Rattle.std.proofs.Common.{◌≡◌, ℕ, suc, not, Bool, true, false, cond, List, [], ◌∷◌, ◌++◌, length, map, filter, Option, Some, None, option_map, option_and_then, Ok, refl, sym, ap, ◌∙◌, subst, inl, inr}
use Rattle.std.proofs.lemmas.Option.{same_Some}
use Rattle.std.specs.List.{AllByRecursion}
use Rattle.sso_base.specs.Words.{Word, Text, is_word, word_text}
use Rattle.sso_base.specs.declared.http.Ask.{Ask}
use Rattle.sso_base.proofs.RowLaws.{bytes_same}
use Rattle.sso_model.specs.Lists.{Has}
use Rattle.sso_model.specs.Rows.{Answered, Sent, Live, Machine, Step, out, close, lapse, Dead, forget}
use Rattle.sso_model.specs.Machine.{after, after_all}
use Rattle.sso_model.proofs.ListLaws.{all_weaker, all_has, has_append_left}
use Rattle.sso_model.proofs.RunLaws.{after_append}
use Rattle.auth_request.specs.declared.wish.Wish.{Wish}
use Rattle.auth_request.specs.declared.wish.Verdict.TheVariants.{Grant}
use Rattle.auth_answer.specs.declared.answer.Answer.{Answer}
use Rattle.code_grant.specs.declared.rows.TurnRow.{TurnRow}
use Rattle.code_grant.specs.declared.rows.SessionRow.{SessionRow}
use Rattle.oidc_words.specs.Lives.{turn_life}
use Rattle.code_grant.specs.Rows.{turn_name, turn_begun}
use Rattle.client_registry.specs.Configuration.{Configuration}
use Rattle.op_exchange.specs.declared.ask.OpAsk.{OpAsk}
use Rattle.op_exchange.specs.declared.ask.OpAsk.TheVariants.{Authorize, Login, Consent, Token}
use Rattle.op_exchange.specs.declared.reply.OpReply.{OpReply}
use Rattle.op_exchange.specs.declared.reply.OpReply.TheVariants as op
use Rattle.op_exchange.specs.Replied.{ends_turn, session_given}
use Rattle.op_request.specs.Prepared.{prepared}
use Rattle.op_request.specs.Requests.{HasCookies}
use Rattle.op_request.proofs.LedTo.{has_cookies}
use Rattle.op_response.specs.Told.{browser_given}
use Rattle.op_answer.specs.Past.{OpPair, OpPast}
use Rattle.op_answer.specs.Turns.{turns, turn_of, turn_made, turn_started, turn_kept, turn_taken, turn_named}
use Rattle.op_answer.specs.Sessions.{wish_by, session_of, session_used, signed_user}
use Rattle.op_answer.specs.Legal.{code_redeemed}
use Rattle.rp_answer.specs.Visits.{visit_by}
use Rattle.rp_login.specs.declared.rows.SessionRow.{SessionRow as VisitRow}
use Rattle.op_answer.specs.Causes.{AnsweredCause, OwnTurn}
use Rattle.op_answer.proofs.Answers.{answers_have_a_cause}
use Rattle.rp_exchange.specs.declared.ask.RpAsk.{RpAsk}
use Rattle.rp_exchange.specs.declared.ask.RpAsk.TheVariants.{Visit, Leave, Logout}
use Rattle.rp_exchange.specs.declared.reply.RpReply.{RpReply}
use Rattle.rp_exchange.specs.declared.reply.RpReply.TheVariants as rp
use Rattle.rp_answer.specs.Past.{RpPair, RpPast}
use Rattle.sso_places.specs.Site.{Site, client_of_party, types_at}
use Rattle.sso_places.specs.World.{Place, Provider, Party, Nothing, World, op_past, rp_past, op_place, entered_as}
use Rattle.sso_places.specs.Legal.{IsLegalWorld}
use Rattle.sso_places.specs.Cookies.{words_in, presented}
use Rattle.sso_places.specs.Premises.{IsUnleaked, leaks}
use Rattle.sso_places.specs.Reading.{machine_of, sign_of, sign_steps, answer_of, redeem_of, sent_to, sign_out_steps, reply_steps, enter_as, enter_of, see_of, drop_of, message_named, end_of, party_steps, lapses, is_over, user_of_subject, forgets, is_forgotten}
use Rattle.sso_places.specs.Told.{told_clients, session_ended}
use Rattle.sso_places.specs.SameBrowser.{WishesNonce, IsAskedFrom, IsAskedOnlyFrom, IsAnsweredOnlyTo}
use Rattle.sign_on.proofs.Lists.{all_rows, row_of-has, lives_some}
use Rattle.sign_on.proofs.Invariant.{IsSetBy}
use Rattle.sso_places.proofs.Places.{legal_before}
use Rattle.sign_on.proofs.Shared.{set_more, own_browser}

-- ---- what holds after every prefix

-- an authorization request with this nonce came from this number
record IsAsked (world : World) (from : ℕ) (nonce : Option Text) : Type 0 where
  request : Ask
  pair : OpPair
  has : Has world (Provider from request pair)
  wishes : WishesNonce nonce pair.entry.ask

-- a turn belongs to the number that sent its request
record IsTurnOf (world : World) (row : TurnRow) : Type 0 where
  from : ℕ
  set : IsSetBy world from row.browser
  asked : IsAsked world from row.wish.nonce

abbrev IsAnswerOf : World → Answered → Type 0
IsAnswerOf world row = IsAsked world row.browser row.nonce

record Origins (s : Site) (world : World) : Type 0 where
  turns_are : AllByRecursion (IsTurnOf world) (turns (op_past world))
  answers_are : AllByRecursion (IsAnswerOf world) (machine_of s world).answered

asked_more : (x : Place) (world : World) (from : ℕ) (nonce : Option Text) → IsAsked world from nonce → IsAsked (x ∷ world) from nonce
asked_more x world from given old = record { request = old.request; pair = old.pair; has = inr old.has; wishes = old.wishes }

turn_more : (x : Place) (world : World) (row : TurnRow) → IsTurnOf world row → IsTurnOf (x ∷ world) row
turn_more x world row old = record { from = old.from; set = set_more x world old.from row.browser old.set; asked = asked_more x world old.from row.wish.nonce old.asked }

answers_more : (x : Place) (world : World) (rows : List Answered) → AllByRecursion (IsAnswerOf world) rows → AllByRecursion (IsAnswerOf (x ∷ world)) rows
answers_more x world rows all = all_weaker (IsAnswerOf world) (IsAnswerOf (x ∷ world)) rows (λ row old. asked_more x world row.browser row.nonce old) all

-- ---- turns

-- a turn is started by an authorization request, whose page sets its browser's word
record Started (asked : OpAsk) (reply : OpReply) (row : TurnRow) : Type 0 where
  wishes : WishesNonce row.wish.nonce asked
  sets : Has (words_in (browser_given reply)) row.browser

started : (at : ℕ) (asked : OpAsk) (reply : OpReply) (row : TurnRow) → turn_started at asked reply ≡ Some row → Started asked reply row
started at (Authorize (Grant wish) b session) (op.LoginPage w browser again) row h =
    let wishes : wish ≡ row.wish = cc in
    let browsers : browser ≡ row.browser = cc in
    record { wishes = ap (λ (v : Wish). v.nonce) wishes; sets = inl browsers }
started at (Authorize (Grant wish) b session) (op.ConsentPage w browser given client scopes) row h =
    let wishes : wish ≡ row.wish = cc in
    let browsers : browser ≡ row.browser = cc in
    record { wishes = ap (λ (v : Wish). v.nonce) wishes; sets = inl browsers }
started at asked reply row h = absurd (cc)

-- a turn that is kept has the wish and the browser that it had
record Kept (row after : TurnRow) : Type 0 where
  wishes : row.wish ≡ after.wish
  browsers : row.browser ≡ after.browser

taken_same : (asked : OpAsk) (reply : OpReply) (row : TurnRow) → Kept row (turn_taken asked reply row)
taken_same (Login turn signed b presented) (op.ConsentPage w browser (Some session) client scopes) row = record { wishes = refl; browsers = refl }
taken_same asked reply row = record { wishes = refl; browsers = refl }

kept_by : (other ends : Bool) (row taken after : TurnRow) → Kept row taken → cond other (Some row) (cond ends None (Some taken)) ≡ Some after → Kept row after
kept_by true ends row taken after same h = subst (Kept row) (same_Some row after h) (record { wishes = refl; browsers = refl })
kept_by false true row taken after same h = cc
kept_by false false row taken after same h = subst (Kept row) (same_Some taken after h) same

kept_turn : (past : OpPast) (p : OpPair) (row after : TurnRow) → turn_kept past p row ≡ Some after → Kept row after
kept_turn past p row after h = kept_by (not (is_word (turn_named p.entry.ask) row.word)) (ends_turn p.reply) row (turn_taken p.entry.ask p.reply row) after (taken_same p.entry.ask p.reply row) h

turns_origin : (from : ℕ) (request : Ask) (p : OpPair) (world : World) → AllByRecursion (IsTurnOf world) (turns (op_past world)) → AllByRecursion (IsTurnOf (Provider from request p ∷ world)) (turns (p ∷ op_past world))
turns_origin from request p world old =
    let x : Place = Provider from request p in
    let past : OpPast = op_past world in
    all_rows (IsTurnOf world) (IsTurnOf (x ∷ world)) turn_name (turn_made (turns past) past p) (turn_kept past p) (turns past)
    (λ row after left was.
    let same : Kept row after = kept_turn past p row after left in
    let more : IsTurnOf (x ∷ world) row = turn_more x world row was in
    let S : Word → Type 0 = λ w. IsSetBy (x ∷ world) more.from w in
    let A : Wish → Type 0 = λ v. IsAsked (x ∷ world) more.from v.nonce in
    record { from = more.from; set = subst S same.browsers more.set; asked = subst A same.wishes more.asked })
    (λ row made.
    let begun : Started p.entry.ask p.reply row = started p.entry.at p.entry.ask p.reply row made in
    record {
      from = from;
      set = record { place = x; has = inl refl; sets = has_append_left (words_in (browser_given p.reply)) (words_in (session_given p.reply)) row.browser begun.sets; by = refl };
      asked = record { request = request; pair = p; has = inl refl; wishes = begun.wishes };
    })
    old

-- ---- the request of an answer came from the same number

turn_has : (past : OpPast) (turn : Option Word) (row : TurnRow) → turn_of past turn ≡ Some row → Has (turns past) row
turn_has past None row h = cc
turn_has past (Some v) row h = (row_of-has turn_name v (turns past) row h).0

presented_word : (shown : Option Word) (v : Word) → is_word shown v ≡ true → shown ≡ Some v
presented_word None v h = cc
presented_word (Some w) v h = ap (λ (z : Word). Some z) (bytes_same w v h)

presents_first : (from : ℕ) (request : Ask) (p : OpPair) (shown : Option Word) (word : Word) → shown ≡ request.first → shown ≡ Some word → Has (presented (Provider from request p)) word
presents_first from request p shown word cookie is =
    let P : Option Word → Type 0 = λ o. Has (words_in o ++ words_in request.second) word in
    subst P (sym is ∙ cookie) (inl refl)

-- the turn of a form belongs to the number of the place
form_origin : (from : ℕ) (request : Ask) (p : OpPair) (world : World) (turn shown : Option Word) (row : TurnRow) → leaks world (Provider from request p) ≡ false → AllByRecursion (IsTurnOf world) (turns (op_past world))
    → shown ≡ request.first → OwnTurn (op_past world) p.entry turn shown row → IsAsked (Provider from request p ∷ world) from row.wish.nonce
form_origin from request p world turn shown row tight old cookie own =
    let x : Place = Provider from request p in
    let past : OpPast = op_past world in
    let stood : turn_of past turn ≡ Some row = lives_some turn_life turn_begun p.entry.at (turn_of past turn) row own.live in
    let of : IsTurnOf world row = all_has (IsTurnOf world) (turns past) row old (turn_has past turn row stood) in
    let mine : from ≡ of.from = own_browser x world of.from row.browser tight (presents_first from request p shown row.browser cookie (presented_word shown row.browser own.same_browser)) of.set in
    let A : ℕ → Type 0 = λ b. IsAsked (x ∷ world) b row.wish.nonce in
    subst A (sym mine) (asked_more x world of.from row.wish.nonce of.asked)

-- the wish that an answer is about
record Wished (from : ℕ) (request : Ask) (p : OpPair) (world : World) : Type 0 where
  wish : Wish
  wish_is : wish_by (op_past world) p.entry.ask ≡ Some wish
  asked : IsAsked (Provider from request p ∷ world) from wish.nonce

module _ (s : Site) (from : ℕ) (request : Ask) (p : OpPair) (world : World) (tight : leaks world (Provider from request p) ≡ false) (old : AllByRecursion (IsTurnOf world) (turns (op_past world))) (prepared_so : p.entry.ask ≡ prepared s.configuration request) where
  abbrev cookies : (asked : OpAsk) → p.entry.ask ≡ asked → HasCookies request asked
  cookies asked is = (let C : OpAsk → Type 0 = λ a. HasCookies request a in subst C (sym prepared_so ∙ is) (has_cookies s.configuration request))

  wished_by : (asked : OpAsk) (sent : Answer) (given : Option Word) → p.entry.ask ≡ asked → AnsweredCause s.configuration (op_past world) p.entry asked sent given → Wished from request p world
  wished_by (Authorize (Grant wish) browser shown) sent given is cause =
      let W : OpAsk → Type 0 = λ a. WishesNonce wish.nonce a in
      record { wish = wish; wish_is = ap (wish_by (op_past world)) is; asked = record { request = request; pair = p; has = inl refl; wishes = subst W (sym is) refl } }
  wished_by (Login turn (Some user) browser shown) sent given is cause =
      let stood : turn_of (op_past world) turn ≡ Some cause.row = lives_some turn_life turn_begun p.entry.at (turn_of (op_past world) turn) cause.row cause.own.live in
      record {
        wish = cause.row.wish;
        wish_is = ap (wish_by (op_past world)) is ∙ ap (λ (o : Option TurnRow). option_map (λ (row : TurnRow). row.wish) o) stood;
        asked = form_origin from request p world turn browser cause.row tight old (cookies (Login turn (Some user) browser shown) is).0 cause.own;
      }
  wished_by (Consent turn true browser shown) sent given is cause =
      let stood : turn_of (op_past world) turn ≡ Some cause.row = lives_some turn_life turn_begun p.entry.at (turn_of (op_past world) turn) cause.row cause.own.own.live in
      record {
        wish = cause.row.wish;
        wish_is = ap (wish_by (op_past world)) is ∙ ap (λ (o : Option TurnRow). option_map (λ (row : TurnRow). row.wish) o) stood;
        asked = form_origin from request p world turn browser cause.row tight old (cookies (Consent turn true browser shown) is).0 cause.own.own;
      }
  wished_by asked sent given is cause = absurd cause

-- ---- the answers of the machine after each kind of place

-- a sign-on answers nothing
signed_same : (m : Machine) (from : ℕ) (user : Option ℕ) (session : Option SessionRow) → (after m (sign_of from user session)).answered ≡ m.answered
signed_same m from (Some user) (Some session) = refl
signed_same m from (Some user) None = refl
signed_same m from None session = refl

sign_same : (m : Machine) (from : ℕ) (past : OpPast) (p : OpPair) (given : Option Word) → (after_all m (sign_steps from past p given)).answered ≡ m.answered
sign_same m from past p None = refl
sign_same m from past p (Some w) = signed_same m from (signed_user p.entry.ask) (session_of (p ∷ past) (Some w))

redeem_same : (m : Machine) (event : Option ℕ) (asked : OpAsk) → (after m (redeem_of event asked)).answered ≡ m.answered
redeem_same m (Some event) (Token (Ok grant)) = refl
redeem_same m event asked = refl

-- nor does anything at a party
lapses_same : (m : Machine) (rows : List Live) → (after_all m (map (λ (row : Live). lapse row.event) rows)).answered ≡ m.answered
lapses_same m [] = refl
lapses_same m (row ∷ rows) = lapses_same (after m (lapse row.event)) rows

forgets_same : (m : Machine) (rows : List Dead) → (after_all m (map (λ (row : Dead). forget row) rows)).answered ≡ m.answered
forgets_same m [] = refl
forgets_same m (row ∷ rows) = forgets_same (after m (forget row)) rows

entered_as_same : (m : Machine) (number client from : ℕ) (drawn : Word) (user : Option ℕ) (sid : Option Text) → (after m (enter_as number client from drawn user sid)).answered ≡ m.answered
entered_as_same m number client from drawn (Some user) (Some sid) = refl
entered_as_same m number client from drawn user sid = refl

entered_same : (c : Configuration) (m : Machine) (number client from : ℕ) (visit : Option VisitRow) → (after m (enter_of c number client from visit)).answered ≡ m.answered
entered_same c m number client from None = refl
entered_same c m number client from (Some visit) = entered_as_same m number client from visit.nonce (user_of_subject c client visit.sub) visit.sid

dropped_same : (m : Machine) (event : Option ℕ) (client from : ℕ) → (after m (drop_of event client from)).answered ≡ m.answered
dropped_same m (Some event) client from = refl
dropped_same m None client from = refl

ended_same : (m : Machine) (message : Option Sent) (count : ℕ) → (after m (end_of message count)).answered ≡ m.answered
ended_same m (Some message) count = refl
ended_same m None count = refl

-- nor does a sign-out
outs_same : (c : Configuration) (m : Machine) (number : ℕ) (session : SessionRow) (told : List ℕ) → (after_all m (map (λ client. out (sent_to c number session client)) told ++ close (word_text session.sid) ∷ [])).answered ≡ m.answered
outs_same c m number session [] = refl
outs_same c m number session (n ∷ ns) = outs_same c (after m (out (sent_to c number session n))) number session ns

sign_out_same : (c : Configuration) (m : Machine) (number : ℕ) (session : Option SessionRow) → (after_all m (sign_out_steps c number session)).answered ≡ m.answered
sign_out_same c m number None = refl
sign_out_same c m number (Some session) = outs_same c m number session (told_clients c session.clients)

seen_same : (m : Machine) (event : Option ℕ) (client from : ℕ) (user : Option ℕ) → (after m (see_of event client from user)).answered ≡ m.answered
seen_same m (Some event) client from (Some user) = refl
seen_same m event client from user = refl

party_same : (s : Site) (m : Machine) (world : World) (sent : List Sent) (n from : ℕ) (past : RpPast) (p : RpPair) (asked : RpAsk) (reply : RpReply) → (after_all m (party_steps s world sent n from past p asked reply)).answered ≡ m.answered
party_same s m world sent n from past p asked (rp.Ask to browser) = refl
party_same s m world sent n from past p asked (rp.Entered w sub) =
    entered_same s.configuration m (suc (length world)) (client_of_party s n) from (visit_by (types_at s n) p.entry.at past asked (rp.Entered w sub))
party_same s m world sent n from past p (Visit (Some w)) (rp.User sub) = seen_same m (entered_as n w world) (client_of_party s n) from (user_of_subject s.configuration (client_of_party s n) sub)
party_same s m world sent n from past p (Leave (Some w)) (rp.Left true) = dropped_same m (entered_as n w world) (client_of_party s n) from
party_same s m world sent n from past p (Logout (Ok claims)) (rp.Ended count) = ended_same m (message_named world (client_of_party s n) claims.jti sent) count
party_same s m world sent n from past p asked (rp.Left true) = refl
party_same s m world sent n from past p asked (rp.Left false) = refl
party_same s m world sent n from past p asked reply = refl

-- an answer is of its wish
answer_origin : (x : Place) (world : World) (m : Machine) (number from : ℕ) (wish : Wish) (session : Option SessionRow) → IsAsked (x ∷ world) from wish.nonce → AllByRecursion (IsAnswerOf (x ∷ world)) m.answered
    → AllByRecursion (IsAnswerOf (x ∷ world)) (after m (answer_of number from (Some wish) session)).answered
answer_origin x world m number from wish (Some session) asked old = (asked, old)
answer_origin x world m number from wish None asked old = old

reply_origin : (s : Site) (from : ℕ) (request : Ask) (p : OpPair) (world : World) (m : Machine) (reply : OpReply) → ((sent : Answer) (given : Option Word) → reply ≡ op.Answered sent given → Wished from request p world)
    → AllByRecursion (IsAnswerOf (Provider from request p ∷ world)) m.answered
    → AllByRecursion (IsAnswerOf (Provider from request p ∷ world)) (after_all m (reply_steps s.configuration world from (op_past world) p reply)).answered
reply_origin s from request p world m (op.Answered sent given) wished old =
    let x : Place = Provider from request p in
    let past : OpPast = op_past world in
    let w : Wished from request p world = wished sent given refl in
    let session : Option SessionRow = session_of (p ∷ past) (session_used past p.entry.ask p.reply) in
    let A : Option Wish → Type 0 = λ o. AllByRecursion (IsAnswerOf (x ∷ world)) (after m (answer_of (suc (length world)) from o session)).answered in
    subst A (sym w.wish_is) (answer_origin x world m (suc (length world)) from w.wish session w.asked old)
reply_origin s from request p world m (op.Tokens access id) wished old =
    let x : Place = Provider from request p in
    let A : List Answered → Type 0 = λ rows. AllByRecursion (IsAnswerOf (x ∷ world)) rows in
    subst A (sym (redeem_same m (option_and_then (op_place world) (code_redeemed (op_past world) p)) p.entry.ask)) old
reply_origin s from request p world m (op.SignedOut messages) wished old =
    let x : Place = Provider from request p in
    let A : List Answered → Type 0 = λ rows. AllByRecursion (IsAnswerOf (x ∷ world)) rows in
    subst A (sym (sign_out_same s.configuration m (suc (length world)) (session_ended (op_past world) p.entry.at p.entry.ask))) old
reply_origin s from request p world m reply wished old = old

-- ---- all worlds

origins : (s : Site) (world : World) → IsLegalWorld s world → IsUnleaked world → Origins s world
origins s [] legal unleaked = record { turns_are = tt; answers_are = tt }
origins s (Provider from request p ∷ world) legal unleaked =
    let x : Place = Provider from request p in
    let m : Machine = machine_of s world in
    let past : OpPast = op_past world in
    let old : Origins s world = origins s world (legal_before s x world legal) unleaked.0 in
    let first : List Step = sign_steps from past p (session_given p.reply) in
    let second : List Step = reply_steps s.configuration world from past p p.reply in
    let mid : Machine = after_all m first in
    let A : List Answered → Type 0 = λ rows. AllByRecursion (IsAnswerOf (x ∷ world)) rows in
    let before : A mid.answered = subst A (sym (sign_same m from past p (session_given p.reply))) (answers_more x world m.answered old.answers_are) in
    let wished : (sent : Answer) (given : Option Word) → p.reply ≡ op.Answered sent given → Wished from request p world =
    λ sent given is.
    wished_by s from request p world unleaked.1 old.turns_are legal.asked.0 p.entry.ask sent given refl (answers_have_a_cause s.configuration past p.entry sent given (sym legal.provider.3 ∙ is)) in
    let M : Machine → Type 0 = λ z. A z.answered in
    record {
      turns_are = turns_origin from request p world old.turns_are;
      answers_are = subst M (sym (after_append m first second)) (reply_origin s from request p world mid p.reply wished before);
    }
origins s (Party n from request p ∷ world) legal unleaked =
    let x : Place = Party n from request p in
    let m : Machine = machine_of s world in
    let old : Origins s world = origins s world (legal_before s x world legal) unleaked.0 in
    let first : List Step = lapses world (client_of_party s n) p.entry.at m in
    let second : List Step = party_steps s world m.out n from (rp_past n world) p p.entry.ask p.reply in
    let then : List Step = forgets (rp_past n world) (client_of_party s n) p.entry.at m in
    let over : Machine = after_all m first in
    let mid : Machine = after_all over then in
    let same : (after_all m (first ++ (then ++ second))).answered ≡ m.answered =
    ap (λ (z : Machine). z.answered) (after_append m first (then ++ second) ∙ after_append over then second)
    ∙ party_same s mid world m.out n from (rp_past n world) p p.entry.ask p.reply
    ∙ forgets_same over (filter (is_forgotten (rp_past n world) (client_of_party s n) p.entry.at) m.dead)
    ∙ lapses_same m (filter (is_over world (client_of_party s n) p.entry.at) m.live) in
    let A : List Answered → Type 0 = λ rows. AllByRecursion (IsAnswerOf (x ∷ world)) rows in
    record {
      turns_are = all_weaker (IsTurnOf world) (IsTurnOf (x ∷ world)) (turns (op_past world)) (turn_more x world) old.turns_are;
      answers_are = subst A (sym same) (answers_more x world m.answered old.answers_are);
    }
origins s (Nothing ∷ world) legal unleaked =
    let old : Origins s world = origins s world (legal_before s Nothing world legal) unleaked.0 in
    record {
      turns_are = all_weaker (IsTurnOf world) (IsTurnOf (Nothing ∷ world)) (turns (op_past world)) (turn_more Nothing world) old.turns_are;
      answers_are = answers_more Nothing world (machine_of s world).answered old.answers_are;
    }

wishes_same : (asked : OpAsk) (one other : Option Text) → one ≡ other → WishesNonce one asked → WishesNonce other asked
wishes_same asked one other same wishes = (let W : Option Text → Type 0 = λ o. WishesNonce o asked in subst W same wishes)

-- if only one number sent a nonce, the answers to it went to that number
pub answered_only_to : (s : Site) (world : World) (browser : ℕ) (nonce : Option Text) → IsLegalWorld s world → IsUnleaked world → IsAskedOnlyFrom world browser nonce → IsAnsweredOnlyTo (machine_of s world).answered browser nonce
answered_only_to s world browser given legal unleaked only =
    all_weaker (IsAnswerOf world) (λ (row : Answered). row.nonce ≡ given → row.browser ≡ browser) (machine_of s world).answered
    (λ row of same.
    let here : WishesNonce given of.pair.entry.ask = wishes_same of.pair.entry.ask row.nonce given same of.wishes in
    all_has (IsAskedFrom browser given) world (Provider row.browser of.request of.pair) only of.has here)
    (origins s world legal unleaked).answers_are
