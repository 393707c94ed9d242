-- The definitions of a play, computed on short traces over a small registry.
use Rattle.std.proofs.Common.{◌≡◌, ℕ, true, false, List, [], ◌∷◌, ◌++◌, Some, None, Ok, codes, inl, inr, refl, sym, subst, arith}
use Rattle.std.specs.Fmt.{digits}
use Rattle.sso_base.specs.Words.{Text, word_text}
use Rattle.sso_base.specs.declared.http.Ask.{Ask}
use Rattle.sso_base.specs.declared.http.Method.TheVariants.{Get}
use Rattle.sso_base.specs.declared.message.Message.{Message}
use Rattle.sso_model.specs.Founded.{HoldsOnlyFounded, OnceEach}
use Rattle.sso_model.specs.Machine.{start, began_row, entered_row}
use Rattle.sso_model.specs.Rows.{Live, Answered}
use Rattle.token_endpoint.specs.declared.reading.Tokens.{Tokens}
use Rattle.client_registry.specs.ClientSets.{no_clients}
use Rattle.userinfo.specs.declared.header.Bearer.TheVariants.{Given}
use Rattle.op_exchange.specs.declared.ask.OpAsk.TheVariants as op_ask
use Rattle.op_exchange.specs.declared.reply.OpReply.TheVariants as op
use Rattle.op_answer.proofs.FirstLogin as login
use Rattle.rp_exchange.specs.declared.ask.RpAsk.TheVariants as rp_ask
use Rattle.rp_exchange.specs.declared.reply.RpReply.{RpReply}
use Rattle.auth_request.specs.declared.wish.PageNo.TheVariants as page
use Rattle.rp_exchange.specs.declared.no.RpNo.TheVariants as no
use Rattle.rp_exchange.specs.declared.reply.RpReply.TheVariants as rp
use Rattle.rp_request.specs.Prepared.{prepared}
use Rattle.rp_response.specs.Lines.{line_of as rp_line}
use Rattle.rp_answer.specs.Answering.{rp_answer}
use Rattle.rp_answer.specs.Past.{RpPair}
use Rattle.rp_answer.proofs.Sample.{sample, word, words, entry_at, pair_of}
use Rattle.sso_places.specs.declared.types.Broken.TheVariants.{Forged, Leaked, HashClash}
use Rattle.sso_places.specs.declared.types.To.TheVariants as to
use Rattle.sso_places.specs.declared.types.WorldAsk.TheVariants.{Http}
use Rattle.sso_places.specs.declared.types.WorldReply.TheVariants as reply
use Rattle.sso_places.specs.Agreement.{SignsOn}
use Rattle.sso_places.specs.Binding.{HasAccessBeside, IsInformed, IsReplied}
use Rattle.sso_places.specs.SameBrowser.{IsAskedOnlyFrom}
use Rattle.sso_places.specs.Site.{own_site}
use Rattle.sso_places.specs.World.{Place, Provider, Party, Nothing, World}
use Rattle.sso_places.proofs.Story.{site, shows, authorized}
use Rattle.trace_lines.specs.declared.line.Line.{Line}
use Rattle.trace_lines.specs.declared.line.Line.TheVariants.{At, Steal, Show, Begin, Follow, Visit, Carry, Back, Raw}
use Rattle.trace_lines.specs.declared.line.Shown.TheVariants as shown
use Rattle.trace_lines.specs.Trace.{Told}
use Rattle.web_requests.specs.Carrying.{carried}
use Rattle.web_requests.specs.Handing.{printed, handed_back}
use Rattle.web_requests.specs.Locations.{location_of}
use Rattle.web_requests.specs.Raw.{raw_sent}
use Rattle.oidc_replay.specs.declared.replaying.ReplayEnd.TheVariants as end
use Rattle.server_desk.specs.Ahead.{word_of_number}
use Rattle.oidc_replay.specs.Words.{words_after}
use Rattle.oidc_replay.specs.Bound.{GivesTokens, AsksWithToken, EachAccessTokenIsBound}
use Rattle.oidc_replay.specs.Play.{Played, play_on, play_of}
use Rattle.oidc_replay.specs.End.{end_of}
use Rattle.oidc_replay.specs.declared.tally.Kind.TheVariants.{Entered, Stale, WrongBrowser, Turn}
use Rattle.oidc_replay.specs.Storm.{is_of, storm_line, count_line, counts_text, storm_text}
use Rattle.oidc_replay.specs.Text.{end_line, text_of}
use Rattle.oidc_replay.specs.Theorem.{AnswersWhoAsked, SignsOnWell, HoldsUntil}

-- ---- words: the seed, then the number, greatest byte first

abbrev eight : List ℕ
eight = 0 ∷ 0 ∷ 0 ∷ 0 ∷ 0 ∷ 0 ∷ 0 ∷ 0 ∷ []

abbrev zeros : List ℕ
zeros = eight ++ eight ++ eight

word_258 : word_of_number zeros 258 ≡ zeros ++ (0 ∷ 0 ∷ 0 ∷ 0 ∷ 0 ∷ 0 ∷ 1 ∷ 2 ∷ [])
word_258 = refl

-- place 2, which follows one place, draws the words 5 to 8
second_words : words_after zeros 1 ≡ word_of_number zeros 5 ∷ word_of_number zeros 6 ∷ word_of_number zeros 7 ∷ word_of_number zeros 8 ∷ []
second_words = refl

-- ---- traces; the newest line is first

abbrev told : List Line → Told
told lines = record { seed = zeros; lines = lines }

-- no line
nothing_text : text_of sample (told []) ≡ codes "premises met\n"
unfolding text_of end_of play_of
nothing_text = refl

-- a visit, and a line for which its reply lacks a location; what holds nothing is shown as such
visit_text : text_of sample (told (Show 2 ∷ Follow 1 1 ∷ Visit 1 0 ∷ At 1000 ∷ [])) ≡ codes "1 shop nobody\n2 - none\nshow 2 \npremises met\n"
unfolding text_of end_of play_of location_of printed prepared rp_answer rp_line digits
visit_text = refl

-- a reply without a message, and one without a request to another server
no_message : text_of sample (told (Back 1 1 ∷ Carry 1 0 ∷ Visit 1 0 ∷ [])) ≡ codes "1 shop nobody\n2 - none\n3 - none\npremises met\n"
unfolding text_of end_of play_of carried handed_back printed prepared rp_answer rp_line digits
no_message = refl

-- a browser visits with the cookies of another
stolen : end_of sample (told (Visit 2 0 ∷ Steal 2 1 ∷ Begin 1 0 ∷ [])) ≡ end.Broken (Leaked 2)
unfolding end_of play_of prepared rp_answer
stolen = refl

-- its own cookies leak nothing
own : end_of sample (told (Visit 1 0 ∷ Steal 2 1 ∷ Begin 1 0 ∷ [])) ≡ end.Met
unfolding end_of play_of prepared rp_answer
own = refl

-- a request shows the word that is written, and none of the jar
shown_word : end_of sample (told (Raw 2 (to.Party 0) Get (Some (codes "/")) (shown.Given (word_of_number zeros 1)) shown.Jar None None ∷ Begin 1 0 ∷ [])) ≡ end.Broken (Leaked 2)
unfolding end_of play_of prepared rp_answer raw_sent
shown_word = refl

-- ---- ends

forged_line : end_line (end.Broken (Forged 4)) ≡ codes "premises forged 4\n"
unfolding digits
forged_line = refl

leaked_line : end_line (end.Broken (Leaked 9)) ≡ codes "premises leaked 9\n"
unfolding digits
leaked_line = refl

clash_line : end_line (end.Broken (HashClash 5 12)) ≡ codes "premises clash 5 12\n"
unfolding digits
clash_line = refl

journal_line : end_line (end.Journal 262145) ≡ codes "journal 262145\n"
unfolding digits
journal_line = refl

-- nothing is played after the end
abbrev over : Played
over = record { world = []; jars = []; at = 0; ended = Some 1 }

nothing_more : play_on sample zeros over (Visit 1 0) ≡ over
nothing_more = refl

-- ---- tokens that a reply gives

abbrev came : Text → Tokens
came id = record { access = word_text (word 21); id = id }

gives_its_own : GivesTokens (reply.Provider (op.Tokens (word 21) (codes "id"))) (came (codes "id"))
gives_its_own = (refl, refl)

gives_no_other : GivesTokens (reply.Provider (op.Tokens (word 21) (codes "id"))) (came []) → ⊥
gives_no_other h = let never : codes "id" ≡ [] = h.1 in absurd (cc)

keys_give_none : GivesTokens (reply.Provider op.Keys) (came (codes "id")) → ⊥
keys_give_none h = h

-- ---- an access token of a UserInfo request

abbrev got : Ask
got = record { method = Get; path = codes "/"; query = []; first = None; second = None; auth = None; body = None }

abbrev message : Message
message = record { to = codes "/userinfo"; auth = None; body = None }

abbrev answered : RpReply → RpPair
answered told = pair_of (entry_at 1000 25 (rp_ask.Tokens (word 17) (Ok (came (codes "id"))) None)) told

asks : AsksWithToken (own_site sample) 0 (answered (rp.Fetch (word 17) message)) (codes "id") (word_text (word 21))
asks = record { came = (refl, refl); word = word 17; message = message; replied = refl }

enters : AsksWithToken (own_site sample) 0 (answered (rp.Entered (word 26) (codes "alice"))) (codes "id") (word_text (word 21)) → ⊥
enters h = let never : rp.Entered (word 26) (codes "alice") ≡ rp.Fetch h.word h.message = h.replied in absurd (cc)

-- UserInfo is answered for it, but it was in no reply
abbrev informing : Place
informing = Provider 0 got (record { entry = record { at = 1000; fresh = words 29; ask = op_ask.Info (Given (word 21)) }; reply = op.Info (codes "{}") })

abbrev unanswered : World
unanswered = Party 0 1 (Http got) (answered (rp.Fetch (word 17) message)) ∷ informing ∷ []

informed : IsInformed unanswered (word_text (word 21))
informed =
    record {
      from = 0;
      request = got;
      pair = record { entry = record { at = 1000; fresh = words 29; ask = op_ask.Info (Given (word 21)) }; reply = op.Info (codes "{}") };
      has = inr (inl refl);
      w = word 21;
      asked = refl;
      access_is = refl;
      claims = codes "{}";
      replied = refl;
    }

abbrev StandsBeside : Place → Type 0
StandsBeside (Provider from request p) = HasAccessBeside (codes "id") (word_text (word 21)) p.reply
StandsBeside (Party n from request p) = ⊥
StandsBeside Nothing = ⊥

not_beside : IsReplied (HasAccessBeside (codes "id") (word_text (word 21))) (informing ∷ []) → ⊥
not_beside h =
    elim h.has [
      | inl same ↦ subst StandsBeside (sym same) h.replied
      | inr has ↦ has
    ]

unbound : EachAccessTokenIsBound (own_site sample) unanswered → ⊥
unbound bound =
    not_beside (bound 0 1 (Http got) (answered (rp.Fetch (word 17) message)) [] (informing ∷ []) (codes "id") (word_text (word 21)) refl asks informed)

-- ---- what is true of a beginning, by the first premise that fails

nothing_signs_well : SignsOnWell (own_site sample) []
unfolding SignsOn
nothing_signs_well =
    record { signs = tt; founded = tt; once = record { entered = tt; redeemed = tt; ended = tt }; same_browser = λ browser nonce only. tt }

-- browser 1 sent the request and signed in, and browser 2 posted its consent page and received the answer
abbrev answered_elsewhere : World
answered_elsewhere =
    Provider 2 (shows (Some (word 5)) (Some (word 9))) (login.pair_of login.consent_entry login.code_answer)
    ∷ Provider 1 (shows (Some (word 5)) None) (login.pair_of login.login_entry login.consent_page)
    ∷ Provider 1 (shows None None) authorized
    ∷ []

only_one_asked : IsAskedOnlyFrom answered_elsewhere 1 (Some (word_text (word 3)))
only_one_asked = (λ never. absurd never, (λ never. absurd never, (λ nonce. refl, tt)))

another_was_answered : AnswersWhoAsked site answered_elsewhere → ⊥
unfolding no_clients
another_was_answered only =
    let same : ◌≡◌ {A = ℕ} 2 1 = (only 1 (Some (word_text (word 3))) only_one_asked).0 refl in
    absurd (omega (arith, same))

-- a party shows a user, although nobody is logged in
abbrev shows_somebody : World
shows_somebody = Party 0 1 (Http got) (answered (rp.User (codes "alice"))) ∷ []

signs_nobody_on : SignsOnWell (own_site sample) shows_somebody → ⊥
unfolding SignsOn
signs_nobody_on well = well.signs.1.0

-- no browser began the login of a session
unbegun_is_unfounded : (row : Live) → HoldsOnlyFounded (record start { live = row ∷ [] }) → ⊥
unbegun_is_unfounded row founded = founded.0.began

-- a browser began it, but the provider never answered
unanswered_is_unfounded : (row : Live) → HoldsOnlyFounded (record start { began = began_row row ∷ []; live = row ∷ [] }) → ⊥
unanswered_is_unfounded row founded = founded.0.answered.has

-- the provider answered, but nobody had signed in
unsigned_is_unfounded : (row : Live) (a : Answered)
    → HoldsOnlyFounded (record start { began = began_row row ∷ []; answered = a ∷ []; live = row ∷ [] }) → ⊥
unsigned_is_unfounded row a founded = founded.0.signed

-- a login that was entered twice
entered_twice_is_not_once : (row : Live) → OnceEach (record start { entered = entered_row row ∷ entered_row row ∷ [] }) → ⊥
entered_twice_is_not_once row once = once.entered.0 (inl refl)

-- nothing is said of what has the place at which a token is forged, and all of what ends before it
forged_there : HoldsUntil (own_site sample) (Forged 1) shows_somebody
forged_there few = absurd (omega (arith, few))

forged_later : HoldsUntil (own_site sample) (Forged 2) shows_somebody → ⊥
forged_later holds = signs_nobody_on (holds (omega arith)).0

leaked_later : HoldsUntil (own_site sample) (Leaked 2) shows_somebody → ⊥
leaked_later holds = signs_nobody_on (holds (omega arith)).0

-- if half hashes clash, all but the binding is still claimed
clashes_there : HoldsUntil (own_site sample) (HashClash 1 1) shows_somebody → ⊥
clashes_there holds = signs_nobody_on (holds.0 (omega arith))

-- ---- the summary of a storm

summary : storm_text sample (told (Follow 1 1 ∷ Visit 1 0 ∷ [])) 7 1 ≡
    codes "storm 7 1\nplaces 2\nentered 0\nstale 0\nwrong_browser 0\nturn 0\npremises met\n"
unfolding storm_text counts_text storm_line count_line end_of play_of location_of prepared rp_answer digits
summary = refl

session-is_entered : is_of Entered (reply.Party (rp.Entered [] (codes "alice"))) ≡ true
session-is_entered = refl

user-is_not : is_of Entered (reply.Party (rp.User (codes "alice"))) ≡ false
user-is_not = refl

stale-is_so : is_of Stale (reply.Party (rp.Refused no.StaleLogin)) ≡ true
stale-is_so = refl

other_refusal-is_not : is_of Stale (reply.Party (rp.Refused no.WrongBrowser)) ≡ false
other_refusal-is_not = refl

wrong_browser-is_so : is_of WrongBrowser (reply.Party (rp.Refused no.WrongBrowser)) ≡ true
wrong_browser-is_so = refl

stale-is_no_wrong_browser : is_of WrongBrowser (reply.Party (rp.Refused no.StaleLogin)) ≡ false
stale-is_no_wrong_browser = refl

turn-is_so : is_of Turn (reply.Provider (op.ErrorPage page.Turn)) ≡ true
turn-is_so = refl

other_page-is_not : is_of Turn (reply.Provider (op.ErrorPage page.Browser)) ≡ false
other_page-is_not = refl
