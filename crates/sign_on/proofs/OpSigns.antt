-- What a right password leaves: the session that it made belongs to the browser of the place.
use Rattle.std.proofs.Common.{◌≡◌, ℕ, ◌<◌, ◌≤◌, ◌==◌, ◌⊎◌, Bool, true, false, eq-eqb, cond, List, [], ◌∷◌, ◌++◌, length, Option, Some, None, option_and_then, filter_map, refl, sym, ap, ◌∙◌, subst, inl, inr, arith}
use Rattle.std.proofs.lemmas.Option.{same_Some}
use Rattle.std.proofs.lemmas.Bool.{eqb-true}
use Rattle.std.specs.List.{AllByRecursion}
use Rattle.sso_base.specs.Words.{Word, Text, IsWord, is_word, fresh_word, word_text}
use Rattle.sso_base.specs.Rows.{put, row_of, if_lives}
use Rattle.sso_base.specs.declared.http.Ask.{Ask}
use Rattle.sso_base.specs.declared.history.Entry.{Entry}
use Rattle.sso_base.proofs.RowLaws.{bool_cases, option_cases, bytes_true}
use Rattle.sso_base.proofs.WordTexts.{word_text_inj}
use Rattle.sso_model.specs.Lists.{Has, Lacks}
use Rattle.sso_model.specs.Rows.{Signed, Answered, Machine, Step, sign}
use Rattle.sso_model.specs.Machine.{IsRun, after, after_all}
use Rattle.sso_model.proofs.ListLaws.{all_weaker, all_has, has_append_right}
use Rattle.client_registry.specs.Configuration.{Configuration}
use Rattle.code_grant.specs.declared.rows.SessionRow.{SessionRow}
use Rattle.oidc_words.specs.Lives.{session_life}
use Rattle.code_grant.specs.Rows.{session_name, session_begun}
use Rattle.client_registry.specs.ClientSets.{no_clients, has_client, with_client}
use Rattle.client_registry.proofs.ClientSets.{has_client-none, has_client-with_other}
use Rattle.sso_base.specs.Values.{latest_moment}
use Rattle.op_answer.specs.Authentications.{session_authentication}
use Rattle.op_exchange.specs.declared.ask.OpAsk.{OpAsk}
use Rattle.op_exchange.specs.declared.ask.OpAsk.TheVariants.{Login}
use Rattle.op_exchange.specs.Replied.{session_given}
use Rattle.op_request.specs.Prepared.{prepared}
use Rattle.op_request.specs.Requests.{HasCookies}
use Rattle.op_request.proofs.LedTo.{has_cookies}
use Rattle.op_response.specs.Told.{browser_given}
use Rattle.op_answer.specs.Past.{OpPair, OpPast}
use Rattle.op_answer.specs.Sessions.{sessions, session_made, session_made_by, session_kept, session_set, session_by, live_in, session_of, live_session, session_used, client_answered, and_client, signed_user}
use Rattle.op_answer.specs.Replies.{session_renewed, session_after, session_left, if_of_user}
use Rattle.op_answer.specs.Legal.{PassedPassword}
use Rattle.op_answer.proofs.Passwords.{session_words_need_a_password}
use Rattle.sso_places.specs.Site.{Site, IsSite}
use Rattle.sso_places.specs.World.{Place, Provider, World, from_of, op_past, fresh_of, drawn}
use Rattle.sso_places.specs.Legal.{IsLegalWorld}
use Rattle.sso_places.specs.Cookies.{words_in, set_at, presented}
use Rattle.sso_places.specs.Premises.{HasDistinctWords, leaks}
use Rattle.sso_places.specs.Reading.{machine_of, sign_of, sign_steps}
use Rattle.sign_on.proofs.Lists.{all_rows, row_of-has, row_of-put_same, row_of-lacks, lives_some}
use Rattle.sign_on.proofs.Invariant.{IsSetBy, Owns, IsDrawnText, IsSessionOwned, AnsweredBy, IsSessionAnswered, Holds, IsKept}
use Rattle.sso_places.proofs.Places.{fresh_drawn, fresh_is_word, drawn_other, drawn_more}
use Rattle.sign_on.proofs.Shared.{text_more, signed_more, session_more, own_browser}
use Rattle.sign_on.proofs.OpRows.{user_is_known, KeptSession, kept_session, set_none, set_some}

-- ---- cookies that a place presents

-- if a cookie that a place presents was set, also at the place itself, its number is the place's
pub own_word : (x : Place) (world : World) (from : ℕ) (word : Word) → leaks world x ≡ false → Has (presented x) word → IsSetBy (x ∷ world) from word → from_of x ≡ from
own_word x world from word tight presents set = own_by set.has
  where
    own_by : Has (x ∷ world) set.place → from_of x ≡ from
    own_by (inl same) = ap from_of same ∙ set.by
    own_by (inr has) = own_browser x world from word tight presents (record { place = set.place; has = has; sets = set.sets; by = set.by })

-- the second cookie of a request is presented
pub presents_second : (from : ℕ) (request : Ask) (p : OpPair) (session : Option Word) (word : Word) → session ≡ request.second → session ≡ Some word → Has (presented (Provider from request p)) word
presents_second from request p session word cookie is =
    let P : Option Word → Type 0 = λ o. Has (words_in request.first ++ words_in o) word in
    subst P (sym is ∙ cookie) (has_append_right (words_in request.first) (word ∷ []) word (inl refl))

-- ---- the clients of a session

has_with : (client n : ℕ) (clients : List Bool) → has_client client (with_client n clients) ≡ true → (has_client client clients ≡ true) ⊎ (n ≡ client)
has_with client n clients has =
    elim (bool_cases (n == client)) [
      | inl same ↦ inr (eqb-true n client same)
      | inr other ↦ inl (sym (has_client-with_other client n clients (λ same. let never : true ≡ false = sym (eq-eqb n client (sym same)) ∙ other in absurd (cc))) ∙ has)
    ]

and_has : (client : ℕ) (o : Option ℕ) (clients : List Bool) → has_client client (and_client o clients) ≡ true → (has_client client clients ≡ true) ⊎ (o ≡ Some client)
and_has client None clients has = inl has
and_has client (Some n) clients has = elim (has_with client n clients has) [ inl old ↦ inl old | inr new ↦ inr (ap (λ (k : ℕ). Some k) new) ]

-- each client of a session was answered before, or the pair answers it for this session
abbrev pub AreClientsFrom : List Answered → OpPast → OpPair → SessionRow → Type 0
AreClientsFrom answered past p row =
    (client : ℕ) → has_client client row.clients ≡ true
    → AnsweredBy answered client row ⊎ ((client_answered past p ≡ Some client) × (is_word (session_used past p.entry.ask p.reply) row.word ≡ true))

-- so it is of one that the pair keeps
kept_clients : (answered : List Answered) (past : OpPast) (p : OpPair) (row after : SessionRow) → KeptSession past p row after → IsSessionAnswered answered row → AreClientsFrom answered past p after
kept_clients answered past p row after kept old =
    let P : SessionRow → Type 0 = λ r. AreClientsFrom answered past p r in
    subst P kept.is (λ client has. by client has kept.clients_are)
  where
    answers : (client : ℕ) → has_client client row.clients ≡ true → AnsweredBy answered client (record row { clients = kept.clients })
    answers client has = (let was : AnsweredBy answered client row = old client has in record { answer = was.answer; has = was.has; client_is = was.client_is; user_is = was.user_is; sid_is = was.sid_is })

    by : (client : ℕ) → has_client client kept.clients ≡ true
        → (kept.clients ≡ row.clients) ⊎ ((is_word (session_used past p.entry.ask p.reply) row.word ≡ true) × (kept.clients ≡ and_client (client_answered past p) row.clients))
        → AnsweredBy answered client (record row { clients = kept.clients }) ⊎ ((client_answered past p ≡ Some client) × (is_word (session_used past p.entry.ask p.reply) row.word ≡ true))
    by client has (inl same) = (let H : List Bool → Type 0 = λ z. has_client client z ≡ true in inl (answers client (subst H same has)))
    by client has (inr more) =
        let H : List Bool → Type 0 = λ z. has_client client z ≡ true in
        elim (and_has client (client_answered past p) row.clients (subst H more.1 has)) [ inl before ↦ inl (answers client before) | inr now ↦ inr (now, more.0) ]

-- ---- the session that is left

-- the row of a signed user
abbrev pub sign_row : ℕ → SessionRow → Signed
sign_row from session = record { sid = word_text session.sid; user = session.user; browser = from }

-- whoever signs in under this session identifier is this user in this browser
abbrev pub IsOnly : List Signed → ℕ → SessionRow → Type 0
IsOnly signed from session = AllByRecursion (λ (row : Signed). row.sid ≡ word_text session.sid → row ≡ sign_row from session) signed

-- the session of the history that a login with a right password made
pub record Leaves (s : Site) (x : Place) (world : World) (p : OpPair) (w : Word) (user : ℕ) (presented : Option Word) : Type 0 where
  pub made : SessionRow
  pub made_is : session_by (op_past world) p (live_in p.entry.at w (sessions (op_past world))) w user ≡ made
  pub word_is : made.word ≡ w
  pub user_is : made.user ≡ user
  pub sid_word : IsWord made.sid
  pub auth_is : made.auth_time ≡ p.entry.at
  pub only : IsOnly (machine_of s world).signed (from_of x) made
  pub text : IsDrawnText (x ∷ world) (word_text made.sid)
  pub word_drawn : Has (drawn (x ∷ world)) w
  pub as_after : session_authentication made ≡ session_authentication (session_after (op_past world) p.entry user presented)
  pub unclosed : Lacks (machine_of s world).closed (word_text made.sid)
  pub before : List Bool
  pub clients_are : made.clients ≡ and_client (client_answered (op_past world) p) before
  pub answers : (client : ℕ) → has_client client before ≡ true → AnsweredBy (machine_of s world).answered client made

-- a new session has words that nobody had
new_leaves : (s : Site) (x : Place) (world : World) (p : OpPair) (w : Word) (user : ℕ) (presented : Option Word) → fresh_of x ≡ p.entry.fresh → length (fresh_of x) ≡ 4 → IsLegalWorld s (x ∷ world) → HasDistinctWords (x ∷ world) → IsKept s world
    → session_renewed (op_past world) p.entry.at user presented ≡ None → w ≡ (session_after (op_past world) p.entry user presented).word → Leaves s x world p w user presented
new_leaves s x world p w user presented mine whole legal distinct kept fresh word_is =
    let past : OpPast = op_past world in
    let old : Holds s world (machine_of s world) = kept.holds in
    let e : Entry OpAsk = p.entry in
    let A : Option SessionRow → SessionRow = λ o. session_left e user o in
    let word : w ≡ fresh_word (fresh_of x) 0 = word_is ∙ ap (λ (o : Option SessionRow). (A o).word) fresh ∙ sym (ap (λ (f : List Word). fresh_word f 0) mine) in
    let none : row_of session_name w (sessions past) ≡ None =
    row_of-lacks session_name w (sessions past)
    (all_weaker (IsSessionOwned s.configuration world (machine_of s world).signed) (λ (row : SessionRow). row.word ≡ w → ⊥) (sessions past)
    (λ row owned same. drawn_other x world 0 row.word distinct (omega arith) whole owned.word_drawn (same ∙ word)) old.sessions) in
    let L : Option SessionRow → SessionRow = λ o. session_by past p (option_and_then (if_lives session_life session_begun e.at) o) w user in
    let sid : Word = fresh_word e.fresh 1 in
    let sid_is : fresh_word (fresh_of x) 1 ≡ sid = ap (λ (f : List Word). fresh_word f 1) mine in
    let sid_word : IsWord sid = subst IsWord sid_is (fresh_is_word s x world 1 legal (omega arith) whole) in
    let D : Word → Type 0 = λ v. Has (drawn (x ∷ world)) v in
    let sid_drawn : D sid = subst D sid_is (fresh_drawn x world 1 (omega arith) whole) in
    record {
      made = session_by past p None w user;
      made_is = ap L none;
      word_is = refl;
      user_is = refl;
      sid_word = sid_word;
      auth_is = refl;
      only =
          all_weaker (λ (row : Signed). IsDrawnText world row.sid) (λ (row : Signed). row.sid ≡ word_text sid → row ≡ record { sid = word_text sid; user = user; browser = from_of x }) (machine_of s world).signed
          (λ row text same. absurd (drawn_other x world 1 text.word distinct (omega arith) whole text.has (word_text_inj text.word sid text.value sid_word (sym text.is ∙ same) ∙ sym sid_is)))
          old.signed;
      text = record { word = sid; is = refl; has = sid_drawn; value = sid_word };
      word_drawn = subst D (sym word) (fresh_drawn x world 0 (omega arith) whole);
      as_after = sym (ap (λ (o : Option SessionRow). session_authentication (A o)) fresh);
      unclosed = λ has.
          let text : IsDrawnText world (word_text sid) = all_has (IsDrawnText world) (machine_of s world).closed (word_text sid) old.closed has in
          drawn_other x world 1 text.word distinct (omega arith) whole text.has (sym (word_text_inj sid text.word sid_word text.value text.is) ∙ sym sid_is);
      before = no_clients;
      clients_are = refl;
      answers = λ client has. (let never : false ≡ true = sym (has_client-none client) ∙ has in absurd (cc));
    }

-- what is renewed was presented and live, and of the user
record Renewed (past : OpPast) (at user : ℕ) (presented : Option Word) (row : SessionRow) : Type 0 where
  shown : presented ≡ Some row.word
  found : row_of session_name row.word (sessions past) ≡ Some row
  live : live_in at row.word (sessions past) ≡ Some row
  user_is : row.user ≡ user

if_user : (user : ℕ) (session row : SessionRow) → if_of_user user session ≡ Some row → (session ≡ row) × (row.user ≡ user)
if_user user session row h =
    let F : Bool → Option SessionRow = λ b. cond b (Some session) None in
    elim (bool_cases (session.user == user)) [
      | inl e ↦
          (let same : session ≡ row = same_Some session row (sym (ap F e) ∙ h) in
          (same, sym (ap (λ (r : SessionRow). r.user) same) ∙ eqb-true session.user user e))
      | inr e ↦ (let never : F false ≡ Some row = sym (ap F e) ∙ h in cc)
    ]

renewed_by : (past : OpPast) (at user : ℕ) (w : Word) (found : Option SessionRow) (row : SessionRow) → live_session past at (Some w) ≡ found → option_and_then (if_of_user user) found ≡ Some row → Renewed past at user (Some w) row
renewed_by past at user w None row live h = cc
renewed_by past at user w (Some session) row live h =
    let parts = if_user user session row h in
    let whole : live_session past at (Some w) ≡ Some row = live ∙ ap (λ (r : SessionRow). Some r) parts.0 in
    let found : row_of session_name w (sessions past) ≡ Some row = lives_some session_life session_begun at (row_of session_name w (sessions past)) row whole in
    let named : row.word ≡ w = (row_of-has session_name w (sessions past) row found).1 in
    let F : Word → Type 0 = λ v. row_of session_name v (sessions past) ≡ Some row in
    let L : Word → Type 0 = λ v. live_in at v (sessions past) ≡ Some row in
    record { shown = ap (λ (v : Word). Some v) (sym named); found = subst F (sym named) found; live = subst L (sym named) whole; user_is = parts.1 }

renewed_so : (past : OpPast) (at user : ℕ) (presented : Option Word) (row : SessionRow) → session_renewed past at user presented ≡ Some row → Renewed past at user presented row
renewed_so past at user None row h = cc
renewed_so past at user (Some w) row h = renewed_by past at user w (live_session past at (Some w)) row refl h

-- a renewed session was this browser's already
renewed_leaves : (s : Site) (from : ℕ) (request : Ask) (p : OpPair) (world : World) (w : Word) (user : ℕ) (shown : Option Word) (row : SessionRow) → leaks world (Provider from request p) ≡ false → IsKept s world
    → shown ≡ request.second → session_renewed (op_past world) p.entry.at user shown ≡ Some row → w ≡ (session_after (op_past world) p.entry user shown).word → Leaves s (Provider from request p) world p w user shown
renewed_leaves s from request p world w user shown row tight kept cookie renewed word_is =
    let x : Place = Provider from request p in
    let past : OpPast = op_past world in
    let e : Entry OpAsk = p.entry in
    let signed : List Signed = (machine_of s world).signed in
    let r : Renewed past e.at user shown row = renewed_so past e.at user shown row renewed in
    let has : Has (sessions past) row = (row_of-has session_name row.word (sessions past) row r.found).0 in
    let owned : IsSessionOwned s.configuration world signed row = all_has (IsSessionOwned s.configuration world signed) (sessions past) row kept.holds.sessions has in
    let mine : from ≡ owned.from = own_browser x world owned.from row.word tight (presents_second from request p shown row.word cookie r.shown) owned.set in
    let O : ℕ → Type 0 = λ b. Owns signed (word_text row.sid) row.user b in
    let owns : O from = subst O (sym mine) owned.owned in
    let A : Option SessionRow → SessionRow = λ o. session_left e user o in
    let word : w ≡ row.word = word_is ∙ ap (λ (o : Option SessionRow). (A o).word) renewed in
    let L : Option SessionRow → SessionRow = λ o. session_by past p o w user in
    let V : Word → Option SessionRow = λ v. live_in e.at v (sessions past) in
    let D : Word → Type 0 = λ v. Has (drawn (x ∷ world)) v in
    let signer : Signed = record { sid = word_text row.sid; user = row.user; browser = from } in
    record {
      made = session_by past p (Some row) w user;
      made_is = ap L (ap V word ∙ r.live);
      word_is = sym word;
      user_is = r.user_is;
      sid_word = owned.sid_word;
      auth_is = refl;
      only = owns.only;
      text = text_more x world (word_text row.sid) (all_has (λ (z : Signed). IsDrawnText world z.sid) signed signer kept.holds.signed owns.has);
      word_drawn = subst D (sym word) (drawn_more x world row.word owned.word_drawn);
      as_after = sym (ap (λ (o : Option SessionRow). session_authentication (A o)) renewed);
      unclosed = all_has (λ (z : SessionRow). Lacks (machine_of s world).closed (word_text z.sid)) (sessions past) row kept.holds.unclosed has;
      before = row.clients;
      clients_are = refl;
      answers = λ client had.
          let was : AnsweredBy (machine_of s world).answered client row = all_has (IsSessionAnswered (machine_of s world).answered) (sessions past) row kept.holds.clients has client had in
          record { answer = was.answer; has = was.has; client_is = was.client_is; user_is = was.user_is; sid_is = was.sid_is };
    }

-- ---- the steps of a session word

-- a session whose owner is the only one keeps it
owns_more : (signed : List Signed) (from other user : ℕ) (sid : Text) (session : SessionRow) → IsOnly signed from session → Owns signed sid user other → Owns (sign_row from session ∷ signed) sid user other
owns_more signed from other user sid session only owns =
    let owner : Signed = record { sid = sid; user = user; browser = other } in
    let told : owner.sid ≡ word_text session.sid → owner ≡ sign_row from session = all_has (λ (row : Signed). row.sid ≡ word_text session.sid → row ≡ sign_row from session) signed owner only owns.has in
    record { has = inr owns.has; only = (λ same. sym (told (sym same)), owns.only) }

-- with other clients a session belongs to whom it belonged
with_clients : (c : Configuration) (world : World) (signed : List Signed) (past : OpPast) (p : OpPair) (row after : SessionRow) → KeptSession past p row after → IsSessionOwned c world signed row → IsSessionOwned c world signed after
with_clients c world signed past p row after left owned =
    let same : IsSessionOwned c world signed (record row { clients = left.clients }) =
    record { from = owned.from; set = owned.set; owned = owned.owned; user = owned.user; word_drawn = owned.word_drawn; sid_word = owned.sid_word; auth_time = owned.auth_time } in
    subst (IsSessionOwned c world signed) left.is same

-- the session that a login form with a right password left, and that its user signed in there
pub record IsSigned (past : OpPast) (p : OpPair) (from : ℕ) (signed : List Signed) (w : Word) : Type 0 where
  pub user : ℕ
  pub turn : Option Word
  pub browser : Option Word
  pub presented : Option Word
  pub asked : p.entry.ask ≡ Login turn (Some user) browser presented
  pub row : SessionRow
  pub found : session_of (p ∷ past) (Some w) ≡ Some row
  pub signs : Has signed (sign_row from row)
  pub as_after : session_authentication row ≡ session_authentication (session_after past p.entry user presented)

-- what the first step of a place leaves
pub record Signs (s : Site) (from : ℕ) (request : Ask) (p : OpPair) (world : World) : Type 0 where
  pub signed : List Signed
  pub run : IsRun (machine_of s world) (sign_steps from (op_past world) p (session_given p.reply))
  pub leaves : after_all (machine_of s world) (sign_steps from (op_past world) p (session_given p.reply)) ≡ record (machine_of s world) { signed = signed }
  pub texts : AllByRecursion (λ (row : Signed). IsDrawnText (Provider from request p ∷ world) row.sid) signed
  pub sessions_owned : AllByRecursion (IsSessionOwned s.configuration (Provider from request p ∷ world) signed) (sessions (p ∷ op_past world))
  pub still : (z : Signed) → Has (machine_of s world).signed z → Has signed z
  pub unclosed : AllByRecursion (λ (row : SessionRow). Lacks (machine_of s world).closed (word_text row.sid)) (sessions (p ∷ op_past world))
  pub clients : AllByRecursion (AreClientsFrom (machine_of s world).answered (op_past world) p) (sessions (p ∷ op_past world))
  pub is_signed : (w : Word) → session_given p.reply ≡ Some w → IsSigned (op_past world) p from signed w

-- a session that a pair keeps is as unclosed as before
kept_open : (closed : List Text) (past : OpPast) (p : OpPair) (row after : SessionRow) → KeptSession past p row after → Lacks closed (word_text row.sid) → Lacks closed (word_text after.sid)
kept_open closed past p row after kept old = (let L : SessionRow → Type 0 = λ r. Lacks closed (word_text r.sid) in subst L kept.is old)

-- no session word
unsigned : (s : Site) (from : ℕ) (request : Ask) (p : OpPair) (world : World) → IsKept s world → session_given p.reply ≡ None → Signs s from request p world
unsigned s from request p world kept none =
    let x : Place = Provider from request p in
    let c : Configuration = s.configuration in
    let m : Machine = machine_of s world in
    let past : OpPast = op_past world in
    let steps : sign_steps from past p (session_given p.reply) ≡ [] = ap (sign_steps from past p) none in
    let R : List Step → Type 0 = λ taken. IsRun m taken in
    let made : session_made (sessions past) past p ≡ None = ap (λ (o : Option Word). session_made_by (sessions past) past p o (signed_user p.entry.ask)) (set_none p.entry.ask p.reply none) in
    record {
      signed = m.signed;
      run = subst R (sym steps) tt;
      leaves = ap (after_all m) steps;
      texts = signed_more x world m.signed kept.holds.signed;
      sessions_owned =
          all_rows (IsSessionOwned c world m.signed) (IsSessionOwned c (x ∷ world) m.signed) session_name (session_made (sessions past) past p) (session_kept past p) (sessions past)
          (λ row after left owned. with_clients c (x ∷ world) m.signed past p row after (kept_session past p row after left) (session_more c x world m.signed m.signed row (λ holder owns. owns) owned))
          (λ row new. let never : None ≡ Some row = sym made ∙ new in cc)
          kept.holds.sessions;
      still = λ z has. has;
      unclosed =
          all_rows (λ (row : SessionRow). Lacks m.closed (word_text row.sid)) (λ (row : SessionRow). Lacks m.closed (word_text row.sid)) session_name (session_made (sessions past) past p) (session_kept past p) (sessions past)
          (λ row after left was. kept_open m.closed past p row after (kept_session past p row after left) was)
          (λ row new. let never : None ≡ Some row = sym made ∙ new in absurd (cc))
          kept.holds.unclosed;
      clients =
          all_rows (IsSessionAnswered m.answered) (AreClientsFrom m.answered past p) session_name (session_made (sessions past) past p) (session_kept past p) (sessions past)
          (λ row after left was. kept_clients m.answered past p row after (kept_session past p row after left) was)
          (λ row new. let never : None ≡ Some row = sym made ∙ new in absurd (cc))
          kept.holds.clients;
      is_signed = λ w given. (let never : None ≡ Some w = sym none ∙ given in cc);
    }

-- a session word is that of a right password
signed_in : (s : Site) (from : ℕ) (request : Ask) (p : OpPair) (world : World) (w : Word) (turn browser shown : Option Word) (user : ℕ) → IsKept s world → session_given p.reply ≡ Some w
    → p.entry.ask ≡ Login turn (Some user) browser shown → user < length s.configuration.users → p.entry.at ≤ latest_moment → Leaves s (Provider from request p) world p w user shown → Signs s from request p world
signed_in s from request p world w turn browser shown user kept given asked known moment l =
    let x : Place = Provider from request p in
    let c : Configuration = s.configuration in
    let m : Machine = machine_of s world in
    let past : OpPast = op_past world in
    let signer : Signed = sign_row from l.made in
    let signed : List Signed = signer ∷ m.signed in
    let set_is : session_set p.entry.ask p.reply ≡ Some w = ap (λ (a : OpAsk). session_set a p.reply) asked ∙ set_some turn (Some user) browser shown p.reply w given in
    let signed_is : signed_user p.entry.ask ≡ Some user = ap signed_user asked in
    let M : Option Word → Option ℕ → Option SessionRow = λ o u. session_made_by (sessions past) past p o u in
    let made : session_made (sessions past) past p ≡ Some l.made =
    ap (λ (o : Option Word). M o (signed_user p.entry.ask)) set_is ∙ ap (M (Some w)) signed_is ∙ ap (λ (r : SessionRow). Some r) l.made_is in
    let PutOf : Option SessionRow → Option SessionRow = λ o. row_of session_name w (put session_name o (filter_map (session_kept past p) (sessions past))) in
    let found : session_of (p ∷ past) (Some w) ≡ Some l.made = ap PutOf made ∙ row_of-put_same session_name w l.made (filter_map (session_kept past p) (sessions past)) l.word_is in
    let steps : sign_steps from past p (session_given p.reply) ≡ sign signer ∷ [] =
    ap (sign_steps from past p) given
    ∙ ap (λ (u : Option ℕ). sign_of from u (session_of (p ∷ past) (Some w)) ∷ []) signed_is
    ∙ ap (λ (o : Option SessionRow). sign_of from (Some user) o ∷ []) found
    ∙ ap (λ (u : ℕ). sign (record { sid = word_text l.made.sid; user = u; browser = from }) ∷ []) (sym l.user_is) in
    let R : List Step → Type 0 = λ taken. IsRun m taken in
    let Sets : Option Word → Type 0 = λ o. Has (words_in (browser_given p.reply) ++ words_in o) l.made.word in
    let sets : Has (set_at x) l.made.word = subst Sets (sym given) (has_append_right (words_in (browser_given p.reply)) (w ∷ []) l.made.word (inl (sym l.word_is))) in
    let Known : ℕ → Type 0 = λ u. u < length c.users in
    let Timely : ℕ → Type 0 = λ t. t ≤ latest_moment in
    let D : Word → Type 0 = λ v. Has (drawn (x ∷ world)) v in
    let owned : IsSessionOwned c (x ∷ world) signed l.made =
    record {
      from = from;
      set = record { place = x; has = inl refl; sets = sets; by = refl };
      owned = record { has = inl refl; only = (λ same. refl, l.only) };
      user = subst Known (sym l.user_is) known;
      word_drawn = subst D (sym l.word_is) l.word_drawn;
      sid_word = l.sid_word;
      auth_time = subst Timely (sym l.auth_is) moment;
    } in
    let used : session_used past p.entry.ask p.reply ≡ Some w = ap (λ (a : OpAsk). session_used past a p.reply) asked ∙ set_some turn (Some user) browser shown p.reply w given in
    let uses : is_word (session_used past p.entry.ask p.reply) l.made.word ≡ true = ap (λ (o : Option Word). is_word o l.made.word) used ∙ bytes_true w l.made.word (sym l.word_is) in
    let made_clients : AreClientsFrom m.answered past p l.made =
    λ client has.
    let H : List Bool → Type 0 = λ z. has_client client z ≡ true in
    elim (and_has client (client_answered past p) l.before (subst H l.clients_are has)) [ inl before ↦ inl (l.answers client before) | inr now ↦ inr (now, uses) ] in
    record {
      signed = signed;
      run = subst R (sym steps) ((l.only, l.unclosed), tt);
      leaves = ap (after_all m) steps;
      texts = (l.text, signed_more x world m.signed kept.holds.signed);
      sessions_owned =
          all_rows (IsSessionOwned c world m.signed) (IsSessionOwned c (x ∷ world) signed) session_name (session_made (sessions past) past p) (session_kept past p) (sessions past)
          (λ row after left old.
          with_clients c (x ∷ world) signed past p row after (kept_session past p row after left)
          (session_more c x world m.signed signed row (λ holder owns. owns_more m.signed from holder row.user (word_text row.sid) l.made l.only owns) old))
          (λ row new. subst (IsSessionOwned c (x ∷ world) signed) (same_Some l.made row (sym made ∙ new)) owned)
          kept.holds.sessions;
      still = λ z has. inr has;
      unclosed =
          all_rows (λ (row : SessionRow). Lacks m.closed (word_text row.sid)) (λ (row : SessionRow). Lacks m.closed (word_text row.sid)) session_name (session_made (sessions past) past p) (session_kept past p) (sessions past)
          (λ row after left was. kept_open m.closed past p row after (kept_session past p row after left) was)
          (λ row new. let same : l.made ≡ row = same_Some l.made row (sym made ∙ new) in let L : SessionRow → Type 0 = λ r. Lacks m.closed (word_text r.sid) in subst L same l.unclosed)
          kept.holds.unclosed;
      clients =
          all_rows (IsSessionAnswered m.answered) (AreClientsFrom m.answered past p) session_name (session_made (sessions past) past p) (session_kept past p) (sessions past)
          (λ row after left was. kept_clients m.answered past p row after (kept_session past p row after left) was)
          (λ row new. let same : l.made ≡ row = same_Some l.made row (sym made ∙ new) in let C : SessionRow → Type 0 = λ r. AreClientsFrom m.answered past p r in subst C same made_clients)
          kept.holds.clients;
      is_signed = λ v given_v.
          (let same : w ≡ v = same_Some w v (sym given ∙ given_v) in
          let G : Word → Type 0 = λ z. session_of (p ∷ past) (Some z) ≡ Some l.made in
          record { user = user; turn = turn; browser = browser; presented = shown; asked = asked; row = l.made; found = subst G same found; signs = inl refl; as_after = l.as_after });
    }

-- the cookies of a login form
login_cookie : (c : Configuration) (request : Ask) (turn browser shown : Option Word) (signed : Option ℕ) → prepared c request ≡ Login turn signed browser shown → shown ≡ request.second
login_cookie c request turn browser shown signed asked = (let C : OpAsk → Type 0 = λ a. HasCookies request a in (subst C asked (has_cookies c request)).1)

pub signs : (s : Site) (from : ℕ) (request : Ask) (p : OpPair) (world : World) → IsSite s → IsLegalWorld s (Provider from request p ∷ world) → HasDistinctWords (Provider from request p ∷ world)
    → leaks world (Provider from request p) ≡ false → IsKept s world → Signs s from request p world
signs s from request p world site legal distinct tight kept =
    let x : Place = Provider from request p in
    let c : Configuration = s.configuration in
    let past : OpPast = op_past world in
    elim (option_cases (session_given p.reply)) [
      | inl none ↦ unsigned s from request p world kept none
      | inr given ↦
          (let w : Word = given.0 in
          let passed : PassedPassword past p.entry w = session_words_need_a_password c [] past p w legal.provider given.1 in
          let asked : prepared c request ≡ Login passed.turn (Some passed.user) passed.browser passed.presented = sym legal.asked.0 ∙ passed.asked in
          let known : passed.user < length c.users = user_is_known c request passed.turn passed.browser passed.presented passed.user site.registry asked in
          let leaves : Leaves s x world p w passed.user passed.presented =
          elim (option_cases (session_renewed past p.entry.at passed.user passed.presented)) [
            | inl new ↦ new_leaves s x world p w passed.user passed.presented refl legal.provider.1.four legal distinct kept new passed.word_is
            | inr old ↦ renewed_leaves s from request p world w passed.user passed.presented old.0 tight kept (login_cookie c request passed.turn passed.browser passed.presented (Some passed.user) asked) old.1 passed.word_is
          ] in
          signed_in s from request p world w passed.turn passed.browser passed.presented passed.user kept given.1 passed.asked known legal.provider.1.moment leaves)
    ]
