-- What is used of every place: its cookies and texts, and facts that one more place leaves true.
use Rattle.std.proofs.Common.{◌≡◌, ℕ, suc, ◌<◌, ◌≤◌, ◌==◌, ◌&&◌, not, Bool, true, false, cond, List, [], ◌∷◌, ◌++◌, length, Option, Some, None, option_and_then, inl, inr, refl, sym, ap, ◌∙◌, subst, ne_eqb, arith}
use Rattle.std.proofs.lemmas.Bool.{eqb-true, and_parts}
use Rattle.std.proofs.lemmas.Option.{same_Some}
use Rattle.std.proofs.lemmas.List.{append_assoc}
use Rattle.std.specs.Str.{bytes_eq}
use Rattle.std.specs.List.{AllByRecursion, list_any}
use Rattle.sso_base.specs.Words.{Word, Text, word_text}
use Rattle.sso_base.proofs.RowLaws.{bool_cases, option_cases, bytes_same, bytes_true, row_of-more}
use Rattle.sso_model.specs.Lists.{Has}
use Rattle.sso_model.specs.Rows.{Began, Signed, Answered, Sent, Entered, Dead, Live}
use Rattle.sso_model.proofs.ListLaws.{all_weaker}
use Rattle.op_answer.specs.Past.{OpPast}
use Rattle.rp_answer.specs.Past.{RpPair, RpPast}
use Rattle.rp_answer.specs.Deads.{deads, dead_made, dead_kept}
use Rattle.rp_answer.proofs.KeptNames.{dead_names}
use Rattle.rp_login.specs.declared.rows.DeadRow.{DeadRow}
use Rattle.rp_login.specs.Rows.{dead_name}
use Rattle.sso_base.specs.Rows.{row_of}
use Rattle.sso_base.specs.Stands as stands
use Rattle.client_registry.specs.Configuration.{Configuration}
use Rattle.rp_login.specs.declared.rows.SessionRow.{SessionRow as VisitRow}
use Rattle.code_grant.specs.declared.rows.SessionRow.{SessionRow}
use Rattle.code_grant.specs.declared.rows.CodeRow.{CodeRow}
use Rattle.sso_places.specs.Site.{Site}
use Rattle.sso_places.specs.World.{Place, Provider, Party, Nothing, World, place_at, from_of, moment_of, op_past, rp_past, op_place}
use Rattle.sso_places.specs.Reading.{jti_at}
use Rattle.sso_places.specs.Cookies.{set_at, presented}
use Rattle.sso_places.specs.Tokens.{TokenText, is_token, is_sealed_for}
use Rattle.sso_places.specs.Written.{written}
use Rattle.sso_places.specs.Checked.{checked}
use Rattle.sso_places.specs.Premises.{sets_elsewhere, set_elsewhere, leaks, is_written, is_forged, forges}
use Rattle.sso_places.specs.Each.{Each}
use Rattle.sso_places.specs.Agreement.{IsSameSession}
use Rattle.sso_places.proofs.Lists.{any_none, any_some, any_has}
use Rattle.sso_places.proofs.Places.{More, past_more, op_more, drawn_more}
use Rattle.sso_places.proofs.Numbers.{place_at_before, place_at_low}
use Rattle.sign_on.proofs.Lists.{each_weaker}
use Rattle.sign_on.proofs.Invariant.{IsSetBy, IsDrawnText, IsDrawnNonce, IsSessionOwned, AnsweredBy, IsCodeAnswered, AnsweredAs, IsTokenAnswered, SentAs, IsTokenSent, IsSentRow, IsRedeemed, IsBegunAt, IsEnteredRow, IsEndedRow, IsDeadRow, Owns, HasReplied, IsTokenBound}

-- ---- cookies

pub set_more : (x : Place) (world : World) (from : ℕ) (word : Word) → IsSetBy world from word → IsSetBy (x ∷ world) from word
set_more x world from word set = record { place = set.place; has = inr set.has; sets = set.sets; by = set.by }

not_same : (a b : ℕ) (rest : Bool) → rest ≡ true → (not (a == b) && rest) ≡ false → a ≡ b
not_same a b rest does none =
    let N : Bool → Bool = λ c. not c && rest in
    elim (bool_cases (a == b)) [
      | inl same ↦ eqb-true a b same
      | inr other ↦ (let never : true ≡ false = sym does ∙ sym (ap N other) ∙ none in cc)
    ]

-- a cookie word that a place presents was set under the place's own number
pub own_browser : (x : Place) (world : World) (from : ℕ) (word : Word) → leaks world x ≡ false → Has (presented x) word → IsSetBy world from word → from_of x ≡ from
own_browser x world from word tight presents set =
    let nowhere : set_elsewhere world (from_of x) word ≡ false = any_none (set_elsewhere world (from_of x)) (presented x) word tight presents in
    let here : sets_elsewhere (from_of x) word set.place ≡ false = any_none (sets_elsewhere (from_of x) word) world set.place nowhere set.has in
    let does : list_any (λ v. bytes_eq v word) (set_at set.place) ≡ true = any_some (λ v. bytes_eq v word) (set_at set.place) word set.sets (bytes_true word word refl) in
    sym (not_same (from_of set.place) (from_of x) (list_any (λ v. bytes_eq v word) (set_at set.place)) does here) ∙ set.by

-- ---- texts

token_same : (t u : TokenText) → u.0 ≡ t.0 → u.1 ≡ t.1 → u ≡ t
token_same t u first second =
    let F : ℕ → TokenText = λ a. (a, u.1) in
    let G : Text → TokenText = λ b. (t.0, b) in
    ap F first ∙ ap G second

-- a sealed text that is checked, and that is not forged, was written before
pub was_written : (s : Site) (world : World) (x : Place) (t : TokenText) → forges s world x ≡ false → Has (checked s x) t → is_sealed_for s.configuration t ≡ true → Has (written s world) t
was_written s world x t clean checks seals =
    let kept : is_forged s world t ≡ false = any_none (is_forged s world) (checked s x) t clean checks in
    let S : Bool → Bool = λ b. b && not (is_written s world t) in
    let rest : not (is_written s world t) ≡ false = sym (ap S seals) ∙ kept in
    elim (bool_cases (is_written s world t)) [
      | inl is ↦
          (let found = any_has (is_token t) (written s world) is in
          let parts = and_parts (found.0.0 == t.0) (bytes_eq found.0.1 t.1) found.2 in
          subst (Has (written s world)) (token_same t found.0 (eqb-true found.0.0 t.0 parts.0) (bytes_same found.0.1 t.1 parts.1)) found.1)
      | inr away ↦ (let never : true ≡ false = sym (ap not away) ∙ rest in cc)
    ]

-- ---- the provider's places by its past

pub op_place_low : (world : World) (k event : ℕ) → op_place world k ≡ Some event → (k < length (op_past world)) × (event ≤ length world)
op_place_low [] k event at = cc
op_place_low (Provider from request p ∷ world) k event at =
    let n : ℕ = suc (length world) in
    let F : Bool → Option ℕ = λ b. cond b (Some n) (op_place world k) in
    elim (bool_cases (k == length (op_past world))) [
      | inl e ↦
          (let same : k ≡ length (op_past world) = eqb-true k (length (op_past world)) e in
          let number : n ≡ event = same_Some n event (sym (ap F e) ∙ at) in
          (omega arith, omega arith))
      | inr e ↦
          (let rest = op_place_low world k event (sym (ap F e) ∙ at) in
          let low : k < length (op_past world) = rest.0 in
          let old : event ≤ length world = rest.1 in
          (omega arith, omega arith))
    ]
op_place_low (Party n from request p ∷ world) k event at =
    (let rest = op_place_low world k event at in let old : event ≤ length world = rest.1 in (rest.0, omega arith))
op_place_low (Nothing ∷ world) k event at =
    (let rest = op_place_low world k event at in let old : event ≤ length world = rest.1 in (rest.0, omega arith))

pub op_place_more : (x : Place) (world : World) (k event : ℕ) → op_place world k ≡ Some event → op_place (x ∷ world) k ≡ Some event
op_place_more (Provider from request p) world k event at =
    let low : k < length (op_past world) = (op_place_low world k event at).0 in
    let F : Bool → Option ℕ = λ b. cond b (Some (suc (length world))) (op_place world k) in
    ap F (ne_eqb k (length (op_past world)) (λ same. absurd (omega arith))) ∙ at
op_place_more (Party n from request p) world k event at = at
op_place_more Nothing world k event at = at

-- one place has one pair
pub op_place_one : (world : World) (j k event : ℕ) → op_place world j ≡ Some event → op_place world k ≡ Some event → j ≡ k
op_place_one [] j k event at_j at_k = cc
op_place_one (Provider from request p ∷ world) j k event at_j at_k =
    let n : ℕ = suc (length world) in
    let l : ℕ = length (op_past world) in
    let F : ℕ → Bool → Option ℕ = λ i b. cond b (Some n) (op_place world i) in
    elim (bool_cases (j == l)) [
      | inl e ↦
          elim (bool_cases (k == l)) [
            | inl f ↦ eqb-true j l e ∙ sym (eqb-true k l f)
            | inr f ↦
                (let number : n ≡ event = same_Some n event (sym (ap (F j) e) ∙ at_j) in
                let old : event ≤ length world = (op_place_low world k event (sym (ap (F k) f) ∙ at_k)).1 in
                absurd (omega arith))
          ]
      | inr e ↦
          elim (bool_cases (k == l)) [
            | inl f ↦
                (let number : n ≡ event = same_Some n event (sym (ap (F k) f) ∙ at_k) in
                let old : event ≤ length world = (op_place_low world j event (sym (ap (F j) e) ∙ at_j)).1 in
                absurd (omega arith))
            | inr f ↦ op_place_one world j k event (sym (ap (F j) e) ∙ at_j) (sym (ap (F k) f) ∙ at_k)
          ]
    ]
op_place_one (Party n from request p ∷ world) j k event at_j at_k = op_place_one world j k event at_j at_k
op_place_one (Nothing ∷ world) j k event at_j at_k = op_place_one world j k event at_j at_k

-- ---- facts that one more place leaves true

pub text_more : (x : Place) (world : World) (text : Text) → IsDrawnText world text → IsDrawnText (x ∷ world) text
text_more x world text old = record { word = old.word; is = old.is; has = drawn_more x world old.word old.has; value = old.value }

pub nonce_more : (x : Place) (world : World) (nonce : Option Text) → IsDrawnNonce world nonce → IsDrawnNonce (x ∷ world) nonce
nonce_more x world given old = record { text = old.text; is = old.is; drawn_text = text_more x world old.text old.drawn_text }

pub began_more : (x : Place) (world : World) (rows : List Began) → AllByRecursion (λ (row : Began). IsDrawnNonce world row.nonce) rows → AllByRecursion (λ (row : Began). IsDrawnNonce (x ∷ world) row.nonce) rows
began_more x world rows all = all_weaker (λ (row : Began). IsDrawnNonce world row.nonce) (λ (row : Began). IsDrawnNonce (x ∷ world) row.nonce) rows (λ row old. nonce_more x world row.nonce old) all

pub signed_more : (x : Place) (world : World) (rows : List Signed) → AllByRecursion (λ (row : Signed). IsDrawnText world row.sid) rows → AllByRecursion (λ (row : Signed). IsDrawnText (x ∷ world) row.sid) rows
signed_more x world rows all = all_weaker (λ (row : Signed). IsDrawnText world row.sid) (λ (row : Signed). IsDrawnText (x ∷ world) row.sid) rows (λ row old. text_more x world row.sid old) all

pub answered_more : (n : ℕ) (rows : List Answered) → AllByRecursion (λ (row : Answered). row.event ≤ n) rows → AllByRecursion (λ (row : Answered). row.event ≤ suc n) rows
answered_more n rows all = all_weaker (λ (row : Answered). row.event ≤ n) (λ (row : Answered). row.event ≤ suc n) rows (λ row low. let least : row.event ≤ n = low in omega arith) all

pub events_more : (n : ℕ) (rows : List Live) → AllByRecursion (λ (row : Live). row.event ≤ n) rows → AllByRecursion (λ (row : Live). row.event ≤ suc n) rows
events_more n rows all = all_weaker (λ (row : Live). row.event ≤ n) (λ (row : Live). row.event ≤ suc n) rows (λ row low. let least : row.event ≤ n = low in omega arith) all

redeemed_one : (x : Place) (world : World) (event : ℕ) → IsRedeemed world event → IsRedeemed (x ∷ world) event
redeemed_one x world event old =
    let more = op_more x world in
    let A : OpPast → OpPast = λ past. more.0 ++ past in
    record {
      later = more.0 ++ old.later;
      pair = old.pair;
      earlier = old.earlier;
      parts = more.1 ∙ ap A old.parts ∙ sym (append_assoc more.0 old.later (old.pair ∷ old.earlier));
      k = old.k;
      redeemed = old.redeemed;
      at = op_place_more x world old.k event old.at;
    }

pub redeemed_more : (x : Place) (world : World) (rows : List ℕ) → AllByRecursion (IsRedeemed world) rows → AllByRecursion (IsRedeemed (x ∷ world)) rows
redeemed_more x world rows all = all_weaker (IsRedeemed world) (IsRedeemed (x ∷ world)) rows (redeemed_one x world) all

pub begun_at_more : (added past whole : RpPast) (k : ℕ) (nonce : Option Text) → whole ≡ added ++ past → IsBegunAt past k nonce → IsBegunAt whole k nonce
begun_at_more added past whole k given is old =
    let A : RpPast → RpPast = λ p. added ++ p in
    record {
      later = added ++ old.later;
      maker = old.maker;
      earlier = old.earlier;
      parts = is ∙ ap A old.parts ∙ sym (append_assoc added old.later (old.maker ∷ old.earlier));
      at = old.at;
      whole = old.whole;
      value = old.value;
      nonce_is = old.nonce_is;
    }

entered_one : (s : Site) (x : Place) (world : World) (row : Entered) → IsEnteredRow s world row → IsEnteredRow s (x ∷ world) row
entered_one s x world row old =
    let more : More old.n x world = past_more old.n x world in
    let A : RpPast → RpPast = λ past. more.added ++ past in
    record {
      n = old.n;
      known = old.known;
      client = old.client;
      later = more.added ++ old.later;
      pair = old.pair;
      earlier = old.earlier;
      parts = more.is ∙ ap A old.parts ∙ sym (append_assoc more.added old.later (old.pair ∷ old.earlier));
      k = old.k;
      entered = old.entered;
      begun = begun_at_more more.added (rp_past old.n world) (rp_past old.n (x ∷ world)) old.k row.nonce more.is old.begun;
    }

pub entered_more : (s : Site) (x : Place) (world : World) (rows : List Entered) → AllByRecursion (IsEnteredRow s world) rows → AllByRecursion (IsEnteredRow s (x ∷ world)) rows
entered_more s x world rows all = all_weaker (IsEnteredRow s world) (IsEnteredRow s (x ∷ world)) rows (entered_one s x world) all

-- a record of a session identifier stays, or a later one takes its place
dead_next : (p : RpPair) (past : RpPast) (sid : Text) (row : DeadRow) → row_of dead_name sid (deads past) ≡ Some row → (after : DeadRow) × (row_of dead_name sid (deads (p ∷ past)) ≡ Some after)
dead_next p past sid row found =
    let made : Option DeadRow = dead_made (deads past) past p in
    let held : Option DeadRow = option_and_then (dead_kept past p) (row_of dead_name sid (deads past)) in
    let K : Option DeadRow → Option DeadRow = λ o. option_and_then (dead_kept past p) o in
    let M : Option DeadRow → Option DeadRow = λ o. cond (stands.is_named dead_name sid o) o held in
    let more : row_of dead_name sid (deads (p ∷ past)) ≡ M made = row_of-more dead_name dead_made dead_kept dead_names sid p past in
    elim (option_cases made) [
      | inl none ↦ (row, more ∙ ap M none ∙ ap K found)
      | inr new ↦
          (let C : Bool → Option DeadRow = λ b. cond b (Some new.0) held in
          elim (bool_cases (stands.is_named dead_name sid (Some new.0))) [
            | inl e ↦ (new.0, more ∙ ap M new.1 ∙ ap C e)
            | inr e ↦ (row, more ∙ ap M new.1 ∙ ap C e ∙ ap K found)
          ])
    ]

dead_later : (added past : RpPast) (sid : Text) (row : DeadRow) → row_of dead_name sid (deads past) ≡ Some row → (after : DeadRow) × (row_of dead_name sid (deads (added ++ past)) ≡ Some after)
dead_later [] past sid row found = (row, found)
dead_later (p ∷ added) past sid row found =
    let before = dead_later added past sid row found in
    dead_next p (added ++ past) sid before.0 before.1

dead_one : (s : Site) (x : Place) (world : World) (row : Dead) → IsDeadRow s world row → IsDeadRow s (x ∷ world) row
dead_one s x world row old =
    let more : More old.n x world = past_more old.n x world in
    let after = dead_later more.added (rp_past old.n world) row.sid old.dead old.remembered in
    let D : RpPast → Option DeadRow = λ past. row_of dead_name row.sid (deads past) in
    record { n = old.n; known = old.known; client = old.client; dead = after.0; remembered = ap D more.is ∙ after.1 }

pub dead_more : (s : Site) (x : Place) (world : World) (rows : List Dead) → AllByRecursion (IsDeadRow s world) rows → AllByRecursion (IsDeadRow s (x ∷ world)) rows
dead_more s x world rows all = all_weaker (IsDeadRow s world) (IsDeadRow s (x ∷ world)) rows (dead_one s x world) all

-- an answer more
answered_as_more : (c : Configuration) (row : Answered) (answered : List Answered) (t : TokenText) → IsTokenAnswered c answered t → IsTokenAnswered c (row ∷ answered) t
answered_as_more c row answered t old key x nonce read is =
    let was : AnsweredAs c answered t.0 x nonce = old key x nonce read is in
    record { row = was.row; has = inr was.has; nonce_is = was.nonce_is; client_is = was.client_is; known = was.known; subject = was.subject; sid = was.sid }

pub tokens_more : (c : Configuration) (row : Answered) (answered : List Answered) (texts : List TokenText) → AllByRecursion (IsTokenAnswered c answered) texts → AllByRecursion (IsTokenAnswered c (row ∷ answered)) texts
tokens_more c row answered texts all = all_weaker (IsTokenAnswered c answered) (IsTokenAnswered c (row ∷ answered)) texts (answered_as_more c row answered) all

-- a session stays owned if its owner stays the only one
pub session_more : (c : Configuration) (x : Place) (world : World) (signed after : List Signed) (row : SessionRow)
    → ((from : ℕ) → Owns signed (word_text row.sid) row.user from → Owns after (word_text row.sid) row.user from)
    → IsSessionOwned c world signed row → IsSessionOwned c (x ∷ world) after row
session_more c x world signed after row stays old =
    record {
      from = old.from;
      set = set_more x world old.from row.word old.set;
      owned = stays old.from old.owned;
      user = old.user;
      word_drawn = drawn_more x world row.word old.word_drawn;
      sid_word = old.sid_word;
      auth_time = old.auth_time;
    }

pub sessions_more : (c : Configuration) (x : Place) (world : World) (signed : List Signed) (rows : List SessionRow) → AllByRecursion (IsSessionOwned c world signed) rows → AllByRecursion (IsSessionOwned c (x ∷ world) signed) rows
sessions_more c x world signed rows all =
    all_weaker (IsSessionOwned c world signed) (IsSessionOwned c (x ∷ world) signed) rows (λ row old. session_more c x world signed signed row (λ from owns. owns) old) all

-- a code stays answered if the answers stay
pub code_more : (c : Configuration) (x : Place) (world : World) (answered after : List Answered) (row : CodeRow) → ((a : Answered) → Has answered a → Has after a)
    → IsCodeAnswered c world answered row → IsCodeAnswered c (x ∷ world) after row
code_more c x world answered after row stays old =
    record {
      wish = old.wish;
      user = old.user;
      sid_word = old.sid_word;
      auth_time = old.auth_time;
      event = old.event;
      place = op_place_more x world row.by old.event old.place;
      to = old.to;
      has = stays (record { event = old.event; browser = old.to; nonce = row.wish.nonce; client = row.wish.client; user = row.user; sid = word_text row.sid }) old.has;
    }

pub codes_more : (c : Configuration) (x : Place) (world : World) (answered after : List Answered) (rows : List CodeRow) → ((a : Answered) → Has answered a → Has after a)
    → AllByRecursion (IsCodeAnswered c world answered) rows → AllByRecursion (IsCodeAnswered c (x ∷ world) after) rows
codes_more c x world answered after rows stays all =
    all_weaker (IsCodeAnswered c world answered) (IsCodeAnswered c (x ∷ world) after) rows (λ row old. code_more c x world answered after row stays old) all

-- the same sessions of a larger world
pub same_more : (s : Site) (x : Place) (world : World) (n : ℕ) (row : Live) (visit : VisitRow) → row.event ≤ length world → IsSameSession s world n row visit → IsSameSession s (x ∷ world) n row visit
same_more s x world n row visit low same =
    record {
      request = same.request;
      pair = same.pair;
      place = place_at_before x world row.event low ∙ same.place;
      reply = same.reply;
      moment = same.moment;
      nonce = same.nonce;
      user = same.user;
      sid = same.sid;
    }

pub each_more : (s : Site) (x : Place) (world : World) (n : ℕ) (rows : List Live) (visits : List VisitRow) → AllByRecursion (λ (row : Live). row.event ≤ length world) rows
    → Each (IsSameSession s world n) rows visits → Each (IsSameSession s (x ∷ world) n) rows visits
each_more s x world n rows visits low each =
    each_weaker (λ (row : Live). row.event ≤ length world) (IsSameSession s world n) (IsSameSession s (x ∷ world) n) rows visits (same_more s x world n) low each

-- texts that were drawn
pub texts_more : (x : Place) (world : World) (texts : List Text) → AllByRecursion (IsDrawnText world) texts → AllByRecursion (IsDrawnText (x ∷ world)) texts
texts_more x world texts all = all_weaker (IsDrawnText world) (IsDrawnText (x ∷ world)) texts (text_more x world) all

-- what is at a place of the world stays there
pub at_more : {A : Type 0} (f : Option Place → Option A) (x : Place) (world : World) (number : ℕ) (a : A) → f None ≡ None → f (place_at world number) ≡ Some a → f (place_at (x ∷ world) number) ≡ Some a
at_more f x world number a nothing at =
    elim (option_cases (place_at world number)) [
      | inl none ↦ (let never : None ≡ Some a = sym nothing ∙ sym (ap f none) ∙ at in absurd (cc))
      | inr some ↦ ap f (place_at_before x world number (place_at_low world number some.0 some.1)) ∙ at
    ]

-- messages
pub sent_row_more : (c : Configuration) (x : Place) (world : World) (row : Sent) → IsSentRow c world row → IsSentRow c (x ∷ world) row
sent_row_more c x world row old =
    record { place = old.place; there = place_at_before x world row.place (place_at_low world row.place old.place old.there) ∙ old.there; four = old.four; word = old.word; known = old.known }

pub sent_more : (c : Configuration) (x : Place) (world : World) (rows : List Sent) → AllByRecursion (IsSentRow c world) rows → AllByRecursion (IsSentRow c (x ∷ world)) rows
sent_more c x world rows all = all_weaker (IsSentRow c world) (IsSentRow c (x ∷ world)) rows (sent_row_more c x world) all

pub sent_as_more : (c : Configuration) (x : Place) (world : World) (sent after : List Sent) (t : TokenText) → ((row : Sent) → Has sent row → Has after row) → IsTokenSent c world sent t → IsTokenSent c (x ∷ world) after t
sent_as_more c x world sent after t stays old key y read =
    let was : SentAs c world sent t.0 y = old key y read in
    record {
      row = was.row;
      has = stays was.row was.has;
      client_is = was.client_is;
      known = was.known;
      jti = at_more (jti_at t.0) x world was.row.place y.jti refl was.jti;
      moment = at_more (option_and_then moment_of) x world was.row.place y.iat refl was.moment;
      subject = was.subject;
      sid = was.sid;
    }

pub logouts_more : (c : Configuration) (x : Place) (world : World) (sent after : List Sent) (texts : List TokenText) → ((row : Sent) → Has sent row → Has after row)
    → AllByRecursion (IsTokenSent c world sent) texts → AllByRecursion (IsTokenSent c (x ∷ world) after) texts
logouts_more c x world sent after texts stays all = all_weaker (IsTokenSent c world sent) (IsTokenSent c (x ∷ world) after) texts (λ t old. sent_as_more c x world sent after t stays old) all

-- ID Tokens in one reply with codes and access tokens
bound_one : (c : Configuration) (x : Place) (world : World) (t : TokenText) → IsTokenBound c world t → IsTokenBound c (x ∷ world) t
bound_one c x world t old key y nonce read is =
    let was : HasReplied world t.1 y = old key y nonce read is in
    record { from = was.from; request = was.request; pair = was.pair; has = inr was.has; replied = was.replied }

pub bound_more : (c : Configuration) (x : Place) (world : World) (texts : List TokenText) → AllByRecursion (IsTokenBound c world) texts → AllByRecursion (IsTokenBound c (x ∷ world)) texts
bound_more c x world texts all = all_weaker (IsTokenBound c world) (IsTokenBound c (x ∷ world)) texts (bound_one c x world) all

-- logout tokens that were accepted
ended_one : (s : Site) (x : Place) (world : World) (row : Sent) → IsEndedRow s world row → IsEndedRow s (x ∷ world) row
ended_one s x world row old =
    let more : More old.n x world = past_more old.n x world in
    let A : RpPast → RpPast = λ past. more.added ++ past in
    record {
      n = old.n;
      known = old.known;
      client = old.client;
      later = more.added ++ old.later;
      pair = old.pair;
      earlier = old.earlier;
      parts = more.is ∙ ap A old.parts ∙ sym (append_assoc more.added old.later (old.pair ∷ old.earlier));
      claims = old.claims;
      accepts = old.accepts;
      jti = at_more (jti_at row.client) x world row.place old.claims.jti refl old.jti;
      moment = at_more (option_and_then moment_of) x world row.place old.claims.iat refl old.moment;
    }

pub ended_more : (s : Site) (x : Place) (world : World) (rows : List Sent) → AllByRecursion (IsEndedRow s world) rows → AllByRecursion (IsEndedRow s (x ∷ world)) rows
ended_more s x world rows all = all_weaker (IsEndedRow s world) (IsEndedRow s (x ∷ world)) rows (ended_one s x world) all

-- the clients of a session stay answered if the answers stay
pub answered_by_more : (answered after : List Answered) (client : ℕ) (row : SessionRow) → ((a : Answered) → Has answered a → Has after a) → AnsweredBy answered client row → AnsweredBy after client row
answered_by_more answered after client row stays old =
    record { answer = old.answer; has = stays old.answer old.has; client_is = old.client_is; user_is = old.user_is; sid_is = old.sid_is }
