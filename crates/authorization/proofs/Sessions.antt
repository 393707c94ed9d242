-- The session of an authorization response is the one of its word after it.
use Rattle.std.proofs.Common.{◌≡◌, ℕ, ◌==◌, Bool, true, false, cond, List, ◌∷◌, filter_map, Option, Some, None, option_and_then, refl, sym, ◌∙◌, ap}
use Rattle.std.specs.Str.{bytes_eq}
use Rattle.std.proofs.lemmas.Bool.{eqb-true}
use Rattle.sso_base.specs.Words.{Word, is_word}
use Rattle.sso_base.specs.Rows.{put, row_of, without}
use Rattle.sso_base.specs.Stands.{is_named}
use Rattle.sso_base.proofs.RowLaws.{bytes_true, row_has_name, row_of-without_other, row_of-put, row_of-more, rows_distinct}
use Rattle.held_rows.specs.Held.{most_rows}
use Rattle.held_rows.proofs.Added.{unnamed_there}
use Rattle.held_rows.proofs.Found.{found_live, row_that_lives}
use Rattle.code_grant.specs.declared.rows.SessionRow.{SessionRow}
use Rattle.code_grant.specs.Rows.{session_name, session_begun}
use Rattle.oidc_words.specs.Lives.{session_life}
use Rattle.op_answer.specs.Past.{OpPair, OpPast}
use Rattle.op_answer.specs.Sessions.{sessions, session_set, signed_user, session_used, and_client, client_answered, session_by, live_in, session_made_by, session_made, ends_session, session_kept, session_of, live_sessions, live_session}
use Rattle.op_answer.specs.Replies.{if_of_user, session_renewed, session_left}
use Rattle.op_answer.specs.Room.{sessions_beside, lacks_new_session}
use Rattle.op_answer.specs.Authentications.{session_authentication}
use Rattle.op_answer.proofs.KeptNames.{some_same, session_names}
use Rattle.op_answer.proofs.Renewals.{renewed_lives}

-- the word of a session that lives
pub session_word : (past : OpPast) (at : ℕ) (shown : Option Word) (session : SessionRow) → live_session past at shown ≡ Some session → (v : Word) × (shown ≡ Some v)
session_word past at None session live = cc
session_word past at (Some v) session live = (v, refl)

-- ---- a session that a pair neither makes nor ends

pub record Rests (past : OpPast) (p : OpPair) (v : Word) (session : SessionRow) : Type 0 where
  pub clients : List Bool
  pub found : row_of session_name v (sessions past) ≡ Some session
  pub word_is : session.word ≡ v
  pub row_is : session_of (p ∷ past) (Some v) ≡ Some (record session { clients = clients })

left_some : (ends uses : Bool) (row : SessionRow) (clients : List Bool) → ends ≡ false
    → (k : List Bool) × (cond ends None (cond uses (Some (record row { clients = clients })) (Some row)) ≡ Some (record row { clients = k }))
left_some true uses row clients e = (let never : true ≡ false = e in cc)
left_some false true row clients e = (clients, refl)
left_some false false row clients e = (row.clients, refl)

pub rests : (past : OpPast) (p : OpPair) (v : Word) (session : SessionRow) → session_set p.entry.ask p.reply ≡ None → ends_session p.entry.ask p.reply session.word ≡ false
    → live_session past p.entry.at (Some v) ≡ Some session → Rests past p v session
rests past p v session unset stays live =
    let found : row_of session_name v (sessions past) ≡ Some session = row_that_lives session_life session_begun p.entry.at (row_of session_name v (sessions past)) session live in
    let unmade : session_made (sessions past) past p ≡ None = ap (λ (o : Option Word). session_made_by (sessions past) past p o (signed_user p.entry.ask)) unset in
    let O : Option SessionRow → Option SessionRow = λ o. cond (is_named session_name v o) o (option_and_then (session_kept past p) (row_of session_name v (sessions past))) in
    let left = left_some (ends_session p.entry.ask p.reply session.word) (is_word (session_used past p.entry.ask p.reply) session.word) session (and_client (client_answered past p) session.clients) stays in
    let row_is : session_of (p ∷ past) (Some v) ≡ Some (record session { clients = left.0 }) =
    row_of-more session_name session_made session_kept session_names v p past ∙ ap O unmade ∙ ap (option_and_then (session_kept past p)) found ∙ left.1 in
    record { clients = left.0; found = found; word_is = row_has_name session_name v (sessions past) session found; row_is = row_is }

-- ---- the session that a right password left

-- of its word none lived, where it is new: there was room
beside_by : (w v : Word) (rows : List SessionRow) (same : Bool) → bytes_eq v w ≡ same → row_of session_name w (cond same rows (without session_name v rows)) ≡ None → row_of session_name w rows ≡ None
beside_by w v rows true is h = h
beside_by w v rows false is h = sym (row_of-without_other session_name v w rows is) ∙ h

beside_none : (w : Word) (presented : Option Word) (rows : List SessionRow) → row_of session_name w (sessions_beside presented w rows) ≡ None → row_of session_name w rows ≡ None
beside_none w None rows h = h
beside_none w (Some v) rows h = beside_by w v rows (bytes_eq v w) refl h

new_unheld : (past : OpPast) (at : ℕ) (presented : Option Word) (w : Word) → lacks_new_session past at None presented (Some w) ≡ false → live_in at w (sessions past) ≡ None
new_unheld past at presented w room =
    found_live session_name session_life session_begun at w (sessions past) (rows_distinct session_name session_made session_kept session_names past)
    ∙ beside_none w presented (live_sessions past at) (unnamed_there most_rows session_name w (sessions_beside presented w (live_sessions past at)) room)

-- a renewed session is the user's
of_user_by : (session s : SessionRow) (user : ℕ) (same : Bool) → (session.user == user) ≡ same → cond same (Some session) None ≡ Some s → s.user ≡ user
of_user_by session s user true is h = ap (λ (r : SessionRow). r.user) (sym (some_same session s h)) ∙ eqb-true session.user user is
of_user_by session s user false is h = cc

of_user : (found : Option SessionRow) (s : SessionRow) (user : ℕ) → option_and_then (if_of_user user) found ≡ Some s → s.user ≡ user
of_user None s user h = cc
of_user (Some session) s user h = of_user_by session s user (session.user == user) refl h

pub record Left (past : OpPast) (p : OpPair) (w : Word) (user : ℕ) (after : SessionRow) : Type 0 where
  pub row : SessionRow
  pub row_is : session_of (p ∷ past) (Some w) ≡ Some row
  pub word_is : row.word ≡ w
  pub user_is : row.user ≡ user
  pub at_is : row.auth_time ≡ p.entry.at
  pub same : session_authentication row ≡ session_authentication after

module _ (past : OpPast) (p : OpPair) (w : Word) (user : ℕ) (set : session_set p.entry.ask p.reply ≡ Some w) (signed : signed_user p.entry.ask ≡ Some user) where
  put_is : (found : Option SessionRow) → live_in p.entry.at w (sessions past) ≡ found → (session_by past p found w user).word ≡ w
      → session_of (p ∷ past) (Some w) ≡ Some (session_by past p found w user)
  put_is found is named =
      let M : Option Word → Option ℕ → Option SessionRow = λ o u. session_made_by (sessions past) past p o u in
      let B : Option SessionRow → Option SessionRow = λ o. Some (session_by past p o w user) in
      let made : session_made (sessions past) past p ≡ Some (session_by past p found w user) =
      ap (λ (o : Option Word). M o (signed_user p.entry.ask)) set ∙ ap (M (Some w)) signed ∙ ap B is in
      let PutOf : Option SessionRow → Option SessionRow = λ o. row_of session_name w (put session_name o (filter_map (session_kept past p) (sessions past))) in
      let row : SessionRow = session_by past p found w user in
      let F : Bool → Option SessionRow = λ b. cond b (Some row) (row_of session_name w (filter_map (session_kept past p) (sessions past))) in
      ap PutOf made ∙ row_of-put session_name w (Some row) (filter_map (session_kept past p) (sessions past)) ∙ ap F (bytes_true row.word w named)

  pub left : (presented : Option Word) (renewed : Option SessionRow) → session_renewed past p.entry.at user presented ≡ renewed → w ≡ (session_left p.entry user renewed).word
      → lacks_new_session past p.entry.at renewed presented (Some w) ≡ false → Left past p w user (session_left p.entry user renewed)
  left presented None is word room =
      record { row = session_by past p None w user; row_is = put_is None (new_unheld past p.entry.at presented w room) refl; word_is = refl; user_is = refl; at_is = refl; same = refl }
  left presented (Some s) is word room =
      record {
        row = session_by past p (Some s) w user;
        row_is = put_is (Some s) (renewed_lives past p.entry.at user presented s w is word) (sym word);
        word_is = sym word;
        user_is = of_user (live_session past p.entry.at presented) s user is;
        at_is = refl;
        same = refl;
      }
