-- The state and the nonce of a login are drawn words of the one pair that began it.
use Rattle.std.proofs.Common.{◌≡◌, ◌∷◌, ◌++◌, length, Some, refl, sym, ◌∙◌, ap}
use Rattle.sso_base.specs.Words.{Word, fresh_word}
use Rattle.sso_base.specs.Rows.{row_of}
use Rattle.sso_base.proofs.Literal.{stands-row_of}
use Rattle.rp_login.specs.declared.rows.LoginRow.{LoginRow}
use Rattle.rp_login.specs.Rows.{login_name}
use Rattle.rp_exchange.specs.declared.ask.RpAsk.{RpAsk}
use Rattle.rp_exchange.specs.declared.ask.RpAsk.TheVariants as ask
use Rattle.rp_exchange.specs.declared.reply.RpReply.{RpReply}
use Rattle.rp_exchange.specs.declared.reply.RpReply.TheVariants as reply
use Rattle.rp_answer.specs.Past.{RpPair, RpPast}
use Rattle.rp_answer.specs.Logins.{logins, login_started, login_made, login_kept}
use Rattle.rp_answer.specs.Legal.{BegunBy}
use Rattle.rp_answer.proofs.KeptNames.{some_same, carried_same, login_same, login_names}

-- ---- logins

begun_by : (past later earlier : RpPast) (maker : RpPair) (login : LoginRow) → past ≡ later ++ maker ∷ earlier → (asked : RpAsk) (told : RpReply) → maker.entry.ask ≡ asked → maker.reply ≡ told
    → login_started (length earlier) maker.entry.at maker.entry.fresh asked told ≡ Some login → BegunBy past login
begun_by past later earlier maker login parts (ask.Begin presented) (reply.Ask to browser) asked told h =
    let made : LoginRow = record { state = fresh_word maker.entry.fresh 1; nonce = fresh_word maker.entry.fresh 2; browser = browser; begun = maker.entry.at; by = length earlier } in
    let same : made ≡ login = some_same made login h in
    record {
      later = later;
      maker = maker;
      earlier = earlier;
      parts = parts;
      presented = presented;
      asked = asked;
      to = to;
      replied = told ∙ ap (λ (r : LoginRow). reply.Ask to r.browser) same;
      state_drawn = sym (ap (λ (r : LoginRow). r.state) same);
      nonce_drawn = sym (ap (λ (r : LoginRow). r.nonce) same);
      begun_then = sym (ap (λ (r : LoginRow). r.begun) same);
      place = sym (ap (λ (r : LoginRow). r.by) same);
    }
begun_by past later earlier maker login parts asked told is replied h = cc

pub logins_are_drawn : (past : RpPast) (state : Word) (login : LoginRow) → row_of login_name state (logins past) ≡ Some login → BegunBy past login
logins_are_drawn past state login h =
    let s = stands-row_of login_name login_made login_kept login_names state past login h in
    let same : login ≡ s.first = carried_same login_kept login_same s.later (s.maker ∷ s.earlier) s.first login s.stays in
    begun_by past s.later s.earlier s.maker login s.parts s.maker.entry.ask s.maker.reply refl refl (s.makes ∙ ap (λ (r : LoginRow). Some r) (sym same))
