-- A place that spares a login leaves the provider's rows of its words.
use Rattle.std.proofs.Common.{◌≡◌, ℕ, List, [], ◌∷◌, ◌++◌, Option, Some, None, IfSome, refl, sym, ◌∙◌, subst}
use Rattle.sso_base.specs.Words.{Word}
use Rattle.sso_base.specs.Rows.{row_of}
use Rattle.sso_base.specs.declared.http.Ask.{Ask}
use Rattle.sso_model.proofs.ListLaws.{has_append_left, has_append_right}
use Rattle.client_registry.specs.Configuration.{Configuration}
use Rattle.code_grant.specs.declared.rows.TurnRow.{TurnRow}
use Rattle.code_grant.specs.declared.rows.SessionRow.{SessionRow}
use Rattle.code_grant.specs.declared.rows.CodeRow.{CodeRow}
use Rattle.code_grant.specs.declared.rows.TokenRow.{TokenRow}
use Rattle.code_grant.specs.Rows.{turn_name, session_name, code_name, access_name}
use Rattle.op_exchange.specs.declared.ask.OpAsk.{OpAsk}
use Rattle.op_exchange.specs.declared.ask.OpAsk.TheVariants as ask
use Rattle.op_request.specs.Requests.{HasCookies}
use Rattle.op_request.proofs.LedTo.{has_cookies}
use Rattle.op_answer.specs.Past.{OpPair}
use Rattle.op_answer.specs.Turns.{turns, turn_named}
use Rattle.op_answer.specs.Sessions.{sessions}
use Rattle.op_answer.specs.Codes.{codes_issued, code_named}
use Rattle.op_answer.specs.AccessTokens.{accesses}
use Rattle.sso_places.specs.Cookies.{words_in}
use Rattle.sso_places.specs.World.{Place, Provider, Party, Nothing, World, op_past}
use Rattle.honest_places.specs.Login.{Spares}
use Rattle.honest_places.specs.Shown.{access_named}
use Rattle.honest_places.proofs.OwnWords.{IsOwn, in_words, not_word, undrawn, not_presented, not_named}
use Rattle.honest_places.proofs.Worlds.{Now}
use Rattle.honest_provider.specs.Sparing.{Spares as OpSpares, session_shown, without_clients}
use Rattle.honest_provider.proofs.Rows.{turn_persists, code_persists, session_persists, access_persists}

session_cookie : (request : Ask) (asked : OpAsk) (w : Word) → HasCookies request asked → session_shown asked ≡ Some w → request.second ≡ Some w
session_cookie request (ask.Authorize judged b session) w has is = sym has.1 ∙ is
session_cookie request (ask.Login turn signed b session) w has is = sym has.1 ∙ is
session_cookie request (ask.Consent turn agree b session) w has is = sym has.1 ∙ is
session_cookie request (ask.SignOut session) w has is = sym has ∙ is
session_cookie request asked w has is = cc

module _ (c : Configuration) (login : List Place) (world : World) where
  -- a place of the provider that spares the login has nothing to do with a word of it
  pub op_spares : (from : ℕ) (request : Ask) (p : OpPair) → Now c (Provider from request p) world → Spares login (Provider from request p) → (w : Word) → IsOwn login world w → OpSpares w p
  op_spares from request p now spares w own =
      let x : Place = Provider from request p in
      let t : List Word = words_in (turn_named p.entry.ask) in
      let k : List Word = words_in (code_named p.entry.ask) in
      let a : List Word = words_in (access_named p.entry.ask) in
      record {
        undrawn = undrawn login world x w own now.distinct now.legal.provider.1.four;
        no_turn = not_word (turn_named p.entry.ask) w (λ is. not_named login world x w own spares (has_append_left (t ++ k) a w (has_append_left t k w (in_words (turn_named p.entry.ask) w is))));
        no_code = not_word (code_named p.entry.ask) w (λ is. not_named login world x w own spares (has_append_left (t ++ k) a w (has_append_right t k w (in_words (code_named p.entry.ask) w is))));
        no_session = not_word (session_shown p.entry.ask) w (λ is.
            not_presented login world x w own spares (has_append_right (words_in request.first) (words_in request.second) w
            (in_words request.second w (session_cookie request p.entry.ask w (subst (HasCookies request) (sym now.legal.asked.0) (has_cookies c request)) is))));
      }

  -- ---- rows of its words

  module _ (x : Place) (now : Now c x world) (spares : Spares login x) where
    pub turn_waits : (w : Word) (row : TurnRow) → IsOwn login world w → row_of turn_name w (turns (op_past world)) ≡ Some row → row_of turn_name w (turns (op_past (x ∷ world))) ≡ Some row
    turn_waits w row own there = at x now spares
      where
        at : (y : Place) → Now c y world → Spares login y → row_of turn_name w (turns (op_past (y ∷ world))) ≡ Some row
        at (Provider from request p) now spares = turn_persists c w (p ∷ []) (op_past world) row now.legal.provider (op_spares from request p now spares w own, tt) there
        at (Party n from request p) now spares = there
        at Nothing now spares = there

    pub code_waits : (w : Word) (row : CodeRow) → IsOwn login world w → row_of code_name w (codes_issued (op_past world)) ≡ Some row → row_of code_name w (codes_issued (op_past (x ∷ world))) ≡ Some row
    code_waits w row own there = at x now spares
      where
        at : (y : Place) → Now c y world → Spares login y → row_of code_name w (codes_issued (op_past (y ∷ world))) ≡ Some row
        at (Provider from request p) now spares = code_persists c w (p ∷ []) (op_past world) row now.legal.provider (op_spares from request p now spares w own, tt) there
        at (Party n from request p) now spares = there
        at Nothing now spares = there

    -- a session, except for its clients
    abbrev SessionWaits : World → Word → SessionRow → Type 0
    SessionWaits after w row = (found : SessionRow) × (row_of session_name w (sessions (op_past after)) ≡ Some found) × (without_clients found ≡ without_clients row)

    pub session_waits : (w : Word) (row : SessionRow) → IsOwn login world w → row_of session_name w (sessions (op_past world)) ≡ Some row → SessionWaits (x ∷ world) w row
    session_waits w row own there = at x now spares
      where
        at : (y : Place) → Now c y world → Spares login y → SessionWaits (y ∷ world) w row
        at (Provider from request p) now spares = session_persists c w (p ∷ []) (op_past world) row now.legal.provider (op_spares from request p now spares w own, tt) there
        at (Party n from request p) now spares = (row, there, refl)
        at Nothing now spares = (row, there, refl)

    -- an access token, whose code, if it has one, is a word of the login too
    pub access_waits : (w : Word) (row : TokenRow) → IsOwn login world w → IfSome row.code (IsOwn login world) → row_of access_name w (accesses (op_past world)) ≡ Some row
        → row_of access_name w (accesses (op_past (x ∷ world))) ≡ Some row
    access_waits w row own own_code there = at x now spares
      where
        code_spared : (p : OpPair) (code : Option Word) → ((k : Word) → IsOwn login world k → OpSpares k p) → IfSome code (IsOwn login world) → IfSome code (λ k. OpSpares k p)
        code_spared p None each own = tt
        code_spared p (Some k) each own = each k own

        at : (y : Place) → Now c y world → Spares login y → row_of access_name w (accesses (op_past (y ∷ world))) ≡ Some row
        at (Provider from request p) now spares =
            let each : (k : Word) → IsOwn login world k → OpSpares k p = λ k own. op_spares from request p now spares k own in
            access_persists c w (p ∷ []) (op_past world) row now.legal.provider ((each w own, code_spared p row.code each own_code), tt) there
        at (Party n from request p) now spares = there
        at Nothing now spares = there
