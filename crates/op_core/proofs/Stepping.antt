-- One more pair: what the provider keeps beside its history, it keeps after a step.
use Rattle.std.proofs.Common.{◌≡◌, ◌≤◌, ℕ, ◌+◌, Bool, true, List, [], ◌∷◌, ◌++◌, reverse, Some, refl, sym, ◌∙◌, ap, subst}
use Rattle.std.specs.List.{list_all}
use Rattle.sso_base.specs.Legal.{last_moment, IsEntry}
use Rattle.sso_base.specs.Journal.{most_of, history_weight}
use Rattle.sso_base.proofs.Histories.{past_more, longer_is_legal}
use Rattle.client_registry.specs.Configuration.{Configuration}
use Rattle.client_registry.specs.Numbers.{is_user}
use Rattle.code_grant.specs.declared.rows.TurnRow.{TurnRow}
use Rattle.code_grant.specs.declared.rows.SessionRow.{SessionRow}
use Rattle.code_grant.specs.declared.rows.CodeRow.{CodeRow}
use Rattle.code_grant.specs.declared.rows.TokenRow.{TokenRow}
use Rattle.code_grant.specs.Rows.{turn_name, turn_begun, session_name, session_begun, code_name, code_begun, access_name, access_begun}
use Rattle.oidc_words.specs.Lives.{turn_life, session_life, code_life, access_life}
use Rattle.code_grant.specs.Tables.{Tables}
use Rattle.op_exchange.specs.Asks.{is_prepared_wish}
use Rattle.op_exchange.specs.Values.{IsOpAsk}
use Rattle.op_exchange.specs.Weight.{ask_weight}
use Rattle.op_answer.specs.Past.{OpPair, OpPast}
use Rattle.op_answer.specs.Turns.{turns, turn_made, turn_kept}
use Rattle.op_answer.specs.Sessions.{sessions, session_made, session_kept}
use Rattle.op_answer.specs.Codes.{codes_issued, code_made, code_kept}
use Rattle.op_answer.specs.AccessTokens.{accesses, access_made, access_kept}
use Rattle.op_answer.specs.Answering.{op_answer}
use Rattle.op_tables.specs.Agreeing.{AreOwn, is_own_turn, is_own_session, is_own_code, is_own_token}
use Rattle.op_core.specs.Keeps.{KeepsPast, Keeps}
use Rattle.op_tables.specs.Keeping.{IsUpdate}
use Rattle.held_rows.proofs.Kept.{all_good_after}
use Rattle.op_answer.proofs.KeptRows.{turn_wish_kept, session_user_kept, code_keeps, access_keeps}
use Rattle.op_tables.proofs.Carried.{agrees_carried, is_begun_carried}

-- ---- the rows are about users, clients and wishes that requests to this provider give

-- an own row stays one
kept_own : {R X : Type 0} (f : R → X) (good : X → Bool) (r s : R) → f s ≡ f r → good (f r) ≡ true → good (f s) ≡ true
kept_own f good r s same h = ap good same ∙ h

code_own_kept : (c : Configuration) (past : OpPast) (p : OpPair) (r s : CodeRow) → code_kept past p r ≡ Some s → is_own_code c r ≡ true → is_own_code c s ≡ true
code_own_kept c past p r s kept h =
    let O : CodeRow → Bool = λ x. is_own_code c x in
    code_keeps O (λ row spent. refl) past p r s kept ∙ h

token_own_kept : (c : Configuration) (past : OpPast) (p : OpPair) (r s : TokenRow) → access_kept past p r ≡ Some s → is_own_token c r ≡ true → is_own_token c s ≡ true
token_own_kept c past p r s kept h =
    let O : TokenRow → Bool = λ x. is_own_token c x in
    access_keeps O past p r s kept ∙ h

pub own_carried : (c : Configuration) (t u : Tables) (past : OpPast) (p : OpPair) → AreOwn c t → IsUpdate t u past p
    → ((r : TurnRow) → turn_made (turns past) past p ≡ Some r → is_own_turn c r ≡ true)
    → ((r : SessionRow) → session_made (sessions past) past p ≡ Some r → is_own_session c r ≡ true)
    → ((r : CodeRow) → code_made (codes_issued past) past p ≡ Some r → is_own_code c r ≡ true)
    → ((r : TokenRow) → access_made (accesses past) past p ≡ Some r → is_own_token c r ≡ true)
    → AreOwn c u
own_carried c t u past p own follows turn session code token =
    let at : ℕ = p.entry.at in
    let T : List TurnRow → Type 0 = λ rows. list_all (is_own_turn c) rows ≡ true in
    let S : List SessionRow → Type 0 = λ rows. list_all (is_own_session c) rows ≡ true in
    let C : List CodeRow → Type 0 = λ rows. list_all (is_own_code c) rows ≡ true in
    let K : List TokenRow → Type 0 = λ rows. list_all (is_own_token c) rows ≡ true in
    record {
      turns =
          subst T (sym follows.turns_are)
          (all_good_after (is_own_turn c) turn_name turn_life turn_begun at (turn_kept past p) (turn_made (turns past) past p) t.turns
          (λ r s kept h. kept_own (λ (x : TurnRow). x.wish) (is_prepared_wish c) r s (turn_wish_kept past p r s kept) h) turn own.turns);
      sessions =
          subst S (sym follows.sessions_are)
          (all_good_after (is_own_session c) session_name session_life session_begun at (session_kept past p) (session_made (sessions past) past p) t.sessions
          (λ r s kept h. kept_own (λ (x : SessionRow). x.user) (is_user c) r s (session_user_kept past p r s kept) h) session own.sessions);
      codes =
          subst C (sym follows.codes_are)
          (all_good_after (is_own_code c) code_name code_life code_begun at (code_kept past p) (code_made (codes_issued past) past p) t.codes
          (λ r s kept h. code_own_kept c past p r s kept h) code own.codes);
      tokens =
          subst K (sym follows.tokens_are)
          (all_good_after (is_own_token c) access_name access_life access_begun at (access_kept past p) (access_made (accesses past) past p) t.tokens
          (λ r s kept h. token_own_kept c past p r s kept h) token own.tokens);
    }

-- ---- all of it

pub keeps_more : (c : Configuration) (history : List OpPair) (t u : Tables) (most : ℕ) (p : OpPair) → Keeps c history t most → last_moment (reverse history) ≤ p.entry.at → IsUpdate t u (reverse history) p → AreOwn c u
    → IsEntry IsOpAsk p.entry → p.reply ≡ op_answer c (reverse history) p.entry → history_weight ask_weight history + ask_weight p.entry.ask ≤ most_of c.lasting → Keeps c (history ++ p ∷ []) u most
keeps_more c history t u most p keeps order follows own entry answer room =
    let past : OpPast = reverse history in
    let K : OpPast → Type 0 = λ q. KeepsPast c q u in
    record {
      tables = (subst K (sym (past_more history p)) (record {
        agrees = agrees_carried t u past p (last_moment past) order keeps.tables.agrees follows;
        begun = is_begun_carried t u past p (last_moment past) order keeps.tables.begun follows;
        own = own;
      }));
      legal = longer_is_legal IsOpAsk (op_answer c) ask_weight (most_of c.lasting) history p keeps.legal entry order answer room;
      most_is = keeps.most_is;
    }
