-- A session is of the one pair that let it in, under a drawn word, and of the login that entered then.
use Rattle.std.proofs.Common.{◌≡◌, ℕ, ◌∷◌, ◌++◌, Some, Ok, refl, sym, ◌∙◌, ap, subst}
use Rattle.sso_base.specs.Words.{Word, Text, fresh_word}
use Rattle.sso_base.specs.Rows.{row_of}
use Rattle.sso_base.specs.declared.history.Entry.{Entry}
use Rattle.sso_base.proofs.Literal.{stands-row_of}
use Rattle.sso_base.proofs.Histories.{legal_reply}
use Rattle.oidc_words.specs.declared.response_types.Types.{Types}
use Rattle.rp_login.specs.declared.rows.SessionRow.{SessionRow}
use Rattle.rp_login.specs.Rows.{visit_name}
use Rattle.rp_exchange.specs.declared.ask.RpAsk.{RpAsk}
use Rattle.rp_exchange.specs.declared.ask.RpAsk.TheVariants as ask
use Rattle.rp_exchange.specs.declared.reply.RpReply.{RpReply}
use Rattle.rp_exchange.specs.declared.reply.RpReply.TheVariants as reply
use Rattle.rp_exchange.specs.Values.{IsRpAsk}
use Rattle.rp_answer.specs.Past.{RpPast}
use Rattle.rp_answer.specs.Setup.{PartySetup, party_of}
use Rattle.rp_answer.specs.Visits.{visits, visit_by, visit_made, visit_kept}
use Rattle.rp_answer.specs.Answering.{rp_answer}
use Rattle.rp_answer.specs.Causes.{MayEnter}
use Rattle.rp_answer.specs.Legal.{IsLegalRp, LoginEntered, EnteredBy}
use Rattle.rp_answer.proofs.Answers.{entered_have_a_cause}
use Rattle.rp_answer.proofs.KeptNames.{some_same, carried_same, visit_same, visit_names}
use Rattle.rp_answer.proofs.Entering.{sessions_need_a_login}

-- a session is made where a login enters
pub record Let (types : Types) (at : ℕ) (past : RpPast) (asked : RpAsk) (told : RpReply) (visit : SessionRow) : Type 0 where
  pub w : Word
  pub sub : Text
  pub replied : told ≡ reply.Entered w sub
  pub made : visit_by types at past asked (reply.Entered w sub) ≡ Some visit

pub let_in : (types : Types) (at : ℕ) (past : RpPast) (asked : RpAsk) (told : RpReply) (visit : SessionRow) → visit_by types at past asked told ≡ Some visit → Let types at past asked told visit
let_in types at past asked (reply.Entered w sub) visit h = record { w = w; sub = sub; replied = refl; made = h }
let_in types at past asked told visit h = cc

drawn_by : (s : PartySetup) (past : RpPast) (e : Entry RpAsk) (asked : RpAsk) (w : Word) (sub : Text) → MayEnter s past e asked w sub → fresh_word e.fresh 1 ≡ w
drawn_by s past e (ask.Callback (Ok heard) id browser) w sub cause = cause.drawn
drawn_by s past e (ask.Tokens pending (Ok came) id) w sub cause = cause.drawn
drawn_by s past e (ask.Info pending (Ok came)) w sub cause = cause.drawn
drawn_by s past e asked w sub cause = absurd cause

-- of the row that was made, whose word and subject are those of the reply
entered_as : (s : PartySetup) (past later earlier : RpPast) (e : Entry RpAsk) (told : RpReply) (visit : SessionRow) (w : Word) (sub : Text) → past ≡ later ++ (record { entry = e; reply = told }) ∷ earlier
    → told ≡ reply.Entered w sub → fresh_word e.fresh 1 ≡ w → (entered : LoginEntered s earlier e w sub)
    → (record { word = w; nonce = entered.login.nonce; sub = sub; sid = entered.claims.sid; entered = e.at }) ≡ visit → EnteredBy s past visit
entered_as s past later earlier e told visit w sub parts replied drawn entered is =
    let row : SessionRow = record { word = w; nonce = entered.login.nonce; sub = sub; sid = entered.claims.sid; entered = e.at } in
    let E : SessionRow → Type 0 = λ v. EnteredBy s past v in
    let of_row : E row = record {
      later = later;
      maker = record { entry = e; reply = told };
      earlier = earlier;
      parts = parts;
      replied = replied;
      drawn = sym drawn;
      entered_then = refl;
      entered = entered;
      nonce_is = refl;
      sid_is = refl;
    } in
    subst E is of_row

pub visits_are_drawn : (s : PartySetup) (past : RpPast) (w : Word) (visit : SessionRow) → IsLegalRp s past
    → row_of visit_name w (visits (party_of s).types past) ≡ Some visit → EnteredBy s past visit
visits_are_drawn s past w visit legal h =
    let types : Types = (party_of s).types in
    let stood = stands-row_of visit_name (visit_made types) visit_kept visit_names w past visit h in
    let same : visit ≡ stood.first = carried_same visit_kept visit_same stood.later (stood.maker ∷ stood.earlier) stood.first visit stood.stays in
    let e : Entry RpAsk = stood.maker.entry in
    let made = let_in types e.at stood.earlier e.ask stood.maker.reply visit (stood.makes ∙ ap (λ (r : SessionRow). Some r) (sym same)) in
    let L : RpPast → Type 0 = λ x. IsLegalRp s x in
    let whole : IsLegalRp s (stood.later ++ stood.maker ∷ stood.earlier) = subst L stood.parts legal in
    let answered : stood.maker.reply ≡ rp_answer s stood.earlier e = legal_reply IsRpAsk (rp_answer s) stood.later stood.earlier stood.maker whole in
    let cause = entered_have_a_cause s stood.earlier e made.w made.sub (sym answered ∙ made.replied) in
    let entered = sessions_need_a_login s stood.later stood.earlier stood.maker made.w made.sub whole made.replied in
    let row : SessionRow = record { word = made.w; nonce = entered.login.nonce; sub = made.sub; sid = entered.claims.sid; entered = e.at } in
    entered_as s past stood.later stood.earlier e stood.maker.reply visit made.w made.sub stood.parts made.replied (drawn_by s stood.earlier e e.ask made.w made.sub cause.enters) entered
    (some_same row visit (sym entered.visit_is ∙ made.made))
