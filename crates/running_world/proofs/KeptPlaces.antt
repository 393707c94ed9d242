-- What was kept at a place determines what the place sets, writes and issues.
use Rattle.std.proofs.Common.{◌≡◌, ℕ, List, Option, Some, None, Ok, refl, sym, ap, ◌∙◌}
use Rattle.sso_base.specs.Words.{Word}
use Rattle.sso_base.specs.declared.history.Entry.{Entry}
use Rattle.client_registry.specs.Configuration.{Configuration}
use Rattle.code_grant.specs.declared.rows.SessionRow.{SessionRow}
use Rattle.op_exchange.specs.declared.ask.OpAsk.{OpAsk}
use Rattle.op_exchange.specs.declared.ask.OpAsk.TheVariants as op_ask
use Rattle.op_exchange.specs.declared.reply.OpReply.{OpReply}
use Rattle.op_exchange.specs.declared.reply.OpReply.TheVariants as op
use Rattle.op_request.specs.Prepared.{prepared as op_prepared}
use Rattle.op_answer.specs.Past.{OpPast}
use Rattle.sso_places.specs.declared.types.To.{To}
use Rattle.sso_places.specs.declared.types.To.TheVariants as to
use Rattle.sso_places.specs.declared.types.WorldAsk.{WorldAsk}
use Rattle.sso_places.specs.declared.types.WorldAsk.TheVariants.{Http, Tokens, Info}
use Rattle.sso_places.specs.declared.types.WorldReply.{WorldReply}
use Rattle.sso_places.specs.declared.types.WorldReply.TheVariants as reply
use Rattle.sso_places.specs.Premises.{issued_at, sets_elsewhere}
use Rattle.sso_places.specs.Site.{own_site}
use Rattle.sso_places.specs.Told.{session_ended}
use Rattle.sso_places.specs.World.{World, op_past}
use Rattle.sso_places.specs.Written.{logouts_written, op_written, written_at}
use Rattle.running_world.specs.declared.foreknown.Foreknown.{Foreknown}
use Rattle.running_world.specs.declared.kept.Asked.{Asked}
use Rattle.running_world.specs.declared.kept.Kept.{Kept}
use Rattle.running_world.specs.Foreknowing.{client_asked, IsForeknown, IsForeknownAt, IsForeknownIf}
use Rattle.running_world.specs.Noting.{sets_for, ended_writes, written_by, writes_by, writes_if, kept_writes, issued_by}
use Rattle.running_world.specs.Running.{place_asked, place_if, kept_place}
use Rattle.sso_places.specs.Cookies.{set_by}
use Rattle.running_world.specs.Whole.{Answers, IsWholeBy, IsWhole, from_if}

-- ---- cookies

module _ (c : Configuration) (other : ℕ) (w : Word) where
  asked_sets : (a : Asked) (role : To) (ask : WorldAsk) (answer : WorldReply) → Answers role ask answer → sets_elsewhere other w (place_asked c a role ask answer) ≡ sets_for a.from other w (set_by answer)
  asked_sets a to.Provider (Http request) (reply.Provider answer) is = refl
  asked_sets a to.Provider (Http request) (reply.Party answer) is = absurd is
  asked_sets a to.Provider (Http request) reply.Nothing is = absurd is
  asked_sets a to.Provider (Tokens v came) answer is = absurd is
  asked_sets a to.Provider (Info v came) answer is = absurd is
  asked_sets a (to.Party n) ask (reply.Provider answer) is = absurd is
  asked_sets a (to.Party n) ask (reply.Party answer) is = refl
  asked_sets a (to.Party n) ask reply.Nothing is = absurd is

  sets_if : (answer : WorldReply) (asked : Option Asked) → IsWholeBy answer asked → sets_elsewhere other w (place_if c asked answer) ≡ sets_for (from_if asked) other w (set_by answer)
  sets_if answer None is = ap (λ (r : WorldReply). sets_for 0 other w (set_by r)) (sym is)
  sets_if answer (Some a) is = asked_sets a a.to a.ask answer is

  pub place_sets : (k : Kept) → IsWhole k → sets_elsewhere other w (kept_place c k) ≡ sets_for (from_if k.asked) other w (set_by k.reply)
  place_sets k whole = sets_if k.reply k.asked whole

-- ---- texts

ended_write : (c : Configuration) (e : Entry OpAsk) (ended : Option SessionRow) → logouts_written c e ended ≡ ended_writes c e.at e.fresh ended
ended_write c e None = refl
ended_write c e (Some session) = refl

-- a token response is for the client of the request
tokens_write : (c : Configuration) (past : OpPast) (e : Entry OpAsk) (asked : OpAsk) (access : Word) (id : List ℕ) (ended : Option SessionRow) → op_written c past e asked (op.Tokens access id) ≡ written_by c e.at e.fresh (op.Tokens access id) (client_asked asked) ended
tokens_write c past e (op_ask.Token (Ok grant)) access id ended = refl
tokens_write c past e asked access id ended = refl

op_writes : (c : Configuration) (past : OpPast) (e : Entry OpAsk) (asked : OpAsk) (answer : OpReply) → op_written c past e asked answer ≡ written_by c e.at e.fresh answer (client_asked asked) (session_ended past e.at asked)
op_writes c past e asked (op.Answered answer given) = refl
op_writes c past e asked (op.Tokens access id) = tokens_write c past e asked access id (session_ended past e.at asked)
op_writes c past e asked (op.SignedOut messages) = ended_write c e (session_ended past e.at asked)
op_writes c past e asked answer = refl

module _ (c : Configuration) (world : World) (fore : Foreknown) where
  known_writes : (e : Entry OpAsk) (answer : OpReply) → IsForeknown c (op_past world) e.at e.ask fore → op_written c (op_past world) e e.ask answer ≡ written_by c e.at e.fresh answer fore.client fore.ended
  known_writes e answer is =
      op_writes c (op_past world) e e.ask answer
      ∙ ap (λ (client : Option ℕ). written_by c e.at e.fresh answer client (session_ended (op_past world) e.at e.ask)) (sym is.client_is)
      ∙ ap (λ (ended : Option SessionRow). written_by c e.at e.fresh answer fore.client ended) (sym is.ended_is)

  asked_writes : (a : Asked) (role : To) (ask : WorldAsk) (answer : WorldReply) → Answers role ask answer → IsForeknownAt c world a.at role ask fore → written_at (own_site c) world (place_asked c a role ask answer) ≡ writes_by c a fore role answer
  asked_writes a to.Provider (Http request) (reply.Provider answer) is known = known_writes (record { at = a.at; fresh = a.fresh; ask = op_prepared c request }) answer known
  asked_writes a to.Provider (Http request) (reply.Party answer) is known = absurd is
  asked_writes a to.Provider (Http request) reply.Nothing is known = absurd is
  asked_writes a to.Provider (Tokens v came) answer is known = absurd is
  asked_writes a to.Provider (Info v came) answer is known = absurd is
  asked_writes a (to.Party n) ask (reply.Provider answer) is known = absurd is
  asked_writes a (to.Party n) ask (reply.Party answer) is known = refl
  asked_writes a (to.Party n) ask reply.Nothing is known = absurd is

  writes : (answer : WorldReply) (asked : Option Asked) → IsWholeBy answer asked → IsForeknownIf c world asked fore → written_at (own_site c) world (place_if c asked answer) ≡ writes_if c fore asked answer
  writes answer None is known = refl
  writes answer (Some a) is known = asked_writes a a.to a.ask answer is known

  pub place_writes : (k : Kept) → IsWhole k → IsForeknownIf c world k.asked fore → written_at (own_site c) world (kept_place c k) ≡ kept_writes c fore k
  place_writes k whole known = writes k.reply k.asked whole known

-- ---- codes and access tokens

asked_issues : (c : Configuration) (a : Asked) (role : To) (ask : WorldAsk) (answer : WorldReply) → Answers role ask answer → issued_at (place_asked c a role ask answer) ≡ issued_by answer
asked_issues c a to.Provider (Http request) (reply.Provider answer) is = refl
asked_issues c a to.Provider (Http request) (reply.Party answer) is = absurd is
asked_issues c a to.Provider (Http request) reply.Nothing is = absurd is
asked_issues c a to.Provider (Tokens v came) answer is = absurd is
asked_issues c a to.Provider (Info v came) answer is = absurd is
asked_issues c a (to.Party n) ask (reply.Provider answer) is = absurd is
asked_issues c a (to.Party n) ask (reply.Party answer) is = refl
asked_issues c a (to.Party n) ask reply.Nothing is = absurd is

issues_if : (c : Configuration) (answer : WorldReply) (asked : Option Asked) → IsWholeBy answer asked → issued_at (place_if c asked answer) ≡ issued_by answer
issues_if c answer None is = ap issued_by (sym is)
issues_if c answer (Some a) is = asked_issues c a a.to a.ask answer is

pub place_issues : (c : Configuration) (k : Kept) → IsWhole k → issued_at (kept_place c k) ≡ issued_by k.reply
place_issues c k whole = issues_if c k.reply k.asked whole
