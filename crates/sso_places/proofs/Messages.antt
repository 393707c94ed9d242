-- The messages of a sign-out carry the logout tokens that are written.
use Rattle.std.proofs.Common.{◌≡◌, ℕ, suc, ◌+◌, Bool, true, false, List, [], ◌∷◌, ◌++◌, map, Option, Some, None, option_and_then, slice_get, inl, inr, refl, sym, ap, ◌∙◌, subst, arith}
use Rattle.sso_base.specs.Words.{Text}
use Rattle.sso_base.specs.declared.history.Entry.{Entry}
use Rattle.sso_base.specs.declared.message.Message.{Message}
use Rattle.client_registry.specs.declared.records.Client.{Client}
use Rattle.client_registry.specs.Configuration.{Configuration}
use Rattle.client_registry.specs.ClientSets.{has_client}
use Rattle.code_grant.specs.declared.rows.SessionRow.{SessionRow}
use Rattle.op_exchange.specs.declared.ask.OpAsk.{OpAsk}
use Rattle.op_exchange.specs.declared.ask.OpAsk.TheVariants.{SignOut}
use Rattle.op_exchange.specs.declared.reply.OpReply.TheVariants.{SignedOut}
use Rattle.op_issue.specs.declared.sign_out.SignOut.{SignOut as Ended}
use Rattle.op_issue.specs.LogoutTokens.{issued_logout}
use Rattle.op_issue.specs.LogoutMessages.{message_if, messages_from, logout_messages}
use Rattle.op_answer.specs.Past.{OpPast}
use Rattle.op_answer.specs.Sessions.{live_session}
use Rattle.op_answer.specs.Replies.{sign_out_of}
use Rattle.op_answer.specs.Causes.{SignedOutCause}
use Rattle.op_answer.specs.Answering.{op_answer}
use Rattle.op_answer.proofs.SignOuts.{sign_outs_have_a_cause}
use Rattle.sso_places.specs.Each.{Each}
use Rattle.sso_places.specs.Told.{told_if, told_from, session_ended, Carries}
use Rattle.sso_places.specs.Tokens.{TokenText}
use Rattle.sso_places.specs.Written.{logouts_written, op_written}

-- ---- lists

each_append : {A B : Type 0} (R : A → B → Type 0) (xs us : List A) (ys vs : List B) → Each R xs ys → Each R us vs → Each R (xs ++ us) (ys ++ vs)
each_append R [] us [] vs first second = second
each_append R [] us (y ∷ ys) vs first second = absurd first
each_append R (x ∷ xs) us [] vs first second = absurd first
each_append R (x ∷ xs) us (y ∷ ys) vs first second = (first.0, each_append R xs us ys vs first.1 second)

map_append : {A B : Type 0} (f : A → B) (xs ys : List A) → map f (xs ++ ys) ≡ map f xs ++ map f ys
map_append f [] ys = refl
map_append {A} {B} f (x ∷ xs) ys = ap (λ (zs : List B). f x ∷ zs) (map_append f xs ys)

-- ---- the clients from a number on

module _ (c : Configuration) (out : Ended) (answered : List Bool) where
  abbrev token : ℕ → TokenText
  token n = (n, issued_logout c n out)

  one : (n : ℕ) (client : Client) (has : Bool) (uri : Option Text) → slice_get c.clients n ≡ Some client → client.logout ≡ uri → Each (Carries c) (map token (told_if n has uri)) (message_if c out n has uri)
  one n client true (Some uri) at is =
      let L : Option Client → Option Text = λ o. option_and_then (λ (k : Client). k.logout) o in
      (record { to = ap L at ∙ is; body = refl }, tt)
  one n client true None at is = tt
  one n client false (Some uri) at is = tt
  one n client false None at is = tt

  -- the clients from a number on are in the registry at these numbers
  from : (n : ℕ) (clients : List Client) → ((k : ℕ) (client : Client) → slice_get clients k ≡ Some client → slice_get c.clients (n + k) ≡ Some client)
      → Each (Carries c) (map token (told_from answered n clients)) (messages_from c out answered n clients)
  from n [] stand = tt
  from n (client ∷ clients) stand =
      let first : n + 0 ≡ n = omega arith in
      let G : ℕ → Type 0 = λ k. slice_get c.clients k ≡ Some client in
      let E : List TokenText → Type 0 = λ ts. Each (Carries c) ts (messages_from c out answered n (client ∷ clients)) in
      let here : List ℕ = told_if n (has_client n answered) client.logout in
      let rest : List ℕ = told_from answered (n + 1) clients in
      subst E (sym (map_append token here rest))
      (each_append (Carries c) (map token here) (map token rest) (message_if c out n (has_client n answered) client.logout) (messages_from c out answered (n + 1) clients)
      (one n client (has_client n answered) client.logout (subst G first (stand 0 client refl)) refl)
      (from (n + 1) clients (λ k other at.
      let next : n + suc k ≡ (n + 1) + k = omega arith in
      let H : ℕ → Type 0 = λ j. slice_get c.clients j ≡ Some other in
      subst H next (stand (suc k) other at))))

-- ---- a sign-out

session_carries : (c : Configuration) (e : Entry OpAsk) (session : SessionRow) (messages : List Message) → logout_messages c (sign_out_of e session) session.clients ≡ messages
    → Each (Carries c) (logouts_written c e (Some session)) messages
unfolding logout_messages
session_carries c e session messages is =
    let E : List Message → Type 0 = λ ms. Each (Carries c) (logouts_written c e (Some session)) ms in
    let same : (k : ℕ) (client : Client) → slice_get c.clients k ≡ Some client → slice_get c.clients (0 + k) ≡ Some client =
    λ k client at. let first : k ≡ 0 + k = omega arith in let G : ℕ → Type 0 = λ j. slice_get c.clients j ≡ Some client in subst G first at in
    subst E is (from c (sign_out_of e session) session.clients 0 c.clients same)

caused : (c : Configuration) (past : OpPast) (e : Entry OpAsk) (asked : OpAsk) (messages : List Message) → SignedOutCause c past e asked messages
    → Each (Carries c) (logouts_written c e (session_ended past e.at asked)) messages
caused c past e (SignOut presented) messages (inl nobody) =
    let E : Option SessionRow → List Message → Type 0 = λ o ms. Each (Carries c) (logouts_written c e o) ms in
    let F : Option SessionRow → Type 0 = λ o. E o [] in
    subst (E (live_session past e.at presented)) (sym nobody.1) (subst F (sym nobody.0) tt)
caused c past e (SignOut presented) messages (inr ended) =
    let F : Option SessionRow → Type 0 = λ o. Each (Carries c) (logouts_written c e o) messages in
    subst F (sym ended.live) (session_carries c e ended.session messages ended.messages_are)
caused c past e asked messages cause = absurd cause

pub messages_carry : (c : Configuration) (past : OpPast) (e : Entry OpAsk) (messages : List Message) → op_answer c past e ≡ SignedOut messages → Each (Carries c) (op_written c past e e.ask (SignedOut messages)) messages
messages_carry c past e messages replied = caused c past e e.ask messages (sign_outs_have_a_cause c past e messages replied)
