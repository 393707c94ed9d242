-- The provider alone, as a core that stands around the provider: lemmas that its implementation of `Provides` cites.
use Rattle.std.proofs.Common.{◌≡◌, ◌++◌, ◌∷◌, [], List, reverse, slice_index_or, Option, Some, None, refl, ap, ◌∙◌, sym, subst, inl, inr}
use Rattle.std.proofs.lemmas.List.{append_cancel_left}
use Rattle.sso_base.specs.Words.{Word}
use Rattle.sso_base.specs.Legal.{IsLegalBy}
use Rattle.sso_base.specs.declared.history.Entry.{Entry}
use Rattle.sso_base.specs.declared.message.Message.{Message}
use Rattle.sso_base.proofs.Histories.{past_more, legal_reply}
use Rattle.sso_base.proofs.RowLaws.{option_cases}
use Rattle.client_registry.specs.Configuration.{Configuration}
use Rattle.op_exchange.specs.Values.{IsOpAsk}
use Rattle.op_exchange.specs.declared.ask.OpAsk.{OpAsk}
use Rattle.op_exchange.specs.declared.ask.OpAsk.TheVariants as op_ask
use Rattle.op_exchange.specs.declared.reply.OpReply.{OpReply}
use Rattle.op_exchange.specs.declared.reply.OpReply.TheVariants.{SignedOut}
use Rattle.op_issue.specs.LogoutMessages.{logout_messages}
use Rattle.op_answer.specs.Past.{OpPair, OpPast}
use Rattle.op_answer.specs.Sessions.{live_session}
use Rattle.op_answer.specs.Replies.{sign_out_of}
use Rattle.op_answer.specs.Answering.{op_answer}
use Rattle.op_answer.specs.Legal.{IsLegalHistory}
use Rattle.op_answer.specs.Causes.{SignedOutCause}
use Rattle.op_answer.proofs.KeptNames.{some_same}
use Rattle.op_answer.proofs.SignOuts.{caused_sign_outs}
use Rattle.core_stack.specs.Stacks.{AddsPair, is_sign_out, AreNotices}

-- the messages of a sign-out
abbrev pub op_notices : OpReply → Option (List Message)
op_notices (SignedOut messages) = Some messages
op_notices reply = None

pub op_adds : (h : List OpPair) (p : OpPair) → AddsPair p.entry.at p.entry.fresh (Some p.entry.ask) p.reply h (h ++ p ∷ [])
op_adds h p = record { request = p.entry.ask; asks = refl; added = refl }

-- the reply to a sign-out is always a sign-out
sign_out_told : (c : Configuration) (past : OpPast) (e : Entry OpAsk) (session : Option Word) → e.ask ≡ op_ask.SignOut session
    → (messages : List Message) × (op_answer c past e ≡ SignedOut messages)
sign_out_told c past e session is =
    elim (option_cases (live_session past e.at session)) [
      | inl gone ↦
          (let C : OpAsk → Type 0 = λ a. SignedOutCause c past e a [] in
          ([], caused_sign_outs c past e [] (subst C (sym is) (inl (gone, refl)))))
      | inr live ↦
          (let ms : List Message = logout_messages c (sign_out_of e live.0) live.0.clients in
          let C : OpAsk → Type 0 = λ a. SignedOutCause c past e a ms in
          (ms, caused_sign_outs c past e ms (subst C (sym is) (inr (record { session = live.0; live = live.1; messages_are = refl })))))
    ]

pub op_signs_out : (c : Configuration) (h : List OpPair) (p : OpPair) (w : Option Word) → IsLegalHistory c (h ++ p ∷ [])
    → ◌≡◌ {A = Option OpAsk} (Some p.entry.ask) (Some (op_ask.SignOut w))
    → (sent : List Message) × (◌≡◌ {A = Option OpReply} (Some p.reply) (Some (SignedOut sent))) × (op_notices p.reply ≡ Some sent)
op_signs_out c h p w legal asked =
    let L : List OpPair → Type 0 = λ l. IsLegalBy IsOpAsk (op_answer c) l in
    let answered : p.reply ≡ op_answer c (reverse h) p.entry =
    legal_reply IsOpAsk (op_answer c) [] (reverse h) p (subst L (past_more h p) legal.past) in
    let said = sign_out_told c (reverse h) p.entry w (some_same p.entry.ask (op_ask.SignOut w) asked) in
    let is : p.reply ≡ SignedOut said.0 = answered ∙ said.1 in
    (said.0, ap (λ x. Some x) is, ap (λ x. op_notices x) is)

-- the last elements are the same
pub last_same : {X : Type 0} (l : List X) (x y : X) → l ++ x ∷ [] ≡ l ++ y ∷ [] → x ≡ y
last_same {X} l x y same =
    let F : List X → X = λ m. slice_index_or m 0 x in
    ap F (append_cancel_left l (x ∷ []) (y ∷ []) same)

notices_by : (r : OpReply) (h : List OpPair) (p : OpPair) → p.reply ≡ r → AreNotices (op_notices r) h (h ++ p ∷ [])
notices_by (SignedOut messages) h p is = (p, refl, is)
notices_by r h p is = λ q same. ap (λ (x : OpPair). is_sign_out x.reply) (sym (last_same h p q same)) ∙ ap (λ (x : OpReply). is_sign_out x) is

-- its messages are those of its sign-outs
pub op_notices_are : (h : List OpPair) (p : OpPair) → AreNotices (op_notices p.reply) h (h ++ p ∷ [])
op_notices_are h p = notices_by p.reply h p refl

-- it reads each request
pub op_reads : (read a : OpAsk) → ◌≡◌ {A = Option OpAsk} (Some read) (Some a) → a ≡ read
op_reads read a same = sym (some_same read a same)
