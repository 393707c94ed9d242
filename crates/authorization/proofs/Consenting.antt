-- An authorization response has the user's consent.
use Rattle.std.proofs.Common.{◌≡◌, ℕ, Bool, true, false, not, ◌&&◌, ◌||◌, [], ◌∷◌, Option, Some, refl, ap, inl, inr}
use Rattle.std.proofs.lemmas.Bool.{and_parts}
use Rattle.sso_base.specs.Words.{Word}
use Rattle.client_registry.specs.Configuration.{Configuration}
use Rattle.oidc_words.specs.declared.scopes.Scopes.{Scopes}
use Rattle.oidc_words.specs.Scopes.{covers}
use Rattle.auth_request.specs.declared.wish.Wish.{Wish}
use Rattle.user_interaction.specs.Need.{needed_scopes}
use Rattle.user_interaction.specs.Answerable.{HasAgreed}
use Rattle.code_grant.specs.declared.rows.TurnRow.{TurnRow}
use Rattle.code_grant.specs.declared.rows.SessionRow.{SessionRow}
use Rattle.op_exchange.specs.declared.ask.OpAsk.TheVariants as ask
use Rattle.op_exchange.specs.Replied.{ends_turn}
use Rattle.op_answer.specs.Past.{OpPair, OpPast}
use Rattle.op_answer.specs.Turns.{turn_of}
use Rattle.op_answer.specs.Sessions.{session_of}
use Rattle.op_answer.specs.Consents.{grant_of}
use Rattle.op_answer.specs.Granted.{Granted}
use Rattle.op_answer.specs.Replies.{standing_of}
use Rattle.op_answer.proofs.Granting.{openid_granted, profile_granted, email_granted, address_granted, phone_granted}
use Rattle.authorization.specs.Consented.{SaidYesTo, HasConsent}

covered : (s t : Bool) → (s || not t) ≡ true → t ≡ true → s ≡ true
covered true t h k = refl
covered false true h k = cc
covered false false h k = cc

pub granted_more : (p : OpPair) (past : OpPast) (user client : ℕ) (has : Scopes → Bool) → Granted past user client has → Granted (p ∷ past) user client has
granted_more p past user client has g =
    let P : OpPast → OpPast = λ q. p ∷ q in
    record { later = p ∷ g.later; pair = g.pair; earlier = g.earlier; parts = ap P g.parts; yes = g.yes }

-- what was granted before
said_before : (p : OpPair) (past : OpPast) (user client : ℕ) (scopes : Scopes) → covers (grant_of past user client) scopes ≡ true → SaidYesTo (p ∷ past) user client scopes
said_before p past user client scopes h =
    let g : Scopes = grant_of past user client in
    let a : Bool = g.openid || not scopes.openid in
    let b : Bool = g.profile || not scopes.profile in
    let d : Bool = g.email || not scopes.email in
    let e : Bool = g.address || not scopes.address in
    let f : Bool = g.phone || not scopes.phone in
    let last = and_parts (a && b && d && e) f h in
    let fourth = and_parts (a && b && d) e last.0 in
    let third = and_parts (a && b) d fourth.0 in
    let second = and_parts a b third.0 in
    record {
      openid = λ k. granted_more p past user client (λ s. s.openid) ((openid_granted past user client).0 (covered g.openid scopes.openid second.0 k));
      profile = λ k. granted_more p past user client (λ s. s.profile) ((profile_granted past user client).0 (covered g.profile scopes.profile second.1 k));
      email = λ k. granted_more p past user client (λ s. s.email) ((email_granted past user client).0 (covered g.email scopes.email third.1 k));
      address = λ k. granted_more p past user client (λ s. s.address) ((address_granted past user client).0 (covered g.address scopes.address fourth.1 k));
      phone = λ k. granted_more p past user client (λ s. s.phone) ((phone_granted past user client).0 (covered g.phone scopes.phone last.1 k));
    }

-- an answer without a consent form
pub agreed_before : (c : Configuration) (p : OpPair) (past : OpPast) (wish : Wish) (in_turn : Bool) (session : SessionRow) → HasAgreed c wish (standing_of past wish in_turn session)
    → HasConsent c (p ∷ past) session.user wish.client (needed_scopes wish)
agreed_before c p past wish in_turn session (inl none) = inl none
agreed_before c p past wish in_turn session (inr (inl agreed)) = cc
agreed_before c p past wish in_turn session (inr (inr granted)) = inr (said_before p past session.user wish.client (needed_scopes wish) granted.covered)

-- an answer to a consent form with a yes
pub agreed_here : (c : Configuration) (p : OpPair) (past : OpPast) (turn browser presented : Option Word) (row : TurnRow) (session : SessionRow) → p.entry.ask ≡ ask.Consent turn true browser presented
    → ends_turn p.reply ≡ true → turn_of past turn ≡ Some row → session_of past row.session ≡ Some session → HasConsent c (p ∷ past) session.user row.wish.client (needed_scopes row.wish)
agreed_here c p past turn browser presented row session asked ended row_is session_is =
    let yes : (has : Scopes → Bool) → has (needed_scopes row.wish) ≡ true → Granted (p ∷ past) session.user row.wish.client has =
    λ has about.
    record {
      later = [];
      pair = p;
      earlier = past;
      parts = refl;
      yes =
          record {
            turn = turn;
            browser = browser;
            presented = presented;
            asked = asked;
            ended = ended;
            row = row;
            row_is = row_is;
            session = session;
            session_is = session_is;
            user_is = refl;
            client_is = refl;
            about = about;
          };
    } in
    inr
    (record {
      openid = yes (λ s. s.openid);
      profile = yes (λ s. s.profile);
      email = yes (λ s. s.email);
      address = yes (λ s. s.address);
      phone = yes (λ s. s.phone);
    })
