-- The outcomes of a place of a login at the provider: a page, an answer, tokens, or a user's claims; each with the rows after
-- it.
use Rattle.std.proofs.Common.{◌≡◌, ◌≤◌, ℕ, false, List, Option, Some, None}
use Rattle.sso_base.specs.Words.{Word, Text}
use Rattle.oidc_words.specs.declared.scopes.Scopes.{Scopes}
use Rattle.claim_set.specs.Reading.{claims_text}
use Rattle.client_registry.specs.Configuration.{Configuration}
use Rattle.client_registry.specs.Numbers.{party_row}
use Rattle.id_token.specs.Judging.{IsInAge}
use Rattle.userinfo.specs.Held.{info_members}
use Rattle.op_issue.specs.declared.issuing.Authentication.{Authentication}
use Rattle.op_issue.specs.IdTokens.{issued_id}
use Rattle.op_issue.specs.Issued.{issued}
use Rattle.op_issue.specs.Issuing.{MayIssue}
use Rattle.op_exchange.specs.declared.reply.OpReply.TheVariants as op
use Rattle.sso_places.specs.declared.types.WorldReply.TheVariants as reply
use Rattle.sso_places.specs.Premises.{last_at}
use Rattle.sso_places.specs.World.{Place, World, reply_at}
use Rattle.honest_places.specs.Login.{Visitor}
use Rattle.honest_places.specs.OwnWish.{own_wish}
use Rattle.honest_places.proofs.Worlds.{IsVisitor}
use Rattle.honest_provider.proofs.Facts.{TurnWaits, ConsentWaits, AccessWaits, AnswerWaits}

module _ (c : Configuration) (v : Visitor) (login : List Place) (world : World) (x : Place) where
  -- the page with the login form, and the one with the consent form
  pub record Paged (state nonce : Word) : Type 0 where
    pub turn : Word
    pub browser : Word
    pub replied : reply_at x ≡ reply.Provider (op.LoginPage turn browser false)
    pub known : TurnWaits c v login world turn browser state nonce

  pub record Consenting (state nonce : Word) (begun : ℕ) : Type 0 where
    pub turn : Word
    pub browser : Word
    pub given : Option Word
    pub client : Text
    pub scopes : Scopes
    pub replied : reply_at x ≡ reply.Provider (op.ConsentPage turn browser given client scopes)
    pub known : ConsentWaits c v login world turn browser state nonce begun

  -- tokens for the user, at a moment since this one
  pub record Giving (state nonce : Word) (begun user since : ℕ) : Type 0 where
    pub who : Authentication
    pub at : ℕ
    pub access : Word
    pub replied : reply_at x ≡ reply.Provider (op.Tokens access (issued_id c (own_wish c v.party state nonce) who at (Some access) None))
    pub may : MayIssue c (own_wish c v.party state nonce) who at
    pub age : IsInAge (party_row c v.party).max_age (Some who.auth_time) begun
    pub after : since ≤ at
    pub past : at ≤ last_at world
    pub user_is : who.user ≡ user
    pub known : AccessWaits c v login world access user

  -- the user's claims
  pub record Telling (user : ℕ) : Type 0 where
    pub scopes : Scopes
    pub asked : List Text
    pub replied : reply_at x ≡ reply.Provider (op.Info (claims_text (info_members c (party_row c v.party).client user scopes asked)))

-- an answer for somebody, by the moment and the words of its place
pub record AnswerKnown (c : Configuration) (v : Visitor) (login : List Place) (world : World) (state nonce : Word) (begun : ℕ) (who : Authentication) (at : ℕ) (fresh : List Word) : Type 0 where
  pub may : MayIssue c (own_wish c v.party state nonce) who at
  pub age : IsInAge (party_row c v.party).max_age (Some who.auth_time) begun
  pub past : at ≤ last_at world
  pub known : AnswerWaits c v login world state nonce who fresh
  pub visitor : IsVisitor v login who.user

pub record Answering (c : Configuration) (v : Visitor) (login : List Place) (world : World) (x : Place) (state nonce : Word) (begun : ℕ) : Type 0 where
  pub who : Authentication
  pub at : ℕ
  pub fresh : List Word
  pub given : Option Word
  pub replied : reply_at x ≡ reply.Provider (op.Answered (issued c (own_wish c v.party state nonce) who at fresh) given)
  pub known : AnswerKnown c v login world state nonce begun who at fresh
