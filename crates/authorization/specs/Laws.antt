-- The laws of authorization. Each is a clause of a function of `law.rt`, which says it in words.
use Rattle.std.specs.Prelude.{◌≡◌, ℕ, ◌∷◌, ◌++◌, Option}
use Rattle.sso_base.specs.Words.{Word, Text}
use Rattle.sso_base.specs.declared.http.Ask.{Ask}
use Rattle.client_registry.specs.Configuration.{Configuration}
use Rattle.auth_request.specs.declared.wish.Wish.{Wish}
use Rattle.auth_answer.specs.declared.answer.Answer.{Answer}
use Rattle.code_grant.specs.declared.rows.SessionRow.{SessionRow}
use Rattle.op_exchange.specs.declared.reply.OpReply.TheVariants as reply
use Rattle.userinfo.specs.Held.{held_members, info_members}
use Rattle.op_issue.specs.IdTokens.{id_scopes}
use Rattle.op_answer.specs.Past.{OpPair, OpPast}
use Rattle.op_answer.specs.Legal.{IsLegalOp}
use Rattle.sso_places.specs.Site.{Site, IsSite}
use Rattle.sso_places.specs.World.{World, Provider}
use Rattle.sso_places.specs.Legal.{IsLegalWorld}
use Rattle.sso_places.specs.Premises.{HasDistinctWords, HasDistinctHashes, IsUnleaked, IsUnforged, IsJoined}
use Rattle.sso_places.specs.Unshared.{IsUnshared}
use Rattle.authorization.specs.Authorized.{Authorizes, IsAuthorized, HasId, IsAccessFor, Redeems, IsRedeemed, Informs, AreNeeded, AreConsented}
use Rattle.authorization.specs.Reached.{IsAnsweredTo, IsRedeemedBy, GetsClaims, ClientGetsClaims}

-- ---- the provider's history

-- what each reply gives is authorized
pub record GivesByRight (c : Configuration) (past : OpPast) : Type 0 where
  pub answers : (later earlier : OpPast) (p : OpPair) (answer : Answer) (given : Option Word) → past ≡ later ++ p ∷ earlier
      → p.reply ≡ reply.Answered answer given → (wish : Wish) × (session : SessionRow) × Authorizes c earlier p answer wish session
  pub tokens : (later earlier : OpPast) (p : OpPair) (access : Word) (id : Text) → past ≡ later ++ p ∷ earlier
      → p.reply ≡ reply.Tokens access id → (wish : Wish) × (session : SessionRow) × Redeems c earlier p access id wish session
  pub infos : (later earlier : OpPast) (p : OpPair) (claims : Text) → past ≡ later ++ p ∷ earlier
      → p.reply ≡ reply.Info claims → (wish : Wish) × (session : SessionRow) × Informs c earlier p claims wish session

abbrev pub GiftsAreAuthorized : Type 0
GiftsAreAuthorized = (c : Configuration) (past : OpPast) → IsLegalOp c past → GivesByRight c past

abbrev pub InfoIsNeeded : Type 0
InfoIsNeeded =
    (c : Configuration) (wish : Wish) (user : ℕ) → AreNeeded c wish user (info_members c wish.client user wish.scopes wish.info_asked)

abbrev pub IdTokensAreNeeded : Type 0
IdTokensAreNeeded = (c : Configuration) (wish : Wish) (user : ℕ) → AreNeeded c wish user (held_members c user (id_scopes wish) wish.id_asked)

abbrev pub InfoIsConsented : Type 0
InfoIsConsented =
    (c : Configuration) (past : OpPast) (access : Word) (wish : Wish) (session : SessionRow) → IsAccessFor c past access wish session
    → AreConsented c past session.user wish.client (info_members c wish.client session.user wish.scopes wish.info_asked)

abbrev pub IdTokensAreConsented : Type 0
IdTokensAreConsented =
    (c : Configuration) (past : OpPast) (id : Text) (wish : Wish) (session : SessionRow) → IsAuthorized c past (HasId id) wish session
    → AreConsented c past session.user wish.client (held_members c session.user (id_scopes wish) wish.id_asked)

abbrev pub RedeemedIdTokensAreConsented : Type 0
RedeemedIdTokensAreConsented =
    (c : Configuration) (past : OpPast) (access : Word) (wish : Wish) (session : SessionRow) → IsRedeemed c past access wish session
    → AreConsented c past session.user wish.client (held_members c session.user (id_scopes wish) wish.id_asked)

-- ---- worlds

-- each authorization response and each token response of a world reaches the number that may have it
pub record ReachesItsOwn (s : Site) (world : World) : Type 0 where
  pub answers : (later earlier : World) (from : ℕ) (request : Ask) (p : OpPair) (answer : Answer) (given : Option Word)
      → world ≡ later ++ Provider from request p ∷ earlier → p.reply ≡ reply.Answered answer given
      → (wish : Wish) × (session : SessionRow) × IsAnsweredTo s (Provider from request p ∷ earlier) from answer wish session
  pub tokens : (later earlier : World) (from : ℕ) (request : Ask) (p : OpPair) (access : Word) (id : Text)
      → world ≡ later ++ Provider from request p ∷ earlier → p.reply ≡ reply.Tokens access id
      → (wish : Wish) × (session : SessionRow) × IsRedeemedBy s (Provider from request p ∷ earlier) from access wish session

-- each UserInfo response of a world goes where this says
abbrev pub EachInfo : (World → ℕ → Ask → OpPair → Text → Type 0) → World → Type 0
EachInfo Goes world =
    (later earlier : World) (from : ℕ) (request : Ask) (p : OpPair) (claims : Text)
    → world ≡ later ++ Provider from request p ∷ earlier → p.reply ≡ reply.Info claims → Goes earlier from request p claims

abbrev pub AnswersReachTheirOwn : Type 0
AnswersReachTheirOwn = (s : Site) (world : World) → IsLegalWorld s world → IsUnleaked world → ReachesItsOwn s world

abbrev pub InfosReachTheirOwn : Type 0
InfosReachTheirOwn =
    (s : Site) (world : World) → IsSite s → IsLegalWorld s world → IsUnleaked world → IsUnshared world → EachInfo (GetsClaims s) world

abbrev pub ClaimsReachTheClient : Type 0
ClaimsReachTheClient =
    (s : Site) (world : World) → IsSite s → IsLegalWorld s world → HasDistinctWords world → IsUnleaked world
    → IsUnforged s world → HasDistinctHashes world → IsUnshared world → EachInfo (ClientGetsClaims s) world

-- ---- the premises

abbrev pub SecretCookiesAreNeeded : Type 0
SecretCookiesAreNeeded =
    ¬ ((s : Site) (world : World) → IsSite s → IsLegalWorld s world → HasDistinctWords world → IsUnforged s world → IsJoined world
    → HasDistinctHashes world → IsUnshared world → EachInfo (ClientGetsClaims s) world)

abbrev pub UnforgedTokensAreNeeded : Type 0
UnforgedTokensAreNeeded =
    ¬ ((s : Site) (world : World) → IsSite s → IsLegalWorld s world → HasDistinctWords world → IsUnleaked world → IsJoined world
    → HasDistinctHashes world → IsUnshared world → EachInfo (ClientGetsClaims s) world)

abbrev pub SecretAccessTokensAreNeeded : Type 0
SecretAccessTokensAreNeeded =
    ¬ ((s : Site) (world : World) → IsSite s → IsLegalWorld s world → HasDistinctWords world → IsUnleaked world → IsUnforged s world
    → IsJoined world → HasDistinctHashes world → EachInfo (ClientGetsClaims s) world)
