-- The law of authorization about clients applies to whole logins: what UserInfo answers in them goes to the server of the party that is
-- the client. In a hybrid login of nine places it is answered.
use Rattle.std.proofs.Common.{◌≡◌, ℕ, Bool, true, ◌∷◌, codes, refl}
use Rattle.std.specs.List.{list_any}
use Rattle.sso_base.specs.Words.{Text}
use Rattle.sso_places.specs.Site.{IsSite, own_site}
use Rattle.authorization.specs.Laws.{EachInfo}
use Rattle.authorization.specs.Reached.{ClientGetsClaims}
use Rattle.authorization.proofs.OwnServers.{claims_reach}
use Rattle.honest_worlds.specs.Whole.{answers_info, IsWholeLogin}
use Rattle.honest_worlds.proofs.WholeLogins.{by_code_with_info}

pub client_gets_claims : (text : Text) (info : Bool) (places : ℕ) (w : IsWholeLogin text info places) → EachInfo (ClientGetsClaims (own_site w.configuration)) (w.last ∷ w.earlier)
client_gets_claims text info places w =
    let site : IsSite (own_site w.configuration) = record { registry = w.registry; one_issuer = λ n. refl } in
    claims_reach (own_site w.configuration) (w.last ∷ w.earlier) site w.legal w.distinct w.unleaked w.unforged w.hashes w.unshared

abbrev hybrid : IsWholeLogin (codes "code id_token token") true 9
hybrid = by_code_with_info true true (codes "code id_token token") refl

hybrid-gets : EachInfo (ClientGetsClaims (own_site hybrid.configuration)) (hybrid.last ∷ hybrid.earlier)
hybrid-gets = client_gets_claims (codes "code id_token token") true 9 hybrid

hybrid-informs : list_any answers_info (hybrid.last ∷ hybrid.earlier) ≡ true
hybrid-informs = hybrid.informs
