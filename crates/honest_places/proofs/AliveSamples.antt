-- No logout, on small histories of a party: a logout token that it accepted names its `sid`, and one that it refused names none.
use Rattle.std.proofs.Common.{◌≡◌, [], ◌∷◌, ◌++◌, Some, None, codes, refl, ap, ◌∙◌}
use Rattle.sso_base.specs.Words.{Text}
use Rattle.logout_token.specs.declared.claims.LogoutClaims.{LogoutClaims}
use Rattle.rp_exchange.specs.declared.no.RpNo.TheVariants as no
use Rattle.rp_exchange.specs.declared.reply.RpReply.{RpReply}
use Rattle.rp_exchange.specs.declared.reply.RpReply.TheVariants.{Ended, Refused, NotHere}
use Rattle.rp_answer.specs.Past.{RpPair, RpPast}
use Rattle.rp_answer.proofs.Sample.{word, sample, pair_of}
use Rattle.rp_answer.proofs.FirstVisit as rp
use Rattle.rp_answer.proofs.LoggedOut.{claims, logout_at}
use Rattle.sso_places.specs.declared.types.WorldAsk.{WorldAsk}
use Rattle.sso_places.specs.declared.types.WorldAsk.TheVariants.{Tokens}
use Rattle.sso_places.specs.World.{Place, Party, World}
use Rattle.honest_places.specs.Alive.{IsNotNamed, IsAlive}
use Rattle.honest_places.specs.Conditions.{no_logout}
use Rattle.honest_places.proofs.Conditions.{demanded}

abbrev told : LogoutClaims
told = record claims { sid = Some (codes "sid") }

abbrev accepted : RpPair
accepted = pair_of (logout_at 1100 told) (Ended 0)

abbrev refused : RpPair
refused = pair_of (logout_at 1100 told) (Refused (no.Seen 1))

-- ---- a `sid` that was named, and one that was not

accepted_names_it : IsNotNamed (accepted ∷ []) (codes "sid") → ⊥
accepted_names_it none = none [] [] accepted told refl (record { asked = refl; count = 0; replied = refl }) refl

no_parts : (later : RpPast) (p : RpPair) (earlier : RpPast) → [] ≡ later ++ p ∷ earlier → ⊥
no_parts [] p earlier h = cc
no_parts (q ∷ later) p earlier h = cc

nothing_names_it : (sid : Text) → IsNotNamed [] sid
nothing_names_it sid later earlier p given parts accepts is = no_parts later p earlier parts

abbrev newest_reply : RpPast → RpReply
newest_reply [] = NotHere
newest_reply (p ∷ past) = p.reply

abbrev older : RpPast → RpPast
older [] = []
older (p ∷ past) = past

refused_names_none : (sid : Text) → IsNotNamed (refused ∷ []) sid
refused_names_none sid [] earlier p given parts accepts is =
    let replied : Refused (no.Seen 1) ≡ Ended accepts.count = ap newest_reply parts ∙ accepts.replied in
    absurd (cc)
refused_names_none sid (q ∷ later) earlier p given parts accepts is = no_parts later p earlier (ap older parts)

-- ---- the place at which the ID Token of a login comes, whose `sid` is this one

abbrev came : WorldAsk
came = Tokens (word 17) (record { status = 200; body = [] })

abbrev tokens_come : Place
tokens_come = Party 0 1 came (pair_of (rp.tokens_entry 1119 (codes "nonce")) rp.entered)

abbrev logged_out : World
logged_out = Party 0 0 came accepted ∷ []

alive_without_a_logout : IsAlive None sample [] tokens_come
alive_without_a_logout = λ sid is kept. nothing_names_it sid

not_alive_after_its_logout : IsAlive None sample logged_out tokens_come → ⊥
not_alive_after_its_logout alive = accepted_names_it (demanded no_logout (IsNotNamed (accepted ∷ []) (codes "sid")) (alive (codes "sid") refl))

-- that is demanded only if the condition is not left out
alive_where_left_out : IsAlive (Some no_logout) sample logged_out tokens_come
alive_where_left_out = λ sid is kept. absurd (kept refl)
