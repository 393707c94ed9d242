-- A world that breaks only one premise: browser 1 begins a login at one relying party and browser 2 at another, and the same
-- four words are drawn for both. The parties' answers are real, and both logins have the same nonce. (A single party would
-- refuse the second login: its table has a row with this state.)
use Rattle.std.proofs.Common.{ℕ, zero, suc, [], ◌∷◌, inl, inr, refl, sym, arith}
use Rattle.rp_exchange.specs.Values.{IsRpAsk}
use Rattle.rp_answer.specs.Legal.{IsLegalRp}
use Rattle.rp_answer.proofs.Sample.{pair_of}
use Rattle.rp_answer.proofs.FirstVisit.{begin_entry, asked}
use Rattle.rp_answer.proofs.FrontLogin.{asked_front}
use Rattle.sso_places.specs.declared.types.WorldAsk.TheVariants.{Http}
use Rattle.sso_places.specs.Site.{setup_at}
use Rattle.sso_places.specs.World.{Party, World, rp_past}
use Rattle.sso_places.specs.Legal.{IsLegalWorld}
use Rattle.sso_places.specs.Premises.{HasDistinctWords, IsUnleaked, IsUnforged, IsJoined}
use Rattle.sso_places.specs.Agreement.{SignsOn}
use Rattle.sso_places.proofs.SmallSite.{site, legal_entry, is_other}
use Rattle.sso_places.proofs.LoginByCode.{begins, begin_is_asked, begin_is_answered}
use Rattle.sign_on.proofs.ForgedToken.{news_is_asked, news_is_answered}

abbrev pub repeated : World
repeated = Party 1 2 (Http begins) (pair_of begin_entry asked_front) ∷ Party 0 1 (Http begins) (pair_of begin_entry asked) ∷ []

each_legal : (n : ℕ) → IsLegalRp (setup_at site n) (rp_past n repeated)
each_legal zero = (tt, legal_entry IsRpAsk 1 begin_entry.ask refl tt, omega arith, sym begin_is_answered)
each_legal (suc zero) = (tt, legal_entry IsRpAsk 1 begin_entry.ask refl tt, omega arith, sym news_is_answered)
each_legal (suc (suc n)) = rw (is_other 1 (suc (suc n)) (λ same. omega (arith, same)), is_other 0 (suc (suc n)) (λ same. omega (arith, same))) tt

pub legal : IsLegalWorld site repeated
legal = record { provider = tt; parties = each_legal; asked = ((omega arith, sym news_is_asked), ((omega arith, sym begin_is_asked), tt)) }

pub unleaked : IsUnleaked repeated
unleaked = ((tt, refl), refl)

pub unforged : IsUnforged site repeated
unforged = ((tt, refl), refl)

pub joined : IsJoined repeated
joined = ((tt, tt), tt)

drawn_twice : HasDistinctWords repeated → ⊥
drawn_twice distinct = distinct.0 (inr (inr (inr (inl refl))))

-- a login with this nonce was begun
pub no_run : SignsOn site repeated → ⊥
unfolding SignsOn
no_run signs = signs.1.0.0 refl
