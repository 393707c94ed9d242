-- None of the premises on worlds can be left out: without it the theorem is false, though the registry is one that was read and
-- all the other premises hold. (Of the premise on the registry itself nothing is said here.)
use Rattle.std.proofs.Common.{[], ◌∷◌, true, None, Some, refl}
use Rattle.oidc_words.specs.Paths.{leave_path}
use Rattle.rp_exchange.specs.declared.reply.RpReply.TheVariants.{Left}
use Rattle.rp_answer.proofs.Sample.{word, pair_of}
use Rattle.rp_answer.proofs.LoggedOut.{leave_entry}
use Rattle.sso_places.specs.declared.types.WorldAsk.TheVariants.{Http}
use Rattle.sso_places.specs.Site.{Site, IsSite}
use Rattle.sso_places.specs.World.{World, Party, drawn}
use Rattle.sso_places.specs.Legal.{IsLegalWorld}
use Rattle.sso_places.specs.Premises.{HasDistinctWords, IsUnleaked, IsUnforged, IsJoined}
use Rattle.sso_places.specs.Agreement.{SignsOn}
use Rattle.sso_places.proofs.SmallSite.{site, site_is, are_distinct}
use Rattle.sso_places.proofs.LoginByCode.{posted}
use Rattle.sign_on.proofs.EqualWords as words
use Rattle.sign_on.proofs.StolenCookie as cookie
use Rattle.sign_on.proofs.ForgedToken as token
use Rattle.sign_on.proofs.AnswerElsewhere as answer

-- ---- replies that are not the answers of the cores: a browser leaves a session that was not entered

abbrev left : World
left = Party 0 1 (Http (posted leave_path [] None (Some (word 26)))) (pair_of leave_entry (Left true)) ∷ []

left_is_no_run : SignsOn site left → ⊥
unfolding SignsOn
left_is_no_run signs = signs.1.0

pub not_without_legal_replies : ((s : Site) (world : World) → IsSite s → HasDistinctWords world → IsUnleaked world → IsUnforged s world → IsJoined world → SignsOn s world) → ⊥
not_without_legal_replies agreement = left_is_no_run (agreement site left site_is (are_distinct (drawn left) refl) (tt, refl) (tt, refl) (tt, tt))

-- ---- legal worlds

-- one nonce was drawn for two logins
pub not_without_distinct_words : ((s : Site) (world : World) → IsSite s → IsLegalWorld s world → IsUnleaked world → IsUnforged s world → IsJoined world → SignsOn s world) → ⊥
not_without_distinct_words agreement = words.no_run (agreement site words.repeated site_is words.legal words.unleaked words.unforged words.joined)

-- a browser posts the consent page with the cookies of the browser that signed in
pub not_without_own_cookies : ((s : Site) (world : World) → IsSite s → IsLegalWorld s world → HasDistinctWords world → IsUnforged s world → IsJoined world → SignsOn s world) → ⊥
not_without_own_cookies agreement = cookie.no_run (agreement site cookie.stolen site_is cookie.legal cookie.distinct cookie.unforged cookie.joined)

-- a browser brings an ID Token that no place wrote
pub not_without_written_tokens : ((s : Site) (world : World) → IsSite s → IsLegalWorld s world → HasDistinctWords world → IsUnleaked world → IsJoined world → SignsOn s world) → ⊥
not_without_written_tokens agreement = token.no_run (agreement site token.forged site_is token.legal token.distinct token.unleaked token.joined)

-- the token endpoint's answer comes under the number of another browser
pub not_without_joined_answers : ((s : Site) (world : World) → IsSite s → IsLegalWorld s world → HasDistinctWords world → IsUnleaked world → IsUnforged s world → SignsOn s world) → ⊥
not_without_joined_answers agreement = answer.no_run (agreement site answer.elsewhere site_is answer.legal answer.distinct answer.unleaked answer.unforged)
