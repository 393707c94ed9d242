-- The sign-on theorem has four premises: no token is forged, no cookie is used under another browser number, all random words
-- differ, and a provider's answer comes under the number of its request. The binding of codes and access tokens has one more:
-- their half hashes differ. That honest logins succeed needs two: random words differ, and time goes on.
use Rattle.std.specs.Prelude.{◌≡◌, ◌≤◌, ℕ, Bool, false, ◌==◌, ◌&&◌, not, List, [], ◌∷◌, ◌++◌, Option, Some, None, if◌then◌else◌}
use Rattle.std.specs.List.{list_any}
use Rattle.std.specs.Str.{bytes_eq}
use Rattle.sso_base.specs.Words.{Word, Text, word_text}
use Rattle.sso_model.specs.Lists.{Has, AreDistinct}
use Rattle.id_token.specs.HalfHash.{half_hash_of}
use Rattle.rp_exchange.specs.declared.reply.RpReply.{RpReply}
use Rattle.rp_exchange.specs.declared.reply.RpReply.TheVariants as rp
use Rattle.sso_places.specs.declared.types.WorldAsk.{WorldAsk}
use Rattle.sso_places.specs.declared.types.WorldAsk.TheVariants.{Http, Tokens, Info}
use Rattle.sso_places.specs.Site.{Site}
use Rattle.sso_places.specs.World.{Place, Provider, Party, Nothing, World, from_of, moment_of, drawn}
use Rattle.sso_places.specs.Cookies.{words_in, set_at, presented}
use Rattle.sso_places.specs.Tokens.{TokenText, is_token, is_sealed_for}
use Rattle.sso_places.specs.Written.{written}
use Rattle.sso_places.specs.Checked.{checked}
use Rattle.op_exchange.specs.Replied.{code_in, access_in}

-- ---- unforged: each checked token that is sealed under a secret of the client was written for this client at an earlier place.
-- This is the only premise about MACs. It holds, except by chance, if HMAC with SHA-256 is unforgeable and only the provider
-- and the client have the secrets.

abbrev pub is_written : Site → World → TokenText → Bool
is_written s world t = list_any (is_token t) (written s world)

abbrev pub is_forged : Site → World → TokenText → Bool
is_forged s world t = is_sealed_for s.configuration t && not (is_written s world t)

-- the place checks a forged token
abbrev pub forges : Site → World → Place → Bool
forges s world x = list_any (is_forged s world) (checked s x)

abbrev pub IsUnforged : Site → World → Type 0
IsUnforged s [] = Unit {0}
IsUnforged s (x ∷ world) = IsUnforged s world × (forges s world x ≡ false)

-- ---- unleaked: no place presents a cookie that an earlier reply set for another number; 0 counts as a number

abbrev pub sets_elsewhere : ℕ → Word → Place → Bool
sets_elsewhere from w y = not (from_of y == from) && list_any (λ v. bytes_eq v w) (set_at y)

abbrev pub set_elsewhere : World → ℕ → Word → Bool
set_elsewhere world from w = list_any (sets_elsewhere from w) world

-- the place presents a cookie that was set for another number
abbrev pub leaks : World → Place → Bool
leaks world x = list_any (set_elsewhere world (from_of x)) (presented x)

abbrev pub IsUnleaked : World → Type 0
IsUnleaked [] = Unit {0}
IsUnleaked (x ∷ world) = IsUnleaked world × (leaks world x ≡ false)

-- ---- half hashes (OpenID Connect Core 1.0, 3.1.3.6 and 3.3.2.11)

-- the code and the access token that a place issues
abbrev pub issued_at : Place → List Word
issued_at (Provider from request p) = words_in (code_in p.reply) ++ words_in (access_in p.reply)
issued_at (Party n from request p) = []
issued_at Nothing = []

abbrev pub issued : World → List Word
issued [] = []
issued (x ∷ world) = issued_at x ++ issued world

abbrev pub half_digest : Word → Text
half_digest w = half_hash_of (word_text w)

-- no two issued codes or access tokens have the same half hash
abbrev pub HasDistinctHashes : World → Type 0
HasDistinctHashes world = (v w : Word) → Has (issued world) v → Has (issued world) w → half_digest v ≡ half_digest w → v ≡ w

-- ---- all random words differ

abbrev pub HasDistinctWords : World → Type 0
HasDistinctWords world = AreDistinct (drawn world)

-- ---- joined: an answer of the token endpoint or of UserInfo comes under the number of the last place that holds its request

-- the reply holds a request to the provider that is pending under this word
abbrev pub asks_under : Word → RpReply → Bool
asks_under w (rp.Exchange v message) = bytes_eq v w
asks_under w (rp.Fetch v message) = bytes_eq v w
asks_under w reply = false

abbrev pub holds : Word → Place → Bool
holds w (Party n from request p) = asks_under w p.reply
holds w (Provider from request p) = false
holds w Nothing = false

abbrev pub holder : Word → World → Option Place
holder w [] = None
holder w (x ∷ world) = if holds w x then Some x else holder w world

abbrev pub IsJoinedAt : World → ℕ → WorldAsk → Type 0
IsJoinedAt world from (Tokens w answer) = (y : Place) → holder w world ≡ Some y → from_of y ≡ from
IsJoinedAt world from (Info w answer) = (y : Place) → holder w world ≡ Some y → from_of y ≡ from
IsJoinedAt world from (Http request) = Unit {0}

abbrev pub IsJoined : World → Type 0
IsJoined [] = Unit {0}
IsJoined (Provider from request p ∷ world) = IsJoined world
IsJoined (Party n from request p ∷ world) = IsJoined world × IsJoinedAt world from request
IsJoined (Nothing ∷ world) = IsJoined world

-- ---- time goes on: no place has an earlier moment than one before it. (A legal world demands this for each role only.)

-- the moment of the newest place with a request, and 0 if there is none
abbrev pub last_at : World → ℕ
last_at [] = 0
last_at (Provider from request p ∷ world) = p.entry.at
last_at (Party n from request p ∷ world) = p.entry.at
last_at (Nothing ∷ world) = last_at world

abbrev pub IsInOrder : World → Type 0
IsInOrder [] = Unit {0}
IsInOrder (x ∷ world) = IsInOrder world × ((at : ℕ) → moment_of x ≡ Some at → last_at world ≤ at)
