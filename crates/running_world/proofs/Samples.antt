-- The definitions, tried on small cases: moments, premises at the next place, and what is kept of a place.
use Rattle.std.proofs.Common.{◌≡◌, ℕ, Bool, true, false, ◌&&◌, ◌||◌, not, [], ◌∷◌, codes, Some, None, refl, ap, ◌∙◌}
use Rattle.sso_base.specs.Words.{Text}
use Rattle.sso_base.specs.declared.http.Method.TheVariants.{Get}
use Rattle.sso_base.specs.declared.http.Ask.{Ask}
use Rattle.sso_base.proofs.RowLaws.{bytes_true}
use Rattle.client_registry.specs.Configuration.{Configuration}
use Rattle.op_exchange.specs.declared.reply.OpReply.TheVariants.{Keys}
use Rattle.rp_answer.proofs.Sample.{sample, shop_client}
use Rattle.sso_places.specs.declared.types.Broken.TheVariants.{Forged, Leaked, HashClash}
use Rattle.sso_places.specs.declared.types.To.TheVariants as to
use Rattle.sso_places.specs.declared.types.WorldAsk.TheVariants.{Http}
use Rattle.sso_places.specs.declared.types.WorldReply.TheVariants as reply
use Rattle.sso_places.specs.FirstBroken.{verdict}
use Rattle.sso_places.specs.Tokens.{is_sealed, is_sealed_for}
use Rattle.running_world.specs.declared.judging.TokenText.{TokenText}
use Rattle.running_world.specs.declared.kept.Kept.{Kept}
use Rattle.running_world.specs.Clashing.{clash_by, earlier_of}
use Rattle.running_world.specs.Forging.{forges}
use Rattle.running_world.specs.Running.{kept_at}
use Rattle.running_world.specs.Stepping.{IsForRole, later}
use Rattle.running_world.specs.Whole.{IsWhole, from_if, role_if}

-- ---- moments

goes_on : later 1000 1001 ≡ 1001
goes_on = refl

never_back : later 1000 999 ≡ 1000
never_back = refl

-- ---- premises

forged_first : verdict 7 true true ≡ Some (Forged 7)
forged_first = refl

leaked_then : verdict 7 false true ≡ Some (Leaked 7)
leaked_then = refl

none_fails : verdict 7 false false ≡ None
none_fails = refl

clash_with_the_earlier : clash_by 7 (earlier_of (Some 5) (Some 3)) true ≡ Some (HashClash 3 7)
clash_with_the_earlier = refl

clash_with_itself : clash_by 7 (earlier_of None None) true ≡ Some (HashClash 7 7)
clash_with_itself = refl

-- ---- a forged token, while the secret of its client is changed: it is sealed under either secret, and was not written

abbrev changed : Configuration
changed = record sample { clients = (record shop_client { old_secret = Some (codes "old") }) ∷ [] }

abbrev token_for : ℕ → Text → TokenText
token_for client text = record { client = client; text = text }

forged_under_the_secret : (t : Text) → is_sealed shop_client.secret t ≡ true → forges changed [] (Some (token_for 0 t)) ≡ true
forged_under_the_secret t seals = rw seals refl

forged_under_the_old_secret : (t : Text) → is_sealed shop_client.secret t ≡ false → is_sealed (codes "old") t ≡ true → forges changed [] (Some (token_for 0 t)) ≡ true
forged_under_the_old_secret t other seals = rw (other, seals) refl

not_forged_under_neither : (t : Text) → is_sealed shop_client.secret t ≡ false → is_sealed (codes "old") t ≡ false → forges changed [] (Some (token_for 0 t)) ≡ false
not_forged_under_neither t other old = rw (other, old) refl

and_false : (b : Bool) → (b && false) ≡ false
and_false true = refl
and_false false = refl

not_forged_where_written : (t : Text) → forges changed ((t ∷ []) ∷ []) (Some (token_for 0 t)) ≡ false
not_forged_where_written t = ap (λ b. is_sealed_for changed (0, t) && not (b || false)) (bytes_true t t refl) ∙ and_false (is_sealed_for changed (0, t))

not_forged_for_nobody : (t : Text) → forges changed [] (Some (token_for 1 t)) ≡ false
not_forged_for_nobody t = refl

no_token_is_forged : forges changed [] None ≡ false
no_token_is_forged = refl

-- ---- what is kept

abbrev asks : Ask
asks = record { method = Get; path = []; query = []; body = None; first = None; second = None; auth = None }

abbrev kept : Kept
kept = record { asked = Some (record { from = 3; at = 1000; fresh = []; to = to.Provider; ask = Http asks }); reply = reply.Provider Keys }

whole : IsWhole kept
whole = tt

not_whole : IsWhole (record kept { reply = reply.Nothing }) → ⊥
not_whole h = h

nothing_asked : IsWhole (record { asked = None; reply = reply.Nothing })
nothing_asked = refl

from_three : from_if kept.asked ≡ 3
from_three = refl

of_the_provider : role_if kept.asked ≡ Some to.Provider
of_the_provider = refl

first_kept : kept_at (kept ∷ []) 1 ≡ Some kept
first_kept = refl

none_kept : kept_at (kept ∷ []) 2 ≡ None
none_kept = refl

asks_the_provider : IsForRole to.Provider (Http asks)
asks_the_provider = tt
