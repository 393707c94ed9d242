-- The definitions computed on small cases: what each accepts, and what it refuses.
use Rattle.std.proofs.Common.{◌≡◌, true, false, codes, Some, None, Result, Ok, Err, refl, sym, ◌∙◌, arith}
use Rattle.sso_base.specs.Words.{Text}
use Rattle.sso_base.proofs.Spelling.{IsBytes-from_all_bytes}
use Rattle.jws_compact.specs.declared.sealing.Typ.TheVariants.{Jwt}
use Rattle.jws_compact.specs.declared.no.JwsNo.{JwsNo}
use Rattle.jws_compact.specs.declared.no.JwsNo.TheVariants.{BadMac, NotThreeParts}
use Rattle.jws_compact.specs.declared.unsealing.Unsealed.{Unsealed}
use Rattle.jws_compact.specs.Jws.{header_bytes, seal_text, opened}
use Rattle.jws_compact.proofs.OnLiterals.{jws_on_literals}
use Rattle.jws_compact.proofs.Written.{written_sealed}
use Rattle.client_registry.specs.declared.records.Client.{Client}
use Rattle.client_registry.specs.Numbers.{no_client}
use Rattle.client_keys.specs.Opening.{SealedFor, has_bad_mac, opening, verdict_for}
use Rattle.client_keys.proofs.Opened.{sealed_opens}

abbrev shop : Client
shop = record no_client { secret = codes "key"; old_secret = Some (codes "old") }

abbrev empty_object : Text
empty_object = codes "{}"

abbrev sealed_under : Text → Text
sealed_under key = seal_text key Jwt empty_object

abbrev refused : JwsNo → Result Unsealed JwsNo
refused why = Err why

-- ---- which secret opens

opening-by_the_secret : opening shop (sealed_under (codes "key")) ≡ codes "key"
unfolding jws_on_literals opening
opening-by_the_secret = refl

opening-by_the_old_secret : opening shop (sealed_under (codes "old")) ≡ codes "old"
unfolding jws_on_literals opening
opening-by_the_old_secret = refl

-- an error before the MAC is that of the secret
opening-not_for_another_error : opening shop (codes "x") ≡ codes "key"
unfolding jws_on_literals opening
opening-not_for_another_error = refl

opening-without_an_old_secret : opening (record shop { old_secret = None }) (sealed_under (codes "old")) ≡ codes "key"
unfolding opening
opening-without_an_old_secret = refl

bad_mac-of_another_key : has_bad_mac (codes "key") (sealed_under (codes "old")) ≡ true
unfolding jws_on_literals
bad_mac-of_another_key = refl

bad_mac-not_of_another_error : has_bad_mac (codes "key") (codes "x") ≡ false
unfolding jws_on_literals
bad_mac-not_of_another_error = refl

-- ---- what is sealed for the client

sealed_for-under_the_old_secret : SealedFor shop (header_bytes Jwt) empty_object (sealed_under (codes "old"))
sealed_for-under_the_old_secret =
    record { secret = codes "old"; own = refl; sealed = written_sealed (codes "old") empty_object Jwt (IsBytes-from_all_bytes empty_object refl) (omega arith) }

opens-under_the_old_secret : verdict_for shop (sealed_under (codes "old")) ≡ Ok (opened (header_bytes Jwt) empty_object)
opens-under_the_old_secret = sealed_opens shop (header_bytes Jwt) empty_object (sealed_under (codes "old")) sealed_for-under_the_old_secret

refused-under_neither : verdict_for shop (sealed_under (codes "other")) ≡ refused BadMac
unfolding jws_on_literals opening
refused-under_neither = refl

refused-for_its_parts : verdict_for shop (codes "x") ≡ refused NotThreeParts
unfolding jws_on_literals opening
refused-for_its_parts = refl

not_sealed_for-under_neither : (h p : Text) → SealedFor shop h p (sealed_under (codes "other")) → ⊥
not_sealed_for-under_neither h p s = absurd (differ (opened h p) BadMac (sym (sealed_opens shop h p (sealed_under (codes "other")) s) ∙ refused-under_neither))
  where
    differ : (u : Unsealed) (e : JwsNo) → ◌≡◌ {A = Result Unsealed JwsNo} (Ok u) (Err e) → ⊥
    differ u e h = cc h
