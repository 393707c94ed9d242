-- The requests that post the form of the provider's login page or consent page (OpenID Connect Core 1.0, 3.1.2.3 and
-- 3.1.2.4).
use Rattle.std.specs.Prelude.{ℕ, Bool, List, [], ◌∷◌, ◌++◌, codes, Option, Some, None, option_map, if◌then◌else◌}
use Rattle.sso_base.specs.Words.{Word, Text, word_text}
use Rattle.oidc_words.specs.Paths.{login_path, consent_path}
use Rattle.client_registry.specs.Configuration.{Configuration}
use Rattle.request_params.specs.Form.{Pair, form_text}
use Rattle.op_exchange.specs.declared.reply.OpReply.TheVariants as op
use Rattle.op_exchange.specs.Fields.{turn_field, user_field, password_field, agree_field, agree_value}
use Rattle.sso_places.specs.declared.types.Jar.{Jar}
use Rattle.sso_places.specs.declared.types.To.TheVariants as to
use Rattle.sso_places.specs.declared.types.WorldReply.{WorldReply}
use Rattle.sso_places.specs.declared.types.WorldReply.TheVariants.{Provider}
use Rattle.web_requests.specs.declared.sent.Sent.{Sent}
use Rattle.web_requests.specs.Sending.{posted, sent}

-- ---- the turn of a page

abbrev pub login_turn : WorldReply → Option Word
login_turn (Provider (op.LoginPage turn browser again)) = Some turn
login_turn reply = None

abbrev pub consent_turn : WorldReply → Option Word
consent_turn (Provider (op.ConsentPage turn browser given client scopes)) = Some turn
consent_turn reply = None

-- ---- its form, filled in

abbrev pub login_form : Word → Text → Text → List Pair
login_form turn user password = (turn_field, word_text turn) ∷ (user_field, user) ∷ (password_field, password) ∷ []

-- the button that refuses
abbrev pub refuse_value : Text
refuse_value = codes "no"

-- the value of the button in the consent form
abbrev pub said : Bool → Text
said agree = if agree then agree_value else refuse_value

abbrev pub consent_form : Word → Bool → List Pair
consent_form turn agree = (turn_field, word_text turn) ∷ (agree_field, said agree) ∷ []

-- ---- the request, if the reply is such a page

-- a form that is posted to a path of the provider
abbrev pub form_posted : Configuration → ℕ → Text → List Pair → Jar → Sent
form_posted c from path pairs jar = sent from to.Provider (posted (c.prefix ++ path) (Some (form_text pairs)) jar)

unfoldable pub login_posted : Configuration → ℕ → WorldReply → Text → Text → Jar → Option Sent
login_posted c from reply user password jar =
    option_map (λ turn. form_posted c from login_path (login_form turn user password) jar) (login_turn reply)

unfoldable pub consent_posted : Configuration → ℕ → WorldReply → Bool → Jar → Option Sent
consent_posted c from reply agree jar =
    option_map (λ turn. form_posted c from consent_path (consent_form turn agree) jar) (consent_turn reply)
