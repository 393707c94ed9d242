-- Laws about the replies that the provider writes. Each is a clause of a function of `law.rt`, which says it in words.
use Rattle.std.specs.Prelude.{◌≡◌, ◌==◌, ◌++◌, ℕ, List, [], ◌∷◌, Bool, true, false, Option, is_some, codes, Ok}
use Rattle.std.specs.List.{list_any}
use Rattle.std.specs.Str.{IsUtf8}
use Rattle.std.specs.Str.Iter.{HasSubslice}
use Rattle.sso_base.specs.Words.{Word, Text, word_text}
use Rattle.sso_base.specs.declared.http.Kind.TheVariants as kind
use Rattle.client_registry.specs.Configuration.{Configuration}
use Rattle.client_registry.specs.Numbers.{client_id}
use Rattle.client_registry.specs.Registered.{IsRegistry}
use Rattle.oidc_words.specs.declared.scopes.Scopes.{Scopes}
use Rattle.oidc_words.specs.Paths.{login_path, consent_path, signout_path}
use Rattle.oidc_words.specs.Scopes.{scope_text}
use Rattle.auth_answer.specs.declared.answer.Answer.{Answer}
use Rattle.token_endpoint.specs.Answer.{tokens_read}
use Rattle.op_exchange.specs.declared.reply.OpReply.{OpReply}
use Rattle.op_exchange.specs.declared.reply.OpReply.TheVariants as reply
use Rattle.op_exchange.specs.Fields.{turn_field, user_field, password_field, agree_field, agree_value}
use Rattle.html_pages.specs.Escaping.{IsInert}
use Rattle.html_pages.specs.Posting.{Control, control_of, posted, form_posted, hidden_posted}
use Rattle.op_response.specs.FullPages.{asked_for}
use Rattle.op_response.specs.Telling.{http_of, application_title}
use Rattle.op_response.specs.Lines.{line_of}

-- ---- token responses

abbrev pub WrittenTokensAreRead : Type 0
WrittenTokensAreRead =
    (c : Configuration) (w : Word) (id : Text) → IsUtf8 id
    → tokens_read (record { status = (http_of c (reply.Tokens w id)).status; body = (http_of c (reply.Tokens w id)).body })
    ≡ Ok (record { access = word_text w; id = id })

-- ---- what the forms of pages post

-- the form of a login page
abbrev pub login_posted : Text → Text → List Control
login_posted prefix turn =
    form_posted (prefix ++ login_path)
    ∷ hidden_posted turn_field turn
    ∷ control_of (codes "input") ((codes "name=", user_field) ∷ [])
    ∷ control_of (codes "input") ((codes "type=", codes "password") ∷ (codes "name=", password_field) ∷ [])
    ∷ control_of (codes "button") [] ∷ []

-- the form of a consent page
abbrev pub consent_posted : Text → Text → List Control
consent_posted prefix turn =
    form_posted (prefix ++ consent_path)
    ∷ hidden_posted turn_field turn
    ∷ control_of (codes "button") ((codes "name=", agree_field) ∷ (codes "value=", agree_value) ∷ [])
    ∷ control_of (codes "button") ((codes "name=", agree_field) ∷ (codes "value=", codes "no") ∷ []) ∷ []

-- a full consent page also has a form that ends the session
abbrev pub other_posted : Bool → Text → List Control
other_posted false prefix = []
other_posted true prefix = form_posted (prefix ++ signout_path) ∷ control_of (codes "button") [] ∷ []

abbrev pub LoginPagesPostTheirForm : Type 0
LoginPagesPostTheirForm =
    (c : Configuration) (turn browser : Word) (again : Bool) → IsInert c.prefix
    → posted (http_of c (reply.LoginPage turn browser again)).body ≡ login_posted c.prefix (word_text turn)

abbrev pub ConsentPagesPostTheirForm : Type 0
ConsentPagesPostTheirForm =
    (c : Configuration) (n : ℕ) (turn browser : Word) (given : Option Word) (scopes : Scopes) → IsRegistry c → IsInert c.prefix
    → posted (http_of c (reply.ConsentPage turn browser given (client_id c n) scopes)).body
    ≡ consent_posted c.prefix (word_text turn) ++ other_posted c.full_pages c.prefix

-- ---- pages

abbrev pub LoginFormsArePostedToTheProvider : Type 0
LoginFormsArePostedToTheProvider =
    (c : Configuration) (turn browser : Word) (again : Bool)
    → HasSubslice (http_of c (reply.LoginPage turn browser again)).body
    (codes "<form method=\"post\" action=\"" ++ (c.prefix ++ (login_path ++ codes "\">")))

abbrev pub LoginFormsHaveTheirTurn : Type 0
LoginFormsHaveTheirTurn =
    (c : Configuration) (turn browser : Word) (again : Bool)
    → HasSubslice (http_of c (reply.LoginPage turn browser again)).body
    (codes "<input type=\"hidden\" name=\"" ++ (turn_field ++ (codes "\" value=\"" ++ (word_text turn ++ codes "\">"))))

abbrev pub ConsentFormsArePostedToTheProvider : Type 0
ConsentFormsArePostedToTheProvider =
    (c : Configuration) (turn browser : Word) (given : Option Word) (client : Text) (scopes : Scopes)
    → HasSubslice (http_of c (reply.ConsentPage turn browser given client scopes)).body
    (codes "<form method=\"post\" action=\"" ++ (c.prefix ++ (consent_path ++ codes "\">")))

abbrev pub ConsentFormsHaveTheirTurn : Type 0
ConsentFormsHaveTheirTurn =
    (c : Configuration) (turn browser : Word) (given : Option Word) (client : Text) (scopes : Scopes)
    → HasSubslice (http_of c (reply.ConsentPage turn browser given client scopes)).body
    (codes "<input type=\"hidden\" name=\"" ++ (turn_field ++ (codes "\" value=\"" ++ (word_text turn ++ codes "\">"))))

abbrev pub ConsentPagesNameClientAndScopes : Type 0
ConsentPagesNameClientAndScopes =
    (c : Configuration) (turn browser : Word) (given : Option Word) (client : Text) (scopes : Scopes) → c.full_pages ≡ false
    → HasSubslice (http_of c (reply.ConsentPage turn browser given client scopes)).body
    (codes "<p>" ++ (client ++ (codes ": " ++ (scope_text scopes ++ codes "</p>"))))

abbrev pub FullConsentPagesNameApplicationAndScopes : Type 0
FullConsentPagesNameApplicationAndScopes =
    (c : Configuration) (turn browser : Word) (given : Option Word) (client : Text) (scopes : Scopes) → c.full_pages ≡ true
    → HasSubslice (http_of c (reply.ConsentPage turn browser given client scopes)).body (asked_for (application_title c client) scopes)

-- ---- lines

abbrev pub PlainBodiesAreLines : Type 0
PlainBodiesAreLines =
    (c : Configuration) (r : OpReply) → (http_of c r).kind ≡ kind.Plain
    → (line : Text) × ((http_of c r).body ≡ line ++ 10 ∷ []) × (list_any (λ b. b == 10) line ≡ false)

abbrev pub LinesTellTheParts : Type 0
LinesTellTheParts =
    (a b : Answer) (given other : Option Word) → is_some a.code ≡ is_some b.code → is_some a.id ≡ is_some b.id
    → is_some a.access ≡ is_some b.access → line_of (reply.Answered a given) ≡ line_of (reply.Answered b other)
