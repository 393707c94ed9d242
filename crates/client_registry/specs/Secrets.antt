-- The secrets of a client. While its secret is changed, a client has an old secret too. Both are accepted, and the
-- configuration states which of them seals (our choice).
use Rattle.std.specs.Prelude.{Bool, false, ◌||◌, List, [], ◌∷◌, ◌++◌, Option, Some, None, unwrap_or, if◌then◌else◌}
use Rattle.std.specs.Str.{bytes_eq}
use Rattle.sso_base.specs.Words.{Text}
use Rattle.client_registry.specs.declared.records.Client.{Client}

abbrev pub old_in : Option Text → List Text
old_in None = []
old_in (Some old) = old ∷ []

-- its secret and, if it has one, its old secret
abbrev pub secrets : Client → List Text
secrets k = k.secret ∷ old_in k.old_secret

-- the secret under which tokens are sealed for the client, and with which it logs in at the token endpoint
abbrev pub sealing : Client → Text
sealing k = if k.seals_old then unwrap_or k.old_secret k.secret else k.secret

abbrev pub is_old : Text → Option Text → Bool
is_old t None = false
is_old t (Some old) = bytes_eq old t

-- the text is a secret of the client
abbrev pub has_secret : Text → Client → Bool
has_secret t k = bytes_eq k.secret t || is_old t k.old_secret

-- the secrets of clients, one client after another
abbrev pub all_secrets : List Client → List Text
all_secrets [] = []
all_secrets (k ∷ ks) = secrets k ++ all_secrets ks
