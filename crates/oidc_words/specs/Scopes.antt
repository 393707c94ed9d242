-- Scope values (OpenID Connect Core 1.0, 3.1.2.1 and 5.4).
use Rattle.std.specs.Prelude.{Bool, true, false, not, ◌&&◌, ◌||◌, List, [], ◌∷◌, codes}
use Rattle.sso_base.specs.Words.{Text}
use Rattle.oidc_words.specs.declared.scopes.Scopes.{Scopes}
use Rattle.sso_base.specs.Texts.{has_text}
use Rattle.oidc_words.specs.Words.{has_word, words_of, are_words, Choice, spaced}

-- ---- their texts

abbrev pub openid_word : Text
openid_word = codes "openid"

abbrev pub profile_word : Text
profile_word = codes "profile"

abbrev pub email_word : Text
email_word = codes "email"

abbrev pub address_word : Text
address_word = codes "address"

abbrev pub phone_word : Text
phone_word = codes "phone"

-- all of them, in order
abbrev pub scope_words : List Text
scope_words = openid_word ∷ profile_word ∷ email_word ∷ address_word ∷ phone_word ∷ []

-- the scope values among words; other words are ignored (3.1.2.1, `scope`)
abbrev pub scopes_among : List Text → Scopes
scopes_among ws =
    record {
      openid = has_text openid_word ws;
      profile = has_text profile_word ws;
      email = has_text email_word ws;
      address = has_text address_word ws;
      phone = has_text phone_word ws;
    }

-- the words of scope values, each with whether it is in the set
abbrev pub scope_choices : Scopes → List Choice
scope_choices s = (s.openid, openid_word) ∷ (s.profile, profile_word) ∷ (s.email, email_word) ∷ (s.address, address_word) ∷ (s.phone, phone_word) ∷ []

-- the text of scope values, in order, separated by one space each
abbrev pub scope_text : Scopes → Text
scope_text s = spaced (scope_choices s)

-- the text consists of known scope values, each at most once, with `openid` among them
abbrev pub is_scope : Text → Bool
is_scope t = are_words scope_words (words_of t) && has_word openid_word t

-- ---- sets of them

abbrev pub no_scopes : Scopes
no_scopes = record { openid = false; profile = false; email = false; address = false; phone = false }

abbrev pub all_scopes : Scopes
all_scopes = record { openid = true; profile = true; email = true; address = true; phone = true }

-- the union of both sets
unfoldable pub joined : Scopes → Scopes → Scopes
joined s t =
    record {
      openid = s.openid || t.openid;
      profile = s.profile || t.profile;
      email = s.email || t.email;
      address = s.address || t.address;
      phone = s.phone || t.phone;
    }

-- each scope value of the second set is in the first
abbrev pub covers : Scopes → Scopes → Bool
covers s t =
    (s.openid || not t.openid) && (s.profile || not t.profile) && (s.email || not t.email)
    && (s.address || not t.address) && (s.phone || not t.phone)
