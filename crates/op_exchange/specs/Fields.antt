-- The names of the fields of the forms on the login page and the consent page, and the value for consent (our choice).
use Rattle.std.specs.Prelude.{codes}
use Rattle.sso_base.specs.Words.{Text}

-- of both: the text of the turn
abbrev pub turn_field : Text
turn_field = codes "turn"

-- of the login form
abbrev pub user_field : Text
user_field = codes "user"

abbrev pub password_field : Text
password_field = codes "password"

-- of the consent form
abbrev pub agree_field : Text
agree_field = codes "agree"

-- its value if the user consents
abbrev pub agree_value : Text
agree_value = codes "yes"
