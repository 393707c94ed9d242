-- The kinds of lines in logins. Browsers and places are numbered from 1.
use Rattle.std.specs.Prelude.{ℕ, ◌+◌, ◌∷◌, ◌++◌, [], codes}
use Rattle.std.specs.Fmt.{decimal}
use Rattle.sso_base.specs.Words.{Text}

-- the moment, in seconds
unfoldable pub at_line : ℕ → Text
at_line seconds = codes "at " ++ decimal seconds ++ 10 ∷ []

-- a browser begins a login at a party
unfoldable pub begin_line : ℕ → Text → Text
begin_line browser party = codes "begin " ++ decimal browser ++ 32 ∷ party ++ 10 ∷ []

-- it follows the location of a place's reply
unfoldable pub follow_line : ℕ → ℕ → Text
follow_line browser place = codes "follow " ++ decimal browser ++ 32 ∷ decimal place ++ 10 ∷ []

-- it posts the login form of a place, with a name and a password
unfoldable pub login_line : ℕ → ℕ → Text → Text
login_line browser place credentials = codes "login " ++ decimal browser ++ 32 ∷ decimal place ++ 32 ∷ credentials ++ 10 ∷ []

-- it visits a party
unfoldable pub visit_line : ℕ → Text → Text
visit_line browser party = codes "visit " ++ decimal browser ++ 32 ∷ party ++ 10 ∷ []

-- the party's request of a place is carried to the provider, and the answer, which is the reply of the next place, is returned
unfoldable pub exchange_lines : ℕ → Text
exchange_lines place = codes "carry " ++ decimal place ++ codes " 0\nback " ++ decimal place ++ 32 ∷ decimal (place + 1) ++ 10 ∷ []
