-- Traces of one login: alice logs in at the shop, in browser 1. Each line from the third on makes the next place, from 1.
use Rattle.std.specs.Prelude.{◌++◌, codes}
use Rattle.sso_base.specs.Words.{Text}

-- The browser begins the login, follows the authorization request, gets the login page, then the consent page, and follows the answer.
abbrev pub by_response : Text
by_response =
    codes "sso-trace 1 000000000000000000000000000000000000000000000000\n"
    ++ codes "at 1000\n"
    ++ codes "begin 1 shop\n"
    ++ codes "follow 1 1\n"
    ++ codes "login 1 2 alice password\n"
    ++ codes "consent 1 3 yes\n"
    ++ codes "follow 1 4\n"

-- The party sends the code to the provider, and gets the tokens.
abbrev pub by_code : Text
by_code = by_response ++ codes "carry 5 0\n" ++ codes "back 5 6\n"

-- It sends the access token there, and gets the claims.
abbrev pub by_code_with_info : Text
by_code_with_info = by_code ++ codes "carry 7 0\n" ++ codes "back 7 8\n"
