-- The trace of a storm computed on small cases: each party, and each of what else happens at a login.
use Rattle.std.proofs.Common.{◌≡◌, [], ◌++◌, codes, refl, sym, true≢false}
use Rattle.std.specs.Fmt.{digits}
use Rattle.hex.specs.Hex.{encode_with}
use Rattle.client_registry.specs.Configuration.{Configuration}
use Rattle.storm_texts.specs.declared.login.Party.TheVariants.{Shop}
use Rattle.storm_texts.specs.Lines.{at_line, begin_line, follow_line, login_line, visit_line, exchange_lines}
use Rattle.storm_texts.specs.Logins.{login_lines, next}
use Rattle.storm_texts.specs.Parties.{KnowsParties}
use Rattle.storm_texts.specs.Trace.{header, trace_text, places_before}

-- the first two terms after 7
second : next (next 7) ≡ 17628806926561717905
second = refl

one_login : trace_text 0 1 ≡
    codes "sso-trace 1 000000000000000000000000000000000000000000000000\n"
    ++ codes "at 1000\n"
    ++ codes "begin 1 shop\n"
    ++ codes "follow 1 1\n"
    ++ codes "login 1 2 alice password\n"
    ++ codes "follow 1 3\n"
    ++ codes "carry 4 0\n"
    ++ codes "back 4 5\n"
    ++ codes "visit 1 shop\n"
unfolding trace_text header login_lines at_line begin_line follow_line login_line visit_line exchange_lines encode_with digits
one_login = refl

twelve_logins : trace_text 4294967295 12 ≡
    codes "sso-trace 1 0000000000000000000000000000000000000000ffffffff\n"
    ++ codes "at 1000\n"
    ++ codes "begin 1 shop\n"
    ++ codes "follow 1 1\n"
    ++ codes "login 1 2 alice password\n"
    ++ codes "follow 1 3\n"
    ++ codes "carry 4 0\n"
    ++ codes "back 4 5\n"
    ++ codes "visit 1 shop\n"
    ++ codes "at 1001\n"
    ++ codes "begin 2 news\n"
    ++ codes "follow 2 8\n"
    ++ codes "login 2 9 bob password\n"
    ++ codes "follow 2 10\n"
    ++ codes "visit 2 news\n"
    ++ codes "at 1002\n"
    ++ codes "begin 3 mail\n"
    ++ codes "follow 3 13\n"
    ++ codes "login 3 14 bob password\n"
    ++ codes "follow 3 15\n"
    ++ codes "carry 16 0\n"
    ++ codes "back 16 17\n"
    ++ codes "carry 18 0\n"
    ++ codes "back 18 19\n"
    ++ codes "visit 3 mail\n"
    ++ codes "at 1003\n"
    ++ codes "begin 4 shop\n"
    ++ codes "follow 4 22\n"
    ++ codes "login 4 23 bob password\n"
    ++ codes "follow 4 24\n"
    ++ codes "carry 25 0\n"
    ++ codes "back 25 26\n"
    ++ codes "visit 4 shop\n"
    ++ codes "follow 4 24\n"
    ++ codes "at 1004\n"
    ++ codes "begin 5 news\n"
    ++ codes "follow 5 30\n"
    ++ codes "login 5 31 alice password\n"
    ++ codes "follow 5 32\n"
    ++ codes "visit 5 news\n"
    ++ codes "follow 5 32\n"
    ++ codes "at 1005\n"
    ++ codes "begin 6 mail\n"
    ++ codes "follow 6 36\n"
    ++ codes "login 6 37 bob password\n"
    ++ codes "follow 6 38\n"
    ++ codes "carry 39 0\n"
    ++ codes "back 39 40\n"
    ++ codes "carry 41 0\n"
    ++ codes "back 41 42\n"
    ++ codes "visit 6 mail\n"
    ++ codes "follow 6 38\n"
    ++ codes "at 1006\n"
    ++ codes "begin 7 shop\n"
    ++ codes "follow 7 46\n"
    ++ codes "login 7 47 alice password\n"
    ++ codes "follow 65535 48\n"
    ++ codes "follow 7 48\n"
    ++ codes "carry 50 0\n"
    ++ codes "back 50 51\n"
    ++ codes "visit 7 shop\n"
    ++ codes "at 1007\n"
    ++ codes "begin 8 news\n"
    ++ codes "follow 8 54\n"
    ++ codes "login 8 55 bob password\n"
    ++ codes "follow 65535 56\n"
    ++ codes "follow 8 56\n"
    ++ codes "visit 8 news\n"
    ++ codes "at 1008\n"
    ++ codes "begin 9 mail\n"
    ++ codes "follow 9 60\n"
    ++ codes "login 9 61 bob password\n"
    ++ codes "follow 65535 62\n"
    ++ codes "follow 9 62\n"
    ++ codes "carry 64 0\n"
    ++ codes "back 64 65\n"
    ++ codes "carry 66 0\n"
    ++ codes "back 66 67\n"
    ++ codes "visit 9 mail\n"
    ++ codes "at 1009\n"
    ++ codes "begin 10 shop\n"
    ++ codes "follow 10 70\n"
    ++ codes "login 10 71 alice password\n"
    ++ codes "follow 10 72\n"
    ++ codes "carry 73 0\n"
    ++ codes "back 73 74\n"
    ++ codes "visit 10 shop\n"
    ++ codes "login 10 71 alice password\n"
    ++ codes "at 1010\n"
    ++ codes "begin 11 news\n"
    ++ codes "follow 11 78\n"
    ++ codes "login 11 79 bob password\n"
    ++ codes "follow 11 80\n"
    ++ codes "visit 11 news\n"
    ++ codes "login 11 79 bob password\n"
    ++ codes "at 1011\n"
    ++ codes "begin 12 mail\n"
    ++ codes "follow 12 84\n"
    ++ codes "login 12 85 alice password\n"
    ++ codes "follow 12 86\n"
    ++ codes "carry 87 0\n"
    ++ codes "back 87 88\n"
    ++ codes "carry 89 0\n"
    ++ codes "back 89 90\n"
    ++ codes "visit 12 mail\n"
    ++ codes "login 12 85 alice password\n"
unfolding trace_text header login_lines at_line begin_line follow_line login_line visit_line exchange_lines encode_with digits
twelve_logins = refl

-- twelve logins have each party four times and each twist three times
twelve_places : places_before 12 ≡ 93
twelve_places = refl

-- a configuration without parties has not those of a storm
no_party_is_known : (c : Configuration) → KnowsParties (record c { parties = [] }) → ⊥
no_party_is_known c knows = true≢false (sym (knows Shop))
