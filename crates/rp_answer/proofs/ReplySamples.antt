-- The parts of a reply, and room, each on a case that fits and on one that doesn't.
use Rattle.std.proofs.Common.{◌≡◌, true, false, List, [], ◌∷◌, length, Some, None, codes, refl}
use Rattle.sso_base.specs.Words.{Word, Text}
use Rattle.sso_base.specs.Rows.{row_of}
use Rattle.id_token.specs.declared.rules.Half.TheVariants.{Free, IfThere, Must}
use Rattle.id_token.specs.HalfHash.{half_hash_of}
use Rattle.rp_login.specs.declared.rows.LoginRow.{LoginRow}
use Rattle.rp_login.specs.declared.table.RpTable.TheVariants as table
use Rattle.rp_login.specs.Rows.{login_name}
use Rattle.rp_exchange.specs.declared.ask.RpAsk.TheVariants as ask
use Rattle.rp_exchange.specs.declared.no.Part.TheVariants as part
use Rattle.rp_exchange.specs.declared.no.RpNo.TheVariants as no
use Rattle.rp_exchange.specs.declared.reply.RpReply.TheVariants.{Fragment, Entered, User, Nobody, Refused, NotHere}
use Rattle.rp_answer.specs.Setup.{party_of, client_of}
use Rattle.client_registry.specs.Numbers.{no_party}
use Rattle.rp_answer.specs.Replies.{login_browser, must_hash, may_hash, front_access, front_code, front_rules, back_rules, part_missing, exchange_or_enter, visited}
use Rattle.held_rows.specs.Held.{most_rows, is_full}
use Rattle.rp_answer.specs.Room.{if_full, table_lacking, unless_lacking, unless_full}
use Rattle.rp_answer.specs.Answering.{rp_reply}
use Rattle.rp_answer.specs.Causes.{is_own}
use Rattle.rp_answer.proofs.Sample.{word, entry_at, registered, only_code, id_and_token, code_and_id, shop, news_client, shop_setup, news_setup}
use Rattle.rp_answer.proofs.FirstVisit.{begin_entry, asked, past_begin, heard, callback_entry, exchange, past_callback, past_entered}
use Rattle.rp_answer.proofs.FrontLogin.{heard_front, front_claims, waiting}
use Rattle.rp_answer.proofs.EachRefusal.{came}
use Rattle.rp_answer.proofs.RowSamples.{login, visit}

-- ---- the party and its client

shop_is_first : party_of shop_setup ≡ shop
shop_is_first = refl

news_is_second : client_of news_setup ≡ news_client
news_is_second = refl

none_is_third : party_of (record shop_setup { number = 2 }) ≡ no_party
none_is_third = refl

-- ---- the browser of a login

browser_is_kept : login_browser past_begin (entry_at 1599 9 (ask.Begin None)) (Some (word 1)) ≡ word 1
browser_is_kept = refl

browser_is_drawn : login_browser past_begin (entry_at 1599 9 (ask.Begin None)) (Some (word 5)) ≡ word 9
browser_is_drawn = refl

-- ---- the rules of ID Tokens

must_of_text : (t : Text) → must_hash (Some t) ≡ Must (half_hash_of t)
must_of_text t = refl

must_of_none : must_hash None ≡ Free
must_of_none = refl

may_of_text : (t : Text) → may_hash (Some t) ≡ IfThere (half_hash_of t)
may_of_text t = refl

may_of_none : may_hash None ≡ Free
may_of_none = refl

access_where_wanted : (access : Text) → front_access news_setup (heard_front access) ≡ Some access
access_where_wanted access = refl

access_uncalled : (access : Text) → front_access shop_setup (heard_front access) ≡ None
access_uncalled access = refl

code_where_wanted : front_code shop_setup heard ≡ Some (codes "code")
code_where_wanted = refl

code_uncalled : front_code news_setup heard ≡ None
code_uncalled = refl

-- the access token of a response has its hash in the ID Token; the code has none there, since there is none
front_token_rule : (access : Text) → (front_rules news_setup login (heard_front access)).token ≡ Must (half_hash_of access)
front_token_rule access = refl

front_code_rule : (access : Text) → (front_rules news_setup login (heard_front access)).code ≡ Free
front_code_rule access = refl

back_token_rule : (back_rules shop_setup waiting came).token ≡ IfThere (half_hash_of (codes "access"))
back_token_rule = refl

back_client : (back_rules shop_setup waiting came).client ≡ codes "shop-client"
back_client = refl

back_begun : (back_rules shop_setup waiting came).begun ≡ 1000
back_begun = refl

-- an age is asked for where the party asks for one
no_age : (back_rules shop_setup waiting came).max_age ≡ None
no_age = refl

an_age : (back_rules (record shop_setup { configuration = registered (record shop { max_age = Some 300 } ∷ []) }) waiting came).max_age ≡ Some 300
an_age = refl

-- ---- parts of a response

no_part_missing : part_missing only_code heard ≡ None
no_part_missing = refl

code_missing : (access : Text) → part_missing code_and_id (heard_front access) ≡ Some part.Code
code_missing access = refl

access_missing : part_missing id_and_token heard ≡ Some part.Access
access_missing = refl

id_missing : part_missing code_and_id heard ≡ Some part.Id
id_missing = refl

code_is_exchanged : exchange_or_enter shop_setup (callback_entry 1000 (word 1)) heard (Some (codes "code")) None ≡ exchange
code_is_exchanged = refl

claims_enter : (t : Text) → exchange_or_enter news_setup (callback_entry 1000 (word 1)) heard None (Some (front_claims t)) ≡ Entered (word 18) (codes "alice")
claims_enter t = refl

neither_is_refused : exchange_or_enter news_setup (callback_entry 1000 (word 1)) heard None None ≡ Refused (no.Missing part.Id)
neither_is_refused = refl

-- ---- subjects

visit_is_user : visited (Some visit) ≡ User (codes "alice")
visit_is_user = refl

none_is_nobody : visited None ≡ Nobody
none_is_nobody = refl

-- ---- room

same_name_is_full : is_full most_rows login_name (word 2) (login ∷ []) ≡ true
same_name_is_full = refl

other_name_is_not_full : is_full most_rows login_name (word 3) (login ∷ []) ≡ false
other_name_is_not_full = refl

-- a table holds 65,536 rows, whatever they are
most_are_full : (w : Word) (rows : List LoginRow) → length rows ≡ 65536 → is_full most_rows login_name w rows ≡ true
most_are_full w rows long = rw long refl

one_fewer_is_not_full : (w : Word) (rows : List LoginRow) → length rows ≡ 65535 → row_of login_name w rows ≡ None → is_full most_rows login_name w rows ≡ false
one_fewer_is_not_full w rows long absent = rw (long, absent) refl

full_is_named : if_full table.Logins true ≡ Some table.Logins
full_is_named = refl

room_is_not_named : if_full table.Logins false ≡ None
room_is_not_named = refl

exchange_lacks_room : table_lacking only_code past_callback (callback_entry 1000 (word 1)) exchange ≡ Some table.Pendings
exchange_lacks_room = refl

exchange_has_room : table_lacking only_code past_begin (callback_entry 1000 (word 1)) exchange ≡ None
exchange_has_room = refl

-- the row's life is over
exchange_has_room_again : table_lacking only_code past_callback (callback_entry 1120 (word 1)) exchange ≡ None
exchange_has_room_again = refl

-- a reply that adds no row needs no room
nobody_needs_none : (t : Text) → table_lacking only_code (past_entered t) begin_entry Nobody ≡ None
nobody_needs_none t = refl

room_leaves_reply : unless_lacking exchange None ≡ exchange
room_leaves_reply = refl

no_room_is_refused : unless_lacking exchange (Some table.Pendings) ≡ Refused (no.Full table.Pendings)
no_room_is_refused = refl

begin_with_room : unless_full only_code [] begin_entry asked ≡ asked
begin_with_room = refl

begin_without_room : unless_full only_code past_begin begin_entry asked ≡ Refused (no.Full table.Logins)
begin_without_room = refl

-- the reply without regard to room
begin_anyway : rp_reply shop_setup past_begin begin_entry begin_entry.ask ≡ asked
begin_anyway = refl

fragment_has_its_page : rp_reply news_setup past_begin begin_entry ask.Fragment ≡ Fragment
fragment_has_its_page = refl

elsewhere_is_not_here : rp_reply shop_setup past_begin begin_entry ask.NotHere ≡ NotHere
elsewhere_is_not_here = refl

-- ---- replies that are the party's own

exchange_is_own : is_own exchange ≡ true
exchange_is_own = refl

stale_is_own : is_own (Refused no.StaleLogin) ≡ true
stale_is_own = refl

full_is_not_own : is_own (Refused (no.Full table.Seen)) ≡ false
full_is_not_own = refl

not_here_is_not_own : is_own NotHere ≡ false
not_here_is_not_own = refl
