-- The definitions of cookies and of replies, computed.
use Rattle.std.proofs.Common.{◌≡◌, true, false, [], ◌∷◌, codes, Some, None, refl}
use Rattle.sso_base.proofs.OnLiterals.{base64url_on_literals}
use Rattle.sso_base.proofs.SampleWords.{word}
use Rattle.http_reply.specs.Cookies.{cookie, cookie_name}
use Rattle.sso_base.specs.declared.http.Kind.TheVariants.{Empty, Plain, Html}
use Rattle.http_reply.specs.Replies.{html, plain, empty, sent_to}
use Rattle.http_reply.specs.Told.{is_under, words_named, sets_cookie}
use Rattle.http_reply.specs.UserAgent.{is_cookie_name, cookie_read, is_taken, set_cookie}

a_secure_cookie : cookie true (codes "op_s") (word 3) ≡ codes "op_s=AAAAAAAAAAAAAAAAAAAAAAAAAAAAAAAAAAAAAAAAAAM; Path=/; HttpOnly; SameSite=Lax; Secure"
unfolding base64url_on_literals
a_secure_cookie = refl

a_local_cookie : cookie false (codes "op_b") (word 1) ≡ codes "op_b=AAAAAAAAAAAAAAAAAAAAAAAAAAAAAAAAAAAAAAAAAAE; Path=/; HttpOnly; SameSite=Lax"
unfolding base64url_on_literals
a_local_cookie = refl

a_name_of_a_host : cookie_name true (codes "op_s") ≡ codes "__Host-op_s"
a_name_of_a_host = refl

a_plain_name : cookie_name false (codes "op_s") ≡ codes "op_s"
a_plain_name = refl

not_taken-over_http : is_taken (set_cookie false (codes "__Host-op_s") (word 3)) ≡ false
not_taken-over_http = refl

not_taken-for_a_domain : is_taken (record { name = codes "__Host-op_s"; value = []; attributes = (codes "Secure", []) ∷ (codes "Path", codes "/") ∷ (codes "Domain", codes "a.b") ∷ [] }) ≡ false
not_taken-for_a_domain = refl

not_taken-for_one_path : is_taken (record { name = codes "__Host-op_s"; value = []; attributes = (codes "Secure", []) ∷ (codes "Path", codes "/op") ∷ [] }) ≡ false
not_taken-for_one_path = refl

taken-of_a_host : is_taken (set_cookie true (codes "__Host-op_s") (word 3)) ≡ true
taken-of_a_host = refl

taken-under_a_plain_name : is_taken (set_cookie false (codes "op_s") (word 3)) ≡ true
taken-under_a_plain_name = refl

a_name : is_cookie_name (codes "op_b") ≡ true
a_name = refl

no_name : is_cookie_name [] ≡ false
no_name = refl

name_with_a_separator : is_cookie_name (codes "op=b") ≡ false
name_with_a_separator = refl

name_with_a_blank : is_cookie_name (codes "op b") ≡ false
name_with_a_blank = refl

blanks_are_dropped : cookie_read (codes " op_b =\tv=w ;  Path = / ;Secure") ≡ Some (record { name = codes "op_b"; value = codes "v=w"; attributes = (codes "Path", codes "/") ∷ (codes "Secure", []) ∷ [] })
blanks_are_dropped = refl

pair_without_equals : cookie_read (codes "op_b; Path=/") ≡ None
pair_without_equals = refl

pair_without_a_name : cookie_read (codes " =v; Path=/") ≡ None
pair_without_a_name = refl

a_word_is_read : cookie_read (codes "op_s=AAAAAAAAAAAAAAAAAAAAAAAAAAAAAAAAAAAAAAAAAAM; Path=/; HttpOnly; SameSite=Lax; Secure") ≡ Some (set_cookie true (codes "op_s") (word 3))
unfolding base64url_on_literals
a_word_is_read = refl

not_secure : cookie_read (codes "op_s=v; Path=/; HttpOnly; SameSite=Lax") ≡ Some (record { name = codes "op_s"; value = codes "v"; attributes = (codes "Path", codes "/") ∷ (codes "HttpOnly", []) ∷ (codes "SameSite", codes "Lax") ∷ [] })
not_secure = refl

-- ---- the cookies of a reply

cookie_under_its_name : is_under (codes "op_b") (cookie_read (codes "op_b=v; Path=/")) ≡ true
cookie_under_its_name = refl

cookie_under_another_name : is_under (codes "op_s") (cookie_read (codes "op_b=v; Path=/")) ≡ false
cookie_under_another_name = refl

no_cookie_under_a_name : is_under (codes "op_b") (cookie_read (codes "op_b; Path=/")) ≡ false
no_cookie_under_a_name = refl

second_cookie_is_set : sets_cookie (codes "op_s") (codes "op_b=v; Path=/" ∷ codes "op_s=w" ∷ []) ≡ true
second_cookie_is_set = refl

no_cookie_is_set : sets_cookie (codes "op_s") (codes "op_b=v; Path=/" ∷ []) ≡ false
no_cookie_is_set = refl

a_word_with_its_name : words_named (codes "op_b") (Some (word 1)) ≡ (codes "op_b", word 1) ∷ []
a_word_with_its_name = refl

no_word_with_a_name : words_named (codes "op_b") None ≡ []
no_word_with_a_name = refl

-- ---- kinds of replies

page : html (codes "op_b=v" ∷ []) (codes "<p>") ≡ record { status = 200; pragma = false; location = None; cookies = codes "op_b=v" ∷ []; challenge = None; kind = Html; body = codes "<p>" }
page = refl

line : plain 404 (codes "not found") ≡ record { status = 404; pragma = false; location = None; cookies = []; challenge = None; kind = Plain; body = codes "not found\n" }
line = refl

nothing : empty ≡ record { status = 200; pragma = false; location = None; cookies = []; challenge = None; kind = Empty; body = [] }
nothing = refl

elsewhere : sent_to (codes "/login") (codes "op_b=v" ∷ []) ≡ record { status = 303; pragma = false; location = Some (codes "/login"); cookies = codes "op_b=v" ∷ []; challenge = None; kind = Empty; body = [] }
elsewhere = refl
