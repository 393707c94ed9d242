-- The definitions computed on small cases: what each accepts, and what it refuses.
use Rattle.std.proofs.Common.{◌≡◌, ℕ, true, false, List, [], ◌∷◌, length, Some, None, Ok, Err, codes, arith, refl}
use Rattle.std.proofs.lemmas.Bool.{leb-true}
use Rattle.std.proofs.lemmas.List.Elements.{All-nil}
use Rattle.std.proofs.lemmas.List.Sums.{AllPass-from_list_all}
use Rattle.httparse.specs.Grammar.{is_token_byte, is_uri_byte, crlf, IsField, RequestHead}
use Rattle.httparse.proofs.OnLiterals.{httparse_on_literals}
use Rattle.sso_base.specs.Words.{word_text}
use Rattle.sso_base.specs.declared.http.Kind.TheVariants.{Json}
use Rattle.sso_base.specs.declared.http.Method.TheVariants.{Get, Post}
use Rattle.http_reply.specs.Replies.{plain}
use Rattle.sso_http.specs.Ascii.{credentials}
use Rattle.sso_http.specs.Blanks.{trimmed}
use Rattle.sso_http.specs.Bodies.{has_transfer, length_of, body_length, is_form_type, has_form}
use Rattle.sso_http.specs.Cookies.{pair_of, cookies_of, word_of}
use Rattle.sso_http.specs.Decimals.{decimal_of, short_decimal}
use Rattle.sso_http.specs.Fields.{values_of, first_of, only_of}
use Rattle.sso_http.specs.Judging.{begins_with_slash, judgement_of, IsHeadOf}
use Rattle.sso_http.specs.Lines.{IsHead, HasNoHead}
use Rattle.sso_http.specs.Messages.{place_of, request_line}
use Rattle.sso_http.specs.Peers.{cut_body, peer_body, has_length, is_whole_body}
use Rattle.sso_http.specs.Presented.{have_names, texts_under}
use Rattle.sso_http.specs.Refusals.{status_of}
use Rattle.sso_http.specs.Replies.{reason, type_line}
use Rattle.sso_http.specs.Requests.{IsRequest}
use Rattle.sso_http.specs.Sendable.{is_field_text, IsSendable}
use Rattle.sso_http.specs.Writing.{field, field_if}
use Rattle.sso_http.specs.declared.no.HttpNo.TheVariants.{ReadFault, Transfer, NoLength, BodyTooLong, BadTarget, CookieTwice}
use Rattle.sso_http.proofs.AsciiTexts.{ascii_utf8}
use Rattle.sso_http.proofs.OneHead.{unended}

-- ---- heads

head_behind_an_empty_line : IsHead (codes "\nG\r\n\r\n")
head_behind_an_empty_line = record {
  before = [] ∷ [];
  lines = codes "G\r" ∷ [];
  last = 13 ∷ [];
  parts = refl;
  feeds = refl;
  before_empty = refl;
  lines_there = omega arith;
  lines_full = refl;
  last_empty = refl;
}

no_head_of_empty_lines : HasNoHead (codes "\n\r\n\n")
no_head_of_empty_lines = unended (codes "\n\r\n\n") refl

no_head_without_an_empty_line : HasNoHead (codes "G\n\r")
no_head_without_an_empty_line = unended (codes "G\n\r") refl

two_returns_are_a_line : HasNoHead (codes "G\n\r\r\n")
two_returns_are_a_line = unended (codes "G\n\r\r\n") refl

-- ---- fields

values_in_any_case : values_of (codes "cookie") ((codes "COOKIE", codes "a=1") ∷ (codes "Cookies", codes "b=2") ∷ (codes "cookie", codes "c=3") ∷ []) ≡ codes "a=1" ∷ codes "c=3" ∷ []
values_in_any_case = refl

no_values : values_of (codes "cookie") ((codes "Cookies", codes "b=2") ∷ []) ≡ []
no_values = refl

the_first_of_two : first_of {A = ℕ} (1 ∷ 2 ∷ []) ≡ Some 1
the_first_of_two = refl

the_only_one : only_of {A = ℕ} (1 ∷ []) ≡ Some 1
the_only_one = refl

not_the_only_one : only_of {A = ℕ} (1 ∷ 2 ∷ []) ≡ None
not_the_only_one = refl

spaces_alone : trimmed false (codes "  a b\t ") ≡ codes "a b\t"
spaces_alone = refl

spaces_and_tabs : trimmed true (codes "\t a b\t ") ≡ codes "a b"
spaces_and_tabs = refl

zeros_in_front : decimal_of (codes "0030") ≡ Some 30
zeros_in_front = refl

no_digits : decimal_of [] ≡ None
no_digits = refl

a_sign : decimal_of (codes "+3") ≡ None
a_sign = refl

nine_digits : short_decimal (codes "000000001") ≡ Some 1
nine_digits = refl

ten_digits : short_decimal (codes "0000000001") ≡ None
ten_digits = refl

first_credentials : credentials ((codes "authorization", codes "Bearer x") ∷ (codes "Authorization", codes "y") ∷ []) ≡ Some (codes "Bearer x")
first_credentials = refl

credentials_past_ascii : credentials ((codes "Authorization", 195 ∷ 159 ∷ []) ∷ []) ≡ None
credentials_past_ascii = refl

-- ---- bodies

chunked : has_transfer ((codes "Transfer-encoding", codes "chunked") ∷ []) ≡ true
chunked = refl

not_chunked : has_transfer ((codes "TE", codes "chunked") ∷ []) ≡ false
not_chunked = refl

most_bytes : length_of (codes "32768" ∷ []) ≡ Ok 32768
most_bytes = refl

one_byte_too_many : length_of (codes "32769" ∷ []) ≡ Err BodyTooLong
one_byte_too_many = refl

two_lengths : length_of (codes "3" ∷ codes "3" ∷ []) ≡ Err NoLength
two_lengths = refl

no_length : body_length Post [] ≡ Err NoLength
no_length = refl

a_get_has_no_body : body_length Get ((codes "Content-Length", codes "3") ∷ []) ≡ Ok 0
a_get_has_no_body = refl

form_with_a_parameter : is_form_type (codes "Application/X-WWW-form-urlencoded ; charset=utf-8") ≡ true
form_with_a_parameter = refl

no_form : is_form_type (codes "application/x-www-form-urlencoded2") ≡ false
no_form = refl

the_first_type_counts : has_form Post ((codes "Content-Type", codes "text/plain") ∷ (codes "Content-Type", codes "application/x-www-form-urlencoded") ∷ []) ≡ false
the_first_type_counts = refl

-- ---- cookies

name_and_value : pair_of (codes "a=x=y") ≡ Some (codes "a", codes "x=y")
name_and_value = refl

no_equals_sign : pair_of (codes "a") ≡ None
no_equals_sign = refl

cookies_in_order : cookies_of (codes "a") ((codes "Cookie", codes "a=1; b=2;  a=x=y ; a") ∷ (codes "cookie", codes "a=") ∷ []) ≡ codes "1" ∷ codes "x=y" ∷ [] ∷ []
cookies_in_order = refl

no_cookie : word_of [] ≡ Ok None
no_cookie = refl

cookie_twice : word_of (codes "1" ∷ codes "2" ∷ []) ≡ Err CookieTwice
cookie_twice = refl

-- ---- judging

no_path : begins_with_slash (codes "*") ≡ false
no_path = refl

transfer_comes_first : judgement_of (codes "a") (codes "b") Post (codes "*") ((codes "Transfer-Encoding", codes "chunked") ∷ []) ≡ Err Transfer
unfolding judgement_of
transfer_comes_first = refl

target_comes_before_cookies : judgement_of (codes "a") (codes "b") Get (codes "*") ((codes "Cookie", codes "a=1;a=2") ∷ []) ≡ Err BadTarget
unfolding judgement_of
target_comes_before_cookies = refl

asked_with_a_query : judgement_of (codes "a") (codes "b") Get (codes "/p?q?r") [] ≡ Ok (record {
  ask = record { method = Get; path = codes "/p"; query = codes "q?r"; body = None; first = None; second = None; auth = None };
  count = 0;
  form = false;
})
unfolding judgement_of
asked_with_a_query = refl

-- ---- requests

abbrev pub get_text : List ℕ
get_text = codes "GET / HTTP/1.1\r\n\r\n"

abbrev get_head : RequestHead
get_head = record { blank = []; method = codes "GET"; target = codes "/"; minor = 1; line_end = crlf; fields = []; last = crlf }

a_head_of_the_grammar : IsHeadOf get_text get_head
unfolding httparse_on_literals
a_head_of_the_grammar = (
  (
    record {
      method = (omega arith, AllPass-from_list_all is_token_byte (codes "GET") refl);
      target = (omega arith, AllPass-from_list_all is_uri_byte (codes "/") refl);
      target_text = ascii_utf8 (codes "/") refl;
      minor = omega arith;
      fields = All-nil IsField;
    },
    refl,
  ),
  omega arith,
)

pub a_request : IsRequest (codes "op_b") (codes "op_s") get_text [] (record { method = Get; path = codes "/"; query = []; body = None; first = None; second = None; auth = None })
unfolding judgement_of
a_request = record {
  short = record {
    head = record { before = []; lines = codes "GET / HTTP/1.1\r" ∷ []; last = 13 ∷ []; parts = refl; feeds = refl; before_empty = refl; lines_there = omega arith; lines_full = refl; last_empty = refl };
    within = leb-true (length get_text) 16384 refl;
  };
  judged = record { ask = record { method = Get; path = codes "/"; query = []; body = None; first = None; second = None; auth = None }; count = 0; form = false };
  judged_so = record { head = get_head; reads = a_head_of_the_grammar; told_is = refl };
  whole = refl;
  asks = refl;
}

-- ---- what may be sent

a_line_end_is_no_field_text : is_field_text (codes "a\r\nb") ≡ false
a_line_end_is_no_field_text = refl

a_reply_that_may_be_sent : IsSendable (plain 404 (codes "not here"))
a_reply_that_may_be_sent =
    record { low = omega arith; high = omega arith; location = refl; cookies = refl; few = omega arith; challenge = refl; short = leb-true 10 1000000000 refl }

words_under_a_name : texts_under (codes "a") ((codes "b", []) ∷ (codes "a", []) ∷ []) ≡ word_text [] ∷ []
words_under_a_name = refl

a_name_is_no_token : have_names ((codes "a b", []) ∷ []) ≡ false
a_name_is_no_token = refl

-- ---- replies and messages

an_empty_body_has_no_type : type_line Json [] ≡ []
an_empty_body_has_no_type = refl

a_field : field (codes "A") (codes "b") ≡ codes "A: b\r\n"
unfolding field
a_field = refl

no_field : field_if (codes "A") None ≡ []
no_field = refl

a_reason : reason 404 ≡ codes "Not Found"
unfolding reason
a_reason = refl

another_reason : reason 299 ≡ codes "Other"
unfolding reason
another_reason = refl

no_reply_to_a_fault : status_of ReadFault ≡ None
no_reply_to_a_fault = refl

a_get : request_line None (codes "/p") ≡ codes "GET /p HTTP/1.1\r\n"
unfolding request_line
a_get = refl

a_post : request_line (Some []) (codes "/p") ≡ codes "POST /p HTTP/1.1\r\n"
unfolding request_line
a_post = refl

no_place : place_of None ≡ codes ":80"
no_place = refl

-- ---- peers

all_that_follows : cut_body [] (codes "abc") ≡ Some (codes "abc")
all_that_follows = refl

three_bytes_of_four : cut_body (codes "3" ∷ []) (codes "abcd") ≡ Some (codes "abc")
three_bytes_of_four = refl

five_bytes_of_four : cut_body (codes "5" ∷ []) (codes "abcd") ≡ None
five_bytes_of_four = refl

two_lengths_of_a_peer : cut_body (codes "1" ∷ codes "1" ∷ []) (codes "abcd") ≡ None
two_lengths_of_a_peer = refl

whole_with_more_behind : has_length (codes "3" ∷ []) (codes "abcd") ≡ true
whole_with_more_behind = refl

not_whole_yet : has_length (codes "5" ∷ []) (codes "abcd") ≡ false
not_whole_yet = refl

not_whole_without_a_length : has_length [] (codes "abcd") ≡ false
not_whole_without_a_length = refl

not_whole_in_chunks : is_whole_body ((codes "Transfer-Encoding", codes "chunked") ∷ (codes "Content-Length", codes "1") ∷ []) (codes "abcd") ≡ false
unfolding is_whole_body
not_whole_in_chunks = refl

a_chunked_peer : peer_body ((codes "Transfer-Encoding", codes "chunked") ∷ []) (codes "abcd") ≡ None
unfolding peer_body
a_chunked_peer = refl
