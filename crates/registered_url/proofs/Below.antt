-- A URL with neither a query nor a fragment keeps the rule with another path at its end: texts that differ only behind
-- the authority have the same authority.
use Rattle.std.proofs.Common.{◌≡◌, ◌≢◌, ◌≤◌, ◌<◌, ◌+◌, ◌-◌, ◌==◌, ◌&&◌, ◌||◌, not, ℕ, Bool, true, false, cond, List, [], ◌∷◌, ◌++◌, take, drop, length, get_or, nat_lt, codes, Option, Some, None, Ok, Err, All, refl, sym, ap, ◌∙◌, subst, arith, take_all, length-append, true≢false}
use Rattle.std.specs.Prelude.{option_map, reverse, is_some, bytes_eq}
use Rattle.std.specs.List.{prefix_len, list_all}
use Rattle.std.specs.Char.{is_ascii_alphabetic}
use Rattle.std.proofs.Math.Nat.{sub-zero}
use Rattle.std.proofs.lemmas.Bool.{cond-true, cond-false, ne_eqb, eq-eqb, and_parts, and_from, lt-leb, ltb-true, ltb-false}
use Rattle.std.proofs.lemmas.Bool.Decides.{nat_tests}
use Rattle.std.proofs.lemmas.List.{drop_all, get_or-reverse, length-reverse, get_or_append_left, get_or-append_right, take-append-le, drop-append-le}
use Rattle.std.proofs.lemmas.List.Elements.{All-weaker}
use Rattle.std.proofs.lemmas.List.Sums.{prefix_len-le-length}
use Rattle.std.proofs.lemmas.List.Folds.{prefix_len-append, list_all-append}
use Rattle.std.proofs.lemmas.Slice.Eq.{bytes_eq-Decides}
use Rattle.url.specs.declared.error.ParseError.{ParseError}
use Rattle.url.specs.declared.error.ParseError.TheVariants.{EmptyHost}
use Rattle.url.specs.declared.scheme.SchemeType.TheVariants.{File, SpecialNotFile, NotSpecial}
use Rattle.url.specs.Input.{is_c0_control_or_space, is_tab_or_new_line, trim_c0_control_and_space, strip_tabs_and_new_lines, lowercase, split_once, rsplit_once}
use Rattle.url.specs.Scheme.{scheme_type, is_special, is_file, is_slash, is_scheme_byte, scheme_len}
use Rattle.url.specs.Host.{parse_host, parse_file_host}
use Rattle.url.specs.Path.{segment_len, is_windows_drive_letter, parse_path_start}
use Rattle.url.specs.Parts.{Parts, kind_of}
use Rattle.url.specs.Parser.{Parsed, and_then, split_port, lacks_host, parse_port, parse_authority, with_path, leading_slashes, skip_slashes, after_double_slash, parse_non_special, after_file_double_slash, parse_file, parse_body, with_tail, before_tail, parse_all, parse_parts, split_scheme, parse_by_scheme, parse_url}
use Rattle.url.proofs.InputLemmas.{IsNot, Passes, StopsAt, StopsAt-drop-prefix_len, split_once_none, filter_all, All_from_list_all}
use Rattle.url.proofs.OnLiterals.{url_on_literals}
use Rattle.registered_url.specs.declared.web_url.WebUrl.{WebUrl}
use Rattle.registered_url.specs.Rule.{is_visible, is_allowed, is_bare, is_https, is_local_http, kept_parts, url_of}
use Rattle.registered_url.proofs.Keeping.{urls_keep, kept_url}
use Rattle.registered_url.proofs.PathBelow.{is_any_slash, any_slash, IsBelow, IsAdded, BeginsPath, IsCutFrom, cut_dropped, below}

-- ---- a text of visible characters is neither trimmed nor stripped

above : (b : ℕ) → is_visible b ≡ true → 32 < b
above b h = grind (arith, nat_tests, h)

none_at_front : (t : List ℕ) → (0 < length t → 32 < get_or t 0 0) → prefix_len is_c0_control_or_space t ≡ 0
none_at_front [] first = refl
none_at_front (b ∷ t) first = cond-false _ _ _ (lt-leb b 32 (first (omega arith)))

untrimmed : (t : List ℕ) → All (Passes is_visible) t → trim_c0_control_and_space t ≡ t
unfolding trim_c0_control_and_space
untrimmed t visible =
    let start = none_at_front t (λ inside. above (get_or t 0 0) (visible 0 0 inside)) in
    let len = length-reverse t in
    let end = none_at_front (reverse t) (λ inside. rw (get_or-reverse t 0 0 (omega arith), sub-zero) (above (get_or t (length t - 1) 0) (visible (length t - 1) 0 (omega arith)))) in
    rw (start, end) (take_all _ t (omega arith))

is_kept : (b : ℕ) → is_visible b ≡ true → not (is_tab_or_new_line b) ≡ true
is_kept b h = grind (arith, nat_tests, h)

unstripped : (t : List ℕ) → All (Passes is_visible) t → strip_tabs_and_new_lines t ≡ t
unfolding strip_tabs_and_new_lines
unstripped t visible = filter_all _ t (All-weaker (Passes is_visible) (Passes (λ b. not (is_tab_or_new_line b))) is_kept t visible)

clean : (t : List ℕ) → list_all is_visible t ≡ true → strip_tabs_and_new_lines (trim_c0_control_and_space t) ≡ t
clean t h =
    let visible = All_from_list_all is_visible t h in
    ap strip_tabs_and_new_lines (untrimmed t visible) ∙ unstripped t visible

-- ---- marks

-- the text has no such mark
abbrev pub lacks : ℕ → List ℕ → Bool
lacks mark t = list_all (λ b. not (b == mark)) t

past_mark : (c : Bool) (b : ℕ) (t : List ℕ) (later : List ℕ × Option (List ℕ)) → (cond {A = List ℕ × Option (List ℕ)} c ([], Some t) (b ∷ later.0, later.1)).1 ≡ None → (c ≡ false) × (later.1 ≡ None)
past_mark true b t later h = absurd (cc)
past_mark false b t later h = (refl, h)

lacks_from : (mark : ℕ) (t : List ℕ) → (split_once mark t).1 ≡ None → lacks mark t ≡ true
unfolding split_once
lacks_from mark [] h = refl
lacks_from mark (b ∷ t) h =
    let p : ((b == mark) ≡ false) × ((split_once mark t).1 ≡ None) = past_mark (b == mark) b t (split_once mark t) h in
    and_from _ _ (ap not p.0) (lacks_from mark t p.1)

is_other : (mark b : ℕ) → not (b == mark) ≡ true → b ≢ mark
is_other mark b h same = grind (arith, nat_tests, h, same)

unsplit : (mark : ℕ) (t : List ℕ) → lacks mark t ≡ true → split_once mark t ≡ (t, None)
unsplit mark t h = split_once_none mark t (All-weaker (Passes (λ b. not (b == mark))) (IsNot mark) (λ b k. is_other mark b k) t (All_from_list_all (λ b. not (b == mark)) t h))

-- ---- steps of the parser

ok_then : {A B P : Type 0} (r : Parsed A) (next : A → Parsed B) (y : B) → and_then r next ≡ Ok y → ((x : A) → r ≡ Ok x → next x ≡ Ok y → P) → P
ok_then (Ok x) next y e k = k x refl e
ok_then (Err d) next y e k = absurd (cc)

past_error : {A : Type 0} (test : Bool) (d : ParseError) (r : Parsed A) (y : A) → cond test (Err d) r ≡ Ok y → (test ≡ false) × (r ≡ Ok y)
past_error true d r y e = absurd (cc)
past_error false d r y e = (refl, e)

by_test : {A P : Type 0} (test : Bool) (r s : Parsed A) (y : A) → cond test r s ≡ Ok y → (test ≡ true → r ≡ Ok y → P) → (test ≡ false → s ≡ Ok y → P) → P
by_test true r s y e k l = k refl e
by_test false r s y e k l = l refl e

same_ok : {A : Type 0} (x y : A) → ◌≡◌ {A = Parsed A} (Ok x) (Ok y) → x ≡ y
same_ok x y e = cc

mapped_none : {A B : Type 0} (f : A → B) (o : Option A) → option_map f o ≡ None → o ≡ None
mapped_none f None h = refl
mapped_none f (Some a) h = absurd (cc)

no_tail : (split : Option (List ℕ × List ℕ)) (body : List ℕ) (query fragment : Option (List ℕ)) (u : Parts) → parse_by_scheme split None body query fragment ≡ Ok u → u.query ≡ None → u.fragment ≡ None → (query ≡ None) × (fragment ≡ None)
unfolding parse_parts
no_tail None body query fragment u e q f = absurd (cc)
no_tail (Some split) body query fragment u e q f =
    ok_then (parse_body (lowercase split.0) None split.1) _ u e λ v read k.
    let same = same_ok _ u k in
    (mapped_none _ query (ap (λ (p : Parts). p.query) same ∙ q), mapped_none _ fragment (ap (λ (p : Parts). p.fragment) same ∙ f))

abbrev parsed_clean : List ℕ → Parsed Parts
parsed_clean t =
    parse_by_scheme (split_scheme (split_once 63 (split_once 35 t).0).0) None (split_once 63 (split_once 35 t).0).0 (split_once 63 (split_once 35 t).0).1 (split_once 35 t).1

parse_clean : (t : List ℕ) → list_all is_visible t ≡ true → parse_url None t ≡ parsed_clean t
unfolding parse_url
parse_clean t h = ap parsed_clean (clean t h)

-- neither mark that ends a path is in the text
abbrev pub IsUnmarked : List ℕ → Type 0
IsUnmarked t = (lacks 35 t ≡ true) × (lacks 63 t ≡ true)

unmarked : (t : List ℕ) (u : Parts) → list_all is_visible t ≡ true → parse_url None t ≡ Ok u → u.query ≡ None → u.fragment ≡ None → IsUnmarked t
unmarked t u h e q f =
    let none = no_tail _ _ (split_once 63 (split_once 35 t).0).1 (split_once 35 t).1 u (sym (parse_clean t h) ∙ e) q f in
    let no_hash : lacks 35 t ≡ true = lacks_from 35 t none.1 in
    (no_hash, lacks_from 63 t (ap (λ (r : List ℕ × Option (List ℕ)). (split_once 63 r.0).1) (sym (unsplit 35 t no_hash)) ∙ none.0))

parse_unmarked : (t : List ℕ) → list_all is_visible t ≡ true → IsUnmarked t → parse_url None t ≡ parse_by_scheme (split_scheme t) None t None None
parse_unmarked t h none =
    let hash : split_once 35 t ≡ (t, None) = unsplit 35 t none.0 in
    let question : split_once 63 (split_once 35 t).0 ≡ (t, None) = ap (λ (r : List ℕ × Option (List ℕ)). split_once 63 r.0) hash ∙ unsplit 63 t none.1 in
    parse_clean t h ∙ (λ i. parse_by_scheme (split_scheme (question i).0) None (question i).0 (question i).1 (hash i).1)

-- ---- the scheme, which stands before what follows

-- nothing, or what begins with a slash
abbrev pub IsTail : List ℕ → Type 0
IsTail [] = Unit {0}
IsTail (b ∷ t) = is_any_slash b ≡ true

slash_at : (P : ℕ → Type 0) (b : ℕ) (t : Bool) → (b == 47) ≡ t → (t || b == 92) ≡ true → P 47 → P 92 → P b
slash_at P b true is h at back = let same : b ≡ 47 = grind (arith, nat_tests) in subst P (sym same) at
slash_at P b false is h at back = let same : b ≡ 92 = grind (arith, nat_tests) in subst P (sym same) back

any_slash_at : (P : ℕ → Type 0) (b : ℕ) → is_any_slash b ≡ true → P 47 → P 92 → P b
any_slash_at P b h at back = slash_at P b (b == 47) refl h at back

stops : (test : ℕ → Bool) (tail : List ℕ) → test 47 ≡ false → test 92 ≡ false → IsTail tail → StopsAt test tail
stops test [] is also h = tt
stops test (b ∷ t) is also h = any_slash_at (λ c. test c ≡ false) b h is also

prefix_len_tail : (test : ℕ → Bool) (xs tail : List ℕ) → StopsAt test tail → prefix_len test (xs ++ tail) ≡ prefix_len test xs
prefix_len_tail test [] [] h = refl
prefix_len_tail test [] (b ∷ t) h = cond-false _ _ _ h
prefix_len_tail test (x ∷ xs) tail h = ap (λ n. cond (test x) (1 + n) 0) (prefix_len_tail test xs tail h)

scheme_len_tail : (xs tail : List ℕ) → IsTail tail → scheme_len (xs ++ tail) ≡ scheme_len xs
unfolding scheme_len
scheme_len_tail [] [] h = refl
scheme_len_tail [] (b ∷ t) h = any_slash_at (λ c. cond (is_ascii_alphabetic c) (prefix_len is_scheme_byte (c ∷ t)) 0 ≡ 0) b h refl refl
scheme_len_tail (x ∷ xs) tail h = ap (λ n. cond (is_ascii_alphabetic x) n 0) (prefix_len_tail is_scheme_byte (x ∷ xs) tail (stops is_scheme_byte tail refl refl h))

scheme_len_at : (b : Bool) (n m : ℕ) → n ≤ m → cond b n 0 ≤ m
scheme_len_at true n m h = h
scheme_len_at false n m h = omega arith

scheme_len_within : (xs : List ℕ) → scheme_len xs ≤ length xs
unfolding scheme_len
scheme_len_within xs = scheme_len_at (is_ascii_alphabetic (get_or xs 0 0)) (prefix_len is_scheme_byte xs) (length xs) (prefix_len-le-length is_scheme_byte xs)

-- the text begins with a scheme and a colon
record HasScheme (t : List ℕ) : Type 0 where
  less : scheme_len t < length t
  some : nat_lt 0 (scheme_len t) ≡ true
  colon : (get_or t (scheme_len t) 0 == 58) ≡ true

no_colon : (tail : List ℕ) → IsTail tail → (get_or tail 0 0 == 58) ≡ false
no_colon [] h = refl
no_colon (b ∷ t) h = any_slash_at (λ c. (c == 58) ≡ false) b h refl refl

cond_some : {A : Type 0} (c : Bool) (a b : A) → cond c (Some a) None ≡ Some b → c ≡ true
cond_some true a b h = refl
cond_some false a b h = absurd (cc)

colon_inside : (t tail : List ℕ) → IsTail tail → (get_or (t ++ tail) (scheme_len t) 0 == 58) ≡ true → scheme_len t < length t
colon_inside t tail h colon =
    elim (nat_lt (scheme_len t) (length t)) as (λ v. nat_lt (scheme_len t) (length t) ≡ v → scheme_len t < length t) [
      | true ↦ λ is. ltb-true (scheme_len t) (length t) is
      | false ↦ λ is.
          let whole : scheme_len t ≡ length t = omega (arith, scheme_len_within t, ltb-false (scheme_len t) (length t) is) in
          let at : get_or (t ++ tail) (scheme_len t) 0 ≡ get_or tail 0 0 = get_or-append_right t tail (length t) (scheme_len t) 0 refl (omega (arith, whole)) ∙ ap (λ n. get_or tail n 0) (let zero : scheme_len t - length t ≡ 0 = omega (arith, whole) in zero) in
          absurd (true≢false (sym colon ∙ ap (λ c. c == 58) at ∙ no_colon tail h))
    ] refl

scheme_in : (t tail : List ℕ) (p : List ℕ × List ℕ) → IsTail tail → split_scheme (t ++ tail) ≡ Some p → HasScheme t
unfolding split_scheme
scheme_in t tail p h e =
    let test = and_parts (nat_lt 0 (scheme_len (t ++ tail))) (get_or (t ++ tail) (scheme_len (t ++ tail)) 0 == 58) (cond_some _ _ p e) in
    let len : scheme_len (t ++ tail) ≡ scheme_len t = scheme_len_tail t tail h in
    let colon : (get_or (t ++ tail) (scheme_len t) 0 == 58) ≡ true = ap (λ n. get_or (t ++ tail) n 0 == 58) (sym len) ∙ test.1 in
    let less : scheme_len t < length t = colon_inside t tail h colon in
    record {
      less = less;
      some = ap (nat_lt 0) (sym len) ∙ test.0;
      colon = ap (λ c. c == 58) (sym (get_or_append_left t tail 0 (scheme_len t) less)) ∙ colon;
    }

-- the scheme of a text, and what follows its colon
abbrev scheme_text : List ℕ → List ℕ
scheme_text t = take (scheme_len t) t

abbrev body_text : List ℕ → List ℕ
body_text t = drop (scheme_len t + 1) t

split_tail : (t tail : List ℕ) → IsTail tail → HasScheme t → split_scheme (t ++ tail) ≡ Some (scheme_text t, body_text t ++ tail)
unfolding split_scheme
split_tail t tail h s =
    let n : ℕ = scheme_len t in
    let len : scheme_len (t ++ tail) ≡ n = scheme_len_tail t tail h in
    let colon : (get_or (t ++ tail) n 0 == 58) ≡ true = ap (λ c. c == 58) (get_or_append_left t tail 0 n s.less) ∙ s.colon in
    let front : take n (t ++ tail) ≡ scheme_text t = take-append-le n t tail (omega (arith, s.less)) in
    let back : drop (n + 1) (t ++ tail) ≡ body_text t ++ tail = drop-append-le (n + 1) t tail (omega (arith, s.less)) in
    ap (λ m. cond {A = Option (List ℕ × List ℕ)} (nat_lt 0 m && (get_or (t ++ tail) m 0 == 58)) (Some (take m (t ++ tail), drop (m + 1) (t ++ tail))) None) len
    ∙ cond-true _ _ _ (and_from _ _ s.some colon)
    ∙ (λ i. Some (front i, back i))

-- ---- a scheme that the rule allows

abbrev is_web : List ℕ → Bool
is_web s = bytes_eq s (codes "https") || bytes_eq s (codes "http")

authority_scheme : (scheme bytes : List ℕ) (head : Parts) → parse_authority scheme bytes ≡ Ok head → head.scheme ≡ scheme
unfolding parse_authority
authority_scheme scheme bytes head e =
    let text = (split_port (rsplit_once 64 bytes).1).0 in
    let lacks_it = lacks_host (rsplit_once 64 bytes).0 text (split_port (rsplit_once 64 bytes).1).1 in
    ok_then (parse_host (scheme_type scheme) text) _ head (past_error lacks_it _ _ head e).1 λ host read k.
    ok_then (parse_port scheme _) _ head k λ port got l.
    sym (ap (λ (u : Parts). u.scheme) (same_ok _ head l))

slashes_scheme : (scheme bytes : List ℕ) (u : Parts) → after_double_slash scheme bytes ≡ Ok u → u.scheme ≡ scheme
unfolding after_double_slash
slashes_scheme scheme bytes u e =
    ok_then (parse_authority scheme (take (segment_len (scheme_type scheme) bytes) bytes)) _ u e λ head read k.
    sym (ap (λ (p : Parts). p.scheme) (same_ok _ u k)) ∙ authority_scheme scheme _ head read

plain_scheme : (scheme body : List ℕ) (u : Parts) → parse_non_special scheme body ≡ Ok u → u.scheme ≡ scheme
unfolding parse_non_special
plain_scheme scheme body u e =
    by_test (leading_slashes NotSpecial body == 2) _ _ u e (λ _ k. slashes_scheme scheme (drop 2 body) u k) λ _ k.
    by_test (leading_slashes NotSpecial body == 1) _ _ u k (λ _ l. sym (ap (λ (p : Parts). p.scheme) (same_ok _ u l))) (λ _ l. sym (ap (λ (p : Parts). p.scheme) (same_ok _ u l)))

file_slashes : (bytes : List ℕ) (u : Parts) → after_file_double_slash bytes ≡ Ok u → u.scheme ≡ codes "file"
unfolding after_file_double_slash
file_slashes bytes u e =
    by_test (is_windows_drive_letter (take (segment_len File bytes) bytes)) _ _ u e (λ _ k. sym (ap (λ (p : Parts). p.scheme) (same_ok _ u k))) λ _ k.
    ok_then (parse_file_host (take (segment_len File bytes) bytes)) _ u k λ host read l.
    sym (ap (λ (p : Parts). p.scheme) (same_ok _ u l))

file_scheme : (body : List ℕ) (u : Parts) → parse_file None body ≡ Ok u → u.scheme ≡ codes "file"
unfolding parse_file
file_scheme body u e =
    by_test (leading_slashes File body == 2) _ _ u e (λ _ k. file_slashes _ u k) (λ _ k. sym (ap (λ (p : Parts). p.scheme) (same_ok _ u k)))

web_body : (scheme body : List ℕ) (u : Parts) → parse_body scheme None body ≡ Ok u → is_web u.scheme ≡ true → is_web scheme ≡ true
unfolding parse_body
web_body scheme body u e h =
    by_test (is_file (scheme_type scheme)) _ _ u e (λ _ k. absurd (true≢false (sym h ∙ ap is_web (file_scheme body u k)))) λ _ k.
    by_test (is_special (scheme_type scheme)) _ _ u k (λ _ l. ap is_web (sym (slashes_scheme scheme _ u l)) ∙ h) (λ _ l. ap is_web (sym (plain_scheme scheme body u l)) ∙ h)

https_special : scheme_type (codes "https") ≡ SpecialNotFile
unfolding url_on_literals
https_special = refl

http_special : scheme_type (codes "http") ≡ SpecialNotFile
unfolding url_on_literals
http_special = refl

web_at : (scheme : List ℕ) (a : Bool) → bytes_eq scheme (codes "https") ≡ a → (a || bytes_eq scheme (codes "http")) ≡ true → scheme_type scheme ≡ SpecialNotFile
web_at scheme true is h = ap scheme_type ((bytes_eq-Decides scheme (codes "https")).0 is) ∙ https_special
web_at scheme false is h = ap scheme_type ((bytes_eq-Decides scheme (codes "http")).0 h) ∙ http_special

web_special : (scheme : List ℕ) → is_web scheme ≡ true → scheme_type scheme ≡ SpecialNotFile
web_special scheme h = web_at scheme (bytes_eq scheme (codes "https")) refl h

-- ---- the authority, which stands before what follows

-- a tail of slashes alone
abbrev pub IsSlashes : List ℕ → Type 0
IsSlashes tail = prefix_len is_any_slash tail ≡ length tail

unnot : (c : Bool) → not c ≡ false → c ≡ true
unnot true h = refl
unnot false h = absurd (true≢false h)

begins_at : (t : List ℕ) → StopsAt (λ b. not (is_slash SpecialNotFile b)) t → BeginsPath t
begins_at [] h = tt
begins_at (b ∷ t) h = unnot (is_slash SpecialNotFile b) h

added_tail : (path : List ℕ) → IsAdded path → IsTail path
added_tail [] g = absurd g
added_tail (s ∷ path) g = sym (any_slash s) ∙ g.0

cut_tail : (text tail : List ℕ) → IsCutFrom text tail → IsTail tail
cut_tail text [] h = tt
cut_tail text (e ∷ []) h = h
cut_tail text (e ∷ f ∷ rest) h = absurd h

cut_slashes : (text tail : List ℕ) → IsCutFrom text tail → IsSlashes tail
cut_slashes text [] h = refl
cut_slashes text (e ∷ []) h = cond-true _ _ _ h
cut_slashes text (e ∷ f ∷ rest) h = absurd h

module _ (scheme : List ℕ) (special : scheme_type scheme ≡ SpecialNotFile) where
  body_is : (body : List ℕ) → parse_body scheme None body ≡ after_double_slash scheme (skip_slashes body)
  unfolding parse_body
  body_is body = rw special refl

  no_host : after_double_slash scheme [] ≡ Err EmptyHost
  unfolding url_on_literals
  no_host = rw special refl

  abbrev head_len : List ℕ → ℕ
  head_len rest = segment_len SpecialNotFile rest

  -- what is parsed of an authority with this path behind it
  abbrev parsed_with : List ℕ → List ℕ → Parsed Parts
  parsed_with rest path = and_then (parse_authority scheme (take (head_len rest) rest)) (λ head. Ok (with_path head (parse_path_start SpecialNotFile [] path)))

  authority_is : (rest tail : List ℕ) → IsTail tail → after_double_slash scheme (rest ++ tail) ≡ parsed_with rest (drop (head_len rest) rest ++ tail)
  unfolding after_double_slash
  authority_is rest tail h =
      let test : ℕ → Bool = λ b. not (is_slash SpecialNotFile b) in
      let within : head_len rest ≤ length rest = prefix_len-le-length test rest in
      let len : prefix_len test (rest ++ tail) ≡ head_len rest = prefix_len_tail test rest tail (stops test tail refl refl h) in
      let front : take (head_len rest) (rest ++ tail) ≡ take (head_len rest) rest = take-append-le (head_len rest) rest tail within in
      let back : drop (head_len rest) (rest ++ tail) ≡ drop (head_len rest) rest ++ tail = drop-append-le (head_len rest) rest tail within in
      rw special (ap (λ n. and_then (parse_authority scheme (take n (rest ++ tail))) (λ head. Ok (with_path head (parse_path_start SpecialNotFile [] (drop n (rest ++ tail)))))) len
      ∙ (λ i. and_then (parse_authority scheme (front i)) (λ head. Ok (with_path head (parse_path_start SpecialNotFile [] (back i))))))

  -- another path at the end changes the path alone, and stands behind what is left of it
  record Repathed (body other : List ℕ) (u : Parts) : Type 0 where
    path : List ℕ
    read : parse_body scheme None (body ++ other) ≡ Ok (with_path u path)
    below : IsBelow u.path other path

  skipped : (body tail : List ℕ) → prefix_len is_any_slash body < length body → skip_slashes (body ++ tail) ≡ drop (prefix_len is_any_slash body) body ++ tail
  skipped body tail less =
      ap (λ n. drop n (body ++ tail)) (prefix_len-append is_any_slash body tail ∙ cond-false _ _ _ (ne_eqb (prefix_len is_any_slash body) (length body) (λ e. omega (arith, less, e))))
      ∙ drop-append-le (prefix_len is_any_slash body) body tail (omega (arith, less))

  all_skipped : (body tail : List ℕ) → prefix_len is_any_slash body ≡ length body → IsSlashes tail → skip_slashes (body ++ tail) ≡ []
  all_skipped body tail whole slashes =
      ap (λ n. drop n (body ++ tail)) (prefix_len-append is_any_slash body tail ∙ cond-true _ _ _ (eq-eqb (prefix_len is_any_slash body) (length body) whole))
      ∙ drop_all (length body + prefix_len is_any_slash tail) (body ++ tail) (omega (arith, length-append body tail, slashes))

  repathed_at : (body tail other : List ℕ) (u : Parts) → IsTail tail → IsCutFrom body tail → IsAdded other → prefix_len is_any_slash body < length body → parse_body scheme None (body ++ tail) ≡ Ok u → Repathed body other u
  repathed_at body tail other u h cut g less e =
      let rest : List ℕ = drop (prefix_len is_any_slash body) body in
      let old : List ℕ = drop (head_len rest) rest in
      let read : (t : List ℕ) → IsTail t → parse_body scheme None (body ++ t) ≡ parsed_with rest (old ++ t) =
      λ t k. body_is (body ++ t) ∙ ap (after_double_slash scheme) (skipped body t less) ∙ authority_is rest t k in
      let path : List ℕ = parse_path_start SpecialNotFile [] (old ++ other) in
      let begins : BeginsPath old = begins_at old (StopsAt-drop-prefix_len (λ b. not (is_slash SpecialNotFile b)) rest) in
      let rest_cut : IsCutFrom rest tail = cut_dropped (prefix_len is_any_slash body) body tail cut in
      let stands : IsBelow (parse_path_start SpecialNotFile [] (old ++ tail)) other path = below other g old tail begins (cut_dropped (head_len rest) rest tail rest_cut) in
      ok_then (parse_authority scheme (take (head_len rest) rest)) _ u (sym (read tail h) ∙ e) λ head got k.
      record {
        path = path;
        read = read other (added_tail other g) ∙ ap (λ r. and_then r (λ (p : Parts). Ok (with_path p path))) got ∙ ap (λ (p : Parts). Ok (with_path p path)) (same_ok _ u k);
        below = subst (λ (p : Parts). IsBelow p.path other path) (same_ok _ u k) stands;
      }

  repathed : (body tail other : List ℕ) (u : Parts) → IsTail tail → IsSlashes tail → IsCutFrom body tail → IsAdded other → parse_body scheme None (body ++ tail) ≡ Ok u → Repathed body other u
  repathed body tail other u h slashes cut g e =
      let n : ℕ = prefix_len is_any_slash body in
      elim (nat_lt n (length body)) as (λ v. nat_lt n (length body) ≡ v → Repathed body other u) [
        | true ↦ λ is. repathed_at body tail other u h cut g (ltb-true n (length body) is) e
        | false ↦ λ is.
            let whole : n ≡ length body = omega (arith, prefix_len-le-length is_any_slash body, ltb-false n (length body) is) in
            absurd (not_read u (sym (body_is (body ++ tail) ∙ ap (after_double_slash scheme) (all_skipped body tail whole slashes) ∙ no_host) ∙ e))
      ] refl
    where
      not_read : (p : Parts) → ◌≡◌ {A = Parsed Parts} (Err EmptyHost) (Ok p) → ⊥
      not_read p k = cc

-- ---- the whole

-- no query and no fragment leave the path as it is
no_marks : (b : Bool) → (b && false) ≡ false
no_marks true = refl
no_marks false = refl

before_none : (u : Parts) → before_tail u None None ≡ u
before_none u = cond-false _ _ _ (no_marks (not (is_special (kind_of u))))

parse_split : (t a b : List ℕ) → split_scheme t ≡ Some (a, b) → parse_by_scheme (split_scheme t) None t None None ≡ parse_all (lowercase a) None b None None
unfolding parse_parts
parse_split t a b e = ap (λ o. parse_by_scheme o None t None None) e

web_scheme : (u : Parts) → is_allowed u ≡ true → is_web u.scheme ≡ true
web_scheme u h = either (is_https u) (is_local_http u) (and_parts (is_bare u) (is_https u || is_local_http u) h).1
  where
    either : (a b : Bool) → (a || b) ≡ true → is_web u.scheme ≡ true
    either a b k = grind (arith, nat_tests, k)

some_split : (o : Option (List ℕ × List ℕ)) (t : List ℕ) (u : Parts) → parse_by_scheme o None t None None ≡ Ok u → (p : List ℕ × List ℕ) × (o ≡ Some p)
some_split None t u e = absurd (cc)
some_split (Some p) t u e = (p, refl)

-- the parts of the URL, with another path
record HasPath (t other : List ℕ) (u : Parts) : Type 0 where
  url : Parts
  read : parse_by_scheme (split_scheme t) None t None None ≡ Ok url
  allowed : is_allowed url ≡ true
  below : IsBelow u.path other url.path

repathed_url : (front tail other : List ℕ) (u : Parts) → IsCutFrom front tail → IsAdded other → is_allowed u ≡ true → parse_by_scheme (split_scheme (front ++ tail)) None (front ++ tail) None None ≡ Ok u → HasPath (front ++ other) other u
repathed_url front tail other u cut g allowed e =
    let h : IsTail tail = cut_tail front tail cut in
    let split = some_split (split_scheme (front ++ tail)) (front ++ tail) u e in
    let s : HasScheme front = scheme_in front tail split.0 h split.1 in
    let scheme : List ℕ = lowercase (scheme_text front) in
    let body : List ℕ = body_text front in
    let read : parse_all scheme None (body ++ tail) None None ≡ Ok u = sym (parse_split (front ++ tail) (scheme_text front) (body ++ tail) (split_tail front tail h s)) ∙ e in
    ok_then (parse_body scheme None (body ++ tail)) _ u read λ v got k.
    let same : with_tail v None None ≡ u = ap (λ (p : Parts). with_tail p None None) (sym (before_none v)) ∙ same_ok _ u k in
    let may : is_allowed (with_tail v None None) ≡ true = ap is_allowed same ∙ allowed in
    let special : scheme_type scheme ≡ SpecialNotFile = web_special scheme (web_body scheme (body ++ tail) v got (web_scheme (with_tail v None None) may)) in
    let r = repathed scheme special body tail other v h (cut_slashes front tail cut) (cut_dropped (scheme_len front + 1) front tail cut) g got in
    record {
      url = with_tail (with_path v r.path) None None;
      read =
          parse_split (front ++ other) (scheme_text front) (body ++ other) (split_tail front other (added_tail other g) s)
          ∙ ap (λ o. and_then o (λ (p : Parts). Ok (with_tail (before_tail p None None) None None))) r.read
          ∙ ap (λ (p : Parts). Ok (with_tail p None None)) (before_none (with_path v r.path));
      allowed = may;
      below = subst (λ (p : Parts). IsBelow p.path other r.path) same r.below;
    }

no_fragment : (o : Option (List ℕ)) → not (is_some o) ≡ true → o ≡ None
no_fragment None h = refl
no_fragment (Some f) h = absurd (true≢false (sym h))

first_two : (a b c : Bool) → ((a && b) && c) ≡ true → a ≡ true
first_two true b c h = refl
first_two false b c h = absurd (true≢false (sym h))

-- a text that is a URL without a query has neither mark
pub unmarked_url : (t : List ℕ) (u : WebUrl) → url_of t ≡ Some u → u.query ≡ None → IsUnmarked t
unmarked_url t u is no_query =
    let (parts, keeps, kept) = urls_keep t u is in
    let query : parts.query ≡ None = ap (λ (w : WebUrl). w.query) (sym kept) ∙ no_query in
    let bare : is_bare parts ≡ true = (and_parts (is_bare parts) (is_https parts || is_local_http parts) keeps.allowed).0 in
    unmarked t parts keeps.visible keeps.parsed query (no_fragment parts.fragment (first_two _ _ _ bare))

pub front_all : (test : ℕ → Bool) (xs ys : List ℕ) → list_all test (xs ++ ys) ≡ true → list_all test xs ≡ true
front_all test xs ys h = (and_parts (list_all test xs) (list_all test ys) (sym (list_all-append test xs ys) ∙ h)).0

pub both_all : (test : ℕ → Bool) (xs ys : List ℕ) → list_all test xs ≡ true → list_all test ys ≡ true → list_all test (xs ++ ys) ≡ true
both_all test xs ys h g = list_all-append test xs ys ∙ and_from _ _ h g

-- a path that may stand at the end of a URL
pub record IsPathText (t : List ℕ) : Type 0 where
  pub added : IsAdded t
  pub visible : list_all is_visible t ≡ true
  pub unmarked : IsUnmarked t

-- the URL of a text that stands below another's
pub record UrlBelow (t path : List ℕ) (old : WebUrl) : Type 0 where
  pub url : WebUrl
  pub is : url_of t ≡ Some url
  pub below : IsBelow old.path path url.path

pub path_below : (front tail path : List ℕ) (u : WebUrl) → IsCutFrom front tail → IsPathText path → length (front ++ path) ≤ 512 → url_of (front ++ tail) ≡ Some u → u.query ≡ None → UrlBelow (front ++ path) path u
path_below front tail path u cut g short is no_query =
    let (parts, keeps, kept) = urls_keep (front ++ tail) u is in
    let none : IsUnmarked (front ++ tail) = unmarked_url (front ++ tail) u is no_query in
    let visible : list_all is_visible (front ++ path) ≡ true = both_all is_visible front path (front_all is_visible front tail keeps.visible) g.visible in
    let bare_path : IsUnmarked (front ++ path) = (
      both_all (λ b. not (b == 35)) front path (front_all (λ b. not (b == 35)) front tail none.0) g.unmarked.0,
      both_all (λ b. not (b == 63)) front path (front_all (λ b. not (b == 63)) front tail none.1) g.unmarked.1,
    ) in
    let r : HasPath (front ++ path) path parts = repathed_url front tail path parts cut g.added keeps.allowed (sym (parse_unmarked (front ++ tail) keeps.visible none) ∙ keeps.parsed) in
    record {
      url = kept_parts r.url;
      is = kept_url (front ++ path) r.url (record { short = short; visible = visible; parsed = parse_unmarked (front ++ path) visible bare_path ∙ r.read; allowed = r.allowed });
      below = subst (λ (w : WebUrl). IsBelow w.path path r.url.path) (sym kept) r.below;
    }
