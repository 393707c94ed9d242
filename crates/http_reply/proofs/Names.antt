-- Names of cookies with and without the prefix `__Host-`, and what is set under two names.
use Rattle.std.proofs.Common.{◌≡◌, Bool, true, false, not, ◌&&◌, ◌||◌, List, [], ◌∷◌, ◌++◌, map, Option, Some, None, is_some, refl, sym, ap, ◌∙◌, true≢false}
use Rattle.std.specs.List.{list_any}
use Rattle.std.specs.Str.{bytes_eq}
use Rattle.sso_base.specs.Words.{Word, Text}
use Rattle.http_reply.specs.Cookies.{cookie_name}
use Rattle.http_reply.specs.UserAgent.{is_cookie_name, is_host_name, is_taken, set_cookie}
use Rattle.http_reply.specs.Told.{Named, words_named, kept, is_under, AreTaken}

-- ---- the prefix

-- a token stays one behind the prefix
pub prefixed_name : (host : Bool) (t : Text) → is_cookie_name t ≡ true → is_cookie_name (cookie_name host t) ≡ true
prefixed_name true [] h = absurd (true≢false (sym h))
prefixed_name true (b ∷ t) h = h
prefixed_name false t h = h

-- names that are equal, or differ, do so behind the prefix
pub prefixed_test : (host : Bool) (s t : Text) (b : Bool) → bytes_eq s t ≡ b → bytes_eq (cookie_name host s) (cookie_name host t) ≡ b
prefixed_test true s t b h = h
prefixed_test false s t b h = h

or_true : (a : Bool) → (a || true) ≡ true
or_true true = refl
or_true false = refl

pub taken : (secure host : Bool) (name : Text) (w : Word) → (host && not secure) ≡ false → is_host_name name ≡ false → is_taken (set_cookie secure (cookie_name host name) w) ≡ true
taken true host name w h o = or_true (not (is_host_name (cookie_name host name)))
taken false true name w h o = absurd (true≢false h)
taken false false name w h o = ap (λ b. not b || false) o

-- ---- the words of a browser and of a session, each under its name

pub session_found : (secure : Bool) (b s : Text) → bytes_eq b s ≡ false → bytes_eq s s ≡ true → (browser session : Option Word)
    → list_any (is_under s) (map (kept secure) (words_named b browser ++ words_named s session)) ≡ is_some session
session_found secure b s apart same None None = refl
session_found secure b s apart same None (Some w) = ap (λ x. x || false) same
session_found secure b s apart same (Some v) None = ap (λ x. x || false) apart
session_found secure b s apart same (Some v) (Some w) = ap (λ x. x || (bytes_eq s s || false)) apart ∙ ap (λ x. x || false) same

pub browser_found : (secure : Bool) (b s : Text) → bytes_eq s b ≡ false → bytes_eq b b ≡ true → (browser session : Option Word)
    → list_any (is_under b) (map (kept secure) (words_named b browser ++ words_named s session)) ≡ is_some browser
browser_found secure b s apart same None None = refl
browser_found secure b s apart same None (Some w) = ap (λ x. x || false) apart
browser_found secure b s apart same (Some v) None = ap (λ x. x || false) same
browser_found secure b s apart same (Some v) (Some w) = ap (λ x. x || (bytes_eq s b || false)) same

pub words_taken : (secure : Bool) (b s : Text) → ((w : Word) → is_taken (set_cookie secure b w) ≡ true) → ((w : Word) → is_taken (set_cookie secure s w) ≡ true)
    → (browser session : Option Word) → AreTaken secure (words_named b browser ++ words_named s session)
words_taken secure b s p q None None = tt
words_taken secure b s p q None (Some w) = (q w, tt)
words_taken secure b s p q (Some v) None = (p v, tt)
words_taken secure b s p q (Some v) (Some w) = (p v, (q w, tt))
