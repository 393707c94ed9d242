-- A request that meets no refusal is read.
use Rattle.std.proofs.Common.{◌≡◌, ℕ, ◌≤◌, not, Bool, true, false, List, [], ◌∷◌, ◌++◌, length, Option, None, Result, Ok, refl, arith}
use Rattle.httparse.specs.Grammar.{RequestHead}
use Rattle.sso_base.specs.Refusals.{and_then, forbid}
use Rattle.sso_base.specs.RequestLine.{method_of}
use Rattle.sso_base.specs.Words.{Word, word_of_text}
use Rattle.sso_base.specs.declared.http.Ask.{Ask}
use Rattle.sso_http.specs.Bodies.{has_transfer, body_length}
use Rattle.sso_http.specs.Causes.{fields_of, MeetsNoCause, Names}
use Rattle.sso_http.specs.Cookies.{cookies_of, word_of}
use Rattle.sso_http.specs.Judging.{begins_with_slash, asked, judgement_of, judgement, IsHeadOf}
use Rattle.sso_http.specs.Requests.{IsShortHead, with_body, Answers}
use Rattle.sso_http.specs.declared.judge.Judged.{Judged}
use Rattle.sso_http.specs.declared.no.HttpNo.{HttpNo}
use Rattle.sso_http.specs.declared.no.HttpNo.TheVariants.{Transfer, BadTarget}

word_there : (values : List (List ℕ)) → length values ≤ 1 → (w : Option Word) × (word_of values ≡ Ok w)
word_there [] h = (None, refl)
word_there (v ∷ []) h = (word_of_text v, refl)
word_there (v ∷ w ∷ values) h = absurd (omega (arith, h))

none_meets : (t s : Bool) (l : Result ℕ HttpNo) (x y : Result (Option Word) HttpNo) (n : ℕ) (a b : Option Word) (F : Option Word → Option Word → ℕ → Judged)
    → t ≡ false → l ≡ Ok n → s ≡ true → x ≡ Ok a → y ≡ Ok b
    → forbid Transfer t (and_then l (λ k. forbid BadTarget (not s) (and_then x (λ c. and_then y (λ d. Ok (F c d k)))))) ≡ Ok (F a b n)
none_meets t s l x y n a b F p q r u v = rw (p, q, r, u, v) refl

module _ (first second : List ℕ) (h : RequestHead) (n : ℕ) (m : MeetsNoCause first second h n) where
  one : (w : Option Word) × (word_of (cookies_of first (fields_of h)) ≡ Ok w)
  one = word_there (cookies_of first (fields_of h)) m.first_once

  two : (w : Option Word) × (word_of (cookies_of second (fields_of h)) ≡ Ok w)
  two = word_there (cookies_of second (fields_of h)) m.second_once

  told : Judged
  told = asked (method_of h.method) h.target (fields_of h) one.0 two.0 n

  judged_so : judgement first second h ≡ Ok told
  unfolding judgement_of told
  judged_so =
      none_meets (has_transfer (fields_of h)) (begins_with_slash h.target) (body_length (method_of h.method) (fields_of h))
      (word_of (cookies_of first (fields_of h))) (word_of (cookies_of second (fields_of h))) n one.0 two.0 (asked (method_of h.method) h.target (fields_of h))
      m.plain m.long m.slash one.1 two.1

pub read_without_cause : (first second head body more : List ℕ) (h : RequestHead) → IsShortHead head → IsHeadOf head h → MeetsNoCause first second h (length body)
    → (ask : Ask) × Answers first second (head ++ body ++ more) more (Ok ask) × Names h ask
unfolding told
read_without_cause first second head body more h short reads m =
    let j : Judged = told first second h (length body) m in (
      with_body j body,
      record {
        head = head;
        body = body;
        given = refl;
        request = record { short = short; judged = j; judged_so = record { head = h; reads = reads; told_is = judged_so first second h (length body) m }; whole = refl; asks = refl };
      },
      record { method = refl; path = refl; query = refl },
    )
