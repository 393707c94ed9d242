-- The form of a response is the part of its location after the redirect URI and a mark.
use Rattle.std.proofs.Common.{◌≡◌, ◌+◌, ◌++◌, Bool, true, false, cond, length, drop, codes, refl, sym, ap, ◌∙◌, length-append}
use Rattle.std.proofs.Math.Seq.{drop-append_seam}
use Rattle.sso_base.specs.Words.{Text}
use Rattle.oidc_words.specs.declared.errors.Refusal.{Refusal}
use Rattle.request_params.specs.Location.{has_query}
use Rattle.auth_answer.specs.declared.answer.Answer.{Answer}
use Rattle.auth_answer.specs.Printing.{answer_form, refusal_form, answer_location, refusal_location, answer_mark}
use Rattle.auth_answer.proofs.Written.{answer_located, refusal_located}

one_of : (b : Bool) → length (cond b (codes "&") (codes "?")) ≡ 1
one_of true = refl
one_of false = refl

one_mark : (url : Text) (fragment : Bool) → length (answer_mark url fragment) ≡ 1
one_mark url true = refl
one_mark url false = one_of (has_query url)

behind_mark : (url mark form : Text) → length mark ≡ 1 → drop (length url + 1) (url ++ mark ++ form) ≡ form
behind_mark url mark form one =
    let long : length (url ++ mark) ≡ length url + 1 = length-append url mark ∙ ap (λ n. length url + n) one in
    ap (λ n. drop n (url ++ mark ++ form)) (sym long) ∙ drop-append_seam (url ++ mark) form

pub answer_after : (a : Answer) → drop (length a.redirect + 1) (answer_location a) ≡ answer_form a
answer_after a = ap (drop (length a.redirect + 1)) (answer_located a) ∙ behind_mark a.redirect (answer_mark a.redirect a.fragment) (answer_form a) (one_mark a.redirect a.fragment)

pub refusal_after : (r : Refusal) → drop (length r.redirect + 1) (refusal_location r) ≡ refusal_form r
refusal_after r = ap (drop (length r.redirect + 1)) (refusal_located r) ∙ behind_mark r.redirect (answer_mark r.redirect r.fragment) (refusal_form r) (one_mark r.redirect r.fragment)
