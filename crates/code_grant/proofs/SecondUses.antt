-- A second use of a code by its own client ends the access tokens that the code gave, and no others.
use Rattle.std.proofs.Common.{◌≡◌, ◌≢◌, ℕ, ◌==◌, Bool, true, false, not, cond, List, [], ◌∷◌, filter, Option, Some, None, option_and_then, inl, inr, sym, ◌∙◌, ap, subst}
use Rattle.std.specs.Str.{bytes_eq}
use Rattle.std.proofs.lemmas.Bool.{eqb-true, eq-eqb}
use Rattle.sso_base.specs.Words.{Word, is_word}
use Rattle.sso_base.specs.Rows.{row_of, lives}
use Rattle.sso_base.specs.Stands.{IsDistinct}
use Rattle.sso_base.proofs.RowLaws.{bool_cases}
use Rattle.code_grant.specs.declared.rows.CodeRow.{CodeRow}
use Rattle.code_grant.specs.declared.rows.TokenRow.{TokenRow}
use Rattle.code_grant.specs.declared.redeem.Redeem.{Redeem}
use Rattle.code_grant.specs.declared.redeem.Redeem.TheVariants.{Redeemed, Unknown, OtherClient, Spent, Expired, OtherUri}
use Rattle.code_grant.specs.Rows.{code_name, access_name}
use Rattle.code_grant.specs.Redeeming.{redeem_of}
use Rattle.code_grant.specs.Tables.{Tables, after_answer}
use Rattle.code_grant.specs.Calls.{redeem, after, NoneIsOf}
use Rattle.held_rows.proofs.RowOf.{row_of-filter}

none_left : (w : Word) (tokens : List TokenRow) → NoneIsOf w (filter (λ (token : TokenRow). not (is_word token.code w)) tokens)
none_left w [] = tt
none_left w (r ∷ rs) =
    let rest : List TokenRow = filter (λ (token : TokenRow). not (is_word token.code w)) rs in
    let N : Bool → Type 0 = λ b. NoneIsOf w (cond (not b) (r ∷ rest) rest) in
    elim (bool_cases (is_word r.code w)) [
      | inl e ↦ subst N (sym e) (none_left w rs)
      | inr e ↦ subst N (sym e) (e, none_left w rs)
    ]

-- what is answered, by whether the client is the code's and whether the code is spent
abbrev judged : ℕ → List ℕ → ℕ → CodeRow → Bool → Bool → Redeem
judged client redirect at row own spent =
    cond (not own) OtherClient (cond spent Spent (cond (not (lives 120 row.issued at)) Expired (cond (not (bytes_eq row.wish.redirect redirect)) OtherUri Redeemed)))

pub own_use : (w : Word) (client : ℕ) (redirect : List ℕ) (at : ℕ) (row : CodeRow) (t : Tables) → row_of code_name w t.codes ≡ Some row → row.wish.client ≡ client → row.spent ≡ true
    → NoneIsOf w (after (redeem w client redirect at) t).tokens
own_use w client redirect at row t found own spent =
    let R : Option CodeRow → Redeem = λ o. redeem_of client redirect at o in
    let O : Bool → Redeem = λ b. judged client redirect at row b row.spent in
    let S : Bool → Redeem = λ b. judged client redirect at row true b in
    let answer : redeem_of client redirect at (row_of code_name w t.codes) ≡ Spent = ap R found ∙ ap O (eq-eqb row.wish.client client own) ∙ ap S spent in
    let N : Redeem → Type 0 = λ a. NoneIsOf w (after_answer a w t).tokens in
    subst N (sym answer) (none_left w t.tokens)

pub other_use : (w : Word) (client : ℕ) (redirect : List ℕ) (at : ℕ) (row : CodeRow) (t : Tables) → row_of code_name w t.codes ≡ Some row → row.wish.client ≢ client
    → after (redeem w client redirect at) t ≡ t
other_use w client redirect at row t found apart =
    let R : Option CodeRow → Redeem = λ o. redeem_of client redirect at o in
    let O : Bool → Redeem = λ b. judged client redirect at row b row.spent in
    let A : Redeem → Tables = λ a. after_answer a w t in
    elim (bool_cases (row.wish.client == client)) [
      | inl e ↦ absurd (apart (eqb-true row.wish.client client e))
      | inr e ↦ ap A (ap R found ∙ ap O e)
    ]

-- the access token of a name is left by every answer, where it was not given for the code
answer_leaves : (w v : Word) (answer : Redeem) (token : TokenRow) (t : Tables) → IsDistinct access_name t.tokens → row_of access_name v t.tokens ≡ Some token → is_word token.code w ≡ false
    → row_of access_name v (after_answer answer w t).tokens ≡ Some token
answer_leaves w v Redeemed token t distinct found other = found
answer_leaves w v Unknown token t distinct found other = found
answer_leaves w v OtherClient token t distinct found other = found
answer_leaves w v Spent token t distinct found other =
    let p : TokenRow → Bool = λ x. not (is_word x.code w) in
    let F : Option TokenRow → Option TokenRow = λ o. option_and_then (λ x. cond (p x) (Some x) None) o in
    let B : Bool → Option TokenRow = λ b. cond (not b) (Some token) None in
    row_of-filter access_name p v t.tokens distinct ∙ ap F found ∙ ap B other
answer_leaves w v Expired token t distinct found other = found
answer_leaves w v OtherUri token t distinct found other = found

pub rest_stays : (w v : Word) (client : ℕ) (redirect : List ℕ) (at : ℕ) (token : TokenRow) (t : Tables) → IsDistinct access_name t.tokens → row_of access_name v t.tokens ≡ Some token → is_word token.code w ≡ false
    → row_of access_name v (after (redeem w client redirect at) t).tokens ≡ Some token
rest_stays w v client redirect at token t distinct found other =
    answer_leaves w v (redeem_of client redirect at (row_of code_name w t.codes)) token t distinct found other
