-- Codes are redeemed by their own client, with their own redirection URI, in time, and once.
use Rattle.std.proofs.Common.{◌≡◌, ◌≢◌, ◌+◌, ℕ, ◌==◌, Bool, true, false, not, cond, List, [], ◌∷◌, Option, Some, option_and_then, inl, inr, refl, sym, ◌∙◌, ap, subst}
use Rattle.std.specs.Str.{bytes_eq}
use Rattle.std.specs.List.{AllByRecursion}
use Rattle.std.proofs.lemmas.Bool.{eqb-true, eq-eqb, ltb-true, lt-ltb}
use Rattle.sso_base.specs.Words.{Word}
use Rattle.sso_base.specs.Rows.{row_of, lives, if_lives}
use Rattle.sso_base.specs.Stands.{IsDistinct}
use Rattle.sso_base.proofs.RowLaws.{bool_cases, option_cases, bytes_same, bytes_true}
use Rattle.code_grant.specs.declared.rows.CodeRow.{CodeRow}
use Rattle.code_grant.specs.declared.redeem.Redeem.{Redeem}
use Rattle.code_grant.specs.declared.redeem.Redeem.TheVariants.{Redeemed, Unknown, OtherClient, Spent, Expired, OtherUri}
use Rattle.held_rows.specs.Held.{changed}
use Rattle.code_grant.specs.Rows.{code_name, code_begun}
use Rattle.oidc_words.specs.Lives.{code_life}
use Rattle.code_grant.specs.Redeeming.{redeem_of, IsRedeemable}
use Rattle.code_grant.specs.Tables.{Tables, redemption, after_answer, code_spent, with_code, purged}
use Rattle.code_grant.specs.Calls.{Call, reserve, purge, start_turn, start_session, issue_code, issue_token, set_turn, end_turn, end_session, renew, visit, redeem, grant, after, after_all, issues, NoneIssues, IsSpent}
use Rattle.held_rows.proofs.HeldLaws.{all_filter, all_push, some_has}
use Rattle.held_rows.proofs.Changing.{all_map, changed_has}
use Rattle.held_rows.proofs.HeldLaws.{row_of_named}
use Rattle.held_rows.proofs.RowOf.{row_of-changed_other, row_of-push_other, row_of-live_rows}

-- ---- which codes are redeemed

pub redeemed_is_redeemable : (client : ℕ) (redirect : List ℕ) (at : ℕ) (row : CodeRow) → redeem_of client redirect at (Some row) ≡ Redeemed → IsRedeemable client redirect at row
redeemed_is_redeemable client redirect at row h =
    let uri : Bool → Redeem = λ b. cond (not b) OtherUri Redeemed in
    let time : Bool → Redeem = λ b. cond (not b) Expired (uri (bytes_eq row.wish.redirect redirect)) in
    let free : Bool → Redeem = λ b. cond b Spent (time (lives 120 row.issued at)) in
    let own : Bool → Redeem = λ b. cond (not b) OtherClient (free row.spent) in
    elim (bool_cases (row.wish.client == client)) [
      | inr a ↦ (let k : own false ≡ Redeemed = sym (ap own a) ∙ h in cc)
      | inl a ↦ elim (bool_cases row.spent) [
        | inl b ↦ (let k : free true ≡ Redeemed = sym (ap own a ∙ ap free b) ∙ h in cc)
        | inr b ↦ elim (bool_cases (lives 120 row.issued at)) [
          | inr c ↦ (let k : time false ≡ Redeemed = sym (ap own a ∙ ap free b ∙ ap time c) ∙ h in cc)
          | inl c ↦ elim (bool_cases (bytes_eq row.wish.redirect redirect)) [
            | inr d ↦ (let k : uri false ≡ Redeemed = sym (ap own a ∙ ap free b ∙ ap time c ∙ ap uri d) ∙ h in cc)
            | inl d ↦ record {
              own_client = eqb-true row.wish.client client a;
              unspent = b;
              in_time = ltb-true at (row.issued + 120) c;
              own_uri = bytes_same row.wish.redirect redirect d;
            }
          ]
        ]
      ]
    ]

pub redeemable_is_redeemed : (client : ℕ) (redirect : List ℕ) (at : ℕ) (row : CodeRow) → IsRedeemable client redirect at row → redeem_of client redirect at (Some row) ≡ Redeemed
redeemable_is_redeemed client redirect at row good =
    let uri : Bool → Redeem = λ b. cond (not b) OtherUri Redeemed in
    let time : Bool → Redeem = λ b. cond (not b) Expired (uri (bytes_eq row.wish.redirect redirect)) in
    let free : Bool → Redeem = λ b. cond b Spent (time (lives 120 row.issued at)) in
    let own : Bool → Redeem = λ b. cond (not b) OtherClient (free row.spent) in
    ap own (eq-eqb row.wish.client client good.own_client) ∙ ap free good.unspent ∙ ap time (lt-ltb at (row.issued + 120) good.in_time)
    ∙ ap uri (bytes_true row.wish.redirect redirect good.own_uri)

-- ---- once

abbrev spent_if_named : Word → CodeRow → Type 0
spent_if_named w row = bytes_eq row.word w ≡ true → row.spent ≡ true

-- a changed code of the name is spent
spent_now : (w : Word) (rows : List CodeRow) → AllByRecursion (spent_if_named w) (changed code_name w code_spent rows)
spent_now w [] = tt
spent_now w (r ∷ rs) =
    let C : Bool → Type 0 = λ b. spent_if_named w (cond b (code_spent r) r) in
    let no : bytes_eq r.word w ≡ false → bytes_eq r.word w ≡ true → r.spent ≡ true = λ e f. (let k : true ≡ false = sym f ∙ e in cc) in
    (elim (bool_cases (bytes_eq r.word w)) [ inl e ↦ subst C (sym e) (λ f. refl) | inr e ↦ subst C (sym e) (no e) ], spent_now w rs)

pub redeemed_is_spent : (w : Word) (client : ℕ) (redirect : List ℕ) (at : ℕ) (t : Tables) → redemption w client redirect at t ≡ Redeemed → IsSpent w (after (redeem w client redirect at) t)
redeemed_is_spent w client redirect at t h =
    let S : Redeem → Type 0 = λ a. IsSpent w (after_answer a w t) in
    subst S (sym h) (spent_now w t.codes)

-- another's redemption leaves a spent code spent
answer_keeps : (w v : Word) (answer : Redeem) (t : Tables) → IsSpent w t → IsSpent w (after_answer answer v t)
answer_keeps w v Redeemed t spent =
    all_map (spent_if_named w) (spent_if_named w) (λ (row : CodeRow). cond (bytes_eq row.word v) (code_spent row) row) t.codes
    (λ row here. changed_has (λ (x y : CodeRow). spent_if_named w x) code_name v code_spent row (λ f. refl) here) spent
answer_keeps w v Unknown t spent = spent
answer_keeps w v OtherClient t spent = spent
answer_keeps w v Spent t spent = spent
answer_keeps w v Expired t spent = spent
answer_keeps w v OtherUri t spent = spent

call_keeps : (w : Word) (call : Call) (t : Tables) → IsSpent w t → issues w call ≡ false → IsSpent w (after call t)
call_keeps w reserve t spent none = spent
call_keeps w (purge at) t spent none = all_filter (spent_if_named w) (λ (row : CodeRow). lives code_life row.issued at) t.codes spent
call_keeps w (start_turn row) t spent none = spent
call_keeps w (start_session row) t spent none = spent
call_keeps w (issue_code row) t spent none =
    all_push (spent_if_named w) row t.codes spent (λ f. (let k : true ≡ false = sym f ∙ none in cc))
call_keeps w (issue_token row) t spent none = spent
call_keeps w (set_turn v session in_turn) t spent none = spent
call_keeps w (end_turn v) t spent none = spent
call_keeps w (end_session v) t spent none = spent
call_keeps w (renew v at) t spent none = spent
call_keeps w (visit v client) t spent none = spent
call_keeps w (redeem v client redirect at) t spent none = answer_keeps w v (redemption v client redirect at t) t spent
call_keeps w (grant user client scopes) t spent none = spent

pub calls_keep : (w : Word) (calls : List Call) (t : Tables) → IsSpent w t → NoneIssues w calls → IsSpent w (after_all calls t)
calls_keep w [] t spent none = spent
calls_keep w (call ∷ calls) t spent none = calls_keep w calls (after call t) (call_keeps w call t spent none.0) none.1

pub spent_is_refused : (w : Word) (client : ℕ) (redirect : List ℕ) (at : ℕ) (t : Tables) → IsSpent w t → redemption w client redirect at t ≢ Redeemed
spent_is_refused w client redirect at t spent h =
    let R : Option CodeRow → Redeem = λ o. redeem_of client redirect at o in
    elim (option_cases (row_of code_name w t.codes)) [
      | inl none ↦ (let k : Unknown ≡ Redeemed = sym (ap R none) ∙ h in cc)
      | inr some ↦
          (let named : bytes_eq some.0.word w ≡ true = row_of_named code_name w t.codes some.0 some.1 in
          let was : some.0.spent ≡ true = some_has code_name (spent_if_named w) w t.codes some.0 spent some.1 named in
          let unspent : some.0.spent ≡ false = (redeemed_is_redeemable client redirect at some.0 (sym (ap R some.1) ∙ h)).unspent in
          let k : true ≡ false = sym was ∙ unspent in
          cc)
    ]

pub redeemed_once : (w : Word) (client : ℕ) (redirect : List ℕ) (at : ℕ) (calls : List Call) (again : ℕ) (elsewhere : List ℕ) (later : ℕ) (t : Tables)
    → redemption w client redirect at t ≡ Redeemed → NoneIssues w calls → redemption w again elsewhere later (after_all calls (after (redeem w client redirect at) t)) ≢ Redeemed
redeemed_once w client redirect at calls again elsewhere later t h none =
    spent_is_refused w again elsewhere later (after_all calls (after (redeem w client redirect at) t))
    (calls_keep w calls (after (redeem w client redirect at) t) (redeemed_is_spent w client redirect at t h) none)

-- ---- by the code's own row alone

pub by_its_row : (w : Word) (client : ℕ) (redirect : List ℕ) (at : ℕ) (t u : Tables) → row_of code_name w t.codes ≡ row_of code_name w u.codes → redemption w client redirect at t ≡ redemption w client redirect at u
by_its_row w client redirect at t u same =
    let R : Option CodeRow → Redeem = λ o. redeem_of client redirect at o in
    ap R same

pub after_another_issued : (w : Word) (client : ℕ) (redirect : List ℕ) (at : ℕ) (row : CodeRow) (t : Tables) → bytes_eq row.word w ≡ false
    → redemption w client redirect at (with_code row t) ≡ redemption w client redirect at t
after_another_issued w client redirect at row t other =
    by_its_row w client redirect at (with_code row t) t (row_of-push_other code_name w row t.codes other)

codes_after_answer : (w v : Word) (answer : Redeem) (t : Tables) → bytes_eq v w ≡ false → row_of code_name w (after_answer answer v t).codes ≡ row_of code_name w t.codes
codes_after_answer w v Redeemed t other = row_of-changed_other code_name v w code_spent t.codes (λ r. refl) other
codes_after_answer w v Unknown t other = refl
codes_after_answer w v OtherClient t other = refl
codes_after_answer w v Spent t other = refl
codes_after_answer w v Expired t other = refl
codes_after_answer w v OtherUri t other = refl

pub after_another_redeemed : (w v : Word) (client other : ℕ) (redirect elsewhere : List ℕ) (at before : ℕ) (t : Tables) → bytes_eq v w ≡ false
    → redemption w client redirect at (after (redeem v other elsewhere before) t) ≡ redemption w client redirect at t
after_another_redeemed w v client other redirect elsewhere at before t apart =
    by_its_row w client redirect at (after (redeem v other elsewhere before) t) t (codes_after_answer w v (redemption v other elsewhere before t) t apart)

pub after_purge : (w : Word) (client : ℕ) (redirect : List ℕ) (at : ℕ) (t : Tables) → IsDistinct code_name t.codes
    → redemption w client redirect at (purged at t) ≡ redeem_of client redirect at (option_and_then (if_lives code_life code_begun at) (row_of code_name w t.codes))
after_purge w client redirect at t distinct =
    let R : Option CodeRow → Redeem = λ o. redeem_of client redirect at o in
    ap R (row_of-live_rows code_name code_life code_begun at w t.codes distinct)
