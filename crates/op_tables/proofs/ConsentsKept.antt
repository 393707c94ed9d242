-- The consent that a form gave is what the definition joins to the user's grants.
use Rattle.std.proofs.Common.{◌≡◌, ◌<◌, ◌==◌, ℕ, Bool, true, false, ◌&&◌, ◌||◌, cond, List, length, Option, Some, None, option_map, inl, inr, refl, sym, ◌∙◌, ap, subst}
use Rattle.std.proofs.lemmas.Bool.{eqb-true, eq-eqb, and_parts}
use Rattle.sso_base.proofs.RowLaws.{bool_cases, option_cases}
use Rattle.oidc_words.specs.declared.scopes.Scopes.{Scopes}
use Rattle.oidc_words.specs.Scopes.{no_scopes, joined}
use Rattle.user_interaction.specs.Need.{needed_scopes}
use Rattle.code_grant.specs.declared.rows.TurnRow.{TurnRow}
use Rattle.code_grant.specs.declared.rows.SessionRow.{SessionRow}
use Rattle.code_grant.specs.Consents.{granted_to, with_grant}
use Rattle.code_grant.specs.Tables.{Tables}
use Rattle.code_grant.proofs.Granting.{granted_to-with_grant, granted_to-with_other}
use Rattle.op_exchange.specs.declared.ask.OpAsk.{OpAsk}
use Rattle.op_exchange.specs.declared.reply.OpReply.{OpReply}
use Rattle.op_tables.specs.declared.keeping.Agreement.{Agreement}
use Rattle.op_answer.specs.Past.{OpPast}
use Rattle.op_answer.specs.Sessions.{session_of}
use Rattle.op_answer.specs.Consents.{turn_agreed, is_grant_of, granted_by}
use Rattle.op_tables.specs.Keeping.{agreed_turn, turn_in, session_in, agreement_by, agreement_of, FindsAgreement}
use Rattle.op_answer.proofs.KeptNames.{some_same}

or_no : (b : Bool) → (b || false) ≡ b
or_no true = refl
or_no false = refl

-- nothing is joined
pub joined_none : (s : Scopes) → joined s no_scopes ≡ s
unfolding joined
joined_none s =
    let A : Bool → Scopes = λ b. record { openid = b; profile = s.profile || false; email = s.email || false; address = s.address || false; phone = s.phone || false } in
    let B : Bool → Scopes = λ b. record { openid = s.openid; profile = b; email = s.email || false; address = s.address || false; phone = s.phone || false } in
    let C : Bool → Scopes = λ b. record { openid = s.openid; profile = s.profile; email = b; address = s.address || false; phone = s.phone || false } in
    let D : Bool → Scopes = λ b. record { openid = s.openid; profile = s.profile; email = s.email; address = b; phone = s.phone || false } in
    let E : Bool → Scopes = λ b. record { openid = s.openid; profile = s.profile; email = s.email; address = s.address; phone = b } in
    ap A (or_no s.openid) ∙ ap B (or_no s.profile) ∙ ap C (or_no s.email) ∙ ap D (or_no s.address) ∙ ap E (or_no s.phone)

-- a test that is not both
not_both : (a b : Bool) → (a && b) ≡ false → a ≡ true → b ≡ true → ⊥
not_both true true h x y = cc
not_both true false h x y = cc
not_both false b h x y = cc

module _ (past : OpPast) (consents : List Scopes) (user client : ℕ) (low : user < 512) (few : client < 128) where
  -- what the session's user granted to the turn's client
  granted_there : (turn : TurnRow) (session : SessionRow) → turn.wish.client < 128 → length consents ≡ 65536
      → granted_to user client (with_grant session.user turn.wish.client (needed_scopes turn.wish) consents)
      ≡ joined (granted_to user client consents) (cond (is_grant_of user client turn (Some session)) (needed_scopes turn.wish) no_scopes)
  granted_there turn session below long =
      let J : Bool → Scopes = λ b. joined (granted_to user client consents) (cond b (needed_scopes turn.wish) no_scopes) in
      let scopes : Scopes = needed_scopes turn.wish in
      elim (bool_cases (session.user == user && turn.wish.client == client)) [
        | inl e ↦
            (let parts = and_parts (session.user == user) (turn.wish.client == client) e in
            let U : ℕ → Scopes = λ u. granted_to user client (with_grant u turn.wish.client scopes consents) in
            let C : ℕ → Scopes = λ c. granted_to user client (with_grant user c scopes consents) in
            ap U (eqb-true session.user user parts.0) ∙ ap C (eqb-true turn.wish.client client parts.1)
            ∙ granted_to-with_grant user client scopes consents low few long ∙ sym (ap J e))
        | inr e ↦
            granted_to-with_other user client session.user turn.wish.client scopes consents few below
            (λ u c. not_both (session.user == user) (turn.wish.client == client) e (eq-eqb session.user user (sym u)) (eq-eqb turn.wish.client client (sym c)))
            ∙ sym (joined_none (granted_to user client consents)) ∙ sym (ap J e)
      ]

  none_there : (turn : Option TurnRow) → ((row : TurnRow) → turn ≡ Some row → session_of past row.session ≡ None)
      → granted_to user client consents ≡ joined (granted_to user client consents) (granted_by past user client turn)
  none_there None none = sym (joined_none (granted_to user client consents))
  none_there (Some row) none =
      let F : Option SessionRow → Scopes = λ o. joined (granted_to user client consents) (cond (is_grant_of user client row o) (needed_scopes row.wish) no_scopes) in
      sym (ap F (none row refl) ∙ joined_none (granted_to user client consents))

  some_there : (row : TurnRow) (session : SessionRow) → session_of past row.session ≡ Some session → row.wish.client < 128 → length consents ≡ 65536
      → granted_to user client (with_grant session.user row.wish.client (needed_scopes row.wish) consents)
      ≡ joined (granted_to user client consents) (granted_by past user client (Some row))
  some_there row session found below long =
      let F : Option SessionRow → Scopes = λ o. joined (granted_to user client consents) (cond (is_grant_of user client row o) (needed_scopes row.wish) no_scopes) in
      granted_there row session below long ∙ sym (ap F found)

-- what is found in the tables
turn_by_found : (t : Tables) (found : Option TurnRow) (agreed : Agreement) → agreement_of t found ≡ Some agreed
    → (row : TurnRow) × (session : SessionRow) × (found ≡ Some row) × (session_in t row.session ≡ Some session) × (agreement_by row session ≡ agreed)
turn_by_found t None agreed h = cc
turn_by_found t (Some row) agreed h =
    let M : Option SessionRow → Option Agreement = λ o. option_map (agreement_by row) o in
    elim (option_cases (session_in t row.session)) [
      | inl none ↦ (let k : M None ≡ Some agreed = sym (ap M none) ∙ h in cc)
      | inr some ↦ (row, some.0, refl, some.1, some_same (agreement_by row some.0) agreed (sym (ap M some.1) ∙ h))
    ]

none_by_found : (t : Tables) (found : Option TurnRow) → agreement_of t found ≡ None → (row : TurnRow) → found ≡ Some row → session_in t row.session ≡ None
none_by_found t None h row e = cc
none_by_found t (Some turn) h row e =
    let S : TurnRow → Option SessionRow = λ r. session_in t r.session in
    let M : Option SessionRow → Option Agreement = λ o. option_map (agreement_by turn) o in
    elim (option_cases (session_in t turn.session)) [
      | inl none ↦ sym (ap S (some_same turn row e)) ∙ none
      | inr some ↦ (let k : M (Some some.0) ≡ None = sym (ap M some.1) ∙ h in cc)
    ]

pub consent_is_granted : (t : Tables) (past : OpPast) (asked : OpAsk) (told : OpReply) (agreed : Agreement) → agreement_of t (turn_in t (agreed_turn asked told)) ≡ Some agreed
    → agreed.client < 128 → length t.consents ≡ 65536 → FindsAgreement t past asked told → (user client : ℕ) → user < 512 → client < 128
    → granted_to user client (with_grant agreed.user agreed.client agreed.scopes t.consents) ≡ joined (granted_to user client t.consents) (granted_by past user client (turn_agreed past asked told))
consent_is_granted t past asked told agreed h below long finds user client low few =
    let there = turn_by_found t (turn_in t (agreed_turn asked told)) agreed h in
    let row : TurnRow = there.0 in
    let session : SessionRow = there.1 in
    let turn_is : turn_agreed past asked told ≡ Some row = sym finds.turn ∙ there.2 in
    let session_is : session_of past row.session ≡ Some session = sym (finds.session row turn_is) ∙ there.3 in
    let A : Agreement → ℕ = λ a. a.client in
    let G : Agreement → Scopes = λ a. granted_to user client (with_grant a.user a.client a.scopes t.consents) in
    let J : Option TurnRow → Scopes = λ o. joined (granted_to user client t.consents) (granted_by past user client o) in
    let N : ℕ → Type 0 = λ n. n < 128 in
    sym (ap G there.4) ∙ some_there past t.consents user client low few row session session_is (subst N (sym (ap A there.4)) below) long ∙ sym (ap J turn_is)

pub nothing_is_granted : (t : Tables) (past : OpPast) (asked : OpAsk) (told : OpReply) → agreement_of t (turn_in t (agreed_turn asked told)) ≡ None → FindsAgreement t past asked told
    → (user client : ℕ) → user < 512 → client < 128
    → granted_to user client t.consents ≡ joined (granted_to user client t.consents) (granted_by past user client (turn_agreed past asked told))
nothing_is_granted t past asked told h finds user client low few =
    none_there past t.consents user client low few (turn_agreed past asked told)
    (λ row e. sym (finds.session row e) ∙ none_by_found t (turn_in t (agreed_turn asked told)) h row (finds.turn ∙ e))
