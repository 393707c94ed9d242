-- The provider's answer to a token request tells of the redemption.
use Rattle.std.proofs.Common.{◌≡◌, ◌==◌, ℕ, Bool, true, false, not, ◌||◌, cond, Option, Some, None, Ok, inl, inr, refl, sym, ◌∙◌, ap, subst}
use Rattle.std.specs.Str.{bytes_eq}
use Rattle.std.proofs.lemmas.Bool.{eqb-true}
use Rattle.sso_base.specs.Words.{word_of_text}
use Rattle.sso_base.specs.Rows.{lives}
use Rattle.sso_base.specs.declared.history.Entry.{Entry}
use Rattle.sso_base.proofs.RowLaws.{bool_cases}
use Rattle.client_registry.specs.Configuration.{Configuration}
use Rattle.client_registry.specs.Numbers.{is_client}
use Rattle.token_endpoint.specs.declared.granting.Grant.{Grant}
use Rattle.token_endpoint.specs.declared.error.TokenError.TheVariants.{InvalidGrant}
use Rattle.code_grant.specs.declared.rows.CodeRow.{CodeRow}
use Rattle.code_grant.specs.declared.redeem.Redeem.{Redeem}
use Rattle.code_grant.specs.declared.redeem.Redeem.TheVariants.{Redeemed, Unknown, OtherClient, Spent, Expired, OtherUri}
use Rattle.code_grant.specs.Redeeming.{redeem_of}
use Rattle.oidc_words.specs.Lives.{code_usable}
use Rattle.op_exchange.specs.declared.ask.OpAsk.{OpAsk}
use Rattle.op_exchange.specs.declared.ask.OpAsk.TheVariants as ask
use Rattle.op_exchange.specs.declared.reply.OpReply.{OpReply}
use Rattle.op_exchange.specs.declared.reply.OpReply.TheVariants.{TokenRefused, NotHere, Full}
use Rattle.op_exchange.specs.Asks.{is_prepared}
use Rattle.op_answer.specs.Past.{OpPast}
use Rattle.op_answer.specs.Codes.{code_named, held_code, is_spent}
use Rattle.op_answer.specs.Replies.{tokens_by}
use Rattle.op_answer.specs.Room.{lacks_room, lacks_turn, lacks_session, unless_full}
use Rattle.op_answer.specs.Answering.{op_reply, op_answer}
use Rattle.op_tables.specs.Keeping.{TellsRedeem, TellsRedemption}

-- the held code is of a client of the registry
abbrev pub IsOfClient : Configuration → Option CodeRow → Type 0
IsOfClient c found = (row : CodeRow) → found ≡ Some row → is_client c row.wish.client ≡ true

-- a client that the registry lacks finds no code that was its own
stranger : (c : Configuration) (grant : Grant) (at : ℕ) (found : Option CodeRow) → IsOfClient c found → is_client c grant.client ≡ false
    → is_spent (redeem_of grant.client grant.redirect at found) ≡ false
stranger c grant at None known none = refl
stranger c grant at (Some row) known none =
    let S : Bool → Bool = λ b. is_spent (cond (not b) OtherClient (cond row.spent Spent (cond (not (lives code_usable row.issued at)) Expired (cond (not (bytes_eq row.wish.redirect grant.redirect)) OtherUri Redeemed)))) in
    let C : ℕ → Bool = λ n. is_client c n in
    elim (bool_cases (row.wish.client == grant.client)) [
      | inl e ↦ (let here : is_client c grant.client ≡ true = sym (ap C (eqb-true row.wish.client grant.client e)) ∙ known row refl in let k : true ≡ false = sym here ∙ none in cc)
      | inr e ↦ ap S e
    ]

module _ (c : Configuration) (past : OpPast) (e : Entry OpAsk) where
  -- a refusal needs no room
  refusal_stands : (grant : Grant) → e.ask ≡ ask.Token (Ok grant) → unless_full past e (TokenRefused InvalidGrant) ≡ TokenRefused InvalidGrant
  refusal_stands grant same =
      let A : OpAsk → OpReply = λ a. cond (lacks_turn past e.at a (TokenRefused InvalidGrant) || lacks_session past e.at a (TokenRefused InvalidGrant) || false || false) Full (TokenRefused InvalidGrant) in
      ap A same

  refused_tells : (grant : Grant) (r : Redeem) → e.ask ≡ ask.Token (Ok grant) → TellsRedeem (TokenRefused InvalidGrant) r → TellsRedeem (unless_full past e (TokenRefused InvalidGrant)) r
  refused_tells grant r same bad =
      let T : OpReply → Type 0 = λ told. TellsRedeem told r in
      subst T (sym (refusal_stands grant same)) bad

  judged_tells : (grant : Grant) (found : Option CodeRow) (r : Redeem) → e.ask ≡ ask.Token (Ok grant) → redeem_of grant.client grant.redirect e.at found ≡ r
      → TellsRedeem (unless_full past e (tokens_by c e r found)) r
  judged_tells grant (Some row) Redeemed same judged =
      let T : Bool → Type 0 = λ b. TellsRedeem (cond b Full (tokens_by c e Redeemed (Some row))) Redeemed in
      elim (bool_cases (lacks_room past e (tokens_by c e Redeemed (Some row)))) [ inl f ↦ subst T (sym f) refl | inr f ↦ subst T (sym f) refl ]
  judged_tells grant None Redeemed same judged = cc
  judged_tells grant found Unknown same judged = refused_tells grant Unknown same (λ h. cc)
  judged_tells grant found OtherClient same judged = refused_tells grant OtherClient same (λ h. cc)
  judged_tells grant found Spent same judged = refused_tells grant Spent same (λ h. cc)
  judged_tells grant found Expired same judged = refused_tells grant Expired same (λ h. cc)
  judged_tells grant found OtherUri same judged = refused_tells grant OtherUri same (λ h. cc)

  asked_tells : (asked : OpAsk) → e.ask ≡ asked → IsOfClient c (held_code past e.at (code_named asked))
      → TellsRedemption past e.at asked (cond (is_prepared c asked) (unless_full past e (op_reply c past e asked)) NotHere)
  asked_tells (ask.Token (Ok grant)) same known =
      let found : Option CodeRow = held_code past e.at (word_of_text grant.code) in
      let r : Redeem = redeem_of grant.client grant.redirect e.at found in
      let T : Bool → Type 0 = λ b. TellsRedeem (cond b (unless_full past e (tokens_by c e r found)) NotHere) r in
      elim (bool_cases (is_client c grant.client)) [
        | inl y ↦ subst T (sym y) (judged_tells grant found r same refl)
        | inr n ↦ subst T (sym n) (stranger c grant e.at found known n)
      ]
  asked_tells asked same known = tt

-- where the code that is named is of a client of the registry
pub answer_tells : (c : Configuration) (past : OpPast) (e : Entry OpAsk) → IsOfClient c (held_code past e.at (code_named e.ask)) → TellsRedemption past e.at e.ask (op_answer c past e)
unfolding op_answer
answer_tells c past e known = asked_tells c past e e.ask refl known
