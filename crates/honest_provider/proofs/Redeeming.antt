-- What the messages of a party get: a token request its tokens, a UserInfo request the claims of the user.
use Rattle.std.proofs.Common.{◌≡◌, ◌≤◌, ℕ, true, List, ◌∷◌, length, Some, None, Ok, refl, sym, ◌∙◌, ap, subst, arith}
use Rattle.sso_base.specs.Words.{Word, fresh_word, word_text, word_of_text}
use Rattle.sso_base.specs.Rows.{lives}
use Rattle.sso_base.specs.declared.http.Ask.{Ask}
use Rattle.sso_base.proofs.RowLaws.{row_has_name}
use Rattle.sso_base.proofs.WordTexts.{word_of_text-word_text}
use Rattle.oidc_words.specs.Lives.{code_usable, access_life}
use Rattle.client_registry.specs.Configuration.{Configuration}
use Rattle.client_registry.specs.Numbers.{party_row}
use Rattle.auth_request.specs.declared.wish.Wish.{Wish}
use Rattle.id_token.specs.Judging.{IsInAge}
use Rattle.token_endpoint.specs.declared.granting.Grant.{Grant}
use Rattle.userinfo.specs.declared.header.Bearer.TheVariants.{Given}
use Rattle.userinfo.specs.Held.{info_members}
use Rattle.claim_set.specs.Reading.{claims_text}
use Rattle.code_grant.specs.declared.rows.TokenRow.{TokenRow}
use Rattle.code_grant.specs.Rows.{code_name}
use Rattle.op_issue.specs.declared.issuing.Authentication.{Authentication}
use Rattle.op_issue.specs.IdTokens.{issued_id}
use Rattle.op_issue.specs.Issuing.{MayIssue}
use Rattle.op_exchange.specs.declared.ask.OpAsk.{OpAsk}
use Rattle.op_exchange.specs.declared.reply.OpReply.{OpReply}
use Rattle.op_answer.specs.Past.{OpPair, OpPast}
use Rattle.op_answer.specs.Codes.{codes_issued, code_of}
use Rattle.op_answer.specs.AccessTokens.{access_issued}
use Rattle.op_answer.specs.Authentications.{code_authentication}
use Rattle.sso_places.specs.World.{Place, Provider, World, op_past}
use Rattle.honest_places.specs.Login.{Visitor}
use Rattle.honest_places.specs.InTime.{IsOpInTime}
use Rattle.honest_places.specs.OwnWish.{own_wish}
use Rattle.honest_provider.proofs.Outcomes.{Giving, Telling}
use Rattle.honest_provider.proofs.Answering.{IsGoodFor, gets_tokens, informs}
use Rattle.honest_provider.proofs.Making.{redeemed_stands}
use Rattle.honest_places.proofs.OwnWords.{IsOwn, own_grown}
use Rattle.honest_provider.proofs.Facts.{CodeWaits, AccessWaits}
use Rattle.honest_provider.proofs.Living.{access_lives}
use Rattle.honest_provider.proofs.AtPlace.{Here, told, asks, fresh_is_word, fresh_own}
use Rattle.honest_places.specs.Conditions.{within_lives, code_in_time}
use Rattle.honest_places.proofs.Conditions.{demanded}
use Rattle.op_exchange.specs.declared.ask.OpAsk.TheVariants as ask
use Rattle.op_exchange.specs.declared.reply.OpReply.TheVariants as op
use Rattle.sso_places.specs.declared.types.WorldReply.TheVariants as reply

module _ {c : Configuration} {v : Visitor} {login : List Place} {world : World} {from : ℕ} {request : Ask} {p : OpPair} (here : Here c v login world from request p) where
  abbrev y : Place
  y = Provider from request p

  abbrev past : OpPast
  past = op_past world

  abbrev at : ℕ
  at = p.entry.at

  -- ---- a token request

  module _ (state nonce k : Word) (begun since : ℕ) (who : Authentication) (at_answer : ℕ) (gone : since ≤ at) (age : IsInAge (party_row c v.party).max_age (Some who.auth_time) begun) (issue : MayIssue c (own_wish c v.party state nonce) who at_answer)
      (q : CodeWaits c v login world state nonce k who) (is : p.entry.ask ≡ ask.Token (Ok (record { client = (party_row c v.party).client; code = word_text k; redirect = (party_row c v.party).redirect }))) (time : IsOpInTime None past at p.entry.ask) where
    abbrev grant : Grant
    grant = record { client = (party_row c v.party).client; code = word_text k; redirect = (party_row c v.party).redirect }

    abbrev token_ask : OpAsk
    token_ask = ask.Token (Ok grant)

    abbrev A : Word
    A = fresh_word p.entry.fresh 0

    code_found : code_of past (word_of_text grant.code) ≡ Some q.row
    code_found = ap (code_of past) (word_of_text-word_text k q.word) ∙ q.stands

    usable : lives code_usable q.row.issued at ≡ true
    usable =
        let all : IsOpInTime None past at token_ask = subst (IsOpInTime None past at) is time in
        demanded code_in_time (lives code_usable q.row.issued at ≡ true) (all q.row code_found)

    good : IsGoodFor c past p.entry grant q.row
    good =
        record {
          stands = code_found;
          own_client = ap (λ (w : Wish). w.client) q.wish_is;
          unspent = q.unspent;
          usable = usable;
          own_uri = ap (λ (w : Wish). w.redirect) q.wish_is;
        }

    abbrev token_reply : Wish → Authentication → OpReply
    token_reply wish owner = op.Tokens A (issued_id c wish owner at (Some A) None)

    token_told : p.reply ≡ token_reply (own_wish c v.party state nonce) who
    token_told =
        let owner : Authentication = code_authentication q.row in
        told here (token_reply q.row.wish owner) (gets_tokens c past p.entry grant q.row (asks here token_ask is) good)
        ∙ (ap (λ (w : Wish). token_reply w owner) q.wish_is ∙ ap (λ (o : Authentication). token_reply (own_wish c v.party state nonce) o) q.who_is)

    own_named : q.row.word ≡ k
    own_named = row_has_name code_name k (codes_issued past) q.row q.stands

    pub redeems : Giving c v (y ∷ login) (y ∷ world) y state nonce begun who.user since
    redeems =
        record {
          who = who;
          at = at;
          access = A;
          replied = ap (λ (r : OpReply). reply.Provider r) token_told;
          may = record {
            registry = issue.registry;
            client = issue.client;
            user = issue.user;
            nonce = issue.nonce;
            sid = issue.sid;
            auth_time = issue.auth_time;
            moment = here.now.legal.provider.1.moment;
          };
          age = age;
          after = gone;
          past = omega arith;
          user_is = refl;
          known = record {
            row = access_issued (length past) at A (Some q.row.word) q.row.wish q.row.user;
            stands = redeemed_stands past p grant A (issued_id c (own_wish c v.party state nonce) who at (Some A) None) q.row is token_told code_found;
            client_is = ap (λ (w : Wish). w.client) q.wish_is;
            user_is = ap (λ (o : Authentication). o.user) q.who_is;
            own = fresh_own here 0 (omega arith);
            own_code = own_grown login world y q.row.word (subst (IsOwn login world) (sym own_named) q.own);
            word = fresh_is_word here 0 (omega arith);
          };
        }

  -- ---- a UserInfo request

  module _ (access : Word) (user : ℕ) (q : AccessWaits c v login world access user) (is : p.entry.ask ≡ ask.Info (Given access)) (time : IsOpInTime None past at p.entry.ask) where
    pub tells : Telling c v (y ∷ login) (y ∷ world) y user
    tells =
        let row : TokenRow = q.row in
        let all : IsOpInTime None past at (ask.Info (Given access)) = subst (IsOpInTime None past at) is time in
        let live = access_lives past at access row q.stands (demanded within_lives (lives access_life row.issued at ≡ true) (all row q.stands)) in
        let R : ℕ → ℕ → OpReply = λ client who. op.Info (claims_text (info_members c client who row.scopes row.asked)) in
        record {
          scopes = row.scopes;
          asked = row.asked;
          replied = ap (λ (r : OpReply). reply.Provider r)
              (told here (R row.client row.user) (informs c past p.entry access row (asks here (ask.Info (Given access)) is) live)
              ∙ (ap (λ n. R n row.user) q.client_is ∙ ap (λ n. R (party_row c v.party).client n) q.user_is));
        }
