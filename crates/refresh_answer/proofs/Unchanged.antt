-- A refused refresh request that is no reuse of an old token leaves all families and tokens as they are.
use Rattle.std.proofs.Common.{◌≡◌, Bool, true, false, not, ◌||◌, cond, List, [], ◌∷◌, length, filter, Option, Some, None, refl, ap, ◌∙◌}
use Rattle.std.specs.Prelude.{Result}
use Rattle.sso_base.specs.Rows.{put}
use Rattle.sso_base.specs.declared.history.Pair.{Pair}
use Rattle.code_grant.specs.declared.rows.CodeRow.{CodeRow}
use Rattle.token_endpoint.specs.declared.no.GrantNo.{GrantNo}
use Rattle.token_endpoint.specs.declared.error.TokenError.{TokenError}
use Rattle.op_exchange.specs.declared.ask.OpAsk.{OpAsk}
use Rattle.op_exchange.specs.declared.reply.OpReply.{OpReply}
use Rattle.op_answer.specs.Past.{OpPair}
use Rattle.refresh_answer.specs.declared.asks.RefreshGrant.{RefreshGrant}
use Rattle.refresh_answer.specs.declared.asks.RefreshAsk.{RefreshAsk}
use Rattle.refresh_answer.specs.declared.asks.RefreshAsk.TheVariants as ask
use Rattle.refresh_answer.specs.declared.asks.OwnReply.TheVariants as own
use Rattle.refresh_answer.specs.declared.asks.RefreshReply.{RefreshReply}
use Rattle.refresh_answer.specs.declared.asks.RefreshReply.TheVariants.{Own}
use Rattle.refresh_answer.specs.declared.rows.FamilyRow.{FamilyRow}
use Rattle.refresh_answer.specs.declared.rows.AccessRow.{AccessRow}
use Rattle.refresh_answer.specs.declared.rows.RefreshRow.{RefreshRow}
use Rattle.refresh_answer.specs.Rows.{token_name, access_name}
use Rattle.refresh_answer.specs.Around.{Outer, outer_plain}
use Rattle.refresh_answer.specs.Families.{row_presented, token_made, token_retired, access_made, is_replay, is_code_replay, begun_by, appended, code_presented, tokens, accesses, ends, begins_in, families}
use Rattle.refresh_answer.specs.Laws.{IsAsBefore}
use Rattle.refresh_answer.proofs.Families.{true_false}

neither : (a b : Bool) → a ≡ false → b ≡ false → not (a || b) ≡ true
neither true b h k = absurd (true_false h)
neither false true h k = absurd (true_false k)
neither false false h k = refl

all_stay : {X : Type 0} (k : X → Bool) → ((x : X) → k x ≡ true) → (l : List X) → filter k l ≡ l
all_stay k each [] = refl
all_stay {X} k each (x ∷ l) =
    let K : Bool → List X = λ b. cond b (x ∷ filter k l) (filter k l) in
    let P : List X → List X = λ r. x ∷ r in
    ap K (each x) ∙ ap P (all_stay k each l)

no_code : (o : Option CodeRow) (f : FamilyRow) → is_code_replay o None f ≡ false
no_code None f = refl
no_code (Some code) f = refl

module _ {A R : Type 0} (plain : A → Option OpAsk) (given : R → Option OpReply) (provided : List (Pair A R) → List OpPair) where
  pub refused_stay : (past : List (Outer A R)) (p : Outer A R) (grant : Result RefreshGrant GrantNo) (code : TokenError) → p.entry.ask ≡ ask.Refresh grant → p.reply ≡ Own (own.Refused code)
      → ((f : FamilyRow) → is_replay (row_presented (tokens plain given provided past) p.entry.ask) p.entry.ask f ≡ false) → IsAsBefore plain given provided past p
  refused_stay past p grant code asked replied fresh =
      let fs : List FamilyRow = families plain given provided past in
      let ts : List RefreshRow = tokens plain given provided past in
      let row : Option RefreshRow = row_presented ts p.entry.ask in
      let shown : Option CodeRow = code_presented plain given provided past p.entry.at p.entry.ask in
      let k : FamilyRow → Bool = λ f. not (ends plain given provided past p.entry.at p.entry.ask f) in
      let C : FamilyRow → RefreshAsk A → Bool = λ f a. is_code_replay shown (outer_plain plain a) f in
      let each : (f : FamilyRow) → k f ≡ true = λ f. neither (is_replay row p.entry.ask f) (is_code_replay shown (outer_plain plain p.entry.ask) f) (fresh f) (ap (C f) asked ∙ no_code shown f) in
      let F : RefreshReply R → List FamilyRow = λ r. appended (filter k fs) (begun_by r (begins_in plain given provided fs past p.entry)) in
      let T : RefreshReply R → List RefreshRow = λ r. put token_name (token_made (length past) row r) (put token_name (token_retired row r) ts) in
      let X : RefreshReply R → List AccessRow = λ r. put access_name (access_made p.entry.at row r) (accesses plain given provided past) in
      record {
        families_stay = ap F replied ∙ all_stay k each fs;
        tokens_stay = ap T replied;
        accesses_stay = ap X replied;
      }
