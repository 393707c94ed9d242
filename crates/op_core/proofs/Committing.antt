-- What is kept when a pair is taken up for which room was reserved.
use Rattle.std.proofs.Common.{◌≡◌, ◌≤◌, ℕ, ◌+◌, List, [], ◌∷◌, ◌++◌, reverse, Option, Some, IfSome, Result, OnOk, true, sym, ◌∙◌, subst}
use Rattle.sso_base.specs.Words.{Word}
use Rattle.sso_base.specs.Legal.{last_moment, IsEntry}
use Rattle.sso_base.specs.Journal.{most_of, history_weight, ReportsFull}
use Rattle.sso_base.specs.declared.step.CoreNo.{CoreNo}
use Rattle.client_registry.specs.Configuration.{Configuration}
use Rattle.code_grant.specs.declared.rows.TurnRow.{TurnRow}
use Rattle.code_grant.specs.declared.rows.SessionRow.{SessionRow}
use Rattle.code_grant.specs.declared.rows.CodeRow.{CodeRow}
use Rattle.code_grant.specs.declared.rows.TokenRow.{TokenRow}
use Rattle.code_grant.specs.Tables.{Tables, with_room}
use Rattle.op_exchange.specs.Values.{IsOpAsk}
use Rattle.op_exchange.specs.Weight.{ask_weight}
use Rattle.op_answer.specs.Past.{OpPair, OpPast}
use Rattle.op_answer.specs.Turns.{turns, turn_made}
use Rattle.op_answer.specs.Sessions.{sessions, session_made}
use Rattle.op_answer.specs.Codes.{codes_issued, code_made}
use Rattle.op_answer.specs.AccessTokens.{accesses, access_made}
use Rattle.op_answer.specs.Answering.{op_answer}
use Rattle.op_tables.specs.Agreeing.{is_own_turn, is_own_session, is_own_code, is_own_token}
use Rattle.op_core.specs.Keeps.{KeepsPast, Keeps}
use Rattle.op_tables.specs.Keeping.{IsUpdate}
use Rattle.op_core.specs.Outcome.{MakesRows}
use Rattle.op_core.specs.Providing.{Providing, past_of}
use Rattle.op_tables.specs.Updating.{MayUpdate}
use Rattle.op_core.proofs.Stepping.{own_carried, keeps_more}

-- room changes no row
with_room_keeps : (c : Configuration) (past : OpPast) (t : Tables) → KeepsPast c past t → KeepsPast c past (with_room t)
with_room_keeps c past t k =
    record {
      agrees = record { turns = k.agrees.turns; sessions = k.agrees.sessions; codes = k.agrees.codes; tokens = k.agrees.tokens; granted = k.agrees.granted };
      begun = record { turns = k.begun.turns; sessions = k.begun.sessions; codes = k.begun.codes; tokens = k.begun.tokens };
      own = record { turns = k.own.turns; sessions = k.own.sessions; codes = k.own.codes; tokens = k.own.tokens };
    }

-- a row that was made is an own one
if_made : {R : Type 0} (P : R → Type 0) (m n : Option R) → m ≡ n → IfSome m P → (r : R) → n ≡ Some r → P r
if_made {R} P m n same h r is =
    let I : Option R → Type 0 = λ o. IfSome o P in
    subst I (same ∙ is) h

module _ (c : Configuration) (history items : List OpPair) (t u : Tables) (p : OpPair) (weight : ℕ) (turn : Option TurnRow) (session : Option SessionRow) (code : Option CodeRow) (token : Option TokenRow) (used : Option Word) (client : Option ℕ) where
  -- what the step has shown when it takes the pair up, of the provider as a value
  abbrev pub Shown : Providing → Type 0
  Shown s =
      (last_moment (past_of s) ≤ p.entry.at)
      × (p.reply ≡ op_answer s.registry (past_of s) p.entry)
      × MakesRows (past_of s) p turn session code token used client
      × IfSome turn (λ row. is_own_turn s.registry row ≡ true)
      × IfSome session (λ row. is_own_session s.registry row ≡ true)
      × IfSome code (λ row. is_own_code s.registry row ≡ true)
      × IfSome token (λ row. is_own_token s.registry row ≡ true)
      × (history_weight ask_weight s.history + weight ≤ most_of s.registry.lasting)

  abbrev pub Follows : Type 0
  Follows = (d : Configuration) (past : OpPast) (before : ℕ) → MayUpdate (with_room t) p turn session code token used client d past before → IsUpdate (with_room t) u past p

  may_update : KeepsPast c (reverse history) (with_room t) → Shown (record { registry = c; history = history; tables = t }) → MayUpdate (with_room t) p turn session code token used client c (reverse history) (last_moment (reverse history))
  may_update keeps shown =
      let rows : MakesRows (reverse history) p turn session code token used client = shown.2 in
      record {
        order = shown.0;
        agrees = keeps.agrees;
        begun = keeps.begun;
        own = keeps.own;
        reply_is = shown.1;
        used_is = rows.used_is;
        client_is = rows.client_is;
        turn_is = rows.turn_is;
        session_is = rows.session_is;
        code_is = rows.code_is;
        token_is = rows.token_is;
      }

  committed : (most now : ℕ) → now ≡ most → Keeps c history t most → IsEntry IsOpAsk p.entry → weight ≡ ask_weight p.entry.ask → items ≡ history ++ p ∷ [] → Follows
      → Shown (record { registry = c; history = history; tables = t }) → Keeps c items u now
  committed most now same keeps entry weight_is items_are follows shown =
      let past : OpPast = reverse history in
      let rows : MakesRows past p turn session code token used client = shown.2 in
      let kept : KeepsPast c past (with_room t) = with_room_keeps c past t keeps.tables in
      let one : IsUpdate (with_room t) u past p = follows c past (last_moment past) (may_update kept shown) in
      let own = own_carried c (with_room t) u past p kept.own one
      (if_made (λ row. is_own_turn c row ≡ true) turn (turn_made (turns past) past p) rows.turn_is shown.3)
      (if_made (λ row. is_own_session c row ≡ true) session (session_made (sessions past) past p) rows.session_is shown.4)
      (if_made (λ row. is_own_code c row ≡ true) code (code_made (codes_issued past) past p) rows.code_is shown.5)
      (if_made (λ row. is_own_token c row ≡ true) token (access_made (accesses past) past p) rows.token_is shown.6) in
      let I : List OpPair → Type 0 = λ x. Keeps c x u now in
      let M : ℕ → Type 0 = λ n. Keeps c (history ++ p ∷ []) u n in
      let L : ℕ → Type 0 = λ n. history_weight ask_weight history + n ≤ most_of c.lasting in
      subst I (sym items_are) (subst M (sym same) (keeps_more c history (with_room t) u most p (record { tables = kept; legal = keeps.legal; most_is = keeps.most_is }) shown.0 one own entry shown.1 (subst L weight_is shown.7)))

  pub committed_as : (s : Providing) → ◌≡◌ {A = Providing} (record { registry = c; history = history; tables = t }) s → (most now : ℕ) → now ≡ most → Keeps c history t most → IsEntry IsOpAsk p.entry → weight ≡ ask_weight p.entry.ask
      → items ≡ history ++ p ∷ [] → Follows → Shown s → Keeps c items u now
  committed_as s view most now same keeps entry weight_is items_are follows shown =
      let S : Providing → Type 0 = λ x. Shown x in
      committed most now same keeps entry weight_is items_are follows (subst S (sym view) shown)

-- there is room in the journal, whose limit is that of the configuration
pub room_inside : (s : Providing) (c : Configuration) (history : List OpPair) (t : Tables) (weight most : ℕ) → ◌≡◌ {A = Providing} (record { registry = c; history = history; tables = t }) s
    → most ≡ most_of c.lasting → history_weight ask_weight s.history + weight ≤ most_of s.registry.lasting → history_weight ask_weight history + weight ≤ most
room_inside s c history t weight most view limit room =
    let S : Providing → Type 0 = λ x. history_weight ask_weight x.history + weight ≤ most_of x.registry.lasting in
    let N : ℕ → Type 0 = λ n. history_weight ask_weight history + weight ≤ n in
    subst N (sym limit) (subst S (sym view) room)

-- and what the journal says of the room for a request is so of the provider
pub room_outside : (s : Providing) (c : Configuration) (history : List OpPair) (t : Tables) (more most : ℕ) (result : Result ℕ CoreNo)
    → ◌≡◌ {A = Providing} (record { registry = c; history = history; tables = t }) s → most ≡ most_of c.lasting
    → OnOk result (history_weight ask_weight history + more ≤ most) → OnOk result (history_weight ask_weight s.history + more ≤ most_of s.registry.lasting)
room_outside s c history t more most result view limit room =
    let N : ℕ → Type 0 = λ n. OnOk result (history_weight ask_weight history + more ≤ n) in
    let S : Providing → Type 0 = λ x. OnOk result (history_weight ask_weight x.history + more ≤ most_of x.registry.lasting) in
    subst S view (subst N limit room)

pub full_outside : (s : Providing) (c : Configuration) (history : List OpPair) (t : Tables) (more most : ℕ) (result : Result ℕ CoreNo)
    → ◌≡◌ {A = Providing} (record { registry = c; history = history; tables = t }) s → most ≡ most_of c.lasting
    → ReportsFull most result (history_weight ask_weight history) more → ReportsFull (most_of s.registry.lasting) result (history_weight ask_weight s.history) more
full_outside s c history t more most result view limit full =
    let N : ℕ → Type 0 = λ n. ReportsFull n result (history_weight ask_weight history) more in
    let S : Providing → Type 0 = λ x. ReportsFull (most_of x.registry.lasting) result (history_weight ask_weight x.history) more in
    subst S view (subst N limit full)
