-- What is kept when a pair is taken up for which room was reserved.
use Rattle.std.proofs.Common.{◌≡◌, ◌≤◌, ℕ, ◌+◌, List, [], ◌∷◌, ◌++◌, reverse, Option, Result, OnOk, sym, ◌∙◌, subst}
use Rattle.sso_base.specs.Legal.{last_moment, IsEntry}
use Rattle.sso_base.specs.Journal.{most_of, history_weight, ReportsFull}
use Rattle.sso_base.specs.declared.step.CoreNo.{CoreNo}
use Rattle.oidc_words.specs.declared.response_types.Types.{Types}
use Rattle.rp_login.specs.declared.rows.LoginRow.{LoginRow}
use Rattle.rp_login.specs.declared.rows.PendingRow.{PendingRow}
use Rattle.rp_login.specs.declared.rows.SessionRow.{SessionRow}
use Rattle.rp_login.specs.declared.rows.SeenRow.{SeenRow}
use Rattle.rp_login.specs.declared.rows.DeadRow.{DeadRow}
use Rattle.rp_login.specs.Tables.{Tables, with_room}
use Rattle.rp_exchange.specs.Values.{IsRpAsk}
use Rattle.rp_exchange.specs.Weight.{ask_weight}
use Rattle.rp_answer.specs.Past.{RpPair, RpPast}
use Rattle.rp_answer.specs.Setup.{PartySetup, party_of}
use Rattle.rp_answer.specs.Answering.{rp_answer}
use Rattle.rp_answer.proofs.FewDeads.{few_deads}
use Rattle.sso_base.proofs.Histories.{longer_is_legal, past_more}
use Rattle.rp_core.specs.Relying.{Relying, past_of}
use Rattle.rp_core.specs.Agreeing.{KeepsPast, Keeps}
use Rattle.rp_core.specs.Making.{MakesRows}
use Rattle.rp_core.specs.Keeping.{MayUpdate, IsUpdate}
use Rattle.rp_core.proofs.Carried.{agrees_carried, is_begun_carried}

-- room changes no row
with_room_keeps : (types : Types) (past : RpPast) (t : Tables) → KeepsPast types past t → KeepsPast types past (with_room t)
with_room_keeps types past t k =
    record {
      agrees = record { logins = k.agrees.logins; pendings = k.agrees.pendings; visits = k.agrees.visits; seens = k.agrees.seens; deads = k.agrees.deads };
      begun = record { logins = k.begun.logins; pendings = k.begun.pendings; visits = k.begun.visits; seens = k.begun.seens; deads = k.begun.deads };
    }

-- what is known before the tables are updated is what an update requires
module _ (s : PartySetup) (history : List RpPair) (t : Tables) (p : RpPair) (login : Option LoginRow) (pending : Option PendingRow) (visit : Option SessionRow) (seen : Option SeenRow) (dead : Option DeadRow) where
  abbrev pub MayFollow : Relying → Type 0
  MayFollow r =
      (last_moment (past_of r) ≤ p.entry.at)
      × (p.reply ≡ rp_answer r.setup (past_of r) p.entry)
      × MakesRows (party_of r.setup).types (past_of r) p login pending visit seen dead

  may_update : (most : ℕ) → Keeps s history t most → IsEntry IsRpAsk p.entry → MayFollow (record { setup = s; history = history; tables = t })
      → MayUpdate s (reverse history) (last_moment (reverse history)) (with_room t) p login pending visit seen dead
  may_update most keeps entry shown =
      let past : RpPast = reverse history in
      let kept : KeepsPast (party_of s).types past (with_room t) = with_room_keeps (party_of s).types past t keeps.tables in
      record { order = shown.0; agrees = kept.agrees; begun = kept.begun; reply_is = shown.1; rows = shown.2; few = few_deads s past p (keeps.legal.past, entry, shown.0, shown.1) }

  pub may_update_as : (r : Relying) → ◌≡◌ {A = Relying} (record { setup = s; history = history; tables = t }) r → (most : ℕ) → Keeps s history t most → IsEntry IsRpAsk p.entry → MayFollow r
      → (d : PartySetup) × (past : RpPast) × (before : ℕ) × MayUpdate d past before (with_room t) p login pending visit seen dead
  may_update_as r view most keeps entry shown =
      let S : Relying → Type 0 = λ x. MayFollow x in
      (s, reverse history, last_moment (reverse history), may_update most keeps entry (subst S (sym view) shown))

module _ (s : PartySetup) (history items : List RpPair) (more : ℕ) (t u : Tables) (p : RpPair) (login : Option LoginRow) (pending : Option PendingRow) (visit : Option SessionRow) (seen : Option SeenRow) (dead : Option DeadRow) where
  -- what the step has shown when it takes the pair up, of the party as a value
  abbrev pub Shown : Relying → Type 0
  Shown r =
      (last_moment (past_of r) ≤ p.entry.at)
      × (p.reply ≡ rp_answer r.setup (past_of r) p.entry)
      × MakesRows (party_of r.setup).types (past_of r) p login pending visit seen dead
      × (history_weight ask_weight r.history + more ≤ most_of r.setup.configuration.lasting)

  abbrev pub Follows : Type 0
  Follows = (d : PartySetup) (past : RpPast) (before : ℕ) → MayUpdate d past before (with_room t) p login pending visit seen dead → IsUpdate (party_of d).types (with_room t) u past p

  committed : (most now : ℕ) → now ≡ most → Keeps s history t most → IsEntry IsRpAsk p.entry → more ≡ ask_weight p.entry.ask → items ≡ history ++ p ∷ [] → Follows
      → Shown (record { setup = s; history = history; tables = t }) → Keeps s items u now
  committed most now same keeps entry more_is items_are follows shown =
      let past : RpPast = reverse history in
      let kept : KeepsPast (party_of s).types past (with_room t) = with_room_keeps (party_of s).types past t keeps.tables in
      let up : MayUpdate s past (last_moment past) (with_room t) p login pending visit seen dead =
      may_update s history t p login pending visit seen dead most keeps entry (shown.0, shown.1, shown.2) in
      let one : IsUpdate (party_of s).types (with_room t) u past p = follows s past (last_moment past) up in
      let K : RpPast → Type 0 = λ q. KeepsPast (party_of s).types q u in
      let I : List RpPair → Type 0 = λ x. Keeps s x u now in
      let W : ℕ → Type 0 = λ n. history_weight ask_weight history + n ≤ most_of s.configuration.lasting in
      let all : Keeps s (history ++ p ∷ []) u now = record {
        tables = (subst K (sym (past_more history p)) (record {
          agrees = agrees_carried (party_of s).types (with_room t) u past p (last_moment past) shown.0 kept.agrees one;
          begun = is_begun_carried (party_of s).types (with_room t) u past p (last_moment past) shown.0 kept.begun one;
        }));
        legal = longer_is_legal IsRpAsk (rp_answer s) ask_weight (most_of s.configuration.lasting) history p keeps.legal entry shown.0 shown.1 (subst W more_is shown.3);
        most_is = same ∙ keeps.most_is;
      } in
      subst I (sym items_are) all

  pub committed_as : (r : Relying) → ◌≡◌ {A = Relying} (record { setup = s; history = history; tables = t }) r → (most now : ℕ) → now ≡ most → Keeps s history t most → IsEntry IsRpAsk p.entry → more ≡ ask_weight p.entry.ask
      → items ≡ history ++ p ∷ [] → Follows → Shown r → Keeps s items u now
  committed_as r view most now same keeps entry more_is items_are follows shown =
      let S : Relying → Type 0 = λ x. Shown x in
      committed most now same keeps entry more_is items_are follows (subst S (sym view) shown)

-- there is room in the journal, whose limit is that of the configuration
pub room_inside : (r : Relying) (s : PartySetup) (history : List RpPair) (t : Tables) (weight most : ℕ) → ◌≡◌ {A = Relying} (record { setup = s; history = history; tables = t }) r
    → most ≡ most_of s.configuration.lasting → history_weight ask_weight r.history + weight ≤ most_of r.setup.configuration.lasting → history_weight ask_weight history + weight ≤ most
room_inside r s history t weight most view limit room =
    let S : Relying → Type 0 = λ x. history_weight ask_weight x.history + weight ≤ most_of x.setup.configuration.lasting in
    let N : ℕ → Type 0 = λ n. history_weight ask_weight history + weight ≤ n in
    subst N (sym limit) (subst S (sym view) room)

-- and what the journal says of the room for a request is so of the party
pub room_outside : (r : Relying) (s : PartySetup) (history : List RpPair) (t : Tables) (more most : ℕ) (result : Result ℕ CoreNo)
    → ◌≡◌ {A = Relying} (record { setup = s; history = history; tables = t }) r → most ≡ most_of s.configuration.lasting
    → OnOk result (history_weight ask_weight history + more ≤ most) → OnOk result (history_weight ask_weight r.history + more ≤ most_of r.setup.configuration.lasting)
room_outside r s history t more most result view limit room =
    let N : ℕ → Type 0 = λ n. OnOk result (history_weight ask_weight history + more ≤ n) in
    let S : Relying → Type 0 = λ x. OnOk result (history_weight ask_weight x.history + more ≤ most_of x.setup.configuration.lasting) in
    subst S view (subst N limit room)

pub full_outside : (r : Relying) (s : PartySetup) (history : List RpPair) (t : Tables) (more most : ℕ) (result : Result ℕ CoreNo)
    → ◌≡◌ {A = Relying} (record { setup = s; history = history; tables = t }) r → most ≡ most_of s.configuration.lasting
    → ReportsFull most result (history_weight ask_weight history) more → ReportsFull (most_of r.setup.configuration.lasting) result (history_weight ask_weight r.history) more
full_outside r s history t more most result view limit full =
    let N : ℕ → Type 0 = λ n. ReportsFull n result (history_weight ask_weight history) more in
    let S : Relying → Type 0 = λ x. ReportsFull (most_of x.setup.configuration.lasting) result (history_weight ask_weight x.history) more in
    subst S view (subst N limit full)
