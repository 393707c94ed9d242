-- What a step updates: its calls may be made, and after them the tables are those after the pair.
use Rattle.std.proofs.Common.{◌≡◌, ◌≤◌, ◌<◌, ℕ, Bool, true, false, nat_le, List, length, filter_map, Option, Some, None, Ok, IfSome, refl, sym, ◌∙◌, ap, subst, arith}
use Rattle.sso_base.specs.Words.{Word}
use Rattle.sso_base.specs.Rows.{without, put, live_rows}
use Rattle.sso_base.proofs.RowLaws.{row_of-without_same}
use Rattle.rp_login.specs.declared.rows.LoginRow.{LoginRow}
use Rattle.rp_login.specs.declared.rows.PendingRow.{PendingRow}
use Rattle.rp_login.specs.declared.rows.SessionRow.{SessionRow}
use Rattle.rp_login.specs.declared.rows.SeenRow.{SeenRow}
use Rattle.rp_login.specs.declared.rows.DeadRow.{DeadRow}
use Rattle.rp_login.specs.declared.table.Reserved.{Reserved}
use Rattle.rp_login.specs.Rows.{login_name, login_begun, pending_name, pending_begun, visit_name, visit_begun, seen_name, seen_begun, dead_name, dead_begun}
use Rattle.oidc_words.specs.Lives.{login_life, pending_life, visit_life, seen_life}
use Rattle.held_rows.specs.Held.{most_rows, none_after, is_full, MayAddRow}
use Rattle.rp_login.specs.Tables.{Tables, purged}
use Rattle.rp_exchange.specs.declared.ask.RpAsk.{RpAsk}
use Rattle.rp_exchange.specs.declared.ask.RpAsk.TheVariants as ask
use Rattle.rp_exchange.specs.declared.reply.RpReply.{RpReply}
use Rattle.rp_exchange.specs.declared.reply.RpReply.TheVariants as reply
use Rattle.rp_exchange.specs.Asks.{is_prepared}
use Rattle.rp_answer.specs.Past.{RpPair, RpPast}
use Rattle.rp_answer.specs.Setup.{PartySetup, party_of}
use Rattle.rp_answer.specs.Logins.{logins, login_made, login_kept}
use Rattle.rp_answer.specs.Pendings.{pendings, pending_made, pending_kept}
use Rattle.rp_answer.specs.Visits.{visits, visit_made, visit_kept}
use Rattle.rp_answer.specs.Seens.{seens, seen_made, seen_kept, live_seens}
use Rattle.rp_answer.specs.Deads.{deads, dead_made, dead_kept, live_deads}
use Rattle.rp_answer.specs.Asked.{token_accepted}
use Rattle.rp_answer.specs.Answering.{rp_answer}
use Rattle.rp_answer.specs.Causes.{is_own}
use Rattle.rp_answer.proofs.Stood.{own_replies_stand}
use Rattle.rp_answer.proofs.KeptNames.{login_names, visit_names, seen_names}
use Rattle.rp_answer.proofs.FewDeads.{fewer}
use Rattle.held_rows.proofs.Kept.{all_kept, all_without, put_pushes}
use Rattle.held_rows.proofs.Added.{MayAdd, may_add, few_there, unnamed_there, kept_short, kept_latest}
use Rattle.held_rows.proofs.Found.{same_later}
use Rattle.rp_core.specs.Keeping.{MayUpdate, IsUpdate, NamesSomebody, login_put, pending_put, visit_put, seen_put, dead_put}
use Rattle.rp_core.proofs.Carried.{login_begun_kept, pending_begun_kept, visit_begun_kept, seen_begun_kept, dead_begun_kept, login_made_begun, pending_made_begun, visit_made_begun, seen_made_begun, dead_made_begun}
use Rattle.rp_core.proofs.KeptTables.{with_logins, with_pendings, with_visits}
use Rattle.rp_core.proofs.RoomFor.{login_fits, pending_fits, visit_fits, seen_fits, dead_fits}

-- ---- a row that may be added is put

abbrev pub all_reserved : Reserved
all_reserved = record { logins = true; pendings = true; visits = true; seens = true; deads = true }

-- what holds of a row, if there is one
if_made : {R : Type 0} (P : R → Type 0) (m : Option R) → ((r : R) → m ≡ Some r → P r) → IfSome m P
if_made P None h = tt
if_made P (Some r) h = h r refl

may_row : {R : Type 0} (name : R → Word) (begun : R → ℕ) (reserved : Bool) (rows : List R) (row : R) → reserved ≡ true → MayAdd most_rows name begun rows row → MayAddRow name begun reserved rows row
may_row name begun reserved rows row room may = record { room = room; few = may.few; unnamed = may.unnamed; latest = may.latest }

-- a row that has room among those that the pair keeps of the live rows may be added
may_add_kept : {R : Type 0} (most : ℕ) (name : R → Word) (life : ℕ) (begun : R → ℕ) (k : R → Option R) (before at : ℕ) → before ≤ at → (held : List R) → ((r s : R) → k r ≡ Some s → begun s ≡ begun r)
    → none_after begun before held ≡ true → (rows : List R) → live_rows life begun before held ≡ live_rows life begun before rows → (row : R) → begun row ≡ at
    → is_full most name (name row) (filter_map k (live_rows life begun at rows)) ≡ false → MayAdd most name begun (filter_map k (live_rows life begun at held)) row
may_add_kept {R} most name life begun k before at order held same low rows agrees row now room =
    let F : List R → Type 0 = λ xs. is_full most name (name row) (filter_map k xs) ≡ false in
    let kept : List R = filter_map k (live_rows life begun at held) in
    let here : is_full most name (name row) kept ≡ false = subst F (sym (same_later name life begun before at order held rows agrees)) room in
    record { few = few_there most name (name row) kept here; unnamed = unnamed_there most name (name row) kept here; latest = kept_latest most name life begun k before at order held same low row now }

-- a session identifier may be added when its earlier record has gone, where fewer live than the table may hold
may_add_ended : (k : DeadRow → Option DeadRow) (before at : ℕ) → before ≤ at → (held : List DeadRow) → ((r s : DeadRow) → k r ≡ Some s → dead_begun s ≡ dead_begun r)
    → none_after dead_begun before held ≡ true → (rows : List DeadRow) → live_rows seen_life dead_begun before held ≡ live_rows seen_life dead_begun before rows → (row : DeadRow) → dead_begun row ≡ at
    → length (live_rows seen_life dead_begun at rows) < most_rows
    → MayAdd most_rows dead_name dead_begun (without dead_name row.sid (filter_map k (live_rows seen_life dead_begun at held))) row
may_add_ended k before at order held same low rows agrees row now room =
    let live : List DeadRow = live_rows seen_life dead_begun at held in
    let kept : List DeadRow = filter_map k live in
    let as_many : length live ≡ length (live_rows seen_life dead_begun at rows) = ap length (same_later dead_name seen_life dead_begun before at order held rows agrees) in
    let short : length kept ≤ length live = kept_short k live in
    let less : length (without dead_name row.sid kept) ≤ length kept = fewer dead_name row.sid kept in
    record {
      few = omega (arith, as_many, short, less, room);
      unnamed = row_of-without_same dead_name row.sid kept;
      latest = all_without (λ (r : DeadRow). nat_le (dead_begun r) (dead_begun row)) dead_name row.sid kept (kept_latest most_rows dead_name seen_life dead_begun k before at order held same low row now);
    }

logins_put : (m : Option LoginRow) (t : Tables) → IfSome m (λ r. MayAddRow login_name login_begun t.reserved.logins t.logins r) → (login_put m t).logins ≡ put login_name m t.logins
logins_put None t may = refl
logins_put (Some row) t may = put_pushes login_name row t.logins may.unnamed

pendings_put : (m : Option PendingRow) (t : Tables) → IfSome m (λ r. MayAddRow pending_name pending_begun t.reserved.pendings t.pendings r) → (pending_put m t).pendings ≡ put pending_name m t.pendings
pendings_put None t may = refl
pendings_put (Some row) t may = put_pushes pending_name row t.pendings may.unnamed

visits_put : (m : Option SessionRow) (t : Tables) → IfSome m (λ r. MayAddRow visit_name visit_begun t.reserved.visits t.visits r) → (visit_put m t).visits ≡ put visit_name m t.visits
visits_put None t may = refl
visits_put (Some row) t may = put_pushes visit_name row t.visits may.unnamed

seens_put : (m : Option SeenRow) (t : Tables) → IfSome m (λ r. MayAddRow seen_name seen_begun t.reserved.seens t.seens r) → (seen_put m t).seens ≡ put seen_name m t.seens
seens_put None t may = refl
seens_put (Some row) t may = put_pushes seen_name row t.seens may.unnamed

deads_put : (m : Option DeadRow) (t : Tables) → (dead_put m t).deads ≡ put dead_name m t.deads
deads_put None t = refl
deads_put (Some row) t = refl

-- what putting one kind leaves of the others
record Leaves (t u : Tables) : Type 0 where
  pub pendings : u.pendings ≡ t.pendings
  pub visits : u.visits ≡ t.visits
  pub seens : u.seens ≡ t.seens
  pub deads : u.deads ≡ t.deads
  pub reserved_pendings : u.reserved.pendings ≡ t.reserved.pendings
  pub reserved_visits : u.reserved.visits ≡ t.reserved.visits
  pub reserved_seens : u.reserved.seens ≡ t.reserved.seens
  pub reserved_deads : u.reserved.deads ≡ t.reserved.deads

login_leaves : (m : Option LoginRow) (t : Tables) → Leaves t (login_put m t)
login_leaves None t = record { pendings = refl; visits = refl; seens = refl; deads = refl; reserved_pendings = refl; reserved_visits = refl; reserved_seens = refl; reserved_deads = refl }
login_leaves (Some row) t = record { pendings = refl; visits = refl; seens = refl; deads = refl; reserved_pendings = refl; reserved_visits = refl; reserved_seens = refl; reserved_deads = refl }

record LeavesMore (t u : Tables) : Type 0 where
  pub logins : u.logins ≡ t.logins
  pub visits : u.visits ≡ t.visits
  pub seens : u.seens ≡ t.seens
  pub deads : u.deads ≡ t.deads
  pub reserved_visits : u.reserved.visits ≡ t.reserved.visits
  pub reserved_seens : u.reserved.seens ≡ t.reserved.seens
  pub reserved_deads : u.reserved.deads ≡ t.reserved.deads

pending_leaves : (m : Option PendingRow) (t : Tables) → LeavesMore t (pending_put m t)
pending_leaves None t = record { logins = refl; visits = refl; seens = refl; deads = refl; reserved_visits = refl; reserved_seens = refl; reserved_deads = refl }
pending_leaves (Some row) t = record { logins = refl; visits = refl; seens = refl; deads = refl; reserved_visits = refl; reserved_seens = refl; reserved_deads = refl }

record LeavesRest (t u : Tables) : Type 0 where
  pub logins : u.logins ≡ t.logins
  pub pendings : u.pendings ≡ t.pendings
  pub seens : u.seens ≡ t.seens
  pub deads : u.deads ≡ t.deads
  pub reserved_seens : u.reserved.seens ≡ t.reserved.seens
  pub reserved_deads : u.reserved.deads ≡ t.reserved.deads

visit_leaves : (m : Option SessionRow) (t : Tables) → LeavesRest t (visit_put m t)
visit_leaves None t = record { logins = refl; pendings = refl; seens = refl; deads = refl; reserved_seens = refl; reserved_deads = refl }
visit_leaves (Some row) t = record { logins = refl; pendings = refl; seens = refl; deads = refl; reserved_seens = refl; reserved_deads = refl }

record LeavesAll (t u : Tables) : Type 0 where
  pub logins : u.logins ≡ t.logins
  pub pendings : u.pendings ≡ t.pendings
  pub visits : u.visits ≡ t.visits
  pub deads : u.deads ≡ t.deads
  pub reserved_deads : u.reserved.deads ≡ t.reserved.deads

seen_leaves : (m : Option SeenRow) (t : Tables) → LeavesAll t (seen_put m t)
seen_leaves None t = record { logins = refl; pendings = refl; visits = refl; deads = refl; reserved_deads = refl }
seen_leaves (Some row) t = record { logins = refl; pendings = refl; visits = refl; deads = refl; reserved_deads = refl }

record LeavesOld (t u : Tables) : Type 0 where
  pub logins : u.logins ≡ t.logins
  pub pendings : u.pendings ≡ t.pendings
  pub visits : u.visits ≡ t.visits
  pub seens : u.seens ≡ t.seens

dead_leaves : (m : Option DeadRow) (t : Tables) → LeavesOld t (dead_put m t)
dead_leaves None t = record { logins = refl; pendings = refl; visits = refl; seens = refl }
dead_leaves (Some row) t = record { logins = refl; pendings = refl; visits = refl; seens = refl }

-- ---- the tables before the rows are put

pub record IsKept (t v : Tables) (past : RpPast) (p : RpPair) : Type 0 where
  pub logins : v.logins ≡ filter_map (login_kept past p) (live_rows login_life login_begun p.entry.at t.logins)
  pub pendings : v.pendings ≡ filter_map (pending_kept past p) (live_rows pending_life pending_begun p.entry.at t.pendings)
  pub visits : v.visits ≡ filter_map (visit_kept past p) (live_rows visit_life visit_begun p.entry.at t.visits)
  pub seens : v.seens ≡ filter_map (seen_kept past p) (live_rows seen_life seen_begun p.entry.at t.seens)
  pub deads : v.deads ≡ filter_map (dead_kept past p) (live_rows seen_life dead_begun p.entry.at t.deads)
  pub reserved : v.reserved ≡ t.reserved

module _ (past : RpPast) (p : RpPair) (t a b d v : Tables) (purge : a ≡ purged p.entry.at t) (one : b ≡ with_logins past p a (filter_map (login_kept past p) a.logins)) (two : d ≡ with_pendings past p b (filter_map (pending_kept past p) b.pendings))
    (three : v ≡ with_visits past p d (filter_map (visit_kept past p) d.visits)) where
  pub calls_keep : IsKept t v past p
  calls_keep =
      let L : Tables → List LoginRow = λ x. x.logins in
      let P : Tables → List PendingRow = λ x. x.pendings in
      let V : Tables → List SessionRow = λ x. x.visits in
      let S : Tables → List SeenRow = λ x. x.seens in
      let D : Tables → List DeadRow = λ x. x.deads in
      let R : Tables → Reserved = λ x. x.reserved in
      let FL : Tables → List LoginRow = λ x. filter_map (login_kept past p) x.logins in
      let FP : Tables → List PendingRow = λ x. filter_map (pending_kept past p) x.pendings in
      let FV : Tables → List SessionRow = λ x. filter_map (visit_kept past p) x.visits in
      record {
        logins = ap L three ∙ ap L two ∙ ap L one ∙ ap FL purge;
        pendings = ap P three ∙ ap P two ∙ ap FP one ∙ ap FP purge;
        visits = ap V three ∙ ap FV two ∙ ap FV one ∙ ap FV purge;
        seens = ap S three ∙ ap S two ∙ ap S one ∙ ap S purge ∙ sym (all_kept (seen_kept past p) (live_rows seen_life seen_begun p.entry.at t.seens) (λ row. refl));
        deads = ap D three ∙ ap D two ∙ ap D one ∙ ap D purge ∙ sym (all_kept (dead_kept past p) (live_rows seen_life dead_begun p.entry.at t.deads) (λ row. refl));
        reserved = ap R three ∙ ap R two ∙ ap R one ∙ ap R purge;
      }

-- ---- the rows may be added, and then the tables are those after the pair

module _ {s : PartySetup} {past : RpPast} {before : ℕ} {t : Tables} {p : RpPair} {login : Option LoginRow} {pending : Option PendingRow} {visit : Option SessionRow} {seen : Option SeenRow} {dead : Option DeadRow} (up : MayUpdate s past before t p login pending visit seen dead) {v : Tables} (kept : IsKept t v past p) (reserved : t.reserved ≡ all_reserved) where
  pub login_may : IfSome login (λ r. MayAddRow login_name login_begun v.reserved.logins v.logins r)
  login_may =
      if_made (λ r. MayAddRow login_name login_begun v.reserved.logins v.logins r) login (λ row is.
      let made : login_made (logins past) past p ≡ Some row = sym up.rows.login_is ∙ is in
      let R : Reserved → Bool = λ x. x.logins in
      let M : List LoginRow → Type 0 = λ xs. MayAdd most_rows login_name login_begun xs row in
      may_row login_name login_begun v.reserved.logins v.logins row (ap R (kept.reserved ∙ reserved))
      (subst M (sym kept.logins)
      (may_add most_rows login_name login_life login_begun (login_kept past p) before p.entry.at up.order t.logins (login_names past p) (login_begun_kept past p) up.begun.logins (logins past) up.agrees.logins row
      (login_made_begun (logins past) past p row made) (login_fits s past p.entry (length past) p.entry.ask p.reply row up.reply_is made))))

  pub pending_may_before : IfSome pending (λ r. MayAddRow pending_name pending_begun v.reserved.pendings v.pendings r)
  pending_may_before =
      if_made (λ r. MayAddRow pending_name pending_begun v.reserved.pendings v.pendings r) pending (λ row is.
      let made : pending_made (party_of s).types (pendings (party_of s).types past) past p ≡ Some row = sym up.rows.pending_is ∙ is in
      let R : Reserved → Bool = λ x. x.pendings in
      let M : List PendingRow → Type 0 = λ xs. MayAdd most_rows pending_name pending_begun xs row in
      may_row pending_name pending_begun v.reserved.pendings v.pendings row (ap R (kept.reserved ∙ reserved))
      (subst M (sym kept.pendings)
      (may_add_kept most_rows pending_name pending_life pending_begun (pending_kept past p) before p.entry.at up.order t.pendings (pending_begun_kept past p) up.begun.pendings
      (pendings (party_of s).types past) up.agrees.pendings row
      (pending_made_begun (party_of s).types (pendings (party_of s).types past) past p row made) (pending_fits s past p up.reply_is row made))))

  pub visit_may_before : IfSome visit (λ r. MayAddRow visit_name visit_begun v.reserved.visits v.visits r)
  visit_may_before =
      if_made (λ r. MayAddRow visit_name visit_begun v.reserved.visits v.visits r) visit (λ row is.
      let made : visit_made (party_of s).types (visits (party_of s).types past) past p ≡ Some row = sym up.rows.visit_is ∙ is in
      let R : Reserved → Bool = λ x. x.visits in
      let M : List SessionRow → Type 0 = λ xs. MayAdd most_rows visit_name visit_begun xs row in
      may_row visit_name visit_begun v.reserved.visits v.visits row (ap R (kept.reserved ∙ reserved))
      (subst M (sym kept.visits)
      (may_add most_rows visit_name visit_life visit_begun (visit_kept past p) before p.entry.at up.order t.visits (visit_names past p) (visit_begun_kept past p) up.begun.visits
      (visits (party_of s).types past) up.agrees.visits row
      (visit_made_begun (party_of s).types (visits (party_of s).types past) past p row made) (visit_fits s past p.entry p.entry.ask p.reply row up.reply_is made))))

  pub seen_may_before : IfSome seen (λ r. MayAddRow seen_name seen_begun v.reserved.seens v.seens r)
  seen_may_before =
      if_made (λ r. MayAddRow seen_name seen_begun v.reserved.seens v.seens r) seen (λ row is.
      let made : seen_made (seens past) past p ≡ Some row = sym up.rows.seen_is ∙ is in
      let R : Reserved → Bool = λ x. x.seens in
      let M : List SeenRow → Type 0 = λ xs. MayAdd most_rows seen_name seen_begun xs row in
      may_row seen_name seen_begun v.reserved.seens v.seens row (ap R (kept.reserved ∙ reserved))
      (subst M (sym kept.seens)
      (may_add most_rows seen_name seen_life seen_begun (seen_kept past p) before p.entry.at up.order t.seens (seen_names past p) (seen_begun_kept past p) up.begun.seens
      (seens past) up.agrees.seens row
      (seen_made_begun (seens past) past p row made) (seen_fits s past p.entry (length past) p.entry.ask p.reply row refl up.reply_is made))))

  pub dead_may_before : IfSome dead (λ r. MayAddRow dead_name dead_begun v.reserved.deads (without dead_name r.sid v.deads) r)
  dead_may_before =
      if_made (λ r. MayAddRow dead_name dead_begun v.reserved.deads (without dead_name r.sid v.deads) r) dead (λ row is.
      let made : dead_made (deads past) past p ≡ Some row = sym up.rows.dead_is ∙ is in
      let R : Reserved → Bool = λ x. x.deads in
      let M : List DeadRow → Type 0 = λ xs. MayAdd most_rows dead_name dead_begun (without dead_name row.sid xs) row in
      let few : length (live_deads past p.entry.at) ≤ length (live_seens past p.entry.at) = up.few in
      let fits : length (live_seens past p.entry.at) < most_rows = dead_fits s past p.entry (length past) p.entry.ask p.reply row refl up.reply_is made in
      may_row dead_name dead_begun v.reserved.deads (without dead_name row.sid v.deads) row (ap R (kept.reserved ∙ reserved))
      (subst M (sym kept.deads)
      (may_add_ended (dead_kept past p) before p.entry.at up.order t.deads (dead_begun_kept past p) up.begun.deads
      (deads past) up.agrees.deads row
      (dead_made_begun (deads past) past p row made) (omega (arith, few, fits)))))

  module _ {w : Tables} (first : w ≡ login_put login v) where
    pub pending_may : IfSome pending (λ r. MayAddRow pending_name pending_begun w.reserved.pendings w.pendings r)
    pending_may =
        let N : Bool → Type 0 = λ b. IfSome pending (λ r. MayAddRow pending_name pending_begun b w.pendings r) in
        let M : List PendingRow → Type 0 = λ xs. IfSome pending (λ r. MayAddRow pending_name pending_begun v.reserved.pendings xs r) in
        let P : Tables → List PendingRow = λ x. x.pendings in
        let R : Tables → Bool = λ x. x.reserved.pendings in
        subst N (sym (ap R first ∙ (login_leaves login v).reserved_pendings)) (subst M (sym (ap P first ∙ (login_leaves login v).pendings)) pending_may_before)

    module _ {x : Tables} (next : x ≡ pending_put pending w) where
      same_visits : x.visits ≡ v.visits
      same_visits = let V : Tables → List SessionRow = λ y. y.visits in ap V next ∙ (pending_leaves pending w).visits ∙ ap V first ∙ (login_leaves login v).visits

      pub visit_may : IfSome visit (λ r. MayAddRow visit_name visit_begun x.reserved.visits x.visits r)
      visit_may =
          let N : Bool → Type 0 = λ b. IfSome visit (λ r. MayAddRow visit_name visit_begun b x.visits r) in
          let M : List SessionRow → Type 0 = λ xs. IfSome visit (λ r. MayAddRow visit_name visit_begun v.reserved.visits xs r) in
          let R : Tables → Bool = λ y. y.reserved.visits in
          subst N (sym (ap R next ∙ (pending_leaves pending w).reserved_visits ∙ ap R first ∙ (login_leaves login v).reserved_visits)) (subst M (sym same_visits) visit_may_before)

      module _ {y : Tables} (then_seen : y ≡ visit_put visit x) where
        same_seens : y.seens ≡ v.seens
        same_seens = let S : Tables → List SeenRow = λ z. z.seens in ap S then_seen ∙ (visit_leaves visit x).seens ∙ ap S next ∙ (pending_leaves pending w).seens ∙ ap S first ∙ (login_leaves login v).seens

        pub seen_may : IfSome seen (λ r. MayAddRow seen_name seen_begun y.reserved.seens y.seens r)
        seen_may =
            let N : Bool → Type 0 = λ b. IfSome seen (λ r. MayAddRow seen_name seen_begun b y.seens r) in
            let M : List SeenRow → Type 0 = λ xs. IfSome seen (λ r. MayAddRow seen_name seen_begun v.reserved.seens xs r) in
            let R : Tables → Bool = λ z. z.reserved.seens in
            let same : y.reserved.seens ≡ v.reserved.seens =
            ap R then_seen ∙ (visit_leaves visit x).reserved_seens ∙ ap R next ∙ (pending_leaves pending w).reserved_seens ∙ ap R first ∙ (login_leaves login v).reserved_seens in
            subst N (sym same) (subst M (sym same_seens) seen_may_before)

        module _ {z : Tables} (then_dead : z ≡ seen_put seen y) where
          same_deads : z.deads ≡ v.deads
          same_deads =
              let D : Tables → List DeadRow = λ k. k.deads in
              ap D then_dead ∙ (seen_leaves seen y).deads ∙ ap D then_seen ∙ (visit_leaves visit x).deads ∙ ap D next ∙ (pending_leaves pending w).deads ∙ ap D first ∙ (login_leaves login v).deads

          pub dead_may : IfSome dead (λ r. MayAddRow dead_name dead_begun z.reserved.deads (without dead_name r.sid z.deads) r)
          dead_may =
              let N : Bool → Type 0 = λ b. IfSome dead (λ r. MayAddRow dead_name dead_begun b (without dead_name r.sid z.deads) r) in
              let M : List DeadRow → Type 0 = λ xs. IfSome dead (λ r. MayAddRow dead_name dead_begun v.reserved.deads (without dead_name r.sid xs) r) in
              let R : Tables → Bool = λ k. k.reserved.deads in
              let same : z.reserved.deads ≡ v.reserved.deads =
              ap R then_dead ∙ (seen_leaves seen y).reserved_deads ∙ ap R then_seen ∙ (visit_leaves visit x).reserved_deads ∙ ap R next ∙ (pending_leaves pending w).reserved_deads ∙ ap R first ∙ (login_leaves login v).reserved_deads in
              subst N (sym same) (subst M (sym same_deads) dead_may_before)

          pub follows : (u : Tables) → u ≡ dead_put dead z → IsUpdate (party_of s).types t u past p
          follows u last =
              let L : Tables → List LoginRow = λ k. k.logins in
              let P : Tables → List PendingRow = λ k. k.pendings in
              let V : Tables → List SessionRow = λ k. k.visits in
              let S : Tables → List SeenRow = λ k. k.seens in
              let D : Tables → List DeadRow = λ k. k.deads in
              let LL : List LoginRow → List LoginRow = λ xs. put login_name login xs in
              let LP : List PendingRow → List PendingRow = λ xs. put pending_name pending xs in
              let LV : List SessionRow → List SessionRow = λ xs. put visit_name visit xs in
              let LS : List SeenRow → List SeenRow = λ xs. put seen_name seen xs in
              let LD : List DeadRow → List DeadRow = λ xs. put dead_name dead xs in
              let HL : Option LoginRow → List LoginRow = λ m. put login_name m (filter_map (login_kept past p) (live_rows login_life login_begun p.entry.at t.logins)) in
              let HP : Option PendingRow → List PendingRow = λ m. put pending_name m (filter_map (pending_kept past p) (live_rows pending_life pending_begun p.entry.at t.pendings)) in
              let HV : Option SessionRow → List SessionRow = λ m. put visit_name m (filter_map (visit_kept past p) (live_rows visit_life visit_begun p.entry.at t.visits)) in
              let HS : Option SeenRow → List SeenRow = λ m. put seen_name m (filter_map (seen_kept past p) (live_rows seen_life seen_begun p.entry.at t.seens)) in
              let HD : Option DeadRow → List DeadRow = λ m. put dead_name m (filter_map (dead_kept past p) (live_rows seen_life dead_begun p.entry.at t.deads)) in
              let more = seen_leaves seen y in
              let old = dead_leaves dead z in
              record {
                logins_are =
                    ap L last ∙ old.logins ∙ ap L then_dead ∙ more.logins ∙ ap L then_seen ∙ (visit_leaves visit x).logins ∙ ap L next ∙ (pending_leaves pending w).logins ∙ ap L first ∙ logins_put login v login_may ∙ ap LL kept.logins
                    ∙ ap HL up.rows.login_is;
                pendings_are =
                    ap P last ∙ old.pendings ∙ ap P then_dead ∙ more.pendings ∙ ap P then_seen ∙ (visit_leaves visit x).pendings ∙ ap P next ∙ pendings_put pending w pending_may ∙ ap LP (ap P first ∙ (login_leaves login v).pendings ∙ kept.pendings)
                    ∙ ap HP up.rows.pending_is;
                visits_are = ap V last ∙ old.visits ∙ ap V then_dead ∙ more.visits ∙ ap V then_seen ∙ visits_put visit x visit_may ∙ ap LV (same_visits ∙ kept.visits) ∙ ap HV up.rows.visit_is;
                seens_are = ap S last ∙ old.seens ∙ ap S then_dead ∙ seens_put seen y seen_may ∙ ap LS (same_seens ∙ kept.seens) ∙ ap HS up.rows.seen_is;
                deads_are = ap D last ∙ deads_put dead z ∙ ap LD (same_deads ∙ kept.deads) ∙ ap HD up.rows.dead_is;
              }

-- ---- an accepted logout token names somebody

names_by : (asked : RpAsk) (told : RpReply) → (is_own told ≡ true → is_prepared asked ≡ true) → IfSome (token_accepted asked told) NamesSomebody
names_by (ask.Logout (Ok claims)) (reply.Ended count) prepared = prepared refl
names_by asked told prepared = tt

pub names_somebody : (s : PartySetup) (past : RpPast) (p : RpPair) → p.reply ≡ rp_answer s past p.entry → IfSome (token_accepted p.entry.ask p.reply) NamesSomebody
names_somebody s past p answered = names_by p.entry.ask p.reply (λ own. (own_replies_stand s past p.entry p.reply own (sym answered)).prepared)
