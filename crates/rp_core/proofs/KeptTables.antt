-- The tables after the calls of a pair hold the rows that its definitions keep.
use Rattle.std.proofs.Common.{◌≡◌, Bool, true, false, not, ◌&&◌, ◌||◌, cond, List, filter_map, Option, Some, None, is_some, option_map, IfSome, refl, sym, ◌∙◌, ap, subst}
use Rattle.std.specs.Str.{bytes_eq}
use Rattle.sso_base.specs.Words.{Word, Text, is_word}
use Rattle.rp_login.specs.declared.rows.LoginRow.{LoginRow}
use Rattle.rp_login.specs.declared.rows.PendingRow.{PendingRow}
use Rattle.rp_login.specs.declared.rows.SessionRow.{SessionRow}
use Rattle.rp_login.specs.declared.rows.Stage.{Stage}
use Rattle.rp_login.specs.Named.{is_meant}
use Rattle.rp_login.specs.Rows.{login_name, visit_name}
use Rattle.rp_login.specs.Tables.{Tables, login_ended, visit_ended, named_ended}
use Rattle.logout_token.specs.declared.claims.LogoutClaims.{LogoutClaims}
use Rattle.rp_exchange.specs.declared.ask.RpAsk.{RpAsk}
use Rattle.rp_exchange.specs.declared.ask.RpAsk.TheVariants as ask
use Rattle.rp_exchange.specs.declared.reply.RpReply.{RpReply}
use Rattle.rp_answer.specs.Past.{RpPair, RpPast}
use Rattle.rp_answer.specs.Asked.{state_named, token_accepted}
use Rattle.rp_answer.specs.Logins.{login_kept, ends_login}
use Rattle.rp_answer.specs.Pendings.{pending_kept, answer_named, is_answered, ends_pending}
use Rattle.rp_answer.specs.Visits.{session_left, is_named, visit_kept}
use Rattle.held_rows.proofs.Kept.{bytes_swap, all_kept, filter_map-same, kept_without, kept_by_test}
use Rattle.rp_core.specs.Keeping.{without_answered, NamesSomebody}
use Rattle.rp_core.proofs.KeptRows.{second, met, unended, unnamed, ended}

-- where the pair is an answer, the exchange that it is to is gone
pub answered_rows : (past : RpPast) (p : RpPair) (named : Word × Stage) → answer_named p.entry.ask ≡ Some named → ends_pending p.reply ≡ true → (rows : List PendingRow)
    → filter_map (pending_kept past p) rows ≡ without_answered named.0 named.1 rows
answered_rows past p named is h rows =
    let B : PendingRow → Bool → Option PendingRow = λ row b. cond b None (Some row) in
    let N : PendingRow → Option (Word × Stage) → Option PendingRow = λ row o. cond (is_answered o row) None (Some row) in
    let R : PendingRow → Option PendingRow = λ row. cond (is_answered (Some named) row) None (Some row) in
    filter_map-same (pending_kept past p) R rows (λ row. ap (B row) (met (is_answered (answer_named p.entry.ask) row) (ends_pending p.reply) h) ∙ ap (N row) is)

-- who leaves accepts no logout token
left_alone : (asked : RpAsk) (told : RpReply) (w : Word) → session_left asked told ≡ Some w → token_accepted asked told ≡ None
left_alone (ask.Leave session) told w h = refl
left_alone asked told w h = cc

or_none : (b : Bool) → (b || false) ≡ b
or_none true = refl
or_none false = refl

turned : (b : Bool) (row : SessionRow) → cond b None (Some row) ≡ cond (not b) (Some row) None
turned true row = refl
turned false row = refl

module _ (past : RpPast) (p : RpPair) (t : Tables) where
  abbrev pub with_logins : List LoginRow → Tables
  with_logins rows = record t { logins = rows }

  abbrev pub with_pendings : List PendingRow → Tables
  with_pendings rows = record t { pendings = rows }

  pub logins_unended : ends_login p.reply ≡ false → t ≡ with_logins (filter_map (login_kept past p) t.logins)
  logins_unended h = ap with_logins (sym (unended login_name (state_named p.entry.ask) (ends_login p.reply) h t.logins))

  pub logins_unnamed : state_named p.entry.ask ≡ None → t ≡ with_logins (filter_map (login_kept past p) t.logins)
  logins_unnamed h = ap with_logins (sym (unnamed login_name (state_named p.entry.ask) (ends_login p.reply) h t.logins))

  pub logins_ended : (w : Word) → state_named p.entry.ask ≡ Some w → ends_login p.reply ≡ true → login_ended w t ≡ with_logins (filter_map (login_kept past p) t.logins)
  logins_ended w is h = ap with_logins (sym (ended login_name (state_named p.entry.ask) (ends_login p.reply) w is h t.logins))

  -- the rule by which the pair keeps an exchange, by what it names and whether it ends that
  abbrev by_answer : Option (Word × Stage) → Bool → PendingRow → Option PendingRow
  by_answer named ends row = cond (is_answered named row && ends) None (Some row)

  pub pendings_unended : ends_pending p.reply ≡ false → t ≡ with_pendings (filter_map (pending_kept past p) t.pendings)
  pendings_unended h =
      let B : PendingRow → Bool → Option PendingRow = λ row b. cond b None (Some row) in
      ap with_pendings (sym (all_kept (pending_kept past p) t.pendings (λ row. ap (B row) (second (is_answered (answer_named p.entry.ask) row) (ends_pending p.reply) h))))

  pub pendings_unnamed : answer_named p.entry.ask ≡ None → t ≡ with_pendings (filter_map (pending_kept past p) t.pendings)
  pendings_unnamed h =
      let N : PendingRow → Option (Word × Stage) → Option PendingRow = λ row o. by_answer o (ends_pending p.reply) row in
      ap with_pendings (sym (all_kept (pending_kept past p) t.pendings (λ row. ap (N row) h)))

  pub pendings_answered : (named : Word × Stage) → answer_named p.entry.ask ≡ Some named → ends_pending p.reply ≡ true
      → with_pendings (without_answered named.0 named.1 t.pendings) ≡ with_pendings (filter_map (pending_kept past p) t.pendings)
  pendings_answered named is h = ap with_pendings (sym (answered_rows past p named is h t.pendings))

  abbrev pub with_visits : List SessionRow → Tables
  with_visits rows = record t { visits = rows }

  -- the rule by which the pair keeps a session, by what it leaves and what it accepts
  abbrev by_both : Option Word → Option LogoutClaims → SessionRow → Option SessionRow
  by_both left accepted row = cond (is_word left row.word || is_named accepted row) None (Some row)

  abbrev left_by : Option Word
  left_by = session_left p.entry.ask p.reply

  abbrev accepted_by : Option LogoutClaims
  accepted_by = token_accepted p.entry.ask p.reply

  ruled : (left : Option Word) (accepted : Option LogoutClaims) → left_by ≡ left → accepted_by ≡ accepted → (row : SessionRow) → visit_kept past p row ≡ by_both left accepted row
  ruled left accepted one two row =
      let L : Option Word → Option SessionRow = λ o. by_both o accepted_by row in
      let A : Option LogoutClaims → Option SessionRow = λ o. by_both left o row in
      ap L one ∙ ap A two

  pub visits_left : (w : Word) → left_by ≡ Some w → visit_ended w t ≡ with_visits (filter_map (visit_kept past p) t.visits)
  visits_left w is =
      let B : SessionRow → Bool → Option SessionRow = λ row b. cond b None (Some row) in
      ap with_visits (sym (kept_without visit_name w (visit_kept past p) t.visits
      (λ row. ruled (Some w) None is (left_alone p.entry.ask p.reply w is) row ∙ ap (B row) (or_none (bytes_eq w row.word) ∙ bytes_swap w row.word))))

  pub visits_named : (claims : LogoutClaims) → left_by ≡ None → accepted_by ≡ Some claims → named_ended claims.sub claims.sid t ≡ with_visits (filter_map (visit_kept past p) t.visits)
  visits_named claims none is =
      let meant : SessionRow → Bool = λ row. is_meant claims.sub claims.sid row in
      ap with_visits (sym (kept_by_test (λ row. not (meant row)) (visit_kept past p) t.visits (λ row. ruled None (Some claims) none is row ∙ turned (meant row) row)))

  pub visits_unended : left_by ≡ None → accepted_by ≡ None → t ≡ with_visits (filter_map (visit_kept past p) t.visits)
  visits_unended none neither = ap with_visits (sym (all_kept (visit_kept past p) t.visits (λ row. ruled None None none neither row)))

  -- by the parts that are read of the token
  pub visits_named_by : (claims : LogoutClaims) (sub sid : Option Text) → sub ≡ claims.sub → sid ≡ claims.sid → left_by ≡ None → accepted_by ≡ Some claims
      → named_ended sub sid t ≡ with_visits (filter_map (visit_kept past p) t.visits)
  visits_named_by claims sub sid one two none is =
      let A : Option Text → Tables = λ o. named_ended o sid t in
      let B : Option Text → Tables = λ o. named_ended claims.sub o t in
      ap A one ∙ ap B two ∙ visits_named claims none is

some_mapped : {A B : Type 0} (f : A → B) (o : Option A) (q : Option B) → option_map f o ≡ q → is_some o ≡ is_some q
some_mapped {A} {B} f None q h = let S : Option B → Bool = λ x. is_some x in ap S h
some_mapped {A} {B} f (Some a) q h = let S : Option B → Bool = λ x. is_some x in ap S h

-- a token that names somebody has a part
pub named_somebody : {A : Type 0} (f : A → Text) (sub sid : Option A) (accepted : Option LogoutClaims) (claims : LogoutClaims) → IfSome accepted NamesSomebody → Some claims ≡ accepted → option_map f sub ≡ claims.sub → option_map f sid ≡ claims.sid
    → (is_some sub || is_some sid) ≡ true
named_somebody f sub sid accepted claims names is one two =
    let N : Option LogoutClaims → Type 0 = λ o. IfSome o NamesSomebody in
    let here : NamesSomebody claims = subst N (sym is) names in
    let S : Bool → Bool = λ b. b || is_some sid in
    let T : Bool → Bool = λ b. is_some claims.sub || b in
    ap S (some_mapped f sub claims.sub one) ∙ ap T (some_mapped f sid claims.sid two) ∙ here
