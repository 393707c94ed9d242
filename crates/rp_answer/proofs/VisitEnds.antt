-- A session ends where its browser leaves and where a logout token is accepted that means it; no other pair ends it.
use Rattle.std.proofs.Common.{◌≡◌, ◌↔◌, Bool, true, false, ◌||◌, cond, ◌∷◌, Option, Some, None, Ok, option_and_then, ◌⊎◌, inl, inr, refl, sym, ◌∙◌, ap}
use Rattle.sso_base.specs.Words.{Word, is_word}
use Rattle.sso_base.specs.Rows.{row_of}
use Rattle.sso_base.specs.Stands as stands
use Rattle.sso_base.proofs.RowLaws.{bool_cases, option_cases, bytes_same, bytes_true, row_of-more}
use Rattle.oidc_words.specs.declared.response_types.Types.{Types}
use Rattle.rp_login.specs.declared.rows.SessionRow.{SessionRow}
use Rattle.rp_login.specs.Rows.{visit_name}
use Rattle.rp_login.proofs.NamedEnds.{meant_equals, equals_meant}
use Rattle.rp_exchange.specs.declared.ask.RpAsk.{RpAsk}
use Rattle.rp_exchange.specs.declared.ask.RpAsk.TheVariants as ask
use Rattle.rp_exchange.specs.declared.reply.RpReply.{RpReply}
use Rattle.rp_exchange.specs.declared.reply.RpReply.TheVariants as reply
use Rattle.rp_answer.specs.Past.{RpPair, RpPast}
use Rattle.rp_answer.specs.Asked.{token_accepted}
use Rattle.rp_answer.specs.Visits.{visits, visit_by, visit_made, visit_kept, session_left, is_named}
use Rattle.rp_answer.specs.Endings.{Leaves, LogsOut, EndsVisit}
use Rattle.rp_answer.proofs.KeptNames.{visit_names}

dropped : {R : Type 0} (b : Bool) (row : R) → cond b None (Some row) ≡ None → b ≡ true
dropped true row h = refl
dropped false row h = cc

either : (a b : Bool) → (a || b) ≡ true → (a ≡ true) ⊎ (b ≡ true)
either true b h = inl refl
either false b h = inr h

module _ (p : RpPair) (visit : SessionRow) where
  -- whether these end it
  abbrev ends : RpAsk → RpReply → Bool
  ends asked told = is_word (session_left asked told) visit.word || is_named (token_accepted asked told) visit

  abbrev kept_by : RpAsk → RpReply → Option SessionRow
  kept_by asked told = cond (ends asked told) None (Some visit)

  leaves_by : (asked : RpAsk) (told : RpReply) → p.entry.ask ≡ asked → p.reply ≡ told → is_word (session_left asked told) visit.word ≡ true → Leaves p visit
  leaves_by (ask.Leave None) (reply.Left ended) is replied h = cc
  leaves_by (ask.Leave (Some w)) (reply.Left ended) is replied h =
      let L : Word → RpAsk = λ v. ask.Leave (Some v) in
      record { asked = is ∙ ap L (bytes_same w visit.word h); ended = ended; replied = replied }
  leaves_by asked told is replied h = cc

  logs_out_by : (asked : RpAsk) (told : RpReply) → p.entry.ask ≡ asked → p.reply ≡ told → is_named (token_accepted asked told) visit ≡ true → LogsOut p visit
  logs_out_by (ask.Logout (Ok claims)) (reply.Ended count) is replied h =
      record { claims = claims; accepts = record { asked = is; count = count; replied = replied }; means = meant_equals claims.sub claims.sid visit h }
  logs_out_by asked told is replied h = cc

  ends_by : ends p.entry.ask p.reply ≡ true → EndsVisit p visit
  ends_by h =
      elim (either (is_word (session_left p.entry.ask p.reply) visit.word) (is_named (token_accepted p.entry.ask p.reply) visit) h) [
        | inl left ↦ inl (leaves_by p.entry.ask p.reply refl refl left)
        | inr named ↦ inr (logs_out_by p.entry.ask p.reply refl refl named)
      ]

  kept_none : EndsVisit p visit → kept_by p.entry.ask p.reply ≡ None
  kept_none (inl left) =
      let A : RpAsk → Option SessionRow = λ a. kept_by a p.reply in
      let R : RpReply → Option SessionRow = λ r. kept_by (ask.Leave (Some visit.word)) r in
      let F : Bool → Option SessionRow = λ b. cond (b || false) None (Some visit) in
      ap A left.asked ∙ ap R left.replied ∙ ap F (bytes_true visit.word visit.word refl)
  kept_none (inr out) =
      let A : RpAsk → Option SessionRow = λ a. kept_by a p.reply in
      let R : RpReply → Option SessionRow = λ r. kept_by (ask.Logout (Ok out.claims)) r in
      let F : Bool → Option SessionRow = λ b. cond (false || b) None (Some visit) in
      ap A out.accepts.asked ∙ ap R out.accepts.replied ∙ ap F (equals_meant out.claims.sub out.claims.sid visit out.means)

  module _ (types : Types) (past : RpPast) where
    abbrev makes : RpReply → Option SessionRow
    makes told = visit_by types p.entry.at past p.entry.ask told

    -- what ends a session makes none
    makes_none : EndsVisit p visit → makes p.reply ≡ None
    makes_none (inl left) = ap makes left.replied
    makes_none (inr out) = ap makes out.accepts.replied

    module _ (w : Word) (found : row_of visit_name w (visits types past) ≡ Some visit) where
      -- the row of the name, by what the pair makes
      abbrev after : Option SessionRow → Option SessionRow
      after made = cond (stands.is_named visit_name w made) made (kept_by p.entry.ask p.reply)

      one_more : row_of visit_name w (visits types (p ∷ past)) ≡ after (makes p.reply)
      one_more =
          let m : Option SessionRow = makes p.reply in
          let H : Option SessionRow → Option SessionRow = λ o. cond (stands.is_named visit_name w m) m (option_and_then (visit_kept past p) o) in
          row_of-more visit_name (visit_made types) visit_kept visit_names w p past ∙ ap H found

      ended_by : row_of visit_name w (visits types (p ∷ past)) ≡ None → EndsVisit p visit
      ended_by none =
          let told : after (makes p.reply) ≡ None = sym one_more ∙ none in
          elim (option_cases (makes p.reply)) [
            | inl unmade ↦ ends_by (dropped (ends p.entry.ask p.reply) visit (sym (ap after unmade) ∙ told))
            | inr made ↦
                (let F : Bool → Option SessionRow = λ b. cond b (Some made.0) (kept_by p.entry.ask p.reply) in
                let here : F (stands.is_named visit_name w (Some made.0)) ≡ None = sym (ap after made.1) ∙ told in
                elim (bool_cases (stands.is_named visit_name w (Some made.0))) [
                  | inl e ↦ (let never : F true ≡ None = sym (ap F e) ∙ here in cc)
                  | inr e ↦ ends_by (dropped (ends p.entry.ask p.reply) visit (sym (ap F e) ∙ here))
                ])
          ]

      pub visits_end : (row_of visit_name w (visits types (p ∷ past)) ≡ None) ↔ EndsVisit p visit
      visits_end = (ended_by, λ ended. one_more ∙ ap after (makes_none ended) ∙ kept_none ended)

      pub visits_stay : stands.is_named visit_name w (visit_made types (visits types past) past p) ≡ false → (EndsVisit p visit → ⊥) → row_of visit_name w (visits types (p ∷ past)) ≡ Some visit
      visits_stay other stays =
          let F : Bool → Option SessionRow = λ b. cond b (makes p.reply) (kept_by p.entry.ask p.reply) in
          let K : Bool → Option SessionRow = λ b. cond b None (Some visit) in
          elim (bool_cases (ends p.entry.ask p.reply)) [
            | inl e ↦ absurd (stays (ends_by e))
            | inr e ↦ one_more ∙ ap F other ∙ ap K e
          ]
