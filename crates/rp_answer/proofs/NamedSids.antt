-- A session identifier is remembered by the one pair that accepted its logout token.
use Rattle.std.proofs.Common.{◌≡◌, ℕ, ◌∷◌, ◌++◌, length, Option, Some, None, option_map, Ok, refl, sym, ◌∙◌, ap}
use Rattle.sso_base.specs.Words.{Text}
use Rattle.sso_base.specs.Rows.{row_of}
use Rattle.sso_base.proofs.Literal.{stands-row_of}
use Rattle.logout_token.specs.declared.claims.LogoutClaims.{LogoutClaims}
use Rattle.rp_login.specs.declared.rows.DeadRow.{DeadRow}
use Rattle.rp_login.specs.Rows.{dead_name}
use Rattle.rp_exchange.specs.declared.ask.RpAsk.{RpAsk}
use Rattle.rp_exchange.specs.declared.ask.RpAsk.TheVariants as ask
use Rattle.rp_exchange.specs.declared.reply.RpReply.{RpReply}
use Rattle.rp_exchange.specs.declared.reply.RpReply.TheVariants as reply
use Rattle.rp_answer.specs.Past.{RpPair, RpPast}
use Rattle.rp_answer.specs.Deads.{deads, dead_at, dead_by, dead_made, dead_kept}
use Rattle.rp_answer.specs.Legal.{NamedBy}
use Rattle.rp_answer.proofs.KeptNames.{some_same, carried_same, dead_same, dead_names}

-- the token has a `sid`
sid_named : (past later earlier : RpPast) (maker : RpPair) (dead : DeadRow) → past ≡ later ++ maker ∷ earlier → (claims : LogoutClaims) (sid : Option Text) → claims.sid ≡ sid
    → maker.entry.ask ≡ ask.Logout (Ok claims) → (count : ℕ) → maker.reply ≡ reply.Ended count → option_map (dead_at (length earlier) maker.entry.at) sid ≡ Some dead → NamedBy past dead
sid_named past later earlier maker dead parts claims None is asked count told h = cc
sid_named past later earlier maker dead parts claims (Some sid) is asked count told h =
    let made : DeadRow = dead_at (length earlier) maker.entry.at sid in
    let same : made ≡ dead = some_same made dead h in
    let S : DeadRow → Option Text = λ r. Some r.sid in
    record {
      later = later;
      maker = maker;
      earlier = earlier;
      parts = parts;
      claims = claims;
      asked = asked;
      count = count;
      replied = told;
      sid_is = is ∙ ap S same;
      accepted_then = sym (ap (λ (r : DeadRow). r.accepted) same);
      place = sym (ap (λ (r : DeadRow). r.place) same);
    }

named_by : (past later earlier : RpPast) (maker : RpPair) (dead : DeadRow) → past ≡ later ++ maker ∷ earlier → (asked : RpAsk) (told : RpReply) → maker.entry.ask ≡ asked → maker.reply ≡ told
    → dead_by (length earlier) maker.entry.at asked told ≡ Some dead → NamedBy past dead
named_by past later earlier maker dead parts (ask.Logout (Ok claims)) (reply.Ended count) asked told h =
    sid_named past later earlier maker dead parts claims claims.sid refl asked count told h
named_by past later earlier maker dead parts asked told is replied h = cc

pub sids_were_named : (past : RpPast) (sid : Text) (dead : DeadRow) → row_of dead_name sid (deads past) ≡ Some dead → NamedBy past dead
sids_were_named past sid dead h =
    let s = stands-row_of dead_name dead_made dead_kept dead_names sid past dead h in
    let same : dead ≡ s.first = carried_same dead_kept dead_same s.later (s.maker ∷ s.earlier) s.first dead s.stays in
    named_by past s.later s.earlier s.maker dead s.parts s.maker.entry.ask s.maker.reply refl refl (s.makes ∙ ap (λ (r : DeadRow). Some r) (sym same))
