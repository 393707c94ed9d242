-- A logout token is remembered by the one pair that accepted it.
use Rattle.std.proofs.Common.{◌≡◌, ◌∷◌, ◌++◌, length, Some, Ok, refl, sym, ◌∙◌, ap}
use Rattle.sso_base.specs.Words.{Text}
use Rattle.sso_base.specs.Rows.{row_of}
use Rattle.sso_base.proofs.Literal.{stands-row_of}
use Rattle.rp_login.specs.declared.rows.SeenRow.{SeenRow}
use Rattle.rp_login.specs.Rows.{seen_name}
use Rattle.rp_exchange.specs.declared.ask.RpAsk.{RpAsk}
use Rattle.rp_exchange.specs.declared.ask.RpAsk.TheVariants as ask
use Rattle.rp_exchange.specs.declared.reply.RpReply.{RpReply}
use Rattle.rp_exchange.specs.declared.reply.RpReply.TheVariants as reply
use Rattle.rp_answer.specs.Past.{RpPair, RpPast}
use Rattle.rp_answer.specs.Seens.{seens, seen_of, seen_by, seen_made, seen_kept}
use Rattle.rp_answer.specs.Legal.{AcceptedBy}
use Rattle.rp_answer.proofs.KeptNames.{some_same, carried_same, seen_same, seen_names}

accepted_by : (past later earlier : RpPast) (maker : RpPair) (seen : SeenRow) → past ≡ later ++ maker ∷ earlier → (asked : RpAsk) (told : RpReply) → maker.entry.ask ≡ asked → maker.reply ≡ told
    → seen_by (length earlier) maker.entry.at asked told ≡ Some seen → AcceptedBy past seen
accepted_by past later earlier maker seen parts (ask.Logout (Ok claims)) (reply.Ended count) asked told h =
    let made : SeenRow = seen_of (length earlier) maker.entry.at claims in
    let same : made ≡ seen = some_same made seen h in
    record {
      later = later;
      maker = maker;
      earlier = earlier;
      parts = parts;
      claims = claims;
      asked = asked;
      count = count;
      replied = told;
      jti_is = sym (ap (λ (r : SeenRow). r.jti) same);
      accepted_then = sym (ap (λ (r : SeenRow). r.accepted) same);
      place = sym (ap (λ (r : SeenRow). r.place) same);
    }
accepted_by past later earlier maker seen parts asked told is replied h = cc

pub seens_are_accepted : (past : RpPast) (jti : Text) (seen : SeenRow) → row_of seen_name jti (seens past) ≡ Some seen → AcceptedBy past seen
seens_are_accepted past jti seen h =
    let s = stands-row_of seen_name seen_made seen_kept seen_names jti past seen h in
    let same : seen ≡ s.first = carried_same seen_kept seen_same s.later (s.maker ∷ s.earlier) s.first seen s.stays in
    accepted_by past s.later s.earlier s.maker seen s.parts s.maker.entry.ask s.maker.reply refl refl (s.makes ∙ ap (λ (r : SeenRow). Some r) (sym same))
