-- The session with which a whole login ends: what the sign-on machine did in its world, and what the party's history calls live.
use Rattle.std.proofs.Common.{◌≡◌, ℕ, suc, List, [], ◌∷◌, length, codes, Some, inl, refl, sym, ap, subst}
use Rattle.sso_base.specs.Legal.{last_moment}
use Rattle.sso_base.specs.Words.{Word, word_text}
use Rattle.sso_base.specs.declared.history.Entry.{Entry}
use Rattle.sso_model.specs.Founded.{IsFounded}
use Rattle.sso_model.specs.Machine.{began_row, signed_row, entered_row}
use Rattle.sso_model.specs.Rows.{Answered, Live, Machine}
use Rattle.rp_login.specs.declared.rows.SessionRow.{SessionRow}
use Rattle.rp_exchange.specs.declared.ask.RpAsk.{RpAsk}
use Rattle.rp_answer.specs.Visits.{live_visits}
use Rattle.rp_answer.proofs.Sample.{word, pair_of}
use Rattle.sso_places.specs.declared.types.WorldAsk.{WorldAsk}
use Rattle.sso_places.specs.Reading.{machine_of}
use Rattle.sso_places.specs.Site.{Site, own_site}
use Rattle.sso_places.specs.World.{Place, Party, World, rp_past}
use Rattle.sso_places.proofs.Numbers.{place_at_last}
use Rattle.honest_worlds.specs.Session.{HoldsSession}
use Rattle.honest_worlds.proofs.AnyType.{Wants, types_of, registered, visitor}
use Rattle.honest_worlds.proofs.Informing.{entered}

-- ---- what the machine did

-- the session that began at the place of a number
abbrev begun_at : ℕ → Live
begun_at event = record { event = event; client = 0; browser = 1; nonce = Some (word_text (word 3)); user = 0; sid = word_text (word 10) }

-- the provider answered at the fourth place
abbrev answer : Answered
answer = record { event = 4; browser = 1; nonce = Some (word_text (word 3)); client = 0; user = 0; sid = word_text (word 10) }

-- after a login whose code, if it had one, was redeemed
abbrev pub did : List ℕ → ℕ → Machine
did redeemed event =
    record {
      began = began_row (begun_at event) ∷ [];
      signed = signed_row answer ∷ [];
      answered = answer ∷ [];
      redeemed = redeemed;
      out = [];
      closed = [];
      entered = entered_row (begun_at event) ∷ [];
      live = begun_at event ∷ [];
      ended = [];
      dead = [];
    }

founded : (redeemed : List ℕ) (event : ℕ) → IsFounded (did redeemed event) (begun_at event)
founded redeemed event = record {
  began = inl refl;
  answered = record { answered = answer; has = inl refl; nonce = refl; client = refl; user = refl; sid = refl };
  signed = inl refl;
}

-- ---- what the party holds

-- under this word
abbrev pub row_of : Word → SessionRow
row_of w = record { word = w; nonce = word 3; sub = codes "alice"; sid = Some (word_text (word 10)); entered = 1000 }

-- ---- the session

module _ (wants : Wants) (w : Word) (request : WorldAsk) (e : Entry RpAsk) (earlier : List Place) where
  abbrev s : Site
  s = own_site (registered wants)

  abbrev pub signed_on : World
  signed_on = Party 0 1 request (pair_of e (entered w)) ∷ earlier

  pub holds : (redeemed : List ℕ) → machine_of s signed_on ≡ did redeemed (suc (length earlier)) → live_visits (types_of wants) (rp_past 0 signed_on) (last_moment (rp_past 0 signed_on)) ≡ row_of w ∷ []
      → e.at ≡ 1000 → HoldsSession s visitor signed_on
  holds redeemed machine live moment =
      let event : ℕ = suc (length earlier) in
      record {
        session = begun_at event;
        held = ap (λ (m : Machine). m.live) machine;
        founded = subst (λ (m : Machine). IsFounded m (begun_at event)) (sym machine) (founded redeemed event);
        began = refl;
        browser = refl;
        client = refl;
        user = refl;
        row = row_of w;
        live = live;
        same = record {
          request = request;
          pair = pair_of e (entered w);
          place = place_at_last (Party 0 1 request (pair_of e (entered w))) earlier;
          reply = refl;
          moment = moment;
          nonce = refl;
          user = refl;
          sid = refl;
        };
      }
