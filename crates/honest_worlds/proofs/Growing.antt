-- How a legal world grows by a place.
use Rattle.std.proofs.Common.{◌≡◌, ◌≤◌, ◌<◌, ◌==◌, ℕ, Bool, cond, [], ◌∷◌, length, Some, inl, inr, refl, sym, ap, ◌∙◌, subst, eqb-true}
use Rattle.std.proofs.lemmas.Option.{same_Some}
use Rattle.sso_base.specs.Legal.{IsEntry, last_moment}
use Rattle.sso_base.specs.declared.http.Ask.{Ask}
use Rattle.sso_base.proofs.RowLaws.{bool_cases}
use Rattle.client_registry.specs.Configuration.{Configuration}
use Rattle.op_exchange.specs.Values.{IsOpAsk}
use Rattle.op_request.specs.Prepared.{prepared}
use Rattle.op_answer.specs.Past.{OpPair}
use Rattle.op_answer.specs.Answering.{op_answer}
use Rattle.rp_exchange.specs.Values.{IsRpAsk}
use Rattle.rp_answer.specs.Past.{RpPair, RpPast}
use Rattle.rp_answer.specs.Legal.{IsLegalRp}
use Rattle.rp_answer.specs.Answering.{rp_answer}
use Rattle.sso_places.specs.declared.types.WorldAsk.{WorldAsk}
use Rattle.sso_places.specs.Legal.{IsLegalWorld, party_prepared}
use Rattle.sso_places.specs.Premises.{IsInOrder, last_at}
use Rattle.sso_places.specs.Site.{own_site, setup_at}
use Rattle.sso_places.specs.World.{Place, Provider, Party, World, moment_of, op_past, rp_past}

module _ (c : Configuration) where
  -- a world is legal, and time goes on in it
  pub record Stands (world : World) : Type 0 where
    pub legal : IsLegalWorld (own_site c) world
    pub order : IsInOrder world

  pub nothing_stands : Stands []
  nothing_stands = record { legal = record { provider = tt; parties = λ n. tt; asked = tt }; order = tt }

  in_order : (world : World) (x : Place) (at : ℕ) → moment_of x ≡ Some at → last_at world ≤ at → (moment : ℕ) → moment_of x ≡ Some moment → last_at world ≤ moment
  in_order world x at is later moment same = subst (λ m. last_at world ≤ m) (same_Some at moment (sym is ∙ same)) later

  -- what the provider is asked by a request after a world, and what it replies
  pub record ProviderReplies (world : World) (request : Ask) (pair : OpPair) : Type 0 where
    pub asked : prepared c request ≡ pair.entry.ask
    pub entry : IsEntry IsOpAsk pair.entry
    pub after_own : last_moment (op_past world) ≤ pair.entry.at
    pub after_all : last_at world ≤ pair.entry.at
    pub answered : op_answer c (op_past world) pair.entry ≡ pair.reply

  pub provider_stands : (world : World) (from : ℕ) (request : Ask) (pair : OpPair) → Stands world → ProviderReplies world request pair → Stands (Provider from request pair ∷ world)
  provider_stands world from request pair before next =
      record {
        legal = record {
          provider = (before.legal.provider, next.entry, next.after_own, sym next.answered);
          parties = before.legal.parties;
          asked = (sym next.asked, before.legal.asked);
        };
        order = (before.order, in_order world (Provider from request pair) pair.entry.at refl next.after_all);
      }

  -- the same of the party of a number
  pub record PartyReplies (world : World) (n : ℕ) (request : WorldAsk) (pair : RpPair) : Type 0 where
    pub known : n < length c.parties
    pub asked : party_prepared c n request ≡ pair.entry.ask
    pub entry : IsEntry IsRpAsk pair.entry
    pub after_own : last_moment (rp_past n world) ≤ pair.entry.at
    pub after_all : last_at world ≤ pair.entry.at
    pub answered : rp_answer (setup_at (own_site c) n) (rp_past n world) pair.entry ≡ pair.reply

  module _ (world : World) (n from : ℕ) (request : WorldAsk) (pair : RpPair) (before : Stands world) (next : PartyReplies world n request pair) where
    own_legal : IsLegalRp (setup_at (own_site c) n) (pair ∷ rp_past n world)
    own_legal = (before.legal.parties n, next.entry, next.after_own, sym next.answered)

    each_legal : (m : ℕ) → IsLegalRp (setup_at (own_site c) m) (rp_past m (Party n from request pair ∷ world))
    each_legal m =
        let F : Bool → RpPast = λ b. cond b (pair ∷ rp_past m world) (rp_past m world) in
        let P : RpPast → Type 0 = λ past. IsLegalRp (setup_at (own_site c) m) past in
        let O : ℕ → Type 0 = λ k. IsLegalRp (setup_at (own_site c) k) (pair ∷ rp_past k world) in
        elim (bool_cases (n == m)) [
          | inl same ↦ subst P (sym (ap F same)) (subst O (eqb-true n m same) own_legal)
          | inr other ↦ subst P (sym (ap F other)) (before.legal.parties m)
        ]

    pub party_stands : Stands (Party n from request pair ∷ world)
    party_stands =
        record {
          legal = record {
            provider = before.legal.provider;
            parties = each_legal;
            asked = ((next.known, sym next.asked), before.legal.asked);
          };
          order = (before.order, in_order world (Party n from request pair) pair.entry.at refl next.after_all);
        }
