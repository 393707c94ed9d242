-- A place that spares a login leaves the party's rows of its words.
use Rattle.std.proofs.Common.{◌≡◌, ◌==◌, ℕ, Bool, cond, List, [], ◌∷◌, Some, sym, subst, inl, inr}
use Rattle.std.proofs.lemmas.Bool.{eqb-true}
use Rattle.sso_base.specs.Words.{Word}
use Rattle.sso_base.specs.Rows.{row_of}
use Rattle.sso_base.proofs.RowLaws.{bool_cases}
use Rattle.sso_model.proofs.ListLaws.{has_append_left, has_append_right}
use Rattle.client_registry.specs.Configuration.{Configuration}
use Rattle.oidc_words.specs.declared.response_types.Types.{Types}
use Rattle.rp_login.specs.declared.rows.LoginRow.{LoginRow}
use Rattle.rp_login.specs.declared.rows.PendingRow.{PendingRow}
use Rattle.rp_login.specs.Rows.{login_name, pending_name}
use Rattle.rp_answer.specs.Past.{RpPair, RpPast}
use Rattle.rp_answer.specs.Setup.{PartySetup, party_of}
use Rattle.rp_answer.specs.Asked.{state_named}
use Rattle.rp_answer.specs.Logins.{logins}
use Rattle.rp_answer.specs.Pendings.{pendings}
use Rattle.rp_answer.specs.Legal.{IsLegalRp}
use Rattle.sso_places.specs.declared.types.WorldAsk.{WorldAsk}
use Rattle.sso_places.specs.Cookies.{words_in}
use Rattle.sso_places.specs.Site.{own_site, setup_at}
use Rattle.sso_places.specs.World.{Place, Provider, Party, Nothing, World, rp_past}
use Rattle.sso_places.proofs.Places.{party_legal}
use Rattle.honest_places.specs.Login.{Spares}
use Rattle.honest_places.specs.Shown.{exchange_named}
use Rattle.honest_places.proofs.OwnWords.{IsOwn, in_words, not_word, undrawn, not_named}
use Rattle.honest_places.proofs.Worlds.{Now}
use Rattle.honest_party.specs.Sparing.{Spares as RpSpares}
use Rattle.honest_party.proofs.Persisting.{login_persists, pending_persists}

module _ (c : Configuration) (n : ℕ) (login : List Place) (world : World) (w : Word) (own : IsOwn login world w) where
  abbrev s : PartySetup
  s = setup_at (own_site c) n

  abbrev types : Types
  types = (party_of s).types

  -- a place of the party that spares the login has nothing to do with a word of it
  rp_spares : (from : ℕ) (request : WorldAsk) (p : RpPair) → Now c (Party n from request p) world → Spares login (Party n from request p) → RpSpares w p
  rp_spares from request p now spares =
      let x : Place = Party n from request p in
      let l : List Word = words_in (state_named p.entry.ask) in
      let k : List Word = words_in (exchange_named p.entry.ask) in
      record {
        undrawn = undrawn login world x w own now.distinct (party_legal (own_site c) n from request p world now.legal).1.four;
        no_login = not_word (state_named p.entry.ask) w (λ is. not_named login world x w own spares (has_append_left l k w (in_words (state_named p.entry.ask) w is)));
        no_exchange = not_word (exchange_named p.entry.ask) w (λ is. not_named login world x w own spares (has_append_right l k w (in_words (exchange_named p.entry.ask) w is)));
      }

  -- what stays over one more pair of the party stays over the place
  over_place : (Stands : RpPast → Type 0) → ((p : RpPair) → IsLegalRp s (p ∷ rp_past n world) → RpSpares w p → Stands (rp_past n world) → Stands (p ∷ rp_past n world))
      → (x : Place) → Now c x world → Spares login x → Stands (rp_past n world) → Stands (rp_past n (x ∷ world))
  over_place Stands one (Provider from request p) now spares stands = stands
  over_place Stands one (Party m from request p) now spares stands =
      let F : Bool → Type 0 = λ b. Stands (cond b (p ∷ rp_past n world) (rp_past n world)) in
      elim (bool_cases (m == n)) [
        | inl e ↦
            (let same : m ≡ n = eqb-true m n e in
            let N : ℕ → Type 0 = λ i. Now c (Party i from request p) world in
            let S : ℕ → Type 0 = λ i. Spares login (Party i from request p) in
            let own_now : Now c (Party n from request p) world = subst N same now in
            subst F (sym e) (one p (party_legal (own_site c) n from request p world own_now.legal) (rp_spares from request p own_now (subst S same spares)) stands))
        | inr e ↦ subst F (sym e) stands
      ]
  over_place Stands one Nothing now spares stands = stands

  module _ (x : Place) (now : Now c x world) (spares : Spares login x) where
    pub login_waits_on : (row : LoginRow) → row_of login_name w (logins (rp_past n world)) ≡ Some row → row_of login_name w (logins (rp_past n (x ∷ world))) ≡ Some row
    login_waits_on row there =
        over_place (λ past. row_of login_name w (logins past) ≡ Some row)
        (λ p legal z stands. login_persists s w (p ∷ []) (rp_past n world) row legal (z, tt) stands) x now spares there

    pub pending_waits_on : (row : PendingRow) → row_of pending_name w (pendings types (rp_past n world)) ≡ Some row → row_of pending_name w (pendings types (rp_past n (x ∷ world))) ≡ Some row
    pending_waits_on row there =
        over_place (λ past. row_of pending_name w (pendings types past) ≡ Some row)
        (λ p legal z stands. pending_persists s w (p ∷ []) (rp_past n world) row legal (z, tt) stands) x now spares there
