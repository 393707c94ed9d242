-- Two words of a request are told apart by its location.
use Rattle.std.proofs.Common.{◌≡◌, ◌++◌, ℕ, Bool, true, false, Some, refl, sym, ap, ◌∙◌}
use Rattle.std.proofs.lemmas.List.{append_cancel_left}
use Rattle.sso_base.specs.Words.{Text, Word, word_text}
use Rattle.sso_base.proofs.Refusals.{one_value}
use Rattle.sso_base.proofs.Spelling.{b64u_inj}
use Rattle.client_registry.specs.declared.records.Provider.{Provider}
use Rattle.client_registry.specs.Configuration.{Configuration}
use Rattle.client_registry.specs.Numbers.{party_row, party_client}
use Rattle.request_params.specs.declared.params.Params.{Params}
use Rattle.request_params.specs.declared.no.AskNo.{AskNo}
use Rattle.request_params.specs.Location.{query_mark}
use Rattle.request_params.specs.Reading as form
use Rattle.request_params.specs.Printing.{request_form}
use Rattle.request_object.specs.declared.no.ObjNo.{ObjNo}
use Rattle.request_object.specs.Request.{request_text}
use Rattle.request_object.specs.Reading as object
use Rattle.login_request.specs.Parties.{MayAsk}
use Rattle.login_request.specs.Request.{login_params, sent_params, login_location}
use Rattle.login_request.proofs.Asked.{located, plain_read, beside_read, object_read}

some_inj : (t u : Text) → Some t ≡ Some u → t ≡ u
some_inj t u h = cc

module _ (c : Configuration) (n : ℕ) (provider : Provider) (state nonce other_state other_nonce : Word)
    (m : MayAsk c n provider.issuer state nonce) (o : MayAsk c n provider.issuer other_state other_nonce) where
  abbrev this : Params
  this = login_params (party_client c n) (party_row c n) state nonce

  abbrev other : Params
  other = login_params (party_client c n) (party_row c n) other_state other_nonce

  abbrev sent : Params
  sent = sent_params (party_client c n) (party_row c n) provider state nonce

  abbrev other_sent : Params
  other_sent = sent_params (party_client c n) (party_row c n) provider other_state other_nonce

  same_forms : login_location (party_client c n) (party_row c n) provider state nonce ≡ login_location (party_client c n) (party_row c n) provider other_state other_nonce → request_form sent ≡ request_form other_sent
  same_forms h =
      append_cancel_left (provider.authorize ++ query_mark provider.authorize) (request_form sent) (request_form other_sent)
      (sym (located (party_client c n) (party_row c n) provider state nonce) ∙ h ∙ located (party_client c n) (party_row c n) provider other_state other_nonce)

  same_objects : request_text (party_client c n) provider.issuer this ≡ request_text (party_client c n) provider.issuer other → this ≡ other
  same_objects h =
      one_value ObjNo this other (sym (object_read c n provider state nonce m) ∙ (ap (object.request_read (party_client c n) provider.issuer) h ∙ object_read c n provider other_state other_nonce o))

  same_params : (b : Bool) → (party_row c n).signed ≡ b → request_form sent ≡ request_form other_sent → this ≡ other
  same_params false is h = one_value AskNo this other (sym (plain_read c n provider state nonce m is) ∙ (ap form.request_read h ∙ plain_read c n provider other_state other_nonce o is))
  same_params true is h =
      let beside = one_value {A = Params} AskNo _ _ (sym (beside_read c n provider state nonce m is) ∙ (ap form.request_read h ∙ beside_read c n provider other_state other_nonce o is)) in
      same_objects (some_inj _ _ (ap (λ (p : Params). p.request) beside))

  pub words_apart : login_location (party_client c n) (party_row c n) provider state nonce ≡ login_location (party_client c n) (party_row c n) provider other_state other_nonce → (state ≡ other_state) × (nonce ≡ other_nonce)
  words_apart h =
      let same = same_params (party_row c n).signed refl (same_forms h) in (
        b64u_inj state other_state m.state_word.bytes o.state_word.bytes (some_inj (word_text state) (word_text other_state) (ap (λ (p : Params). p.state) same)),
        b64u_inj nonce other_nonce m.nonce_word.bytes o.nonce_word.bytes (some_inj (word_text nonce) (word_text other_nonce) (ap (λ (p : Params). p.nonce) same)),
      )
