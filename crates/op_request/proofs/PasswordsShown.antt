-- A login is signed as a user if and only if its form shows that user's password, and a consent is agreed to exactly by `yes`.
use Rattle.std.proofs.Common.{◌≡◌, inl, inr, ◌↔◌, ℕ, List, [], ◌∷◌, map, Bool, true, false, cond, codes, Option, Some, None, option_and_then, slice_get, refl, sym, ◌∙◌, ap, subst, arith}
use Rattle.std.specs.Str.{bytes_eq}
use Rattle.sso_base.specs.Lists.{Has}
use Rattle.sso_base.specs.Words.{Word, Text, word_text, word_of_text}
use Rattle.sso_base.specs.declared.http.Ask.{Ask}
use Rattle.sso_base.proofs.WordTexts.{word_of_text-word_text, word_of_text_some, other_length}
use Rattle.hmac256.specs.Hmac.{proof_of}
use Rattle.client_registry.specs.declared.records.User.{User}
use Rattle.client_registry.specs.Rules.{user_place}
use Rattle.client_registry.specs.Configuration.{Configuration}
use Rattle.client_registry.specs.Registered.{AreApart}
use Rattle.request_params.specs.Form.{Pair}
use Rattle.request_params.proofs.NameLaws.{same_text, text_same}
use Rattle.op_exchange.specs.declared.ask.OpAsk.TheVariants.{Login, Consent, Twice}
use Rattle.op_exchange.specs.Fields.{turn_field, user_field, password_field, agree_field, agree_value}
use Rattle.op_request.specs.declared.routes.Endpoint.TheVariants as endpoint
use Rattle.op_request.specs.PostedForms.{login_names, consent_names, fields_of, repeats_one, stands_twice, field}
use Rattle.op_request.specs.Prepared.{is_password_of, if_password, signed_user, prepared}
use Rattle.op_request.specs.Requests.{IsTo, IsField, ShowsPassword, IsTurn}
use Rattle.op_request.proofs.SignedUsers.{same_number, found_from, place_of_user}
use Rattle.op_request.proofs.FormFields.{not_twice, field_is, is_field}
use Rattle.op_request.proofs.Routing.{prepared_at}
use Rattle.op_request.proofs.LedTo.{led_to}

-- ---- a user's password

record Proved (c : Configuration) (id password : Text) (number : ℕ) : Type 0 where
  user : User
  there : slice_get c.users number ≡ Some user
  id_is : id ≡ user.id
  proved : proof_of password user.salt user.rounds ≡ user.proof

proved_by : (c : Configuration) (id password : Text) (n : ℕ) (u : User) (b : Bool) → slice_get c.users n ≡ Some u → u.id ≡ id → bytes_eq (proof_of password u.salt u.rounds) u.proof ≡ b
    → (m : ℕ) → cond b (Some n) None ≡ Some m → Proved c id password m
proved_by c id password n u true there named is m h =
    let same : n ≡ m = same_number n m h in
    record { user = u; there = subst (λ k. slice_get c.users k ≡ Some u) same there; id_is = sym named; proved = same_text (proof_of password u.salt u.rounds) u.proof is }
proved_by c id password n u false there named is m h = absurd (cc)

password_at : (c : Configuration) (id password : Text) (n m : ℕ) (u : User) → slice_get c.users n ≡ Some u → u.id ≡ id → if_password c password n ≡ Some m → Proved c id password m
password_at c id password n m u there named h =
    proved_by c id password n u (bytes_eq (proof_of password u.salt u.rounds) u.proof) there named refl m
    (ap (λ o. cond (is_password_of o password) (Some n) None) (sym there) ∙ h)

user_at : (c : Configuration) (id password : Text) (m : ℕ) (o : Option ℕ) → user_place id c.users ≡ o → option_and_then (if_password c password) o ≡ Some m → Proved c id password m
user_at c id password m None is h = absurd (cc)
user_at c id password m (Some n) is h =
    let p = found_from id 0 n c.users is in
    let past : p.past ≡ n = omega (arith, p.at) in
    password_at c id password n m p.user (ap (slice_get c.users) (sym past) ∙ p.there) p.named h

signed_proved : (c : Configuration) (id password : Text) (m : ℕ) → signed_user c id password ≡ Some m → Proved c id password m
signed_proved c id password m h = user_at c id password m (user_place id c.users) refl h

proved_signed : (c : Configuration) (password : Text) (n : ℕ) (u : User) → AreApart (map (λ (v : User). v.id) c.users) → slice_get c.users n ≡ Some u
    → proof_of password u.salt u.rounds ≡ u.proof → signed_user c u.id password ≡ Some n
proved_signed c password n u apart there proved =
    ap (option_and_then (if_password c password)) (place_of_user c.users n u apart there)
    ∙ ap (λ o. cond (is_password_of o password) (Some n) None) there
    ∙ ap (λ b. cond b (Some n) None) (text_same (proof_of password u.salt u.rounds) u.proof proved)

-- ---- values that are not empty

none_some : {Z : Type 0} (w : Word) → None ≡ Some w → Z
none_some w h = absurd (cc)

no_word : {Z : Type 0} (w : Word) → word_of_text [] ≡ Some w → Z
no_word w h =
    let none : None ≡ word_of_text [] = other_length [] (λ e. omega (arith, e)) in
    none_some w (none ∙ h)

no_cons : {Z : Type 0} (x : ℕ) (xs : Text) → x ∷ xs ≡ [] → Z
no_cons x xs h = absurd (cc)

-- such a field is there
there_at : (fields : List Pair) (name v : Text) (w : Word) → IsField fields name v → word_of_text v ≡ Some w → Has fields (name, v)
there_at fields name v w (inl has) h = has
there_at fields name v w (inr absent) h =
    let empty : word_of_text [] ≡ Some w = ap word_of_text (sym absent.1) ∙ h in
    no_word w empty

-- ---- login forms

module _ (c : Configuration) (request : Ask) where
  abbrev pub fields : List Pair
  fields = fields_of request.body

  pub signed_shows : (turn : Option Word) (n : ℕ) (browser session : Option Word) → prepared c request ≡ Login turn (Some n) browser session → ShowsPassword c fields n
  signed_shows turn n browser session h =
      let l = led_to c request (Login turn (Some n) browser session) h in
      let p = signed_proved c (field user_field fields) (field password_field fields) n (sym l.signed_is) in
      record {
        user = p.user;
        there = p.there;
        id = field_is user_field p.user.id fields p.id_is;
        password = field password_field fields;
        shown = field_is password_field (field password_field fields) fields refl;
        proved = p.proved;
      }

  login_is : IsTo c request endpoint.Login → repeats_one login_names fields ≡ false → (o : Option ℕ) → signed_user c (field user_field fields) (field password_field fields) ≡ o
      → prepared c request ≡ Login (word_of_text (field turn_field fields)) o request.first request.second
  login_is to once o signed =
      prepared_at c request endpoint.Login to
      ∙ ap (λ b. cond b Twice (Login (word_of_text (field turn_field fields)) (signed_user c (field user_field fields) (field password_field fields)) request.first request.second)) once
      ∙ ap (λ s. Login (word_of_text (field turn_field fields)) s request.first request.second) signed

  shown_is : (n : ℕ) → AreApart (map (λ (v : User). v.id) c.users) → repeats_one login_names fields ≡ false → ShowsPassword c fields n
      → signed_user c (field user_field fields) (field password_field fields) ≡ Some n
  shown_is n apart once s =
      let id : field user_field fields ≡ s.user.id = is_field user_field s.user.id fields (not_twice login_names user_field fields refl once) s.id in
      let password : field password_field fields ≡ s.password = is_field password_field s.password fields (not_twice login_names password_field fields refl once) s.shown in
      ap (λ t. signed_user c t (field password_field fields)) id
      ∙ ap (λ t. signed_user c s.user.id t) password
      ∙ proved_signed c s.password n s.user apart s.there s.proved

  pub shows_signed : (n : ℕ) → AreApart (map (λ (v : User). v.id) c.users) → IsTo c request endpoint.Login → repeats_one login_names fields ≡ false → ShowsPassword c fields n
      → prepared c request ≡ Login (word_of_text (field turn_field fields)) (Some n) request.first request.second
  shows_signed n apart to once s = login_is to once (Some n) (shown_is n apart once s)

  -- ---- turns

  turn_at : (t : Text) (v : Option Word) → t ≡ field turn_field fields → word_of_text t ≡ v → stands_twice turn_field fields ≡ false → IsTurn fields v
  turn_at t (Some w) is h once =
      let r = word_of_text_some t w h in
      (there_at fields turn_field (word_text w) w (field_is turn_field (word_text w) fields (sym is ∙ r.0)) (word_of_text-word_text w r.1), r.1)
  turn_at t None is h once = λ w word has.
      let there : field turn_field fields ≡ word_text w = is_field turn_field (word_text w) fields once (inl has) in
      none_some w (sym h ∙ ap word_of_text (is ∙ there) ∙ word_of_text-word_text w word)

  pub login_turn : (turn : Option Word) (signed : Option ℕ) (browser session : Option Word) → prepared c request ≡ Login turn signed browser session → IsTurn fields turn
  login_turn turn signed browser session h =
      let l = led_to c request (Login turn signed browser session) h in
      turn_at (field turn_field fields) turn refl (sym l.turn_is) (not_twice login_names turn_field fields refl l.once)

  pub consent_turn : (turn : Option Word) (agree : Bool) (browser session : Option Word) → prepared c request ≡ Consent turn agree browser session → IsTurn fields turn
  consent_turn turn agree browser session h =
      let l = led_to c request (Consent turn agree browser session) h in
      turn_at (field turn_field fields) turn refl (sym l.turn_is) (not_twice consent_names turn_field fields refl l.once)

  -- ---- consent forms

  yes_there : IsField fields agree_field agree_value → Has fields (agree_field, agree_value)
  yes_there (inl has) = has
  yes_there (inr absent) = no_cons 121 (codes "es") absent.1

  agreed_yes : (agree : Bool) → agree ≡ bytes_eq (field agree_field fields) agree_value → agree ≡ true → Has fields (agree_field, agree_value)
  agreed_yes agree is h = yes_there (field_is agree_field agree_value fields (same_text (field agree_field fields) agree_value (sym is ∙ h)))

  yes_agreed : (agree : Bool) → agree ≡ bytes_eq (field agree_field fields) agree_value → stands_twice agree_field fields ≡ false → Has fields (agree_field, agree_value) → agree ≡ true
  yes_agreed agree is once has =
      is ∙ text_same (field agree_field fields) agree_value (is_field agree_field agree_value fields once (inl has))

  pub agreed_exactly : (turn : Option Word) (agree : Bool) (browser session : Option Word) → prepared c request ≡ Consent turn agree browser session
      → (agree ≡ true) ↔ Has fields (agree_field, agree_value)
  agreed_exactly turn agree browser session h =
      let l = led_to c request (Consent turn agree browser session) h in
      (agreed_yes agree l.agree_is, yes_agreed agree l.agree_is (not_twice consent_names agree_field fields refl l.once))
