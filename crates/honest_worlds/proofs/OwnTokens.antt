-- In a whole login each access token is shown by the number that got it, or by the server of the party: the one of the response is
-- `word 16`, and the one of the token response `word 21`.
use Rattle.std.proofs.Common.{◌≡◌, ◌||◌, Bool, true, false, List, [], ◌∷◌, Option, option_map, option_and_then, ◌⊎◌, inl, inr, refl, ap, ◌∙◌}
use Rattle.std.specs.List.{list_any, AllByRecursion}
use Rattle.std.specs.Str.{bytes_eq}
use Rattle.std.proofs.lemmas.Bool.{and_from}
use Rattle.sso_base.specs.Words.{Word, IsWord, word_text, word_of_text}
use Rattle.sso_base.specs.declared.history.Entry.{Entry}
use Rattle.sso_base.proofs.RowLaws.{bytes_true}
use Rattle.sso_base.proofs.WordTexts.{word_of_text-word_text}
use Rattle.op_issue.specs.Issued.{if_wished}
use Rattle.rp_exchange.specs.declared.ask.RpAsk.{RpAsk}
use Rattle.rp_exchange.specs.declared.reply.RpReply.{RpReply}
use Rattle.rp_answer.proofs.Sample.{word}
use Rattle.sso_places.specs.declared.types.WorldAsk.{WorldAsk}
use Rattle.sso_places.specs.Cookies.{words_in}
use Rattle.sso_places.specs.World.{Place}
use Rattle.sso_places.specs.Unshared.{access_shown, is_among, brings, takes, asks_tokens, shows_wrongly, shown_before, shares, IsUnshared}
use Rattle.sso_places.proofs.Lists.{any_some}
use Rattle.sso_places.proofs.Sharing.{ShowsNone, IsShownRightly, shows_none, shows_one, never_shown, quiet, gives_anew, shows_rightly, brings_it, among_one}
use Rattle.sso_places.proofs.SmallSite.{drawn_word}
use Rattle.honest_worlds.proofs.AnyType.{Wants, with_code}
use Rattle.honest_worlds.proofs.UpToAnswer.{begins_there, authorizes_there, logs_in_there, consents_there, three}
use Rattle.honest_worlds.proofs.Responding.{four, responded}
use Rattle.honest_worlds.proofs.Exchanging.{message, exchange, redeems, exchanged_there, redeems_there, five, six, given}
use Rattle.honest_worlds.proofs.Informing.{question, informs, asks_there, informs_there, enters_there}

-- ---- the words

word_is : (w : Word) → IsWord w → words_in (word_of_text (word_text w)) ≡ w ∷ []
word_is w is =
    let W : Option Word → List Word = λ o. words_in o in
    ap W (word_of_text-word_text w is)

shown_16 : words_in (word_of_text (word_text (word 16))) ≡ word 16 ∷ []
shown_16 = word_is (word 16) (drawn_word (word 16) refl refl)

pub shown_21 : words_in (word_of_text (word_text (word 21))) ≡ word 21 ∷ []
shown_21 = word_is (word 21) (drawn_word (word 21) refl refl)

-- the access token of the response is another than that of the token response
other_word : (token : Bool) → is_among (words_in (if_wished token (word 16))) (word 21) ≡ false
other_word true = refl
other_word false = refl

-- ---- up to the response

module _ (wants : Wants) where
  three_unshared : IsUnshared (three wants)
  three_unshared = (
    ((tt, quiet [] (begins_there wants) refl refl), quiet (begins_there wants ∷ []) (authorizes_there wants) refl refl),
    quiet (authorizes_there wants ∷ begins_there wants ∷ []) (logs_in_there wants) refl refl,
  )

  three_show_none : AllByRecursion ShowsNone (three wants)
  three_show_none = (refl, (refl, (refl, tt)))

  four_unshared : IsUnshared (four wants)
  four_unshared = (three_unshared, gives_anew (three wants) (consents_there wants) refl (never_shown (consents_there wants) (three wants) three_show_none))

  -- the browser brings the response to the party
  abbrev heard : Bool → List Word
  heard token = words_in (option_and_then word_of_text (option_map word_text (if_wished token (word 16))))

  pub response_shows : (told : RpReply) → wants.token ≡ true → access_shown (responded wants told) ≡ word 16 ∷ []
  response_shows told token = ap heard token ∙ shown_16

  response_shows_none : (told : RpReply) → wants.token ≡ false → access_shown (responded wants told) ≡ []
  response_shows_none told token = ap heard token

  response_shares : (told : RpReply) → (wants.token ≡ true) ⊎ (wants.token ≡ false) → shares (four wants) (responded wants told) ≡ false
  response_shares told (inl token) = shows_rightly (four wants) (responded wants told) (word 16) (response_shows told token) refl (inr refl, (inl refl, (inl refl, (inl refl, tt))))
  response_shares told (inr none) = quiet (four wants) (responded wants told) (response_shows_none told none) refl

  pub response_unshared : (told : RpReply) → (wants.token ≡ true) ⊎ (wants.token ≡ false) → IsUnshared (responded wants told ∷ four wants)
  response_unshared told token = (four_unshared, response_shares told token)

  -- ---- the exchange of the code

  response_shows_other : (wants.token ≡ true) ⊎ (wants.token ≡ false) → shows_wrongly (four wants) (exchanged_there wants) (redeems_there wants) ≡ false
  response_shows_other (inl token) = shows_one (four wants) (exchanged_there wants) (redeems_there wants) (word 16) (response_shows exchange token) (inl refl)
  response_shows_other (inr none) = shows_none (four wants) (exchanged_there wants) (redeems_there wants) (response_shows_none exchange none)

  redeemed_shown : (wants.token ≡ true) ⊎ (wants.token ≡ false) → shown_before (redeems_there wants) (five wants) ≡ false
  redeemed_shown token =
      let R : Bool → Bool = λ b. b || shown_before (redeems_there wants) (four wants) in
      ap R (response_shows_other token) ∙ never_shown (redeems_there wants) (four wants) (refl, three_show_none)

  pub redeemed_unshared : (wants.token ≡ true) ⊎ (wants.token ≡ false) → IsUnshared (six wants)
  redeemed_unshared token = (response_unshared exchange token, gives_anew (five wants) (redeems_there wants) refl (redeemed_shown token))

-- ---- the tokens go back to the party that sent the token request

module _ (id token info : Bool) where
  abbrev wants : Wants
  wants = with_code id token info

  exchange_asks : asks_tokens 0 (word 17) (redeems wants) (exchanged_there wants) ≡ true
  exchange_asks = and_from (bytes_eq (word 17) (word 17)) (brings (redeems wants) message) (bytes_true (word 17) (word 17) refl) (brings_it (redeems wants) message refl refl)

  returned : list_any (asks_tokens 0 (word 17) (redeems wants)) (six wants) ≡ true
  returned = any_some (asks_tokens 0 (word 17) (redeems wants)) (six wants) (exchanged_there wants) (inr (inl refl)) exchange_asks

  given_shares : (told : RpReply) → shares (six wants) (given id token info told) ≡ false
  given_shares told =
      shows_rightly (six wants) (given id token info told) (word 21) shown_21 refl
      (inr returned, (inl refl, (inl (other_word token), (inl refl, (inl refl, (inl refl, tt))))))

  pub given_unshared : (told : RpReply) → (token ≡ true) ⊎ (token ≡ false) → IsUnshared (given id token info told ∷ six wants)
  given_unshared told is = (redeemed_unshared wants is, given_shares told)

-- ---- UserInfo

module _ (wants : Wants) (access : Word) (request : WorldAsk) (e : Entry RpAsk) (earlier : List Place) where
  abbrev asking : Place
  asking = asks_there wants access request e earlier

  abbrev informing : Place
  informing = informs_there wants access request e earlier

  -- the server of the party takes the access token
  pub taken : access_shown asking ≡ access ∷ [] → list_any (takes (informs wants access request e earlier) access) (asking ∷ earlier) ≡ true
  taken shown =
      let S : List Word → Bool = λ ws. is_among ws access in
      any_some (takes (informs wants access request e earlier) access) (asking ∷ earlier) asking (inl refl)
      (and_from (is_among (access_shown asking) access) (brings (informs wants access request e earlier) (question access)) (ap S shown ∙ among_one access) (brings_it (informs wants access request e earlier) (question access) refl refl))

  pub info_unshared : IsUnshared (asking ∷ earlier) → access_shown asking ≡ access ∷ []
      → (list_any (takes (informs wants access request e earlier) access) (asking ∷ earlier) ≡ true → AllByRecursion (IsShownRightly (asking ∷ earlier) informing access) (asking ∷ earlier))
      → IsUnshared (enters_there wants access request e earlier ∷ informing ∷ asking ∷ earlier)
  info_unshared before shown rightly = (
    (before, shows_rightly (asking ∷ earlier) informing access refl refl (rightly (taken shown))),
    quiet (informing ∷ asking ∷ earlier) (enters_there wants access request e earlier) refl refl,
  )

-- at a party without a code
pub front_info_unshared : (wants : Wants) (request : WorldAsk) (e : Entry RpAsk) → IsUnshared (asks_there wants (word 16) request e (four wants) ∷ four wants)
    → access_shown (asks_there wants (word 16) request e (four wants)) ≡ word 16 ∷ []
    → IsUnshared (enters_there wants (word 16) request e (four wants) ∷ informs_there wants (word 16) request e (four wants) ∷ asks_there wants (word 16) request e (four wants) ∷ four wants)
front_info_unshared wants request e before shown = info_unshared wants (word 16) request e (four wants) before shown (λ t. (inr t, (inr t, (inr t, (inr t, (inr t, tt))))))

-- and with one
pub code_info_unshared : (wants : Wants) (request : WorldAsk) (e : Entry RpAsk) → IsUnshared (asks_there wants (word 21) request e (six wants) ∷ six wants)
    → access_shown (asks_there wants (word 21) request e (six wants)) ≡ word 21 ∷ []
    → IsUnshared (enters_there wants (word 21) request e (six wants) ∷ informs_there wants (word 21) request e (six wants) ∷ asks_there wants (word 21) request e (six wants) ∷ six wants)
code_info_unshared wants request e before shown = info_unshared wants (word 21) request e (six wants) before shown (λ t. (inr t, (inr t, (inr t, (inr t, (inr t, (inr t, (inr t, tt))))))))
