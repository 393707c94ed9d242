-- The location of a login carries the request object that is written.
use Rattle.std.proofs.Common.{◌≡◌, ◌<◌, ◌≤◌, ℕ, zero, suc, Bool, true, false, List, [], ◌∷◌, length, cond, refl, sym, ◌∙◌, subst, arith}
use Rattle.std.specs.List.{AllByRecursion}
use Rattle.std.specs.Str.{IsUtf8}
use Rattle.sso_base.specs.Words.{Word, Text, IsWord, fresh_word}
use Rattle.sso_base.specs.declared.history.Entry.{Entry}
use Rattle.sso_base.specs.Values.{AreWords}
use Rattle.claim_set.proofs.PlainTexts.{IsUtf8-plain}
use Rattle.client_registry.specs.Configuration.{Configuration}
use Rattle.client_registry.specs.Numbers.{party_row, party_client}
use Rattle.op_issue.proofs.RegistryRows.{issuer_is_plain}
use Rattle.login_request.specs.Parties.{MayAsk}
use Rattle.login_request.specs.Request.{login_location, login_object}
use Rattle.login_request.proofs.SignedEnds.{signed_ends}
use Rattle.rp_exchange.specs.declared.ask.RpAsk.{RpAsk}
use Rattle.rp_exchange.specs.declared.ask.RpAsk.TheVariants.{Begin}
use Rattle.rp_exchange.specs.declared.reply.RpReply.{RpReply}
use Rattle.rp_exchange.specs.declared.reply.RpReply.TheVariants.{Ask}
use Rattle.rp_answer.specs.Past.{RpPair, RpPast}
use Rattle.rp_answer.specs.Legal.{IsLegalRp}
use Rattle.rp_answer.specs.Causes.{AskCause}
use Rattle.rp_answer.proofs.Answers.{asks_have_a_cause}
use Rattle.sso_places.specs.Site.{Site, IsSite, setup_at, client_of_party}
use Rattle.sso_places.specs.Tokens.{TokenText}
use Rattle.sso_places.specs.Written.{CarriesObject, rp_written}

-- ---- a party of a site may ask, with words that were drawn

-- a drawn word is a word
pub drawn_word : (fresh : List Word) (k : ℕ) → AreWords fresh → k < length fresh → IsWord (fresh_word fresh k)
drawn_word [] k words low = absurd (omega (arith, low))
drawn_word (w ∷ fresh) zero words low = words.0
drawn_word (w ∷ fresh) (suc k) words low = drawn_word fresh k words.1 (omega (arith, low))

pub may_ask : (s : Site) (n : ℕ) (state nonce : Word) → IsSite s → n < length s.configuration.parties → IsWord state → IsWord nonce → MayAsk s.configuration n (s.trusts n).issuer state nonce
may_ask s n state nonce site known state_word nonce_word =
    let c : Configuration = s.configuration in
    let short : length c.provider.issuer ≤ 200 = site.registry.short_issuer in
    let Short : Text → Type 0 = λ t. length t ≤ 200 in
    record {
      registry = site.registry;
      party = known;
      issuer_text = subst IsUtf8 (sym (site.one_issuer n)) (IsUtf8-plain c.provider.issuer (issuer_is_plain c site.registry).plain);
      short_issuer = subst Short (sym (site.one_issuer n)) short;
      state_word = state_word;
      nonce_word = nonce_word;
    }

-- ---- its location carries the object

-- of a party that signs its requests, and of one that does not
carried : (to : Text) (object : TokenText) (signed : Bool) → (signed ≡ true → CarriesObject to object) → AllByRecursion (CarriesObject to) (cond signed (object ∷ []) [])
carried to object true carries = (carries refl, tt)
carried to object false carries = tt

located_at : (s : Site) (n : ℕ) (past : RpPast) (e : Entry RpAsk) (asked : RpAsk) (to : Text) (browser : Word) → AskCause (setup_at s n) past e asked to browser
    → login_location (party_client s.configuration n) (party_row s.configuration n) (s.trusts n) (fresh_word e.fresh 1) (fresh_word e.fresh 2) ≡ to
located_at s n past e (Begin presented) to browser cause = cause.location
located_at s n past e asked to browser cause = absurd cause

pub objects_carried : (s : Site) (n : ℕ) (p : RpPair) (past : RpPast) (to : Text) (browser : Word) → IsSite s → n < length s.configuration.parties
    → IsLegalRp (setup_at s n) (p ∷ past) → p.reply ≡ Ask to browser → AllByRecursion (CarriesObject to) (rp_written s n p.entry.fresh p.reply)
objects_carried s n p past to browser site known legal replied =
    let c : Configuration = s.configuration in
    let fresh : List Word = p.entry.fresh in
    let W : RpReply → Type 0 = λ r. AllByRecursion (CarriesObject to) (rp_written s n fresh r) in
    let four : length fresh ≡ 4 = legal.1.four in
    let may : MayAsk c n (s.trusts n).issuer (fresh_word fresh 1) (fresh_word fresh 2) =
    may_ask s n (fresh_word fresh 1) (fresh_word fresh 2) site known (drawn_word fresh 1 legal.1.words (omega (arith, four))) (drawn_word fresh 2 legal.1.words (omega (arith, four))) in
    let at : login_location (party_client c n) (party_row c n) (s.trusts n) (fresh_word fresh 1) (fresh_word fresh 2) ≡ to =
    located_at s n past p.entry p.entry.ask to browser (asks_have_a_cause (setup_at s n) past p.entry to browser (sym legal.3 ∙ replied)) in
    subst W (sym replied)
    (carried to (client_of_party s n, login_object (party_client c n) (party_row c n) (s.trusts n).issuer (fresh_word fresh 1) (fresh_word fresh 2)) (party_row c n).signed
    (λ signed. let ends = signed_ends c n (s.trusts n) (fresh_word fresh 1) (fresh_word fresh 2) may signed in record { front = ends.0; parts = sym at ∙ ends.1 }))
