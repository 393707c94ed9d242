-- A world in which a login begins meets the premises of the theorem, so the conclusion is true for it.
use Rattle.std.proofs.Common.{◌≡◌, ℕ, zero, suc, [], ◌∷◌, Some, refl, sym, arith}
use Rattle.sso_base.specs.Words.{word_text}
use Rattle.sso_model.specs.Machine.{start}
use Rattle.rp_exchange.specs.Values.{IsRpAsk}
use Rattle.rp_answer.specs.Legal.{IsLegalRp}
use Rattle.rp_answer.proofs.Sample.{word, pair_of}
use Rattle.rp_answer.proofs.FirstVisit.{begin_entry, asked}
use Rattle.sso_places.specs.declared.types.WorldAsk.TheVariants.{Http}
use Rattle.sso_places.specs.Site.{setup_at}
use Rattle.sso_places.specs.World.{Party, World, rp_past, drawn}
use Rattle.sso_places.specs.Legal.{IsLegalWorld}
use Rattle.sso_places.specs.Premises.{HasDistinctWords, HasDistinctHashes, IsUnleaked, IsUnforged, IsJoined}
use Rattle.sso_places.specs.Reading.{machine_of}
use Rattle.sso_places.specs.Agreement.{SignsOn}
use Rattle.sso_places.specs.Binding.{IsBound}
use Rattle.sign_on.proofs.Agreeing.{agrees}
use Rattle.sign_on.proofs.Bound.{is_bound}
use Rattle.sso_places.proofs.SmallSite.{site, site_is, are_distinct, legal_entry, is_other}
use Rattle.sso_places.proofs.LoginByCode.{begins, begin_is_asked, begin_is_answered}

-- browser 1 begins a login at the first party
abbrev begun : World
begun = Party 0 1 (Http begins) (pair_of begin_entry asked) ∷ []

each_legal : (n : ℕ) → IsLegalRp (setup_at site n) (rp_past n begun)
each_legal zero = (tt, legal_entry IsRpAsk 1 begin_entry.ask refl tt, omega arith, sym begin_is_answered)
each_legal (suc n) = rw (is_other 0 (suc n) (λ same. omega (arith, same))) tt

legal : IsLegalWorld site begun
legal = record { provider = tt; parties = each_legal; asked = ((omega arith, sym begin_is_asked), tt) }

distinct : HasDistinctWords begun
distinct = are_distinct (drawn begun) refl

unleaked : IsUnleaked begun
unleaked = (tt, refl)

unforged : IsUnforged site begun
unforged = (tt, refl)

joined : IsJoined begun
joined = (tt, tt)

hashes : HasDistinctHashes begun
hashes = λ v w has_v has_w same. absurd has_v

begun_signs_on : SignsOn site begun
begun_signs_on = (agrees site begun site_is legal distinct unleaked unforged joined).run

begun_is_bound : IsBound site begun
begun_is_bound = is_bound site begun site_is legal distinct unleaked unforged joined hashes

begun_machine : machine_of site begun ≡ record start { began = record { client = 0; browser = 1; nonce = Some (word_text (word 3)) } ∷ [] }
begun_machine = refl
