-- One more place of a world: the histories of the roles are what the places say, and the place is the answer of the role.
use Rattle.std.proofs.Common.{◌≡◌, ℕ, zero, suc, ◌<◌, ◌==◌, Bool, cond, List, [], ◌∷◌, length, Some, slice_get, inl, inr, refl, sym, ap, ◌∙◌, subst, eq-eqb, ne_eqb, arith}
use Rattle.std.specs.List.{slice_set}
use Rattle.std.proofs.lemmas.Bool.{eqb-true, eqb-false}
use Rattle.std.proofs.lemmas.Option.{same_Some}
use Rattle.sso_base.specs.Words.{Word}
use Rattle.sso_base.specs.Legal.{last_moment}
use Rattle.sso_base.specs.declared.http.Ask.{Ask}
use Rattle.sso_base.specs.declared.history.Entry.{Entry}
use Rattle.sso_base.proofs.RowLaws.{bool_cases}
use Rattle.client_registry.specs.Configuration.{Configuration}
use Rattle.op_exchange.specs.declared.ask.OpAsk.{OpAsk}
use Rattle.op_exchange.specs.declared.reply.OpReply.{OpReply}
use Rattle.op_request.specs.Prepared.{prepared as op_prepared}
use Rattle.op_answer.specs.Past.{OpPast}
use Rattle.op_answer.specs.Answering.{op_answer}
use Rattle.op_answer.specs.Legal.{IsLegalOp}
use Rattle.op_core.specs.Providing.{Providing, past_of as op_past_of}
use Rattle.rp_exchange.specs.declared.ask.RpAsk.{RpAsk}
use Rattle.rp_exchange.specs.declared.reply.RpReply.{RpReply}
use Rattle.rp_answer.specs.Past.{RpPair, RpPast}
use Rattle.rp_answer.specs.Setup.{PartySetup}
use Rattle.rp_answer.specs.Answering.{rp_answer}
use Rattle.rp_answer.specs.Legal.{IsLegalRp}
use Rattle.rp_core.specs.Relying.{Relying, past_of as rp_past_of}
use Rattle.sso_places.specs.declared.types.To.TheVariants as to
use Rattle.sso_places.specs.declared.types.WorldAsk.{WorldAsk}
use Rattle.sso_places.specs.declared.types.WorldAsk.TheVariants.{Http}
use Rattle.sso_places.specs.Legal.{party_prepared}
use Rattle.sso_places.specs.Site.{own_site, setup_at}
use Rattle.sso_places.specs.World.{Place, Provider, Party, Nothing, World, op_past, rp_past}
use Rattle.running_world.specs.Roles.{OpSteps, RpStepsAt}
use Rattle.running_world.specs.Running.{op_place, rp_place}
use Rattle.running_world.specs.Stepping.{later, stepped}
use Rattle.running_world.specs.Worlds.{IsParty, IsWorld}

-- ---- the provider

module _ (c : Configuration) (before after : Providing) (parties : List Relying) (world : World) (is : IsWorld c before parties world) (from at moment : ℕ) (fresh : List Word) (request : Ask) (answer : OpReply) (steps : OpSteps before after at fresh (op_prepared c request) moment answer) where
  op_history : op_past_of after ≡ (record { entry = record { at = moment; fresh = fresh; ask = op_prepared c request }; reply = answer }) ∷ op_past world
  op_history =
      let P : OpPast → OpPast = λ past. (record { entry = record { at = moment; fresh = fresh; ask = op_prepared c request }; reply = answer }) ∷ past in
      steps.past ∙ ap P is.past

  op_legal : IsLegalOp c ((record { entry = record { at = moment; fresh = fresh; ask = op_prepared c request }; reply = answer }) ∷ op_past world)
  op_legal =
      let L : OpPast → Type 0 = λ past. IsLegalOp c past in
      let R : Configuration → Type 0 = λ r. IsLegalOp r (op_past_of after) in
      subst L op_history (subst R (steps.registry ∙ is.registry) steps.legal)

  pub op_world : IsWorld c after parties (op_place c from moment fresh request answer ∷ world)
  op_world =
      record {
        read = is.read;
        registry = steps.registry ∙ is.registry;
        past = op_history;
        count = is.count;
        each = λ n role there. (let was : IsParty c world n role = is.each n role there in record { setup = was.setup; past = was.past });
        legal = record { provider = op_legal; parties = is.legal.parties; asked = (refl, is.legal.asked) };
      }

  pub op_stepped : op_place c from moment fresh request answer ≡ stepped (own_site c) from to.Provider at fresh (Http request) world
  op_stepped =
      let E : ℕ → Entry OpAsk = λ t. record { at = t; fresh = fresh; ask = op_prepared c request } in
      let past : OpPast = op_past world in
      let moments : moment ≡ later (last_moment past) at = steps.moment_is ∙ ap (λ (q : OpPast). later (last_moment q) at) is.past in
      let replies : answer ≡ op_answer c past (E moment) =
      steps.answer_is ∙ ap (λ (r : Configuration). op_answer r (op_past_of before) (E moment)) is.registry ∙ ap (λ (q : OpPast). op_answer c q (E moment)) is.past in
      let P : OpReply → Place = λ r. Provider from request (record { entry = E moment; reply = r }) in
      let R : ℕ → Place = λ t. Provider from request (record { entry = E t; reply = op_answer c past (E t) }) in
      ap P replies ∙ ap R moments

-- ---- pasts of parties

past_own : (n from : ℕ) (ask : WorldAsk) (p : RpPair) (world : World) → rp_past n (Party n from ask p ∷ world) ≡ p ∷ rp_past n world
past_own n from ask p world =
    let F : Bool → RpPast = λ b. cond b (p ∷ rp_past n world) (rp_past n world) in
    ap F (eq-eqb n n refl)

past_other : (n k from : ℕ) (ask : WorldAsk) (p : RpPair) (world : World) → (n ≡ k → ⊥) → rp_past k (Party n from ask p ∷ world) ≡ rp_past k world
past_other n k from ask p world other =
    let F : Bool → RpPast = λ b. cond b (p ∷ rp_past k world) (rp_past k world) in
    ap F (ne_eqb n k other)

-- ---- rows by number

pub get_some : {X : Type 0} (xs : List X) (k : ℕ) → k < length xs → (x : X) × (slice_get xs k ≡ Some x)
get_some [] k low = absurd (omega arith)
get_some (x ∷ xs) zero low = (x, refl)
get_some (x ∷ xs) (suc k) low = get_some xs k (omega arith)

get_set_same : {X : Type 0} (xs : List X) (n : ℕ) (v x : X) → slice_get xs n ≡ Some x → slice_get (slice_set xs n v) n ≡ Some v
get_set_same [] n v x at = absurd (cc)
get_set_same (y ∷ xs) zero v x at = refl
get_set_same (y ∷ xs) (suc n) v x at = get_set_same xs n v x at

get_set_other : {X : Type 0} (xs : List X) (n j : ℕ) (v : X) → (n ≡ j → ⊥) → slice_get (slice_set xs n v) j ≡ slice_get xs j
get_set_other [] n j v other = refl
get_set_other (y ∷ xs) zero zero v other = absurd (other refl)
get_set_other (y ∷ xs) zero (suc j) v other = refl
get_set_other (y ∷ xs) (suc n) zero v other = refl
get_set_other (y ∷ xs) (suc n) (suc j) v other = get_set_other xs n j v (λ same. other (omega arith))

length_set : {X : Type 0} (xs : List X) (n : ℕ) (v : X) → length (slice_set xs n v) ≡ length xs
length_set [] n v = refl
length_set (y ∷ xs) zero v = refl
length_set (y ∷ xs) (suc n) v = ap suc (length_set xs n v)

-- ---- a party

module _ (c : Configuration) (provider : Providing) (before after : List Relying) (world : World) (is : IsWorld c provider before world) (from n at moment : ℕ) (low : n < length c.parties) (fresh : List Word) (ask : WorldAsk) (answer : RpReply) (took : RpStepsAt before after n at fresh (party_prepared c n ask) moment answer) where
  was_party : IsParty c world n took.old
  was_party = is.each n took.old took.found

  rp_history : rp_past_of took.new ≡ (record { entry = record { at = moment; fresh = fresh; ask = party_prepared c n ask }; reply = answer }) ∷ rp_past n world
  rp_history =
      let P : RpPast → RpPast = λ past. (record { entry = record { at = moment; fresh = fresh; ask = party_prepared c n ask }; reply = answer }) ∷ past in
      took.steps.past ∙ ap P was_party.past

  is_party : IsParty c (rp_place c n from moment fresh ask answer ∷ world) n took.new
  is_party =
      record {
        setup = took.steps.setup ∙ was_party.setup;
        past = rp_history ∙ sym (past_own n from ask (record { entry = record { at = moment; fresh = fresh; ask = party_prepared c n ask }; reply = answer }) world);
      }

  rp_each : (j : ℕ) (role : Relying) → slice_get (slice_set before n took.new) j ≡ Some role → IsParty c (rp_place c n from moment fresh ask answer ∷ world) j role
  rp_each j role at_j =
      let p : RpPair = record { entry = record { at = moment; fresh = fresh; ask = party_prepared c n ask }; reply = answer } in
      let x : Place = Party n from ask p in
      elim (bool_cases (n == j)) [
        | inl e ↦
            (let same : n ≡ j = eqb-true n j e in
            let G : ℕ → Type 0 = λ i. slice_get (slice_set before n took.new) i ≡ Some took.new in
            let here : took.new ≡ role = same_Some took.new role (sym (subst G same (get_set_same before n took.new took.old took.found)) ∙ at_j) in
            let N : ℕ → Type 0 = λ i. IsParty c (x ∷ world) i took.new in
            let I : Relying → Type 0 = λ r. IsParty c (x ∷ world) j r in
            subst I here (subst N same is_party))
        | inr e ↦
            (let other : n ≡ j → ⊥ = eqb-false n j e in
            let was : IsParty c world j role = is.each j role (sym (get_set_other before n j took.new other) ∙ at_j) in
            record { setup = was.setup; past = was.past ∙ sym (past_other n j from ask p world other) })
      ]

  rp_legal : (j : ℕ) → IsLegalRp (setup_at (own_site c) j) (rp_past j (rp_place c n from moment fresh ask answer ∷ world))
  rp_legal j =
      let p : RpPair = record { entry = record { at = moment; fresh = fresh; ask = party_prepared c n ask }; reply = answer } in
      let x : Place = Party n from ask p in
      elim (bool_cases (n == j)) [
        | inl e ↦
            (let S : PartySetup → Type 0 = λ z. IsLegalRp z (rp_past_of took.new) in
            let Q : RpPast → Type 0 = λ q. IsLegalRp (setup_at (own_site c) n) q in
            let own : IsLegalRp (setup_at (own_site c) n) (rp_past n (x ∷ world)) = subst Q is_party.past (subst S is_party.setup took.steps.legal) in
            let J : ℕ → Type 0 = λ i. IsLegalRp (setup_at (own_site c) i) (rp_past i (x ∷ world)) in
            subst J (eqb-true n j e) own)
        | inr e ↦
            (let Q : RpPast → Type 0 = λ q. IsLegalRp (setup_at (own_site c) j) q in
            subst Q (sym (past_other n j from ask p world (eqb-false n j e))) (is.legal.parties j))
      ]

  pub rp_world : IsWorld c provider after (rp_place c n from moment fresh ask answer ∷ world)
  rp_world =
      let x : Place = rp_place c n from moment fresh ask answer in
      let W : List Relying → Type 0 = λ ps. IsWorld c provider ps (x ∷ world) in
      let done : IsWorld c provider (slice_set before n took.new) (x ∷ world) =
      record {
        read = is.read;
        registry = is.registry;
        past = is.past;
        count = length_set before n took.new ∙ is.count;
        each = rp_each;
        legal = record { provider = is.legal.provider; parties = rp_legal; asked = ((low, refl), is.legal.asked) };
      } in
      subst W (sym took.set) done

  pub rp_stepped : rp_place c n from moment fresh ask answer ≡ stepped (own_site c) from (to.Party n) at fresh ask world
  rp_stepped =
      let setup : PartySetup = setup_at (own_site c) n in
      let past : RpPast = rp_past n world in
      let E : ℕ → Entry RpAsk = λ t. record { at = t; fresh = fresh; ask = party_prepared c n ask } in
      let moments : moment ≡ later (last_moment past) at = took.steps.moment_is ∙ ap (λ (q : RpPast). later (last_moment q) at) was_party.past in
      let replies : answer ≡ rp_answer setup past (E moment) =
      took.steps.answer_is ∙ ap (λ (z : PartySetup). rp_answer z (rp_past_of took.old) (E moment)) was_party.setup ∙ ap (λ (q : RpPast). rp_answer setup q (E moment)) was_party.past in
      let P : RpReply → Place = λ r. Party n from ask (record { entry = E moment; reply = r }) in
      let R : ℕ → Place = λ t. Party n from ask (record { entry = E t; reply = rp_answer setup past (E t) }) in
      ap P replies ∙ ap R moments

-- ---- nothing

pub nothing_world : (c : Configuration) (provider : Providing) (parties : List Relying) (world : World) → IsWorld c provider parties world → IsWorld c provider parties (Nothing ∷ world)
nothing_world c provider parties world is =
    record {
      read = is.read;
      registry = is.registry;
      past = is.past;
      count = is.count;
      each = λ n role there. (let was : IsParty c world n role = is.each n role there in record { setup = was.setup; past = was.past });
      legal = record { provider = is.legal.provider; parties = is.legal.parties; asked = (tt, is.legal.asked) };
    }
