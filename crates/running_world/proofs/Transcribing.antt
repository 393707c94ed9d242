-- The invariant of the places of a world is kept by one more place, and by indexing the newest.
use Rattle.std.proofs.Common.{◌≡◌, ◌≢◌, ℕ, zero, suc, ◌-◌, ◌<◌, Bool, true, false, List, [], ◌∷◌, ◌++◌, length, reverse, Option, Some, None, IfSome, slice_get, refl, sym, ap, ◌∙◌, subst, arith}
use Rattle.std.specs.List.{list_any}
use Rattle.std.proofs.lemmas.List.{length-map, reverse-append, reverse-reverse}
use Rattle.std.specs.Option.{option_or}
use Rattle.sso_base.specs.Words.{Word, Text}
use Rattle.client_registry.specs.Configuration.{Configuration}
use Rattle.client_registry.specs.Registered.{IsRegistry}
use Rattle.sso_places.specs.declared.types.Broken.{Broken}
use Rattle.sso_places.specs.declared.types.WorldReply.{WorldReply}
use Rattle.sso_places.specs.declared.types.WorldReply.TheVariants as reply
use Rattle.sso_places.specs.FirstBroken.{first_broken, verdict}
use Rattle.sso_places.specs.Site.{own_site}
use Rattle.sso_places.specs.Tokens.{TokenText as TokenPair}
use Rattle.sso_places.specs.World.{World}
use Rattle.world_index.specs.Setting.{set_for_other}
use Rattle.world_index.specs.Writing.{is_written_for}
use Rattle.world_index.specs.Issuing.{issued_of}
use Rattle.running_world.specs.declared.foreknown.Foreknown.{Foreknown}
use Rattle.cookie_jars.specs.declared.jar_note.Slot.{Slot}
use Rattle.running_world.specs.declared.judging.TokenText.{TokenText}
use Rattle.running_world.specs.declared.kept.Asked.{Asked}
use Rattle.running_world.specs.declared.kept.Kept.{Kept}
use Rattle.running_world.specs.declared.noting.Index.{Index}
use Rattle.running_world.specs.Breaking.{judged_asked, clash_told}
use Rattle.running_world.specs.Foreknowing.{IsKnown, IsForeknownAt}
use Rattle.running_world.specs.Forging.{forges}
use Rattle.running_world.specs.Indexed.{first_issued, IsIndexed, IsBehind}
use Rattle.cookie_jars.specs.JarsFound.{Jarred}
use Rattle.running_world.specs.Judging.{tokens_in, judged}
use Rattle.running_world.specs.Running.{kept_place, places_of, kept_at}
use Rattle.sso_places.specs.Legal.{IsRole}
use Rattle.running_world.specs.Transcribed.{ready_if, IsSettled, IsTranscript}
use Rattle.running_world.specs.Whole.{Answers}
use Rattle.running_world.proofs.Breaking.{broken_more, broken_nothing}
use Rattle.running_world.proofs.Forging.{judged_is}
use Rattle.running_world.proofs.Indexing.{first_none, index_more, index_nothing}
use Rattle.running_world.proofs.Keeping.{kept_by_place}

-- ---- one more place is ready

-- it was made ready, and this is the jar that may change
pub is_ready : (settled : Bool) (ready : Option Slot) (slot : Slot) → ready_if settled ready ≡ Some slot → (settled ≡ true) × (ready ≡ Some slot)
is_ready true ready slot is = (refl, is)
is_ready false ready slot is = absurd (cc)

-- so there is room, and the newest is noted
pub has_room : (settled : Bool) (count capacity : ℕ) (behind : Option Foreknown) → settled ≡ true → IsSettled settled count capacity behind → (count < capacity) × (behind ≡ None)
has_room true count capacity behind is room = room
has_room false count capacity behind is room = absurd (cc)

-- so the newest is noted
pub none_behind : (settled : Bool) (ready : Option Slot) (slot : Slot) (count capacity : ℕ) (behind : Option Foreknown) → ready_if settled ready ≡ Some slot → IsSettled settled count capacity behind → behind ≡ None
none_behind settled ready slot count capacity behind is room = (has_room settled count capacity behind (is_ready settled ready slot is).0 room).1

-- ---- nothing was kept

pub begun : (c : Configuration) (capacity : ℕ) (jars : Jarred) (index : Index) → IsRegistry c → jars.parties ≡ length c.parties → length index.written ≡ length c.clients
    → ((w : Word) (from : ℕ) → set_for_other index.setters w from ≡ false) → ((t : Text) (client : ℕ) → is_written_for index.written t client ≡ false) → ((half : Text) → issued_of index.halves half ≡ None)
    → IsTranscript c [] capacity jars index None None false
begun c capacity jars index read parties clients set wrote issued =
    record {
      registry = read;
      whole = tt;
      roles = tt;
      parties = parties;
      clients = clients;
      known = tt;
      newest = tt;
      indexed = record { set = set; wrote = wrote; issued = λ half. first_none (issued_of index.halves half) ∙ issued half };
      broken_is = refl;
      room = tt;
    }

-- ---- the places

module _ (c : Configuration) (kept : List Kept) (capacity : ℕ) (jars : Jarred) (index : Index) (behind : Option Foreknown) (broken : Option Broken) (settled : Bool) (is : IsTranscript c kept capacity jars index behind broken settled) where
  -- the newest is noted, or not; other jars are ready
  pub settled_so : (later : Index) (still : Option Foreknown) (room : ℕ) (other : Jarred) (now : Bool) → length later.written ≡ length index.written → IfSome still (IsKnown c) → IsBehind c still kept → IsIndexed c later still (places_of c kept)
      → other.parties ≡ jars.parties → IsSettled now (length kept) room still → IsTranscript c kept room other later still broken now
  settled_so later still room other now count known newest indexed parties settled_now =
      record {
        registry = is.registry;
        whole = is.whole;
        roles = is.roles;
        parties = parties ∙ is.parties;
        clients = count ∙ is.clients;
        known = known;
        newest = newest;
        indexed = indexed;
        broken_is = is.broken_is;
        room = settled_now;
      }

  module _ (all_noted : behind ≡ None) where
    indexed : IsIndexed c index None (places_of c kept)
    indexed = (let I : Option Foreknown → Type 0 = λ o. IsIndexed c index o (places_of c kept) in subst I all_noted is.indexed)

    issued : (half : Text) → issued_of index.halves half ≡ first_issued half (places_of c kept)
    issued half = sym (first_none (issued_of index.halves half)) ∙ indexed.issued half

    -- the premises at the next place, by its request
    pub judged_next : (number from : ℕ) (token : Option TokenText) (texts : List TokenPair) (words : List Word) (forged leaked : Bool) → number ≡ suc (length kept) → tokens_in token ≡ texts → forged ≡ forges c index.written token
        → leaked ≡ list_any (λ (w : Word). set_for_other index.setters w from) words → verdict number forged leaked ≡ judged (own_site c) (places_of c kept) from texts words
    judged_next number from token texts words forged leaked numbers tokens forged_is leaked_is =
        let n : ℕ = suc (length (places_of c kept)) in
        let long : number ≡ n = numbers ∙ sym (ap suc (length-map kept (kept_place c))) in
        ap (λ k. verdict k forged leaked) long
        ∙ ap (λ f. verdict n f leaked) forged_is
        ∙ ap (λ l. verdict n (forges c index.written token) l) leaked_is
        ∙ judged_is c index (places_of c kept) indexed from token texts words tokens

    -- a place is put
    pub put : (a : Asked) (answer : WorldReply) (tested : Option Broken) (fore : Foreknown) (room : ℕ) (later : Jarred) → later.parties ≡ jars.parties → IsRole c a.to → Answers a.to a.ask answer → tested ≡ judged_asked c (places_of c kept) a.from a.to a.ask → IsKnown c fore → IsForeknownAt c (places_of c kept) a.at a.to a.ask fore
        → IsTranscript c (record { asked = Some a; reply = answer } ∷ kept) room later index (Some fore) (option_or broken (option_or tested (clash_told index.halves (suc (length kept)) answer))) false
    put a answer tested fore room later parties role answers tested_is known foreknown =
        let world : World = places_of c kept in
        let k : Kept = record { asked = Some a; reply = answer } in
        let B : Option Broken → Option Broken → ℕ → Option Broken = λ b j n. option_or b (option_or j (clash_told index.halves n answer)) in
        record {
          registry = is.registry;
          whole = (answers, is.whole);
          roles = (role, is.roles);
          parties = parties ∙ is.parties;
          clients = is.clients;
          known = known;
          newest = foreknown;
          indexed = index_more c index fore (kept_place c k) world indexed;
          broken_is =
              ap (λ b. B b tested (suc (length kept))) is.broken_is
              ∙ ap (λ j. B (first_broken (own_site c) world) j (suc (length kept))) tested_is
              ∙ ap (λ n. B (first_broken (own_site c) world) (judged_asked c world a.from a.to a.ask) (suc n)) (sym (length-map kept (kept_place c)))
              ∙ broken_more c world a answer index.halves answers issued;
          room = tt;
        }

    -- a place without a request is kept
    pub skipped : (room : ℕ) → IsTranscript c (record { asked = None; reply = reply.Nothing } ∷ kept) room jars index None broken false
    skipped room =
        record {
          registry = is.registry;
          whole = (refl, is.whole);
          roles = (tt, is.roles);
          parties = is.parties;
          clients = is.clients;
          known = tt;
          newest = tt;
          indexed = index_nothing c index (places_of c kept) indexed;
          broken_is = is.broken_is ∙ sym (broken_nothing c (places_of c kept));
          room = tt;
        }

-- ---- what was kept, by number

pub found_at : (items : List Kept) (place : ℕ) → (place ≢ 0) → slice_get items (place - 1) ≡ kept_at (reverse items) place
found_at items zero some = absurd (some refl)
found_at items (suc i) some =
    let low : suc i - 1 ≡ i = omega arith in
    ap (λ j. slice_get items j) low
    ∙ ap (λ (ks : List Kept). slice_get ks i) (sym (reverse-reverse items))
    ∙ sym (kept_by_place (reverse items) i)

pub pushed : {X : Type 0} (xs : List X) (x : X) → reverse (xs ++ x ∷ []) ≡ x ∷ reverse xs
pushed xs x = reverse-append xs (x ∷ [])
