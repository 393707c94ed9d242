-- An honest login goes on: what is known after its last place stays while other places spare it, and its next place is of a later kind.
use Rattle.std.proofs.Common.{◌≡◌, ℕ, List, ◌∷◌, sym, subst, arith}
use Rattle.sso_base.specs.Words.{Word, Text, fresh_word}
use Rattle.sso_base.specs.declared.http.Ask.{Ask}
use Rattle.client_registry.specs.Configuration.{Configuration, subject_at}
use Rattle.client_registry.specs.Numbers.{party_row}
use Rattle.op_issue.specs.declared.issuing.Authentication.{Authentication}
use Rattle.op_answer.specs.Past.{OpPair}
use Rattle.rp_login.specs.declared.rows.Stage.{Stage}
use Rattle.rp_login.specs.declared.rows.Stage.TheVariants as stage
use Rattle.sso_places.specs.World.{Place, Provider, World}
use Rattle.honest_places.specs.Login.{Visitor, Spares}
use Rattle.sso_places.specs.Premises.{IsInOrder}
use Rattle.honest_login.proofs.Thread.{LoginKnown, Waiting, Knows, is_asking, is_paged, is_consenting, is_answered, is_exchanging, is_given, is_fetching, is_told, is_in}
use Rattle.honest_places.proofs.OwnWords.{own_later, own_grown}
use Rattle.honest_places.proofs.Worlds.{Now, later_at}
use Rattle.honest_provider.proofs.Facts.{turn_later, consent_later, access_later, answer_later}
use Rattle.honest_provider.proofs.Outcomes.{Paged, Consenting, AnswerKnown}
use Rattle.honest_party.proofs.Waiting.{login_waits_on, pending_waits_on}

module _ (c : Configuration) (v : Visitor) where
  -- ---- the party's rows: after a place of others, and after one of the login at the provider

  login_waited : (login : List Place) (world : World) (x : Place) (state nonce lb : Word) (from : ℕ) → Now c x world → Spares login x → LoginKnown v login world state nonce lb from
      → LoginKnown v login (x ∷ world) state nonce lb from
  login_waited login world x state nonce lb from now spares k =
      record {
        row = k.row;
        stands = login_waits_on c v.party login world state k.own x now spares k.row k.stands;
        state_is = k.state_is;
        nonce_is = k.nonce_is;
        browser_is = k.browser_is;
        begun_is = k.begun_is;
        own = own_later login world x state k.own;
        state_word = k.state_word;
        nonce_word = k.nonce_word;
        past = omega (arith, k.past, later_at x world now.order);
        jar = k.jar;
        jar_is = k.jar_is;
        first = k.first;
      }

  pub login_at_provider : (login : List Place) (world : World) (x : Place) (number : ℕ) (request : Ask) (p : OpPair) (state nonce lb : Word) (from : ℕ) → x ≡ Provider number request p → IsInOrder (x ∷ world)
      → LoginKnown v login world state nonce lb from → LoginKnown v (x ∷ login) (x ∷ world) state nonce lb from
  login_at_provider login world x number request p state nonce lb from is order k =
      let y : Place = Provider number request p in
      let O : Place → Type 0 = λ z. IsInOrder (z ∷ world) in
      let K : Place → Type 0 = λ z. LoginKnown v (z ∷ login) (z ∷ world) state nonce lb from in
      subst K (sym is) (record {
        row = k.row;
        stands = k.stands;
        state_is = k.state_is;
        nonce_is = k.nonce_is;
        browser_is = k.browser_is;
        begun_is = k.begun_is;
        own = own_grown login world y state k.own;
        state_word = k.state_word;
        nonce_word = k.nonce_word;
        past = omega (arith, k.past, later_at y world (subst O is order));
        jar = k.jar;
        jar_is = k.jar_is;
        first = k.first;
      })

  waiting_waited : (login : List Place) (world : World) (x : Place) (w : Word) (waits : Stage) (nonce : Word) (from at : ℕ) (sub : Text) → Now c x world → Spares login x
      → Waiting c v login world w waits nonce from at sub → Waiting c v login (x ∷ world) w waits nonce from at sub
  waiting_waited login world x w waits nonce from at sub now spares k =
      let s = k.stands in
      record {
        stands = record {
          row = s.row;
          found = pending_waits_on c v.party login world w k.own x now spares s.row s.found;
          word = s.word;
          stage = s.stage;
          nonce = s.nonce;
          begun = s.begun;
          since = s.since;
          subject = s.subject;
        };
        own = own_later login world x w k.own;
        past = omega (arith, k.past, later_at x world now.order);
      }

  pub waiting_at_provider : (login : List Place) (world : World) (x : Place) (number : ℕ) (request : Ask) (p : OpPair) (w : Word) (waits : Stage) (nonce : Word) (from at : ℕ) (sub : Text) → x ≡ Provider number request p
      → IsInOrder (x ∷ world) → Waiting c v login world w waits nonce from at sub → Waiting c v (x ∷ login) (x ∷ world) w waits nonce from at sub
  waiting_at_provider login world x number request p w waits nonce from at sub is order k =
      let y : Place = Provider number request p in
      let O : Place → Type 0 = λ z. IsInOrder (z ∷ world) in
      let K : Place → Type 0 = λ z. Waiting c v (z ∷ login) (z ∷ world) w waits nonce from at sub in
      subst K (sym is) (record { stands = k.stands; own = own_grown login world y w k.own; past = omega (arith, k.past, later_at y world (subst O is order)) })

-- ---- while other places spare it

module _ (c : Configuration) (v : Visitor) where
  abbrev K : World → Place → List Place → Type 0
  K world last earlier = Knows c v world last earlier

  module _ (world : World) (last : Place) (earlier : List Place) (x : Place) (now : Now c x world) (spares : Spares (last ∷ earlier) x) where
    abbrev L : List Place
    L = last ∷ earlier

    answer_waited : (state nonce : Word) (from : ℕ) (who : Authentication) (at : ℕ) (fresh : List Word) → AnswerKnown c v L world state nonce from who at fresh → AnswerKnown c v L (x ∷ world) state nonce from who at fresh
    answer_waited state nonce from who at fresh k = record {
      may = k.may;
      age = k.age;
      past = omega (arith, k.past, later_at x world now.order);
      known = answer_later c v L world x now spares state nonce who fresh k.known;
      visitor = k.visitor;
    }

    paged_waited : (state nonce : Word) → Paged c v L world last state nonce → Paged c v L (x ∷ world) last state nonce
    paged_waited state nonce page = record {
      turn = page.turn;
      browser = page.browser;
      replied = page.replied;
      known = turn_later c v L world x now spares page.turn page.browser state nonce page.known;
    }

    consenting_waited : (state nonce : Word) (from : ℕ) → Consenting c v L world last state nonce from → Consenting c v L (x ∷ world) last state nonce from
    consenting_waited state nonce from page = record {
      turn = page.turn;
      browser = page.browser;
      given = page.given;
      client = page.client;
      scopes = page.scopes;
      replied = page.replied;
      known = consent_later c v L world x now spares page.turn page.browser state nonce from page.known;
    }

    pub stays : K world last earlier → K (x ∷ world) last earlier
    stays (is_asking k) = is_asking (record {
      state = k.state;
      nonce = k.nonce;
      lb = k.lb;
      from = k.from;
      login = login_waited c v L world x k.state k.nonce k.lb k.from now spares k.login;
      replied = k.replied;
      short = k.short;
      quiet = k.quiet;
    })
    stays (is_paged k) = is_paged (record {
      state = k.state;
      nonce = k.nonce;
      lb = k.lb;
      from = k.from;
      login = login_waited c v L world x k.state k.nonce k.lb k.from now spares k.login;
      page = paged_waited k.state k.nonce k.page;
      short = k.short;
    })
    stays (is_consenting k) = is_consenting (record {
      state = k.state;
      nonce = k.nonce;
      lb = k.lb;
      from = k.from;
      login = login_waited c v L world x k.state k.nonce k.lb k.from now spares k.login;
      page = consenting_waited k.state k.nonce k.from k.page;
      short = k.short;
    })
    stays (is_answered k) = is_answered (record {
      state = k.state;
      nonce = k.nonce;
      lb = k.lb;
      from = k.from;
      login = login_waited c v L world x k.state k.nonce k.lb k.from now spares k.login;
      answer = record {
        who = k.answer.who;
        at = k.answer.at;
        fresh = k.answer.fresh;
        given = k.answer.given;
        replied = k.answer.replied;
        known = answer_waited k.state k.nonce k.from k.answer.who k.answer.at k.answer.fresh k.answer.known;
      };
      short = k.short;
    })
    stays (is_exchanging k) = is_exchanging (record {
      state = k.state;
      nonce = k.nonce;
      from = k.from;
      state_word = k.state_word;
      nonce_word = k.nonce_word;
      who = k.who;
      at = k.at;
      fresh = k.fresh;
      request = k.request;
      pair = k.pair;
      place = k.place;
      replied = k.replied;
      code = k.code;
      known = answer_waited k.state k.nonce k.from k.who k.at k.fresh k.known;
      waits = waiting_waited c v L world x (fresh_word k.pair.entry.fresh 0) stage.Tokens k.nonce k.from k.pair.entry.at (subject_at c (party_row c v.party).client k.who.user) now spares k.waits;
      short = k.short;
    })
    stays (is_given k) = is_given (record {
      state = k.state;
      nonce = k.nonce;
      from = k.from;
      since = k.since;
      state_word = k.state_word;
      nonce_word = k.nonce_word;
      user = k.user;
      visitor = k.visitor;
      giving = record {
        who = k.giving.who;
        at = k.giving.at;
        access = k.giving.access;
        replied = k.giving.replied;
        may = k.giving.may;
        age = k.giving.age;
        after = k.giving.after;
        past = omega (arith, k.giving.past, later_at x world now.order);
        user_is = k.giving.user_is;
        known = access_later c v L world x now spares k.giving.access k.user k.giving.known;
      };
      w = k.w;
      message = k.message;
      before = k.before;
      waits = waiting_waited c v L world x k.w stage.Tokens k.nonce k.from k.since (subject_at c (party_row c v.party).client k.user) now spares k.waits;
      short = k.short;
    })
    stays (is_fetching k) = is_fetching (record {
      nonce = k.nonce;
      from = k.from;
      since = k.since;
      user = k.user;
      visitor = k.visitor;
      w = k.w;
      access = k.access;
      known = access_later c v L world x now spares k.access k.user k.known;
      request = k.request;
      pair = k.pair;
      place = k.place;
      replied = k.replied;
      waits = waiting_waited c v L world x k.w stage.Info k.nonce k.from k.since (subject_at c (party_row c v.party).client k.user) now spares k.waits;
      short = k.short;
    })
    stays (is_told k) = is_told (record {
      nonce = k.nonce;
      from = k.from;
      since = k.since;
      user = k.user;
      visitor = k.visitor;
      telling = record { scopes = k.telling.scopes; asked = k.telling.asked; replied = k.telling.replied };
      w = k.w;
      message = k.message;
      before = k.before;
      waits = waiting_waited c v L world x k.w stage.Info k.nonce k.from k.since (subject_at c (party_row c v.party).client k.user) now spares k.waits;
      short = k.short;
    })
    stays (is_in k) = is_in (record { user = k.user; visitor = k.visitor; request = k.request; pair = k.pair; word = k.word; place = k.place; replied = k.replied; short = k.short })
