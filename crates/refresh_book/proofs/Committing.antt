-- What is kept after one more entry.
use Rattle.std.proofs.Common.{◌≡◌, ◌≤◌, ◌<◌, ℕ, suc, ◌+◌, Bool, true, false, not, List, [], ◌∷◌, ◌++◌, length, reverse, Option, Some, None, option_map, option_and_then, Ok, Err, IfSome, refl, ap, sym, ◌∙◌, subst, arith}
use Rattle.std.specs.List.{list_all}
use Rattle.sso_base.specs.Words.{Word, fresh_word}
use Rattle.sso_base.specs.Rows.{put, lives, if_lives, live_rows}
use Rattle.sso_base.specs.Legal.{last_moment, IsEntry}
use Rattle.sso_base.specs.Journal.{history_weight, extended}
use Rattle.sso_base.specs.declared.history.Entry.{Entry}
use Rattle.sso_base.specs.declared.history.Pair.{Pair}
use Rattle.sso_base.proofs.Histories.{past_more}
use Rattle.client_registry.specs.Configuration.{Configuration}
use Rattle.code_grant.specs.declared.rows.CodeRow.{CodeRow}
use Rattle.oidc_words.specs.Lives.{turn_life, code_life, access_life, family_life}
use Rattle.held_rows.specs.Held.{MayAddRow}
use Rattle.token_endpoint.specs.declared.no.GrantNo.TheVariants as no
use Rattle.op_exchange.specs.declared.ask.OpAsk.{OpAsk}
use Rattle.op_exchange.specs.declared.reply.OpReply.{OpReply}
use Rattle.op_answer.specs.Past.{OpPair}
use Rattle.core_stack.specs.declared.kept.Kept.TheVariants as kept
use Rattle.core_stack.specs.declared.marks.TurnMark.{TurnMark}
use Rattle.core_stack.specs.declared.marks.CodeMark.{CodeMark}
use Rattle.core_stack.specs.Kept.{passed_count}
use Rattle.core_stack.specs.Rows.{turn_mark_name, turn_mark_begun, code_mark_name, code_mark_begun}
use Rattle.core_stack.specs.Marks.{is_wish, turn_row, named_in, turn_ended, turns_left, code_row, answer_mark}
use Rattle.core_stack.specs.Stacked.{IsStack}
use Rattle.core_stack.specs.Holding.{HoldMarks}
use Rattle.core_stack.proofs.Numbers.{low_twice, one_longer, later_moment, none_heavy}
use Rattle.core_stack.proofs.Merging.{count_passes, count_own, merged_passes, merged_own}
use Rattle.core_stack.proofs.Passing.{inner_reversed, inner_last, inner_lighter}
use Rattle.core_stack.proofs.Stepping.{weight_after, legal_own, legal_passed}
use Rattle.core_stack.proofs.MarksHeld.{holds_own, holds_passed, turn_may, code_may, may_through}
use Rattle.refresh_answer.specs.declared.asks.RefreshAsk.{RefreshAsk}
use Rattle.refresh_answer.specs.declared.asks.RefreshAsk.TheVariants as ask
use Rattle.refresh_answer.specs.declared.asks.RefreshParts.{RefreshParts}
use Rattle.refresh_answer.specs.declared.asks.OwnReply.{OwnReply}
use Rattle.refresh_answer.specs.declared.asks.OwnReply.TheVariants as replies
use Rattle.refresh_answer.specs.declared.asks.RefreshReply.{RefreshReply}
use Rattle.refresh_answer.specs.declared.asks.RefreshReply.TheVariants.{Own}
use Rattle.refresh_answer.specs.declared.rows.FamilyRow.{FamilyRow}
use Rattle.refresh_answer.specs.declared.rows.RefreshRow.{RefreshRow}
use Rattle.refresh_answer.specs.declared.rows.AccessRow.{AccessRow}
use Rattle.refresh_answer.specs.Rows.{family_begun, access_begun}
use Rattle.refresh_answer.specs.Around.{Outer, passed, inner_history, reply_around, around, own_pair, merged_history, outer_plain, outer_given, outer_weight, offline_mark, IsRefreshAsk}
use Rattle.refresh_answer.specs.Families.{if_true, family_for, family_at, families, code_offline, begins}
use Rattle.refresh_answer.specs.Answering.{Setup, with_first, IsReply, refresh_reply, own_reply, info_reply, IsRefreshReply, IsLegalRefresh}
use Rattle.refresh_answer.proofs.Families.{some_none, true_false}
use Rattle.refresh_answer.proofs.Current.{numbered}
use Rattle.refresh_answer.proofs.Passed.{passed_moment, passed_weight, around_passes, own_passes_none, outer_stack}
use Rattle.refresh_rows.specs.Booked.{Booked, is_of_place}
use Rattle.refresh_book.specs.declared.renewing.Renewal.{Renewal}
use Rattle.refresh_book.specs.declared.renewing.Renewal.TheVariants as renewed
use Rattle.refresh_book.specs.Keeps.{KeptEntry, is_refresh_ask, is_own_family, code_held, IsBookAt, Keeps}
use Rattle.refresh_book.specs.Renewing.{reply_of, renewal_asked, tokens_left, accesses_left, Noted}
use Rattle.refresh_book.specs.Beginning.{MayBegin, family_asked}
use Rattle.refresh_book.proofs.Owning.{all_filtered}
use Rattle.refresh_book.proofs.Booking.{living_found, turned_book}
use Rattle.refresh_book.proofs.Renewed.{reply_renewed}
use Rattle.refresh_book.proofs.Passed.{none_at}
use Rattle.refresh_book.proofs.Looking.{inner_same, not_ahead, book_now, legal_now}

no_room : (most all inner of_all of_inner w : ℕ) → inner ≤ all → of_inner ≡ of_all → all + of_all ≤ most → w ≡ inner → most < w + of_inner → ⊥
no_room most all inner of_all of_inner w low alike room same full = omega (arith, low, alike, room, same, full)

-- ---- a core with an empty history

module _ {A R S : Type 0} (plain : A → Option OpAsk) (given : R → Option OpReply) (provided : List (Pair A R) → List OpPair) (IsAsk : A → Type 0) (weighs : A → ℕ) (most : S → ℕ)
    (IsLegalInner : S → List (Pair A R) → Type 0) where
  keeps_nothing : (s : Setup S) (limit : ℕ) (b : Booked) → limit ≡ most s.inner → b.families ≡ [] → b.tokens ≡ [] → b.accesses ≡ [] → b.last ≡ 0 → IsLegalInner s.inner []
      → Keeps plain given provided IsAsk weighs most IsLegalInner s [] [] 0 0 limit [] [] b
  keeps_nothing s limit b is no_families no_tokens no_accesses no_moment legal =
      let G : List FamilyRow → Bool = λ l. list_all (is_own_family s.registry) l in
      record {
        count = refl;
        weight_is = refl;
        last_is = refl;
        limit_is = is;
        marks = record { turns_live = refl; turns_begun = refl; codes_live = refl; codes_begun = refl };
        book = record { families_are = no_families; tokens_are = no_tokens; accesses_are = no_accesses; last_is = no_moment };
        own = ap G no_families;
        legal = record { answered = tt; inner = legal; light = none_heavy (most s.inner) 0 refl };
      }

  pub keeps_first : (s : Setup S) (inner : List (Pair A R)) (ks : List (KeptEntry A)) (weight last limit : ℕ) (turns : List (TurnMark Bool)) (codes : List (CodeMark Bool)) (b : Booked)
      → inner ≡ [] → ks ≡ [] → weight ≡ 0 → last ≡ 0 → limit ≡ most s.inner → turns ≡ [] → codes ≡ [] → b.families ≡ [] → b.tokens ≡ [] → b.accesses ≡ [] → b.last ≡ 0 → IsLegalInner s.inner inner
      → Keeps plain given provided IsAsk weighs most IsLegalInner s inner ks weight last limit turns codes b
  keeps_first s inner ks weight last limit turns codes b no_pairs no_kept no_weight no_moment limit_is no_turns no_codes no_families no_tokens no_accesses no_last legal =
      let I : List (Pair A R) → Type 0 = λ l. IsLegalInner s.inner l in
      let F : List (Pair A R) → Type 0 = λ l. Keeps plain given provided IsAsk weighs most IsLegalInner s l ks weight last limit turns codes b in
      let K : List (KeptEntry A) → Type 0 = λ l. Keeps plain given provided IsAsk weighs most IsLegalInner s [] l weight last limit turns codes b in
      let W : ℕ → Type 0 = λ n. Keeps plain given provided IsAsk weighs most IsLegalInner s [] [] n last limit turns codes b in
      let M : ℕ → Type 0 = λ n. Keeps plain given provided IsAsk weighs most IsLegalInner s [] [] 0 n limit turns codes b in
      let T : List (TurnMark Bool) → Type 0 = λ l. Keeps plain given provided IsAsk weighs most IsLegalInner s [] [] 0 0 limit l codes b in
      let C : List (CodeMark Bool) → Type 0 = λ l. Keeps plain given provided IsAsk weighs most IsLegalInner s [] [] 0 0 limit [] l b in
      subst F (sym no_pairs) (subst K (sym no_kept) (subst W (sym no_weight) (subst M (sym no_moment) (subst T (sym no_turns) (subst C (sym no_codes)
      (keeps_nothing s limit b limit_is no_families no_tokens no_accesses no_last (subst I no_pairs legal)))))))

-- ---- families of the registry, in the book after one more entry

pub noted_own : (good : FamilyRow → Bool) (b d : Booked) (w : Renewal) → Noted b d w → list_all good b.families ≡ true → list_all good d.families ≡ true
noted_own good b d (renewed.Rotated row access refresh scopes) noted all = let G : List FamilyRow → Bool = λ l. list_all good l in ap G noted.families ∙ all
noted_own good b d (renewed.Reused place client) noted all =
    let G : List FamilyRow → Bool = λ l. list_all good l in
    ap G noted.families ∙ all_filtered good (λ f. not (is_of_place place client f)) b.families all
noted_own good b d renewed.Unread noted all = let G : List FamilyRow → Bool = λ l. list_all good l in ap G noted.families ∙ all
noted_own good b d (renewed.Refused e) noted all = let G : List FamilyRow → Bool = λ l. list_all good l in ap G noted.families ∙ all
noted_own good b d renewed.Full noted all = let G : List FamilyRow → Bool = λ l. list_all good l in ap G noted.families ∙ all

pub begun_good : (good : FamilyRow → Bool) (x : Bool) (o : Option FamilyRow) → ((f : FamilyRow) → o ≡ Some f → good f ≡ true) → (f : FamilyRow) → if_true x o ≡ Some f → good f ≡ true
begun_good good true o each f is = each f is
begun_good good false o each f is = absurd (some_none f (sym is))

-- what is passed on is no refresh request
pub passes_none : {A R : Type 0} (plain : A → Option OpAsk) (given : R → Option OpReply) (provided : List (Pair A R) → List OpPair) (c : Configuration) (past : List (Outer A R)) (at : ℕ) (fresh : List Word) (asked : RefreshAsk A)
    → is_refresh_ask asked ≡ false → info_reply plain given provided c past at (outer_plain plain asked) ≡ None → own_reply plain given provided c past at fresh asked ≡ None
passes_none plain given provided c past at fresh (ask.Through a o) other none = none
passes_none plain given provided c past at fresh (ask.Refresh g) other none = absurd (true_false other)

-- a refresh request is not passed on
pub refresh_is_own : {A R : Type 0} (plain : A → Option OpAsk) (given : R → Option OpReply) (provided : List (Pair A R) → List OpPair) (c : Configuration) (past : List (Outer A R)) (at : ℕ) (fresh : List Word) (asked : RefreshAsk A)
    → is_refresh_ask asked ≡ true → own_reply plain given provided c past at fresh asked ≡ None → ⊥
refresh_is_own plain given provided c past at fresh (ask.Through a o) is none = true_false (sym is)
refresh_is_own plain given provided c past at fresh (ask.Refresh (Err no.NoMemory)) is none = some_none replies.NotHere none
refresh_is_own plain given provided c past at fresh (ask.Refresh (Err e)) is none = some_none (refresh_reply plain given provided past at fresh (Err e)) none
refresh_is_own plain given provided c past at fresh (ask.Refresh (Ok g)) is none = some_none (refresh_reply plain given provided past at fresh (Ok g)) none

-- ---- one more entry

module _ {A R S : Type 0} (plain : A → Option OpAsk) (given : R → Option OpReply) (provided : List (Pair A R) → List OpPair) (IsAsk : A → Type 0) (weighs : A → ℕ) (most : S → ℕ)
    (IsLegalInner : S → List (Pair A R) → Type 0) (s : Setup S) (inner : List (Pair A R)) (ks : List (KeptEntry A)) (weight last limit : ℕ) (turns : List (TurnMark Bool)) (codes : List (CodeMark Bool)) (b : Booked)
    (keeps : Keeps plain given provided IsAsk weighs most IsLegalInner s inner ks weight last limit turns codes b) (H : List (Outer A R)) (is : merged_history ks inner ≡ H) where
  abbrev top : Setup S → ℕ
  top t = most t.inner

  abbrev Inside : Setup S → List (Pair A R) → Type 0
  Inside t l = IsLegalInner t.inner l

  abbrev IsTold : List (Outer A R) → Entry (RefreshAsk A) → RefreshReply R → Type 0
  IsTold past e r = IsRefreshReply plain given provided s.registry past e r

  legal : IsLegalRefresh plain given provided IsAsk weighs most IsLegalInner s H
  legal = legal_now plain given provided IsAsk weighs most IsLegalInner s inner ks weight last limit turns codes b keeps H is

  before : (at : ℕ) → last_moment (reverse H) ≤ at → last ≤ at
  before at order = not_ahead plain given provided IsAsk weighs most IsLegalInner s inner ks weight last limit turns codes b keeps H is at order

  marks_now : HoldMarks (outer_plain plain) (outer_given given) offline_mark false (reverse H) last turns codes
  marks_now = let M : List (Outer A R) → Type 0 = λ l. HoldMarks (outer_plain plain) (outer_given given) offline_mark false (reverse l) last turns codes in subst M is keeps.marks

  -- the weight and the limit of the history
  weighs_now : weight ≡ history_weight (outer_weight weighs) H
  weighs_now = let W : List (Outer A R) → ℕ = λ l. history_weight (outer_weight weighs) l in keeps.weight_is ∙ ap W is

  pub has_room : (w : ℕ) → history_weight (outer_weight weighs) H + w ≤ most s.inner → weight + w ≤ limit
  has_room w room =
      let W : ℕ → Type 0 = λ n. n + w ≤ limit in
      let L : ℕ → Type 0 = λ n. history_weight (outer_weight weighs) H + w ≤ n in
      subst W (sym weighs_now) (subst L (sym keeps.limit_is) room)

  -- ---- the book, for which memory was reserved, and which was brought to the moment

  pub book_before : (at : ℕ) → last_moment (reverse H) ≤ at → (a : Booked) → a.last ≡ b.last → a.last ≤ at
  book_before at order a last_is =
      let N : ℕ → Type 0 = λ n. n ≤ at in
      subst N (sym (last_is ∙ (book_now plain given provided IsAsk weighs most IsLegalInner s inner ks weight last limit turns codes b keeps H is).last_is)) (before at order)

  pub record IsTurned (at : ℕ) (c : Booked) : Type 0 where
    pub book : IsBookAt plain given provided (reverse H) at c
    pub own : list_all (is_own_family s.registry) c.families ≡ true

  pub turned : (at : ℕ) → last_moment (reverse H) ≤ at → (a c : Booked) → a.families ≡ b.families → a.tokens ≡ b.tokens → a.accesses ≡ b.accesses
      → c.families ≡ live_rows family_life family_begun at a.families → c.tokens ≡ tokens_left c.families a.tokens → c.accesses ≡ live_rows access_life access_begun at (accesses_left c.families a.accesses) → c.last ≡ at
      → IsTurned at c
  turned at order a c families_same tokens_same accesses_same families_are tokens_are accesses_are last_is =
      let L : List FamilyRow → List FamilyRow = λ l. live_rows family_life family_begun at l in
      let T : List RefreshRow → List RefreshRow = λ l. tokens_left c.families l in
      let X : List AccessRow → List AccessRow = λ l. live_rows access_life access_begun at (accesses_left c.families l) in
      let G : List FamilyRow → Bool = λ l. list_all (is_own_family s.registry) l in
      let fams : c.families ≡ live_rows family_life family_begun at b.families = families_are ∙ ap L families_same in
      record {
        book = turned_book plain given provided (reverse H) last at b c (before at order) (book_now plain given provided IsAsk weighs most IsLegalInner s inner ks weight last limit turns codes b keeps H is)
            fams (tokens_are ∙ ap T tokens_same) (accesses_are ∙ ap X accesses_same) last_is;
        own = ap G fams ∙ all_filtered (is_own_family s.registry) (λ (f : FamilyRow). lives family_life f.begun at) b.families keeps.own;
      }

  -- a family may begin in it
  begins_new : (at : ℕ) (c : Booked) → IsBookAt plain given provided (reverse H) at c → (x : Bool) (o : Option CodeRow) → MayBegin c (if_true x (option_map (family_for (length (reverse H)) at) o))
  begins_new at c held false o = tt
  begins_new at c held true None = tt
  begins_new at c held true (Some code) =
      let fs : List FamilyRow = families plain given provided (reverse H) in
      let n : ℕ = length (reverse H) in
      let W : List FamilyRow → Option FamilyRow = λ l. family_at n l in
      let O : Option FamilyRow → Option FamilyRow = λ o. option_and_then (if_lives family_life family_begun at) o in
      (sym held.last_is, ap W held.families_are ∙ living_found at n n fs (numbered plain given provided (reverse H)) ∙ ap O (none_at n fs (numbered plain given provided (reverse H))))

  pub may_begin : (at : ℕ) (c : Booked) → IsTurned at c → (w : Option Word) (family : Option FamilyRow) → family ≡ family_asked plain given provided (reverse H) at w → MayBegin c family
  may_begin at c now w family family_is =
      let M : Option FamilyRow → Type 0 = λ o. MayBegin c o in
      subst M (sym family_is) (begins_new at c now.book (code_offline plain given provided (reverse H) at w) (code_held provided (reverse H) at w))

  -- one more pair p, of which this is kept
  keeps_more : (p : Outer A R) (inner' : List (Pair A R)) (ks' : List (KeptEntry A)) (w : ℕ) (turns' : List (TurnMark Bool)) (codes' : List (CodeMark Bool)) (d : Booked)
      → passed_count ks' ≡ length inner' → merged_history ks' inner' ≡ H ++ p ∷ [] → w ≡ outer_weight weighs p.entry.ask
      → HoldMarks (outer_plain plain) (outer_given given) offline_mark false (p ∷ reverse H) p.entry.at turns' codes' → IsBookAt plain given provided (p ∷ reverse H) p.entry.at d
      → list_all (is_own_family s.registry) d.families ≡ true → IsLegalRefresh plain given provided IsAsk weighs most IsLegalInner s (H ++ p ∷ [])
      → Keeps plain given provided IsAsk weighs most IsLegalInner s inner' ks' (weight + w) p.entry.at limit turns' codes' d
  keeps_more p inner' ks' w turns' codes' d count more w_is marks book own all_legal =
      let W : List (Outer A R) → ℕ = λ l. history_weight (outer_weight weighs) l in
      let E : List (Outer A R) → ℕ = λ l. last_moment l in
      let D : List (Outer A R) → ℕ = λ l. last_moment (reverse l) in
      let M : List (Outer A R) → Type 0 = λ l. HoldMarks (outer_plain plain) (outer_given given) offline_mark false l p.entry.at turns' codes' in
      let N : List (Outer A R) → Type 0 = λ l. HoldMarks (outer_plain plain) (outer_given given) offline_mark false (reverse l) p.entry.at turns' codes' in
      let B : List (Outer A R) → Type 0 = λ l. IsBookAt plain given provided l p.entry.at d in
      let C : List (Outer A R) → Type 0 = λ l. IsBookAt plain given provided (reverse l) p.entry.at d in
      let L : List (Outer A R) → Type 0 = λ l. IsLegalRefresh plain given provided IsAsk weighs most IsLegalInner s l in
      record {
        count = count;
        weight_is = weight_after (outer_weight weighs) H p weight w weighs_now w_is ∙ ap W (sym more);
        last_is = ap E (sym (past_more H p)) ∙ ap D (sym more);
        limit_is = keeps.limit_is;
        marks = subst N (sym more) (subst M (sym (past_more H p)) marks);
        book = subst C (sym more) (subst B (sym (past_more H p)) book);
        own = own;
        legal = subst L (sym more) all_legal;
      }

  -- ---- that the core answered by itself

  pub info_is_own : (at : ℕ) (fresh : List Word) (asked : RefreshAsk A) (r : OwnReply) → info_reply plain given provided s.registry (reverse H) at (outer_plain plain asked) ≡ Some r
      → own_reply plain given provided s.registry (reverse H) at fresh asked ≡ Some r
  info_is_own at fresh (ask.Through a o) r told = told
  info_is_own at fresh (ask.Refresh g) r told = absurd (some_none r (sym told))

  pub renewed_is_own : (at : ℕ) (c : Booked) → IsTurned at c → (fresh : List Word) (asked : RefreshAsk A) → is_refresh_ask asked ≡ true
      → own_reply plain given provided s.registry (reverse H) at fresh asked ≡ Some (reply_of (renewal_asked c fresh asked))
  renewed_is_own at c now fresh (ask.Refresh g) refresh = ap Some (sym (reply_renewed plain given provided (reverse H) at fresh c c now.book g))
  renewed_is_own at c now fresh (ask.Through a o) refresh = absurd (true_false (sym refresh))

  pub own_history : (own : Pair (RefreshAsk A) OwnReply) (ks' : List (KeptEntry A)) → ks' ≡ ks ++ kept.Own own ∷ [] → merged_history ks' inner ≡ H ++ own_pair own ∷ []
  own_history own ks' grown =
      let M : List (KeptEntry A) → List (Outer A R) = λ l. merged_history l inner in
      let E : List (Outer A R) → List (Outer A R) = λ l. l ++ own_pair own ∷ [] in
      ap M grown ∙ merged_own around own_pair ks inner own keeps.count ∙ ap E is

  pub own_keeps : (own : Pair (RefreshAsk A) OwnReply) (ks' : List (KeptEntry A)) (weight' last' limit' w : ℕ) (d : Booked) → ks' ≡ ks ++ kept.Own own ∷ [] → weight' ≡ weight + w → last' ≡ own.entry.at → limit' ≡ limit
      → own_reply plain given provided s.registry (reverse H) own.entry.at own.entry.fresh own.entry.ask ≡ Some own.reply → last_moment (reverse H) ≤ own.entry.at → IsEntry (IsRefreshAsk IsAsk) own.entry
      → w ≡ outer_weight weighs own.entry.ask → history_weight (outer_weight weighs) H + w ≤ most s.inner
      → IsBookAt plain given provided (own_pair own ∷ reverse H) own.entry.at d → list_all (is_own_family s.registry) d.families ≡ true
      → Keeps plain given provided IsAsk weighs most IsLegalInner s inner ks' weight' last' limit' turns codes d
  own_keeps own ks' weight' last' limit' w d grown weight_grown last_is limit_is said order values w_is room book good =
      let p : Outer A R = own_pair own in
      let Q : Option OwnReply → Type 0 = λ o. IsReply {R = R} given o (begins plain given provided (reverse H) own.entry) (fresh_word own.entry.fresh 1) (Own own.reply) in
      let K : ℕ → Type 0 = λ n. Keeps plain given provided IsAsk weighs most IsLegalInner s inner ks' n last' limit' turns codes d in
      let T : ℕ → Type 0 = λ n. Keeps plain given provided IsAsk weighs most IsLegalInner s inner ks' (weight + w) n limit' turns codes d in
      let N : ℕ → Type 0 = λ n. Keeps plain given provided IsAsk weighs most IsLegalInner s inner ks' (weight + w) p.entry.at n turns codes d in
      subst K (sym weight_grown) (subst T (sym last_is) (subst N (sym limit_is)
      (keeps_more p inner ks' w turns codes d (ap passed_count grown ∙ count_own ks own ∙ keeps.count) (own_history own ks' grown) w_is
      (holds_own (outer_plain plain) (outer_given given) offline_mark false (reverse H) p last turns codes refl (before own.entry.at order) marks_now)
      book good
      (legal_own (IsRefreshAsk IsAsk) IsTold passed (outer_weight weighs) top Inside s H p w legal (own_passes_none own) values order (subst Q (sym said) refl) w_is room))))

  -- ---- that it passed on

  -- the inner core's last entry is not after this moment
  inner_order : (at : ℕ) → last_moment (reverse H) ≤ at → last_moment (reverse inner) ≤ at
  inner_order at order =
      let I : List (Pair A R) → Type 0 = λ l. last_moment l ≤ at in
      let J : List (Pair A R) → Type 0 = λ l. last_moment (reverse l) ≤ at in
      subst J (sym (inner_same ks inner H keeps.count is))
      (subst I (sym (inner_reversed passed H))
      (low_twice (last_moment (inner_history (reverse H))) (last_moment (reverse H)) at (inner_last passed (IsRefreshAsk IsAsk) IsTold passed_moment (reverse H) legal.answered) order))

  -- the inner core has room
  pub inner_has_room : (asked : RefreshAsk A) (a : A) (offline : Bool) → asked ≡ ask.Through a offline → history_weight (outer_weight weighs) H + outer_weight weighs asked ≤ most s.inner
      → (v : ℕ) → v ≡ history_weight weighs inner → most s.inner < v + weighs a → ⊥
  inner_has_room asked a offline through room v same full =
      let J : List (Pair A R) → Type 0 = λ l. history_weight weighs l ≤ history_weight (outer_weight weighs) H in
      let W : RefreshAsk A → ℕ = λ x. outer_weight weighs x in
      no_room (most s.inner) (history_weight (outer_weight weighs) H) (history_weight weighs inner) (outer_weight weighs asked) (weighs a) v
      (subst J (sym (inner_same ks inner H keeps.count is)) (inner_lighter passed weighs (outer_weight weighs) (passed_weight weighs) H))
      (sym (ap W through)) room same full

  module _ (at : ℕ) (fresh : List Word) (parts : RefreshParts) (asked : A) (reply : R) where
    -- the pair of the inner core
    abbrev pub taken : Pair A R
    taken = record { entry = record { at = at; fresh = fresh; ask = asked }; reply = reply }

    abbrev e : Entry (RefreshAsk A)
    e = record { at = at; fresh = fresh; ask = ask.Through asked parts.offline }

    inner_taken : (inner' : List (Pair A R)) → last_moment (reverse H) ≤ at → inner' ≡ extended inner at fresh asked reply → inner' ≡ inner ++ taken ∷ []
    inner_taken inner' order grown =
        let E : ℕ → List (Pair A R) = λ t. inner ++ (record { entry = record { at = t; fresh = fresh; ask = asked }; reply = reply }) ∷ [] in
        grown ∙ ap E (later_moment (last_moment (reverse inner)) at (inner_order at order))

    pub passed_history : (ks' : List (KeptEntry A)) (inner' : List (Pair A R)) → last_moment (reverse H) ≤ at → ks' ≡ ks ++ kept.Passed parts ∷ [] → inner' ≡ extended inner at fresh asked reply
        → merged_history ks' inner' ≡ H ++ around parts taken ∷ []
    passed_history ks' inner' order grown inner_grown =
        let K : List (KeptEntry A) → List (Outer A R) = λ l. merged_history l inner' in
        let M : List (Pair A R) → List (Outer A R) = λ l. merged_history (ks ++ kept.Passed parts ∷ []) l in
        let E : List (Outer A R) → List (Outer A R) = λ l. l ++ around parts taken ∷ [] in
        ap K grown ∙ ap M (inner_taken inner' order inner_grown) ∙ merged_passes around own_pair ks inner parts taken keeps.count ∙ ap E is

    -- its reply has the first token of the family that begins
    abbrev pub IsFirst : Type 0
    IsFirst = reply_around reply parts.first ≡ with_first (begins plain given provided (reverse H) e) (given reply) reply (fresh_word fresh 1)

    pub passed_legal : (inner' : List (Pair A R)) (w : ℕ) → last_moment (reverse H) ≤ at → inner' ≡ extended inner at fresh asked reply
        → own_reply plain given provided s.registry (reverse H) at fresh (ask.Through asked parts.offline) ≡ None → IsFirst
        → IsEntry (IsRefreshAsk IsAsk) e → w ≡ outer_weight weighs (ask.Through asked parts.offline) → history_weight (outer_weight weighs) H + w ≤ most s.inner
        → IsLegalInner s.inner inner' → IsLegalRefresh plain given provided IsAsk weighs most IsLegalInner s (H ++ around parts taken ∷ [])
    passed_legal inner' w order inner_grown passes first values w_is room inside =
        let Q : Option OwnReply → Type 0 = λ o. IsReply {R = R} given o (begins plain given provided (reverse H) e) (fresh_word fresh 1) (reply_around reply parts.first) in
        let I : List (Pair A R) → Type 0 = λ l. IsLegalInner s.inner l in
        legal_passed (IsRefreshAsk IsAsk) IsTold passed (outer_weight weighs) top Inside s H (around parts taken) taken inner w legal (around_passes parts taken) (sym (inner_same ks inner H keeps.count is))
        values order (subst Q (sym passes) (reply, first)) w_is room (subst I (inner_taken inner' order inner_grown) inside)

    around_given : (o : Option Word) → outer_given given (reply_around reply o) ≡ given reply
    around_given None = refl
    around_given (Some v) = refl

    -- the rows that the pair adds, by its parts
    turns_by : (o : Option Word) (turns' : List (TurnMark Bool))
        → turns' ≡ put turn_mark_name (turn_row (given reply) (is_wish (plain asked)) parts.offline at) (turns_left (turn_ended (given reply) (named_in (plain asked))) (live_rows turn_life turn_mark_begun at turns))
        → turns' ≡ put turn_mark_name (turn_row (outer_given given (reply_around reply o)) (is_wish (plain asked)) parts.offline at) (turns_left (turn_ended (outer_given given (reply_around reply o)) (named_in (plain asked))) (live_rows turn_life turn_mark_begun at turns))
    turns_by None turns' are = are
    turns_by (Some v) turns' are = are

    codes_by : (o : Option Word) (m : Bool) (codes' : List (CodeMark Bool)) → codes' ≡ put code_mark_name (code_row (given reply) m at) (live_rows code_life code_mark_begun at codes)
        → codes' ≡ put code_mark_name (code_row (outer_given given (reply_around reply o)) m at) (live_rows code_life code_mark_begun at codes)
    codes_by None m codes' are = are
    codes_by (Some v) m codes' are = are

    pub passed_keeps : (ks' : List (KeptEntry A)) (inner' : List (Pair A R)) (weight' last' limit' w : ℕ) (turns' : List (TurnMark Bool)) (codes' : List (CodeMark Bool)) (d : Booked)
        → last_moment (reverse H) ≤ at → ks' ≡ ks ++ kept.Passed parts ∷ [] → inner' ≡ extended inner at fresh asked reply → weight' ≡ weight + w → last' ≡ at → limit' ≡ limit
        → w ≡ outer_weight weighs (ask.Through asked parts.offline) → IsLegalRefresh plain given provided IsAsk weighs most IsLegalInner s (H ++ around parts taken ∷ [])
        → turns' ≡ put turn_mark_name (turn_row (given reply) (is_wish (plain asked)) parts.offline at) (turns_left (turn_ended (given reply) (named_in (plain asked))) (live_rows turn_life turn_mark_begun at turns))
        → codes' ≡ put code_mark_name (code_row (given reply) (answer_mark (outer_plain plain) (outer_given given) offline_mark false (reverse H) at parts.offline (plain asked)) at) (live_rows code_life code_mark_begun at codes)
        → IsBookAt plain given provided (around parts taken ∷ reverse H) at d → list_all (is_own_family s.registry) d.families ≡ true
        → Keeps plain given provided IsAsk weighs most IsLegalInner s inner' ks' weight' last' limit' turns' codes' d
    passed_keeps ks' inner' weight' last' limit' w turns' codes' d order grown inner_grown weight_grown last_is limit_is w_is all_legal turns_are codes_are book good =
        let p : Outer A R = around parts taken in
        let C : List (KeptEntry A) → ℕ = λ l. passed_count l in
        let L : List (Pair A R) → ℕ = λ l. length l in
        let K : ℕ → Type 0 = λ n. Keeps plain given provided IsAsk weighs most IsLegalInner s inner' ks' n last' limit' turns' codes' d in
        let T : ℕ → Type 0 = λ n. Keeps plain given provided IsAsk weighs most IsLegalInner s inner' ks' (weight + w) n limit' turns' codes' d in
        let N : ℕ → Type 0 = λ n. Keeps plain given provided IsAsk weighs most IsLegalInner s inner' ks' (weight + w) at n turns' codes' d in
        subst K (sym weight_grown) (subst T (sym last_is) (subst N (sym limit_is)
        (keeps_more p inner' ks' w turns' codes' d
        (ap C grown ∙ count_passes ks parts ∙ ap suc keeps.count ∙ sym (ap L (inner_taken inner' order inner_grown) ∙ one_longer inner taken))
        (passed_history ks' inner' order grown inner_grown) w_is
        (holds_passed (outer_plain plain) (outer_given given) offline_mark false (reverse H) p last turns turns' codes codes' (before at order) marks_now
        (turns_by parts.first turns' turns_are)
        (codes_by parts.first (answer_mark (outer_plain plain) (outer_given given) offline_mark false (reverse H) at parts.offline (plain asked)) codes' codes_are))
        book good all_legal)))

    -- ---- its rows have room

    module _ (beginnings : (t : S) (front rest : List (Pair A R)) → IsLegalInner t (front ++ rest) → IsLegalInner t front) (c : Configuration) (stack : IsStack plain given provided (IsLegalInner s.inner) c) where
      pub turn_fits : (began : Option (TurnMark Bool)) (left : List (TurnMark Bool)) → last_moment (reverse H) ≤ at
          → IsLegalRefresh plain given provided IsAsk weighs most IsLegalInner s (H ++ around parts taken ∷ []) → began ≡ turn_row (given reply) (is_wish (plain asked)) parts.offline at
          → left ≡ turns_left (turn_ended (given reply) (named_in (plain asked))) (live_rows turn_life turn_mark_begun at turns) → IfSome began (MayAddRow turn_mark_name turn_mark_begun true left)
      turn_fits began left order all_legal began_is left_is =
          let g : Option OpReply = outer_given given (reply_around reply parts.first) in
          let G : Option OpReply → Option (TurnMark Bool) = λ o. turn_row o (is_wish (plain asked)) parts.offline at in
          let E : Option OpReply → List (TurnMark Bool) = λ o. turns_left (turn_ended o (named_in (plain asked))) (live_rows turn_life turn_mark_begun at turns) in
          may_through turn_mark_name turn_mark_begun began (turns_left (turn_ended g (named_in (plain asked))) (live_rows turn_life turn_mark_begun at turns)) left (left_is ∙ ap E (sym (around_given parts.first)))
          (turn_may (outer_plain plain) (outer_given given) offline_mark (λ l. provided (inner_history l)) (IsLegalRefresh plain given provided IsAsk weighs most IsLegalInner s) c
          (outer_stack plain given provided IsAsk weighs most IsLegalInner beginnings s c stack) false H (around parts taken) last turns codes began all_legal
          (before at order) marks_now (began_is ∙ ap G (sym (around_given parts.first))))

      pub code_fits : (made : Option (CodeMark Bool)) (left : List (CodeMark Bool)) → last_moment (reverse H) ≤ at
          → IsLegalRefresh plain given provided IsAsk weighs most IsLegalInner s (H ++ around parts taken ∷ [])
          → made ≡ code_row (given reply) (answer_mark (outer_plain plain) (outer_given given) offline_mark false (reverse H) at parts.offline (plain asked)) at
          → left ≡ live_rows code_life code_mark_begun at codes → IfSome made (MayAddRow code_mark_name code_mark_begun true left)
      code_fits made left order all_legal made_is left_is =
          let m : Bool = answer_mark (outer_plain plain) (outer_given given) offline_mark false (reverse H) at parts.offline (plain asked) in
          let G : Option OpReply → Option (CodeMark Bool) = λ o. code_row o m at in
          may_through code_mark_name code_mark_begun made (live_rows code_life code_mark_begun at codes) left left_is
          (code_may (outer_plain plain) (outer_given given) offline_mark (λ l. provided (inner_history l)) (IsLegalRefresh plain given provided IsAsk weighs most IsLegalInner s) c
          (outer_stack plain given provided IsAsk weighs most IsLegalInner beginnings s c stack) false H (around parts taken) last turns codes made all_legal
          (before at order) marks_now (made_is ∙ ap G (sym (around_given parts.first))))
