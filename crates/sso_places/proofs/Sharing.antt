-- When a place shares no access token: it shows none and gives none, or it gives the first one, or it shows one that it may show. With
-- these the premise is shown place by place, though the words in it stay closed.
use Rattle.std.proofs.Common.{◌≡◌, not, ◌&&◌, ◌||◌, Bool, true, false, List, [], ◌∷◌, Option, Some, None, ◌⊎◌, inl, inr, refl, sym, ap, ◌∙◌}
use Rattle.std.specs.List.{list_any, AllByRecursion}
use Rattle.std.proofs.lemmas.Bool.{and_from}
use Rattle.sso_base.specs.Words.{Word, Text}
use Rattle.sso_base.specs.declared.http.Ask.{Ask}
use Rattle.sso_base.specs.declared.message.Message.{Message}
use Rattle.sso_base.proofs.RowLaws.{bytes_true}
use Rattle.sso_places.specs.World.{Place, World}
use Rattle.sso_places.specs.Unshared.{access_given, access_shown, is_among, is_same, brings, may_show, shows_wrongly, shown_before, shares}

-- ---- pairs of places

none_of : (T : Word → Bool) (ws : List Word) → ((w : Word) → T w ≡ false) → list_any T ws ≡ false
none_of T [] fails = refl
none_of T (w ∷ ws) fails =
    let R : Bool → Bool = λ b. b || list_any T ws in
    ap R (fails w) ∙ none_of T ws fails

-- a place that shows nothing, one that shows what the other does not give, and one that shows what it may show
pub shows_none : (world : World) (x giver : Place) → access_shown x ≡ [] → shows_wrongly world x giver ≡ false
shows_none world x giver none =
    let F : List Word → Bool = λ ws. list_any (λ w. is_among (access_given giver) w && not (may_show world x giver w)) ws in
    ap F none

pub gives_none : (world : World) (x giver : Place) → access_given giver ≡ [] → shows_wrongly world x giver ≡ false
gives_none world x giver none =
    let F : List Word → Bool = λ gs. list_any (λ w. is_among gs w && not (may_show world x giver w)) (access_shown x) in
    let T : Word → Bool = λ w. is_among [] w && not (may_show world x giver w) in
    ap F none ∙ none_of T (access_shown x) (λ w. refl)

-- x shows the word; it is another one, or x may show it
abbrev pub IsShownRightly : World → Place → Word → Place → Type 0
IsShownRightly world x w giver = (is_among (access_given giver) w ≡ false) ⊎ (may_show world x giver w ≡ true)

right : (among may : Bool) → (among ≡ false) ⊎ (may ≡ true) → ((among && not may) || false) ≡ false
right false may h = refl
right true true h = refl
right true false (inl h) = h
right true false (inr h) = sym h

pub shows_one : (world : World) (x giver : Place) (w : Word) → access_shown x ≡ w ∷ [] → IsShownRightly world x w giver → shows_wrongly world x giver ≡ false
shows_one world x giver w one rightly =
    let F : List Word → Bool = λ ws. list_any (λ v. is_among (access_given giver) v && not (may_show world x giver v)) ws in
    ap F one ∙ right (is_among (access_given giver) w) (may_show world x giver w) rightly

-- ---- one place and the places of a world

neither : (a b : Bool) → a ≡ false → b ≡ false → (a || b) ≡ false
neither a b first second =
    let R : Bool → Bool = λ x. x || b in
    ap R first ∙ second

never_shows : (world : World) (x : Place) (givers : World) → access_shown x ≡ [] → list_any (shows_wrongly world x) givers ≡ false
never_shows world x [] none = refl
never_shows world x (y ∷ givers) none = neither (shows_wrongly world x y) (list_any (shows_wrongly world x) givers) (shows_none world x y none) (never_shows world x givers none)

always_right : (world : World) (x : Place) (w : Word) (givers : World) → access_shown x ≡ w ∷ [] → AllByRecursion (IsShownRightly world x w) givers → list_any (shows_wrongly world x) givers ≡ false
always_right world x w [] one all = refl
always_right world x w (y ∷ givers) one all = neither (shows_wrongly world x y) (list_any (shows_wrongly world x) givers) (shows_one world x y w one all.0) (always_right world x w givers one all.1)

never_given : (giver : Place) (world : World) → access_given giver ≡ [] → shown_before giver world ≡ false
never_given giver [] none = refl
never_given giver (x ∷ world) none = neither (shows_wrongly world x giver) (shown_before giver world) (gives_none world x giver none) (never_given giver world none)

abbrev pub ShowsNone : Place → Type 0
ShowsNone x = access_shown x ≡ []

pub never_shown : (giver : Place) (world : World) → AllByRecursion ShowsNone world → shown_before giver world ≡ false
never_shown giver [] all = refl
never_shown giver (x ∷ world) all = neither (shows_wrongly world x giver) (shown_before giver world) (shows_none world x giver all.0) (never_shown giver world all.1)

-- ---- a place after a world

pub quiet : (world : World) (x : Place) → access_shown x ≡ [] → access_given x ≡ [] → shares world x ≡ false
quiet world x shows gives = neither (list_any (shows_wrongly world x) (x ∷ world)) (shown_before x world) (never_shows world x (x ∷ world) shows) (never_given x world gives)

pub gives_anew : (world : World) (x : Place) → access_shown x ≡ [] → shown_before x world ≡ false → shares world x ≡ false
gives_anew world x shows before = neither (list_any (shows_wrongly world x) (x ∷ world)) (shown_before x world) (never_shows world x (x ∷ world) shows) before

pub shows_rightly : (world : World) (x : Place) (w : Word) → access_shown x ≡ w ∷ [] → access_given x ≡ [] → AllByRecursion (IsShownRightly world x w) world → shares world x ≡ false
shows_rightly world x w one gives all =
    neither (list_any (shows_wrongly world x) (x ∷ world)) (shown_before x world)
    (neither (shows_wrongly world x x) (list_any (shows_wrongly world x) world) (gives_none world x x gives) (always_right world x w world one all))
    (never_given x world gives)

-- ---- messages

same_refl : (t : Option Text) → is_same t t ≡ true
same_refl None = refl
same_refl (Some t) = bytes_true t t refl

-- a request with the header and the body of the message is the message
pub brings_it : (request : Ask) (message : Message) → request.auth ≡ message.auth → request.body ≡ message.body → brings request message ≡ true
brings_it request message auth body =
    let A : Option Text → Bool = λ t. is_same t message.auth in
    let B : Option Text → Bool = λ t. is_same t message.body in
    and_from (is_same request.auth message.auth) (is_same request.body message.body) (ap A auth ∙ same_refl message.auth) (ap B body ∙ same_refl message.body)

pub among_one : (w : Word) → is_among (w ∷ []) w ≡ true
among_one w =
    let R : Bool → Bool = λ b. b || false in
    ap R (bytes_true w w refl)
