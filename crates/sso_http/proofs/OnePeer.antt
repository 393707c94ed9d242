-- Bytes have one response head at most, and are one answer at most.
use Rattle.std.proofs.Common.{◌≡◌, ◌≢◌, ℕ, Bool, true, false, cond, List, [], ◌∷◌, map, codes, Option, Some, None, refl, sym, ap, subst, ◌∙◌}
use Rattle.std.specs.Prelude.{is_some, option_map}
use Rattle.httparse.specs.Grammar.{ResponseHead, status_code}
use Rattle.httparse.specs.Spans.{name_and_value}
use Rattle.httparse.proofs.GrammarLemmas.{response_unique}
use Rattle.sso_base.specs.declared.message.Answered.{Answered}
use Rattle.sso_http.specs.Bodies.{has_transfer}
use Rattle.sso_http.specs.Fields.{Fields, values_of}
use Rattle.sso_http.specs.Peers.{peer_body, cut_body, with_status, answered, IsResponse, IsAnswer, IsResponseParts, IsNoAnswer, has_length, is_whole_body, IsWhole}

same_answered : (bytes : List ℕ) (h k : ResponseHead) (rest more : List ℕ) → IsResponse bytes h rest → IsResponse bytes k more → answered h rest ≡ answered k more
same_answered bytes h k rest more r q =
    let same = response_unique bytes h k rest more r.0 q.0 in
    rw (same.0, same.1) refl

some_is : {A : Type 0} (a b : A) → Some a ≡ Some b → a ≡ b
some_is a b e = cc

some_none : {A : Type 0} (a : A) → Some a ≡ None → ⊥
some_none a e = absurd cc

pub one_peer : (bytes : List ℕ) (a b : Answered) → IsAnswer bytes a → IsAnswer bytes b → a ≡ b
one_peer bytes a b p q =
    some_is a b (sym p.told ∙ same_answered bytes p.head q.head p.rest q.rest p.reads q.reads ∙ q.told)

pub no_answer : (bytes : List ℕ) (status : ℕ) (fields : Fields) (rest : List ℕ) → IsResponseParts bytes status fields rest → peer_body fields rest ≡ None → IsNoAnswer bytes
no_answer bytes status fields rest p none a i =
    let none_here : answered p.head rest ≡ None = rw (← p.fields_are, none) refl in
    some_none a (sym i.told ∙ same_answered bytes i.head p.head i.rest rest i.reads p.reads ∙ none_here)

-- ---- answers that are whole

pub whole_by_parts : (bytes : List ℕ) (status : ℕ) (fields : Fields) (rest : List ℕ) → IsResponseParts bytes status fields rest
    → is_whole_body fields rest ≡ true → IsWhole bytes
whole_by_parts bytes status fields rest p whole =
    record { head = p.head; rest = rest; reads = p.reads; whole = subst (λ (f : Fields). is_whole_body f rest ≡ true) p.fields_are whole }

true_is_not : (b : Bool) → b ≡ true → b ≡ false → ⊥
true_is_not b yes_it no_it = absurd (cc (yes_it, no_it))

pub not_whole_by_parts : (bytes : List ℕ) (status : ℕ) (fields : Fields) (rest : List ℕ) → IsResponseParts bytes status fields rest
    → is_whole_body fields rest ≡ false → IsWhole bytes → ⊥
not_whole_by_parts bytes status fields rest p short w =
    let same = response_unique bytes w.head p.head w.rest rest w.reads.0 p.reads.0 in
    let fields_same : map name_and_value w.head.fields ≡ fields = ap (λ (h : ResponseHead). map name_and_value h.fields) same.0 ∙ sym p.fields_are in
    true_is_not (is_whole_body fields rest)
    (subst (λ (r : List ℕ). is_whole_body fields r ≡ true) same.1 (subst (λ (f : Fields). is_whole_body f w.rest ≡ true) fields_same w.whole))
    short

some_length : (values : List (List ℕ)) (rest : List ℕ) → has_length values rest ≡ true → cut_body values rest ≢ None
some_length [] rest has none = absurd (cc has)
some_length (value ∷ values) rest has none = true_is_not (is_some (cut_body (value ∷ values) rest)) has (ap (λ (o : Option (List ℕ)). is_some o) none)

some_body : (fields : Fields) (rest : List ℕ) (b : Bool) → has_transfer fields ≡ b → is_whole_body fields rest ≡ true → peer_body fields rest ≢ None
unfolding is_whole_body peer_body
some_body fields rest true is whole = absurd (cc (sym (ap (λ (t : Bool). cond t false (has_length (values_of (codes "content-length") fields) rest)) is) ∙ whole))
some_body fields rest false is whole = λ none.
    some_length (values_of (codes "content-length") fields) rest
    (sym (ap (λ (t : Bool). cond t false (has_length (values_of (codes "content-length") fields) rest)) is) ∙ whole)
    (sym (ap (λ (t : Bool). cond t None (cut_body (values_of (codes "content-length") fields) rest)) is) ∙ none)

told_of : (status : ℕ) (body : Option (List ℕ)) → body ≢ None → (a : Answered) × (option_map (with_status status) body ≡ Some a)
told_of status None some = absurd (some refl)
told_of status (Some body) some = (with_status status body, refl)

-- what is whole is an answer
pub whole_is_answer : (bytes : List ℕ) → IsWhole bytes → (a : Answered) × IsAnswer bytes a
whole_is_answer bytes w =
    let told = told_of (status_code w.head) (peer_body (map name_and_value w.head.fields) w.rest)
    (some_body (map name_and_value w.head.fields) w.rest (has_transfer (map name_and_value w.head.fields)) refl w.whole) in
    (told.0, record { head = w.head; rest = w.rest; reads = w.reads; told = told.1 })
