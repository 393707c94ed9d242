-- Why a configuration is refused: the least of all refusals is answered.
use Rattle.std.proofs.Common.{◌≡◌, ◌≤◌, ◌<◌, ◌==◌, ◌⊎◌, inl, inr, ℕ, Bool, true, false, cond, List, [], ◌∷◌, ◌++◌, length, nat_lt, codes, Option, Some, None, Result, Ok, Err, refl, sym, ap, ◌∙◌, subst, arith}
use Rattle.std.specs.Prelude.{IfSome}
use Rattle.std.proofs.lemmas.Bool.{ltb-true, ltb-false}
use Rattle.std.proofs.lemmas.Bool.Decides.{nat_tests}
use Rattle.toml.specs.Data.{Data}
use Rattle.configuration_rows.specs.declared.no.RegNo.{RegNo}
use Rattle.configuration_rows.specs.declared.no.RegNo.TheVariants as no
use Rattle.configuration_rows.specs.Refusals.{number, least, IsLeast}
use Rattle.configuration_rows.specs.declared.version.Version.{Version as KnownVersion}
use Rattle.configuration_rows.specs.declared.version.Version.TheVariants.{First, Second}
use Rattle.configuration_rows.specs.Values.{natural_at}
use Rattle.configuration_rows.specs.Versions.{version_numbered, version_of}
use Rattle.configuration_rows.specs.Rows.{rows_refusals}
use Rattle.configuration_rows.proofs.Order.{least_is, empty_least}
use Rattle.configuration_rows.proofs.Phases.{HaveAtMost, HaveAtLeast, least_from, least_of_two, is_least}
use Rattle.configuration_rows.proofs.Numbers.{HaveNumbers, of_two, wider, at_most, at_least, of_rows}
use Rattle.client_registry.specs.Records.{users_of, clients_of, parties_of}
use Rattle.client_registry.specs.Rules.{records_refusals, subjects_refusals}
use Rattle.client_registry.specs.Configuration.{Configuration, configuration_of, issuer_of, salt_of}
use Rattle.client_registry.specs.Reading.{document_in, unless_refused, subjects_read, records_read, rows_read, versioned_read, document_read, registry_read, refusals_of, IsDocument, HasVersion, IsAccepted, IsOtherVersion}
use Rattle.client_registry.proofs.Numbers.{of_records, of_subjects}

-- ---- one list in place of three

in_turn : (n : ℕ) (es fs : List RegNo) (r : Result Configuration RegNo) → HaveAtMost n es → HaveAtLeast n fs → unless_refused (least (es ++ fs)) r ≡ unless_refused (least es) (unless_refused (least fs) r)
in_turn n [] fs r m h = refl
in_turn n (e ∷ es) fs r m h = ap (λ o. unless_refused o r) (least_of_two n e es fs m h)

of_first_two : (root : Data) → HaveNumbers 4 11 (rows_refusals root ++ records_refusals (issuer_of root) (users_of root) (clients_of root) (parties_of root))
of_first_two root =
    let rows : List RegNo = rows_refusals root in
    let records : List RegNo = records_refusals (issuer_of root) (users_of root) (clients_of root) (parties_of root) in
    of_two 4 11 rows records
    (wider 4 6 4 11 rows (omega arith) (omega arith) (of_rows root))
    (wider 7 11 4 11 records (omega arith) (omega arith) (of_records (issuer_of root) (users_of root) (clients_of root) (parties_of root)))

of_all : (root : Data) → HaveNumbers 4 12 (refusals_of root)
of_all root =
    let two : List RegNo = rows_refusals root ++ records_refusals (issuer_of root) (users_of root) (clients_of root) (parties_of root) in
    let subjects : List RegNo = subjects_refusals (salt_of root) (users_of root) (clients_of root) in
    of_two 4 12 two subjects
    (wider 4 11 4 12 two (omega arith) (omega arith) (of_first_two root))
    (wider 12 12 4 12 subjects (omega arith) (omega arith) (of_subjects (salt_of root) (users_of root) (clients_of root)))

pub rows_answer : (root : Data) → rows_read root ≡ unless_refused (least (refusals_of root)) (Ok (configuration_of root))
unfolding rows_read records_read subjects_read
rows_answer root =
    let rows : List RegNo = rows_refusals root in
    let records : List RegNo = records_refusals (issuer_of root) (users_of root) (clients_of root) (parties_of root) in
    let subjects : List RegNo = subjects_refusals (salt_of root) (users_of root) (clients_of root) in
    let says : Result Configuration RegNo = Ok (configuration_of root) in
    sym
    (in_turn 11 (rows ++ records) subjects says (at_most 4 11 11 (rows ++ records) (omega arith) (of_first_two root)) (at_least 12 12 11 subjects (omega arith) (of_subjects (salt_of root) (users_of root) (clients_of root)))
    ∙ in_turn 6 rows records (unless_refused (least subjects) says) (at_most 4 6 6 rows (omega arith) (of_rows root)) (at_least 7 11 6 records (omega arith) (of_records (issuer_of root) (users_of root) (clients_of root) (parties_of root))))

-- ---- from the bytes

not_less : (m n : ℕ) → n ≤ m → nat_lt m n ≡ false
not_less m n le = grind (arith, nat_tests, le)

less : (m n : ℕ) → m < n → nat_lt m n ≡ true
less m n lt = grind (arith, nat_tests, lt)

pub too_long : (b : List ℕ) → 1048576 < length b → registry_read b ≡ Err no.TooLong
too_long b long = rw (less 1048576 (length b) long)

short_read : (b : List ℕ) → length b ≤ 1048576 → registry_read b ≡ document_read (document_in b)
short_read b short = rw (not_less 1048576 (length b) short)

pub not_toml : (b : List ℕ) → length b ≤ 1048576 → document_in b ≡ None → registry_read b ≡ Err no.NotToml
not_toml b short none = short_read b short ∙ ap document_read none

-- the number of a known version
abbrev IsKnown : Option ℕ → Type 0
IsKnown o = (o ≡ Some 1) ⊎ (o ≡ Some 2)

known_at : (n : ℕ) (a b : Bool) (v : KnownVersion) → (n == 1) ≡ a → (n == 2) ≡ b → cond a (Some First) (cond b (Some Second) None) ≡ Some v → IsKnown (Some n)
known_at n true b v is_1 is_2 h = let same : n ≡ 1 = grind (arith, nat_tests, is_1) in inl (ap (λ k. Some k) same)
known_at n false true v is_1 is_2 h = let same : n ≡ 2 = grind (arith, nat_tests, is_2) in inr (ap (λ k. Some k) same)
known_at n false false v is_1 is_2 h = absurd (cc)

known : (o : Option ℕ) (v : KnownVersion) → version_numbered o ≡ Some v → IsKnown o
known None v h = absurd (cc)
known (Some n) v h = known_at n (n == 1) (n == 2) v refl refl h

-- what is answered of a document by its version
judged : (root : Data) (o : Option KnownVersion) → version_of root ≡ o → document_read (Some root) ≡ versioned_read o root
judged root o is = ap (λ q. versioned_read q root) is

known_read : (root : Data) → HasVersion root → document_read (Some root) ≡ rows_read root
known_read root (inl is) = judged root (Some First) (ap version_numbered is)
known_read root (inr is) = judged root (Some Second) (ap version_numbered is)

other_version : (root : Data) (o : Option KnownVersion) → version_of root ≡ o → (HasVersion root → ⊥) → document_read (Some root) ≡ Err no.Version
other_version root (Some v) is other = absurd (other (known (natural_at (codes "version") root) v is))
other_version root None is other = judged root None is

pub version : (b : List ℕ) → IsOtherVersion b → registry_read b ≡ Err no.Version
version b v = short_read b v.document.short ∙ ap document_read v.document.toml ∙ other_version v.root (version_of v.root) refl v.other

-- what is answered of a document of a known version
answer_of : (b : List ℕ) (root : Data) → IsDocument b root → HasVersion root → registry_read b ≡ unless_refused (least (refusals_of root)) (Ok (configuration_of root))
answer_of b root d v = short_read b d.short ∙ ap document_read d.toml ∙ known_read root v ∙ rows_answer root

pub refused : (b : List ℕ) (root : Data) (e : RegNo) → IsDocument b root → HasVersion root → IsLeast e (refusals_of root) → registry_read b ≡ Err e
refused b root e d v l = answer_of b root d v ∙ ap (λ o. unless_refused o (Ok (configuration_of root))) (is_least e (refusals_of root) l)

pub accepted : (b : List ℕ) (c : Configuration) → IsAccepted b c → registry_read b ≡ Ok c
accepted b c a =
    answer_of b a.root a.document a.version
    ∙ ap (λ es. unless_refused (least es) (Ok (configuration_of a.root))) a.guiltless
    ∙ ap (λ k. Ok k) (sym a.says)

-- ---- back to the causes

not_same : {B : Type 0} (e f : RegNo) → number e < number f → e ≡ f → B
not_same e f lt same = let numbers : number e ≡ number f = ap number same in absurd (omega (arith, lt, numbers))

one_error : (e f : RegNo) (r : Result Configuration RegNo) → r ≡ Err e → r ≡ Err f → e ≡ f
one_error e f r h g = cc

the_refusal : (o : Option RegNo) (c : Configuration) (e : RegNo) → unless_refused o (Ok c) ≡ Err e → o ≡ Some e
the_refusal None c e h = absurd (cc)
the_refusal (Some f) c e h = cc

no_refusal : (o : Option RegNo) (c k : Configuration) → unless_refused o (Ok c) ≡ Ok k → (o ≡ None) × (k ≡ c)
no_refusal None c k h = (refl, cc)
no_refusal (Some f) c k h = absurd (cc)

some_from : (n : ℕ) (o : Option RegNo) (e : RegNo) → IfSome o (λ f. n ≤ number f) → o ≡ Some e → n ≤ number e
some_from n o e h is = subst (λ p. IfSome p (λ f. n ≤ number f)) is h

rows_number : (root : Data) (e : RegNo) → rows_read root ≡ Err e → 4 ≤ number e
rows_number root e h =
    some_from 4 (least (refusals_of root)) e (least_from 4 (refusals_of root) (at_least 4 12 4 (refusals_of root) (omega arith) (of_all root)))
    (the_refusal (least (refusals_of root)) (configuration_of root) e (sym (rows_answer root) ∙ h))

root_number : (root : Data) (o : Option KnownVersion) (e : RegNo) → versioned_read o root ≡ Err e → 3 ≤ number e
root_number root (Some v) e h = omega (arith, rows_number root e h)
root_number root None e h = let same : no.Version ≡ e = cc in subst (λ f. 3 ≤ number f) same (omega arith)

document_number : (o : Option Data) (e : RegNo) → document_read o ≡ Err e → 2 ≤ number e
document_number None e h = let same : no.NotToml ≡ e = cc in subst (λ f. 2 ≤ number f) same (omega arith)
document_number (Some root) e h = omega (arith, root_number root (version_of root) e h)

long_at : (b : List ℕ) (t : Bool) → nat_lt 1048576 (length b) ≡ t → cond t (Err no.TooLong) (document_read (document_in b)) ≡ Err no.TooLong → 1048576 < length b
long_at b true is h = ltb-true 1048576 (length b) is
long_at b false is h = absurd (omega (arith, document_number (document_in b) no.TooLong h))

pub too_long_only : (b : List ℕ) → registry_read b ≡ Err no.TooLong → 1048576 < length b
too_long_only b h = long_at b (nat_lt 1048576 (length b)) refl h

-- an answer other than that it is too long
short_at : (b : List ℕ) (r : Result Configuration RegNo) (t : Bool) → nat_lt 1048576 (length b) ≡ t → cond t (Err no.TooLong) (document_read (document_in b)) ≡ r → (Err no.TooLong ≡ r → ⊥) → (length b ≤ 1048576) × (document_read (document_in b) ≡ r)
short_at b r true is h other = absurd (other h)
short_at b r false is h other = (ltb-false 1048576 (length b) is, h)

short_of : (b : List ℕ) (r : Result Configuration RegNo) → registry_read b ≡ r → (Err no.TooLong ≡ r → ⊥) → (length b ≤ 1048576) × (document_read (document_in b) ≡ r)
short_of b r h other = short_at b r (nat_lt 1048576 (length b)) refl h other

none_only : (o : Option Data) → document_read o ≡ Err no.NotToml → o ≡ None
none_only None h = refl
none_only (Some root) h = absurd (omega (arith, root_number root (version_of root) no.NotToml h))

error_same : (e f : RegNo) (r : Result Configuration RegNo) → r ≡ Err f → Err e ≡ r → e ≡ f
error_same e f r h g = cc

pub not_toml_only : (b : List ℕ) → registry_read b ≡ Err no.NotToml → (length b ≤ 1048576) × (document_in b ≡ None)
not_toml_only b h =
    let s : (length b ≤ 1048576) × (document_read (document_in b) ≡ Err no.NotToml) = short_of b (Err no.NotToml) h (λ g. not_same no.TooLong no.NotToml (omega arith) (error_same _ _ (Err no.NotToml) refl g)) in
    (s.0, none_only (document_in b) s.1)

-- a table stands in the bytes
record Table (r : Result Configuration RegNo) (o : Option Data) : Type 0 where
  pub root : Data
  pub there : o ≡ Some root
  pub answer : versioned_read (version_of root) root ≡ r

table_in : (o : Option Data) (r : Result Configuration RegNo) → document_read o ≡ r → (Err no.NotToml ≡ r → ⊥) → Table r o
table_in None r h other = absurd (other h)
table_in (Some root) r h other = record { root = root; there = refl; answer = h }

some_none : {A : Type 0} (a : A) → Some a ≡ None → ⊥
some_none a h = cc h

-- a known version is found
not_known : (root : Data) → version_of root ≡ None → HasVersion root → ⊥
not_known root none (inl is) = some_none First (sym (ap version_numbered is) ∙ none)
not_known root none (inr is) = some_none Second (sym (ap version_numbered is) ∙ none)

other_only : (root : Data) (o : Option KnownVersion) → version_of root ≡ o → versioned_read o root ≡ Err no.Version → HasVersion root → ⊥
other_only root (Some v) is h known = absurd (omega (arith, rows_number root no.Version h))
other_only root None is h known = not_known root is known

pub version_only : (b : List ℕ) → registry_read b ≡ Err no.Version → IsOtherVersion b
version_only b h =
    let s : (length b ≤ 1048576) × (document_read (document_in b) ≡ Err no.Version) = short_of b (Err no.Version) h (λ g. not_same no.TooLong no.Version (omega arith) (error_same _ _ (Err no.Version) refl g)) in
    let t : Table (Err no.Version) (document_in b) = table_in (document_in b) (Err no.Version) s.1 (λ g. not_same no.NotToml no.Version (omega arith) (error_same _ _ (Err no.Version) refl g)) in
    record { root = t.root; document = record { short = s.0; toml = t.there }; other = other_only t.root (version_of t.root) refl t.answer }

pub least_only : (b : List ℕ) (root : Data) (e : RegNo) → IsDocument b root → HasVersion root → registry_read b ≡ Err e → IsLeast e (refusals_of root)
least_only b root e d v h = least_is e (refusals_of root) (the_refusal (least (refusals_of root)) (configuration_of root) e (sym (answer_of b root d v) ∙ h))

no_error : (e : RegNo) (c : Configuration) → Err e ≡ Ok c → ⊥
no_error e c h = cc h

version_at : (root : Data) (c : Configuration) (o : Option KnownVersion) → version_of root ≡ o → versioned_read o root ≡ Ok c → HasVersion root × (rows_read root ≡ Ok c)
version_at root c (Some v) is h = (known (natural_at (codes "version") root) v is, h)
version_at root c None is h = absurd (no_error no.Version c h)

pub accepted_only : (b : List ℕ) (c : Configuration) → registry_read b ≡ Ok c → IsAccepted b c
accepted_only b c h =
    let s : (length b ≤ 1048576) × (document_read (document_in b) ≡ Ok c) = short_of b (Ok c) h (no_error no.TooLong c) in
    let t : Table (Ok c) (document_in b) = table_in (document_in b) (Ok c) s.1 (no_error no.NotToml c) in
    let v : HasVersion t.root × (rows_read t.root ≡ Ok c) = version_at t.root c (version_of t.root) refl t.answer in
    let n : (least (refusals_of t.root) ≡ None) × (c ≡ configuration_of t.root) = no_refusal (least (refusals_of t.root)) (configuration_of t.root) c (sym (rows_answer t.root) ∙ v.1) in
    record { root = t.root; document = record { short = s.0; toml = t.there }; version = v.0; guiltless = empty_least (refusals_of t.root) n.0; says = n.1 }
