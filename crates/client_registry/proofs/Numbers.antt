-- The numbers of refusals: those of records are from 7 to 11, and those of subjects are 12.
use Rattle.std.proofs.Common.{◌==◌, ◌||◌, ℕ, List, [], ◌∷◌, length, nat_lt, codes, Option, Some, None, slice_get, arith}
use Rattle.std.specs.Str.{bytes_eq}
use Rattle.configuration_rows.specs.declared.no.RegNo.{RegNo}
use Rattle.configuration_rows.specs.declared.no.RegNo.TheVariants as no
use Rattle.configuration_rows.proofs.Numbers.{HaveNumbers, of_two, of_note, of_each}
use Rattle.client_registry.specs.declared.records.User.{User}
use Rattle.client_registry.specs.declared.records.Client.{Client}
use Rattle.client_registry.specs.declared.records.Party.{Party}
use Rattle.client_registry.specs.Records.{client_place}
use Rattle.client_registry.specs.Rules as rule
use Rattle.client_registry.specs.Rules.{records_refusals, subjects_refusals}

-- ---- records

abbrev OfRecords : List RegNo → Type 0
OfRecords es = HaveNumbers 7 11 es

of_user : (users : List User) (i : ℕ) (u : User) → OfRecords (rule.user_twice users i u)
of_user users i u = of_note 7 11 _ _ (omega arith) (omega arith)

of_redirects : (clients : List Client) (i : ℕ) (uris : List (List ℕ)) → OfRecords (rule.redirects_twice clients i uris)
of_redirects clients i [] = tt
of_redirects clients i (uri ∷ uris) = of_two 7 11 _ _ (of_note 7 11 _ _ (omega arith) (omega arith)) (of_redirects clients i uris)

of_old : (clients : List Client) (i : ℕ) (k : Client) (o : Option (List ℕ)) → OfRecords (rule.old_twice clients i k o)
of_old clients i k None = tt
of_old clients i k (Some old) = of_note 7 11 _ _ (omega arith) (omega arith)

of_client : (issuer : List ℕ) (clients : List Client) (i : ℕ) (k : Client) → OfRecords (rule.client_twice issuer clients i k)
of_client issuer clients i k =
    of_two 7 11 _ _
    (of_two 7 11 _ _
    (of_two 7 11 _ _
    (of_note 7 11 (rule.is_again i (client_place k.id clients) || bytes_eq k.id issuer) (no.Twice k.id) (omega arith) (omega arith))
    (of_note 7 11 (rule.is_again i (rule.secret_place k.secret clients)) (no.Twice k.id) (omega arith) (omega arith)))
    (of_old clients i k k.old_secret))
    (of_redirects clients i k.redirects)

of_use : (parties : List Party) (i n : ℕ) (o : Option Client) → OfRecords (rule.use_twice parties i n o)
of_use parties i n None = tt
of_use parties i n (Some k) = of_note 7 11 _ _ (omega arith) (omega arith)

of_party : (clients : List Client) (parties : List Party) (i : ℕ) (p : Party) → OfRecords (rule.party_twice clients parties i p)
of_party clients parties i p = of_two 7 11 _ _ (of_note 7 11 _ _ (omega arith) (omega arith)) (of_use parties i p.client (slice_get clients p.client))

of_secret : (i : ℕ) (k : Client) → OfRecords (rule.short_secret i k)
of_secret i k = of_note 7 11 _ _ (omega arith) (omega arith)

of_size : (i : ℕ) (u : User) → OfRecords (rule.user_size i u)
of_size i u = of_two 7 11 _ _ (of_note 7 11 (i == 512) (no.TooMany (codes "user")) (omega arith) (omega arith)) (of_note 7 11 (nat_lt 2048 (length u.claims)) (no.TooMany (codes "claims")) (omega arith) (omega arith))

of_hosts : (i : ℕ) (k : Client) → OfRecords (rule.mixed_hosts i k)
of_hosts i k = of_note 7 11 _ _ (omega arith) (omega arith)

of_unknown : (clients i : ℕ) (p : Party) → OfRecords (rule.unknown_client clients i p)
of_unknown clients i p = of_note 7 11 _ _ (omega arith) (omega arith)

pub of_records : (issuer : List ℕ) (users : List User) (clients : List Client) (parties : List Party) → HaveNumbers 7 11 (records_refusals issuer users clients parties)
unfolding records_refusals
of_records issuer users clients parties =
    of_two 7 11 _ _
    (of_two 7 11 _ _
    (of_two 7 11 _ _
    (of_two 7 11 _ _
    (of_two 7 11 _ _
    (of_two 7 11 _ _
    (of_two 7 11 _ _
    (of_two 7 11 _ _
    (of_each 7 11 (rule.user_twice users) 0 users (of_user users))
    (of_each 7 11 (rule.client_twice issuer clients) 0 clients (of_client issuer clients)))
    (of_each 7 11 (rule.party_twice clients parties) 0 parties (of_party clients parties)))
    (of_each 7 11 rule.short_secret 0 clients of_secret))
    (of_each 7 11 rule.user_size 0 users of_size))
    (of_note 7 11 (nat_lt 128 (length clients)) (no.TooMany (codes "client")) (omega arith) (omega arith)))
    (of_note 7 11 (nat_lt 64 (length parties)) (no.TooMany (codes "party")) (omega arith) (omega arith)))
    (of_each 7 11 rule.mixed_hosts 0 clients of_hosts))
    (of_each 7 11 (rule.unknown_client (length clients)) 0 parties (of_unknown (length clients)))

-- ---- subjects

of_clashes : (k : Client) (users : List User) (subjects : List (List ℕ)) → HaveNumbers 12 12 (rule.clashes k users subjects)
of_clashes k users subjects =
    of_each 12 12 (λ n subject. rule.clash_at k users n (rule.text_place subject subjects)) 0 subjects (λ n subject. of_note 12 12 _ _ (omega arith) (omega arith))

pub of_subjects : (salt : List ℕ) (users : List User) (clients : List Client) → HaveNumbers 12 12 (subjects_refusals salt users clients)
unfolding subjects_refusals
of_subjects salt users clients =
    of_each 12 12 (λ n k. rule.clashes k users (rule.subjects_at salt users k)) 0 clients (λ n k. of_clashes k users (rule.subjects_at salt users k))
