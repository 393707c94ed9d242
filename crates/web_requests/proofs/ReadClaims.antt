-- What was read of an ID Token may be sealed again: its other claims have none of the names of the fields.
use Rattle.std.proofs.Common.{◌≡◌, ℕ, List, [], ◌∷◌, Bool, true, false, cond, None, refl, sym, ap, ◌∙◌, subst}
use Rattle.std.specs.Str.{bytes_eq}
use Rattle.std.proofs.lemmas.Slice.Eq.{bytes_eq-Decides}
use Rattle.serde_json.specs.Data.{Data, Members, no_members, member}
use Rattle.serde_json.specs.Find.{get_member}
use Rattle.sso_base.proofs.RowLaws.{bytes_same}
use Rattle.claim_set.specs.Claims.{without}
use Rattle.claim_set.specs.Building.{without_all, HasNone}
use Rattle.claim_set.specs.Fitting.{IsBefore, InOrder}
use Rattle.claim_set.proofs.Fitting.{skips, absent_before, get_member-without_other}
use Rattle.claim_set.proofs.Order.{InOrder-Reads}
use Rattle.id_token.specs.declared.claims.IdClaims.{IdClaims}
use Rattle.id_token.specs.Claims.{id_names}
use Rattle.id_token.specs.Token.{IsIdToken}
use Rattle.web_requests.specs.Forging.{IsOfToken}

-- ---- names that are taken out

before_at : (q l : List ℕ) (e : Data) (ms rest : Members) (t : Bool) → IsBefore q (member l e ms) → IsBefore q rest → IsBefore q (cond t ms (member l e rest))
before_at q l e ms rest true b r = b.1
before_at q l e ms rest false b r = (b.0, r)

before_without : (q k : List ℕ) (ms : Members) → IsBefore q ms → IsBefore q (without k ms)
before_without q k no_members b = tt
before_without q k (member l e ms) b = before_at q l e ms (without k ms) (bytes_eq k l) b (before_without q k ms b.1)

order_at : (l : List ℕ) (e : Data) (ms rest : Members) (t : Bool) → InOrder (member l e ms) → IsBefore l rest → InOrder rest → InOrder (cond t ms (member l e rest))
order_at l e ms rest true h b r = h.1
order_at l e ms rest false h b r = (b, r)

order_without : (k : List ℕ) (ms : Members) → InOrder ms → InOrder (without k ms)
order_without k no_members h = tt
order_without k (member l e ms) h = order_at l e ms (without k ms) (bytes_eq k l) h (before_without l k ms h.0) (order_without k ms h.1)

gone_at : (k l : List ℕ) (e : Data) (ms rest : Members) (t : Bool) → bytes_eq k l ≡ t → IsBefore l ms → get_member k rest ≡ None → get_member k (cond t ms (member l e rest)) ≡ None
gone_at k l e ms rest true is b h = let same : k ≡ l = (bytes_eq-Decides k l).0 is in rw same (absent_before l ms b)
gone_at k l e ms rest false is b h = skips k l e rest is ∙ h

gone : (k : List ℕ) (ms : Members) → InOrder ms → get_member k (without k ms) ≡ None
gone k no_members h = refl
gone k (member l e ms) h = gone_at k l e ms (without k ms) (bytes_eq k l) refl h.0 (gone k ms h.1)

none_at : (q k : List ℕ) (ms : Members) (t : Bool) → bytes_eq q k ≡ t → InOrder ms → get_member q ms ≡ None → get_member q (without k ms) ≡ None
none_at q k ms true is o h = let same : q ≡ k = bytes_same q k is in ap (λ t. get_member q (without t ms)) (sym same) ∙ gone q ms o
none_at q k ms false is o h = get_member-without_other q k ms (λ same. absurd (cc (sym is ∙ (bytes_eq-Decides q k).1 same))) ∙ h

none_left : (k : List ℕ) (ks : List (List ℕ)) (ms : Members) → InOrder ms → HasNone ks ms → HasNone ks (without k ms)
none_left k [] ms o h = tt
none_left k (q ∷ ks) ms o h = (none_at q k ms (bytes_eq q k) refl o h.0, none_left k ks ms o h.1)

order_all : (ks : List (List ℕ)) (ms : Members) → InOrder ms → InOrder (without_all ks ms)
order_all [] ms o = o
order_all (k ∷ ks) ms o = order_without k (without_all ks ms) (order_all ks ms o)

none_of_all : (ks : List (List ℕ)) (ms : Members) → InOrder ms → HasNone ks (without_all ks ms)
none_of_all [] ms o = tt
none_of_all (k ∷ ks) ms o =
    let rest = without_all ks ms in
    let order = order_all ks ms o in
    (gone k rest order, none_left k ks rest order (none_of_all ks ms o))

-- ---- an ID Token

pub of_token : (k t : List ℕ) (x : IdClaims) → IsIdToken k t x → IsOfToken x
of_token k t x token = record {
  others = subst (HasNone id_names) (sym token.has.more) (none_of_all id_names token.claims (InOrder-Reads token.payload token.claims token.reads));
  exp = token.has.exp_fits;
  iat = token.has.iat_fits;
  auth_time = token.has.auth_time_fits;
}
