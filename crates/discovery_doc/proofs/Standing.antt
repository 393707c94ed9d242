-- What stands in a document is of its kind, and what is of its kind stands there.
use Rattle.std.proofs.Common.{◌≡◌, ℕ, List, [], ◌∷◌, true, false, Option, Some, None, option_map, option_and_then, unwrap_or, is_some, is_none, refl, ap}
use Rattle.std.specs.Prelude.{IfSome}
use Rattle.serde_json.specs.Data.{Data, null, boolean, number, string, array, object, Items, no_items, item}
use Rattle.serde_json.specs.Find.{as_str}
use Rattle.claim_set.specs.Claims.{text_items}
use Rattle.claim_set.specs.Kinds.{item_texts}
use Rattle.registered_url.specs.Rule.{url_of}
use Rattle.discovery_doc.specs.Metadata.{texts}
use Rattle.discovery_doc.specs.Reading.{as_texts, is_bad_url, is_bad_member}
use Rattle.discovery_doc.specs.Document.{IsUrl}

-- ---- what stands there is of its kind

pub texts_are_texts : (ts : List (List ℕ)) → item_texts (text_items ts) ≡ Some ts
texts_are_texts [] = refl
texts_are_texts (t ∷ ts) = ap (option_map (λ rest. t ∷ rest)) (texts_are_texts ts)

pub text_if_there : (o : Option (List ℕ)) → option_and_then as_str (option_map string o) ≡ o
text_if_there None = refl
text_if_there (Some t) = refl

not_none : {A : Type 0} (o : Option A) → is_some o ≡ true → is_none o ≡ false
not_none None h = absurd (cc)
not_none (Some a) h = refl

is_there : {A : Type 0} (o : Option A) → is_none o ≡ false → is_some o ≡ true
is_there None h = absurd (cc)
is_there (Some a) h = refl

pub url_not_bad : (t : List ℕ) → IsUrl t → is_bad_url t ≡ false
url_not_bad t h = not_none (url_of t) h

pub not_bad_url : (t : List ℕ) → is_bad_url t ≡ false → IsUrl t
not_bad_url t h = is_there (url_of t) h

pub member_not_bad : (o : Option (List ℕ)) → IfSome o IsUrl → is_bad_member (option_map string o) ≡ false
member_not_bad None h = refl
member_not_bad (Some t) h = url_not_bad t h

-- ---- what is of its kind stands there

pub text_there : (o : Option Data) → is_none (option_and_then as_str o) ≡ false → o ≡ Some (string (unwrap_or (option_and_then as_str o) []))
text_there None h = absurd (cc)
text_there (Some null) h = absurd (cc)
text_there (Some (boolean b)) h = absurd (cc)
text_there (Some (number n)) h = absurd (cc)
text_there (Some (string s)) h = refl
text_there (Some (array ds)) h = absurd (cc)
text_there (Some (object ms)) h = absurd (cc)

rest_of : (s : List ℕ) (ds : Items) (q : Option (List (List ℕ))) → item_texts ds ≡ q → ((us : List (List ℕ)) → item_texts ds ≡ Some us → ds ≡ text_items us)
    → (ts : List (List ℕ)) → option_map (λ rest. s ∷ rest) q ≡ Some ts → item (string s) ds ≡ text_items ts
rest_of s ds None is rest ts h = absurd (cc)
rest_of s ds (Some us) is rest ts h = let same : s ∷ us ≡ ts = cc in rw (← same) (ap (item (string s)) (rest us is))

items_there : (ds : Items) (ts : List (List ℕ)) → item_texts ds ≡ Some ts → ds ≡ text_items ts
items_there no_items ts h = let same : [] ≡ ts = cc in rw (← same) refl
items_there (item null ds) ts h = absurd (cc)
items_there (item (boolean b) ds) ts h = absurd (cc)
items_there (item (number n) ds) ts h = absurd (cc)
items_there (item (string s) ds) ts h = rest_of s ds (item_texts ds) refl (items_there ds) ts h
items_there (item (array es) ds) ts h = absurd (cc)
items_there (item (object ms) ds) ts h = absurd (cc)

array_there : (ds : Items) (q : Option (List (List ℕ))) → item_texts ds ≡ q → is_none q ≡ false → array ds ≡ texts (unwrap_or q [])
array_there ds None is h = absurd (cc)
array_there ds (Some ts) is h = ap array (items_there ds ts is)

pub texts_there : (o : Option Data) → is_none (option_and_then as_texts o) ≡ false → o ≡ Some (texts (unwrap_or (option_and_then as_texts o) []))
texts_there None h = absurd (cc)
texts_there (Some null) h = absurd (cc)
texts_there (Some (boolean b)) h = absurd (cc)
texts_there (Some (number n)) h = absurd (cc)
texts_there (Some (string s)) h = absurd (cc)
texts_there (Some (array ds)) h = ap Some (array_there ds (item_texts ds) refl h)
texts_there (Some (object ms)) h = absurd (cc)

pub userinfo_there : (o : Option Data) → is_bad_member o ≡ false → (o ≡ option_map string (option_and_then as_str o)) × IfSome (option_and_then as_str o) IsUrl
userinfo_there None h = (refl, tt)
userinfo_there (Some null) h = absurd (cc)
userinfo_there (Some (boolean b)) h = absurd (cc)
userinfo_there (Some (number n)) h = absurd (cc)
userinfo_there (Some (string s)) h = (refl, not_bad_url s h)
userinfo_there (Some (array ds)) h = absurd (cc)
userinfo_there (Some (object ms)) h = absurd (cc)
