-- A text is read as a URL if and only if it keeps the rule.
use Rattle.std.proofs.Common.{◌≡◌, List, ℕ, Bool, true, false, ◌&&◌, cond, nat_le, length, Option, Some, None, option_map, Result, Ok, Err, refl, sym, ap, ◌∙◌, true≢false}
use Rattle.std.specs.List.{list_all}
use Rattle.std.proofs.lemmas.Bool.{leb-true, le-leb}
use Rattle.url.specs.declared.error.ParseError.{ParseError}
use Rattle.url.specs.Parts.{Parts}
use Rattle.url.specs.Parser.{parse_url}
use Rattle.registered_url.specs.declared.web_url.WebUrl.{WebUrl}
use Rattle.registered_url.specs.Rule.{KeepsUrlRule, is_visible, is_allowed, kept_parts, if_allowed, is_short_and_visible, parts_of, url_of}

some_inj : {A : Type 0} (a b : A) → Some a ≡ Some b → a ≡ b
some_inj a b h = cc

none_some : {A B : Type 0} (a : A) → None ≡ Some a → B
none_some a h = absurd (cc)

both : (a b : Bool) → (a && b) ≡ true → (a ≡ true) × (b ≡ true)
both true b h = (refl, h)
both false b h = absurd (true≢false (sym h))

if_allowed_at : (t : Bool) (p url : Parts) → is_allowed p ≡ t → cond t (Some p) None ≡ Some url → (p ≡ url) × (is_allowed url ≡ true)
if_allowed_at true p url is h = let same : p ≡ url = some_inj p url h in (same, ap is_allowed (sym same) ∙ is)
if_allowed_at false p url is h = none_some url h

if_allowed_some : (r : Result Parts ParseError) (url : Parts) → if_allowed r ≡ Some url → (r ≡ Ok url) × (is_allowed url ≡ true)
if_allowed_some (Ok p) url h = let at : (p ≡ url) × (is_allowed url ≡ true) = if_allowed_at (is_allowed p) p url refl h in (ap Ok at.0, at.1)
if_allowed_some (Err e) url h = none_some url h

parts_at : (b : Bool) (t : List ℕ) (url : Parts) → is_short_and_visible t ≡ b → cond b (if_allowed (parse_url None t)) None ≡ Some url → KeepsUrlRule t url
parts_at true t url is h =
    let halves : (nat_le (length t) 512 ≡ true) × (list_all is_visible t ≡ true) = both (nat_le (length t) 512) (list_all is_visible t) is in
    let found : (parse_url None t ≡ Ok url) × (is_allowed url ≡ true) = if_allowed_some (parse_url None t) url h in
    record { short = leb-true (length t) 512 halves.0; visible = halves.1; parsed = found.0; allowed = found.1 }
parts_at false t url is h = none_some url h

pub parts_keep : (t : List ℕ) (url : Parts) → parts_of t ≡ Some url → KeepsUrlRule t url
unfolding parts_of
parts_keep t url h = parts_at (is_short_and_visible t) t url refl h

url_at : (o : Option Parts) (u : WebUrl) → option_map kept_parts o ≡ Some u → (url : Parts) × (o ≡ Some url) × (u ≡ kept_parts url)
url_at (Some p) u h = (p, refl, sym (some_inj (kept_parts p) u h))
url_at None u h = none_some u h

pub urls_keep : (t : List ℕ) (u : WebUrl) → url_of t ≡ Some u → (url : Parts) × KeepsUrlRule t url × (u ≡ kept_parts url)
urls_keep t u h =
    let found : (url : Parts) × (parts_of t ≡ Some url) × (u ≡ kept_parts url) = url_at (parts_of t) u h in
    (found.0, parts_keep t found.0 found.1, found.2)

pub kept_read : (t : List ℕ) (url : Parts) → KeepsUrlRule t url → parts_of t ≡ Some url
unfolding parts_of
kept_read t url k =
    let short : nat_le (length t) 512 ≡ true = le-leb (length t) 512 k.short in
    rw (short, k.visible, k.parsed, k.allowed)

pub kept_url : (t : List ℕ) (url : Parts) → KeepsUrlRule t url → url_of t ≡ Some (kept_parts url)
kept_url t url k = ap (option_map kept_parts) (kept_read t url k)
