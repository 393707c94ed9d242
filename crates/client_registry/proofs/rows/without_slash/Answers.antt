use Rattle.std.proofs.Common.{◌≡◌, ◌∷◌, [], ◌++◌, Some, None, sym, ap, ◌∙◌, lit<}
use Rattle.std.proofs.lemmas.Str.Pattern.{strip_suffix_char}
use Rattle.client_registry.specs.Records.{without_slash}
use Rattle.client_registry.proofs.Slashes.{slash_gone, backslash_gone, slash_kept}
use Rattle.client_registry.proofs.rows.without_slash.Goals as goal

pub returns-in-Some : goal.returns-in-Some
returns-in-Some c =
    let is : c.args.text.now ≡ c.in-Some.front.now ++ 47 ∷ [] = strip_suffix_char 47 c.args.text.now (Some c.in-Some.front) c.in-Some.ensures.cases (lit< tt) in
    sym (ap without_slash is ∙ slash_gone c.in-Some.front.now)

pub returns-in-Some-strip_suffix : goal.returns-in-Some-strip_suffix
returns-in-Some-strip_suffix c =
    let is : c.args.text.now ≡ c.in-Some-strip_suffix.front.now ++ 92 ∷ [] = strip_suffix_char 92 c.args.text.now (Some c.in-Some-strip_suffix.front) c.in-Some-strip_suffix.ensures.cases (lit< tt) in
    sym (ap without_slash is ∙ backslash_gone c.in-Some-strip_suffix.front.now)

pub returns-in-None-strip_suffix : goal.returns-in-None-strip_suffix
returns-in-None-strip_suffix c =
    sym
    (slash_kept c.args.text.now
    (strip_suffix_char 47 c.args.text.now None c.in-None.ensures.cases (lit< tt))
    (strip_suffix_char 92 c.args.text.now None c.in-None-strip_suffix.ensures.cases (lit< tt)))
