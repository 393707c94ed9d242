use Rattle.std.proofs.Common.{rules, ◌≡◌, ◌+◌, ℕ, List, ◌∷◌, drop, sym, ◌∙◌, ap, subst, arith}
use Rattle.std.specs.Str.{IsUtf8}
use Rattle.sso_base.specs.Words.{Text}
use Rattle.sso_base.specs.TextBuffer.{texts_in, IsBuffer}
use Rattle.sso_base.proofs.TextBuffers.{IsFirst, is_first, has_none, ok_where}
use Rattle.sso_base.proofs.texts.first_text.Goals as goal

pub returns-in_default-clause-none : goal.returns-in_default-clause-none
returns-in_default-clause-none c = has_none c.args.bytes.now c.requires (sym c.first_end.ensures ∙ c.in_default.is)

pub split_at-requires : goal.split_at-requires
split_at-requires c =
    let first : IsFirst c.args.bytes.now c.in-Some.end = is_first c.args.bytes.now c.in-Some.end c.requires (sym c.first_end.ensures ∙ c.in-Some.is) in
    let within = first.within in
    omega (arith, within)

pub split_at-requires-2 : goal.split_at-requires-2
split_at-requires-2 c =
    let first : IsFirst c.args.bytes.now c.in-Some.end = is_first c.args.bytes.now c.in-Some.end c.requires (sym c.first_end.ensures ∙ c.in-Some.is) in
    let within = first.within in
    omega (arith, within)

pub unwrap-requires : goal.unwrap-requires
unwrap-requires c =
    let first : IsFirst c.args.bytes.now c.in-Some.end = is_first c.args.bytes.now c.in-Some.end c.requires (sym c.first_end.ensures ∙ c.in-Some.is) in
    let U : List ℕ → Type 0 = λ xs. IsUtf8 xs in
    ok_where _ _ _ c.from_utf8.result (subst U (sym c.split_at.ensures.front) first.utf8) c.from_utf8.ensures.cases

pub returns-clause-some : goal.returns-clause-some
returns-clause-some c =
    let first : IsFirst c.args.bytes.now c.in-Some.end = is_first c.args.bytes.now c.in-Some.end c.requires (sym c.first_end.ensures ∙ c.in-Some.is) in
    let whole = first.texts in
    let front = c.split_at.ensures.front in
    let back = c.split_at-2.ensures.back in
    let read : c.unwrap.result.now ≡ c.split_at.result.0.now = search rules in
    let F : List ℕ → List Text = λ xs. xs ∷ texts_in (drop (c.in-Some.end + 1) c.args.bytes.now) in
    let R : List ℕ → List Text = λ xs. c.unwrap.result.now ∷ texts_in xs in
    whole ∙ ap F (sym (read ∙ front)) ∙ ap R (sym back)

pub returns-clause-rest : goal.returns-clause-rest
returns-clause-rest c =
    let first : IsFirst c.args.bytes.now c.in-Some.end = is_first c.args.bytes.now c.in-Some.end c.requires (sym c.first_end.ensures ∙ c.in-Some.is) in
    let B : List ℕ → Type 0 = λ xs. IsBuffer xs in
    subst B (sym c.split_at-2.ensures.back) first.rest
