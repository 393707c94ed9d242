use Rattle.std.proofs.Common.{refl, sym, ◌∙◌}
use Rattle.sso_base.specs.Rows.{lives}
use Rattle.oidc_words.specs.Lives.{family_life}
use Rattle.refresh_answer.specs.declared.rows.FamilyRow.{FamilyRow}
use Rattle.refresh_answer.specs.declared.rows.AccessRow.{AccessRow}
use Rattle.refresh_rows.specs.declared.token_row.TokenRow.{TokenRow}
use Rattle.refresh_rows.specs.TokenRows.{is_of}
use Rattle.refresh_rows.proofs.Lists.{filter_all}
use Rattle.refresh_rows.proofs.LeftOut.{step_families, step_rows, step_shorter}
use Rattle.refresh_rows.proofs.dropping.drop_over.Goals as goal

pub loop-family-init : goal.loop-family-init
loop-family-init c =
    record {
      live = refl;
      tokens = sym (filter_all (λ (t : TokenRow). is_of c.args.families.now.rows t.family) c.args.tokens.now.rows c.requires.tokens_here);
      accesses = sym (filter_all (λ (x : AccessRow). is_of c.args.families.now.rows x.family) c.args.accesses.now.rows c.requires.accesses_here);
      family_room = refl;
      token_room = refl;
      access_room = refl;
    }

pub loop-family-preserved : goal.loop-family-preserved
loop-family-preserved c =
    let found = c.in-Some.ensures in
    let fs = c.loop-family.families.rows in
    let fs' = c.drop_family.new.families.rows in
    let f = c.in-Some.family.now in
    let before = c.loop-family.invariant in
    let dropped = c.drop_family.ensures in
    let place = c.number-place.result in
    let same = c.number-place.ensures.value in
    record {
      live = step_families fs fs' f place found.held.distinct found.some.there found.held.sound same dropped.families (λ (x : FamilyRow). lives family_life x.begun c.args.at) found.some.over ∙ before.live;
      tokens = step_rows fs fs' f place found.held.distinct found.some.there found.held.sound same dropped.families (λ (t : TokenRow). t.family) c.args.tokens.now.rows c.loop-family.tokens.rows c.drop_family.new.tokens.rows before.tokens dropped.tokens;
      accesses = step_rows fs fs' f place found.held.distinct found.some.there found.held.sound same dropped.families (λ (x : AccessRow). x.family) c.args.accesses.now.rows c.loop-family.accesses.rows c.drop_family.new.accesses.rows before.accesses dropped.accesses;
      family_room = dropped.family_room ∙ before.family_room;
      token_room = dropped.token_room ∙ before.token_room;
      access_room = dropped.access_room ∙ before.access_room;
    }

pub loop-family-smaller : goal.loop-family-smaller
loop-family-smaller c =
    let found = c.in-Some.ensures in
    step_shorter c.loop-family.families.rows c.drop_family.new.families.rows c.in-Some.family.now c.number-place.result found.held.distinct found.some.there found.held.sound c.number-place.ensures.value c.drop_family.ensures.families

pub returns-clause-families : goal.returns-clause-families
returns-clause-families c = sym c.in_default.ensures.none ∙ c.loop-family.invariant.live
