use Rattle.std.proofs.Common.{◌≡◌, None, List, ◌∙◌, ap, subst, rules}
use Rattle.std.specs.Option.{option_or}
use Rattle.sso_base.specs.Words.{Text}
use Rattle.id_token.specs.HalfHash.{half_hash_of}
use Rattle.world_index.specs.declared.halves.Issued.{Issued}
use Rattle.world_index.specs.Issuing.{issued_of, issued_as}
use Rattle.world_index.proofs.Issuing.{inserted_at}
use Rattle.world_index.proofs.halves.Halves.note.Goals as goal

pub returns-in_ok-insert-clause-ok : goal.returns-in_ok-insert-clause-ok
returns-in_ok-insert-clause-ok c =
    let old : List (Text × Issued) = c.self.inside.words.entries in
    let absent : issued_of old c.half_hash-half.result ≡ None = search rules in
    let R : List (Text × Issued) → Type 0 = λ before. (half : Text) → issued_of c.insert.new.self.entries half ≡ option_or (issued_of before half) (issued_as half c.args.word.now c.args.place) in
    subst R c.self.view_is (inserted_at old c.insert.new.self.entries c.args.word.now c.args.place c.half_hash-half.result (c.half_hash-half.ensures ∙ ap half_hash_of c.text.ensures) absent c.in_ok-insert.ensures.updates.0)
