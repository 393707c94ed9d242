use Rattle.std.proofs.Common.{◌≡◌, map, drop}
use Rattle.sso_base.specs.Outside.{content_of}
use Rattle.sso_base.proofs.shelf_memory.find_content.Given as goal

-- the content is among those to come
abbrev pub invariant-loop-file : goal.invariant-loop-file
invariant-loop-file l =
    content_of (map (λ f. (f.name, f.content)) (drop l.file-index l.files)) l.name ≡ content_of (map (λ f. (f.name, f.content)) l.files) l.name
