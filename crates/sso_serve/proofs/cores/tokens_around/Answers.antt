use Rattle.std.proofs.Common.{ap, sym}
use Rattle.sso_base.specs.Journal.{most_of}
use Rattle.sso_serve.proofs.cores.tokens_around.Goals as goal

pub new-requires-clause-most : goal.new-requires-clause-most
new-requires-clause-most c = ap most_of (sym c.requires.lasts)
