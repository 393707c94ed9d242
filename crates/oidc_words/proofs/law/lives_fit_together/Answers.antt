use Rattle.oidc_words.proofs.LivesFit.{says_its_life}
use Rattle.oidc_words.proofs.law.lives_fit_together.Goals as goal

pub returns-clause-expires_in : goal.returns-clause-expires_in
returns-clause-expires_in c = says_its_life
