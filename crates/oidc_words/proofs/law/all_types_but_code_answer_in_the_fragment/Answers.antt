use Rattle.oidc_words.proofs.TypeTexts.{all_but_code}
use Rattle.oidc_words.proofs.law.all_types_but_code_answer_in_the_fragment.Goals as goal

pub returns : goal.returns
returns c = all_but_code
