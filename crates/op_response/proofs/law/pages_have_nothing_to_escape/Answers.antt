use Rattle.op_response.proofs.Characters.{no_mark_in_word_text, no_mark_in_client_id}
use Rattle.op_response.proofs.ScopeTexts.{are_plain}
use Rattle.op_response.proofs.law.pages_have_nothing_to_escape.Goals as goal

pub returns-clause-word : goal.returns-clause-word
returns-clause-word c = no_mark_in_word_text

pub returns-clause-client : goal.returns-clause-client
returns-clause-client c = no_mark_in_client_id

pub returns-clause-scopes : goal.returns-clause-scopes
returns-clause-scopes c = are_plain
