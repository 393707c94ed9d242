use Rattle.std.proofs.Common.{true, false, codes, refl}
use Rattle.honest_worlds.proofs.WholeLogins.{by_code, by_code_with_info, by_id, by_id_token, by_id_token_with_info}
use Rattle.honest_worlds.proofs.law.whole_logins_are_honest.Goals as goal

pub returns-clause-code : goal.returns-clause-code
returns-clause-code c = by_code

pub returns-clause-code_with_info : goal.returns-clause-code_with_info
returns-clause-code_with_info c = by_code_with_info false false (codes "code") refl

pub returns-clause-id_token : goal.returns-clause-id_token
returns-clause-id_token c = by_id

pub returns-clause-id_token_token : goal.returns-clause-id_token_token
returns-clause-id_token_token c = by_id_token

pub returns-clause-id_token_token_with_info : goal.returns-clause-id_token_token_with_info
returns-clause-id_token_token_with_info c = by_id_token_with_info

pub returns-clause-code_id_token : goal.returns-clause-code_id_token
returns-clause-code_id_token c = by_code_with_info true false (codes "code id_token") refl

pub returns-clause-code_token : goal.returns-clause-code_token
returns-clause-code_token c = by_code_with_info false true (codes "code token") refl

pub returns-clause-code_id_token_token : goal.returns-clause-code_id_token_token
returns-clause-code_id_token_token c = by_code_with_info true true (codes "code id_token token") refl
