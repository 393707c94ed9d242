use Rattle.std.proofs.Common.{true, false, codes, refl}
use Rattle.played_logins.proofs.PlayedLogins.{id_played, id_token_played, code_played, info_played}
use Rattle.played_logins.proofs.law.whole_logins_are_played.Goals as goal

pub returns-clause-id_token : goal.returns-clause-id_token
returns-clause-id_token c = id_played

pub returns-clause-id_token_token : goal.returns-clause-id_token_token
returns-clause-id_token_token c = id_token_played

pub returns-clause-code : goal.returns-clause-code
returns-clause-code c = code_played

pub returns-clause-code_with_info : goal.returns-clause-code_with_info
returns-clause-code_with_info c = info_played false false (codes "code") refl

pub returns-clause-code_id_token : goal.returns-clause-code_id_token
returns-clause-code_id_token c = info_played true false (codes "code id_token") refl

pub returns-clause-code_token : goal.returns-clause-code_token
returns-clause-code_token c = info_played false true (codes "code token") refl

pub returns-clause-code_id_token_token : goal.returns-clause-code_id_token_token
returns-clause-code_id_token_token c = info_played true true (codes "code id_token token") refl
