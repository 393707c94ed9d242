use Rattle.authorization.proofs.ConsentedClaims.{info_is_consented, id_is_consented, redeemed_is_consented}
use Rattle.authorization.proofs.law.claims_are_consented.Goals as goal

pub returns-clause-info : goal.returns-clause-info
returns-clause-info c = info_is_consented

pub returns-clause-id : goal.returns-clause-id
returns-clause-id c = λ d past id wish session given. id_is_consented d past wish session id given

pub returns-clause-redeemed : goal.returns-clause-redeemed
returns-clause-redeemed c = λ d past access wish session given. redeemed_is_consented d past wish session access given
