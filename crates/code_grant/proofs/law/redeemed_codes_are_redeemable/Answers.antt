use Rattle.code_grant.proofs.Redemptions.{redeemed_is_redeemable, redeemable_is_redeemed}
use Rattle.code_grant.proofs.law.redeemed_codes_are_redeemable.Goals as goal

pub returns-clause-redeemable : goal.returns-clause-redeemable
returns-clause-redeemable c = redeemed_is_redeemable

pub returns-clause-redeemed : goal.returns-clause-redeemed
returns-clause-redeemed c = redeemable_is_redeemed
