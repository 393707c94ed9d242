use Rattle.code_grant.proofs.Redemptions.{by_its_row, after_another_issued, after_another_redeemed, after_purge}
use Rattle.code_grant.proofs.law.other_codes_do_not_count.Goals as goal

pub returns-clause-row : goal.returns-clause-row
returns-clause-row c = by_its_row

pub returns-clause-issued : goal.returns-clause-issued
returns-clause-issued c = after_another_issued

pub returns-clause-redeemed : goal.returns-clause-redeemed
returns-clause-redeemed c = after_another_redeemed

pub returns-clause-purged : goal.returns-clause-purged
returns-clause-purged c = after_purge
