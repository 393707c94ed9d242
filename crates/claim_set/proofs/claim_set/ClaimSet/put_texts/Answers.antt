use Rattle.std.proofs.Common.{arith}
use Rattle.serde_json.proofs.Views.{view-Array}
use Rattle.claim_set.proofs.Texts.{whole_texts, flat_texts}
use Rattle.claim_set.proofs.claim_set.ClaimSet.put_texts.Goals as goal

pub put-requires-clause-whole : goal.put-requires-clause-whole
put-requires-clause-whole c = rw (view-Array c.in_ok-items.items, c.in_ok-items.ensures) (whole_texts c.args.value.now)

pub put-requires-clause-nests : goal.put-requires-clause-nests
put-requires-clause-nests c = rw (view-Array c.in_ok-items.items, c.in_ok-items.ensures) (omega (arith, flat_texts c.args.value.now))
