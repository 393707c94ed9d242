use Rattle.std.proofs.Common.{◌≡◌, length}
use Rattle.sso_base.specs.Rows.{live_rows}
use Rattle.oidc_words.specs.Lives.{family_life}
use Rattle.refresh_answer.specs.Rows.{family_begun}
use Rattle.refresh_rows.specs.TokenRows.{tokens_of, accesses_of}
use Rattle.refresh_rows.proofs.dropping.drop_over.Given as goal

-- what is left is as it was, and the tokens are those of the families left
abbrev pub invariant-loop-family : goal.invariant-loop-family
invariant-loop-family l = record {
  live : live_rows family_life family_begun l.at l.families.rows ≡ live_rows family_life family_begun l.at l.fn.families.rows;
  tokens : l.tokens.rows ≡ tokens_of l.families.rows l.fn.tokens.rows;
  accesses : l.accesses.rows ≡ accesses_of l.families.rows l.fn.accesses.rows;
  family_room : l.families.capacity ≡ l.fn.families.capacity;
  token_room : l.tokens.capacity ≡ l.fn.tokens.capacity;
  access_room : l.accesses.capacity ≡ l.fn.accesses.capacity;
}

abbrev pub decreases-loop-family : goal.decreases-loop-family
decreases-loop-family l = length l.families.rows
