-- The verifiers after one more reply.
use Rattle.std.specs.Prelude.{◌≡◌, ◌<◌, Bool, true, List, [], ◌∷◌, ◌++◌, length, Option, Some, None}
use Rattle.sso_base.specs.Words.{Word}
use Rattle.sso_base.specs.Rows.{without, row_of, live_rows}
use Rattle.oidc_words.specs.Lives.{login_life}
use Rattle.held_rows.specs.Held.{most_rows, none_after}
use Rattle.rp_exchange.specs.declared.reply.RpReply.{RpReply}
use Rattle.rp_answer.specs.Logins.{ends_login}
use Rattle.pkce_party.specs.declared.known.Known.{Known}
use Rattle.pkce_party.specs.declared.rows.VerifierRow.{VerifierRow}
use Rattle.pkce_party.specs.Verifiers.{verifier_name, verifier_begun, if_begun}

-- without the verifier of this state, if its login ends
abbrev pub ended_rows : Bool → Option Word → List VerifierRow → List VerifierRow
ended_rows true (Some state) rows = without verifier_name state rows
ended_rows ended state rows = rows

-- those that live, without that of the login that ends
abbrev pub rows_left : Known → Bool → List VerifierRow → List VerifierRow
rows_left k ended rows = ended_rows ended k.state (live_rows login_life verifier_begun k.at rows)

-- and one more
abbrev pub pushed : Option VerifierRow → List VerifierRow → List VerifierRow
pushed None rows = rows
pushed (Some row) rows = rows ++ row ∷ []

abbrev pub noted : Known → RpReply → List VerifierRow → List VerifierRow
noted k reply rows = pushed (if_begun reply k.drawn) (rows_left k (ends_login reply) rows)

-- there is room for one more, which has a new state and began last
pub record MayAddVerifier (rows : List VerifierRow) (row : VerifierRow) : Type 0 where
  pub few : length rows < most_rows
  pub unnamed : row_of verifier_name row.state rows ≡ None
  pub latest : none_after verifier_begun row.begun rows ≡ true
