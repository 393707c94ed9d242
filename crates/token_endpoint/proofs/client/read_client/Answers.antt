use Rattle.std.proofs.Common.{ℕ, List, Option, option_map}
use Rattle.std.specs.Borrow.{Bor}
use Rattle.token_endpoint.specs.declared.no.GrantNo.TheVariants.{NoMemory}
use Rattle.token_endpoint.specs.Request.{client_asked}
use Rattle.token_endpoint.specs.Granted.{IsOfClient, Cause}
use Rattle.sso_base.proofs.Answering.{if_answered, only_memory, if_refused}
use Rattle.token_endpoint.proofs.OfClients.{of_client, is_of_client, client_cause}
use Rattle.token_endpoint.proofs.client.read_client.Goals as goal

abbrev bytes : Option (Bor (List ℕ)) → Option (List ℕ)
bytes o = option_map (λ (b : Bor (List ℕ)). b.now) o

pub returns-clause-client : goal.returns-clause-client
returns-clause-client c =
    if_answered (client_asked c.args.registry.now (bytes c.args.auth) (bytes c.args.body)) (IsOfClient c.args.registry.now (bytes c.args.auth) (bytes c.args.body))
    (of_client c.args.registry.now (bytes c.args.auth) (bytes c.args.body)) c.shown.result c.shown.ensures.ok

pub returns-clause-accepts : goal.returns-clause-accepts
returns-clause-accepts c = λ n i.
    only_memory NoMemory (client_asked c.args.registry.now (bytes c.args.auth) (bytes c.args.body)) n
    (is_of_client c.args.registry.now (bytes c.args.auth) (bytes c.args.body) n c.clients-clients.ensures.registry.client_ids i) c.shown.result c.shown.ensures.err

pub returns-clause-cause : goal.returns-clause-cause
returns-clause-cause c =
    if_refused NoMemory (client_asked c.args.registry.now (bytes c.args.auth) (bytes c.args.body)) (Cause c.args.registry.now (bytes c.args.auth) (bytes c.args.body))
    (λ e h. client_cause c.args.registry.now (bytes c.args.auth) (bytes c.args.body) e c.clients-clients.ensures.registry.client_ids h) c.shown.result c.shown.ensures.err
