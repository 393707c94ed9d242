use Rattle.std.proofs.Common.{ℕ, List, Option, option_map}
use Rattle.std.specs.Borrow.{Bor}
use Rattle.std.specs.Str.{IsUtf8}
use Rattle.token_endpoint.specs.declared.granting.Grant.{Grant}
use Rattle.token_endpoint.specs.declared.no.GrantNo.TheVariants.{NoMemory}
use Rattle.token_endpoint.specs.Request.{grant_read}
use Rattle.token_endpoint.specs.Granted.{IsGrant, Cause}
use Rattle.sso_base.proofs.Answering.{if_answered, only_memory, only_answer, if_refused}
use Rattle.token_endpoint.proofs.Requests.{granted, is_granted, granted_texts}
use Rattle.token_endpoint.proofs.Refused.{caused}
use Rattle.token_endpoint.proofs.granting.read_grant.Goals as goal

abbrev bytes : Option (Bor (List ℕ)) → Option (List ℕ)
bytes o = option_map (λ (b : Bor (List ℕ)). b.now) o

pub returns-clause-grant : goal.returns-clause-grant
returns-clause-grant c =
    if_answered (grant_read c.args.registry.now (bytes c.args.auth) (bytes c.args.body)) (IsGrant c.args.registry.now (bytes c.args.auth) (bytes c.args.body))
    (granted c.args.registry.now (bytes c.args.auth) (bytes c.args.body)) c.granted.result c.granted.ensures.ok

pub returns-clause-texts : goal.returns-clause-texts
returns-clause-texts c =
    if_answered (grant_read c.args.registry.now (bytes c.args.auth) (bytes c.args.body)) (λ (g : Grant). IsUtf8 g.code × IsUtf8 g.redirect)
    (granted_texts c.args.registry.now (bytes c.args.auth) (bytes c.args.body)) c.granted.result c.granted.ensures.ok

pub returns-clause-accepts : goal.returns-clause-accepts
returns-clause-accepts c = λ g i.
    only_memory NoMemory (grant_read c.args.registry.now (bytes c.args.auth) (bytes c.args.body)) g
    (is_granted c.args.registry.now (bytes c.args.auth) (bytes c.args.body) g c.clients-clients.ensures.registry.client_ids i) c.granted.result c.granted.ensures.err

pub returns-clause-value : goal.returns-clause-value
returns-clause-value c = λ g i.
    only_answer (grant_read c.args.registry.now (bytes c.args.auth) (bytes c.args.body)) g
    (is_granted c.args.registry.now (bytes c.args.auth) (bytes c.args.body) g c.clients-clients.ensures.registry.client_ids i) c.granted.result c.granted.ensures.ok

pub returns-clause-cause : goal.returns-clause-cause
returns-clause-cause c =
    if_refused NoMemory (grant_read c.args.registry.now (bytes c.args.auth) (bytes c.args.body)) (Cause c.args.registry.now (bytes c.args.auth) (bytes c.args.body))
    (λ e h. caused c.args.registry.now (bytes c.args.auth) (bytes c.args.body) e c.clients-clients.ensures.registry.client_ids h) c.granted.result c.granted.ensures.err
