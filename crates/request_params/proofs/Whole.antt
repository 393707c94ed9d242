-- The parameters beside a request object and those in it are together the whole request.
use Rattle.std.proofs.Common.{◌≡◌, codes, true, Option, Some, None, is_some, Ok, refl, ◌∙◌}
use Rattle.sso_base.specs.Words.{Text}
use Rattle.request_params.specs.declared.params.Params.{Params}
use Rattle.request_params.specs.declared.name.ParamName.{ParamName}
use Rattle.request_params.specs.declared.name.ParamName.TheVariants.{ResponseType, ClientId, RedirectUri, Scope, State, Nonce, ResponseMode, Prompt, MaxAge, Claims, Request, RequestUri, Registration}
use Rattle.request_params.specs.Names.{param_of}
use Rattle.request_params.specs.Merging.{request_merged, Agrees}
use Rattle.request_params.specs.Signed.{outer_params, inner_params, IsSignable}
use Rattle.request_params.proofs.MergeLaws.{is-merged}

there : (o : Option Text) → is_some o ≡ true → (v : Text) × (o ≡ Some v)
there None h = absurd (cc)
there (Some v) h = (v, refl)

one_value : (o : Option Text) (v w : Text) → o ≡ Some v → o ≡ Some w → w ≡ v
one_value o v w h k = cc

agrees : (name : ParamName) (outer inner : Params) → param_of name outer ≡ param_of name inner → is_some (param_of name inner) ≡ true → Agrees name outer inner
agrees name outer inner same h =
    let at = there (param_of name inner) h in
    record { value = at.0; beside = same ∙ at.1; inside = λ w is. one_value (param_of name inner) at.0 w at.1 is }

not_none : {Z : Type 0} (o : Option Text) → is_some o ≡ true → o ≡ None → Z
not_none None h k = absurd (cc)
not_none (Some v) h k = absurd (cc)

from_object : (params : Params) (object : Text) (name : ParamName) (v : Text) → param_of name (inner_params params) ≡ Some v → param_of name (record params { request = Some object }) ≡ Some v
from_object params object ResponseType v h = h
from_object params object ClientId v h = h
from_object params object RedirectUri v h = h
from_object params object Scope v h = h
from_object params object State v h = h
from_object params object Nonce v h = h
from_object params object ResponseMode v h = h
from_object params object Prompt v h = h
from_object params object MaxAge v h = h
from_object params object Claims v h = h
from_object params object Request v h = absurd (cc)
from_object params object RequestUri v h = absurd (cc)
from_object params object Registration v h = absurd (cc)

from_beside : (params : Params) (object : Text) → IsSignable params → (name : ParamName) → param_of name (inner_params params) ≡ None
    → param_of name (record params { request = Some object }) ≡ param_of name (outer_params params object)
from_beside params object s ResponseType h = refl
from_beside params object s ClientId h = refl
from_beside params object s RedirectUri h = refl
from_beside params object s Scope h = not_none params.scope s.scope h
from_beside params object s State h = h
from_beside params object s Nonce h = h
from_beside params object s ResponseMode h = h
from_beside params object s Prompt h = h
from_beside params object s MaxAge h = h
from_beside params object s Claims h = h
from_beside params object s Request h = refl
from_beside params object s RequestUri h = s.no_request_uri
from_beside params object s Registration h = s.no_registration

pub signed_whole : (params : Params) (object : Text) → IsSignable params → request_merged (outer_params params object) (inner_params params) ≡ Ok (record params { request = Some object })
signed_whole params object s =
    is-merged (outer_params params object) (inner_params params) (record params { request = Some object }) (record {
      client = agrees ClientId (outer_params params object) (inner_params params) refl s.client;
      response_type = agrees ResponseType (outer_params params object) (inner_params params) refl s.response_type;
      openid = record { words = codes "openid"; there = refl; openid = refl };
      from_object = from_object params object;
      from_beside = from_beside params object s;
    })
