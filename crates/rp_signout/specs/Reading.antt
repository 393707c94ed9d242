-- How a request is read: as one for the inner core, as a request to end a session, or as the answer to a question.
use Rattle.std.proofs.Common.{◌≡◌, Bool, true, false, cond, Option, Some, None}
use Rattle.std.specs.Str.{bytes_eq}
use Rattle.sso_base.specs.Words.{Word, word_of_text}
use Rattle.sso_base.specs.declared.http.Ask.{Ask}
use Rattle.client_registry.specs.Configuration.{Configuration}
use Rattle.request_params.specs.Form.{form_of}
use Rattle.op_exchange.specs.Fields.{agree_field, agree_value}
use Rattle.op_exchange.specs.declared.ask.OpAsk.{OpAsk}
use Rattle.op_exchange.specs.declared.ask.OpAsk.TheVariants.{SignOut}
use Rattle.op_request.specs.PostedForms.{fields_of, repeats_one, field}
use Rattle.signout_answer.specs.declared.asks.EndAsk.{EndAsk}
use Rattle.signout_answer.specs.declared.asks.EndAsk.TheVariants as ask
use Rattle.signout_answer.specs.Around.{plain_inside}
use Rattle.rp_signout.specs.declared.routes.Route.{Route}
use Rattle.rp_signout.specs.declared.routes.Route.TheVariants as route
use Rattle.rp_signout.specs.Pages.{word_field}
use Rattle.rp_signout.specs.Prepared.{route_asked, confirm_names, confirm_asked, end_asked}

module _
    {A : Type 0} (prepared : Configuration → Ask → A) (from_op : OpAsk → A) (c : Configuration) (request : Ask) (P : EndAsk A → Type 0)
    (through : P (ask.Through (prepared c request))) (start : P (ask.Start (form_of request.method request) request.second))
    (confirm : (word : Option Word) (agree : Bool) → P (ask.Confirm word agree request.second (from_op (SignOut request.second)))) where
  abbrev answer_as : Option Word → Bool → EndAsk A
  answer_as word agree = ask.Confirm word agree request.second (from_op (SignOut request.second))

  answered : (twice : Bool) (word : Option Word) (agree : Bool) → P (cond twice (answer_as None false) (answer_as word agree))
  answered true word agree = confirm None false
  answered false word agree = confirm word agree

  at_route : (o : Option Route) → P (end_asked prepared from_op c request o)
  at_route None = through
  at_route (Some route.Start) = start
  at_route (Some route.Confirm) =
      answered (repeats_one confirm_names (fields_of request.body)) (word_of_text (field word_field (fields_of request.body)))
      (bytes_eq (field agree_field (fields_of request.body)) agree_value)

  -- what is true of these three is true of what is read
  pub read_as : P (end_asked prepared from_op c request (route_asked c.prefix request))
  read_as = at_route (route_asked c.prefix request)

module _ {A : Type 0} (plain : A → Option OpAsk) (prepared : Configuration → Ask → A) (from_op : OpAsk → A) (c : Configuration) (request : Ask) where
  abbrev ReadsPlain : EndAsk A → Type 0
  ReadsPlain read = (a : OpAsk) → plain_inside plain read ≡ Some a → plain (prepared c request) ≡ Some a

  -- the provider's request in what is read, if there is one, is that of the inner core's request
  pub plain_read : (a : OpAsk) → plain_inside plain (end_asked prepared from_op c request (route_asked c.prefix request)) ≡ Some a
      → plain (prepared c request) ≡ Some a
  plain_read = read_as prepared from_op c request ReadsPlain (λ a same. same) (λ a same. absurd (cc)) (λ word agree a same. absurd (cc))
