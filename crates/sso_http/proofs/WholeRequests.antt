-- A head and then a body.
use Rattle.std.proofs.Common.{◌≡◌, ℕ, List, ◌++◌, Option, Ok, inr, refl}
use Rattle.server_desk.specs.Sources.{Gives}
use Rattle.server_desk.proofs.Pieces.{gives_more}
use Rattle.sso_base.specs.declared.http.Ask.{Ask}
use Rattle.sso_http.specs.Input.{IsHeadRead, IsNoHeadRead, IsBodyRead, IsNoBodyRead}
use Rattle.sso_http.specs.Judging.{IsJudged}
use Rattle.sso_http.specs.Requests.{with_body, IsShortHead, IsAskRead, IsRefused}
use Rattle.sso_http.specs.declared.judge.Judged.{Judged}
use Rattle.sso_http.specs.declared.no.HttpNo.{HttpNo}
use Rattle.sso_http.specs.declared.no.HttpNo.TheVariants.{NoMemory, ReadFault, EndedEarly}

pub no_memory : (old new : Option (List ℕ)) (bytes : List ℕ) → Gives old new bytes → IsNoHeadRead old new NoMemory
no_memory old new bytes given = record { bytes = bytes; given = given; cause = tt }

short_head : {old new : Option (List ℕ)} (head : List ℕ) → IsHeadRead old new head → IsShortHead head
short_head head h = record { head = h.head_is; within = h.within }

module _ (first second : List ℕ) (old mid new : Option (List ℕ)) (head : List ℕ) (j : Judged) (h : IsHeadRead old mid head) (told : IsJudged first second head (Ok j)) where
  pub whole_request : (body : List ℕ) (ask : Ask) → IsBodyRead j.count mid new body → ask ≡ with_body j body → IsAskRead first second old new ask
  whole_request body ask b asks =
      record {
        head = head;
        body = body;
        given = gives_more old mid new head body h.given b.given;
        request = record { short = short_head head h; judged = j; judged_so = told; whole = b.whole; asks = asks };
      }

  pub part_of_request : (e : HttpNo) → IsNoBodyRead j.count mid new e → IsRefused first second old new e
  part_of_request NoMemory b = record { bytes = head ++ b.bytes; given = gives_more old mid new head b.bytes h.given b.given; cause = tt }
  part_of_request ReadFault b = record { bytes = head ++ b.bytes; given = gives_more old mid new head b.bytes h.given b.given; cause = tt }
  part_of_request EndedEarly b =
      record {
        bytes = head ++ b.bytes;
        given = gives_more old mid new head b.bytes h.given b.given;
        cause = (b.cause.1, inr (head, b.bytes, refl, record { short = short_head head h; judged = j; judged_so = told; part = b.cause.0 }));
      }
  part_of_request e b = absurd b.cause
