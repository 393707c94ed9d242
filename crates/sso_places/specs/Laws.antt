-- Laws about worlds. Each is a clause of a function of `law.rt`, which says it in words.
use Rattle.std.specs.Prelude.{◌≡◌, ◌<◌, ℕ, List, ◌∷◌, length}
use Rattle.std.specs.List.{AllByRecursion}
use Rattle.sso_base.specs.Words.{Word, Text}
use Rattle.sso_base.specs.declared.history.Entry.{Entry}
use Rattle.sso_base.specs.declared.message.Message.{Message}
use Rattle.client_registry.specs.Configuration.{Configuration}
use Rattle.op_exchange.specs.declared.ask.OpAsk.{OpAsk}
use Rattle.op_exchange.specs.declared.reply.OpReply.TheVariants.{SignedOut}
use Rattle.op_answer.specs.Past.{OpPair, OpPast}
use Rattle.op_answer.specs.Answering.{op_answer}
use Rattle.rp_exchange.specs.declared.reply.RpReply.TheVariants.{Ask}
use Rattle.rp_answer.specs.Past.{RpPair, RpPast}
use Rattle.rp_answer.specs.Legal.{IsLegalRp}
use Rattle.sso_places.specs.Each.{Each}
use Rattle.sso_places.specs.Legal.{IsLegalWorld}
use Rattle.sso_places.specs.Merges.{AreHistories, IsMerge}
use Rattle.sso_places.specs.Site.{Site, IsSite, setup_at}
use Rattle.sso_places.specs.Told.{Carries}
use Rattle.sso_places.specs.World.{World}
use Rattle.sso_places.specs.Written.{CarriesObject, op_written, rp_written}

-- ---- written tokens

abbrev pub MessagesCarryTheWrittenTokens : Type 0
MessagesCarryTheWrittenTokens =
    (c : Configuration) (past : OpPast) (e : Entry OpAsk) (messages : List Message) → op_answer c past e ≡ SignedOut messages
    → Each (Carries c) (op_written c past e e.ask (SignedOut messages)) messages

abbrev pub LoginsCarryTheWrittenObjects : Type 0
LoginsCarryTheWrittenObjects =
    (s : Site) (n : ℕ) (p : RpPair) (past : RpPast) (to : Text) (browser : Word) → IsSite s → n < length s.configuration.parties
    → IsLegalRp (setup_at s n) (p ∷ past) → p.reply ≡ Ask to browser
    → AllByRecursion (CarriesObject to) (rp_written s n p.entry.fresh p.reply)

-- ---- merges of histories

abbrev pub MergesAreLegal : Type 0
MergesAreLegal =
    (s : Site) (provider : List OpPair) (parties : ℕ → List RpPair) (world : World) → AreHistories s provider parties
    → IsMerge s provider parties world → IsLegalWorld s world
