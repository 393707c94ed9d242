-- The premise of authorization: no access token is shared (RFC 6750, 5.3). A place that shows an access token is the number that
-- got it from the provider, or a server of a party to which that number brought it, or the party that requested it for a code.
-- In a world number 0 is that of the servers of its parties. Any other server counts as a browser.
use Rattle.std.specs.Prelude.{◌≡◌, ℕ, suc, Bool, true, false, ◌==◌, ◌&&◌, ◌||◌, not, List, [], ◌∷◌, ◌++◌, length}
use Rattle.std.specs.Prelude.{Option, Some, None, option_and_then, Ok, if◌then◌else◌}
use Rattle.std.specs.List.{list_any}
use Rattle.std.specs.Option.{option_or}
use Rattle.std.specs.Str.{bytes_eq}
use Rattle.sso_base.specs.Words.{Word, Text, word_of_text}
use Rattle.sso_base.specs.declared.http.Ask.{Ask}
use Rattle.sso_base.specs.declared.message.Message.{Message}
use Rattle.userinfo.specs.declared.header.Bearer.TheVariants.{Given}
use Rattle.op_exchange.specs.declared.ask.OpAsk.{OpAsk}
use Rattle.op_exchange.specs.declared.ask.OpAsk.TheVariants as op_ask
use Rattle.op_exchange.specs.declared.reply.OpReply.{OpReply}
use Rattle.op_exchange.specs.declared.reply.OpReply.TheVariants as op
use Rattle.op_exchange.specs.Replied.{access_in}
use Rattle.rp_exchange.specs.declared.ask.RpAsk.{RpAsk}
use Rattle.rp_exchange.specs.declared.ask.RpAsk.TheVariants as rp_ask
use Rattle.rp_exchange.specs.declared.reply.RpReply.{RpReply}
use Rattle.rp_exchange.specs.declared.reply.RpReply.TheVariants as rp
use Rattle.sso_places.specs.World.{Place, Provider, Party, Nothing, World, from_of}
use Rattle.sso_places.specs.Cookies.{words_in}

-- ---- the access tokens that a place gives, and those that it shows

abbrev pub access_given : Place → List Word
access_given (Provider from request p) = words_in (access_in p.reply)
access_given (Party n from request p) = []
access_given Nothing = []

-- the one of a UserInfo request
abbrev pub op_shown : OpAsk → List Word
op_shown (op_ask.Info (Given w)) = w ∷ []
op_shown asked = []

-- the one of an authorization response, and of a token response
abbrev pub rp_shown : RpAsk → List Word
rp_shown (rp_ask.Callback (Ok heard) read browser) = words_in (option_and_then word_of_text heard.access)
rp_shown (rp_ask.Tokens pending (Ok came) read) = words_in (word_of_text came.access)
rp_shown asked = []

abbrev pub access_shown : Place → List Word
access_shown (Provider from request p) = op_shown p.entry.ask
access_shown (Party n from request p) = rp_shown p.entry.ask
access_shown Nothing = []

abbrev pub is_among : List Word → Word → Bool
is_among ws w = list_any (λ v. bytes_eq v w) ws

-- ---- messages from server to server

abbrev pub is_same : Option Text → Option Text → Bool
is_same None None = true
is_same (Some t) (Some u) = bytes_eq t u
is_same t u = false

-- the request has the header and the body of the message
abbrev pub brings : Ask → Message → Bool
brings request message = is_same request.auth message.auth && is_same request.body message.body

-- the reply sends this request to UserInfo, and to the token endpoint
abbrev pub fetches : Ask → RpReply → Bool
fetches request (rp.Fetch w message) = brings request message
fetches request reply = false

abbrev pub exchanges : Ask → Word → RpReply → Bool
exchanges request pending (rp.Exchange w message) = bytes_eq w pending && brings request message
exchanges request pending reply = false

-- ---- who may show an access token

-- the number is the same, and not that of the servers
abbrev pub is_self : ℕ → ℕ → Bool
is_self from other = (from == other) && not (from == 0)

-- a party was shown the access token at this place, and sends this request to UserInfo
abbrev pub takes : Ask → Word → Place → Bool
takes request access (Party n from brought p) = is_among (rp_shown p.entry.ask) access && fetches request p.reply
takes request access x = false

-- the party of the number sends this token request at this place
abbrev pub asks_tokens : ℕ → Word → Ask → Place → Bool
asks_tokens n pending request (Party k from brought p) = (k == n) && exchanges request pending p.reply
asks_tokens n pending request x = false

abbrev pub is_token_response : OpReply → Bool
is_token_response (op.Tokens access id) = true
is_token_response reply = false

-- the giver answered the token request that the party sent under this word
abbrev pub is_returned : World → ℕ → Word → Place → Bool
is_returned earlier n pending (Provider to request p) = (to == 0) && is_token_response p.reply && list_any (asks_tokens n pending request) earlier
is_returned earlier n pending giver = false

abbrev pub may_bring : World → ℕ → ℕ → RpAsk → Place → Bool
may_bring earlier n from (rp_ask.Tokens pending came read) giver = is_returned earlier n pending giver
may_bring earlier n from asked giver = is_self from (from_of giver)

-- a place after a world may show an access token that the giver gave
abbrev pub may_show : World → Place → Place → Word → Bool
may_show earlier (Provider from request p) giver access = is_self from (from_of giver) || ((from == 0) && list_any (takes request access) earlier)
may_show earlier (Party n from request p) giver access = may_bring earlier n from p.entry.ask giver
may_show earlier Nothing giver access = true

-- ---- the premise

-- a place after a world shows an access token that the giver gives, and may not
abbrev pub shows_wrongly : World → Place → Place → Bool
shows_wrongly earlier x giver = list_any (λ w. is_among (access_given giver) w && not (may_show earlier x giver w)) (access_shown x)

-- some place of a world showed what the giver gives
abbrev pub shown_before : Place → World → Bool
shown_before giver [] = false
shown_before giver (x ∷ world) = shows_wrongly world x giver || shown_before giver world

-- the place shows an access token that it may not show, or gives one that an earlier place might not show
abbrev pub shares : World → Place → Bool
shares world x = list_any (shows_wrongly world x) (x ∷ world) || shown_before x world

abbrev pub IsUnshared : World → Type 0
IsUnshared [] = Unit {0}
IsUnshared (x ∷ world) = IsUnshared world × (shares world x ≡ false)

-- ---- the first place at which it fails, and what this means

abbrev pub first_shared : World → Option ℕ
first_shared [] = None
first_shared (x ∷ world) = option_or (first_shared world) (if shares world x then Some (suc (length world)) else None)

pub record IsFirstShared (world : World) (number : ℕ) : Type 0 where
  pub later : World
  pub place : Place
  pub earlier : World
  pub parts : world ≡ later ++ place ∷ earlier
  pub number_is : number ≡ suc (length earlier)
  pub unshared : IsUnshared earlier
  pub shared : shares earlier place ≡ true
