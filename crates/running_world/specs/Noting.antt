-- What is noted of a place: cookies that it sets, tokens that it writes, and words that it issues.
use Rattle.std.specs.Prelude.{◌≡◌, ℕ, Bool, false, ◌==◌, ◌&&◌, ◌||◌, not, List, [], ◌∷◌, ◌++◌, map, Option, Some, None}
use Rattle.std.specs.List.{list_any}
use Rattle.std.specs.Str.{bytes_eq}
use Rattle.std.specs.Option.{option_or}
use Rattle.sso_base.specs.Words.{Word, Text}
use Rattle.client_registry.specs.Configuration.{Configuration}
use Rattle.client_registry.specs.declared.records.Client.{Client}
use Rattle.client_registry.specs.Numbers.{client_at}
use Rattle.client_registry.specs.ClientSets.{has_client}
use Rattle.op_issue.specs.declared.sign_out.SignOut.{SignOut}
use Rattle.op_issue.specs.LogoutTokens.{issued_logout}
use Rattle.code_grant.specs.declared.rows.SessionRow.{SessionRow}
use Rattle.op_exchange.specs.declared.ask.OpAsk.TheVariants as op_ask
use Rattle.op_exchange.specs.declared.reply.OpReply.{OpReply}
use Rattle.op_exchange.specs.declared.reply.OpReply.TheVariants as op
use Rattle.op_exchange.specs.Replied.{code_in, access_in}
use Rattle.sso_places.specs.declared.types.Jar.{Jar}
use Rattle.sso_places.specs.declared.types.To.{To}
use Rattle.sso_places.specs.declared.types.To.TheVariants as to
use Rattle.sso_places.specs.declared.types.WorldReply.{WorldReply}
use Rattle.sso_places.specs.declared.types.WorldReply.TheVariants as reply
use Rattle.sso_places.specs.Cookies.{words_in, jar_words}
use Rattle.sso_places.specs.Site.{own_site}
use Rattle.sso_places.specs.Told.{told_if}
use Rattle.sso_places.specs.Tokens.{TokenText, token_if, is_token}
use Rattle.sso_places.specs.Written.{client_of_uri, logouts_written, rp_written}
use Rattle.world_index.specs.Setting.{set_for_other}
use Rattle.world_index.specs.Writing.{is_written_for}
use Rattle.world_index.specs.Issuing.{issued_of, issued_as}
use Rattle.world_index.specs.declared.halves.Issued.{Issued}
use Rattle.running_world.specs.declared.foreknown.Foreknown.{Foreknown}
use Rattle.running_world.specs.declared.kept.Asked.{Asked}
use Rattle.running_world.specs.declared.kept.Kept.{Kept}
use Rattle.running_world.specs.declared.noting.Index.{Index}
use Rattle.sso_places.specs.Cookies.{set_by}
use Rattle.world_index.specs.declared.setters.Setter.{Setter}
use Rattle.running_world.specs.Whole.{from_if}

-- ---- cookies

-- there is a word, and a number other than this one sets it
abbrev pub word_sets_for : ℕ → ℕ → Word → Option Word → Bool
word_sets_for from other w None = false
word_sets_for from other w (Some v) = bytes_eq v w && not (from == other)

-- the same for the words of a jar
abbrev pub sets_for : ℕ → ℕ → Word → Jar → Bool
sets_for from other w set = not (from == other) && list_any (λ v. bytes_eq v w) (jar_words set)

-- the word is noted as set under this number, and nothing else
abbrev pub IsWordSet : List (Word × Setter) → List (Word × Setter) → ℕ → Option Word → Type 0
IsWordSet before after from word =
    (w : Word) (other : ℕ) → set_for_other after w other ≡ (word_sets_for from other w word || set_for_other before w other)

-- the words of a jar are noted so
abbrev pub AreWordsSet : List (Word × Setter) → List (Word × Setter) → ℕ → Jar → Type 0
AreWordsSet before after from set =
    (w : Word) (other : ℕ) → set_for_other after w other ≡ (sets_for from other w set || set_for_other before w other)

-- some of them are, and nothing else
abbrev pub AreWordsPartlySet : List (Word × Setter) → List (Word × Setter) → ℕ → Jar → Type 0
AreWordsPartlySet before after from set =
    (w : Word) (other : ℕ)
    → (sets_for from other w set || set_for_other after w other) ≡ (sets_for from other w set || set_for_other before w other)

-- ---- tokens

-- the logout tokens of a sign-out, by the session that it ends
abbrev pub ended_writes : Configuration → ℕ → List Word → Option SessionRow → List TokenText
ended_writes c at fresh ended = logouts_written c (record { at = at; fresh = fresh; ask = op_ask.NotHere }) ended

-- the tokens that the provider writes, by its reply and what was known before it
abbrev pub written_by : Configuration → ℕ → List Word → OpReply → Option ℕ → Option SessionRow → List TokenText
written_by c at fresh (op.Answered answer given) client ended = token_if (client_of_uri c answer.redirect) answer.id
written_by c at fresh (op.Tokens access id) client ended = token_if client (Some id)
written_by c at fresh (op.SignedOut messages) client ended = ended_writes c at fresh ended
written_by c at fresh reply client ended = []

-- the tokens that the provider writes in reply to a request
abbrev pub op_writes : Configuration → Asked → Foreknown → OpReply → List TokenText
op_writes c a fore answer = written_by c a.at a.fresh answer fore.client fore.ended

-- the number of a client, if a sign-out notifies it
abbrev pub told_by : Option Client → List Bool → ℕ → List ℕ
told_by None answered n = []
told_by (Some client) answered n = told_if n (has_client n answered) client.logout

abbrev pub told_at : Configuration → List Bool → ℕ → List ℕ
told_at c answered n = told_by (client_at c n) answered n

-- the logout token for the client with this number, if the sign-out notifies it
abbrev pub logout_written : Configuration → SignOut → List Bool → ℕ → List TokenText
logout_written c out answered n = map (λ client. (client, issued_logout c client out)) (told_at c answered n)

-- all these tokens are noted, and nothing else
abbrev pub AreNoted : List (List Text) → List (List Text) → List TokenText → Type 0
AreNoted before after texts =
    (t : Text) (client : ℕ)
    → is_written_for after t client ≡ (list_any (is_token (client, t)) texts || is_written_for before t client)

-- some of these tokens are noted, and nothing else
abbrev pub ArePartlyNoted : List (List Text) → List (List Text) → List TokenText → Type 0
ArePartlyNoted before after texts =
    (t : Text) (client : ℕ)
    → (list_any (is_token (client, t)) texts || is_written_for after t client)
    ≡ (list_any (is_token (client, t)) texts || is_written_for before t client)

-- ---- codes and access tokens

abbrev pub words_issued : OpReply → List Word
words_issued reply = words_in (code_in reply) ++ words_in (access_in reply)

-- the word, if there is one with this half hash
abbrev pub issued_if : Text → ℕ → Option Word → Option Issued
issued_if half place None = None
issued_if half place (Some w) = issued_as half w place

-- the first of these words with this half hash
abbrev pub issued_here : Text → ℕ → List Word → Option Issued
issued_here half place [] = None
issued_here half place (w ∷ words) = option_or (issued_as half w place) (issued_here half place words)

-- ---- the contents of a place

abbrev pub writes_by : Configuration → Asked → Foreknown → To → WorldReply → List TokenText
writes_by c a fore to.Provider (reply.Provider answer) = op_writes c a fore answer
writes_by c a fore (to.Party n) (reply.Party answer) = rp_written (own_site c) n a.fresh answer
writes_by c a fore role answer = []

abbrev pub writes_if : Configuration → Foreknown → Option Asked → WorldReply → List TokenText
writes_if c fore None answer = []
writes_if c fore (Some a) answer = writes_by c a fore a.to answer

-- the tokens that it writes
abbrev pub kept_writes : Configuration → Foreknown → Kept → List TokenText
kept_writes c fore k = writes_if c fore k.asked k.reply

-- the code and the access token that it issues
abbrev pub issued_by : WorldReply → List Word
issued_by (reply.Provider answer) = words_issued answer
issued_by answer = []

-- the half hashes of these words are noted at a place, and nothing else
abbrev pub AreIssued : List (Text × Issued) → List (Text × Issued) → ℕ → WorldReply → Type 0
AreIssued before after place reply =
    (half : Text) → issued_of after half ≡ option_or (issued_of before half) (issued_here half place (issued_by reply))

-- some of them are, and nothing else
abbrev pub ArePartlyIssued : List (Text × Issued) → List (Text × Issued) → ℕ → WorldReply → Type 0
ArePartlyIssued before after place reply =
    (half : Text)
    → option_or (issued_of after half) (issued_here half place (issued_by reply))
    ≡ option_or (issued_of before half) (issued_here half place (issued_by reply))

-- the place is indexed
pub record IsNoted (c : Configuration) (before after : Index) (k : Kept) (place : ℕ) (fore : Foreknown) : Type 0 where
  pub set : AreWordsSet before.setters after.setters (from_if k.asked) (set_by k.reply)
  pub wrote : AreNoted before.written after.written (kept_writes c fore k)
  pub issued : AreIssued before.halves after.halves place k.reply

-- parts of the place may be indexed, and nothing else is
pub record IsPartlyNoted (c : Configuration) (before after : Index) (k : Kept) (place : ℕ) (fore : Foreknown) : Type 0 where
  pub set : AreWordsPartlySet before.setters after.setters (from_if k.asked) (set_by k.reply)
  pub wrote : ArePartlyNoted before.written after.written (kept_writes c fore k)
  pub issued : ArePartlyIssued before.halves after.halves place k.reply
