-- Which authorization request a turn and a code of the provider answer, and the mark of that request.
use Rattle.std.specs.Prelude.{◌≡◌, ◌⊎◌, List, ◌∷◌, ◌++◌, Option, Some}
use Rattle.sso_base.specs.Words.{Word}
use Rattle.sso_base.specs.declared.history.Pair.{Pair}
use Rattle.auth_request.specs.declared.wish.Wish.{Wish}
use Rattle.auth_request.specs.declared.wish.Verdict.TheVariants.{Grant}
use Rattle.code_grant.specs.declared.rows.TurnRow.{TurnRow}
use Rattle.code_grant.specs.declared.rows.CodeRow.{CodeRow}
use Rattle.op_exchange.specs.declared.ask.OpAsk.{OpAsk}
use Rattle.op_exchange.specs.declared.ask.OpAsk.TheVariants.{Authorize}
use Rattle.op_exchange.specs.declared.reply.OpReply.{OpReply}
use Rattle.op_exchange.specs.Replied.{code_in}
use Rattle.op_answer.specs.Turns.{turn_named}
use Rattle.core_stack.specs.declared.marks.TurnMark.{TurnMark}
use Rattle.core_stack.specs.declared.marks.CodeMark.{CodeMark}
use Rattle.core_stack.specs.Marks.{page_turn}

module _ {A R M : Type 0} (plain : A → Option OpAsk) (given : R → Option OpReply) (mark : A → M) where
  -- an authorization request for this wish, with this mark, got the page of the turn
  pub record TurnAsked (past : List (Pair A R)) (turn : Word) (marked : M) (wish : Wish) : Type 0 where
    pub later : List (Pair A R)
    pub maker : Pair A R
    pub earlier : List (Pair A R)
    pub parts : past ≡ later ++ maker ∷ earlier
    pub browser : Option Word
    pub presented : Option Word
    pub asked : plain maker.entry.ask ≡ Some (Authorize (Grant wish) browser presented)
    pub page : OpReply
    pub answered : given maker.reply ≡ Some page
    pub turn_is : page_turn page ≡ Some turn
    pub mark_is : mark maker.entry.ask ≡ marked

  -- an authorization request for this wish, with this mark, got the code at once
  pub record CodeAtOnce (past : List (Pair A R)) (code : Word) (marked : M) (wish : Wish) : Type 0 where
    pub later : List (Pair A R)
    pub maker : Pair A R
    pub earlier : List (Pair A R)
    pub parts : past ≡ later ++ maker ∷ earlier
    pub browser : Option Word
    pub presented : Option Word
    pub asked : plain maker.entry.ask ≡ Some (Authorize (Grant wish) browser presented)
    pub response : OpReply
    pub answered : given maker.reply ≡ Some response
    pub code_is : code_in response ≡ Some code
    pub mark_is : mark maker.entry.ask ≡ marked

  -- a form of a turn got the code, and the authorization request that began the turn had this wish and this mark
  pub record CodeAtForm (past : List (Pair A R)) (code : Word) (marked : M) (wish : Wish) : Type 0 where
    pub later : List (Pair A R)
    pub form : Pair A R
    pub earlier : List (Pair A R)
    pub parts : past ≡ later ++ form ∷ earlier
    pub request : OpAsk
    pub asked : plain form.entry.ask ≡ Some request
    pub response : OpReply
    pub answered : given form.reply ≡ Some response
    pub code_is : code_in response ≡ Some code
    pub turn : Word
    pub named : turn_named request ≡ Some turn
    pub begun : TurnAsked earlier turn marked wish

  abbrev pub CodeAsked : List (Pair A R) → Word → M → Wish → Type 0
  CodeAsked past code marked wish = CodeAtOnce past code marked wish ⊎ CodeAtForm past code marked wish

  -- the row with a mark is that of the provider's turn, or of its code: they have the word, the moment and the wish of one request
  abbrev pub IsOfTurn : List (Pair A R) → TurnMark M → TurnRow → Type 0
  IsOfTurn past m row = (m.turn ≡ row.word) × (m.begun ≡ row.begun) × TurnAsked past row.word m.mark row.wish

  abbrev pub IsOfCode : List (Pair A R) → CodeMark M → CodeRow → Type 0
  IsOfCode past m row = (m.code ≡ row.word) × (m.issued ≡ row.issued) × CodeAsked past row.word m.mark row.wish
