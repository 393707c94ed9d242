-- Which pair made a question, and which question is answered.
use Rattle.std.proofs.Common.{◌≡◌, ℕ, Bool, true, false, cond, ◌&&◌, List, [], ◌∷◌, Option, Some, None, option_and_then, Result, Ok, Err, refl, ap}
use Rattle.std.proofs.Common.{sym, ◌∙◌, arith}
use Rattle.std.specs.Str.{bytes_eq}
use Rattle.std.proofs.lemmas.Bool.{and_parts}
use Rattle.sso_base.specs.Words.{Word}
use Rattle.sso_base.specs.Rows.{row_of, if_lives}
use Rattle.sso_base.specs.Stands.{Stands, carried}
use Rattle.sso_base.proofs.Literal.{stands-row_of}
use Rattle.sso_base.proofs.RowLaws.{bytes_same}
use Rattle.op_exchange.specs.declared.ask.OpAsk.{OpAsk}
use Rattle.op_exchange.specs.declared.ask.OpAsk.TheVariants.{SignOut}
use Rattle.core_stack.proofs.Same.{some_same}
use Rattle.end_request.specs.declared.wish.EndWish.{EndWish}
use Rattle.end_request.specs.declared.wish.EndNo.{EndNo}
use Rattle.end_request.specs.Ending.{end_read}
use Rattle.signout_answer.specs.declared.asks.EndAsk.{EndAsk}
use Rattle.signout_answer.specs.declared.asks.EndAsk.TheVariants.{Start}
use Rattle.signout_answer.specs.declared.asks.EndReply.{EndReply}
use Rattle.signout_answer.specs.declared.asks.EndReply.TheVariants as reply
use Rattle.signout_answer.specs.declared.asks.EndSetup.{EndSetup}
use Rattle.signout_answer.specs.declared.questions.QuestionRow.{QuestionRow}
use Rattle.oidc_words.specs.Lives.{question_life}
use Rattle.signout_answer.specs.Questions.{question_name, question_begun, held_in, unless_ended}
use Rattle.signout_answer.specs.Around.{Outer}
use Rattle.signout_answer.specs.Answering.{question_of, question_by, ended_by, is_same_word, is_sign_out, if_answered, question_made, question_kept, questions}
use Rattle.signout_answer.specs.Laws.{WasAsked}

some_none : {X : Type 0} (x : X) → ◌≡◌ {A = Option X} None (Some x) → ⊥
some_none x h = absurd (cc)

pub false_true : false ≡ true → ⊥
false_true h = absurd (cc)

if_some : {X : Type 0} (b : Bool) (o : Option X) (x : X) → cond b o None ≡ Some x → (b ≡ true) × (o ≡ Some x)
if_some true o x h = (refl, h)
if_some false o x h = absurd (some_none x h)

kept_same : (b : Bool) (row after : QuestionRow) → cond b None (Some row) ≡ Some after → after ≡ row
kept_same true row after h = absurd (some_none after h)
kept_same false row after h = sym (some_same row after h)

-- ---- a question stays as it is, or ends

pub unless_same : (ended : Option Word) (row after : QuestionRow) → unless_ended ended row ≡ Some after → after ≡ row
unless_same None row after h = sym (some_same row after h)
unless_same (Some w) row after h = kept_same (bytes_eq w row.word) row after h

unended : (ended : Option Word) (o : Option QuestionRow) (row : QuestionRow) → option_and_then (unless_ended ended) o ≡ Some row → o ≡ Some row
unended ended None row h = absurd (some_none row h)
unended ended (Some r) row h = ap (λ x. Some x) (sym (unless_same ended r row h))

module _ {A R : Type 0} (c : EndSetup) where
  pub question_same : (past : List (Outer A R)) (p : Outer A R) (row after : QuestionRow) → question_kept c past p row ≡ Some after → after ≡ row
  question_same past p row after h = unless_same (ended_by p.entry.ask p.reply) row after h

  pub question_names : (past : List (Outer A R)) (p : Outer A R) (row after : QuestionRow) → question_kept c past p row ≡ Some after → question_name after ≡ question_name row
  question_names past p row after h = let N : QuestionRow → Word = λ r. r.word in ap N (question_same past p row after h)

  carried_same : (later before : List (Outer A R)) (first row : QuestionRow) → carried (question_kept c) later before first ≡ Some row → first ≡ row
  carried_same [] before first row h = some_same first row h
  carried_same (p ∷ later) before first row h = carried_same later before first row (unended (ended_by p.entry.ask p.reply) (carried (question_kept c) later before first) row h)

-- ---- the pair that made it

of_ok : (w : Word) (session : Option Word) (at : ℕ) (o : Result EndWish EndNo) (row : QuestionRow) → question_of w session at o ≡ Some row
    → (wish : EndWish) × (o ≡ Ok wish) × ((record { word = w; session = session; wish = wish; begun = at }) ≡ row)
of_ok w session at (Ok wish) row h = (wish, refl, some_same (record { word = w; session = session; wish = wish; begun = at }) row h)
of_ok w session at (Err why) row h = absurd (some_none row h)

record Maker {A R : Type 0} (c : EndSetup) (asked : EndAsk A) (told : EndReply R) (at : ℕ) (row : QuestionRow) : Type 0 where
  form : List ℕ
  session : Option Word
  word : Word
  wish : EndWish
  ask_is : asked ≡ Start form session
  reply_is : told ≡ reply.Sure word
  read : end_read c.registry c.returns form ≡ Ok wish
  row_is : (record { word = word; session = session; wish = wish; begun = at }) ≡ row

made_by : {A R : Type 0} (c : EndSetup) (asked : EndAsk A) (told : EndReply R) (at : ℕ) (row : QuestionRow) → question_by c asked told at ≡ Some row → Maker c asked told at row
made_by c (Start form session) (reply.Sure w) at row h =
    let found = of_ok w session at (end_read c.registry c.returns form) row h in
    record { form = form; session = session; word = w; wish = found.0; ask_is = refl; reply_is = refl; read = found.1; row_is = found.2 }
made_by c asked told at row h = absurd (some_none row h)

-- a question begins at the moment of its pair
pub question_begins : {A R : Type 0} (c : EndSetup) (asked : EndAsk A) (told : EndReply R) (at : ℕ) (row : QuestionRow) → question_by c asked told at ≡ Some row → question_begun row ≡ at
question_begins c asked told at row h = let B : QuestionRow → ℕ = λ r. r.begun in sym (ap B (made_by c asked told at row h).row_is)

-- ---- the question that is answered

lives_same : (n at : ℕ) (o : Option QuestionRow) (row : QuestionRow) → option_and_then (if_lives n question_begun at) o ≡ Some row → o ≡ Some row
lives_same n at None row h = h
lives_same n at (Some r) row h = grind (arith, h)

pub held_is : (at : ℕ) (w : Option Word) (rows : List QuestionRow) (row : QuestionRow) → held_in at w rows ≡ Some row → (v : Word) × (w ≡ Some v) × (row_of question_name v rows ≡ Some row)
held_is at None rows row h = absurd (some_none row h)
held_is at (Some v) rows row h = (v, refl, lives_same question_life at (row_of question_name v rows) row h)

same_words : (v w : Option Word) → is_same_word v w ≡ true → v ≡ w
same_words None None h = refl
same_words (Some v) (Some w) h = ap Some (bytes_same v w h)
same_words None (Some w) h = absurd (false_true h)
same_words (Some v) None h = absurd (false_true h)

pub answered_is : (session : Option Word) (asked : Option OpAsk) (o : Option QuestionRow) (row : QuestionRow) → option_and_then (if_answered session (is_sign_out session asked)) o ≡ Some row
    → (o ≡ Some row) × (row.session ≡ session) × (is_sign_out session asked ≡ true)
answered_is session asked None row h = absurd (some_none row h)
answered_is session asked (Some r) row h =
    let found = if_some (is_sign_out session asked && is_same_word r.session session) (Some r) row h in
    let both = and_parts (is_sign_out session asked) (is_same_word r.session session) found.0 in
    (found.1, ap (λ (x : QuestionRow). x.session) (sym (some_same r row found.1)) ∙ same_words r.session session both.1, both.0)

pub sign_out_is : (session : Option Word) (o : Option OpAsk) → is_sign_out session o ≡ true → o ≡ Some (SignOut session)
sign_out_is session (Some (SignOut presented)) h = ap (λ x. Some (SignOut x)) (same_words presented session h)
sign_out_is session asked h = absurd (false_true h)

-- ---- the request that was answered by it

pub asked_before : {A R : Type 0} (c : EndSetup) (past : List (Outer A R)) (w : Word) (row : QuestionRow) → row_of question_name w (questions c past) ≡ Some row
    → (form : List ℕ) × WasAsked past w row.session form × (end_read c.registry c.returns form ≡ Ok row.wish)
asked_before {A} {R} c past w row found =
    let stands : Stands question_name (question_made c) (question_kept c) past w row = stands-row_of question_name (question_made c) (question_kept c) (question_names c) w past row found in
    let maker = made_by c stands.maker.entry.ask stands.maker.reply stands.maker.entry.at stands.first stands.makes in
    let same : stands.first ≡ row = carried_same c stands.later (stands.maker ∷ stands.earlier) stands.first row stands.stays in
    let is = maker.row_is ∙ same in
    let word_is : maker.word ≡ w = ap (λ (x : QuestionRow). x.word) maker.row_is ∙ stands.named in (
      maker.form,
      record {
        later = stands.later;
        request = stands.maker;
        earlier = stands.earlier;
        parts = stands.parts;
        asked = maker.ask_is ∙ ap (λ s. Start maker.form s) (ap (λ (x : QuestionRow). x.session) is);
        told = maker.reply_is ∙ ap (λ v. reply.Sure v) word_is;
      },
      maker.read ∙ ap (λ (x : QuestionRow). Ok x.wish) is,
    )
