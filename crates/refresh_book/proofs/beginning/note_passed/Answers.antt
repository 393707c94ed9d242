use Rattle.std.proofs.Common.{Bool, not, filter, List, ap, sym, ◌∙◌}
use Rattle.sso_base.specs.Rows.{put}
use Rattle.refresh_answer.specs.declared.rows.FamilyRow.{FamilyRow}
use Rattle.refresh_answer.specs.declared.rows.RefreshRow.{RefreshRow}
use Rattle.refresh_answer.specs.Rows.{token_name}
use Rattle.refresh_answer.specs.Families.{if_true, appended, has_room}
use Rattle.refresh_rows.specs.TokenRows.{is_of}
use Rattle.refresh_book.specs.Renewing.{tokens_left, accesses_left}
use Rattle.refresh_book.specs.Beginning.{is_spent, first_of, token_of}
use Rattle.refresh_book.proofs.Left.{and_same, first_of_both, may_left, room_left}
use Rattle.refresh_book.proofs.beginning.note_passed.Goals as goal

-- a family may still begin after others end, and there is still room for its token
pub begin-requires-clause-may : goal.begin-requires-clause-may
begin-requires-clause-may c =
    may_left c.args.book.now c.end_spent.new.book (λ (f : FamilyRow). not (is_spent c.args.spent f)) c.end_spent.ensures.last c.end_spent.ensures.families c.args.family c.requires.may

pub begin-requires-clause-room : goal.begin-requires-clause-room
begin-requires-clause-room c = λ begins.
    let T = λ (l : List RefreshRow). has_room l c.args.word in
    ap T c.end_spent.ensures.tokens
    ∙ room_left (λ (t : RefreshRow). is_of c.end_spent.new.book.families t.family) c.args.word c.args.book.now.tokens
    (sym c.has_room-room.ensures ∙ first_of_both _ _ (sym c.both-begins.ensures ∙ begins))

pub returns-clause-first : goal.returns-clause-first
returns-clause-first c =
    let F = λ (b : Bool). first_of (if_true b c.args.family) c.args.word in
    c.begin.ensures.first ∙ ap F (c.both-begins.ensures ∙ and_same _ _ _ _ c.has_room-room.ensures c.gives_tokens.ensures)

pub returns-clause-families : goal.returns-clause-families
returns-clause-families c =
    let left = filter (λ (f : FamilyRow). not (is_spent c.args.spent f)) c.args.book.now.families in
    let F = λ (b : Bool). appended left (if_true b c.args.family) in
    let L = λ (l : List FamilyRow). appended l (if_true c.both-begins.result c.args.family) in
    c.begin.ensures.rows.families ∙ ap L c.end_spent.ensures.families ∙ ap F (c.both-begins.ensures ∙ and_same _ _ _ _ c.has_room-room.ensures c.gives_tokens.ensures)

pub returns-clause-tokens : goal.returns-clause-tokens
returns-clause-tokens c =
    let left = filter (λ (f : FamilyRow). not (is_spent c.args.spent f)) c.args.book.now.families in
    let P = λ (l : List RefreshRow). put token_name (token_of (if_true c.both-begins.result c.args.family) c.args.word) l in
    let T = λ (l : List FamilyRow). tokens_left l c.args.book.now.tokens in
    let F = λ (b : Bool). put token_name (token_of (if_true b c.args.family) c.args.word) (tokens_left left c.args.book.now.tokens) in
    c.begin.ensures.rows.tokens ∙ ap P (c.end_spent.ensures.tokens ∙ ap T c.end_spent.ensures.families)
    ∙ ap F (c.both-begins.ensures ∙ and_same _ _ _ _ c.has_room-room.ensures c.gives_tokens.ensures)

pub returns-clause-accesses : goal.returns-clause-accesses
returns-clause-accesses c =
    let X = λ (l : List FamilyRow). accesses_left l c.args.book.now.accesses in
    c.begin.ensures.rows.accesses ∙ c.end_spent.ensures.accesses ∙ ap X c.end_spent.ensures.families

pub returns-clause-last : goal.returns-clause-last
returns-clause-last c = c.begin.ensures.rows.last_is ∙ c.end_spent.ensures.last
