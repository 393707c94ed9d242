-- Parts of equal options, and rows of turns and codes by equal parts.
use Rattle.std.proofs.Common.{◌≡◌, ℕ, Bool, List, Option, Some, unwrap_or, ap, ◌∙◌}
use Rattle.sso_base.specs.Words.{Word}
use Rattle.sso_base.specs.Rows.{put, live_rows}
use Rattle.oidc_words.specs.Lives.{turn_life, code_life}
use Rattle.op_exchange.specs.declared.reply.OpReply.{OpReply}
use Rattle.core_stack.specs.declared.marks.TurnMark.{TurnMark}
use Rattle.core_stack.specs.declared.marks.CodeMark.{CodeMark}
use Rattle.core_stack.specs.Rows.{turn_mark_name, turn_mark_begun, code_mark_name, code_mark_begun}
use Rattle.core_stack.specs.Marks.{turn_row, turn_ended, turns_left, code_row}

pub some_same : {X : Type 0} (x y : X) → ◌≡◌ {A = Option X} (Some x) (Some y) → x ≡ y
some_same x y h = ap (λ o. unwrap_or o x) h

pub turn_row_same : {M : Type 0} (o g : Option OpReply) (b wish : Bool) (m mark : M) (at : ℕ) → o ≡ g → b ≡ wish → m ≡ mark → turn_row o b m at ≡ turn_row g wish mark at
turn_row_same {M} o g b wish m mark at one two three =
    let G : Option OpReply → Option (TurnMark M) = λ x. turn_row x b m at in
    let W : Bool → Option (TurnMark M) = λ x. turn_row g x m at in
    let N : M → Option (TurnMark M) = λ x. turn_row g wish x at in
    ap G one ∙ ap W two ∙ ap N three

pub code_row_same : {M : Type 0} (o g : Option OpReply) (m mark : M) (at : ℕ) → o ≡ g → m ≡ mark → code_row o m at ≡ code_row g mark at
code_row_same {M} o g m mark at one two =
    let G : Option OpReply → Option (CodeMark M) = λ x. code_row x m at in
    let N : M → Option (CodeMark M) = λ x. code_row g x at in
    ap G one ∙ ap N two

pub left_same : {M : Type 0} (o g : Option OpReply) (w named : Option Word) (at : ℕ) (xs ys : List (TurnMark M)) → o ≡ g → w ≡ named → xs ≡ ys
    → turns_left (turn_ended o w) (live_rows turn_life turn_mark_begun at xs) ≡ turns_left (turn_ended g named) (live_rows turn_life turn_mark_begun at ys)
left_same {M} o g w named at xs ys one two three =
    let G : Option OpReply → List (TurnMark M) = λ x. turns_left (turn_ended x w) (live_rows turn_life turn_mark_begun at xs) in
    let N : Option Word → List (TurnMark M) = λ x. turns_left (turn_ended g x) (live_rows turn_life turn_mark_begun at xs) in
    let L : List (TurnMark M) → List (TurnMark M) = λ x. turns_left (turn_ended g named) (live_rows turn_life turn_mark_begun at x) in
    ap G one ∙ ap N two ∙ ap L three

pub live_codes_same : {M : Type 0} (at : ℕ) (xs ys : List (CodeMark M)) → xs ≡ ys → live_rows code_life code_mark_begun at xs ≡ live_rows code_life code_mark_begun at ys
live_codes_same {M} at xs ys same = let L : List (CodeMark M) → List (CodeMark M) = λ x. live_rows code_life code_mark_begun at x in ap L same

pub put_turn_same : {M : Type 0} (m n : Option (TurnMark M)) (xs ys : List (TurnMark M)) → m ≡ n → xs ≡ ys → put turn_mark_name m xs ≡ put turn_mark_name n ys
put_turn_same {M} m n xs ys one two =
    let F : Option (TurnMark M) → List (TurnMark M) = λ x. put turn_mark_name x xs in
    let G : List (TurnMark M) → List (TurnMark M) = λ x. put turn_mark_name n x in
    ap F one ∙ ap G two

pub put_code_same : {M : Type 0} (m n : Option (CodeMark M)) (xs ys : List (CodeMark M)) → m ≡ n → xs ≡ ys → put code_mark_name m xs ≡ put code_mark_name n ys
put_code_same {M} m n xs ys one two =
    let F : Option (CodeMark M) → List (CodeMark M) = λ x. put code_mark_name x xs in
    let G : List (CodeMark M) → List (CodeMark M) = λ x. put code_mark_name n x in
    ap F one ∙ ap G two
