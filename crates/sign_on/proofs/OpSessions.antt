-- The sessions of the provider: which place drew the words of one, so that no two have one session identifier.
use Rattle.std.proofs.Common.{◌≡◌, ℕ, Bool, cond, List, [], ◌∷◌, ◌++◌, length, Option, Some, None, inl, inr, sym, ap, ◌∙◌, arith}
use Rattle.std.specs.Str.{bytes_eq}
use Rattle.sso_base.specs.Words.{Word, fresh_word}
use Rattle.sso_base.specs.Rows.{row_of}
use Rattle.sso_base.specs.Stands.{IsDistinct}
use Rattle.sso_base.specs.declared.http.Ask.{Ask}
use Rattle.sso_base.proofs.RowLaws.{bool_cases, bytes_same, bytes_true, rows_distinct}
use Rattle.sso_model.specs.Lists.{Has}
use Rattle.code_grant.specs.declared.rows.SessionRow.{SessionRow}
use Rattle.code_grant.specs.Rows.{session_name}
use Rattle.op_answer.specs.Past.{OpPair, OpPast}
use Rattle.op_answer.specs.Sessions.{sessions, session_made, session_kept}
use Rattle.op_answer.specs.Drawn.{SessionDrawn}
use Rattle.op_answer.proofs.Drawn.{sessions_are_drawn}
use Rattle.op_answer.proofs.KeptNames.{session_names}
use Rattle.sso_places.specs.Site.{Site}
use Rattle.sso_places.specs.World.{Place, Provider, Party, Nothing, World, op_past, fresh_of}
use Rattle.sso_places.specs.Legal.{IsLegalWorld}
use Rattle.sso_places.specs.Premises.{HasDistinctWords}
use Rattle.sso_places.proofs.Places.{IsWhole, whole_places, one_place}
use Rattle.sso_model.proofs.ListLaws.{all_has}

-- ---- rows by name

-- a row of a list without equal names is found by its name
pub has_found : {R : Type 0} (name : R → Word) (rows : List R) (row : R) → IsDistinct name rows → Has rows row → row_of name (name row) rows ≡ Some row
has_found name [] row distinct has = absurd has
has_found {R} name (r ∷ rs) row distinct (inl same) =
    let F : Bool → Option R = λ b. cond b (Some r) (row_of name (name row) rs) in
    ap F (bytes_true (name r) (name row) (ap name same)) ∙ ap (λ (z : R). Some z) same
has_found {R} name (r ∷ rs) row distinct (inr has) =
    let F : Bool → Option R = λ b. cond b (Some r) (row_of name (name row) rs) in
    elim (bool_cases (bytes_eq (name r) (name row))) [
      | inl e ↦
          (let same : name r ≡ name row = bytes_same (name r) (name row) e in
          let G : Word → Option R = λ w. row_of name w rs in
          let never : None ≡ Some row = sym distinct.0 ∙ ap G same ∙ has_found name rs row distinct.1 has in
          absurd (cc))
      | inr e ↦ ap F e ∙ has_found name rs row distinct.1 has
    ]

pub sessions_distinct : (past : OpPast) → IsDistinct session_name (sessions past)
sessions_distinct past = rows_distinct session_name session_made session_kept session_names past

-- ---- the provider's pairs as places

-- the place of a pair, with the worlds after and before it
pub record IsOpPlace (world : World) (p : OpPair) (earlier : OpPast) : Type 0 where
  pub from : ℕ
  pub request : Ask
  pub has : Has world (Provider from request p)
  pub after : World
  pub before : World
  pub parts : world ≡ after ++ Provider from request p ∷ before
  pub past_is : op_past before ≡ earlier

op_place_more : (x : Place) (world : World) (p : OpPair) (earlier : OpPast) → IsOpPlace world p earlier → IsOpPlace (x ∷ world) p earlier
op_place_more x world p earlier old =
    record {
      from = old.from;
      request = old.request;
      has = inr old.has;
      after = x ∷ old.after;
      before = old.before;
      parts = ap (λ (w : World). x ∷ w) old.parts;
      past_is = old.past_is;
    }

pub op_pair_place : (world : World) (later : OpPast) (p : OpPair) (earlier : OpPast) → op_past world ≡ later ++ p ∷ earlier → IsOpPlace world p earlier
op_pair_place [] [] p earlier is = absurd (cc)
op_pair_place [] (q ∷ later) p earlier is = absurd (cc)
op_pair_place (Provider from request q ∷ world) [] p earlier is =
    let same : q ≡ p = cc in
    let past : op_past world ≡ earlier = cc in
    record {
      from = from;
      request = request;
      has = inl (ap (λ (r : OpPair). Provider from request r) same);
      after = [];
      before = world;
      parts = ap (λ (r : OpPair). Provider from request r ∷ world) same;
      past_is = past;
    }
op_pair_place (Provider from request q ∷ world) (r ∷ later) p earlier is =
    let rest : op_past world ≡ later ++ p ∷ earlier = cc in
    op_place_more (Provider from request q) world p earlier (op_pair_place world later p earlier rest)
op_pair_place (Party n from request q ∷ world) later p earlier is = op_place_more (Party n from request q) world p earlier (op_pair_place world later p earlier is)
op_pair_place (Nothing ∷ world) later p earlier is = op_place_more Nothing world p earlier (op_pair_place world later p earlier is)

-- ---- two sessions of one identifier are one

pub one_session : (s : Site) (world : World) (a b : SessionRow) → IsLegalWorld s world → HasDistinctWords world → Has (sessions (op_past world)) a → Has (sessions (op_past world)) b → a.sid ≡ b.sid → a.word ≡ b.word
one_session s world a b legal distinct has_a has_b same =
    let past : OpPast = op_past world in
    let one : SessionDrawn past a = sessions_are_drawn s.configuration past legal.provider a.word a (has_found session_name (sessions past) a (sessions_distinct past) has_a) in
    let two : SessionDrawn past b = sessions_are_drawn s.configuration past legal.provider b.word b (has_found session_name (sessions past) b (sessions_distinct past) has_b) in
    let at_one : IsOpPlace world one.maker one.earlier = op_pair_place world one.later one.maker one.earlier one.parts in
    let at_two : IsOpPlace world two.maker two.earlier = op_pair_place world two.later two.maker two.earlier two.parts in
    let x : Place = Provider at_one.from at_one.request one.maker in
    let y : Place = Provider at_two.from at_two.request two.maker in
    let four_x : length one.maker.entry.fresh ≡ 4 = all_has IsWhole world x (whole_places s world legal) at_one.has in
    let four_y : length two.maker.entry.fresh ≡ 4 = all_has IsWhole world y (whole_places s world legal) at_two.has in
    let sids : fresh_word (fresh_of x) 1 ≡ fresh_word (fresh_of y) 1 = sym one.sid_drawn ∙ same ∙ two.sid_drawn in
    let places : x ≡ y = one_place world x y 1 distinct (omega arith) four_x four_y at_one.has at_two.has sids in
    one.drawn ∙ ap (λ (z : Place). fresh_word (fresh_of z) 0) places ∙ sym two.drawn
