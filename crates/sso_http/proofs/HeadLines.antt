-- A reader of bytes ends exactly at a head. Lines are given the newest first, as the bytes are.
use Rattle.std.proofs.Common.{◌≡◌, ℕ, ◌<◌, ◌==◌, ◌&&◌, ◌||◌, not, Bool, true, false, cond, List, [], ◌∷◌, ◌++◌, length, reverse, inl, inr, refl, sym, ◌∙◌, ap, arith}
use Rattle.std.specs.List.{list_all, list_any}
use Rattle.std.proofs.lemmas.Bool.{and_parts, eqb-true, false≢true}
use Rattle.std.proofs.lemmas.List.{append_assoc, append-nil, reverse-append, reverse-reverse, length-reverse}
use Rattle.std.proofs.lemmas.List.Folds.{list_all-append}
use Rattle.sso_base.proofs.RowLaws.{bool_cases}
use Rattle.sso_http.specs.Lines.{is_line, is_empty_line, is_full_line, text_of, IsHead}
use Rattle.sso_http.specs.Reading.{begun_line, has_full_line, has_head, IsEnded}

abbrev no_feed : ℕ → Bool
no_feed b = not (b == 10)

abbrev back_text : List (List ℕ) → List ℕ
back_text [] = []
back_text (l ∷ ls) = 10 ∷ (reverse l ++ back_text ls)

abbrev lines_of : List ℕ → List (List ℕ)
lines_of [] = []
lines_of (b ∷ seen) = cond (b == 10) (reverse (begun_line seen) ∷ lines_of seen) (lines_of seen)

abbrev any_full : List (List ℕ) → Bool
any_full ls = list_any is_full_line ls

abbrev ends_some : List (List ℕ) → Bool
ends_some [] = false
ends_some (l ∷ ls) = (is_empty_line l && any_full ls) || ends_some ls

-- ---- tests

two_more : (xs : List ℕ) (a b : ℕ) → is_empty_line (xs ++ a ∷ b ∷ []) ≡ false
two_more [] a b = refl
two_more (x ∷ []) a b = refl
two_more (x ∷ y ∷ xs) a b = refl

blank_back : (l : List ℕ) → is_empty_line (reverse l) ≡ is_empty_line l
blank_back [] = refl
blank_back (a ∷ []) = refl
blank_back (a ∷ b ∷ l) = ap (λ x. is_empty_line x) (reverse-append (a ∷ b ∷ []) l) ∙ two_more (reverse l) b a

and_swap : (a b : Bool) → (a && (b && true)) ≡ (b && a)
and_swap true true = refl
and_swap true false = refl
and_swap false true = refl
and_swap false false = refl

pub all_back : {A : Type 0} (p : A → Bool) (l : List A) → list_all p (reverse l) ≡ list_all p l
all_back p [] = refl
all_back {A} p (x ∷ l) =
    ap (λ (k : List A). list_all p k) (reverse-append (x ∷ []) l)
    ∙ list_all-append p (reverse l) (x ∷ [])
    ∙ ap (λ (c : Bool). c && (p x && true)) (all_back p l)
    ∙ and_swap (list_all p l) (p x)

or_parts : (a b : Bool) → (a || b) ≡ false → (a ≡ false) × (b ≡ false)
or_parts true b h = absurd (false≢true (sym h))
or_parts false b h = (refl, h)

not_true : (a : Bool) → not a ≡ true → a ≡ false
not_true true h = absurd (false≢true h)
not_true false h = refl

not_false : (a : Bool) → not a ≡ false → a ≡ true
not_false true h = refl
not_false false h = absurd (false≢true (sym h))

-- ---- what came, as lines and the one that is begun

all_came : (seen : List ℕ) → seen ≡ begun_line seen ++ back_text (lines_of seen)
all_came [] = refl
all_came (b ∷ seen) =
    elim (bool_cases (b == 10)) [
      | inl e ↦
          (let is : b ≡ 10 = eqb-true b 10 e in
          let rest = all_came seen ∙ ap (λ (l : List ℕ). l ++ back_text (lines_of seen)) (sym (reverse-reverse (begun_line seen))) in
          rw e (ap (λ (c : ℕ). c ∷ seen) is ∙ ap (λ (l : List ℕ). 10 ∷ l) rest))
      | inr e ↦ rw e (ap (λ (l : List ℕ). b ∷ l) (all_came seen))
    ]

line_came : (seen : List ℕ) → has_full_line seen ≡ any_full (lines_of seen)
line_came [] = refl
line_came (b ∷ seen) =
    elim (bool_cases (b == 10)) [
      | inl e ↦ rw (e, blank_back (begun_line seen), line_came seen) refl
      | inr e ↦ rw (e, line_came seen) refl
    ]

head_came : (seen : List ℕ) → has_head seen ≡ ends_some (lines_of seen)
head_came [] = refl
head_came (b ∷ seen) =
    elim (bool_cases (b == 10)) [
      | inl e ↦ rw (e, blank_back (begun_line seen), line_came seen, head_came seen) refl
      | inr e ↦ rw (e, head_came seen) refl
    ]

begun_no_feed : (seen : List ℕ) → list_all no_feed (begun_line seen) ≡ true
begun_no_feed [] = refl
begun_no_feed (b ∷ seen) =
    elim (bool_cases (b == 10)) [
      | inl e ↦ rw e refl
      | inr e ↦ rw (e, begun_no_feed seen) (rw e refl)
    ]

lines_no_feed : (seen : List ℕ) → list_all is_line (lines_of seen) ≡ true
lines_no_feed [] = refl
lines_no_feed (b ∷ seen) =
    elim (bool_cases (b == 10)) [
      | inl e ↦ rw (e, all_back no_feed (begun_line seen), begun_no_feed seen, lines_no_feed seen) refl
      | inr e ↦ rw e (lines_no_feed seen)
    ]

-- ---- no head so far: lines that are not empty, behind empty ones

none_full : (ls : List (List ℕ)) → any_full ls ≡ false → list_all is_empty_line ls ≡ true
none_full [] h = refl
none_full (l ∷ ls) h =
    let both = or_parts (is_full_line l) (any_full ls) h in
    rw (not_false (is_empty_line l) both.0, none_full ls both.1) refl

all_blank : (ls : List (List ℕ)) → list_all is_empty_line ls ≡ true → any_full ls ≡ false
all_blank [] h = refl
all_blank (l ∷ ls) h =
    let both = and_parts (is_empty_line l) (list_all is_empty_line ls) h in
    rw (both.0, all_blank ls both.1) refl

record Split (ls : List (List ℕ)) : Type 0 where
  news : List (List ℕ)
  olds : List (List ℕ)
  parts : ls ≡ news ++ olds
  full : list_all is_full_line news ≡ true
  blank : list_all is_empty_line olds ≡ true

split : (ls : List (List ℕ)) → ends_some ls ≡ false → Split ls
split [] h = record { news = []; olds = []; parts = refl; full = refl; blank = refl }
split (l ∷ ls) h =
    let both = or_parts (is_empty_line l && any_full ls) (ends_some ls) h in
    elim (bool_cases (is_empty_line l)) [
      | inl e ↦
          (let none : any_full ls ≡ false = sym (ap (λ (c : Bool). c && any_full ls) e) ∙ both.0 in
          record { news = []; olds = l ∷ ls; parts = refl; full = refl; blank = rw (e, none_full ls none) refl })
      | inr e ↦
          (let s = split ls both.1 in
          record { news = l ∷ s.news; olds = s.olds; parts = ap (λ (k : List (List ℕ)). l ∷ k) s.parts; full = ap (λ (c : Bool). not c && list_all is_full_line s.news) e ∙ s.full; blank = s.blank })
    ]

some_news : (news olds : List (List ℕ)) → list_all is_empty_line olds ≡ true → any_full (news ++ olds) ≡ true → 0 < length news
some_news [] olds blank some = absurd (false≢true (sym (all_blank olds blank) ∙ some))
some_news (n ∷ news) olds blank some = omega arith

no_end : (olds : List (List ℕ)) → list_all is_empty_line olds ≡ true → ends_some olds ≡ false
no_end [] h = refl
no_end (l ∷ ls) h =
    let both = and_parts (is_empty_line l) (list_all is_empty_line ls) h in
    rw (both.0, all_blank ls both.1, no_end ls both.1) refl

none_ends : (news olds : List (List ℕ)) → list_all is_full_line news ≡ true → list_all is_empty_line olds ≡ true → ends_some (news ++ olds) ≡ false
none_ends [] olds full blank = no_end olds blank
none_ends (n ∷ news) olds full blank =
    let both = and_parts (is_full_line n) (list_all is_full_line news) full in
    rw (not_true (is_empty_line n) both.0, none_ends news olds both.1 blank) refl

some_full : (news olds : List (List ℕ)) → 0 < length news → list_all is_full_line news ≡ true → any_full (news ++ olds) ≡ true
some_full [] olds h full = absurd (omega (arith, h))
some_full (n ∷ news) olds h full =
    let both = and_parts (is_full_line n) (list_all is_full_line news) full in
    rw both.0 refl

-- ---- the bytes of lines

text_of-append : (xs ys : List (List ℕ)) → text_of (xs ++ ys) ≡ text_of xs ++ text_of ys
text_of-append [] ys = refl
text_of-append (x ∷ xs) ys =
    ap (λ (l : List ℕ). x ++ 10 ∷ l) (text_of-append xs ys) ∙ sym (append_assoc x (10 ∷ text_of xs) (text_of ys))

text_back : (ls : List (List ℕ)) → reverse (back_text ls) ≡ text_of (reverse ls)
text_back [] = refl
text_back (l ∷ ls) =
    let X : List ℕ = reverse l ++ back_text ls in
    let inner : reverse X ≡ text_of (reverse ls) ++ l =
    reverse-append (reverse l) (back_text ls)
    ∙ ap (λ (k : List ℕ). k ++ reverse (reverse l)) (text_back ls)
    ∙ ap (λ (k : List ℕ). text_of (reverse ls) ++ k) (reverse-reverse l)
    in
    reverse-append (10 ∷ []) X
    ∙ ap (λ (k : List ℕ). k ++ 10 ∷ []) inner
    ∙ append_assoc (text_of (reverse ls)) l (10 ∷ [])
    ∙ sym (ap (λ (k : List (List ℕ)). text_of k) (reverse-append (l ∷ []) ls) ∙ text_of-append (reverse ls) (l ∷ []))

-- ---- a head is its lines

turned : (news olds : List (List ℕ)) (last : List ℕ) → reverse (last ∷ (news ++ olds)) ≡ reverse olds ++ reverse news ++ last ∷ []
turned news olds last =
    reverse-append (last ∷ []) (news ++ olds)
    ∙ ap (λ (k : List (List ℕ)). k ++ last ∷ []) (reverse-append news olds)

pub only_lines : (bytes : List ℕ) → IsEnded bytes → IsHead bytes
only_lines bytes i =
    let both = and_parts (i.last == 10 && is_empty_line (begun_line i.seen)) (has_full_line i.seen) i.ends in
    let two = and_parts (i.last == 10) (is_empty_line (begun_line i.seen)) both.0 in
    let last : List ℕ = reverse (begun_line i.seen) in
    let came : i.seen ≡ begun_line i.seen ++ back_text (lines_of i.seen) = all_came i.seen in
    let again = came ∙ ap (λ (l : List ℕ). l ++ back_text (lines_of i.seen)) (sym (reverse-reverse (begun_line i.seen))) in
    let back : reverse bytes ≡ back_text (last ∷ lines_of i.seen) =
    i.parts ∙ ap (λ (c : ℕ). c ∷ i.seen) (eqb-true i.last 10 two.0) ∙ ap (λ (l : List ℕ). 10 ∷ l) again
    in
    let s = split (lines_of i.seen) (sym (head_came i.seen) ∙ i.first) in
    let turn : reverse (last ∷ lines_of i.seen) ≡ reverse s.olds ++ reverse s.news ++ last ∷ [] =
    ap (λ (k : List (List ℕ)). reverse (last ∷ k)) s.parts ∙ turned s.news s.olds last
    in
    let full : any_full (s.news ++ s.olds) ≡ true = sym (line_came i.seen ∙ ap (λ (k : List (List ℕ)). any_full k) s.parts) ∙ both.1 in
    let feeds : list_all is_line (last ∷ lines_of i.seen) ≡ true = rw (all_back no_feed (begun_line i.seen), begun_no_feed i.seen, lines_no_feed i.seen) refl in
    record {
      before = reverse s.olds;
      lines = reverse s.news;
      last = last;
      parts = sym (reverse-reverse bytes) ∙ ap (λ (l : List ℕ). reverse l) back ∙ text_back (last ∷ lines_of i.seen) ∙ ap (λ (k : List (List ℕ)). text_of k) turn;
      feeds = ap (λ (k : List (List ℕ)). list_all is_line k) (sym turn) ∙ all_back is_line (last ∷ lines_of i.seen) ∙ feeds;
      before_empty = all_back is_empty_line s.olds ∙ s.blank;
      lines_there = omega (arith, length-reverse s.news, some_news s.news s.olds s.blank full);
      lines_full = all_back is_full_line s.news ∙ s.full;
      last_empty = blank_back (begun_line i.seen) ∙ two.1;
    }

-- ---- and lines are a head

line_stays : (l s : List ℕ) → list_all no_feed l ≡ true → (begun_line (l ++ s) ≡ l ++ begun_line s) × (lines_of (l ++ s) ≡ lines_of s)
line_stays [] s h = (refl, refl)
line_stays (b ∷ l) s h =
    let both = and_parts (no_feed b) (list_all no_feed l) h in
    let other = not_true (b == 10) both.0 in
    let rest = line_stays l s both.1 in
    (rw (other, rest.0) refl, rw (other, rest.1) refl)

nothing_begun : (ls : List (List ℕ)) → begun_line (back_text ls) ≡ []
nothing_begun [] = refl
nothing_begun (l ∷ ls) = refl

begun_behind : (l : List ℕ) (ls : List (List ℕ)) → is_line l ≡ true → begun_line (reverse l ++ back_text ls) ≡ reverse l
begun_behind l ls h =
    (line_stays (reverse l) (back_text ls) (all_back no_feed l ∙ h)).0
    ∙ ap (λ (k : List ℕ). reverse l ++ k) (nothing_begun ls) ∙ append-nil (reverse l)

lines_back : (ls : List (List ℕ)) → list_all is_line ls ≡ true → lines_of (back_text ls) ≡ ls
lines_back [] h = refl
lines_back (l ∷ ls) h =
    let both = and_parts (is_line l) (list_all is_line ls) h in
    let stays = (line_stays (reverse l) (back_text ls) (all_back no_feed l ∙ both.0)).1 in
    ap (λ (k : List ℕ). reverse k ∷ lines_of (reverse l ++ back_text ls)) (begun_behind l ls both.0)
    ∙ ap (λ (k : List ℕ). k ∷ lines_of (reverse l ++ back_text ls)) (reverse-reverse l)
    ∙ ap (λ (k : List (List ℕ)). l ∷ k) (stays ∙ lines_back ls both.1)

pub lines_end : (bytes : List ℕ) → IsHead bytes → IsEnded bytes
lines_end bytes i =
    let news : List (List ℕ) = reverse i.lines in
    let olds : List (List ℕ) = reverse i.before in
    let all : List (List ℕ) = i.before ++ i.lines ++ i.last ∷ [] in
    let back : List (List ℕ) = i.last ∷ (news ++ olds) in
    let turn : reverse all ≡ back =
    reverse-append (i.before ++ i.lines) (i.last ∷ []) ∙ ap (λ (k : List (List ℕ)). i.last ∷ k) (reverse-append i.before i.lines)
    in
    let feeds : list_all is_line back ≡ true = ap (λ (k : List (List ℕ)). list_all is_line k) (sym turn) ∙ all_back is_line all ∙ i.feeds in
    let both = and_parts (is_line i.last) (list_all is_line (news ++ olds)) feeds in
    let seen : List ℕ = reverse i.last ++ back_text (news ++ olds) in
    let stays = line_stays (reverse i.last) (back_text (news ++ olds)) (all_back no_feed i.last ∙ both.0) in
    let lines : lines_of seen ≡ news ++ olds = stays.1 ∙ lines_back (news ++ olds) both.1 in
    let full : list_all is_full_line news ≡ true = all_back is_full_line i.lines ∙ i.lines_full in
    let blank : list_all is_empty_line olds ≡ true = all_back is_empty_line i.before ∙ i.before_empty in
    let there : 0 < length news = omega (arith, length-reverse i.lines, i.lines_there) in
    let empty : is_empty_line (begun_line seen) ≡ true =
    ap (λ (k : List ℕ). is_empty_line k) (begun_behind i.last (news ++ olds) both.0) ∙ blank_back i.last ∙ i.last_empty
    in
    let line : has_full_line seen ≡ true = line_came seen ∙ ap (λ (k : List (List ℕ)). any_full k) lines ∙ some_full news olds there full in
    let again : text_of all ≡ reverse (back_text back) =
    sym (text_back back ∙ ap (λ (k : List (List ℕ)). text_of (reverse k)) (sym turn) ∙ ap (λ (k : List (List ℕ)). text_of k) (reverse-reverse all))
    in
    record {
      last = 10;
      seen = seen;
      parts = ap (λ (l : List ℕ). reverse l) (i.parts ∙ again) ∙ reverse-reverse (back_text back);
      first = head_came seen ∙ ap (λ (k : List (List ℕ)). ends_some k) lines ∙ none_ends news olds full blank;
      ends = ap (λ (c : Bool). c && has_full_line seen) empty ∙ line;
    }
