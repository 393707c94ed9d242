-- The words of a line are visible ASCII with one space between, and each line of such words has these words.
use Rattle.std.proofs.Common.{◌≡◌, ◌≢◌, ◌<◌, ◌≤◌, ◌==◌, ◌&&◌, ℕ, List, [], ◌∷◌, ◌++◌, length, Bool, true, false, not, cond, nat_le, Some, None, inl, inr, refl, sym, ap, subst, ◌∙◌, arith}
use Rattle.std.specs.List.{list_all, AllByRecursion, join_with_byte, onto_first}
use Rattle.std.proofs.lemmas.Bool.{and_parts, and_from, leb-true, le-leb, true≢false}
use Rattle.std.proofs.lemmas.Bool.Decides.{eqb_tells}
use Rattle.std.proofs.lemmas.List.Splits.{join_with_byte-slice_split}
use Rattle.sso_base.specs.Words.{Text}
use Rattle.oidc_words.specs.Words.{is_filled, words_of}
use Rattle.trace_lines.specs.LineWords.{is_plain, words_in, IsVisible, IsVisibleWord, AreWordsOf}

-- ---- the words of a line are visible

byte_visible : (b : ℕ) → (nat_le 32 b && nat_le b 126) ≡ true → (b ≡ 32 → ⊥) → IsVisible b
byte_visible b plain other =
    let parts = and_parts (nat_le 32 b) (nat_le b 126) plain in
    let low : 32 ≤ b = leb-true 32 b parts.0 in
    let high : b ≤ 126 = leb-true b 126 parts.1 in
    let apart : b ≢ 32 = other in
    (omega arith, omega arith)

onto_visible : (b : ℕ) (words : List (List ℕ)) → IsVisible b → AllByRecursion (AllByRecursion IsVisible) words → AllByRecursion (AllByRecursion IsVisible) (onto_first b words)
onto_visible b [] is all = ((is, tt), tt)
onto_visible b (word ∷ words) is all = ((is, all.0), all.1)

cut_visible : (t : Bool) (b : ℕ) (words : List (List ℕ)) → (t ≡ false → IsVisible b) → AllByRecursion (AllByRecursion IsVisible) words → AllByRecursion (AllByRecursion IsVisible) (cond t ([] ∷ words) (onto_first b words))
cut_visible true b words is all = (tt, all)
cut_visible false b words is all = onto_visible b words (is refl) all

not_space : (b : ℕ) → (b == 32) ≡ false → b ≡ 32 → ⊥
not_space b apart same = elim (eqb_tells b 32) [ inl equal ↦ true≢false (sym equal.0 ∙ apart) | inr other ↦ other.1 same ]

words_visible : (line : List ℕ) → is_plain line ≡ true → AllByRecursion (AllByRecursion IsVisible) (words_of line)
words_visible [] plain = (tt, tt)
words_visible (b ∷ line) plain =
    let parts = and_parts (nat_le 32 b && nat_le b 126) (is_plain line) plain in
    cut_visible (b == 32) b (words_of line) (λ apart. byte_visible b parts.0 (not_space b apart)) (words_visible line parts.1)

filled_word : (word : List ℕ) → is_filled word ≡ true → 0 < length word
filled_word [] h = absurd (cc)
filled_word (b ∷ word) h = omega arith

all_visible : (words : List (List ℕ)) → list_all is_filled words ≡ true → AllByRecursion (AllByRecursion IsVisible) words → AllByRecursion IsVisibleWord words
all_visible [] filled visible = tt
all_visible (word ∷ words) filled visible =
    let parts = and_parts (is_filled word) (list_all is_filled words) filled in
    (record { filled = filled_word word parts.0; visible = visible.0 }, all_visible words parts.1 visible.1)

onto_some : (b : ℕ) (words : List (List ℕ)) → 0 < length (onto_first b words)
onto_some b [] = omega arith
onto_some b (word ∷ words) = omega arith

cut_some : (t : Bool) (b : ℕ) (words : List (List ℕ)) → 0 < length (cond t ([] ∷ words) (onto_first b words))
cut_some true b words = omega arith
cut_some false b words = onto_some b words

words_some : (line : List ℕ) → 0 < length (words_of line)
words_some [] = omega arith
words_some (b ∷ line) = cut_some (b == 32) b (words_of line)

given_words : (t : Bool) (words others : List (List ℕ)) → cond t (Some words) None ≡ Some others → (t ≡ true) × (words ≡ others)
given_words true words others h = (refl, cc)
given_words false words others h = absurd (cc)

pub words_cut : (line : List ℕ) (words : List Text) → words_in line ≡ Some words → AreWordsOf words line
words_cut line words h =
    let given = given_words (is_plain line && list_all is_filled (words_of line)) (words_of line) words h in
    let parts = and_parts (is_plain line) (list_all is_filled (words_of line)) given.0 in
    record {
      some = subst (λ (ws : List (List ℕ)). 0 < length ws) given.1 (words_some line);
      visible = subst (AllByRecursion IsVisibleWord) given.1 (all_visible (words_of line) parts.1 (words_visible line parts.0));
      joined = sym (join_with_byte-slice_split 32 line) ∙ ap (join_with_byte 32) given.1;
    }

-- ---- a line of visible words has these words

eq_no : (b : ℕ) → IsVisible b → (b == 32) ≡ false
eq_no b is = elim (eqb_tells b 32) [ inl equal ↦ (let same : b ≡ 32 = equal.1 in let more : 32 < b = is.0 in absurd (omega arith)) | inr other ↦ other.0 ]

byte_plain : (b : ℕ) → IsVisible b → (nat_le 32 b && nat_le b 126) ≡ true
byte_plain b is =
    let low : 32 ≤ b = let more : 32 < b = is.0 in omega arith in
    let high : b ≤ 126 = let less : b < 127 = is.1 in omega arith in
    and_from (nat_le 32 b) (nat_le b 126) (le-leb 32 b low) (le-leb b 126 high)

no_cut : (t : Bool) (b : ℕ) (words : List (List ℕ)) → t ≡ false → cond t ([] ∷ words) (onto_first b words) ≡ onto_first b words
no_cut t b words is = ap (λ k. cond k ([] ∷ words) (onto_first b words)) is

cut_word : (word : List ℕ) → AllByRecursion IsVisible word → words_of word ≡ word ∷ []
cut_word [] visible = refl
cut_word (b ∷ word) visible = no_cut (b == 32) b (words_of word) (eq_no b visible.0) ∙ ap (onto_first b) (cut_word word visible.1)

cut_before : (word rest : List ℕ) → AllByRecursion IsVisible word → words_of (word ++ 32 ∷ rest) ≡ word ∷ words_of rest
cut_before [] rest visible = refl
cut_before (b ∷ word) rest visible = no_cut (b == 32) b (words_of (word ++ 32 ∷ rest)) (eq_no b visible.0) ∙ ap (onto_first b) (cut_before word rest visible.1)

plain_word : (word : List ℕ) → AllByRecursion IsVisible word → is_plain word ≡ true
plain_word [] visible = refl
plain_word (b ∷ word) visible = and_from (nat_le 32 b && nat_le b 126) (is_plain word) (byte_plain b visible.0) (plain_word word visible.1)

plain_before : (word rest : List ℕ) → AllByRecursion IsVisible word → is_plain rest ≡ true → is_plain (word ++ 32 ∷ rest) ≡ true
plain_before [] rest visible plain = plain
plain_before (b ∷ word) rest visible plain = and_from (nat_le 32 b && nat_le b 126) (is_plain (word ++ 32 ∷ rest)) (byte_plain b visible.0) (plain_before word rest visible.1 plain)

joined_split : (words : List (List ℕ)) → 0 < length words → AllByRecursion IsVisibleWord words → words_of (join_with_byte 32 words) ≡ words
joined_split [] some visible = absurd (omega arith)
joined_split (word ∷ []) some visible = cut_word word visible.0.visible
joined_split (word ∷ other ∷ words) some visible = cut_before word (join_with_byte 32 (other ∷ words)) visible.0.visible ∙ ap (λ ws. word ∷ ws) (joined_split (other ∷ words) (omega arith) visible.1)

joined_plain : (words : List (List ℕ)) → 0 < length words → AllByRecursion IsVisibleWord words → is_plain (join_with_byte 32 words) ≡ true
joined_plain [] some visible = absurd (omega arith)
joined_plain (word ∷ []) some visible = plain_word word visible.0.visible
joined_plain (word ∷ other ∷ words) some visible = plain_before word (join_with_byte 32 (other ∷ words)) visible.0.visible (joined_plain (other ∷ words) (omega arith) visible.1)

word_filled : (word : List ℕ) → 0 < length word → is_filled word ≡ true
word_filled word some = elim (eqb_tells (length word) 0) [ inl empty ↦ (let none : length word ≡ 0 = empty.1 in absurd (omega arith)) | inr other ↦ ap not other.0 ]

all_filled : (words : List (List ℕ)) → AllByRecursion IsVisibleWord words → list_all is_filled words ≡ true
all_filled [] visible = refl
all_filled (word ∷ words) visible = and_from (is_filled word) (list_all is_filled words) (word_filled word visible.0.filled) (all_filled words visible.1)

given_some : (t : Bool) (words others : List (List ℕ)) → t ≡ true → words ≡ others → cond t (Some words) None ≡ Some others
given_some true words others is same = ap (λ ws. Some ws) same
given_some false words others is same = absurd (cc)

joined_words : (words : List (List ℕ)) → 0 < length words → AllByRecursion IsVisibleWord words → words_in (join_with_byte 32 words) ≡ Some words
joined_words words some visible =
    let line : List ℕ = join_with_byte 32 words in
    let split : words_of line ≡ words = joined_split words some visible in
    given_some (is_plain line && list_all is_filled (words_of line)) (words_of line) words
    (and_from (is_plain line) (list_all is_filled (words_of line)) (joined_plain words some visible)
    (subst (λ (ws : List (List ℕ)). list_all is_filled ws ≡ true) (sym split) (all_filled words visible)))
    split

pub words_are : (line : List ℕ) (words : List Text) → AreWordsOf words line → words_in line ≡ Some words
words_are line words is = subst (λ (l : List ℕ). words_in l ≡ Some words) (sym is.joined) (joined_words words is.some is.visible)
