-- A text of whole lines is read line by line, whatever follows it.
use Rattle.std.proofs.Common.{◌≡◌, ◌<◌, ◌≤◌, ◌+◌, ◌==◌, ◌&&◌, ℕ, Bool, true, false, cond, nat_le, nat_lt, List, [], ◌∷◌, ◌++◌, length, Option, Some, None, inl, inr, refl, sym, ap, subst, ◌∙◌, append_assoc, length-append, arith}
use Rattle.std.specs.List.{AllByRecursion, join_with_byte, onto_first}
use Rattle.std.proofs.lemmas.Bool.{and_parts, leb-true, true≢false}
use Rattle.std.proofs.lemmas.Bool.Decides.{eqb_tells}
use Rattle.sso_base.specs.Words.{Text}
use Rattle.client_registry.specs.Configuration.{Configuration}
use Rattle.trace_lines.specs.declared.line.Line.{Line}
use Rattle.trace_lines.specs.Guilt.{words_faults, is_skipped, line_faults}
use Rattle.trace_lines.specs.Lines.{moment_after, places_after}
use Rattle.trace_lines.specs.LineWords.{is_plain, words_in, IsVisibleWord}
use Rattle.trace_lines.specs.Said.{words_said, line_said}
use Rattle.trace_lines.specs.Trace.{added, lines_of}
use Rattle.trace_lines.proofs.Accepting.{Goes}
use Rattle.trace_lines.proofs.Cutting.{words_are}

-- ---- steps

-- Before the text these lines were read, and after it those; then what follows it is read.
pub record Reads (c : Configuration) (before : List Line) (text : Text) (after : List Line) : Type 0 where
  pub on : (rest : List ℕ) (end : List Line) → Goes c after (lines_of rest) end → Goes c before (lines_of (text ++ rest)) end

-- After lines that were read the moment is this one, and so many places are taken.
pub record IsAfter (c : Configuration) (before : List Line) (text : Text) (at places : ℕ) : Type 0 where
  pub after : List Line
  pub reads : Reads c before text after
  pub moment_is : moment_after after ≡ at
  pub places_are : places_after after ≡ places

-- The text, of so many bytes at most, leads from one moment and number of places to others.
pub record Leads (c : Configuration) (at places : ℕ) (text : Text) (then more most : ℕ) : Type 0 where
  pub from : (before : List Line) → moment_after before ≡ at → places_after before ≡ places → IsAfter c before text then more
  pub size : length text ≤ most

-- nothing leads nowhere
pub leads_nowhere : (c : Configuration) (at places : ℕ) → Leads c at places [] at places 0
leads_nowhere c at places = record {
  from = λ before moment count. record { after = before; reads = record { on = λ rest end goes. goes }; moment_is = moment; places_are = count };
  size = omega arith;
}

-- a step after a step
pub leads_on : {c : Configuration} {at places then more later many m n : ℕ} {t u : Text} → Leads c at places t then more m → Leads c then more u later many n → Leads c at places (t ++ u) later many (m + n)
leads_on {c} {at} {places} {then} {more} {later} {many} {m} {n} {t} {u} first second = record {
  from = λ before moment count.
      let one = first.from before moment count in
      let two = second.from one.after one.moment_is one.places_are in
      record {
        after = two.after;
        reads = record {
          on = λ rest end goes.
              subst (λ (bytes : List ℕ). Goes c before (lines_of bytes) end) (sym (append_assoc t u rest))
              (one.reads.on (u ++ rest) end (two.reads.on rest end goes));
        };
        moment_is = two.moment_is;
        places_are = two.places_are;
      };
  size = (let a : length t ≤ m = first.size in let b : length u ≤ n = second.size in omega (arith, length-append t u));
}

-- a step is one of other numbers that are the same
pub leads_as : {c : Configuration} {at places then more m : ℕ} {t : Text} (later many n : ℕ) → then ≡ later → more ≡ many → m ≤ n → Leads c at places t then more m → Leads c at places t later many n
leads_as later many n p q le leads = record {
  from = λ before moment count.
      let one = leads.from before moment count in
      record { after = one.after; reads = one.reads; moment_is = one.moment_is ∙ p; places_are = one.places_are ∙ q };
  size = (let a = leads.size in omega arith);
}

-- ---- one line

no_cut : (t : Bool) (b : ℕ) (lines : List (List ℕ)) → t ≡ false → cond t ([] ∷ lines) (onto_first b lines) ≡ onto_first b lines
no_cut t b lines is = ap (λ k. cond k ([] ∷ lines) (onto_first b lines)) is

no_feed : (b : ℕ) → (nat_le 32 b && nat_le b 126) ≡ true → (b == 10) ≡ false
no_feed b plain =
    let low : 32 ≤ b = leb-true 32 b (and_parts (nat_le 32 b) (nat_le b 126) plain).0 in
    elim (eqb_tells b 10) [ inl equal ↦ (let same : b ≡ 10 = equal.1 in absurd (omega arith)) | inr other ↦ other.0 ]

-- a line of visible bytes and spaces ends at the next line feed
pub line_cut : (line rest : List ℕ) → is_plain line ≡ true → lines_of (line ++ 10 ∷ rest) ≡ line ∷ lines_of rest
line_cut [] rest plain = refl
line_cut (b ∷ line) rest plain =
    let parts = and_parts (nat_le 32 b && nat_le b 126) (is_plain line) plain in
    no_cut (b == 10) b (lines_of (line ++ 10 ∷ rest)) (no_feed b parts.0) ∙ ap (onto_first b) (line_cut line rest parts.1)

-- what is written of words is a line that says this after those before it
pub record Says (c : Configuration) (before : List Line) (words : List Text) (said : Line) : Type 0 where
  pub some : 0 < length words
  pub visible : AllByRecursion IsVisibleWord words
  pub spoken : is_skipped (join_with_byte 32 words) ≡ false
  pub guiltless : words_faults c before (Some words) ≡ []
  pub says : words_said c (Some words) ≡ Some said

plain_given : (b : Bool) (words others : List Text) → (k : Bool) → cond (b && k) (Some words) None ≡ Some others → b ≡ true
plain_given true words others k h = refl
plain_given false words others k h = absurd (cc)

words_plain : (line : List ℕ) (words : List Text) → words_in line ≡ Some words → is_plain line ≡ true
words_plain line words h = plain_given (is_plain line) _ words _ h

then_said : (c : Configuration) (words : List Text) (o : Option (List Text)) (said : Line) (skipped : Bool) → skipped ≡ false → o ≡ Some words → words_said c (Some words) ≡ Some said → cond skipped None (words_said c o) ≡ Some said
then_said c words o said true q is says = absurd (true≢false q)
then_said c words o said false q is says = ap (words_said c) is ∙ says

pub not_below : (m n : ℕ) → n ≤ m → nat_lt m n ≡ false
not_below m n le = grind (arith)

pub words_read : (c : Configuration) (before : List Line) (words : List Text) (said : Line) → length (join_with_byte 32 words) ≤ 65536 → Says c before words said → Reads c before (join_with_byte 32 words ++ 10 ∷ []) (said ∷ before)
words_read c before words said short is =
    let line : List ℕ = join_with_byte 32 words in
    let cut : words_in line ≡ Some words = words_are line words (record { some = is.some; visible = is.visible; joined = refl }) in
    let none : line_faults c before line ≡ [] =
    rw (not_below 65536 (length line) short, is.spoken, cut) is.guiltless in
    let says : line_said c line ≡ Some said = then_said c words (words_in line) said (is_skipped line) is.spoken cut is.says in
    record {
      on = λ rest end goes.
          subst (λ (bytes : List ℕ). Goes c before (lines_of bytes) end) (sym (append_assoc line (10 ∷ []) rest))
          (subst (λ (lines : List (List ℕ)). Goes c before lines end) (sym (line_cut line rest (words_plain line words cut)))
          (none, subst (λ (o : Option Line). Goes c (added o before) (lines_of rest) end) (sym says) goes));
    }

-- such a line leads on
pub line_leads : (c : Configuration) (at places : ℕ) (words : List Text) (said : Line) (then more most : ℕ) → ((before : List Line) → moment_after before ≡ at → places_after before ≡ places → Says c before words said) → ((before : List Line) → moment_after before ≡ at → moment_after (said ∷ before) ≡ then) → ((before : List Line) → places_after before ≡ places → places_after (said ∷ before) ≡ more) → length (join_with_byte 32 words) + 1 ≤ most → most ≤ 65536 → Leads c at places (join_with_byte 32 words ++ 10 ∷ []) then more most
line_leads c at places words said then more most says moment_is places_are size short = record {
  from = λ before moment count.
      record {
        after = said ∷ before;
        reads = words_read c before words said (omega arith) (says before moment count);
        moment_is = moment_is before moment;
        places_are = places_are before count;
      };
  size = omega (arith, length-append (join_with_byte 32 words) (10 ∷ []));
}
