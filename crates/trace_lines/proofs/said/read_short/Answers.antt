use Rattle.std.proofs.Common.{◌≡◌, IfOk, sym, subst, ◌∙◌}
use Rattle.trace_lines.proofs.ByCount.{at_one, at_two, at_three, at_four, other_count}
use Rattle.trace_lines.proofs.said.read_short.Goals as goal

pub returns-then-words-eq1 : goal.returns-then-words-eq1
returns-then-words-eq1 c = c.one_word.ensures c.args.registry.now ∙ sym (at_one c.args.registry.now c.args.verb c.args.words.now c.if-words-eq1.true)

pub returns-then-words-eq2 : goal.returns-then-words-eq2
returns-then-words-eq2 c = c.two_words.ensures ∙ sym (at_two c.args.registry.now c.args.verb c.args.words.now c.if-words-eq2.true)

pub returns-then-words-eq3 : goal.returns-then-words-eq3
returns-then-words-eq3 c = subst (λ said. IfOk c.three_words.result (λ s. s ≡ said)) (sym (at_three c.args.registry.now c.args.verb c.args.words.now c.if-words-eq3.true)) (c.three_words.ensures c.args.registry.now)

pub returns-then-words-eq4 : goal.returns-then-words-eq4
returns-then-words-eq4 c = subst (λ said. IfOk c.four_words.result (λ s. s ≡ said)) (sym (at_four c.args.registry.now c.args.verb c.args.words.now c.if-words-eq4.true)) (c.four_words.ensures c.args.registry.now)

pub returns : goal.returns
returns c = other_count c.args.registry.now c.args.verb c.args.words.now c.if-words-eq1.false c.if-words-eq2.false c.if-words-eq3.false c.if-words-eq4.false
