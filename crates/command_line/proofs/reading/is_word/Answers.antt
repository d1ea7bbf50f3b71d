use Rattle.std.proofs.Common.{◌≡◌, ◌∙◌, length, rules, sym}
use Rattle.command_line.proofs.Words.{among_is, none_named}
use Rattle.command_line.proofs.reading.is_word.Goals as goal

pub returns-then-is_empty : goal.returns-then-is_empty
returns-then-is_empty c =
    let none : length c.words-words.result.now ≡ 0 = search rules in
    c.if-is_empty.true ∙ sym (none_named c.words-words.result.now _ c.args.word.now c.words-words.ensures none)

pub returns-else-is_empty : goal.returns-else-is_empty
returns-else-is_empty c =
    let some : (length c.words-words.result.now ≡ 0 → ⊥) = search rules in
    c.contain.ensures ∙ sym (among_is c.words-words.result.now _ c.args.word.now c.words-words.ensures some)
