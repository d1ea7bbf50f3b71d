use Rattle.std.proofs.Common.{◌≡◌, ◌∙◌, ◌<◌, ◌≤◌, ◌&&◌, false, true, ap, ap₂, arith, get_or, length, sym}
use Rattle.std.proofs.lemmas.List.{take_all}
use Rattle.std.proofs.lemmas.List.Folds.{list_all_at, list_all_more}
use Rattle.std.specs.List.{list_all}
use Rattle.command_line.specs.Lines.{is_word}
use Rattle.command_line.proofs.Words.{beside, beside_at, beside_length, beside_long}
use Rattle.command_line.proofs.reading.are_words.Goals as goal

pub returns-then-not-is_word : goal.returns-then-not-is_word
returns-then-not-is_word c =
    let parts = c.args.parts.now in
    let words = c.args.words.now in
    let i = c.loop-place.place in
    let lp : i < length parts = omega (arith, c.loop-place-test.true, c.min-place-end.ensures) in
    let lw : i < length words = omega (arith, c.loop-place-test.true, c.min-place-end.ensures) in
    let no : is_word (get_or (beside parts words) i _) ≡ false = ap is_word (beside_at parts words i _ _ lp lw) ∙ sym c.is_word.ensures ∙ c.if-not-is_word.true in
    sym (list_all_at is_word (beside parts words) i _ (beside_long parts words i lp lw) no)

pub loop-place-preserved : goal.loop-place-preserved
loop-place-preserved c =
    let parts = c.args.parts.now in
    let words = c.args.words.now in
    let i = c.loop-place.place in
    let lp : i < length parts = omega (arith, c.loop-place-test.true, c.min-place-end.ensures) in
    let lw : i < length words = omega (arith, c.loop-place-test.true, c.min-place-end.ensures) in
    let yes : is_word (get_or (beside parts words) i _) ≡ true = ap is_word (beside_at parts words i _ _ lp lw) ∙ sym c.is_word.ensures ∙ c.if-not-is_word.false in
    list_all_more is_word (beside parts words) i _ (beside_long parts words i lp lw) ∙ ap₂ (λ a b. a && b) c.loop-place.invariant yes

pub returns : goal.returns
returns c =
    let parts = c.args.parts.now in
    let words = c.args.words.now in
    let end : length (beside parts words) ≤ c.loop-place.place =
    omega (arith, beside_length parts words, c.loop-place-test.false, c.min-place-end.ensures) in
    sym c.loop-place.invariant ∙ ap (list_all is_word) (take_all c.loop-place.place (beside parts words) end)
