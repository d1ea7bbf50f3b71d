use Rattle.std.proofs.Common.{◌<◌, ◌∷◌, [], List, length, take, ap, sym, ◌∙◌, arith}
use Rattle.std.proofs.lemmas.List.{take_all}
use Rattle.profile.specs.Policy.{Policy}
use Rattle.profile.specs.Rule.{argument_of}
use Rattle.profile.specs.Said.{said}
use Rattle.differ.specs.Left.{side_says}
use Rattle.together.specs.Together.{each_said}
use Rattle.together.specs.Word.{word_of}
use Rattle.together.proofs.ProductLaws.{said_next}
use Rattle.together.proofs.WordLaws.{word_more}
use Rattle.together.proofs.product.together_with.Goals as goal

pub loop-profile-preserved : goal.loop-profile-preserved
loop-profile-preserved c = λ r of.
    let way = c.args.way in
    let others : List Policy = c.args.others.now in
    let i = c.loop-profile.profile-index in
    let lt : i < length others = omega arith in
    let profile : Policy = c.profile-item.result in
    let front = said c.args.first.now r in
    let own = side_says c.in_ok-own-2.own (argument_of r) in
    let some = each_said (take i others) r in
    c.in_ok-made-2.ensures (argument_of r)
    ∙ ap (λ u. word_of way (u ∷ own ∷ [])) (c.loop-profile.invariant r of)
    ∙ ap (λ v. word_of way (word_of way (front ∷ some) ∷ v ∷ [])) (c.in_ok-own-2.ensures r of)
    ∙ sym (word_more way front some (said profile r))
    ∙ ap (λ ws. word_of way (front ∷ ws)) (sym (said_next others i profile r lt c.profile-item.is))

pub returns : goal.returns
returns c = λ r of.
    c.loop-profile.invariant r of
    ∙ ap (λ ps. word_of c.args.way (said c.args.first.now r ∷ each_said ps r)) (take_all c.loop-profile.profile-index c.args.others.now (omega arith))
