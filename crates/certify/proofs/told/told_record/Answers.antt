use Rattle.cert_form.specs.Nodes.{literals}
use Rattle.certify.proofs.StatedLaws.{stated_words}
use Rattle.certify.proofs.told.told_record.Goals as goal

pub returns : goal.returns
returns c =
    stated_words (literals c.args.known.now.entries.now c.args.known.now.number) _ _ _ _ _ _ _ _ _ c.in_ok-told_word.ensures
    c.in_ok-told_word-2.ensures
    (c.in_ok-told_wide.ensures.low, c.in_ok-told_wide.ensures.high)
    (c.in_ok-told_wide-2.ensures.low, c.in_ok-told_wide-2.ensures.high)
    (c.in_ok-told_wide-3.ensures.low, c.in_ok-told_wide-3.ensures.high)
    (c.in_ok-told_wide-4.ensures.low, c.in_ok-told_wide-4.ensures.high)
    (c.in_ok-told_wide-5.ensures.low, c.in_ok-told_wide-5.ensures.high)
    (c.in_ok-told_wide-6.ensures.low, c.in_ok-told_wide-6.ensures.high)
    (c.in_ok-told_wide-7.ensures.low, c.in_ok-told_wide-7.ensures.high)
