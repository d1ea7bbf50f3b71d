use Rattle.std.proofs.Common.{◌≡◌}
use Rattle.std.proofs.lemmas.List.Elements.{All-push}
use Rattle.cert_state.specs.Literals.{index_of}
use Rattle.cert_state.specs.Learned.{word_of}
use Rattle.cert_state.proofs.MoreLaws.{kept_more}
use Rattle.cert_state.proofs.one_word.LearnedWord.push.Goals as goal

pub invariant_of-self-in-Ok-clause-own : goal.invariant_of-self-in-Ok-clause-own
unfolding word_of
invariant_of-self-in-Ok-clause-own c =
    let own = c.args.self.now in
    rw c.in-Ok.ensures.items (All-push (λ l. index_of l ≡ own.word) own.lits.items c.args.literal own.own c.requires)

pub invariant_of-self-in-Ok-clause-kept : goal.invariant_of-self-in-Ok-clause-kept
unfolding word_of
invariant_of-self-in-Ok-clause-kept c =
    let own = c.args.self.now in
    rw (c.in-Ok.ensures.items, c.in_ok-push.ensures.items)
    (kept_more own.lits.items own.word own.before.items c.args.literal own.facts own.paired own.kept own.told)
