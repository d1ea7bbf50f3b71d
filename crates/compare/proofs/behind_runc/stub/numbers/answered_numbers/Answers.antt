use Rattle.std.proofs.Common.{◌≤◌, drop, arith}
use Rattle.call_record.specs.Words.{word}
use Rattle.kernel_check.specs.Lent.{accepted_insns}
use Rattle.compare.proofs.StubRunLaws.{fewer_tokens, part_of_numbers}
use Rattle.compare.proofs.SplitLaws.{more_below, more_splits}
use Rattle.compare.proofs.behind_runc.stub.numbers.answered_numbers.Goals as goal

pub follow-requires-clause-some : goal.follow-requires-clause-some
follow-requires-clause-some c = record {
  numbers = omega (arith, c.all.invariant.fits);
  tokens = c.all.invariant.part.some;
}

pub returns-then-region-clause-split : goal.returns-then-region-clause-split
returns-then-region-clause-split c r is token =
    let most : word r 0 ≤ c.follow.new.region.numbers.last = let w = is.words 0 in omega (arith, w, c.if-region.true) in
    more_splits (accepted_insns c.args.filter.now) (drop c.args.begin (accepted_insns c.args.filter.now)) c.follow.new.region
    c.all.numbers.items c.add_if.new.numbers.items c.all.next c.follow.ensures.part.numbers.first c.all.invariant.below
    (λ q is_q token_q less. c.all.invariant.splits q is_q (fewer_tokens (word q 1) c.follow.new.region.tokens c.all.tokens c.follow.ensures.part.tokens token_q) less)
    c.in-Some.answered c.in_ok-add_if.ensures.yes c.in_ok-add_if.ensures.no c.in-Some.ensures.answer r is token most

pub all-preserved : goal.all-preserved
all-preserved c = record {
  fits = omega (arith, c.follow.ensures.part.numbers.last, c.if-region.false);
  part = part_of_numbers c.follow.new.region.tokens c.all.tokens c.args.tokens.now c.follow.ensures.part.tokens c.all.invariant.part;
  below =
      more_below (accepted_insns c.args.filter.now) (drop c.args.begin (accepted_insns c.args.filter.now)) c.follow.new.region
      c.all.numbers.items c.add_if.new.numbers.items c.all.next c.follow.ensures.part.numbers.first c.all.invariant.below
      (λ q is_q token_q less. c.all.invariant.splits q is_q (fewer_tokens (word q 1) c.follow.new.region.tokens c.all.tokens c.follow.ensures.part.tokens token_q) less)
      c.in-Some.answered c.in_ok-add_if.ensures.yes c.in_ok-add_if.ensures.no c.follow.ensures.part.numbers.some;
  splits = λ r is token less.
      more_splits (accepted_insns c.args.filter.now) (drop c.args.begin (accepted_insns c.args.filter.now)) c.follow.new.region
      c.all.numbers.items c.add_if.new.numbers.items c.all.next c.follow.ensures.part.numbers.first c.all.invariant.below
      (λ q is_q token_q less. c.all.invariant.splits q is_q (fewer_tokens (word q 1) c.follow.new.region.tokens c.all.tokens c.follow.ensures.part.tokens token_q) less)
      c.in-Some.answered c.in_ok-add_if.ensures.yes c.in_ok-add_if.ensures.no c.in-Some.ensures.answer r is token
      (omega (arith, less));
}
