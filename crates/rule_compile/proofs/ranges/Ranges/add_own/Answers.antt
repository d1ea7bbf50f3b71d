use Rattle.std.proofs.Common.{◌≡◌, ◌∙◌, subst, arith, refl}
use Rattle.rule_compile.specs.inner.Numbers.{Reached}
use Rattle.rule_compile.proofs.DecidesLaws.{more_on, more_same}
use Rattle.rule_compile.proofs.ranges.Ranges.add_own.Goals as goal

pub own-preserved : goal.own-preserved
own-preserved c =
    let further = c.in_ok-add_next.ensures.further in
    record {
      from = omega (arith, c.own.invariant.from, further.0);
      upto = further.1;
      no_block = λ plain. c.in_ok-add_next.ensures.no_block plain ∙ c.own.invariant.no_block plain;
      reached = λ most many old. c.in_ok-add_next.ensures.reached most many (c.own.invariant.reached most many old);
      sound = c.in_ok-add_next.ensures.sound;
      more = more_on c.own.invariant.more c.in_ok-add_next.ensures.more;
      told = λ told. c.in_ok-add_next.ensures.told (c.own.invariant.told told);
      calls = λ listed all. c.in_ok-add_next.ensures.calls listed (c.own.invariant.calls listed all);
    }

pub own-init : goal.own-init
own-init c = record {
  from = omega arith;
  upto = c.requires.upto;
  no_block = λ plain. refl;
  reached = λ most many old. old;
  sound = c.requires.sound;
  more = more_same c.args.blocks.now.blocks.items;
  told = λ told. told;
  calls = λ listed all. all;
}

pub returns-clause-reached : goal.returns-clause-reached
returns-clause-reached c most many old =
    let at : c.own.self.end ≡ c.args.end = omega (arith, c.own.invariant.upto, c.own-test.false) in
    subst (λ n. Reached c.args.profile.now c.args.machine most c.args.end n c.own.self.ranges.items) at
    (c.own.invariant.reached most many old)
