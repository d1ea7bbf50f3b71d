use Rattle.std.proofs.Common.{◌∙◌, ap}
use Rattle.review.proofs.opposed.rule_with.Goals as goal

pub returns-in-Some : goal.returns-in-Some
returns-in-Some c = record {
  arch = c.in-Some.ensures.arch_is;
  nr = c.in-Some.ensures.nr_is;
  conds = (c.args.cond, c.requires, ap (λ conds. conds.items) c.in-Some.ensures.conds_are ∙ c.only.ensures);
  word = c.in-Some.ensures.verdict_is;
}
