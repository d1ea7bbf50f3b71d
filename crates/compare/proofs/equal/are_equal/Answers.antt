use Rattle.std.proofs.Common.{subst, sym, ◌∙◌}
use Rattle.std.specs.Prelude.{IsTrue}
use Rattle.std.proofs.lemmas.Bool.{true≢false}
use Rattle.compare.proofs.EqualLaws.{held}
use Rattle.compare.proofs.equal.are_equal.Goals as goal

pub returns-then-not-has_all : goal.returns-then-not-has_all
returns-then-not-has_all c = (
  λ t. absurd (true≢false (sym t)),
  λ equal. subst IsTrue c.if-not-has_all.true
      (c.has_all.ensures.1 (held c.args.second.now.rules c.rules.result.now c.args.first.now.rules c.rules-2.result.now
      (sym c.rules.ensures.rules) (sym c.rules-2.ensures.rules) equal.first)),
)

pub returns : goal.returns
returns c = (
  λ t. record {
    machines = sym c.machines.ensures.machines ∙ c.are_same_machines.ensures.0 c.if-not-are_same_machines.false
        ∙ c.machines-2.ensures.machines;
    default_word = sym c.default_word.ensures ∙ c.is_same_word.ensures.0 c.if-not-is_same_word.false ∙ c.default_word-2.ensures;
    first = held c.rules.result.now c.args.second.now.rules c.rules-2.result.now c.args.first.now.rules
        c.rules.ensures.rules c.rules-2.ensures.rules (c.has_all.ensures.0 c.if-not-has_all.false);
    second = held c.rules-3.result.now c.args.first.now.rules c.rules-4.result.now c.args.second.now.rules
        c.rules-3.ensures.rules c.rules-4.ensures.rules (c.has_all-2.ensures.0 t);
  },
  λ equal. c.has_all-2.ensures.1 (held c.args.first.now.rules c.rules-3.result.now c.args.second.now.rules c.rules-4.result.now
      (sym c.rules-3.ensures.rules) (sym c.rules-4.ensures.rules) equal.second),
)
