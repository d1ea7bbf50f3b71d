use Rattle.std.proofs.Common.{◌∙◌, sym, rules}
use Rattle.std.specs.Prelude.{None, Some}
use Rattle.strace_logs.proofs.Spaces.{behind_one}
use Rattle.strace_logs.proofs.strace.numbers.behind_spaces.Goals as goal

pub space-preserved : goal.space-preserved
space-preserved c = record {
  left = c.space.invariant.left ∙ behind_one c.space.rest.now (Some c.in-Some.more) c.in-Some.ensures;
  utf8 = search rules;
}

pub returns : goal.returns
returns c = sym (c.space.invariant.left ∙ behind_one c.space.rest.now None c.in_default.ensures)
