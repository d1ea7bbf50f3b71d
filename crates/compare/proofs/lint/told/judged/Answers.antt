use Rattle.std.proofs.Common.{ap, subst, ◌∙◌}
use Rattle.machines.specs.Arch.{family_of}
use Rattle.machines.specs.declared.arch.Family.{Family}
use Rattle.wording.specs.Told.{end_of}
use Rattle.compare.specs.Past.{IsFinding}
use Rattle.compare.proofs.lint.told.judged.Goals as goal

pub returns : goal.returns
returns c = record {
  profile = c.args.bundle.now.profile;
  means = c.requires.means;
  found = c.in_ok-found.found;
  is = subst (λ (family : Family). IsFinding family c.args.bundle.now.profile c.in_ok-found.found) (c.family.ensures ∙ ap family_of c.native.ensures) c.in_ok-found.ensures;
  end = c.of-end.ensures ∙ ap end_of c.is_nothing.ensures;
  text = rw c.into_bytes.ensures.value c.in_ok-text.ensures;
}
