use Rattle.std.proofs.Common.{ℕ, List, subst}
use Rattle.section.specs.Sections.{MeansProfile}
use Rattle.section.specs.Texts.{IsKind, in_bundle}
use Rattle.section.specs.declared.kinds.Kind.TheVariants.{Section}
use Rattle.section.proofs.SectionLaws.{same_meaning}
use Rattle.section.proofs.writing.section_if.Goals as goal

pub returns-in-Ok : goal.returns-in-Ok
returns-in-Ok c =
    let seen = c.in_ok-is_same-in-Ok.ensures c.if-not-is_same.false in
    let profile = c.in-Ok.read.profile in
    let bytes = c.as_bytes.ensures.value in
    record {
      kind = subst (λ (l : List ℕ). IsKind l Section) bytes seen.0;
      same = same_meaning c.args.native c.args.bundle.now (in_bundle _) profile c.in-Ok.ensures.ok
          (subst (λ (l : List ℕ). MeansProfile c.args.native (in_bundle l) profile) bytes seen.1);
    }
