use Rattle.std.proofs.Common.{◌∙◌}
use Rattle.section.proofs.SectionLaws.{in_its_bundle}
use Rattle.section.proofs.writing.is_section_of.Goals as goal

pub returns-in_ok-bundle-in-Section : goal.returns-in_ok-bundle-in-Section
returns-in_ok-bundle-in-Section c =
    in_its_bundle c.args.native c.args.section.now c.deref.result.now c.args.profile.now c.in_ok-kind_of_text.field-0
    c.in_ok-kind_of_text.ensures c.in-Section.is (c.deref.ensures.value ∙ c.in_ok-bundle-in-Section.ensures) c.means.result c.means.ensures
