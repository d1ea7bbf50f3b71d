use Rattle.std.proofs.Common.{subst, ◌∙◌}
use Rattle.std.specs.Prelude.{Ok}
use Rattle.machines.specs.declared.arch.Arch.{Arch}
use Rattle.cli.specs.Compared.{TellsCompared}
use Rattle.cli.specs.Files.{HasBundle}
use Rattle.cli.proofs.BundleLaws.{told_bundle}
use Rattle.cli.proofs.text_commands.compared_with.Goals as goal

pub returns-in-Ok-compared_beside : goal.returns-in-Ok-compared_beside
returns-in-Ok-compared_beside g c =
    let first = c.args.first.now in
    let folder = g.F.Files.folder c.args.files.now in
    let told = c.in-Ok-compared_beside.told in
    let has = c.in-Ok.ensures.ok in
    told_bundle first.native folder c.args.new.now c.in-Ok.second.bytes (TellsCompared c.args.at_most first.native first.bytes)
    (subst (λ (n : Arch). HasBundle n folder c.args.new.now c.in-Ok.second.bytes) c.native.ensures has.has)
    (Ok told) (c.in-Ok-compared_beside.ensures (has.machine ∙ c.native.ensures))
