use Rattle.std.proofs.Common.{subst, ◌∙◌}
use Rattle.std.specs.Prelude.{Ok}
use Rattle.machines.specs.declared.arch.Arch.{Arch}
use Rattle.cli.specs.Files.{HasBundle}
use Rattle.cli.specs.Paged.{TellsPages}
use Rattle.cli.proofs.BundleLaws.{told_bundle}
use Rattle.cli.proofs.reviewing.both_paged_with.Goals as goal

pub returns-in-Ok-pages_text : goal.returns-in-Ok-pages_text
returns-in-Ok-pages_text g c =
    let first = c.args.first.now in
    let folder = g.F.Files.folder c.args.files.now in
    let name = c.args.names.1.now in
    let second = c.in-Ok.second in
    let has = c.in-Ok.ensures.ok in
    told_bundle first.native folder name second.bytes (TellsPages first.native c.args.names.0.now name first.bytes)
    (subst (λ (n : Arch). HasBundle n folder name second.bytes) c.native.ensures has.has) (Ok c.in-Ok-pages_text.told)
    (c.in-Ok-pages_text.ensures (has.machine ∙ c.native.ensures))
