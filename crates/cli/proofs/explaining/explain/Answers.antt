use Rattle.std.proofs.Common.{inr, map, refl}
use Rattle.machines.specs.declared.arch.Arch.{Arch}
use Rattle.cli.specs.Dispatch.{any_call, explained_as}
use Rattle.cli.proofs.AuditLaws.{audit_of_file}
use Rattle.cli.proofs.BundleLaws.{told_document}
use Rattle.cli.proofs.DispatchLaws.{now_of}
use Rattle.cli.proofs.explaining.explain.Goals as goal

pub returns-then-asks_audit-clause-audit : goal.returns-then-asks_audit-clause-audit
returns-then-asks_audit-clause-audit g c = λ asks.
    audit_of_file g.I.Source.left g.I.Source.failures (g.F.Files.folder c.args.files.now) c.args.input.now c.audited.new.input c.args.native
    c.args.bundle.now c.in-Ok.document.bytes c.in-Ok.ensures.ok.has
    c.audited.result (rw c.in-Ok.ensures.ok.machine at c.audited.ensures)

pub returns-else-asks_audit-clause-call : goal.returns-else-asks_audit-clause-call
returns-else-asks_audit-clause-call g c =
    inr (
      refl,
      told_document c.args.native (g.F.Files.folder c.args.files.now) c.args.bundle.now c.in-Ok.document
          (λ (n : Arch). explained_as n (map now_of c.args.call.now) (any_call (map now_of c.args.call.now))) c.in-Ok.ensures.ok
          c.told.result c.told.ensures,
    )
