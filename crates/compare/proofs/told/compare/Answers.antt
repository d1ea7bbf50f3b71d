use Rattle.std.proofs.Common.{subst, sym, ◌∙◌, ◌≡◌}
use Rattle.machines.specs.declared.arch.Arch.{Arch}
use Rattle.std.specs.Prelude.{IfOk}
use Rattle.compare.specs.Told.{IsBundle, IsCompared}
use Rattle.compare.proofs.ToldLaws.{first_refused}
use Rattle.compare.proofs.told.compare.Goals as goal

pub returns-in-Ok : goal.returns-in-Ok
returns-in-Ok c = λ one_machine.
    let first = c.args.first.now.bytes in
    subst (λ (n : Arch). IfOk c.compare_with.result (IsCompared c.args.atmost n first c.args.second.now.bytes)) c.native.ensures
    (c.compare_with.ensures first (one_machine ∙ sym c.native.ensures)
    (subst (λ (n : Arch). IsBundle n first c.in-Ok.one.now.profile) (sym c.native.ensures) c.in-Ok.ensures.ok))

pub returns-in-Err : goal.returns-in-Err
returns-in-Err c = λ one_machine.
    first_refused c.args.atmost c.args.first.now.native c.args.first.now.bytes c.args.second.now.bytes c.in-Err.error c.refused.result
    c.in-Err.ensures.err c.refused.ensures
