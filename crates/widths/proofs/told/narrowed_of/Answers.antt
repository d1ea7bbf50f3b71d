use Rattle.std.proofs.Common.{subst, sym}
use Rattle.machines.specs.declared.arch.Arch.{Arch}
use Rattle.widths.specs.Narrow.{IsBundle, IsTold}
use Rattle.widths.proofs.told.narrowed_of.Goals as goal

pub returns : goal.returns
returns c =
    let bytes = c.args.document.now.bytes in
    subst (λ (n : Arch). IsTold n bytes c.in_ok-told.told) c.native.ensures
    (c.in_ok-told.ensures bytes (subst (λ (n : Arch). IsBundle n bytes c.args.bundle.now.profile) (sym c.native.ensures) c.requires))
