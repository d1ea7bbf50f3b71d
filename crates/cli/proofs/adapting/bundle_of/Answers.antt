use Rattle.std.proofs.Common.{inl, refl, ◌≡◌}
use Rattle.std.specs.Prelude.{Some}
use Rattle.cli.proofs.adapting.bundle_of.Goals as goal

pub made_of_file-requires : goal.made_of_file-requires
made_of_file-requires g c = (c.in-Ok-Some.ensures c.in-Ok-Some.wanted).0 c.in-Ok-Some.field-0-is

pub returns-in-Ok-None : goal.returns-in-Ok-None
returns-in-Ok-None g c =
    let none = c.in-Ok-None.field-0-is in
    inl (λ w asks. let some : c.in-Ok-None.field-0 ≡ Some w = (c.in-Ok-None.ensures w).1 asks in cc, refl)
