use Rattle.std.proofs.Common.{List, ap, map, subst, ◌∙◌, ℕ}
use Rattle.call_groups.specs.Groups.{now_of}
use Rattle.machines.specs.declared.arch.Arch.{Arch}
use Rattle.allow_groups.specs.Allowed.{TellsLines}
use Rattle.allow_groups.specs.Report.{report}
use Rattle.allow_groups.proofs.grown.told_for.Goals as goal

pub returns : goal.returns
returns c =
    let groups : List (List ℕ) = map now_of c.args.groups.now in
    subst (λ (l : List ℕ). TellsLines c.args.native groups c.args.profile l c.in_ok-grown.grown)
    (c.in_ok-lines.ensures ∙ ap (λ (ms : List Arch). report ms groups) c.machines.ensures.machines)
    (c.in_ok-grown.ensures c.args.native groups c.args.profile c.grown_of-made.ensures)
