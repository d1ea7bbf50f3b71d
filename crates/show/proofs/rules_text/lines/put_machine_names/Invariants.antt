-- What is told, and what is to be told of the machines that are left, is all.
use Rattle.std.proofs.Common.{◌≡◌, ◌++◌, drop}
use Rattle.std.specs.Prelude.{codes, string_bytes}
use Rattle.std.specs.List.{flat_map}
use Rattle.machines.specs.Arch.{machine_name}
use Rattle.show.proofs.rules_text.lines.put_machine_names.Given as goal

abbrev pub invariant-loop-arch : goal.invariant-loop-arch
invariant-loop-arch l =
    string_bytes l.text ++ flat_map (λ arch. codes " " ++ machine_name arch) (drop l.arch-index l.machines)
    ≡ string_bytes l.fn.text ++ flat_map (λ arch. codes " " ++ machine_name arch) l.machines
