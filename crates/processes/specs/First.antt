-- The first judge of a container, which its checked filter gives.
use Rattle.std.specs.Prelude.{length}
use Rattle.cert_check.specs.declared.checked.Checked.{Checked}
use Rattle.cert_check.specs.Checked.{profile_of, program_of}
use Rattle.processes.specs.Tasks.{Judge, Processes, admitted, program_judge, profile_judge}

-- what its program gives
abbrev pub by_program : Checked → Judge
by_program c = program_judge (program_of c)

-- what its profile says, which counts for as many instructions
abbrev pub by_profile : Checked → Judge
by_profile c = profile_judge (profile_of c) (length (program_of c))

-- a container as it begins: task 1, on the profile's machine, with the checked program as its only filter
abbrev pub begun_with : Checked → Processes
begun_with c = admitted (profile_of c).native (by_program c)
