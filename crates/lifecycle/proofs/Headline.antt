-- A checked value's program and its profile are one judge, so a run by either is the same run.
use Rattle.std.proofs.Common.{◌≡◌, ℕ, List, Option, Some, Result, IfOk, unwrap_or, length, ap, subst, ◌∙◌}
use std.Path.{fun_ext}
use Rattle.std.specs.declared.alloc.AllocError.{AllocError}
use Rattle.std.specs.Option.{option_map}
use Rattle.call_record.specs.declared.layout.Record.{Record}
use Rattle.call_record.specs.Record.{words}
use Rattle.call_record.proofs.RecordLemmas.{words-is_record}
use Rattle.bpf_insn.specs.Machine.{verdict_of}
use Rattle.kernel_check.specs.Lent.{accepted_insns}
use Rattle.kernel_check.proofs.RunLaws.{runs}
use Rattle.profile.specs.Said.{said}
use Rattle.cert_check.specs.declared.checked.Checked.{Checked}
use Rattle.cert_check.specs.Checked.{profile_of, program_of}
use Rattle.processes.specs.First.{by_program, by_profile}
use Rattle.lifecycle.specs.declared.command.Reply.{Reply}
use Rattle.lifecycle.specs.Commands.{Command}
use Rattle.lifecycle.specs.Worlds.{First, World}
use Rattle.lifecycle.specs.Steps.{run, step}

-- the program gives the verdict that the profile says
gives : (c : Checked) (r : Record) → verdict_of (program_of c) (words r) ≡ Some (said (profile_of c) (words r))
unfolding profile_of program_of accepted_insns
gives c r =
    let is = words-is_record r in
    let word = runs (program_of c) (words r) c.program.accepted is.length_is in
    let found : verdict_of (program_of c) (words r)
    ≡ Some word.0 = ap (λ (o : Option (ℕ × ℕ)). option_map (λ (end : ℕ × ℕ). end.0) o) word.2 in
    found ∙ ap Some (c.right (words r) is word.0 found)

pub same_first : by_program ≡ by_profile
same_first =
    fun_ext (λ c. ap (λ (w : Record → ℕ). record { verdict = w; count = length (program_of c) })
    (fun_ext (λ r. ap (λ (o : Option ℕ). unwrap_or o 0) (gives c r))))

pub same_run : (os : List Command) (w : World) → run by_program os w ≡ run by_profile os w
same_run os w = ap (λ F. run F os w) same_first

-- a step by either is the same step
pub profiles_step : (result : Result Reply AllocError) (o : Command) (w u : World) → IfOk result (λ r. (r, u) ≡ step by_program o w)
    → IfOk result (λ r. (r, u) ≡ step by_profile o w)
profiles_step result o w u is = subst (λ (F : First). IfOk result (λ r. (r, u) ≡ step F o w)) same_first is
