-- Calls of which two filters answer unlike verdicts.
use Rattle.std.specs.Prelude.{◌≡◌, ◌≢◌, List, Some}
use Rattle.call_record.specs.Words.{IsRecord}
use Rattle.machines.specs.declared.arch.Family.{Family}
use Rattle.wording.specs.Phrases.{machine_with}
use Rattle.bpf_insn.specs.declared.instruction.Insn.{Insn}
use Rattle.bpf_insn.specs.Machine.{verdict_of}
use Rattle.compare.specs.Difference.{record_of}
use Rattle.compare.specs.declared.difference.Difference.{Difference}

-- Two filters answer these verdicts to the record of a call, and they are unlike. The machine is told by token and number, and the
-- instruction pointer of the record is 0.
pub record AnswerUnlike (family : Family) (old new : List Insn) (d : Difference) : Type 0 where
  pub is_record : IsRecord (record_of d)
  pub machine : d.arch ≡ machine_with family d.token d.nr
  pub pointer : d.ip ≡ 0
  pub old_answers : verdict_of old (record_of d) ≡ Some d.first
  pub new_answers : verdict_of new (record_of d) ≡ Some d.second
  pub unlike : d.first ≢ d.second
