-- What is told of two filters.
use Rattle.std.specs.Prelude.{ℕ, ◌≡◌, ◌≢◌, ◌⊎◌, List, [], ◌∷◌, ◌++◌, Some, codes}
use Rattle.std.specs.Fmt.{decimal}
use Rattle.std.specs.List.{All, flat_map}
use Rattle.texts.specs.Lines.{line_feed}
use Rattle.machines.specs.Arch.{family_of}
use Rattle.machines.specs.declared.arch.Arch.{Arch}
use Rattle.machines.specs.declared.arch.Family.{Family}
use Rattle.bpf_insn.specs.declared.instruction.Insn.{Insn}
use Rattle.bpf_insn.specs.declared.fault.ViewError.{ViewError}
use Rattle.bpf_insn.specs.Bytes.{insns_of, view_fault}
use Rattle.bpf_insn.specs.Fault.{text_of as fault_text}
use Rattle.kernel_check.specs.declared.fault.Refused.{Refused as KernelRefused}
use Rattle.kernel_check.specs.Accepted.{IsRefusal}
use Rattle.kernel_check.specs.Fault.{text_of as refusal_text}
use Rattle.wording.specs.declared.told.End.{End}
use Rattle.wording.specs.declared.told.End.TheVariants.{Done, No, Refused}
use Rattle.wording.specs.declared.told.Told.{Told}
use Rattle.compare.specs.Behind.{AreAccepted}
use Rattle.compare.specs.Outcome.{line_of}
use Rattle.compare.specs.declared.change.Change.{Change}
use Rattle.compare.specs.Differ.{AnswerUnlike}
use Rattle.compare.specs.declared.filters.outcome.Outcome.{Outcome}
use Rattle.compare.specs.declared.filters.outcome.Outcome.TheVariants.{Same, Differ, NoneFound, NoProgram, Refusal}

-- a change is of a call of which the filters answer unlike verdicts
abbrev pub IsUnlike : Family → List Insn → List Insn → Change → Type 0
IsUnlike family old new change = AnswerUnlike family old new change.first × (change.others.items ≡ [])

-- the bytes are no program, or none that the kernel accepts
abbrev pub IsWrong : List ℕ → ℕ → Outcome → Type 0
IsWrong filter place (NoProgram e at) = (at ≡ place) × (view_fault filter ≡ Some e)
IsWrong filter place (Refusal e at) = (at ≡ place) × IsRefusal (insns_of filter) e
IsWrong filter place other = ⊥

-- the bytes are unlike, and both are programs that the kernel accepts
abbrev pub AreUnlikeFilters : List ℕ → List ℕ → Type 0
AreUnlikeFilters old new = (old ≢ new) × (AreAccepted old × AreAccepted new)

-- What is so of the bytes of two filters: that they are the same filter, or that the filters answer unlike verdicts to calls. That none was
-- found says only that both are filters. Or the bytes of the first or the second one are wrong.
abbrev pub IsOutcome : Family → List ℕ → List ℕ → Outcome → Type 0
IsOutcome family old new Same = (old ≡ new) × AreAccepted old
IsOutcome family old new (Differ changes) = (changes.items ≢ []) × All (IsUnlike family (insns_of old) (insns_of new)) changes.items
IsOutcome family old new NoneFound = AreUnlikeFilters old new
IsOutcome family old new other = IsWrong old 1 other ⊎ IsWrong new 2 other

-- the line of a filter whose bytes are no program, and of one that the kernel refuses
abbrev pub view_line : ViewError → ℕ → List ℕ
view_line e place = codes "refused view " ++ fault_text e ++ codes ", filter " ++ decimal place ++ line_feed ∷ []

abbrev pub kernel_line : KernelRefused → ℕ → List ℕ
kernel_line e place = codes "refused kernel " ++ refusal_text e ++ codes ", filter " ++ decimal place ++ line_feed ∷ []

-- the text that says it
abbrev pub text_of : Outcome → List ℕ
text_of Same = codes "same\n"
text_of (Differ changes) = flat_map line_of changes.items ++ codes "differ\n"
text_of NoneFound = codes "none found\n"
text_of (NoProgram e place) = view_line e place
text_of (Refusal e place) = kernel_line e place

-- how the command ends
abbrev pub ends : Outcome → End
ends Same = Done
ends (Differ changes) = No
ends NoneFound = No
ends (NoProgram e place) = Refused
ends (Refusal e place) = Refused

-- What is told is the text of what is so, by the names that the family of a native machine has.
pub record IsTold (native : Arch) (old new : List ℕ) (told : Told) : Type 0 where
  pub outcome : Outcome
  pub is : IsOutcome (family_of native) old new outcome
  pub text : told.bytes.items ≡ text_of outcome
  pub end : told.end ≡ ends outcome
