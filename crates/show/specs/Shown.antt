-- What is shown of a filter: the lines of its listing with what they mean, or its graph.
use Rattle.std.specs.Prelude.{ℕ, ◌≡◌, ◌⊎◌, List, [], ◌∷◌, ◌++◌, None, Some, codes}
use Rattle.texts.specs.Lines.{line_feed}
use Rattle.bpf_insn.specs.declared.fault.ViewError.{ViewError}
use Rattle.bpf_insn.specs.Bytes.{insns_of, view_fault}
use Rattle.bpf_insn.specs.Fault.{text_of as fault_text}
use Rattle.kernel_check.specs.declared.fault.Refused.{Refused}
use Rattle.kernel_check.specs.Accepted.{IsAccepted, IsRefusal}
use Rattle.kernel_check.specs.Fault.{text_of as refusal_text}
use Rattle.wording.specs.declared.told.End.{End}
use Rattle.wording.specs.declared.told.End.TheVariants.{Done, No}
use Rattle.wording.specs.declared.told.End.TheVariants as end
use Rattle.wording.specs.declared.told.Told.{Told}
use Rattle.wording.specs.Told.{RefusesBy}

-- the bytes are no program, and the line that says so is told
pub record IsNoProgram (filter : List ℕ) (told : Told) : Type 0 where
  pub fault : ViewError
  pub stands : view_fault filter ≡ Some fault
  pub tells : RefusesBy (codes "refused view " ++ fault_text fault) told

-- the line that says why the kernel refuses a program, behind a mark
abbrev pub cause_line : List ℕ → Refused → List ℕ
cause_line mark cause = mark ++ codes "refused kernel " ++ refusal_text cause ++ line_feed ∷ []

-- the kernel refuses the program, the last line says why, and the command ends so
pub record IsRefused (mark : List ℕ) (ends : End) (filter : List ℕ) (told : Told) : Type 0 where
  pub program : view_fault filter ≡ None
  pub cause : Refused
  pub stands : IsRefusal (insns_of filter) cause
  pub text : List ℕ
  pub last : told.bytes.items ≡ text ++ cause_line mark cause
  pub end : told.end ≡ ends

-- it was done: the kernel accepts the program
pub record IsDone (filter : List ℕ) (told : Told) : Type 0 where
  pub program : view_fault filter ≡ None
  pub accepted : IsAccepted (insns_of filter)
  pub end : told.end ≡ Done

-- The bytes are no program, the kernel refuses the program, or it was done.
abbrev pub IsShown : List ℕ → End → List ℕ → Told → Type 0
IsShown mark ends filter told = IsNoProgram filter told ⊎ (IsRefused mark ends filter told ⊎ IsDone filter told)

-- as a listing, and as a graph, in which the cause is a comment
abbrev pub IsAnnotated : List ℕ → Told → Type 0
IsAnnotated filter told = IsShown [] No filter told

abbrev pub IsDrawn : List ℕ → Told → Type 0
IsDrawn filter told = IsShown (codes "// ") No filter told

-- as what it costs, which is nothing if the kernel refuses it
abbrev pub IsCosted : List ℕ → Told → Type 0
IsCosted filter told = IsShown [] end.Refused filter told
