-- What each reason says for which no section is found.
use Rattle.std.specs.Prelude.{◌≡◌, ◌≢◌, ℕ, ◌==◌, ◌&&◌, ◌||◌, ⊤, Bool, true, false, List, [], ◌∷◌, map}
use Rattle.std.specs.Prelude.{Option, None, Some, Err, nat_le, if◌then◌else◌}
use Rattle.std.specs.List.{list_any}
use Rattle.call_record.specs.declared.layout.Record.{Record}
use Rattle.call_record.specs.Record.{words}
use Rattle.call_record.specs.Words.{IsRecord}
use Rattle.call_record.specs.Verdict.{action, allow, datum, errno, kill_process, kill_thread, log, trace, trap, user_notif}
use Rattle.machines.specs.Arch.{family_of}
use Rattle.call_tables.specs.Tables.{table_of}
use Rattle.machines.specs.declared.arch.Arch.{Arch}
use Rattle.machines.specs.declared.arch.Family.{Family}
use Rattle.machines.specs.Numbers.{IsOwn}
use Rattle.call_tables.specs.Table.{name_in}
use Rattle.machines.specs.Width.{compared, is_narrow}
use Rattle.bpf_insn.specs.Bytes.{insns_of, view_fault}
use Rattle.bpf_insn.specs.declared.instruction.Insn.{Insn}
use Rattle.bpf_insn.specs.Machine.{verdict_of}
use Rattle.kernel_check.specs.Accepted.{IsRefusal}
use Rattle.maker.specs.Certified.{IsEvidenceFor, IsJudgement}
use Rattle.maker.specs.declared.evidence.evidence.Evidence.TheVariants.{Refuting}
use Rattle.recover.specs.declared.unsaid.Shown.{Shown}
use Rattle.recover.specs.declared.unsaid.Unsaid.{Unsaid}
use Rattle.recover.specs.declared.unsaid.Unsaid.TheVariants as why
use Rattle.wording.specs.Phrases.{machine_with}

-- the filter gives the call this verdict
pub record IsAnswer (p : List Insn) (shown : Shown) : Type 0 where
  pub is_record : IsRecord (words shown.call)
  pub given : verdict_of p (words shown.call) ≡ Some shown.given

-- it gives two calls unlike verdicts
pub record AreUnlike (p : List Insn) (one other : Shown) : Type 0 where
  pub first : IsAnswer p one
  pub second : IsAnswer p other
  pub unlike : one.given ≢ other.given

-- two calls of one machine with one number, whose arguments are compared alike
pub record AreAlike (narrow : Bool) (one other : Record) : Type 0 where
  pub machine : one.arch ≡ other.arch
  pub number : one.nr ≡ other.nr
  pub arguments : map (compared narrow) one.args ≡ map (compared narrow) other.args

-- a machine of the family has the call, and no name for it
pub record IsUnnamed (family : Family) (call : Record) : Type 0 where
  pub machine : Arch
  pub owner : machine_with family call.arch call.nr ≡ Some machine
  pub own : IsOwn machine call.nr
  pub unnamed : name_in (table_of machine) call.nr ≡ None

-- a machine of the family has the call under this name
pub record IsNamed (family : Family) (call : Record) (name : List ℕ) : Type 0 where
  pub machine : Arch
  pub owner : machine_with family call.arch call.nr ≡ Some machine
  pub named : name_in (table_of machine) call.nr ≡ Some name

-- calls under one name with the same arguments
pub record HaveOneName (family : Family) (one other : Record) : Type 0 where
  pub name : List ℕ
  pub first : IsNamed family one name
  pub second : IsNamed family other name
  pub arguments : one.args ≡ other.args

abbrev pub actions : List ℕ
actions = kill_process ∷ kill_thread ∷ trap ∷ errno ∷ user_notif ∷ trace ∷ log ∷ allow ∷ []

abbrev pub has_action : ℕ → Bool
has_action v = list_any (λ a. action v == a) actions

abbrev pub takes_data : ℕ → Bool
takes_data v = (action v == errno) || (action v == trace)

-- a section can give the verdict: it has an action, and data up to 4095 if that takes some
abbrev pub can_be_said : ℕ → Bool
can_be_said v = has_action v && (if takes_data v then nat_le (datum v) 4095 else datum v == 0)

-- What a reason says of a program that was followed. Too many comparisons or entries, or want of memory, say nothing of it.
abbrev pub IsSeen : Family → List Insn → Unsaid → Type 0
IsSeen family p (why.OtherMachine one) =
    IsAnswer p one × (one.given ≢ kill_thread) × (machine_with family one.call.arch one.call.nr ≡ None)
IsSeen family p (why.NoAction one) = IsAnswer p one × (can_be_said one.given ≡ false)
IsSeen family p (why.Unnamed one other) = AreUnlike p one other × IsUnnamed family one.call × IsUnnamed family other.call
IsSeen family p (why.Pointer one other) = AreUnlike p one other × AreAlike false one.call other.call
IsSeen family p (why.HighHalf one other) =
    AreUnlike p one other × AreAlike true one.call other.call × (is_narrow one.call.arch ≡ true)
IsSeen family p (why.UnlikeMachines one other) = AreUnlike p one other × HaveOneName family one.call other.call
IsSeen family p (why.Conditions one) = IsAnswer p one
IsSeen family p (why.Unfollowed one) = IsAnswer p one
IsSeen family p why.TooLarge = ⊤
IsSeen family p why.OutOfMemory = ⊤
IsSeen family p other = ⊥

-- What a reason says of a filter's bytes for which nothing was drafted. They are refused, or something was seen of them.
abbrev pub IsUndrafted : Arch → List ℕ → Unsaid → Type 0
IsUndrafted native filter (why.View fault) = view_fault filter ≡ Some fault
IsUndrafted native filter (why.Kernel refused) = (view_fault filter ≡ None) × IsRefusal (insns_of filter) refused
IsUndrafted native filter other = IsSeen (family_of native) (insns_of filter) other

-- What a reason says of a filter's bytes and of the bundle that was drafted for them and judged, if one was.
abbrev pub IsUnrecovered : Arch → List ℕ → Unsaid → Option (List ℕ) → Type 0
IsUnrecovered native filter unsaid None = IsUndrafted native filter unsaid
IsUnrecovered native filter (why.Unlike found) (Some draft) = IsEvidenceFor native draft filter (Refuting found)
IsUnrecovered native filter (why.Undecided make_error) (Some draft) = IsJudgement native draft filter (Err make_error)
IsUnrecovered native filter other (Some draft) = ⊥

-- What a reason says of a filter's bytes. They are refused, or something was seen of them, or the bundle that was written for them was
-- judged.
abbrev pub IsUnsaid : Arch → List ℕ → Unsaid → Type 0
IsUnsaid native filter (why.View fault) = view_fault filter ≡ Some fault
IsUnsaid native filter (why.Kernel refused) = (view_fault filter ≡ None) × IsRefusal (insns_of filter) refused
IsUnsaid native filter (why.Unlike found) = (bundle : List ℕ) × IsEvidenceFor native bundle filter (Refuting found)
IsUnsaid native filter (why.Undecided make_error) = (bundle : List ℕ) × IsJudgement native bundle filter (Err make_error)
IsUnsaid native filter other = IsSeen (family_of native) (insns_of filter) other
