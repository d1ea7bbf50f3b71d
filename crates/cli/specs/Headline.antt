-- THE HEADLINE. Suppose that the checker says yes to a profile, a filter and a certificate. Then the kernel accepts the filter,
-- and its verdict on every call record is the one that the profile says. So this holds for every list of lifecycle commands and
-- process events. The replies are those of the kernel machine whose first judge for each container is its profile. No call that
-- the profile refuses is carried out. By a verdict that is no stricter than NOTIFY it refuses none that a listener continues.
--
-- It begins at the rules of the checker, and at what calls tell. `IsFinding`, of Yes, is told by `check_line` where it writes that line,
-- and by `certify_bundle` where it writes a certificate; `IsRun`, by programs, by `Runtime::run`; `HasAnswered` by `run_bundles` where it
-- answers true.
use Rattle.std.specs.Prelude.{ℕ, ◌≡◌, ◌≢◌, ◌+◌, ◌<◌, ◌++◌, List, Option, Some, None, length, slice_get}
use Rattle.machines.specs.declared.arch.Arch.{Arch}
use Rattle.bpf_insn.specs.declared.instruction.Insn.{Insn}
use Rattle.bpf_insn.specs.Bytes.{insns_of, view_fault}
use Rattle.kernel_check.specs.Accepted.{IsAccepted}
use Rattle.profile.specs.Policy.{Policy}
use Rattle.cert_check.specs.declared.checked.Checked.{Checked}
use Rattle.cert_check.specs.declared.fault.CheckError.{CheckError}
use Rattle.cert_check.specs.Certified.{Kept}
use Rattle.cert_check.specs.Checked.{profile_of, program_of}
use Rattle.cert_check.specs.Right.{IsRight}
use Rattle.processes.specs.First.{by_profile, by_program}
use Rattle.lifecycle.specs.declared.command.Reply.{Reply}
use Rattle.lifecycle.specs.Commands.{Command}
use Rattle.lifecycle.specs.Promises.{RefusedIsNotCarriedOut}
use Rattle.lifecycle.specs.Runs.{IsRun}
use Rattle.lifecycle.specs.Worlds.{World}
use Rattle.session.specs.declared.bundles.Bundles.{Bundles}
use Rattle.session.specs.Answer.{answer_of}
use Rattle.session.specs.Commands.{first_called, named}
use Rattle.session.specs.Laws.{IsScript}
use Rattle.maker.specs.Finding.{IsBundle, IsFinding}
use Rattle.maker.specs.declared.check.Finding.TheVariants.{Yes}
use Rattle.cli.specs.Running.{HasAnswered, name_of}

-- The bundle means the profile, and the kernel accepts the filter. On every call record its verdict is the one that the profile says,
-- and no other.
pub record IsRightFor (native : Arch) (bundle : List ℕ) (policy : Policy) (p : List Insn) : Type 0 where
  pub means : IsBundle native bundle policy
  pub accepted : IsAccepted p
  pub verdict : IsRight policy p

-- so of the bytes of a filter, which are whole instructions
pub record IsRightFilter (native : Arch) (bundle : List ℕ) (policy : Policy) (filter : List ℕ) : Type 0 where
  pub whole : view_fault filter ≡ None
  pub right : IsRightFor native bundle policy (insns_of filter)

-- the name is `b` and the number of a text, counted from 1, and the checked filter is right for this very text
pub record IsFilterOf (native : Arch) (texts : List (List ℕ)) (name : List ℕ) (given : Checked) : Type 0 where
  pub k : ℕ
  pub text : List ℕ
  pub name_is : name ≡ name_of (k + 1)
  pub at : slice_get texts k ≡ Some text
  pub right : IsRightFor native text (profile_of given) (program_of given)

-- which checked filter a name gives: none where it is the name of no text
abbrev pub NameGives : Arch → List (List ℕ) → List ℕ → Option Checked → Type 0
NameGives native texts name (Some given) = IsFilterOf native texts name given
NameGives native texts name None = (k : ℕ) → k < length texts → name ≢ name_of (k + 1)

-- The answer to a script over the texts of bundles. Each line of the script is a command or none, in which a name gives the
-- filter of its text. To each line the answer has a line. This says that it is no command. Or it is the reply of the machine
-- whose first judge for each container is the profile that the text means.
pub record IsAnswerTo (native : Arch) (texts : List (List ℕ)) (script answer : List ℕ) : Type 0 where
  pub bundles : Bundles
  pub native_is : bundles.native ≡ native
  pub names : (name : List ℕ) → NameGives native texts name (first_called name (named bundles))
  pub commands : List (Option Command)
  pub lines : IsScript bundles script commands
  pub replies : answer ≡ answer_of by_profile commands

pub record Headline : Type 0 where
  -- Where a bundle means a profile and no rule that the checker looks for is broken, the filter is right for that profile.
  pub kept : (native : Arch) (bundle filter cert : List ℕ) (policy : Policy) → IsBundle native bundle policy
      → ((e : CheckError) → Kept policy filter cert e) → IsRightFilter native bundle policy filter
  -- Where the checker says yes, the filter is right for the profile that the bundle means.
  pub yes : (native : Arch) (bundle filter cert : List ℕ) → IsFinding native bundle filter cert Yes
      → (policy : Policy) × IsRightFilter native bundle policy filter
  -- Whatever is commanded, with each profile in the place of its filter it is the same run.
  pub machine : (commands : List Command) (old new : World) (replies : List Reply) → IsRun by_program commands old replies new
      → IsRun by_profile commands old replies new
  -- Whatever is commanded, a call that a container's profile refuses is not carried out, unless a listener may continue it.
  pub refused : RefusedIsNotCarriedOut
  -- What `ccell run` writes of a script is the answer to it.
  pub run : (native : Arch) (texts : List (List ℕ)) (script before after : List ℕ) (left : Option (List ℕ))
      → HasAnswered native texts (Some script) left (Some before) (Some after)
      → (answer : List ℕ) × (after ≡ before ++ answer) × IsAnswerTo native texts script answer
