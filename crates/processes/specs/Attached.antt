-- What a task attaches to a call, judged: the kernel's check of a program as a test.
use Rattle.std.specs.Prelude.{ℕ, zero, suc, ◌↔◌, ◌+◌, ◌%◌, ◌==◌, ◌&&◌, ◌||◌, Bool, true, false, not, nat_lt, nat_le, List, [], ◌∷◌, length}
use Rattle.std.specs.Prelude.{Option, Some, None, is_none, if◌then◌else◌, IsTrue}
use Rattle.std.specs.List.{list_any}
use Rattle.bpf_insn.specs.declared.code.Operation.{Operation}
use Rattle.bpf_insn.specs.declared.code.Operation.TheVariants.{LoadWord, LoadScratch, LoadScratchX, Store, StoreX, ReturnK, ReturnA}
use Rattle.bpf_insn.specs.declared.code.Operation.TheVariants.{Jump, Branch, ShiftLeft, ShiftRight}
use Rattle.bpf_insn.specs.declared.instruction.Insn.{Insn}
use Rattle.bpf_insn.specs.Code.{operation_of}
use Rattle.bpf_insn.specs.Bytes.{insns_of, max_insns, view_fault}
use Rattle.kernel_check.specs.Accepted.{IsAccepted}
use Rattle.processes.specs.declared.outcome.Response.{Response}

-- no cause but Scratch stands where this operation is at position i of n
abbrev pub is_sound : Option Operation → ℕ → ℕ → Insn → Bool
is_sound None n i insn = false
is_sound (Some ReturnK) n i insn = true
is_sound (Some ReturnA) n i insn = true
is_sound (Some LoadWord) n i insn = (nat_lt insn.k 64 && (insn.k % 4 == 0)) && nat_lt (i + 1) n
is_sound (Some LoadScratch) n i insn = nat_lt insn.k 16 && nat_lt (i + 1) n
is_sound (Some LoadScratchX) n i insn = nat_lt insn.k 16 && nat_lt (i + 1) n
is_sound (Some Store) n i insn = nat_lt insn.k 16 && nat_lt (i + 1) n
is_sound (Some StoreX) n i insn = nat_lt insn.k 16 && nat_lt (i + 1) n
is_sound (Some ShiftLeft) n i insn = nat_lt insn.k 32 && nat_lt (i + 1) n
is_sound (Some ShiftRight) n i insn = nat_lt insn.k 32 && nat_lt (i + 1) n
is_sound (Some Jump) n i insn = nat_lt (i + 1 + insn.k) n
is_sound (Some (Branch test c)) n i insn = nat_lt (i + 1 + insn.jt) n && nat_lt (i + 1 + insn.jf) n
is_sound (Some op) n i insn = nat_lt (i + 1) n

-- none of these stands from position i of n on
abbrev pub is_sound_from : ℕ → ℕ → List Insn → Bool
is_sound_from n i [] = true
is_sound_from n i (insn ∷ p) = is_sound (operation_of insn.code) n i insn && is_sound_from n (i + 1) p

-- the scratch word is among those that were written
abbrev pub is_written : ℕ → List ℕ → Bool
is_written k written = list_any (λ w. w == k) written

-- an instruction where these scratch words were written, or a path on from it, reads another one; `rest` says this of
-- the instructions after it, from the one after so many of them on
abbrev pub reads_on : Option Operation → Insn → List ℕ → (ℕ → List ℕ → Bool) → Bool
reads_on (Some LoadScratch) insn written rest = not (is_written insn.k written) || rest 0 written
reads_on (Some LoadScratchX) insn written rest = not (is_written insn.k written) || rest 0 written
reads_on (Some Store) insn written rest = rest 0 (insn.k ∷ written)
reads_on (Some StoreX) insn written rest = rest 0 (insn.k ∷ written)
reads_on (Some ReturnK) insn written rest = false
reads_on (Some ReturnA) insn written rest = false
reads_on (Some Jump) insn written rest = rest insn.k written
reads_on (Some (Branch test c)) insn written rest = rest insn.jt written || rest insn.jf written
reads_on _ insn written rest = rest 0 written

-- Some path through the instructions that are left, from a position of them on, reads a scratch word. Neither the path
-- nor what came before it has written the word.
abbrev pub reads_unwritten : List Insn → ℕ → List ℕ → Bool
reads_unwritten [] pc written = false
reads_unwritten (insn ∷ p) (suc pc) written = reads_unwritten p pc written
reads_unwritten (insn ∷ p) zero written =
    reads_on (operation_of insn.code) insn written (λ skip all. reads_unwritten p skip all)

-- the kernel accepts the program
unfoldable pub is_accepted : List Insn → Bool
is_accepted p =
    (nat_le 1 (length p) && nat_le (length p) max_insns) && (is_sound_from (length p) 0 p && not (reads_unwritten p 0 []))

-- the bytes are a program that the kernel accepts
abbrev pub is_filter : List ℕ → Bool
is_filter bytes = is_none (view_fault bytes) && is_accepted (insns_of bytes)

-- what a task attaches: nothing, bytes that the kernel refuses, or a program that it accepts
pub data Attached : Type 0 where
  NoBytes : Attached
  Refused : Attached
  Taken : (program : List Insn) → Attached

abbrev pub attached_of : Option (List ℕ) → Attached
attached_of None = NoBytes
attached_of (Some bytes) = if is_filter bytes then Taken (insns_of bytes) else Refused

abbrev pub is_taken : Attached → Bool
is_taken NoBytes = false
is_taken Refused = false
is_taken (Taken program) = true

-- what stands beside a call: what the task attaches to it, and what a listener responds that is told of it, if one does
pub record Beside : Type 0 where
  pub attached : Attached
  pub response : Option Response

abbrev pub beside_of : Option (List ℕ) → Option Response → Beside
beside_of bytes response = record { attached = attached_of bytes; response = response }

abbrev pub nothing_beside : Beside
nothing_beside = record { attached = NoBytes; response = None }

-- the test is true exactly where the kernel accepts the program
abbrev pub TestIsRight : Type 0
TestIsRight = (p : List Insn) → IsTrue (is_accepted p) ↔ IsAccepted p
