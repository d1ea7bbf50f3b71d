-- What commands answer.
use Rattle.std.specs.Prelude.{ℕ, ◌≡◌, ◌≢◌, ◌⊎◌, List, ◌++◌, None, length, codes}
use Rattle.std.specs.Str.{IsUtf8}
use denote.Ref.{Bor}
use Rattle.machines.specs.declared.arch.Arch.{Arch}
use Rattle.call_record.specs.declared.layout.Record.{Record}
use Rattle.call_record.specs.Record.{words}
use Rattle.call_record.specs.Words.{words_of}
use Rattle.bpf_insn.specs.Bytes.{insns_of, view_fault}
use Rattle.bpf_asm.specs.Fault.{text_of as asm_text}
use Rattle.bpf_asm.specs.Faults.{Explains as IsListingFault}
use Rattle.bpf_asm.specs.Listing.{listing}
use Rattle.bpf_asm.specs.declared.fault.AsmError.{AsmError}
use Rattle.bpf_asm.specs.declared.fault.AsmError.TheVariants.{OutOfMemory as NoMemory}
use Rattle.wording.specs.Told.{RefusesBundle, RefusesBy, TellsText}
use Rattle.wording.specs.declared.told.End.TheVariants.{Done}
use Rattle.wording.specs.declared.told.Told.{Told}
use Rattle.call_words.specs.Wrong.{TellsWrong}
use Rattle.explain.specs.Asked.{IsCall, IsAsked}
use Rattle.explain.specs.Explanation.{Explains}
use Rattle.explain.specs.Refused.{Refuses, TellsWhyNot}

-- there is no record that is asked for, and the lines are told that say so and why
pub record RefusesCall (native : Arch) (Asks : Record → Type 0) (TellsWhy : List ℕ → Type 0) (told : Told) : Type 0 where
  pub none : (r : Record) → Asks r → ⊥
  pub refuses : Refuses native TellsWhy told

-- it was done: a text explains what the bundle says of the record that the command line arguments ask for
pub record ExplainsCall (native : Arch) (bundle : List ℕ) (given : List (Bor (List ℕ))) (told : Told) : Type 0 where
  pub call : Record
  pub is_call : IsCall native given call
  pub explains : Explains native bundle call told.bytes.items
  pub end : told.end ≡ Done

abbrev pub IsExplained : Arch → List ℕ → List (Bor (List ℕ)) → Told → Type 0
IsExplained native bundle given told =
    RefusesCall native (IsCall native given) (TellsWhyNot native given) told
    ⊎ (RefusesBundle native bundle told ⊎ ExplainsCall native bundle given told)

-- it was done: the 64 bytes of the record that the command line arguments ask for
pub record TellsRecord (native : Arch) (given : List (Bor (List ℕ))) (told : Told) : Type 0 where
  pub call : Record
  pub is_asked : IsAsked native given call
  pub whole : length told.bytes.items ≡ 64
  pub same : words_of told.bytes.items ≡ words call
  pub end : told.end ≡ Done

abbrev pub IsRecorded : Arch → List (Bor (List ℕ)) → Told → Type 0
IsRecorded native given told = RefusesCall native (IsAsked native given) (TellsWrong native given) told ⊎ TellsRecord native given told

-- it was done: the bytes of a program whose listing the text is
pub record TellsProgram (text : List ℕ) (told : Told) : Type 0 where
  pub program : view_fault told.bytes.items ≡ None
  pub listed : listing (insns_of told.bytes.items) ≡ text
  pub end : told.end ≡ Done

-- the text has a fault, and the line that names it is told
pub record RefusesListing (text : List ℕ) (told : Told) : Type 0 where
  pub error : AsmError
  pub is_fault : error ≢ NoMemory
  pub stands : IsListingFault text error
  pub tells : RefusesBy (codes "refused listing " ++ asm_text error) told

-- the bytes are no text in UTF-8, and the line that says so is told
pub record RefusesBytes (text : List ℕ) (told : Told) : Type 0 where
  pub no_text : IsUtf8 text → ⊥
  pub tells : RefusesBy (codes "refused listing, which is no UTF-8") told

abbrev pub IsAssembled : List ℕ → Told → Type 0
IsAssembled text told = RefusesBytes text told ⊎ (RefusesListing text told ⊎ TellsProgram text told)

-- the edition of the program, what it reads, and with what it was proved
abbrev pub IsVersion : Told → Type 0
IsVersion told =
    TellsText (codes "ccell 0.1.0\nreads OCI Runtime Specification 1.0.2, 1.1.0, 1.2.0 and 1.2.1\n"
    ++ codes "calls of Linux 7.3 on x86-64, x86, x32, AArch64, ARM, riscv64, ppc64le, loongarch64, s390x and s390\n"
    ++ codes "proved and built with rattle-kit-13f logic dac8208d650f15bf; docs/PROMISES.md says what is proved\n") told
