-- What groups of calls ask about.
use Rattle.std.specs.Prelude.{◌≡◌, ◌&&◌, ℕ, bit_and, codes, if◌then◌else◌, List, [], ◌∷◌, Option, Some, None}
use Rattle.std.specs.List.{flat_map}
use Rattle.std.specs.Str.{bytes_eq}
use Rattle.machines.specs.declared.arch.Arch.{Arch}
use Rattle.machines.specs.declared.arch.Arch.TheVariants.{X86_64, Aarch64, LinuxX86_64, LinuxX86, LinuxX32}
use Rattle.machines.specs.declared.arch.Arch.TheVariants.{LinuxAarch64, LinuxArm, LinuxRiscv64}
use Rattle.machines.specs.declared.arch.Arch.TheVariants.{LinuxPpc64le, LinuxLoongarch64, LinuxS390x, LinuxS390}
use Rattle.machines.specs.Arch.{is_big_endian, token_of}
use Rattle.call_tables.specs.Tables.{table_of}
use Rattle.call_tables.specs.Table.{number_in}
use Rattle.profile.specs.Rule.{argument_of}
use Rattle.differ.specs.OnCall.{IsOfCall}
use Rattle.review.specs.Groups.{PartEntry, RowEntry}
use Rattle.review.specs.declared.asked.Asked.{Asked}

-- ---- which calls

-- the machine of the whole tables that has the same calls: the chosen lists leave most of these out
abbrev pub whole : Arch → Arch
whole X86_64 = LinuxX86_64
whole Aarch64 = LinuxAarch64
whole LinuxX86_64 = LinuxX86_64
whole LinuxX32 = LinuxX32
whole LinuxX86 = LinuxX86
whole LinuxAarch64 = LinuxAarch64
whole LinuxArm = LinuxArm
whole LinuxRiscv64 = LinuxRiscv64
whole LinuxPpc64le = LinuxPpc64le
whole LinuxLoongarch64 = LinuxLoongarch64
whole LinuxS390x = LinuxS390x
whole LinuxS390 = LinuxS390

-- a call of a machine by its number, if it has one
abbrev pub asked_with : PartEntry → Arch → Option ℕ → List Asked
asked_with part arch None = []
asked_with part arch (Some nr) = record { arch = arch; nr = nr; part = part } ∷ []

-- The part of a call on a machine. The flags of clone, the first argument elsewhere, are the second one on s390x and s390
-- (clone(2), C library/kernel differences).
abbrev pub part_on : Arch → List ℕ → PartEntry → PartEntry
part_on arch name part = if is_big_endian arch && bytes_eq name (codes "clone") then (part.0, 1, part.2, part.3) else part

abbrev pub asked_on : PartEntry → List ℕ → Arch → List Asked
asked_on part name arch = asked_with (part_on arch name part) arch (number_in (table_of (whole arch)) name)

-- a call of machines
abbrev pub asked_by : List Arch → PartEntry → List ℕ → List Asked
asked_by machines part name = flat_map (asked_on part name) machines

-- the calls of a row, and of rows
abbrev pub asked_in : List Arch → RowEntry → List Asked
asked_in machines row = flat_map (λ name. asked_by machines row.1 name.now) row.0.now

abbrev pub asked_of : List Arch → List RowEntry → List Asked
asked_of machines rows = flat_map (asked_in machines) rows

-- ---- which records

-- the argument has these bits under the mask; under the mask 0 each has
abbrev pub HasPart : PartEntry → List ℕ → Type 0
HasPart part r = bit_and (argument_of r part.1) part.2 ≡ part.3

-- the record is one of the call, and of the part that is asked about
pub record IsAsked (asked : Asked) (r : List ℕ) : Type 0 where
  pub of_call : IsOfCall (token_of asked.arch) asked.nr r
  pub has_part : HasPart asked.part r
