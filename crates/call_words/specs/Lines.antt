-- The lines that tell the names of the numbers in conditions.
use Rattle.std.specs.Prelude.{ℕ, ◌==◌, ◌||◌, bit_and, Bool, true, false, if◌then◌else◌, List, [], ◌∷◌, ◌++◌, Option, Some, None, codes}
use Rattle.std.specs.Fmt.{decimal}
use Rattle.std.specs.List.{flat_map, list_any}
use Rattle.std.specs.Str.{bytes_eq}
use Rattle.machines.specs.declared.arch.Arch.{Arch}
use Rattle.machines.specs.declared.arch.Arch.TheVariants.{X86_64, Aarch64, LinuxX86_64, LinuxX86, LinuxX32}
use Rattle.machines.specs.declared.arch.Arch.TheVariants.{LinuxAarch64, LinuxArm, LinuxRiscv64}
use Rattle.machines.specs.declared.arch.Arch.TheVariants.{LinuxPpc64le, LinuxLoongarch64, LinuxS390x, LinuxS390}
use Rattle.call_tables.specs.Tables.{table_of}
use Rattle.call_tables.specs.Table.{name_in}
use Rattle.profile.specs.declared.conditions.Cond.{Cond}
use Rattle.profile.specs.declared.rules.Rule.{Rule}
use Rattle.wording.specs.Phrases.{hexadecimal, is_masked}
use Rattle.call_words.specs.declared.constant_names.kinds.Kind.{Kind}
use Rattle.call_words.specs.Kinds.{are_bits, kind_of}
use Rattle.call_words.specs.Named.{name_of}

-- the machines of Linux, but ppc64le, whose constants have other numbers, and s390x with s390, whose clone has its arguments in
-- another order
abbrev pub has_names : Arch → Bool
has_names X86_64 = false
has_names Aarch64 = false
has_names LinuxX86_64 = true
has_names LinuxX86 = true
has_names LinuxX32 = true
has_names LinuxAarch64 = true
has_names LinuxArm = true
has_names LinuxRiscv64 = true
has_names LinuxPpc64le = false
has_names LinuxLoongarch64 = true
has_names LinuxS390x = false
has_names LinuxS390 = false

-- the line of a number that a call's argument is compared with
abbrev pub line : List ℕ → ℕ → List ℕ → List ℕ → List ℕ
line call argument number name =
    codes "in " ++ call ++ codes " arg" ++ decimal argument ++ codes " " ++ number ++ codes " is " ++ name ++ codes "\n"

-- the same, if the number has a name
abbrev pub line_of : List ℕ → ℕ → List ℕ → Option (List ℕ) → List (List ℕ)
line_of call argument number None = []
line_of call argument number (Some name) = line call argument number name ∷ []

-- the line of a mask, or of the bits under it, unless it is 0
abbrev pub masked_line : List ℕ → ℕ → Kind → ℕ → List (List ℕ)
masked_line call argument kind n = if n == 0 then [] else line_of call argument (hexadecimal n) (name_of kind n)

-- only the mask of a kind of bits has a name
abbrev pub mask_line : List ℕ → ℕ → Kind → ℕ → List (List ℕ)
mask_line call argument kind mask = if are_bits kind then masked_line call argument kind mask else []

-- all bits of an int
abbrev pub int_bits : ℕ
int_bits = 0xffff_ffff

-- bits under a mask: of a kind that is not of bits they have a name if all bits of an int are under it
abbrev pub under_line : List ℕ → ℕ → Kind → ℕ → ℕ → List (List ℕ)
under_line call argument kind mask n =
    if are_bits kind || (bit_and mask int_bits == int_bits) then masked_line call argument kind n else []

-- the lines of a condition: of its number, or of its mask and the bits under it
abbrev pub condition_lines : List ℕ → Cond → Option Kind → List (List ℕ)
condition_lines call c None = []
condition_lines call c (Some kind) =
    if is_masked c.op
    then mask_line call c.index kind c.value ++ under_line call c.index kind c.value c.datum
    else line_of call c.index (decimal c.value) (name_of kind c.value)

-- the lines of conditions on a call's arguments
abbrev pub call_lines : Option (List ℕ) → List Cond → List (List ℕ)
call_lines None conds = []
call_lines (Some call) conds = flat_map (λ c. condition_lines call c (kind_of call c.index)) conds

abbrev pub rule_lines : Rule → List (List ℕ)
rule_lines rule = if has_names rule.arch then call_lines (name_in (table_of rule.arch) rule.nr) rule.conds.items else []

abbrev pub is_among : List (List ℕ) → List ℕ → Bool
is_among lines line = list_any (λ other. bytes_eq other line) lines

-- lines behind others: each that is none of those before it
abbrev pub each_once : List (List ℕ) → List (List ℕ) → List ℕ
each_once before [] = []
each_once before (line ∷ lines) = (if is_among before line then [] else line) ++ each_once (before ++ line ∷ []) lines

-- the lines of a profile's rules, in their order, each once
abbrev pub text_of : List Rule → List ℕ
text_of rules = each_once [] (flat_map rule_lines rules)
