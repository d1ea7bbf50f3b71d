-- The call with which a container begins, and what the kernel has after two changes of one container.
use Rattle.std.proofs.Common.{◌≡◌, ℕ, Bool, true, false, List, Option, None, Some, refl, if◌then◌else◌, sym, ap, ◌∙◌}
use Rattle.std.specs.Option.{option_map}
use Rattle.std.specs.Cmp.Lexicographic.{nat_list_eq_equiv}
use Rattle.machines.specs.declared.arch.Arch.{Arch}
use Rattle.machines.specs.declared.arch.Arch.TheVariants.{X86_64, Aarch64, LinuxX86_64, LinuxX86, LinuxX32, LinuxAarch64, LinuxArm, LinuxRiscv64, LinuxPpc64le, LinuxLoongarch64, LinuxS390x, LinuxS390}
use Rattle.call_tables.specs.Tables.{first_rows, second_rows, third_rows, fourth_rows, x86_64_table, aarch64_table}
use Rattle.call_tables.specs.Tables.{linux_x86_64_table, linux_x86_table, linux_x32_table, linux_aarch64_table, linux_arm_table, linux_riscv64_table, linux_ppc64le_table, linux_loongarch64_table, linux_s390x_table, linux_s390_table}
use Rattle.call_record.specs.declared.layout.Record.{Record}
use Rattle.call_record.specs.declared.effect.Ends.{Ends}
use Rattle.call_record.specs.declared.effect.Ends.TheVariants.{Nothing, Task, Group}
use Rattle.call_record.specs.Ends.{ends_of}
use Rattle.cert_check.specs.declared.checked.Checked.{Checked}
use Rattle.cert_check.specs.Checked.{profile_of}
use Rattle.processes.specs.Attached.{nothing_beside}
use Rattle.processes.specs.Attached.Attached.{NoBytes}
use Rattle.processes.specs.Begin.{execve_of}
use Rattle.processes.specs.Calls.{row_of}
use Rattle.processes.specs.First.{begun_with, by_program}
use Rattle.processes.specs.Kernel.{Answer, carried_out, ended_by_verdict, judged_by, signalled, verdict_on, withheld}
use Rattle.processes.specs.Tasks.{Judge, Processes, admitted, first_task, lives}
use Rattle.processes.specs.Views.{Containers, SetAt, present_in, same_text}
use Rattle.processes.specs.declared.outcome.Outcome.{Outcome}
use Rattle.processes.specs.declared.outcome.Outcome.TheVariants.{Done, Denied}
use Rattle.processes.specs.declared.row.Row.{Row}
use Rattle.processes.specs.declared.row.Row.TheVariants.{Execve}
use Rattle.lifecycle.specs.Steps.{first_call, left_after}

-- what an id gets is what the kernel has for it
pub own_id : (old new : Containers) (id : List ℕ) (v : Option Processes) → SetAt old new id v → new id ≡ v
own_id old new id v set = set id ∙ ap (λ b. if b then v else old id) (nat_list_eq_equiv.refl id)

twice_by : (b : Bool) (v w x y : Option Processes) → x ≡ (if b then v else y) → (if b then w else x) ≡ (if b then w else y)
twice_by true v w x y h = refl
twice_by false v w x y h = h

-- of two changes of one container the second counts
pub set_twice : (k l m : Containers) (id : List ℕ) (v w : Option Processes) → SetAt k l id v → SetAt l m id w → SetAt k m id w
set_twice k l m id v w first second = λ q. second q ∙ twice_by (same_text id q) v w (l q) (k q) (first q)

-- the call is an execve

x86_64-first : row_of X86_64 (execve_of X86_64) ≡ Execve
unfolding x86_64_table
x86_64-first = refl

aarch64-first : row_of Aarch64 (execve_of Aarch64) ≡ Execve
unfolding aarch64_table
aarch64-first = refl

linux_x86_64-first : row_of LinuxX86_64 (execve_of LinuxX86_64) ≡ Execve
unfolding linux_x86_64_table first_rows second_rows third_rows fourth_rows
linux_x86_64-first = refl

linux_x86-first : row_of LinuxX86 (execve_of LinuxX86) ≡ Execve
unfolding linux_x86_table first_rows second_rows third_rows fourth_rows
linux_x86-first = refl

linux_x32-first : row_of LinuxX32 (execve_of LinuxX32) ≡ Execve
unfolding linux_x32_table first_rows second_rows third_rows fourth_rows
linux_x32-first = refl

linux_aarch64-first : row_of LinuxAarch64 (execve_of LinuxAarch64) ≡ Execve
unfolding linux_aarch64_table first_rows second_rows third_rows fourth_rows
linux_aarch64-first = refl

linux_arm-first : row_of LinuxArm (execve_of LinuxArm) ≡ Execve
unfolding linux_arm_table first_rows second_rows third_rows fourth_rows
linux_arm-first = refl

linux_riscv64-first : row_of LinuxRiscv64 (execve_of LinuxRiscv64) ≡ Execve
unfolding linux_riscv64_table first_rows second_rows third_rows fourth_rows
linux_riscv64-first = refl

linux_ppc64le-first : row_of LinuxPpc64le (execve_of LinuxPpc64le) ≡ Execve
unfolding linux_ppc64le_table first_rows second_rows third_rows fourth_rows
linux_ppc64le-first = refl

linux_loongarch64-first : row_of LinuxLoongarch64 (execve_of LinuxLoongarch64) ≡ Execve
unfolding linux_loongarch64_table first_rows second_rows third_rows fourth_rows
linux_loongarch64-first = refl

linux_s390x-first : row_of LinuxS390x (execve_of LinuxS390x) ≡ Execve
unfolding linux_s390x_table first_rows second_rows third_rows fourth_rows
linux_s390x-first = refl

linux_s390-first : row_of LinuxS390 (execve_of LinuxS390) ≡ Execve
unfolding linux_s390_table first_rows second_rows third_rows fourth_rows
linux_s390-first = refl

pub first_row : (native : Arch) → row_of native (execve_of native) ≡ Execve
first_row X86_64 = x86_64-first
first_row Aarch64 = aarch64-first
first_row LinuxX86_64 = linux_x86_64-first
first_row LinuxX86 = linux_x86-first
first_row LinuxX32 = linux_x32-first
first_row LinuxAarch64 = linux_aarch64-first
first_row LinuxArm = linux_arm-first
first_row LinuxRiscv64 = linux_riscv64-first
first_row LinuxPpc64le = linux_ppc64le-first
first_row LinuxLoongarch64 = linux_loongarch64-first
first_row LinuxS390x = linux_s390x-first
first_row LinuxS390 = linux_s390-first

ends_by : (native : Arch) (first : Judge) (e : Ends) → let ps = ended_by_verdict e (first_task first) (admitted native first) in
    lives ps ≡ false → signalled 9 ps ≡ ps
ends_by native first Nothing h = let bad : true ≡ false = h in absurd (cc)
ends_by native first Task h = refl
ends_by native first Group h = refl

through_by : (native : Arch) (first : Judge) (word v : ℕ) (o : Option Outcome)
    → let p = judged_by o word (first_task first) (execve_of native) nothing_beside (admitted native first) in
    p.0 ≡ Denied v → lives p.1 ≡ false → signalled 9 p.1 ≡ p.1
through_by native first word v None h =
    let bad : Done 0 ≡ Denied v = sym (ap (λ (row : Row). (carried_out row (first_task first) (execve_of native) NoBytes (admitted native first)).0) (first_row native)) ∙ h in
    absurd (cc)
through_by native first word v (Some outcome) h = ends_by native first (ends_of word)

-- where it is denied and its task has ended by that, there is nothing left to end
pub denied_ends : (native : Arch) (first : Judge) (v : ℕ) → (first_call native first).0 ≡ Denied v
    → lives (first_call native first).1 ≡ false
    → signalled 9 (first_call native first).1 ≡ (first_call native first).1
denied_ends native first v =
    let call = execve_of native in
    let word = verdict_on call (first_task first) in
    through_by native first word v (withheld word call None (first_task first))

-- a container that the kernel gets, and what its first call is answered and leaves
pub began : (k l m : Containers) (id : List ℕ) (checked : Checked) (r : Record) (o : Outcome) → SetAt k l id (Some (begun_with checked))
    → r ≡ execve_of (profile_of checked).native → o ≡ (present_in 1 r nothing_beside (l id)).0 → SetAt l m id (present_in 1 r nothing_beside (l id)).1
    → let p = first_call (profile_of checked).native (by_program checked) in (o ≡ p.0) × SetAt k m id (Some p.1)
began k l m id checked r o first is answer second =
    let p = first_call (profile_of checked).native (by_program checked) in
    let both : present_in 1 r nothing_beside (l id) ≡ (p.0, Some p.1) =
    ap (λ (x : Record). present_in 1 x nothing_beside (l id)) is
    ∙ ap (present_in 1 (execve_of (profile_of checked).native) nothing_beside) (own_id k l id (Some (begun_with checked)) first) in (
      answer ∙ ap (λ (x : Outcome × Option Processes). x.0) both,
      set_twice k l m id (Some (begun_with checked)) (Some p.1) first (λ q. second q
          ∙ ap (λ (x : Outcome × Option Processes). if same_text id q then x.1 else l q) both),
    )

-- and what is left of it
pub left : (k m n : Containers) (id : List ℕ) (o : Outcome) (p : Answer) → o ≡ p.0 → SetAt k m id (Some p.1)
    → SetAt m n id (option_map (left_after o) (m id))
    → SetAt k n id (Some (left_after p.0 p.1))
left k m n id o p is first second =
    let value : option_map (left_after o) (m id) ≡ Some (left_after p.0 p.1) =
    ap (λ (x : Outcome). option_map (left_after x) (m id)) is ∙ ap (option_map (left_after p.0)) (own_id k m id (Some p.1) first) in
    set_twice k m n id (Some p.1) (Some (left_after p.0 p.1)) first (λ q. second q
    ∙ ap (λ (v : Option Processes). if same_text id q then v else m q) value)
