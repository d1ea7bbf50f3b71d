use Rattle.processes.proofs.NumberLaws.{x86_64_numbers, aarch64_numbers, linux_x86_64_numbers, linux_x86_numbers, linux_x32_numbers}
use Rattle.processes.proofs.NumberLaws.{linux_aarch64_numbers, linux_arm_numbers, linux_riscv64_numbers, linux_ppc64le_numbers, linux_loongarch64_numbers, linux_s390x_numbers, linux_s390_numbers}
use Rattle.processes.proofs.calls.numbers_of.Goals as goal

pub returns-in-X86_64 : goal.returns-in-X86_64
returns-in-X86_64 c = rw c.in-X86_64.is x86_64_numbers

pub returns-in-Aarch64 : goal.returns-in-Aarch64
returns-in-Aarch64 c = rw c.in-Aarch64.is aarch64_numbers

pub returns-in-LinuxX86_64 : goal.returns-in-LinuxX86_64
returns-in-LinuxX86_64 c = rw c.in-LinuxX86_64.is linux_x86_64_numbers

pub returns-in-LinuxX32 : goal.returns-in-LinuxX32
returns-in-LinuxX32 c = rw c.in-LinuxX32.is linux_x32_numbers

pub returns-in-LinuxX86 : goal.returns-in-LinuxX86
returns-in-LinuxX86 c = rw c.in-LinuxX86.is linux_x86_numbers

pub returns-in-LinuxAarch64 : goal.returns-in-LinuxAarch64
returns-in-LinuxAarch64 c = rw c.in-LinuxAarch64.is linux_aarch64_numbers

pub returns-in-LinuxArm : goal.returns-in-LinuxArm
returns-in-LinuxArm c = rw c.in-LinuxArm.is linux_arm_numbers

pub returns-in-LinuxRiscv64 : goal.returns-in-LinuxRiscv64
returns-in-LinuxRiscv64 c = rw c.in-LinuxRiscv64.is linux_riscv64_numbers

pub returns-in-LinuxPpc64le : goal.returns-in-LinuxPpc64le
returns-in-LinuxPpc64le c = rw c.in-LinuxPpc64le.is linux_ppc64le_numbers

pub returns-in-LinuxLoongarch64 : goal.returns-in-LinuxLoongarch64
returns-in-LinuxLoongarch64 c = rw c.in-LinuxLoongarch64.is linux_loongarch64_numbers

pub returns-in-LinuxS390x : goal.returns-in-LinuxS390x
returns-in-LinuxS390x c = rw c.in-LinuxS390x.is linux_s390x_numbers

pub returns-in-LinuxS390 : goal.returns-in-LinuxS390
returns-in-LinuxS390 c = rw c.in-LinuxS390.is linux_s390_numbers
