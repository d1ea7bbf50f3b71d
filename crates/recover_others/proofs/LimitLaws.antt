-- How long the programs are, and that a limit of fewer instructions is one of more.
use Rattle.std.proofs.Common.{◌≡◌, ℕ, ◌+◌, ◌*◌, ◌≤◌, ◌-◌, List, [], ◌∷◌, ◌++◌, drop, take, length, length-append, sym, ap, ◌∙◌, arith}
use Rattle.std.specs.Prelude.{slice_index_or}
use Rattle.std.proofs.Math.Seq.{take-length}
use Rattle.machines.specs.declared.arch.Arch.TheVariants.{X86_64}
use Rattle.std.proofs.lemmas.List.{length-drop, length-take-le}
use Rattle.std.specs.Prelude.{Result, Ok, Err, IfErr}
use Rattle.machines.specs.declared.arch.Arch.{Arch}
use Rattle.machines.specs.declared.numbers.Numbers.{Numbers}
use Rattle.machines.specs.Arch.{token_of}
use Rattle.machines.specs.Numbers.{own_numbers}
use Rattle.bpf_insn.specs.declared.instruction.Insn.{Insn}
use Rattle.flatten.specs.inner.Turns.{insn}
use Rattle.bpf_insn.specs.Bytes.{insns_of}
use Rattle.recover_others.specs.Reason.{IsReason, made_length, ranges}
use Rattle.recover_others.specs.inner.Guard.{base, empty_a, fronts, guard, turned}
use Rattle.recover_others.specs.inner.Limit.{IsLimit}
use Rattle.recover_others.specs.declared.other_calls.unguarded.Unguarded.{Unguarded}
use Rattle.recover_others.specs.declared.other_calls.unguarded.Unguarded.TheVariants.{View, Kernel, Unplain, TooLong, OutOfMemory}

pub fronts_length : (token : ℕ) (ns : List Numbers) (tail : ℕ) (p : List Insn) → length (fronts token ns tail p) ≡ length p + 6 * length ns
fronts_length token [] tail p = omega (arith)
fronts_length token (n ∷ ns) tail p =
    let h = fronts_length token ns tail p in
    omega (arith, h)

pub guard_length : (ms : List Arch) (tail : ℕ) (p : List Insn) → length (guard ms tail p) ≡ length p + 6 * ranges ms
guard_length [] tail p = omega (arith)
guard_length (m ∷ ms) tail p =
    let front = fronts_length (token_of m) (own_numbers m) tail (guard ms tail p) in
    let behind = guard_length ms tail p in
    omega (arith, front, behind)

turned_length : (p : List Insn) → length (turned p) ≡ length p
turned_length [] = omega (arith)
turned_length (i ∷ p) =
    let h = turned_length p in
    omega (arith, h)

pub base_length : (p : List Insn) → length (base p) ≡ 2 * (length p + 1)
base_length p =
    let whole = length-append (empty_a ∷ turned p) (empty_a ∷ p) in
    let same = turned_length p in
    omega (arith, whole, same)

more_limit : (n m : ℕ) (why : Unguarded) → n ≤ m → IsLimit n why → IsLimit m why
more_limit n m (View fault) less limit = limit
more_limit n m (Kernel refused) less limit = limit
more_limit n m (Unplain at) less limit = limit
more_limit n m TooLong less limit = omega (arith, less, limit)
more_limit n m OutOfMemory less limit = limit

pub err_more : {A : Type 0} → (n m : ℕ) (r : Result A Unguarded) → n ≤ m → IfErr r (IsLimit n) → IfErr r (IsLimit m)
err_more n m (Ok x) less limit = limit
err_more n m (Err why) less limit = more_limit n m why less limit

-- what stands behind the first of a list
pub rest_length : {A : Type 0} → (xs : List A) → 1 ≤ length xs → 1 + length (take (length xs - 1) (drop 1 xs)) ≡ length xs
rest_length xs some =
    let dropped = length-drop 1 xs in
    let taken = length-take-le (length xs - 1) (drop 1 xs) (omega (arith, dropped)) in
    omega (arith, some, taken)

pub ranges_first : (ms : List Arch) → 1 ≤ length ms
    → ranges ms ≡ length (own_numbers (slice_index_or ms 0 X86_64)) + ranges (take (length ms - 1) (drop 1 ms))
ranges_first [] some = absurd (omega (arith, some))
ranges_first (m ∷ ms) some =
    let size : length (m ∷ ms) - 1 ≡ length ms = omega (arith) in
    sym (ap (λ (n : ℕ). length (own_numbers m) + ranges (take n ms)) size
    ∙ ap (λ (xs : List Arch). length (own_numbers m) + ranges xs) (take-length ms))

limit_is : (machines : List Arch) (filter : List ℕ) (n : ℕ) (why : Unguarded) → n ≤ made_length machines (insns_of filter) → IsLimit n why
    → IsReason machines filter why
limit_is machines filter n (View fault) less limit = absurd limit
limit_is machines filter n (Kernel refused) less limit = absurd limit
limit_is machines filter n (Unplain at) less limit = absurd limit
limit_is machines filter n TooLong less limit = omega (arith, less, limit)
limit_is machines filter n OutOfMemory less limit = tt

pub err_reason : {A : Type 0} → (machines : List Arch) (filter : List ℕ) (n : ℕ) (r : Result A Unguarded)
    → n ≤ made_length machines (insns_of filter) → IfErr r (IsLimit n) → IfErr r (IsReason machines filter)
err_reason machines filter n (Ok x) less limit = limit
err_reason machines filter n (Err why) less limit = limit_is machines filter n why less limit
