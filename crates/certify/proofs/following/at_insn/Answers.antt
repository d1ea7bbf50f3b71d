use Rattle.std.proofs.Common.{◌≡◌, ℕ, ◌+◌, ◌^◌, ◌<◌, sym, ap, subst, ◌∙◌, arith, rules, ⊎_elim, List, length}
use Rattle.std.specs.Prelude.{Result, Ok, Err, IfOk, Some, OnOk}
use Rattle.bpf_insn.specs.declared.instruction.Insn.{Insn}
use Rattle.bpf_insn.specs.Code.{operation_of}
use Rattle.kernel_check.specs.Accepted.{IsAccepted}
use Rattle.kernel_check.specs.Lent.{accepted_insns}
use Rattle.cert_form.specs.declared.node.Kind.{Kind}
use Rattle.cert_check.specs.Rules.{verdict_by}
use Rattle.cert_state.specs.Transfer.{transfer}
use Rattle.certify.specs.declared.action.Action.TheVariants as action
use Rattle.certify.specs.declared.fault.PathsError.{PathsError}
use Rattle.certify.specs.declared.paths.Paths.{Paths}
use Rattle.certify.specs.inner.Actions.{action_by}
use Rattle.certify.specs.inner.Follow.{IsCut, IsFollowed, IsFork, IsReturn}
use Rattle.certify.specs.inner.Places.{ArePaths, known_at}
use Rattle.certify.specs.inner.Plain.{AreShares, IsParted}
use Rattle.certify.proofs.FitLaws.{fork_shares, if_ok, no_shares, only_memory, parted_shares, step_shares}
use Rattle.certify.proofs.ShareLaws.{ends_takes, forks_takes, forks_whole, goes_takes}
use Rattle.certify.proofs.FollowLaws.{cut_followed, fork_followed, given_there, goes_followed, known_there, return_followed}
use Rattle.certify.proofs.ToldLaws.{of_size, truly_of_size}
use Rattle.certify.proofs.WayLaws.{accepted_is, goes_inside, other_inside, taken_inside}
use Rattle.certify.proofs.following.at_insn.Goals as goal

-- a fact of each node that is made, where the paths are such
on_ok : (result : Result Kind PathsError) (new : Paths) (P Q : Kind → Type 0) → OnOk result (ArePaths new) → IfOk result P
    → ((kind : Kind) → ArePaths new → P kind → Q kind) → IfOk result Q
on_ok (Ok kind) new P Q are p f = f kind are p
on_ok (Err e) new P Q are p f = tt

-- a program is short
below : (p : List Insn) → IsAccepted p → (n : ℕ) → n < length p → n < 2 ^ 16
below p accepted n low = let limit = accepted.limit in omega (arith, limit, low)

pub returns-in-Ends-clause-followed : goal.returns-in-Ends-clause-followed
returns-in-Ends-clause-followed c =
    let p = accepted_insns c.args.program.now in
    let i = c.args.insn in
    let old = c.args.paths.now in
    let new = c.at_end.new.paths in
    let from = c.args.from in
    let policy = c.args.profile.now in
    let accepted = accepted_is c.args.program.now in
    on_ok c.at_end.result new _ (IsFollowed policy p old new from) c.at_end.ensures.paths c.at_end.ensures.done
    (λ kind are done. ⊎_elim
    (λ (r : IsReturn policy old new from done.0 kind).
    return_followed policy p old c.requires.paths c.requires.inside from c.requires.from i c.requires.found accepted new are kind done.0
    done.1 r)
    (λ (r : IsCut old new from kind).
    cut_followed policy p old c.requires.paths c.requires.inside from c.requires.from i c.requires.found accepted new are kind r)
    done.2)

pub returns-in-Ends-clause-told : goal.returns-in-Ends-clause-told
returns-in-Ends-clause-told c = λ led.
    let p = accepted_insns c.args.program.now in
    let i = c.args.insn in
    let old = c.args.paths.now in
    let from = c.args.from in
    let policy = c.args.profile.now in
    let accepted = accepted_is c.args.program.now in
    let acts : action_by (operation_of i.code) i ≡ action.Ends = sym c.action_of.ensures ∙ c.in-Ends.is in
    let known = known_there policy p old c.requires.paths c.requires.inside from c.requires.from i c.requires.found accepted led acts in
    c.at_end.ensures.wrong known.0 known.1
    (given_there policy p old c.requires.paths c.requires.inside from c.requires.from i c.requires.found accepted led known.0 known.1)

pub at_fork-requires-clause-taken : goal.at_fork-requires-clause-taken
at_fork-requires-clause-taken c =
    let p = accepted_insns c.args.program.now in
    let i = c.args.insn in
    let accepted = accepted_is c.args.program.now in
    let acts : action_by (operation_of i.code) i ≡ action.Forks = sym c.action_of.ensures ∙ c.in-Forks.is in
    below p accepted (c.args.from.pc + 1 + i.jt) (taken_inside p c.args.from.pc i c.requires.found accepted acts)

pub at_fork-requires-clause-not_taken : goal.at_fork-requires-clause-not_taken
at_fork-requires-clause-not_taken c =
    let p = accepted_insns c.args.program.now in
    let i = c.args.insn in
    let accepted = accepted_is c.args.program.now in
    let acts : action_by (operation_of i.code) i ≡ action.Forks = sym c.action_of.ensures ∙ c.in-Forks.is in
    below p accepted (c.args.from.pc + 1 + i.jf) (other_inside p c.args.from.pc i c.requires.found accepted acts)

pub returns-in-Forks-clause-followed : goal.returns-in-Forks-clause-followed
returns-in-Forks-clause-followed c =
    let p = accepted_insns c.args.program.now in
    let i = c.args.insn in
    let old = c.args.paths.now in
    let new = c.at_fork.new.paths in
    let from = c.args.from in
    let policy = c.args.profile.now in
    let accepted = accepted_is c.args.program.now in
    let acts : action_by (operation_of i.code) i ≡ action.Forks = sym c.action_of.ensures ∙ c.in-Forks.is in
    on_ok c.at_fork.result new _ (IsFollowed policy p old new from) c.at_fork.ensures.paths c.at_fork.ensures.done
    (λ kind are done. ⊎_elim
    (λ (fork : IsFork old new from i kind).
    fork_followed policy p old c.requires.paths c.requires.inside from c.requires.from i c.requires.found accepted new are kind acts fork)
    (λ (cut : IsCut old new from kind).
    cut_followed policy p old c.requires.paths c.requires.inside from c.requires.from i c.requires.found accepted new are kind cut)
    done)

pub returns-in-Forks-clause-truly : goal.returns-in-Forks-clause-truly
returns-in-Forks-clause-truly c =
    truly_of_size c.args.profile.now (accepted_insns c.args.program.now) c.at_fork.result c.at_fork.ensures.size

pub returns-in-Forks-clause-told : goal.returns-in-Forks-clause-told
returns-in-Forks-clause-told c = λ led.
    of_size c.args.profile.now (accepted_insns c.args.program.now) c.at_fork.result c.at_fork.ensures.size

pub step-requires-clause-inside : goal.step-requires-clause-inside
step-requires-clause-inside c =
    let p = accepted_insns c.args.program.now in
    let i = c.args.insn in
    let accepted = accepted_is c.args.program.now in
    let acts : action_by (operation_of i.code) i ≡ action.Goes c.in-Goes.skip = sym c.action_of.ensures ∙ c.in-Goes.is in
    below p accepted (c.args.from.pc + 1 + c.in-Goes.skip) (goes_inside p c.args.from.pc i c.requires.found accepted c.in-Goes.skip acts)

pub returns-in-Goes-clause-followed : goal.returns-in-Goes-clause-followed
returns-in-Goes-clause-followed c =
    let p = accepted_insns c.args.program.now in
    let i = c.args.insn in
    let acts : action_by (operation_of i.code) i ≡ action.Goes c.in-Goes.skip = sym c.action_of.ensures ∙ c.in-Goes.is in
    on_ok c.step.result c.step.new.paths _ (IsFollowed c.args.profile.now p c.args.paths.now c.step.new.paths c.args.from)
    c.step.ensures.paths c.step.ensures.step
    (λ kind are step.
    goes_followed c.args.profile.now p c.args.paths.now c.requires.paths c.requires.inside c.args.from c.requires.from i c.requires.found
    (accepted_is c.args.program.now) c.step.new.paths are kind c.in-Goes.skip acts step)

pub returns-in-Goes-clause-truly : goal.returns-in-Goes-clause-truly
returns-in-Goes-clause-truly c =
    truly_of_size c.args.profile.now (accepted_insns c.args.program.now) c.step.result c.step.ensures.size

pub returns-in-Goes-clause-told : goal.returns-in-Goes-clause-told
returns-in-Goes-clause-told c = λ led.
    of_size c.args.profile.now (accepted_insns c.args.program.now) c.step.result c.step.ensures.size

-- ---- of a profile without conditions

pub returns-in-Ends-clause-shares : goal.returns-in-Ends-clause-shares
returns-in-Ends-clause-shares c = λ nodes meant takes some.
    let p = accepted_insns c.args.program.now in
    let i = c.args.insn in
    let old = c.args.paths.now in
    let new = c.at_end.new.paths in
    let from = c.args.from in
    let policy = c.args.profile.now in
    let small : i.k < 2 ^ 32 = search rules in
    let acts : action_by (operation_of i.code) i ≡ action.Ends = sym c.action_of.ensures ∙ c.in-Ends.is in
    let end = ends_takes policy p meant from.pc from.regs (known_at old.entries.items from) i c.requires.found small c.requires.alive nodes
    acts takes in
    let verdict : verdict_by (operation_of i.code) from.regs i ≡ Some i.k = ap (λ o. verdict_by o from.regs i) end.0 in
    if_ok c.at_end.result _ (λ _. AreShares policy p old new nodes)
    (λ kind done. ⊎_elim
    (λ (same : new ≡ old). subst (λ (t : Paths). AreShares policy p old t nodes) (sym same) (no_shares policy p old nodes some))
    (λ (parted : IsParted policy old new from i.k nodes).
    parted_shares policy p old new from i nodes c.requires.place c.requires.found end.0 parted)
    done)
    (c.at_end.ensures.parts i.k nodes verdict meant end.1)

pub returns-in-Ends-clause-memory : goal.returns-in-Ends-clause-memory
returns-in-Ends-clause-memory c = λ nodes meant takes some fits.
    let p = accepted_insns c.args.program.now in
    let i = c.args.insn in
    let old = c.args.paths.now in
    let from = c.args.from in
    let policy = c.args.profile.now in
    let small : i.k < 2 ^ 32 = search rules in
    let acts : action_by (operation_of i.code) i ≡ action.Ends = sym c.action_of.ensures ∙ c.in-Ends.is in
    let end = ends_takes policy p meant from.pc from.regs (known_at old.entries.items from) i c.requires.found small c.requires.alive nodes
    acts takes in
    let verdict : verdict_by (operation_of i.code) from.regs i ≡ Some i.k = ap (λ o. verdict_by o from.regs i) end.0 in
    c.at_end.ensures.memory i.k nodes verdict meant end.1 fits

pub returns-in-Forks-clause-shares : goal.returns-in-Forks-clause-shares
returns-in-Forks-clause-shares c = λ nodes meant takes some.
    let p = accepted_insns c.args.program.now in
    let i = c.args.insn in
    let old = c.args.paths.now in
    let new = c.at_fork.new.paths in
    let from = c.args.from in
    let policy = c.args.profile.now in
    let small : i.k < 2 ^ 32 = search rules in
    let acts : action_by (operation_of i.code) i ≡ action.Forks = sym c.action_of.ensures ∙ c.in-Forks.is in
    let both = forks_takes policy p meant from.pc from.regs (known_at old.entries.items from) i c.requires.found small c.requires.alive nodes
    acts takes in
    let whole = forks_whole policy p meant from.pc from.regs (known_at old.entries.items from) i c.requires.found small c.requires.alive
    nodes acts takes in
    if_ok c.at_fork.result _ (λ _. AreShares policy p old new nodes)
    (λ kind fork. fork_shares policy p old new from i kind nodes c.requires.place fork both) (c.at_fork.ensures.whole whole)

pub returns-in-Forks-clause-memory : goal.returns-in-Forks-clause-memory
returns-in-Forks-clause-memory c = λ nodes meant takes some fits.
    let p = accepted_insns c.args.program.now in
    let i = c.args.insn in
    let old = c.args.paths.now in
    let from = c.args.from in
    let policy = c.args.profile.now in
    let small : i.k < 2 ^ 32 = search rules in
    let acts : action_by (operation_of i.code) i ≡ action.Forks = sym c.action_of.ensures ∙ c.in-Forks.is in
    let both = forks_takes policy p meant from.pc from.regs (known_at old.entries.items from) i c.requires.found small c.requires.alive nodes
    acts takes in
    let less = both.less in
    let one = both.first_some in
    let two = both.second_some in
    only_memory old from c.requires.place nodes 2 c.at_fork.result fits (omega (arith, less, one, two)) both.room c.at_fork.ensures.refused

pub returns-in-Goes-clause-shares : goal.returns-in-Goes-clause-shares
returns-in-Goes-clause-shares c = λ nodes meant takes some.
    let p = accepted_insns c.args.program.now in
    let i = c.args.insn in
    let old = c.args.paths.now in
    let new = c.step.new.paths in
    let from = c.args.from in
    let policy = c.args.profile.now in
    let small : i.k < 2 ^ 32 = search rules in
    let acts : action_by (operation_of i.code) i ≡ action.Goes c.in-Goes.skip = sym c.action_of.ensures ∙ c.in-Goes.is in
    let one = goes_takes policy p meant from.pc from.regs (known_at old.entries.items from) i c.requires.found small c.requires.alive nodes
    c.in-Goes.skip acts takes in
    if_ok c.step.result _ (λ _. AreShares policy p old new nodes)
    (λ kind step. step_shares policy p old new from (from.pc + 1 + c.in-Goes.skip) (transfer from.regs i) kind nodes step one)
    c.step.ensures.step

pub returns-in-Goes-clause-memory : goal.returns-in-Goes-clause-memory
returns-in-Goes-clause-memory c = λ nodes meant takes some fits.
    let p = accepted_insns c.args.program.now in
    let i = c.args.insn in
    let old = c.args.paths.now in
    let from = c.args.from in
    let policy = c.args.profile.now in
    let small : i.k < 2 ^ 32 = search rules in
    let acts : action_by (operation_of i.code) i ≡ action.Goes c.in-Goes.skip = sym c.action_of.ensures ∙ c.in-Goes.is in
    let one = goes_takes policy p meant from.pc from.regs (known_at old.entries.items from) i c.requires.found small c.requires.alive nodes
    c.in-Goes.skip acts takes in
    let less = one.less in
    let rest = one.some in
    only_memory old from c.requires.place nodes 1 c.step.result fits (omega (arith, less, rest)) one.room c.step.ensures.refused
