use Rattle.std.proofs.Common.{◌≡◌, ◌∙◌, [], List, refl, subst, sym}
use Rattle.std.specs.List.{All}
use Rattle.bpf_insn.specs.declared.instruction.Insn.{Insn}
use Rattle.bpf_insn.specs.Bytes.{insns_of}
use Rattle.kernel_check.specs.Lent.{accepted_insns}
use Rattle.compare.specs.declared.change.Change.{Change}
use Rattle.compare.specs.declared.difference.Difference.{Difference}
use Rattle.compare.specs.Differ.{AnswerUnlike}
use Rattle.compare.specs.FiltersTold.{IsUnlike}
use Rattle.compare.proofs.filters.outcome.of_accepted.Goals as goal

pub returns : goal.returns
returns c = λ one other same_one same_other unlike_bytes.
    let old : List Insn = accepted_insns c.args.old.now in
    let new : List Insn = accepted_insns c.args.new.now in
    let changes : List Change = c.in_ok-changes.changes.items in
    let unlike : All (AnswerUnlike c.args.family old new) c.deref.result.now =
    subst (λ (list : List Difference). All (AnswerUnlike c.args.family old new) list) (sym {A = List Difference} c.deref.ensures.value) c.in_ok-all.ensures in
    let told : All (IsUnlike c.args.family old new) changes = c.in_ok-changes.ensures c.args.family old new unlike in (
      λ none. c.if-are_none.ensures refl (c.as_slice.ensures.value ∙ none),
      subst (λ (p : List Insn). All (IsUnlike c.args.family p (insns_of other)) changes) same_one
          (subst (λ (q : List Insn). All (IsUnlike c.args.family old q) changes) same_other told),
    )

pub returns-then-are_none : goal.returns-then-are_none
returns-then-are_none c = λ one other same_one same_other unlike_bytes. unlike_bytes
