use Rattle.std.proofs.Common.{◌≡◌, refl, sym, ◌∙◌}
use Rattle.std.proofs.lemmas.Option.{get_or_from_slice_get}
use Rattle.call_record.specs.declared.effect.Ends.TheVariants.{Nothing, Task, Group}
use Rattle.call_record.specs.Ends.{ends_of}
use Rattle.processes.proofs.container.Container.end_by_verdict.Goals as goal

pub returns-in-Nothing : goal.returns-in-Nothing
returns-in-Nothing g c = λ t h.
    let is : ends_of c.args.word ≡ Nothing = sym c.ends.ensures ∙ c.in-Nothing.is in
    rw is refl

pub returns-in-Task : goal.returns-in-Task
returns-in-Task g c = λ t h.
    let caller : c.index-caller.result.now ≡ t = c.index-caller.ensures
    ∙ get_or_from_slice_get c.args.self.now.tasks.items c.args.at t c.index-caller.result.now h in
    let is : ends_of c.args.word ≡ Task = sym c.ends.ensures ∙ c.in-Task.is in
    rw (is, c.end.ensures, c.from-number.ensures, caller) refl

pub returns-in-Group : goal.returns-in-Group
returns-in-Group g c = λ t h.
    let caller : c.index-caller.result.now ≡ t = c.index-caller.ensures
    ∙ get_or_from_slice_get c.args.self.now.tasks.items c.args.at t c.index-caller.result.now h in
    let is : ends_of c.args.word ≡ Group = sym c.ends.ensures ∙ c.in-Group.is in
    rw (is, c.end-in-Group.ensures, c.from-group.ensures, caller) refl
