use Rattle.std.proofs.Common.{◌≡◌, refl, sym, ◌∙◌}
use Rattle.std.proofs.lemmas.Option.{get_or_from_slice_get}
use Rattle.processes.specs.Calls.{row_of}
use Rattle.processes.specs.declared.row.Row.TheVariants as row
use Rattle.processes.proofs.container.Container.carry_out.Goals as goal

pub returns-in-Exit-clause-ok : goal.returns-in-Exit-clause-ok
returns-in-Exit-clause-ok g c = λ t h.
    let caller : c.index-caller.result.now ≡ t = c.index-caller.ensures
    ∙ get_or_from_slice_get c.args.self.now.tasks.items c.args.at t c.index-caller.result.now h in
    let is : row_of c.args.self.now.native c.args.rec.now ≡ row.Exit = sym c.row_of.ensures ∙ c.in-Exit.is in
    rw (is, c.end.ensures, c.from.ensures, caller) refl

pub returns-in-ExitGroup-clause-ok : goal.returns-in-ExitGroup-clause-ok
returns-in-ExitGroup-clause-ok g c = λ t h.
    let caller : c.index-caller.result.now ≡ t = c.index-caller.ensures
    ∙ get_or_from_slice_get c.args.self.now.tasks.items c.args.at t c.index-caller.result.now h in
    let is : row_of c.args.self.now.native c.args.rec.now ≡ row.ExitGroup = sym c.row_of.ensures ∙ c.in-ExitGroup.is in
    rw (is, c.end-in-ExitGroup.ensures, c.from-in-ExitGroup.ensures, caller) refl

pub returns-in-GetPid-clause-ok : goal.returns-in-GetPid-clause-ok
returns-in-GetPid-clause-ok g c = λ t h.
    let caller : c.index-caller.result.now ≡ t = c.index-caller.ensures
    ∙ get_or_from_slice_get c.args.self.now.tasks.items c.args.at t c.index-caller.result.now h in
    let is : row_of c.args.self.now.native c.args.rec.now ≡ row.GetPid = sym c.row_of.ensures ∙ c.in-GetPid.is in
    rw (is, caller) refl

pub returns-in-GetTid-clause-ok : goal.returns-in-GetTid-clause-ok
returns-in-GetTid-clause-ok g c = λ t h.
    let caller : c.index-caller.result.now ≡ t = c.index-caller.ensures
    ∙ get_or_from_slice_get c.args.self.now.tasks.items c.args.at t c.index-caller.result.now h in
    let is : row_of c.args.self.now.native c.args.rec.now ≡ row.GetTid = sym c.row_of.ensures ∙ c.in-GetTid.is in
    rw (is, caller) refl

pub returns-in-GetParent-clause-ok : goal.returns-in-GetParent-clause-ok
returns-in-GetParent-clause-ok g c = λ t h.
    let caller : c.index-caller.result.now ≡ t = c.index-caller.ensures
    ∙ get_or_from_slice_get c.args.self.now.tasks.items c.args.at t c.index-caller.result.now h in
    let is : row_of c.args.self.now.native c.args.rec.now ≡ row.GetParent = sym c.row_of.ensures ∙ c.in-GetParent.is in
    rw (is, caller) refl
