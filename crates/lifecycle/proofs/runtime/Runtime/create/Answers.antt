use Rattle.std.proofs.Common.{◌≡◌, Bool, true, None, Some, is_some, sym, ap, ◌∙◌, refl, if◌then◌else◌}
use Rattle.std.specs.Map.{lookup}
use Rattle.processes.specs.First.{by_program}
use Rattle.processes.specs.Ids.{is_id}
use Rattle.processes.specs.Views.{same_text}
use Rattle.lifecycle.specs.declared.command.Reply.TheVariants.{Accepted, Refused}
use Rattle.lifecycle.specs.declared.entry.Entry.{Entry}
use Rattle.lifecycle.specs.declared.entry.Phase.TheVariants.{Made}
use Rattle.lifecycle.specs.declared.fault.Refusal.TheVariants.{BadId, IdTaken}
use Rattle.lifecycle.specs.Commands.Command.{Create}
use Rattle.lifecycle.specs.Steps.{create}
use Rattle.lifecycle.specs.Worlds.{container_at}
use Rattle.lifecycle.specs.Listed.{listed}
use Rattle.lifecycle.specs.Views.{world_of}
use Rattle.lifecycle.specs.Entries.{container_of, world_from}
use Rattle.lifecycle.proofs.CommandLaws.{kept_by, lacks, never, on_err, taken}
use Rattle.lifecycle.proofs.Entries.{changed, inserted, not_there, unchanged}
use Rattle.lifecycle.proofs.runtime.Runtime.create.Goals as goal

pub returns-in_default-clause-step : goal.returns-in_default-clause-step
unfolding world_of
returns-in_default-clause-step g c =
    let k = g.K.Kernel.processes c.args.self.now.kernel in
    let id = c.args.id.now in
    let w = world_from k (listed c.args.self.now.entries) in
    unchanged by_program (Create id c.args.checked) w (container_at id w) (Refused BadId) refl
    (ap (λ (b : Bool). if b then create by_program c.args.checked (container_at id w) else (
      Refused BadId,
      container_at id w,
    )) (never (is_id id) c.in_default.ensures.exact.1))

pub returns-then-contains-clause-step : goal.returns-then-contains-clause-step
unfolding world_of
returns-then-contains-clause-step g c =
    let k = g.K.Kernel.processes c.args.self.now.kernel in
    let id = c.args.id.now in
    let es = listed c.args.self.now.entries in
    let w = world_from k es in
    let held = taken k id es (ap (λ q. is_some (lookup (same_text q) es)) (sym c.in-Some.ensures.text)
    ∙ (sym c.contains.ensures ∙ c.if-contains.true)) in
    unchanged by_program (Create id c.args.checked) w (Some held.0) (Refused IdTaken) held.1
    (ap (λ (b : Bool). if b then create by_program c.args.checked (Some held.0) else (
      Refused BadId,
      Some held.0,
    )) (c.in-Some.ensures.exact.0 refl))

pub insert-requires : goal.insert-requires
insert-requires g c = lacks (listed c.args.self.now.entries) c.in-Some.name (sym c.contains.ensures ∙ c.if-contains.false)

pub invariant_of-self : goal.invariant_of-self
invariant_of-self g c =
    let k = g.K.Kernel.processes c.args.self.now.kernel in
    let old = listed c.args.self.now.entries in
    let none = lacks old c.in-Some.name (sym c.contains.ensures ∙ c.if-contains.false) in
    let is : is_id c.in-Some.name ≡ true = ap is_id c.in-Some.ensures.text ∙ c.in-Some.ensures.exact.0 refl in
    let kept = kept_by k c.insert.result c.in-Some.name (record {
      checked = c.args.checked;
      phase = Made;
    }) old (listed c.insert.new.self) c.insert.ensures.finds (λ u. u) c.insert.ensures.err
    none refl is c.args.self.now.ids c.args.self.now.in_step in
    record { ids = kept.ids; in_step = kept.in_step; sound = c.args.self.now.sound }

pub returns-clause-step : goal.returns-clause-step
unfolding world_of
returns-clause-step g c =
    let k = g.K.Kernel.processes c.args.self.now.kernel in
    let es = listed c.args.self.now.entries in
    let name = c.in-Some.name in
    let made : Entry = record { checked = c.args.checked; phase = Made } in
    let none = lacks es name (sym c.contains.ensures ∙ c.if-contains.false) in
    let is : is_id name ≡ true = ap is_id c.in-Some.ensures.text ∙ c.in-Some.ensures.exact.0 refl in
    let steps = changed by_program (Create name c.args.checked) (world_from k es) (world_from k (listed c.insert.new.self)) None (Some (container_of made (k name))) Accepted
    (not_there k name es none)
    (ap (λ (b : Bool). if b then create by_program c.args.checked None else (Refused BadId, None)) is)
    (ap (world_from k) c.in_ok-insert.ensures.entries ∙ inserted k name made es none) in
    rw (sym c.in-Some.ensures.text) steps

pub returns-in_err-insert-clause-growth : goal.returns-in_err-insert-clause-growth
unfolding world_of
returns-in_err-insert-clause-growth g c =
    let k = g.K.Kernel.processes c.args.self.now.kernel in
    let es = listed c.args.self.now.entries in
    let none = lacks es c.in-Some.name (sym c.contains.ensures ∙ c.if-contains.false) in
    let there : container_at c.args.id.now (world_from k es) ≡ None =
    ap (λ q. container_at q (world_from k es)) (sym c.in-Some.ensures.text) ∙ not_there k c.in-Some.name es none in
    on_err c.from_residual.result (c.in-Some.ensures.exact.0 refl, there)
