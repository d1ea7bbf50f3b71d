-- Where memory is refused, the container that is written back is seen as it was.
use Rattle.std.proofs.Common.{rules, ◌≡◌, ◌∙◌, Some, ap, sym}
use Rattle.std.specs.Prelude.{option_map}
use Rattle.std.proofs.lemmas.Result.{on_err_weaker}
use Rattle.std.proofs.lemmas.Slice.Eq.{bytes_eq-Decides}
use Rattle.indexmap.specs.IndexMap.{get_by}
use Rattle.processes.specs.Views.{same_text}
use Rattle.processes.specs.Table.{processes_of}
use Rattle.processes.proofs.Lists.{written_alike}
use Rattle.processes.proofs.table.TableKernel.present.Goals as goal

pub returns-in-Some-clause-err : goal.returns-in-Some-clause-err
returns-in-Some-clause-err g c =
    let w = c.present.new.self in
    let id = c.args.id.now in
    let map = c.args.self.now.containers in
    let there : get_by (same_text id) map ≡ Some c.in-Some.container.now = sym c.in-Some.ensures.value in
    let updated = (c.get_mut.follows.holds w).3 (search rules) in
    on_err_weaker c.present.result
    (λ kept q.
    ap (option_map processes_of) (updated.0 q)
    ∙ written_alike processes_of (same_text id q) w c.in-Some.container.now (get_by (same_text q) map) (get_by (same_text id) map) there
    (λ h. ap (λ k. get_by (same_text k) map) (sym ((bytes_eq-Decides id q).0 h))) kept)
    c.present.ensures.err
