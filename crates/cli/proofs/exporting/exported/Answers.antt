use Rattle.std.proofs.Common.{◌≡◌, ℕ, ap, ◌∙◌}
use Rattle.std.specs.Global.{Vec}
use Rattle.wording.specs.Told.{was_done}
use Rattle.wording.proofs.Ends.{done_of}
use Rattle.cli.specs.Exported.{file_in}
use Rattle.cli.proofs.exporting.exported.Goals as goal

pub returns-in-Ok : goal.returns-in-Ok
returns-in-Ok c =
    let same : was_done c.of.result ≡ c.in-Ok.done = ap was_done c.of.ensures ∙ done_of c.in-Ok.done in
    record {
      before = c.new-kept.result;
      after = c.export_bundle.new.sink;
      empty = ap (λ (v : Vec ℕ). v.items) c.new-kept.ensures.writer ∙ c.new.ensures.items;
      exports = rw same c.in-Ok.ensures.exports;
      file = rw same (rw c.native.ensures at (c.in_ok-bytes-in-Ok.ensures ∙ ap (file_in c.native.result c.args.form c.in-Ok.done) c.deref.ensures.value));
    }
