use Rattle.std.proofs.Common.{◌<◌, ◌∙◌, [], arith, length, refl}
use Rattle.cli.proofs.LogLaws.{each_more, stops_at_log}
use Rattle.cli.proofs.logs.show_each.Goals as goal

pub loop-name-init : goal.loop-name-init
loop-name-init g c = record { same = refl; shown = ([], tt, c.new-shown.ensures c.args.native) }

pub returns-in-Err-clause-err : goal.returns-in-Err-clause-err
returns-in-Err-clause-err g c =
    let lt : c.loop-name.name-index < length c.args.names.now = omega (arith, c.loop-name-test.true) in
    stops_at_log (g.F.Files.folder c.args.files.now) c.args.native c.args.names.now c.loop-name.name-index _ lt c.loop-name.shown
    c.loop-name.invariant.shown c.in-Err.stop c.in-Err.ensures.err

pub loop-name-preserved : goal.loop-name-preserved
loop-name-preserved g c =
    let lt : c.loop-name.name-index < length c.args.names.now = omega (arith, c.loop-name-test.true) in record {
      same = c.in-Ok.ensures.same ∙ c.loop-name.invariant.same;
      shown = each_more (g.F.Files.folder c.args.files.now) (g.F.Files.folder c.loop-name.files) c.loop-name.invariant.same c.args.native
          c.args.names.now c.loop-name.name-index _ lt c.loop-name.shown c.show.new.shown c.loop-name.invariant.shown c.in-Ok.ensures.ok;
    }
