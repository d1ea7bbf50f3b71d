use Rattle.std.proofs.Common.{◌≡◌, ◌∙◌, ◌<◌, ◌++◌, List, [], ◌∷◌, ap, arith, length, map, sym, Vec, Global, ℕ}
use Rattle.std.proofs.lemmas.List.{map-append}
use Rattle.cli.proofs.BundleLaws.{bundle_on, no_bundle_at}
use Rattle.cli.proofs.TurnLaws.{of_ok}
use Rattle.cli.proofs.files.read_bundles.Goals as goal

abbrev bytes_of : Vec ℕ Global → List ℕ
bytes_of t = t.items

pub loop-name-preserved : goal.loop-name-preserved
loop-name-preserved g c =
    let lt : c.loop-name.name-index < length c.args.names.now = omega (arith, c.loop-name-test.true) in
    let pushed : c.push.new.self.items ≡ c.loop-name.texts.items ++ c.in-Ok.text ∷ [] =
    of_ok c.push.result c.push.new.self.items (c.loop-name.texts.items ++ c.in-Ok.text ∷ []) c.loop-name.texts.items
    (sym c.is_err.ensures.value ∙ c.if-is_err.false) c.push.ensures.items in record {
      same = c.in-Ok.ensures.same ∙ c.loop-name.invariant.same;
      read = bundle_on c.args.native (g.F.Files.folder c.args.files.now) (g.F.Files.folder c.loop-name.files) c.loop-name.invariant.same c.args.names.now
          (map bytes_of c.loop-name.texts.items) c.loop-name.name-index _ lt c.loop-name.invariant.read c.in-Ok.text.items
          (map bytes_of c.push.new.self.items)
          (ap (map bytes_of) pushed ∙ map-append bytes_of c.loop-name.texts.items (c.in-Ok.text ∷ [])) c.in-Ok.ensures.ok;
    }

pub returns-in-Err-clause-err : goal.returns-in-Err-clause-err
returns-in-Err-clause-err g c =
    let lt : c.loop-name.name-index < length c.args.names.now = omega (arith, c.loop-name-test.true) in
    no_bundle_at c.args.native (g.F.Files.folder c.args.files.now) (g.F.Files.folder c.loop-name.files) c.loop-name.invariant.same c.args.names.now
    (map bytes_of c.loop-name.texts.items) c.loop-name.name-index _ lt c.loop-name.invariant.read c.in-Err.stop c.in-Err.ensures.err
