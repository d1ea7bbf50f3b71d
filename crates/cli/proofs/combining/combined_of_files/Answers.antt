use Rattle.std.proofs.Common.{ℕ, List, Vec, Global, map, subst, sym}
use Rattle.cli.specs.Dispatch.{HaveBundles}
use Rattle.cli.proofs.BundleLaws.{taken_of}
use Rattle.cli.proofs.DispatchLaws.{now_of}
use Rattle.cli.proofs.FormLaws.{unread_memory}
use Rattle.cli.proofs.combining.combined_of_files.Goals as goal

abbrev bytes_of : Vec ℕ Global → List ℕ
bytes_of t = t.items

pub returns-in-Ok-combined_of : goal.returns-in-Ok-combined_of
returns-in-Ok-combined_of g c =
    let texts = map bytes_of c.deref.result.now in
    let files = taken_of c.args.native (g.F.Files.folder c.args.files.now) (map now_of c.args.bundles.now) texts
    (subst (λ (ts : List (Vec ℕ Global)). HaveBundles c.args.native (g.F.Files.folder c.args.files.now) (map now_of c.args.bundles.now)
    (map bytes_of ts)) (sym c.deref.ensures.value) c.in-Ok.ensures.ok) in
    (files.0, files.1, record { bundles = texts; taken = files.2; is = c.in-Ok-combined_of.ensures })

pub returns-in-Ok : goal.returns-in-Ok
returns-in-Ok g c = unread_memory (g.F.Files.folder c.args.files.now) (map now_of c.args.bundles.now)
