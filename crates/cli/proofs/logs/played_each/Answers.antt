use Rattle.std.proofs.Common.{List, Vec, Global, ℕ, map, subst, sym}
use Rattle.cli.specs.Dispatch.{HaveBytes}
use Rattle.cli.proofs.DispatchLaws.{now_of}
use Rattle.cli.proofs.FormLaws.{unread_memory}
use Rattle.cli.proofs.LogLaws.{as_many_read, bytes_of}
use Rattle.cli.proofs.logs.played_each.Goals as goal

pub played-requires : goal.played-requires
played-requires g c =
    as_many_read (g.F.Files.folder c.args.files.now) c.args.names.now c.deref.result.now
    (subst (λ (ts : List (Vec ℕ Global)). HaveBytes (g.F.Files.folder c.args.files.now) (map now_of c.args.names.now) (map bytes_of ts))
    (sym c.deref.ensures.value) c.in-Ok.ensures.ok)

pub returns-in-Ok : goal.returns-in-Ok
returns-in-Ok g c = unread_memory (g.F.Files.folder c.args.files.now) (map now_of c.args.names.now)
