use Rattle.std.proofs.Common.{ℕ, List, Vec, Global, map, subst, sym}
use Rattle.cli.specs.Dispatch.{HaveBytes}
use Rattle.cli.proofs.DispatchLaws.{now_of}
use Rattle.cli.proofs.FormLaws.{unread_memory}
use Rattle.cli.proofs.combining.stack_of_files.Goals as goal

abbrev bytes_of : Vec ℕ Global → List ℕ
bytes_of t = t.items

pub returns-in-Ok-stack_of : goal.returns-in-Ok-stack_of
returns-in-Ok-stack_of g c = (
  map bytes_of c.deref.result.now,
  subst (λ (ts : List (Vec ℕ Global)). HaveBytes (g.F.Files.folder c.args.files.now) (map now_of c.args.filters.now) (map bytes_of ts))
      (sym c.deref.ensures.value) c.in-Ok.ensures.ok,
  c.in-Ok-stack_of.ensures,
)

pub returns-in-Ok : goal.returns-in-Ok
returns-in-Ok g c = unread_memory (g.F.Files.folder c.args.files.now) (map now_of c.args.filters.now)
