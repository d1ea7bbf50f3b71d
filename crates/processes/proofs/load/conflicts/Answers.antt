use Rattle.std.proofs.Common.{◌≡◌, true, not, ◌∙◌, ap, sym}
use Rattle.processes.specs.declared.tasks.Which.TheVariants.{Siblings}
use Rattle.processes.specs.inner.Table.{bare_of, is_taker}
use Rattle.processes.proofs.LoadLemmas.{conflicts_by}
use Rattle.processes.proofs.load.conflicts.Goals as goal

pub returns-then-is_taker : goal.returns-then-is_taker
returns-then-is_taker g c =
    let t = c.args.caller.now in
    let seen = g.S.Store.filters_of c.args.store.now in
    let taken : is_taker (Siblings t.group t.number) (bare_of c.args.task.now)
    ≡ true = rw (c.from.ensures, c.from-2.ensures) at (sym c.is_taker.ensures ∙ c.if-is_taker.true) in
    ap not c.is_oldest_part.ensures ∙ conflicts_by seen t c.args.task.now taken
