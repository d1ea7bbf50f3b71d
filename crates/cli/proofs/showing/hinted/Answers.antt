use Rattle.std.proofs.Common.{◌∙◌, sym}
use Rattle.cli.proofs.ReadLaws.{tells_hint, tells_refused}
use Rattle.cli.proofs.showing.hinted.Goals as goal

pub returns-then-not-is_done : goal.returns-then-not-is_done
returns-then-not-is_done c = λ meaning is named.
    tells_refused c.args.document.now.native c.args.document.now.bytes c.args.told meaning is named
    (sym c.is_done.ensures ∙ c.if-not-is_done.true)

pub returns : goal.returns
returns c = λ meaning is named.
    tells_hint c.args.document.now.native c.args.document.now.bytes c.args.told meaning is named c.in_ok-hint.hint c.with_hint.result
    c.in_ok-hint.ensures c.with_hint.ensures
