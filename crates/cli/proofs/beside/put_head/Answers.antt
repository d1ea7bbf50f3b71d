use Rattle.std.proofs.Common.{codes}
use Rattle.cli.proofs.BesideLaws.{appended}
use Rattle.cli.proofs.beside.put_head.Goals as goal

pub returns : goal.returns
returns c =
    appended c.args.text.now.items (codes "beside its profile the ") c.args.side.now c.extend_from_slice.new.self.items
    c.extend_from_slice-2.new.self.items c.as_bytes.result.now c.in_ok-extend_from_slice.ensures.items
    c.in_ok-extend_from_slice-2.ensures.items c.as_bytes.ensures.value
