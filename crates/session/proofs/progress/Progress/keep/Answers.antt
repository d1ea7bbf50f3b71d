use Rattle.std.proofs.Common.{arith, ◌≤◌, ◌<◌, length, ◌∙◌}
use Rattle.session.proofs.KeptLaws.{kept-full, kept-more}
use Rattle.session.proofs.progress.Progress.keep.Goals as goal

pub returns-then-len-le-MAX_LINE-clause-line : goal.returns-then-len-le-MAX_LINE-clause-line
returns-then-len-le-MAX_LINE-clause-line c = λ part e.
    let ok = c.args.self.now.line.ok in
    let few : length c.args.self.now.line.items ≤ 70000 = omega arith in
    c.push_reserved.ensures.items ∙ kept-more part c.args.self.now.line.items c.args.byte e few

pub returns-else-len-le-MAX_LINE-clause-line : goal.returns-else-len-le-MAX_LINE-clause-line
returns-else-len-le-MAX_LINE-clause-line c = λ part e.
    let many : 70000 < length c.args.self.now.line.items = omega arith in
    kept-full part c.args.self.now.line.items c.args.byte e many
