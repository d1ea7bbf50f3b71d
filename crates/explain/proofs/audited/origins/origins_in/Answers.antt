use Rattle.std.proofs.Common.{[]}
use Rattle.std.specs.Prelude.{map}
use Rattle.wording.specs.Lines.{lines_of}
use Rattle.explain.specs.Audit.{origins_in}
use Rattle.explain.specs.inner.Origins.{origin_of}
use Rattle.explain.proofs.OriginLaws.{line_more}
use Rattle.explain.proofs.audited.origins.origins_in.Goals as goal

pub line-preserved : goal.line-preserved
line-preserved c =
    line_more (map origin_of c.line.origins.items) (map origin_of c.put_line.new.origins.items) c.in-Some.line.now
    (lines_of c.line.rest.now) (lines_of c.in-Some.more.now) (origins_in c.args.text.now) c.in-Some.ensures.lines
    c.in_ok-put_line.ensures c.line.invariant

pub returns : goal.returns
returns c =
    line_more (map origin_of c.line.origins.items) (map origin_of c.put_line-2.new.origins.items) c.line.rest.now
    (lines_of c.line.rest.now) [] (origins_in c.args.text.now) c.in_default.ensures.lines c.in_ok-put_line-2.ensures c.line.invariant
