use Rattle.std.proofs.Common.{sym, ◌∙◌, arith}
use Rattle.show.proofs.Spanning.{from_end, from_ways}
use Rattle.show.proofs.spans.span_at.Goals as goal

pub returns-in-None : goal.returns-in-None
returns-in-None c =
    λ p pc all size found.
    from_end p c.args.arch c.args.nr pc c.args.insn.now c.args.holds (record { least = 1; most = 1 }) all.short found
    (sym c.leads.ensures ∙ c.in-None.is) (omega arith) (omega arith)

pub returns-in-Some : goal.returns-in-Some
returns-in-Some c =
    λ p pc all size found.
    from_ways p c.args.arch c.args.nr pc c.args.insn.now c.args.holds c.in-Some.ways c.span_after-one.result c.span_after-other.result
    c.with_one.result all.short found (sym c.leads.ensures ∙ c.in-Some.is)
    (c.span_after-one.ensures p c.args.arch c.args.nr pc all size) (c.span_after-other.ensures p c.args.arch c.args.nr pc all size)
    c.with_one.ensures
