use Rattle.std.proofs.Common.{◌+◌, ◌-◌, length, refl, sym, subst, arith}
use Rattle.std.specs.Prelude.{slice_index_or}
use Rattle.show.specs.inner.Covering.{SpanFrom}
use Rattle.show.proofs.Spanning.{any_span, at_later, no_spans}
use Rattle.show.proofs.spans.span_after.Goals as goal

pub returns-then-skip-later : goal.returns-then-skip-later
returns-then-skip-later c =
    λ p arch nr pc all size.
    any_span p arch nr (pc + 1 + c.args.skip) c.args.holds (record { least = 0; most = 4294967295 }) all.short refl (omega arith)

pub returns-in-Number : goal.returns-in-Number
returns-in-Number c =
    λ p arch nr pc all size.
    let table = c.args.later.now in
    subst (λ h. SpanFrom p arch nr (pc + 1 + c.args.skip) h (slice_index_or table (length table - 1 - c.args.skip) no_spans).number) (sym c.in-Number.is)
    (at_later p arch nr pc c.args.skip table no_spans all size (omega (arith, c.if-skip-later.false))).number

pub returns-in-Machine : goal.returns-in-Machine
returns-in-Machine c =
    λ p arch nr pc all size.
    let table = c.args.later.now in
    subst (λ h. SpanFrom p arch nr (pc + 1 + c.args.skip) h (slice_index_or table (length table - 1 - c.args.skip) no_spans).machine) (sym c.in-Machine.is)
    (at_later p arch nr pc c.args.skip table no_spans all size (omega (arith, c.if-skip-later.false))).machine

pub returns-in-Other : goal.returns-in-Other
returns-in-Other c =
    λ p arch nr pc all size.
    let table = c.args.later.now in
    subst (λ h. SpanFrom p arch nr (pc + 1 + c.args.skip) h (slice_index_or table (length table - 1 - c.args.skip) no_spans).other) (sym c.in-Other.is)
    (at_later p arch nr pc c.args.skip table no_spans all size (omega (arith, c.if-skip-later.false))).other
