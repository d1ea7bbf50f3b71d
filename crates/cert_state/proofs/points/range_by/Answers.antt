use Rattle.std.proofs.Common.{arith, inl, inr}
use Rattle.std.proofs.lemmas.Bool.{cases_lt}
use Rattle.cert_state.specs.inner.Window.{Excludes}
use Rattle.cert_state.proofs.PointLaws.{a_point, between, point_free}
use Rattle.cert_state.proofs.points.range_by.Goals as goal

pub returns-then-least-high : goal.returns-then-least-high
returns-then-least-high g c = λ u point.
    let known = g.S.State.known c.args.state.now in
    let within = between known c.args.word c.args.summary.now c.requires u point in
    point_free c.args.word u known point (c.first_free-least.ensures.all u within.0 (omega (arith, within, c.if-least-high.true)))

pub returns : goal.returns
returns g c =
    let known = g.S.State.known c.args.state.now in
    let whole = c.requires in
    let free : Excludes known c.args.word c.first_free-least.result → ⊥ = c.first_free-least.ensures.free (omega arith) in
    record {
      least = a_point known c.args.word c.args.summary.now whole (omega arith) c.first_free-least.result (omega arith) (omega arith)
          free;
      greatest =
          a_point known c.args.word c.args.summary.now whole (omega arith) c.last_free.result (omega arith) (omega arith)
          c.last_free.ensures.free;
      between = λ u point.
          (let within = between known c.args.word c.args.summary.now whole u point in
          let out = point_free c.args.word u known point in (
            elim (cases_lt u c.first_free-least.result) [
              | inl below ↦ absurd (out (c.first_free-least.ensures.all u within.0 below))
              | inr from ↦ from
            ],
            elim (cases_lt c.last_free.result u) [ inl above ↦ absurd (out (c.last_free.ensures.all u above within.1)) | inr to ↦ to ],
          ));
    }
