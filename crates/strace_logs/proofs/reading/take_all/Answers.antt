use Rattle.std.proofs.Common.{◌≡◌, ℕ, List, [], ◌++◌, append-nil, ap, arith, subst, take}
use Rattle.std.specs.Io.KnownBytes.{Consumes}
use Rattle.std.proofs.KnownBytes.{Consumes-nil, Consumes-trans}
use Rattle.strace_logs.proofs.Come.{all_came, nothing_came}
use Rattle.strace_logs.proofs.reading.take_all.Goals as goal

pub part-init : goal.part-init
part-init g c = λ before none taken. (
  [],
  Consumes-nil (g.I.Source.left c.args.source.now),
  nothing_came c.args.native before c.args.progress.now.part.items c.args.calls.now.seen.items none taken,
)

pub part-preserved : goal.part-preserved
part-preserved g c = λ before none taken.
    let come = c.part.invariant before none taken in
    let first = g.I.Source.left c.args.source.now in
    let left = g.I.Source.left c.part.source in
    let after = g.I.Source.left c.read.new.self in (
      come.0 ++ take c.in-Ok.count c.read.new.buf,
      Consumes-trans first left after come.0 (take c.in-Ok.count c.read.new.buf) come.1 c.in-Ok.ensures.bytes.0,
      c.in_ok-take_bytes-in-Ok.ensures before come.0 come.2,
    )

pub returns-in-Ok-eq0 : goal.returns-in-Ok-eq0
returns-in-Ok-eq0 g c = λ before none taken.
    let come = c.part.invariant before none taken in
    let first = g.I.Source.left c.args.source.now in
    let left = g.I.Source.left c.part.source in
    let after = g.I.Source.left c.read.new.self in
    let zero : c.in-Ok-eq0.field-0 ≡ 0 = omega arith in
    let nothing : take c.in-Ok-eq0.field-0 c.read.new.buf ≡ [] = ap (λ (n : ℕ). take n c.read.new.buf) zero in
    let kept : Consumes left after [] = subst (λ (l : List ℕ). Consumes left after l) nothing c.in-Ok-eq0.ensures.bytes.0 in
    let all : Consumes first after (come.0 ++ []) = Consumes-trans first left after come.0 [] come.1 kept in (
      come.0,
      record {
        taken = subst (λ (l : List ℕ). Consumes first after l) (append-nil come.0) all;
        end = c.in-Ok-eq0.ensures.bytes.1 zero (omega arith);
      },
      all_came c.args.native before come.0 c.part.progress.part.items c.part.calls.seen.items c.end_line.new.calls.seen.items come.2
          (c.in_ok-end_line-in-Ok-eq0.ensures.taken (before ++ come.2.lines) come.2.taken),
    )
