use Rattle.std.proofs.Common.{◌+◌, ◌<◌, length, sym, arith, rules}
use Rattle.std.proofs.lemmas.Bool.Decides.{nat_tests}
use Rattle.bpf_asm.proofs.Texts.{IsAfter, at_last, at_line, line_ok, more_insns, one_more, shorter}
use Rattle.bpf_asm.proofs.assembling.read_lines.Goals as goal

pub returns-in_default-clause-fault : goal.returns-in_default-clause-fault
returns-in_default-clause-fault c =
    let before = c.loop-rest.insns in
    let there : IsAfter c.args.text.now before.items (c.len-line.result + 1) c.loop-rest.rest.now = record {
      each = c.loop-rest.invariant.each;
      split = c.loop-rest.invariant.split;
      count = omega (arith, before.ok.0);
      few = omega (arith, before.ok.0, c.loop-rest.invariant.limit);
    } in
    let some : 0 < length c.loop-rest.rest.now = grind (arith, nat_tests) in
    at_last c.args.text.now before.items c.loop-rest.rest.now (c.len-line.result + 1)
    c.read_line.result c.err.result c.unwrap_or-fault.result there (grind (arith, nat_tests)) some
    (sym c.in_default.ensures) (sym c.read_line.ensures) c.err.ensures.value c.unwrap_or-fault.ensures

pub returns-in-Err-clause-fault : goal.returns-in-Err-clause-fault
returns-in-Err-clause-fault c =
    let before = c.loop-rest.insns in
    let there : IsAfter c.args.text.now before.items (c.len-line.result + 1) c.loop-rest.rest.now = record {
      each = c.loop-rest.invariant.each;
      split = c.loop-rest.invariant.split;
      count = omega (arith, before.ok.0);
      few = omega (arith, before.ok.0, c.loop-rest.invariant.limit);
    } in
    at_line c.args.text.now before.items c.loop-rest.rest.now c.in-Some.own.now c.in-Some.after.now (c.len-line.result + 1) c.in-Err.fault
    there (grind (arith, nat_tests)) (sym c.in-Some.ensures) (sym c.in-Err.ensures)

pub loop-rest-smaller : goal.loop-rest-smaller
loop-rest-smaller c = shorter c.loop-rest.rest.now c.in-Some.own.now c.in-Some.after.now (sym c.in-Some.ensures)

pub loop-rest-preserved : goal.loop-rest-preserved
loop-rest-preserved c =
    let before = c.loop-rest.insns in
    let read = line_ok c.in-Some.own.now c.in-Ok.insn (sym c.in-Ok.ensures) in
    let longer = c.in_ok-push-in-Ok.ensures.items in
    record {
      split = rw longer (one_more c.args.text.now before.items c.in-Ok.insn c.loop-rest.rest.now c.in-Some.own.now c.in-Some.after.now
          c.loop-rest.invariant.split (sym c.in-Some.ensures) read.1);
      each = rw longer (more_insns before.items c.in-Ok.insn c.loop-rest.invariant.each read.0);
      limit = omega (arith, c.in_ok-push-in-Ok.ensures.len);
      utf8 = search rules;
    }
