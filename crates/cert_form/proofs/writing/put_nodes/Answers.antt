use Rattle.std.proofs.Common.{◌≡◌, ◌≤◌, true, false, refl, length, inl, inr, arith}
use Rattle.cert_form.specs.Spelling.{node, nothing_stated}
use Rattle.cert_form.specs.Writing.{plain}
use Rattle.cert_form.specs.inner.Standing.{IsPlain}
use Rattle.cert_form.proofs.WriteLaws.{of_item, written_more, all_more}
use Rattle.cert_form.proofs.writing.put_nodes.Goals as goal

pub returns-then-not-states_nothing-clause-refused : goal.returns-then-not-states_nothing-clause-refused
returns-then-not-states_nothing-clause-refused c = λ all.
    let none =
    of_item (λ n. n.regs.scratch ≡ nothing_stated) plain c.args.nodes.now c.loop-n.n-index c.n-item.result c.loop-n-test.true
    c.n-item.is all in
    absurd (let e : false ≡ true = c.if-not-states_nothing.ensures.1 none in cc)

pub returns-then-len-gt-MAX_LITERALS-clause-refused : goal.returns-then-len-gt-MAX_LITERALS-clause-refused
returns-then-len-gt-MAX_LITERALS-clause-refused c = inr (inr (inl (λ all.
    let few = of_item
    (λ n. length n.known ≤ 512) plain c.args.nodes.now c.loop-n.n-index c.n-item.result c.loop-n-test.true c.n-item.is all in
    omega (arith, few, c.len.ensures, c.if-len-gt-MAX_LITERALS.true))))

pub loop-n-preserved : goal.loop-n-preserved
loop-n-preserved c =
    let one : IsPlain (plain c.n-item.result) = record {
      no_scratch = c.if-not-states_nothing.ensures.0 refl;
      none_out = refl;
      none_met = refl;
      not_sharp = refl;
      few = omega (arith, c.len.ensures, c.if-len-gt-MAX_LITERALS.false);
    } in
    record {
      written = written_more plain node c.args.nodes.now c.loop-n.n-index c.n-item.result c.args.out.now.items
          c.loop-n.out.items c.put_node.new.out.items
          c.loop-n-test.true c.n-item.is c.loop-n.invariant.written c.in_ok-put_node.ensures;
      plain = all_more IsPlain plain c.args.nodes.now c.loop-n.n-index c.n-item.result c.loop-n-test.true c.n-item.is
          c.loop-n.invariant.plain one;
    }
