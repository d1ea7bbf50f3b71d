use Rattle.std.proofs.Common.{◌≤◌, ap, arith}
use Rattle.cert_form.specs.Reading.{tail_length}
use Rattle.cert_form.specs.declared.node.Kind.{Kind}
use Rattle.cert_form.specs.declared.node.Kind.TheVariants.{Step, Split, Return, Dead}
use Rattle.cert_form.specs.Spelling.{kind_number}
use Rattle.cert_form.proofs.WriteLaws.{length-chained}
use Rattle.cert_form.proofs.chain_writing.size_of.Goals as goal

short_tail : (k : Kind) → tail_length (kind_number k) ≤ 28
short_tail (Step first second) = omega arith
short_tail (Split a b first second) = omega arith
short_tail Return = omega arith
short_tail Dead = omega arith

pub overflow_add-result : goal.overflow_add-result
overflow_add-result c = omega (arith, c.scratch_size.ensures.few)

pub overflow_add-result-2 : goal.overflow_add-result-2
overflow_add-result-2 c =
    omega (arith, c.scratch_size.ensures.few, c.tail_size.ensures, ap tail_length c.tag_of.ensures, short_tail c.args.n.now.kind)

pub returns-clause-size : goal.returns-clause-size
returns-clause-size c =
    omega (
      arith,
      length-chained c.args.version c.args.n.now,
      c.scratch_size.ensures.size,
      c.tail_size.ensures,
      ap tail_length c.tag_of.ensures,
    )

pub returns-clause-few : goal.returns-clause-few
returns-clause-few c =
    omega (arith, c.scratch_size.ensures.few, c.tail_size.ensures, ap tail_length c.tag_of.ensures, short_tail c.args.n.now.kind)
