use Rattle.std.proofs.Common.{◌++◌, ◌∙◌, Err, ap, arith, length}
use Rattle.std.proofs.lemmas.List.{length-append}
use Rattle.flatten.proofs.AboveLaws.{above_plain, is_above, same_length}
use Rattle.flatten.proofs.SizeLaws.{never_long, passed_on}
use Rattle.flatten.proofs.above.above.Goals as goal

pub returns-clause-above : goal.returns-clause-above
returns-clause-above c =
    let q = c.put_turned.new.program.items in
    is_above c.args.newer.now c.args.older.now c.put_turned.new.area.items q c.extend_from_slice.new.self.items c.requires.newer_plain
    c.in_ok-put_turned.ensures.turned (c.in_ok-extend_from_slice.ensures.items ∙ ap (λ l. q ++ l) c.deref.ensures.value)

pub returns-clause-plain : goal.returns-clause-plain
returns-clause-plain c =
    let q = c.put_turned.new.program.items in
    above_plain c.args.newer.now c.args.older.now c.put_turned.new.area.items q c.extend_from_slice.new.self.items c.requires.newer_plain
    c.in_ok-put_turned.ensures.turned c.in_ok-put_turned.ensures.more.plain
    (c.in_ok-extend_from_slice.ensures.items ∙ ap (λ l. q ++ l) c.deref.ensures.value)

pub returns-in_err-put_turned-clause-long : goal.returns-in_err-put_turned-clause-long
returns-in_err-put_turned-clause-long c long =
    let is = c.in_err-put_turned.ensures.long (ap Err (passed_on c.from_residual.result c.in_err-put_turned.field-0.0 c.from_residual.ensures.1 long)) in
    omega (arith, is)

pub returns-then-len-gt-MAX_INSNS-clause-long : goal.returns-then-len-gt-MAX_INSNS-clause-long
returns-then-len-gt-MAX_INSNS-clause-long c long =
    let same = same_length c.args.older.now c.put_turned.new.area.items c.args.newer.now c.put_turned.new.program.items c.in_ok-put_turned.ensures.turned in
    let size = c.in_ok-put_turned.ensures.size in
    omega (arith, same, size)

pub returns-clause-most : goal.returns-clause-most
returns-clause-most c =
    let same = same_length c.args.older.now c.put_turned.new.area.items c.args.newer.now c.put_turned.new.program.items c.in_ok-put_turned.ensures.turned in
    let size = c.in_ok-put_turned.ensures.size in
    let whole = ap length c.in_ok-extend_from_slice.ensures.items ∙ length-append c.put_turned.new.program.items c.deref.result.now in
    let area = ap length c.deref.ensures.value in
    omega (arith, same, size, whole, area)

pub returns-in_err-extend_from_slice-clause-long : goal.returns-in_err-extend_from_slice-clause-long
returns-in_err-extend_from_slice-clause-long c long =
    absurd (never_long c.from_residual-in_err-extend_from_slice.result c.from_residual-in_err-extend_from_slice.ensures.1 long)
