use Rattle.std.proofs.Common.{◌≡◌, length, arith, min, rules}
use Rattle.std.proofs.lemmas.Slice.Zip.{zip_end}
use Rattle.rule_compile.proofs.RulesLaws.{same_at}
use Rattle.rule_compile.proofs.asked.are_alike.Goals as goal

pub returns : goal.returns
returns c = λ is.
    let long : length c.args.these.now ≡ length c.args.others.now = search rules in
    let end : length c.loop-this.yielded ≡ min (length c.args.these.now) (length c.args.others.now) =
    zip_end c.args.these.now c.args.others.now c.loop-this.yielded c.into_iter-this-iterator.result c.loop-this.this-iterator c.next.new.self c.next.result
    (search rules) (search rules) c.loop-this.yielded_by c.in-None.is c.next.ensures.steps in
    same_at c.args.these.now c.args.others.now long (λ k d e lt. c.loop-this.invariant k d e (omega (arith, lt, long, end)))
