use Rattle.std.proofs.Common.{◌≡◌, ◌+◌, ◌++◌, List, ℕ, drop, ap, sym, subst, ◌∙◌, arith}
use Rattle.std.proofs.lemmas.List.{append-nil, drop_all}
use Rattle.cert_form.specs.Spelling.{offsets}
use Rattle.cert_form.proofs.WriteLaws.{offset_more}
use Rattle.cert_form.proofs.chain_writing.put_offsets.Goals as goal

pub loop-n-preserved : goal.loop-n-preserved
loop-n-preserved c =
    let all : List ℕ = c.args.out.now.items ++ offsets c.args.version c.args.first c.args.nodes.now in
    record {
      written = subst (λ k. c.put_long.new.out.items ++ offsets c.args.version (c.loop-n.at + k)
          (drop (c.loop-n.n-index + 1) c.args.nodes.now) ≡ all)
          (sym c.size_of-at.ensures.size)
          (offset_more c.args.version c.loop-n.at c.args.nodes.now c.loop-n.n-index _ c.loop-n.out.items
          c.put_long.new.out.items all c.loop-n-test.true
          c.loop-n.invariant.written c.in_ok-put_long.ensures);
      bound = omega (arith, c.loop-n.invariant.bound, c.size_of-at.ensures.few);
    }

pub returns : goal.returns
returns c =
    let done = ap (λ ms. c.loop-n.out.items ++ offsets c.args.version c.loop-n.at ms)
    (drop_all c.loop-n.n-index c.args.nodes.now c.loop-n-test.false) in
    sym (append-nil c.loop-n.out.items) ∙ (sym done ∙ c.loop-n.invariant.written)
