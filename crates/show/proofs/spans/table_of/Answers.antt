use Rattle.std.proofs.Common.{◌≡◌, ◌+◌, ◌-◌, ◌++◌, ◌∷◌, [], List, ℕ, length, ap, sym, subst, ◌∙◌, arith}
use Rattle.bpf_insn.specs.Program.{insns}
use Rattle.show.specs.declared.spans.Spans.{Spans}
use Rattle.show.specs.inner.Covering.{AreSpans, Covers}
use Rattle.show.proofs.Spanning.{covers_more, longer}
use Rattle.show.proofs.spans.table_of.Goals as goal

pub loop-place-preserved : goal.loop-place-preserved
loop-place-preserved c =
    let p = insns c.program-program.result in
    let pc : ℕ = c.len-count.result - 1 - c.loop-place.place in
    let table : List Spans = c.loop-place.table.items in
    let spans : Spans = c.spans_at-spans.result in
    let whole : c.len-count.result ≡ length p = c.len-count.ensures.count in
    let more : c.push.new.self.items ≡ table ++ spans ∷ [] = c.in_ok-push.ensures.items in
    let size : length table + pc + 1 ≡ length p = omega (arith, c.loop-place.invariant.size, c.loop-place-test.true, whole) in
    let all = subst (λ l. Covers p c.args.arch c.args.nr l × (length l + pc + 1 ≡ length p)) (sym c.deref.ensures.value)
    (c.loop-place.invariant.covers, size) in
    let here : AreSpans p c.args.arch c.args.nr pc spans = c.spans_at-spans.ensures p pc all.0 all.1 c.get-insn.ensures in
    record {
      covers =
          subst (Covers p c.args.arch c.args.nr) (sym more)
          (covers_more p c.args.arch c.args.nr pc table spans c.loop-place.invariant.covers size here);
      size = ap length more ∙ (longer table spans ∙ ap (λ k. k + 1) c.loop-place.invariant.size);
    }
