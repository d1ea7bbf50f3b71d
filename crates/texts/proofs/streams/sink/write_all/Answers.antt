use Rattle.std.proofs.Common.{◌-◌, ◌++◌, length, length-drop, take, drop, ap, sym, ◌∙◌, arith}
use Rattle.std.proofs.lemmas.Grind.{common_steps}
use Rattle.std.proofs.lemmas.List.{take_all}
use Rattle.std.proofs.Math.Seq.{take-add}
use Rattle.texts.proofs.SinkLemmas.{Appends-then, no_failure}
use Rattle.texts.proofs.streams.sink.write_all.Goals as goal

pub write-preserved : goal.write-preserved
write-preserved g c = record {
  within = grind (arith, common_steps);
  written = Appends-then _ _ _ (take c.write.out c.args.bytes.now) _ _ (take-add c.write.out c.in-Ok.n c.args.bytes.now
      ∙ ap (λ t. take c.write.out c.args.bytes.now ++ take c.in-Ok.n t) (sym (take_all (length c.args.bytes.now - c.write.out) (drop c.write.out c.args.bytes.now) (omega (arith, length-drop c.write.out c.args.bytes.now))))) c.write.invariant.written c.in-Ok.ensures.bytes;
  failures = c.in-Ok.ensures.count_failed ∙ (no_failure c.in-Ok.n _ _ c.in-Ok.n-test.1 ∙ c.write.invariant.failures);
}
