use Rattle.std.proofs.Common.{◌≡◌, ℕ, List, None, is_some, true, false, sym, ap, subst, ◌∙◌}
use Rattle.std.specs.Map.{lookup}
use Rattle.processes.specs.Views.{same_text}
use Rattle.lifecycle.specs.Entries.{started_in, world_from}
use Rattle.lifecycle.specs.Listed.{listed}
use Rattle.lifecycle.specs.Sound.{SoundIn}
use Rattle.lifecycle.specs.Views.{world_of}
use Rattle.lifecycle.proofs.runtime.Runtime.new.Goals as goal

pub invariant_of-result : goal.invariant_of-result
invariant_of-result g c =
    let none : (q : List ℕ) → lookup (same_text q) (listed c.new.result) ≡ None = λ q. ap (lookup (same_text q)) c.new.ensures in
    record {
      ids = λ q h. let bad : false ≡ true = sym (ap is_some (none q)) ∙ h in absurd (cc);
      in_step = λ q. ap is_some (c.requires q) ∙ sym (ap started_in (none q));
      sound = λ q. subst SoundIn (sym (c.requires q)) tt;
    }

pub returns : goal.returns
unfolding world_of
returns g c = ap (world_from (g.K.Kernel.processes c.args.kernel)) c.new.ensures
