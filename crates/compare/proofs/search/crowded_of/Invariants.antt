use Rattle.std.proofs.Common.{◌≡◌, ℕ, true, take}
use Rattle.std.specs.List.{All, list_any}
use Rattle.profile.specs.Policy.{Policy}
use Rattle.differ.specs.OnCall.{AreCrowded}
use Rattle.differ.specs.Named.{is_named}
use Rattle.compare.specs.Complete.{IsCrowded, is_crowded}
use Rattle.compare.specs.Past.{IsUndecided}
use Rattle.widths.specs.Crowded as past
use Rattle.compare.proofs.search.crowded_of.Given as goal

abbrev pub invariant-loop-call : goal.invariant-loop-call
invariant-loop-call l = record {
  are : (p q : Policy) → All (λ call. AreCrowded p q call.token call.nr) l.calls → All (IsCrowded l.family p q) l.list.items;
  undecided : (p : Policy) → All (λ call. past.AreCrowded p call.token call.nr) l.calls → All (IsUndecided l.family p) l.list.items;
  named : (t n : ℕ) → is_named (take l.call-index l.calls) t n ≡ true → list_any (is_crowded t n) l.list.items ≡ true;
}
