use Rattle.std.proofs.Common.{◌≡◌, ℕ, true, take}
use Rattle.std.specs.List.{All}
use Rattle.profile.specs.Policy.{Policy}
use Rattle.differ.specs.Named.{is_named}
use Rattle.widths.specs.Crowded.{AreCrowded}
use Rattle.compare.proofs.lint.decided.add_all.Given as goal

abbrev pub invariant-loop-call : goal.invariant-loop-call
invariant-loop-call l = record {
  crowded : (p : Policy) → All (λ c. AreCrowded p c.token c.nr) l.more → All (λ c. AreCrowded p c.token c.nr) l.initial.list.items
      → All (λ c. AreCrowded p c.token c.nr) l.list.items;
  stay : (t n : ℕ) → is_named l.initial.list.items t n ≡ true → is_named l.list.items t n ≡ true;
  added : (t n : ℕ) → is_named (take l.call-index l.more) t n ≡ true → is_named l.list.items t n ≡ true;
}
