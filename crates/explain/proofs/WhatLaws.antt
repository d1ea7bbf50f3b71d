-- Which call the line of a word asks for.
use Rattle.std.proofs.Common.{◌≡◌, ℕ, List, ◌++◌, subst, sym}
use Rattle.std.specs.Prelude.{Option, None, Some, IfSome, codes}
use Rattle.machines.specs.declared.arch.Arch.{Arch}
use Rattle.explain.specs.Any.{IsWhat}
use Rattle.explain.specs.inner.Found.{call_of}
use Rattle.script.specs.Commands.{Command, Create, Start, Delete, State, Kill, Call}
use Rattle.script.specs.Grammar.{LineIs}
use Rattle.script.specs.Laws.{OneCommand}

module _ (native : Arch) (line word : List ℕ) (same : line ≡ codes "call c 1 " ++ word) where
  pub what_found : (command : Command) → LineIs native line (Some command)
      → IfSome (call_of command) (λ (call : Arch × ℕ). IsWhat native word call.0 call.1)
  what_found (Call id task arch nr args None) is = record {
    id = id;
    task = task;
    args = args;
    is_line = subst (λ (l : List ℕ). LineIs native l (Some (Call id task arch nr args None))) same is;
  }
  what_found (Call id task arch nr args (Some program)) is = tt
  what_found (Create id bundle) is = tt
  what_found (Start id) is = tt
  what_found (Delete id) is = tt
  what_found (State id) is = tt
  what_found (Kill id signal) is = tt

  its_line : (arch : Arch) (nr : ℕ) (on : IsWhat native word arch nr) → LineIs native line (Some (Call on.id on.task arch nr on.args None))
  its_line arch nr on =
      subst (λ (l : List ℕ). LineIs native l (Some (Call on.id on.task arch nr on.args None))) (sym same) on.is_line

  abbrev pub called : Option Command → Option (Arch × ℕ)
  called None = None
  called (Some command) = call_of command

  pub what_none : OneCommand → (o : Option Command) → LineIs native line o → called o ≡ None → (arch : Arch) (nr : ℕ)
      → IsWhat native word arch nr → ⊥
  what_none one o is none arch nr on =
      let e : o ≡ Some (Call on.id on.task arch nr on.args None) = one native line _ _ is (its_line arch nr on) in
      let some : called (Some (Call on.id on.task arch nr on.args None)) ≡ None =
      subst (λ (x : Option Command). called x ≡ None) e none in
      absurd (cc)
