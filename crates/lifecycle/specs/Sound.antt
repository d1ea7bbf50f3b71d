-- What is true of the tasks of a container that the kernel has, whatever they did.
use Rattle.std.specs.Prelude.{IsTrue, List, [], ◌∷◌, Option, None, Some}
use Rattle.std.proofs.Props.{props}
use Rattle.processes.specs.Laws.{Each, GroupsAreLed, HasEnded, NoneOutlives, is_led}
use Rattle.processes.specs.Tasks.{Process, Processes, in_order}

pub record IsSound (ps : Processes) : Type 0 where
  pub order : IsTrue (in_order ps)
  pub led : GroupsAreLed ps.tasks
  pub none_outlives : NoneOutlives ps

abbrev pub SoundIn : Option Processes → Type 0
SoundIn None = Unit {0}
SoundIn (Some ps) = IsSound ps

-- each of these is a fact

each_prop : (P : Process → Type 0) → ((t : Process) → IsProp (P t)) → (ts : List Process) → IsProp (Each P ts)
each_prop P h [] = hlevel props
each_prop P h (t ∷ ts) = hlevel (h t, each_prop P h ts)

pub SoundIn-prop : (o : Option Processes) → IsProp (SoundIn o)
SoundIn-prop None = hlevel props
SoundIn-prop (Some ps) =
    hlevel (
      props,
      each_prop HasEnded (λ t. hlevel props) ps.tasks,
      each_prop (λ t. IsTrue (is_led t.group ps.tasks)) (λ t. hlevel props) ps.tasks,
    )
