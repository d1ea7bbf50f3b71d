-- Fields are read as a command exactly where they are its fields.
use Rattle.std.proofs.Common.{◌≡◌, ℕ, ◌≤◌, ◌⊎◌, true, false, cond, List, [], ◌∷◌, ◌++◌, length, refl, ap, sym, ◌∙◌, inl, inr, subst}
use Rattle.std.proofs.Common.{arith, length-append}
use Rattle.std.specs.Prelude.{Option, Some, None, option_and_then, codes}
use Rattle.std.specs.Option.{option_map}
use Rattle.std.specs.Str.{bytes_eq}
use Rattle.std.proofs.lemmas.Option.{same_Some}
use Rattle.std.proofs.lemmas.Slice.Eq.{bytes_eq-Decides}
use Rattle.machines.specs.declared.arch.Arch.{Arch}
use Rattle.script.specs.Commands.{Command, Create, Start, Delete, State, Kill, Call}
use Rattle.script.specs.Grammar.{AreCall, AreFieldsOf}
use Rattle.script.specs.inner.Reading.{arguments_at, call_at, command_from, command_of_more, command_of_three, command_of_two, number_at}
use Rattle.script.specs.inner.Reading.{program_at, what_at}
use Rattle.texts.proofs.Options.{bind_some, chosen, map_some, tested}
use Rattle.script.proofs.NumberLaws.{number_at-is, number_at-some}
use Rattle.script.proofs.WhatLaws.{what_at-is, what_at-some}
use Rattle.script.proofs.ArgumentLaws.{Given, arguments_at-is, arguments_at-some, length-given-le, length-program-le, program-stops}
use Rattle.script.proofs.ArgumentLaws.{program_at-is, program_at-some}

same_verb : (verb text : List ℕ) (more : List (List ℕ)) → bytes_eq verb text ≡ true → verb ∷ more ≡ text ∷ more
same_verb verb text more h = ap (λ w. w ∷ more) ((bytes_eq-Decides verb text).0 h)

-- Two fields.

-- a command that a field chooses, or what else there is
chosen_verb : (native : Arch) (verb text : List ℕ) (more : List (List ℕ)) (command o : Command) (rest : Option Command)
    → (verb ∷ more ≡ text ∷ more → AreFieldsOf native (verb ∷ more) command) → (rest ≡ Some o → AreFieldsOf native (verb ∷ more) o)
    → cond (bytes_eq verb text) (Some command) rest ≡ Some o → AreFieldsOf native (verb ∷ more) o
chosen_verb native verb text more command o rest here there h =
    by_side (chosen (bytes_eq verb text) (Some command) rest o h) where
      by_side : ((bytes_eq verb text ≡ true) × (Some command ≡ Some o)) ⊎ ((bytes_eq verb text ≡ false) × (rest ≡ Some o))
          → AreFieldsOf native (verb ∷ more) o
      by_side (inl g) =
          let P : Command → Type 0 = λ x. AreFieldsOf native (verb ∷ more) x in
          subst P (same_Some command o g.1) (here (same_verb verb text more g.0))
      by_side (inr g) = there g.1

two-some : (native : Arch) (verb id : List ℕ) (o : Command) → command_of_two verb id ≡ Some o → AreFieldsOf native (verb ∷ id ∷ []) o
unfolding command_of_two
two-some native verb id o h =
    chosen_verb native verb (codes "start") (id ∷ []) (Start id) o _ (λ e. e)
    (λ g. chosen_verb native verb (codes "delete") (id ∷ []) (Delete id) o _ (λ e. e)
    (λ k. chosen_verb native verb (codes "state") (id ∷ []) (State id) o None (λ e. e) (λ n. absurd (cc)) k) g) h

start-read : (id : List ℕ) → command_of_two (codes "start") id ≡ Some (Start id)
unfolding command_of_two
start-read id = refl

delete-read : (id : List ℕ) → command_of_two (codes "delete") id ≡ Some (Delete id)
unfolding command_of_two
delete-read id = refl

state-read : (id : List ℕ) → command_of_two (codes "state") id ≡ Some (State id)
unfolding command_of_two
state-read id = refl

-- Three fields.

kill-some : (native : Arch) (verb id last : List ℕ) (o : Command)
    → cond {A = Option Command} (bytes_eq verb (codes "kill")) (option_map (Kill id) (number_at last)) None ≡ Some o
    → AreFieldsOf native (verb ∷ id ∷ last ∷ []) o
kill-some native verb id last o h =
    let t = tested (bytes_eq verb (codes "kill")) (option_map (Kill id) (number_at last)) o h in
    let m = map_some (number_at last) (Kill id) o t.1 in
    let P : Command → Type 0 = λ x. AreFieldsOf native (verb ∷ id ∷ last ∷ []) x in
    subst P m.2 (last, same_verb verb (codes "kill") (id ∷ last ∷ []) t.0, number_at-some last m.0 m.1)

three-some : (native : Arch) (verb id last : List ℕ) (o : Command) → command_of_three verb id last ≡ Some o
    → AreFieldsOf native (verb ∷ id ∷ last ∷ []) o
unfolding command_of_three
three-some native verb id last o h =
    chosen_verb native verb (codes "create") (id ∷ last ∷ []) (Create id last) o _ (λ e. e) (kill-some native verb id last o) h

create-read : (id bundle : List ℕ) → command_of_three (codes "create") id bundle ≡ Some (Create id bundle)
unfolding command_of_three
create-read id bundle = refl

kill-read : (id digits : List ℕ) → command_of_three (codes "kill") id digits ≡ option_map (Kill id) (number_at digits)
unfolding command_of_three
kill-read id digits = refl

-- A call.

abbrev Ended : Type 0
Ended = List ℕ × List (List ℕ)

abbrev with_program : List ℕ → ℕ → Arch × ℕ → Ended → Option (List ℕ) → Option Command
with_program id t w args p = Some (Call id t w.0 w.1 args.0 p)

abbrev with_arguments : List ℕ → ℕ → Arch × ℕ → Ended → Option Command
with_arguments id t w args = option_and_then (λ p. with_program id t w args p) (program_at args.1)

abbrev with_what : List ℕ → List (List ℕ) → ℕ → Arch × ℕ → Option Command
with_what id rest t w = option_and_then (λ args. with_arguments id t w args) (arguments_at rest)

abbrev with_task : Arch → List ℕ → List ℕ → List (List ℕ) → ℕ → Option Command
with_task native id what rest t = option_and_then (λ w. with_what id rest t w) (what_at native what)

call-in_turn : (native : Arch) (id task what : List ℕ) (rest : List (List ℕ))
    → call_at native id task what rest ≡ option_and_then (λ t. with_task native id what rest t) (number_at task)
unfolding call_at
call-in_turn native id task what rest = refl

call-some : (native : Arch) (id task what : List ℕ) (rest : List (List ℕ)) (o : Command) → call_at native id task what rest ≡ Some o
    → AreFieldsOf native (codes "call" ∷ id ∷ task ∷ what ∷ rest) o
call-some native id task what rest o h =
    let t = bind_some (number_at task) (λ t. with_task native id what rest t) o (sym (call-in_turn native id task what rest) ∙ h) in
    let w = bind_some (what_at native what) (λ w. with_what id rest t.0 w) o t.2 in
    let a = bind_some (arguments_at rest) (λ args. with_arguments id t.0 w.0 args) o w.2 in
    let p = bind_some (program_at a.0.1) (λ p. with_program id t.0 w.0 a.0 p) o a.2 in
    let six = arguments_at-some rest a.0 a.1 in
    let fields : AreCall native (task ∷ what ∷ rest) t.0 w.0.0 w.0.1 a.0.0 p.0 = record {
      task_field = task;
      what_field = what;
      given = six.0.given;
      end = a.0.1;
      parts = ap (λ x. task ∷ what ∷ x) six.0.parts;
      task_is = number_at-some task t.0 t.1;
      what_is = what_at-some native what w.0 w.1;
      arguments = six.0.arguments;
      six = six.1;
      program_is = program_at-some a.0.1 p.0 p.1;
    } in
    let P : Command → Type 0 = λ x. AreFieldsOf native (codes "call" ∷ id ∷ task ∷ what ∷ rest) x in
    subst P (same_Some (Call id t.0 w.0.0 w.0.1 a.0.0 p.0) o p.2) (task ∷ what ∷ rest, refl, fields)

call-is : (native : Arch) (id : List ℕ) (fields : List (List ℕ)) (task : ℕ) (arch : Arch) (nr : ℕ) (args : List ℕ) (program : Option (List ℕ))
    → (c : AreCall native fields task arch nr args program)
    → call_at native id c.task_field c.what_field (c.given ++ c.end) ≡ Some (Call id task arch nr args program)
call-is native id fields task arch nr args program c =
    let rest : List (List ℕ) = c.given ++ c.end in
    let given : Given rest args c.end = record { given = c.given; parts = refl; arguments = c.arguments } in
    call-in_turn native id c.task_field c.what_field rest
    ∙ ap (option_and_then (λ t. with_task native id c.what_field rest t)) (number_at-is c.task_field task c.task_is)
    ∙ ap (option_and_then (λ w. with_what id rest task w)) (what_at-is native c.what_field arch nr c.what_is)
    ∙ ap (option_and_then (λ a. with_arguments id task (arch, nr) a))
    (arguments_at-is rest c.end args (program-stops c.end program c.program_is) c.six given)
    ∙ ap (option_and_then (λ p. with_program id task (arch, nr) (args, c.end) p)) (program_at-is c.end program c.program_is)

more-some : (native : Arch) (verb id task what : List ℕ) (rest : List (List ℕ)) (o : Command)
    → command_of_more native verb id task what rest ≡ Some o → AreFieldsOf native (verb ∷ id ∷ task ∷ what ∷ rest) o
unfolding command_of_more
more-some native verb id task what rest o h =
    let t = tested (bytes_eq verb (codes "call")) (call_at native id task what rest) o h in
    let P : List (List ℕ) → Type 0 = λ x. AreFieldsOf native x o in
    subst P (sym (same_verb verb (codes "call") (id ∷ task ∷ what ∷ rest) t.0)) (call-some native id task what rest o t.1)

call-read : (native : Arch) (id task what : List ℕ) (rest : List (List ℕ))
    → command_of_more native (codes "call") id task what rest ≡ call_at native id task what rest
unfolding command_of_more
call-read native id task what rest = refl

-- Any fields.

pub command_from-some : (native : Arch) (fields : List (List ℕ)) (o : Command) → command_from native fields ≡ Some o → AreFieldsOf native fields o
command_from-some native [] o h = absurd (cc)
command_from-some native (verb ∷ []) o h = absurd (cc)
command_from-some native (verb ∷ id ∷ []) o h = two-some native verb id o h
command_from-some native (verb ∷ id ∷ last ∷ []) o h = three-some native verb id last o h
command_from-some native (verb ∷ id ∷ task ∷ what ∷ rest) o h = more-some native verb id task what rest o h

pub command_from-is : (native : Arch) (fields : List (List ℕ)) (o : Command) → AreFieldsOf native fields o → command_from native fields ≡ Some o
command_from-is native fields (Create id bundle) h = ap (command_from native) h ∙ create-read id bundle
command_from-is native fields (Start id) h = ap (command_from native) h ∙ start-read id
command_from-is native fields (Delete id) h = ap (command_from native) h ∙ delete-read id
command_from-is native fields (State id) h = ap (command_from native) h ∙ state-read id
command_from-is native fields (Kill id signal) (digits, spelled, number) =
    ap (command_from native) spelled ∙ kill-read id digits ∙ ap (option_map (Kill id)) (number_at-is digits signal number)
command_from-is native fields (Call id task arch nr args program) (rest, spelled, c) =
    ap (command_from native) (spelled ∙ ap (λ x. codes "call" ∷ id ∷ x) c.parts)
    ∙ call-read native id c.task_field c.what_field (c.given ++ c.end) ∙ call-is native id rest task arch nr args program c

-- a command has twelve fields at most
pub length-fields-le : (native : Arch) (fields : List (List ℕ)) (o : Command) → AreFieldsOf native fields o → length fields ≤ 12
length-fields-le native fields (Create id bundle) h = omega (arith, ap length h)
length-fields-le native fields (Start id) h = omega (arith, ap length h)
length-fields-le native fields (Delete id) h = omega (arith, ap length h)
length-fields-le native fields (State id) h = omega (arith, ap length h)
length-fields-le native fields (Kill id signal) (digits, spelled, number) = omega (arith, ap length spelled)
length-fields-le native fields (Call id task arch nr args program) (rest, spelled, c) =
    omega (arith, ap length spelled, ap length c.parts, length-append c.given c.end, length-given-le c.given args c.arguments, length-program-le c.end program c.program_is, c.six)
