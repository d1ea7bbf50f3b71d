-- Only a state that is told is a reply that takes memory, and the program of a line has room.
use Rattle.std.proofs.Common.{◌≡◌, ℕ, ◌*◌, ◌≤◌, Bool, true, false, List, [], ◌∷◌, ◌++◌, length, refl, ap, ◌∙◌, arith, length-append}
use Rattle.std.specs.Prelude.{Option, Some, None, codes, if◌then◌else◌, nat_lt}
use Rattle.std.specs.List.{join_with_byte}
use Rattle.cert_check.specs.declared.checked.Checked.{Checked}
use Rattle.processes.specs.Ids.{is_id}
use Rattle.processes.specs.declared.outcome.Outcome.{Outcome}
use Rattle.processes.specs.declared.outcome.Outcome.TheVariants.{Done, Failed, Absent, Denied, Answered, Declined, NoTask}
use Rattle.lifecycle.specs.declared.command.Reply.{Reply}
use Rattle.lifecycle.specs.declared.command.Reply.TheVariants.{Accepted, Refused, Presented, IsIn}
use Rattle.lifecycle.specs.declared.command.Status.{Status}
use Rattle.lifecycle.specs.declared.command.Status.TheVariants.{Created, Running, Stopped}
use Rattle.lifecycle.specs.declared.fault.Refusal.TheVariants.{NoContainer}
use Rattle.lifecycle.specs.Commands.{Command}
use Rattle.lifecycle.specs.Commands.Command.{Create, Start, Kill, Delete, State, Call}
use Rattle.lifecycle.specs.Steps.{call, create, delete, first_call, kill, known, start, start_reply, step}
use Rattle.lifecycle.specs.Worlds.{Container, First, World, container_at}
use Rattle.texts.specs.Lines.{space}
use Rattle.machines.specs.declared.arch.Arch.{Arch}
use Rattle.script.specs.Commands as script
use Rattle.script.specs.Grammar.{IsCommand}
use Rattle.script.specs.Numbers.{AreBytes}
use Rattle.session.specs.inner.Carried.{Fits}
use Rattle.session.specs.Wants.{TellsState}

-- Replies.

-- whether a reply tells a state
abbrev tells : Reply → Bool
tells Accepted = false
tells (Refused r) = false
tells (Presented o) = false
tells (IsIn s) = true

started : (o : Outcome) → tells (start_reply o) ≡ false
started (Done n) = refl
started (Failed e) = refl
started Absent = refl
started (Denied v) = refl
started (Answered n) = refl
started (Declined e) = refl
started NoTask = refl

by_test : (b : Bool) (r s : Reply) (x y : Option Container) → tells r ≡ false → tells s ≡ false
    → tells (if◌then◌else◌ {A = Reply × Option Container} b (r, x) (s, y)).0 ≡ false
by_test true r s x y h g = h
by_test false r s x y h g = g

created : (F : First) (given : Checked) (o : Option Container) → tells (create F given o).0 ≡ false
created F given None = refl
created F given (Some c) = refl

create_told : (b : Bool) (F : First) (given : Checked) (o : Option Container) (r : Reply) → tells r ≡ false
    → tells (if b then create F given o else (r, o)).0 ≡ false
create_told true F given o r h = created F given o
create_told false F given o r h = h

start_told : (s : Status) (c : Container) → tells (start s c).0 ≡ false
start_told Created c = started (first_call c.processes.native c.first).0
start_told Running c = refl
start_told Stopped c = refl

kill_told : (sig : ℕ) (s : Status) (c : Container) → tells (kill sig s c).0 ≡ false
kill_told sig Created c = by_test (nat_lt 64 sig) _ _ _ _ refl refl
kill_told sig Running c = by_test (nat_lt 64 sig) _ _ _ _ refl refl
kill_told sig Stopped c = refl

delete_told : (s : Status) (c : Container) → tells (delete s c).0 ≡ false
delete_told Created c = refl
delete_told Running c = refl
delete_told Stopped c = refl

through : (o : Option Container) (next : Container → Reply × Option Container) → ((c : Container) → tells (next c).0 ≡ false)
    → tells (known o next).0 ≡ false
through None next h = refl
through (Some c) next h = h c

not_told : (r : Reply) (s : Status) → tells r ≡ false → IsIn s ≡ r → ⊥
not_told r s h e = let no_way : true ≡ false = ap tells e ∙ h in absurd (cc)

-- a state is told only of a container that is there
pub state_told : (F : First) (o : Command) (w : World) (s : Status) → IsIn s ≡ (step F o w).0 → TellsState o w
state_told F (Create id given) w s e =
    not_told (step F (Create id given) w).0 s (create_told (is_id id) F given (container_at id w) _ refl) e
state_told F (Start id) w s e =
    not_told (step F (Start id) w).0 s (through (container_at id w) (λ c. start c.status c) (λ c. start_told c.status c)) e
state_told F (Kill id sig) w s e =
    not_told (step F (Kill id sig) w).0 s (through (container_at id w) (λ c. kill sig c.status c) (λ c. kill_told sig c.status c)) e
state_told F (Delete id) w s e =
    not_told (step F (Delete id) w).0 s (through (container_at id w) (λ c. delete c.status c) (λ c. delete_told c.status c)) e
state_told F (Call id task r a) w s e =
    not_told (step F (Call id task r a) w).0 s
    (through (container_at id w) (λ c. call task r a c.status c) (λ c. by_status c.status c)) e where
      by_status : (s : Status) (c : Container) → tells (call task r a s c).0 ≡ false
      by_status Created c = refl
      by_status Running c = refl
      by_status Stopped c = refl
state_told F (State id) w s e = found (container_at id w) refl e where
  found : (o : Option Container) → container_at id w ≡ o → IsIn s ≡ (known o (λ c. (IsIn c.status, Some c))).0
      → (c : Container) × (container_at id w ≡ Some c)
  found None at e = absurd (not_told (Refused NoContainer) s refl e)
  found (Some c) at e = (c, at)

-- Programs.

one-less : (x : List ℕ) (zs : List (List ℕ)) → length (join_with_byte space zs) ≤ length (join_with_byte space (x ∷ zs))
one-less x [] = omega arith
one-less x (z ∷ zs) = omega (arith, length-append x (space ∷ join_with_byte space (z ∷ zs)))

some-less : (xs ys : List (List ℕ)) → length (join_with_byte space ys) ≤ length (join_with_byte space (xs ++ ys))
some-less [] ys = omega arith
some-less (x ∷ xs) ys = omega (arith, some-less xs ys, one-less x (xs ++ ys))

two_each : (ds bytes : List ℕ) → AreBytes ds bytes → length ds ≡ 2 * length bytes
two_each [] [] h = refl
two_each [] (b ∷ bytes) h = absurd h
two_each (x ∷ []) [] h = absurd h
two_each (x ∷ []) (b ∷ bytes) h = absurd h
two_each (x ∷ y ∷ ds) [] h = absurd h
two_each (x ∷ y ∷ ds) (b ∷ bytes) h = omega (arith, two_each ds bytes h.3)

-- the program of a line has at most half as many bytes as a line
pub program_fits : (native : Arch) (line : List ℕ) (asked : script.Command) → IsCommand native line asked → Fits asked
program_fits native line (script.Create id name) h = tt
program_fits native line (script.Start id) h = tt
program_fits native line (script.Delete id) h = tt
program_fits native line (script.State id) h = tt
program_fits native line (script.Kill id signal) h = tt
program_fits native line (script.Call id task arch nr args None) h = tt
program_fits native line (script.Call id task arch nr args (Some [])) h = omega arith
program_fits native line (script.Call id task arch nr args (Some (b ∷ bytes))) h =
    let c = h.form.2 in
    let digits = c.program_is.0 in
    let end = codes "prog" ∷ digits ∷ [] in
    let all = codes "call" ∷ id ∷ c.task_field ∷ c.what_field ∷ (c.given ++ end) in
    let fields : h.fields ≡ all =
    h.form.1 ∙ ap (λ (r : List (List ℕ)). codes "call" ∷ id ∷ r) (c.parts
    ∙ ap (λ (e : List (List ℕ)). c.task_field ∷ c.what_field ∷ (c.given ++ e)) c.program_is.1) in
    let size : length line ≡ length (join_with_byte space all) = ap length (h.joined ∙ ap (join_with_byte space) fields) in
    omega (
      arith,
      h.short,
      size,
      two_each digits (b ∷ bytes) c.program_is.2,
      one-less (codes "prog") (digits ∷ []),
      some-less c.given end,
      one-less c.what_field (c.given ++ end),
      one-less c.task_field (c.what_field ∷ (c.given ++ end)),
      one-less id (c.task_field ∷ c.what_field ∷ (c.given ++ end)),
      one-less (codes "call") (id ∷ c.task_field ∷ c.what_field ∷ (c.given ++ end)),
    )
