-- What stays true of a container through each command stays true of it as long as it is there.
use Rattle.std.proofs.Common.{◌≡◌, ℕ, suc, Bool, true, false, List, [], ◌∷◌, Option, Some, None, if◌then◌else◌, is_some, take, refl}
use Rattle.std.proofs.Common.{sym, ap, subst, ◌∙◌, nat_lt}
use Rattle.call_record.specs.declared.layout.Record.{Record}
use Rattle.cert_check.specs.declared.checked.Checked.{Checked}
use Rattle.cert_check.specs.Checked.{profile_of}
use Rattle.processes.specs.Attached.{Beside}
use Rattle.processes.specs.Ids.{is_id}
use Rattle.processes.specs.Kernel.{is_fatal, presented, signalled}
use Rattle.processes.specs.Views.{same_text}
use Rattle.processes.proofs.Changes.{either}
use Rattle.lifecycle.specs.declared.command.Reply.TheVariants.{Accepted, Refused}
use Rattle.lifecycle.specs.declared.command.Status.{Status}
use Rattle.lifecycle.specs.declared.command.Status.TheVariants.{Created, Running, Stopped}
use Rattle.lifecycle.specs.declared.fault.Refusal.TheVariants.{BadId, BadSignal, IdTaken}
use Rattle.lifecycle.specs.Commands.{Command, id_of}
use Rattle.lifecycle.specs.Commands.Command.{Create, Start, Kill, Delete, State, Call}
use Rattle.lifecycle.specs.Steps.{Result, acted, call, delete, first_call, kill, left_after, run, running, start, step}
use Rattle.lifecycle.specs.Worlds.{Container, First, World, container_at, put, unstarted}
use Rattle.lifecycle.proofs.Isolation.{found_other, found_own, same_is}

-- a container as it is created
abbrev pub created : First → Checked → Container
created F given = record { status = Created; first = F given; processes = unstarted (profile_of given).native }

-- each change that a command makes of a container leaves it
pub record IsKept (P : Container → Type 0) : Type 0 where
  pub stopped : (c : Container) → P c → P (record c { status = Stopped })
  pub started : (c : Container) → P c → let p = first_call c.processes.native c.first in P (running c (left_after p.0 p.1))
  pub signal : (c : Container) (sig : ℕ) → P c → P (running c (signalled sig c.processes))
  pub event : (c : Container) (n : ℕ) (r : Record) (a : Beside) → P c → P (running c (presented n r a c.processes).1)

module _ (P : Container → Type 0) where
  -- where there is a container, it has the property
  abbrev pub At : Option Container → Type 0
  At None = Unit {0}
  At (Some c) = P c

  abbrev pub Leaves : Result → Type 0
  Leaves r = At r.1

  module _ (k : IsKept P) where
    starts : (s : Status) (c : Container) → P c → Leaves (start s c)
    starts Created c h = k.started c h
    starts Running c h = h
    starts Stopped c h = h

    kills : (sig : ℕ) (s : Status) (c : Container) → P c → Leaves (kill sig s c)
    kills sig Stopped c h = h
    kills sig Created c h =
        let stopped : Container = record c { status = Stopped } in
        either Leaves (nat_lt 64 sig) (Refused BadSignal, Some c) (Accepted, Some (if is_fatal sig then stopped else c)) h
        (either P (is_fatal sig) stopped c (k.stopped c h) h)
    kills sig Running c h =
        either Leaves (nat_lt 64 sig) (Refused BadSignal, Some c) (
          Accepted,
          Some (running c (signalled sig c.processes)),
        ) h (k.signal c sig h)

    deletes : (s : Status) (c : Container) → P c → Leaves (delete s c)
    deletes Stopped c h = tt
    deletes Created c h = h
    deletes Running c h = h

    calls : (n : ℕ) (r : Record) (a : Beside) (s : Status) (c : Container) → P c → Leaves (call n r a s c)
    calls n r a Running c h = k.event c n r a h
    calls n r a Created c h = h
    calls n r a Stopped c h = h

    -- a command to a container that is there
    acts : (F : First) (o : Command) (c : Container) → P c → Leaves (acted F o (Some c))
    acts F (Create id given) c h = either Leaves (is_id id) (Refused IdTaken, Some c) (Refused BadId, Some c) h h
    acts F (Start id) c h = starts c.status c h
    acts F (Kill id sig) c h = kills sig c.status c h
    acts F (Delete id) c h = deletes c.status c h
    acts F (State id) c h = h
    acts F (Call id task r a) c h = calls task r a c.status c h

    -- and to one that is not
    makes : (F : First) → ((given : Checked) → P (created F given)) → (o : Command) → Leaves (acted F o None)
    makes F new (Create id given) = either Leaves (is_id id) (Accepted, Some (created F given)) (Refused BadId, None) (new given) tt
    makes F new (Start id) = tt
    makes F new (Kill id sig) = tt
    makes F new (Delete id) = tt
    makes F new (State id) = tt
    makes F new (Call id task r a) = tt

    any : (F : First) → ((given : Checked) → P (created F given)) → (o : Command) (c : Option Container) → At c → Leaves (acted F o c)
    any F new o None h = makes F new o
    any F new o (Some c) h = acts F o c h

    -- what a command leaves, in its world
    steps : (F : First) (o : Command) (w : World) (id : List ℕ) → At (container_at id w)
        → (id_of o ≡ id → Leaves (acted F o (container_at (id_of o) w)))
        → At (container_at id (step F o w).1)
    steps F o w id h own = by (same_text (id_of o) id) refl
      where
        by : (b : Bool) → same_text (id_of o) id ≡ b → At (container_at id (step F o w).1)
        by true t =
            let is : id_of o ≡ id = same_is (id_of o) id t in
            let r = acted F o (container_at (id_of o) w) in
            let there : container_at id (put (id_of o) r.1 w) ≡ r.1 = ap (λ q. container_at q (put (id_of o) r.1 w)) (sym is)
            ∙ found_own (id_of o) r.1 w in
            subst At (sym there) (own is)
        by false t =
            let r = acted F o (container_at (id_of o) w) in
            subst At (sym (found_other (id_of o) id t r.1 w)) h

    -- What holds of each container as it is created holds of each after any commands.
    pub holds_after : (F : First) → ((given : Checked) → P (created F given)) → (id : List ℕ) (os : List Command) (w : World)
        → ((q : List ℕ) → At (container_at q w))
        → At (container_at id (run F os w).1)
    holds_after F new id [] w h = h id
    holds_after F new id (o ∷ os) w h =
        holds_after F new id os (step F o w).1 (λ q. steps F o w q (h q) (λ is. any F new o (container_at (id_of o) w) (h (id_of o))))

    -- What holds of a container holds of it as long as it is there.
    pub stays_after : (F : First) (id : List ℕ) (os : List Command) (w : World)
        → ((n : ℕ) → is_some (container_at id (run F (take n os) w).1) ≡ true)
        → At (container_at id w) → At (container_at id (run F os w).1)
    stays_after F id [] w there h = h
    stays_after F id (o ∷ os) w there h = stays_after F id os (step F o w).1 (λ n. there (suc n)) (by (container_at id w) refl)
      where
        by : (c : Option Container) → container_at id w ≡ c → At (container_at id (step F o w).1)
        by None e = let bad : false ≡ true = sym (ap is_some e) ∙ there 0 in absurd (cc)
        by (Some c) e =
            let at : id_of o ≡ id → container_at (id_of o) w ≡ Some c = λ is. ap (λ q. container_at q w) is ∙ e in
            steps F o w id h (λ is. subst (λ x. Leaves (acted F o x)) (sym (at is)) (acts F o c (subst At e h)))
