-- Each container was made by a command, and has what the command gave.
use Rattle.std.proofs.Common.{◌≡◌, ◌⊎◌, inl, inr, ℕ, zero, suc, Bool, true, false, List, [], ◌∷◌, ◌++◌, Option, Some, None, is_some}
use Rattle.std.proofs.Common.{length, take, refl, sym, ap, subst, ◌∙◌, arith}
use Rattle.std.proofs.lemmas.List.{take_all}
use Rattle.cert_check.specs.declared.checked.Checked.{Checked}
use Rattle.cert_check.specs.Checked.{profile_of}
use Rattle.processes.specs.Attached.{nothing_beside}
use Rattle.processes.specs.Begin.{execve_of}
use Rattle.processes.specs.Ids.{is_id}
use Rattle.processes.specs.Tasks.{Processes, admitted}
use Rattle.processes.specs.Views.{same_text}
use Rattle.processes.specs.declared.outcome.Outcome.{Outcome}
use Rattle.processes.specs.declared.outcome.Outcome.TheVariants.{Done, Failed, Absent, Denied, Answered, Declined, NoTask}
use Rattle.processes.proofs.Changes.{either, native_stays, native_stays_signalled}
use Rattle.lifecycle.specs.declared.command.Reply.TheVariants.{Accepted, Refused}
use Rattle.lifecycle.specs.declared.fault.Refusal.TheVariants.{BadId}
use Rattle.lifecycle.specs.Commands.{Command, id_of}
use Rattle.lifecycle.specs.Commands.Command.{Create, Start, Kill, Delete, State, Call}
use Rattle.lifecycle.specs.Promises.{FirstIsGiven, MadeBy, world_after}
use Rattle.lifecycle.specs.Steps.{acted, first_call, left_after, run, step}
use Rattle.lifecycle.specs.Worlds.{Container, First, World, container_at, put}
use Rattle.lifecycle.proofs.Containers.{At, IsKept, Leaves, created, stays_after}
use Rattle.lifecycle.proofs.Isolation.{found_other, found_own, same_is}

-- ---- the command that made a container

-- one run after another
pub run_on : (F : First) (xs ys : List Command) (w : World) → (run F (xs ++ ys) w).1 ≡ (run F ys (run F xs w).1).1
run_on F [] ys w = refl
run_on F (x ∷ xs) ys w = run_on F xs ys (step F x w).1

module _ (F : First) (id : List ℕ) where
  -- there is a container with the id, in a world and after each of these commands
  abbrev pub Stays : List Command → World → Type 0
  Stays [] w = is_some (container_at id w) ≡ true
  Stays (o ∷ os) w = (is_some (container_at id w) ≡ true) × Stays os (step F o w).1

  now : (os : List Command) (w : World) → Stays os w → is_some (container_at id w) ≡ true
  now [] w s = s
  now (o ∷ os) w s = s.0

  later : (os : List Command) (w : World) → Stays os w → (n : ℕ) → is_some (container_at id (run F (take n os) w).1) ≡ true
  later [] w s zero = s
  later [] w s (suc n) = s
  later (o ∷ os) w s zero = s.0
  later (o ∷ os) w s (suc n) = later os (step F o w).1 s.1 n

  -- the command among these that made the container, from a world on
  pub record Made (os : List Command) (w : World) : Type 0 where
    pub before : List Command
    pub given : Checked
    pub since : List Command
    pub in_all : os ≡ before ++ Create id given ∷ since
    pub none_before : container_at id (run F before w).1 ≡ None
    pub there_since : Stays since (step F (Create id given) (run F before w).1).1

  -- a command after which there is a container made it, where there was none before
  makes_by : (o : Command) → is_some (acted F o None).1 ≡ true → (given : Checked) × (o ≡ Create (id_of o) given)
  makes_by (Create q given) h = (given, refl)
  makes_by (Start q) h = let bad : false ≡ true = h in absurd (cc)
  makes_by (Kill q sig) h = let bad : false ≡ true = h in absurd (cc)
  makes_by (Delete q) h = let bad : false ≡ true = h in absurd (cc)
  makes_by (State q) h = let bad : false ≡ true = h in absurd (cc)
  makes_by (Call q task r a) h = let bad : false ≡ true = h in absurd (cc)

  makes : (o : Command) (w : World) → container_at id w ≡ None → is_some (container_at id (step F o w).1) ≡ true
      → (given : Checked) × (o ≡ Create id given)
  makes o w none some = by (same_text (id_of o) id) refl
    where
      by : (b : Bool) → same_text (id_of o) id ≡ b → (given : Checked) × (o ≡ Create id given)
      by true t =
          let is : id_of o ≡ id = same_is (id_of o) id t in
          let before : container_at (id_of o) w ≡ None = ap (λ q. container_at q w) is ∙ none in
          let r = acted F o (container_at (id_of o) w) in
          let after : container_at id (put (id_of o) r.1 w) ≡ r.1 = ap (λ q. container_at q (put (id_of o) r.1 w)) (sym is)
          ∙ found_own (id_of o) r.1 w in
          let own : is_some (acted F o None).1 ≡ true = ap (λ x. is_some (acted F o x).1) (sym before) ∙ (sym (ap is_some after) ∙ some) in
          subst (λ q. (given : Checked) × (o ≡ Create q given)) is (makes_by o own)
      by false t =
          let r = acted F o (container_at (id_of o) w) in
          let bad : false ≡ true = sym (ap is_some (found_other (id_of o) id t r.1 w ∙ none)) ∙ some in absurd (cc)

  search_from : (os : List Command) (w : World) → is_some (container_at id (run F os w).1) ≡ true → Stays os w ⊎ Made os w
  search_from [] w h = inl h
  search_from (o ∷ os) w h = by (search_from os (step F o w).1 h)
    where
      first : Stays os (step F o w).1 → (c : Option Container) → container_at id w ≡ c → Stays (o ∷ os) w ⊎ Made (o ∷ os) w
      first s (Some c) e = inl (ap is_some e, s)
      first s None e =
          let m = makes o w e (now os (step F o w).1 s) in
          inr (record {
            before = [];
            given = m.0;
            since = os;
            in_all = ap (λ (x : Command). x ∷ os) m.1;
            none_before = e;
            there_since = subst (λ (x : Command). Stays os (step F x w).1) m.1 s;
          })

      by : Stays os (step F o w).1 ⊎ Made os (step F o w).1 → Stays (o ∷ os) w ⊎ Made (o ∷ os) w
      by (inl s) = first s (container_at id w) refl
      by (inr m) = inr (record {
        before = o ∷ m.before;
        given = m.given;
        since = m.since;
        in_all = ap (λ (xs : List Command). o ∷ xs) m.in_all;
        none_before = m.none_before;
        there_since = m.there_since;
      })

  from_nothing : (os : List Command) → is_some (container_at id (run F os []).1) ≡ true → Made os []
  from_nothing os h = by (search_from os [] h)
    where
      by : Stays os [] ⊎ Made os [] → Made os []
      by (inl s) = let bad : false ≡ true = now os [] s in absurd (cc)
      by (inr m) = m

  pub made : (os : List Command) (c : Container) → container_at id (world_after F os) ≡ Some c → (given : Checked) × MadeBy F os id given
  made os c there =
      let m = from_nothing os (ap is_some there) in
      let after = (step F (Create id m.given) (run F m.before []).1).1 in (
        m.given,
        record {
          before = m.before;
          since = m.since;
          in_all = m.in_all;
          none_before = m.none_before;
          there_since = λ n. ap (λ (w : World). is_some (container_at id w)) (run_on F m.before (Create id m.given ∷ take n m.since) [])
              ∙ later m.since after m.there_since n;
        },
      )

-- ---- what the container has of it

abbrev pub AsGiven : First → Checked → Container → Type 0
AsGiven F given c = (c.first ≡ F given) × (c.processes.native ≡ (profile_of given).native)

left_native : (o : Outcome) (ps : Processes) → (left_after o ps).native ≡ ps.native
left_native (Denied v) ps = native_stays_signalled 9 ps
left_native (Done n) ps = refl
left_native (Failed e) ps = refl
left_native Absent ps = refl
left_native (Answered n) ps = refl
left_native (Declined e) ps = refl
left_native NoTask ps = refl

given_kept : (F : First) (given : Checked) → IsKept (AsGiven F given)
given_kept F given = record {
  stopped = λ c h. h;
  started = λ c h.
      let native = c.processes.native in
      let p = first_call native c.first in
      (h.0, left_native p.0 p.1 ∙ (native_stays 1 (execve_of native) nothing_beside (admitted native c.first) ∙ h.1));
  signal = λ c sig h. (h.0, native_stays_signalled sig c.processes ∙ h.1);
  event = λ c n r a h. (h.0, native_stays n r a c.processes ∙ h.1);
}

-- the world after all is that after the commands since, from the world after the one that made it
module _ (F : First) (commands : List Command) (id : List ℕ) (given : Checked) (m : MadeBy F commands id given) where
  abbrev begun : World
  begun = (step F (Create id given) (world_after F m.before)).1

  goes_on : (os : List Command) → world_after F (m.before ++ Create id given ∷ os) ≡ (run F os begun).1
  goes_on os = run_on F m.before (Create id given ∷ os) []

  last : world_after F commands ≡ (run F m.since begun).1
  last = ap (world_after F) m.in_all ∙ goes_on m.since

  as_begun : At (AsGiven F given) (container_at id begun)
  as_begun =
      let r = acted F (Create id given) (container_at id (world_after F m.before)) in
      let made : Leaves (AsGiven F given) (acted F (Create id given) None) =
      either (Leaves (AsGiven F given)) (is_id id) (Accepted, Some (created F given)) (Refused BadId, None) (refl, refl) tt in
      let own : Leaves (AsGiven F given) r = subst (λ (x : Option Container). Leaves (AsGiven F given) (acted F (Create id given) x)) (sym m.none_before) made in
      subst (At (AsGiven F given)) (sym (found_own id r.1 (world_after F m.before))) own

  -- it is as given still
  pub as_given : (c : Container) → container_at id (world_after F commands) ≡ Some c → AsGiven F given c
  as_given c there =
      let stays : At (AsGiven F given) (container_at id (run F m.since begun).1) =
      stays_after (AsGiven F given) (given_kept F given) F id m.since begun
      (λ n. sym (ap (λ (w : World). is_some (container_at id w)) (goes_on (take n m.since))) ∙ m.there_since n) as_begun in
      subst (At (AsGiven F given)) (ap (container_at id) (sym last) ∙ there) stays

  -- and it is there
  pub is_there : is_some (container_at id (world_after F commands)) ≡ true
  is_there =
      let whole : take (length m.since) m.since ≡ m.since = take_all (length m.since) m.since (omega arith) in
      ap (λ (os : List Command). is_some (container_at id (world_after F os)))
      (m.in_all ∙ ap (λ (os : List Command). m.before ++ Create id given ∷ os) (sym whole))
      ∙ m.there_since (length m.since)

pub first_is_given : FirstIsGiven
first_is_given = record {
  made = λ F os id c there. made F id os c there;
  first = λ F os id c given there m. (as_given F os id given m c there).0;
  native = λ F os id c given there m. (as_given F os id given m c there).1;
}
