-- A run goes on by one step.
use Rattle.std.proofs.Common.{◌≡◌, ℕ, zero, suc, ◌+◌, ◌<◌, inr, List, [], ◌∷◌, ◌++◌, Some, None, slice_get, length, take, get_or, refl}
use Rattle.std.proofs.Common.{sym, ap, subst, ◌∙◌}
use Rattle.std.specs.Option.{option_map}
use Rattle.std.proofs.lemmas.List.{take_more}
use Rattle.std.proofs.lemmas.Option.{same_Some, slice_get-get_or, slice_get-map}
use Rattle.processes.specs.First.{by_program, by_profile}
use Rattle.lifecycle.specs.declared.command.Command as code
use Rattle.lifecycle.specs.declared.command.Reply.{Reply}
use Rattle.lifecycle.specs.Commands.{Command, command_of}
use Rattle.lifecycle.specs.Growth.{MayGrow, NextMayGrow}
use Rattle.lifecycle.specs.Own.{own_replies}
use Rattle.lifecycle.specs.Promises.{RepliesAreSteps}
use Rattle.lifecycle.specs.Runs.{EachRunsAlone, IsRun, commands_of}
use Rattle.lifecycle.specs.Steps.{run, step}
use Rattle.lifecycle.specs.Worlds.{First, World}
use Rattle.lifecycle.proofs.Headline.{same_run}
use Rattle.lifecycle.proofs.Isolation.{isolated}

run-append : (F : First) (os : List Command) (w : World) (o : Command)
    → run F (os ++ o ∷ []) w ≡ ((run F os w).0 ++ (step F o (run F os w).1).0 ∷ [], (step F o (run F os w).1).1)
run-append F [] w o = refl
run-append F (x ∷ os) w o =
    let s = step F x w in
    ap (λ (p : List Reply × World). (s.0 ∷ p.0, p.1)) (run-append F os s.1 o)

commands-append : (cs : List code.Command) (c : code.Command) → commands_of (cs ++ c ∷ []) ≡ commands_of cs ++ command_of c ∷ []
commands-append [] c = refl
commands-append (x ∷ cs) c = ap (λ (os : List Command). command_of x ∷ os) (commands-append cs c)

-- one more command
pub run_more : (F : First) (cs : List code.Command) (i : ℕ) (cmd : code.Command) (w v u : World) (rs : List Reply) (r : Reply)
    → i < length cs → get_or cs i cmd ≡ cmd
    → IsRun F (commands_of (take i cs)) w rs v → (r, u) ≡ step F (command_of cmd) v → IsRun F (commands_of (take (i + 1) cs)) w (rs ++ r ∷ []) u
run_more F cs i cmd w v u rs r lt is before last =
    let more : take (i + 1) cs ≡ take i cs ++ cmd ∷ [] = take_more cs i cmd lt ∙ ap (λ (c : code.Command). take i cs ++ c ∷ []) is in
    ap (λ (c : List code.Command). run F (commands_of c) w) more
    ∙ (ap (λ (os : List Command). run F os w) (commands-append (take i cs) cmd)
    ∙ (run-append F (commands_of (take i cs)) w (command_of cmd)
    ∙ (ap (λ (p : List Reply × World). (p.0 ++ (step F (command_of cmd) p.1).0 ∷ [], (step F (command_of cmd) p.1).1)) before
    ∙ ap (λ (p : Reply × World). (rs ++ p.0 ∷ [], p.1)) (sym last))))

-- the profiles say the same
pub with_profiles : (os : List Command) (w : World) (rs : List Reply) (v : World) → IsRun by_program os w rs v → IsRun by_profile os w rs v
with_profiles os w rs v e = sym (same_run os w) ∙ e

-- and each container runs alone
pub alone : (F : First) (os : List Command) (w : World) (rs : List Reply) (v : World) → IsRun F os w rs v → EachRunsAlone F os w rs
alone F os w rs v e = λ id. ap (λ (p : List Reply × World). own_replies id os p.0) (sym e) ∙ isolated F id os w w refl

-- what is known of the commands so far, by the number of replies
pub finished : (cs : List code.Command) (n i : ℕ) (w : World) (rs : List Reply) (u v : World) → n ≡ i
    → v ≡ u → IsRun by_program (commands_of (take i cs)) w rs u
    → IsRun by_profile (commands_of (take n cs)) w rs v
finished cs n i w rs u v count world before =
    with_profiles (commands_of (take n cs)) w rs v
    (ap (λ m. run by_program (commands_of (take m cs)) w) count ∙ (before ∙ ap (λ (x : World). (rs, x)) (sym world)))

-- the command after the replies so far may want memory
pub next_grows : (cs : List code.Command) (i : ℕ) (cmd : code.Command) (rs : List Reply) (u v : World) → length rs ≡ i → i < length cs
    → get_or cs i cmd ≡ cmd
    → v ≡ u → MayGrow (command_of cmd) u → NextMayGrow (commands_of cs) rs v
next_grows cs i cmd rs u v count lt is world grows =
    let at : slice_get cs i ≡ Some cmd = slice_get-get_or cs i cmd lt ∙ ap Some is in
    let told : slice_get (commands_of cs) i ≡ Some (command_of cmd) = slice_get-map command_of cs i ∙ ap (option_map command_of) at in
    let here : slice_get (commands_of cs) (length rs) ≡ Some (command_of cmd) = ap (slice_get (commands_of cs)) count ∙ told in
    inr (command_of cmd, here, subst (λ (w : World). MayGrow (command_of cmd) w) (sym world) grows)

-- the reply at a place is that of the command there
reply_at : (F : First) (os : List Command) (i : ℕ) (o : Command) (w : World) → slice_get os i ≡ Some o
    → slice_get (run F os w).0 i ≡ Some (step F o (run F (take i os) w).1).0
reply_at F [] i o w at = let no_way : None ≡ Some o = at in absurd (cc)
reply_at F (x ∷ os) zero o w at =
    let same : x ≡ o = same_Some x o at in
    ap (λ (p : Command). Some (step F p w).0) same
reply_at F (x ∷ os) (suc i) o w at = reply_at F os i o (step F x w).1 at

pub replies_are_steps : RepliesAreSteps
replies_are_steps F os i o at = reply_at F os i o [] at
