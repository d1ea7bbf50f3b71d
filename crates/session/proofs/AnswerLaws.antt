-- An answer grows by a line.
use Rattle.std.proofs.Common.{◌≡◌, ℕ, ◌+◌, List, [], ◌∷◌, ◌++◌, length, refl, ap, sym, ◌∙◌, arith, append_assoc, append-nil}
use Rattle.std.specs.Prelude.{Option, Some, None}
use Rattle.lifecycle.specs.Commands.{Command, id_of}
use Rattle.lifecycle.specs.Steps.{run, step}
use Rattle.lifecycle.specs.Worlds.{First, World}
use Rattle.lifecycle.proofs.Headline.{same_first}
use Rattle.processes.specs.First.{by_profile, by_program}
use Rattle.session.specs.declared.bundles.Bundles.{Bundles}
use Rattle.session.specs.Answer.{answer_after, answer_of, commands_of, counted}
use Rattle.session.specs.Commands.{CommandIs, CommandsAre}
use Rattle.session.specs.Replies.{no_command_line, reply_line}
use Rattle.session.specs.inner.Carried.{answer_line, world_after}

pub are-more : (bundles : Bundles) (lines : List (List ℕ)) (line : List ℕ) (cs : List (Option Command)) (c : Option Command)
    → CommandsAre bundles lines cs → CommandIs bundles line c → CommandsAre bundles (lines ++ line ∷ []) (cs ++ c ∷ [])
are-more bundles [] line [] c h g = (g, tt)
are-more bundles [] line (x ∷ cs) c h g = absurd h
are-more bundles (l ∷ lines) line [] c h g = absurd h
are-more bundles (l ∷ lines) line (x ∷ cs) c h g = (h.0, are-more bundles lines line cs c h.1 g)

pub world-more : (F : First) (cs : List (Option Command)) (c : Option Command) (w : World)
    → (run F (commands_of (cs ++ c ∷ [])) w).1 ≡ world_after F c (run F (commands_of cs) w).1
world-more F [] None w = refl
world-more F [] (Some c) w = refl
world-more F (None ∷ cs) c w = world-more F cs c w
world-more F (Some d ∷ cs) c w = world-more F cs c (step F d w).1

under : (a b c d : List ℕ) → b ≡ c ++ d → a ++ b ≡ (a ++ c) ++ d
under a b c d e = ap (λ (t : List ℕ). a ++ t) e ∙ sym (append_assoc a c d)

after-more : (F : First) (n m : ℕ) (cs : List (Option Command)) (c : Option Command) (w : World) → m ≡ n + length cs + 1
    → answer_after n (cs ++ c ∷ []) (run F (commands_of (cs ++ c ∷ [])) w).0
    ≡ answer_after n cs (run F (commands_of cs) w).0 ++ answer_line F (counted m) c (run F (commands_of cs) w).1
after-more F n m [] None w e =
    let same : n + 1 ≡ m = omega arith in
    append-nil (no_command_line (counted (n + 1))) ∙ ap (λ k. no_command_line (counted k)) same
after-more F n m [] (Some c) w e = append-nil (reply_line (id_of c) (step F c w).0)
after-more F n m (None ∷ cs) c w e =
    let next : m ≡ (n + 1) + length cs + 1 = omega arith in
    under (no_command_line (counted (n + 1)))
    (answer_after (n + 1) (cs ++ c ∷ []) (run F (commands_of (cs ++ c ∷ [])) w).0)
    (answer_after (n + 1) cs (run F (commands_of cs) w).0)
    (answer_line F (counted m) c (run F (commands_of cs) w).1)
    (after-more F (n + 1) m cs c w next)
after-more F n m (Some d ∷ cs) c w e =
    let next : m ≡ (n + 1) + length cs + 1 = omega arith in
    let v = (step F d w).1 in
    under (reply_line (id_of d) (step F d w).0)
    (answer_after (n + 1) (cs ++ c ∷ []) (run F (commands_of (cs ++ c ∷ [])) v).0)
    (answer_after (n + 1) cs (run F (commands_of cs) v).0)
    (answer_line F (counted m) c (run F (commands_of cs) v).1)
    (after-more F (n + 1) m cs c v next)

pub answer-more : (F : First) (cs : List (Option Command)) (c : Option Command)
    → answer_of F (cs ++ c ∷ []) ≡ answer_of F cs ++ answer_line F (counted (length cs + 1)) c (run F (commands_of cs) []).1
answer-more F cs c = after-more F 0 (length cs + 1) cs c [] (omega arith)

-- the profiles say the same
pub by_profiles : (cs : List (Option Command)) → answer_of by_program cs ≡ answer_of by_profile cs
by_profiles cs = ap (λ (F : First). answer_of F cs) same_first

pub counted-add : (a b : ℕ) → counted (counted a + b) ≡ counted (a + b)
counted-add a b = omega arith
