-- A script goes on by a line, or stops at it.
use Rattle.std.proofs.Common.{◌≡◌, ℕ, ◌+◌, ◌<◌, List, [], ◌∷◌, ◌++◌, length, take, ap, sym, subst, ◌∙◌, arith, length-append}
use Rattle.std.specs.Prelude.{Option}
use Rattle.std.specs.Io.KnownBytes.{Appends}
use Rattle.std.proofs.KnownBytes.{Appends-trans}
use Rattle.std.proofs.Math.Seq.{take-append-add}
use Rattle.lifecycle.specs.Commands.{Command}
use Rattle.lifecycle.specs.Steps.{run}
use Rattle.lifecycle.specs.Worlds.{World}
use Rattle.processes.specs.First.{by_program}
use Rattle.session.specs.declared.bundles.Bundles.{Bundles}
use Rattle.session.specs.Answer.{answer_of, commands_of, counted}
use Rattle.session.specs.Commands.{CommandIs}
use Rattle.session.specs.Wants.{WantsMemory}
use Rattle.session.specs.inner.Carried.{answer_line, world_after}
use Rattle.session.specs.inner.Lines.{BreaksOff, GoesOn, RunsOut, Standing, Stands}
use Rattle.session.proofs.AnswerLaws.{answer-more, are-more, counted-add, world-more}
use Rattle.session.proofs.KeptLaws.{kept_is}

-- the line that is read now
module _ (bundles : Bundles) (s : Standing) (held h : Option (List ℕ)) (lines : List (List ℕ)) (part : List ℕ) (cs : List (Option Command)) (st : Stands bundles s held h lines part cs) where
  -- its number
  numbered : counted (s.count + 1) ≡ counted (length cs + 1)
  numbered = ap (λ n. counted (n + 1)) st.count ∙ counted-add (length cs) 1

  abbrev line_of : Option Command → List ℕ
  line_of c = answer_line by_program (counted (s.count + 1)) c s.world

  grown : (c : Option Command) → answer_of by_program (cs ++ c ∷ []) ≡ answer_of by_program cs ++ line_of c
  grown c =
      answer-more by_program cs c
      ∙ (ap (λ n. answer_of by_program cs ++ answer_line by_program n c (run by_program (commands_of cs) []).1) (sym numbered)
      ∙ ap (λ (w : World). answer_of by_program cs ++ answer_line by_program (counted (s.count + 1)) c w) (sym st.world))

  is_part : (c : Option Command) → CommandIs bundles s.kept c → CommandIs bundles part c
  is_part c is = kept_is bundles part c (subst (λ (k : List ℕ). CommandIs bundles k c) st.kept is)

  total : (c : Option Command) (m : ℕ) → counted (s.out + m) ≡ counted (length (answer_of by_program cs) + m)
  total c m = ap (λ n. counted (n + m)) st.out ∙ counted-add (length (answer_of by_program cs)) m

  pub went_on : (t : Standing) (h' : Option (List ℕ)) (c : Option Command) (n : ℕ) → CommandIs bundles s.kept c → Appends h h' (line_of c)
      → n ≡ length (line_of c) → t.world ≡ world_after by_program c s.world → t.kept ≡ [] → t.count ≡ counted (s.count + 1)
      → t.out ≡ counted (s.out + n) → GoesOn bundles t held h' lines part cs
  went_on t h' c n is written len world kept count out = record {
    command = c;
    stands = record {
      are = are-more bundles lines part cs c st.are (is_part c is);
      world = world ∙ (ap (λ (w : World). world_after by_program c w) st.world ∙ sym (world-more by_program cs c []));
      kept = kept;
      count = count ∙ (numbered ∙ ap counted (sym (length-append cs (c ∷ []))));
      out = out ∙ (total c n ∙ ap counted (ap (λ m. length (answer_of by_program cs) + m) len
          ∙ (sym (length-append (answer_of by_program cs) (line_of c)) ∙ ap length (sym (grown c)))));
      written = subst (λ (t : List ℕ). Appends held h' t) (sym (grown c))
          (Appends-trans held h h' (answer_of by_program cs) (line_of c) st.written written);
    };
  }

  pub broke_off : (h' : Option (List ℕ)) (c : Option Command) (m out : ℕ) → CommandIs bundles s.kept c → Appends h h' (take m (line_of c))
      → m < length (line_of c) → out ≡ counted (s.out + m) → BreaksOff bundles held h' part cs out
  broke_off h' c m out is written short told = record {
    command = c;
    is = is_part c is;
    n = length (answer_of by_program cs) + m;
    written = subst (λ (t : List ℕ). Appends held h' t)
        (sym (ap (λ (t : List ℕ). take (length (answer_of by_program cs) + m) t) (grown c)
        ∙ take-append-add (answer_of by_program cs) (line_of c) m))
        (Appends-trans held h h' (answer_of by_program cs) (take m (line_of c)) st.written written);
    behind = omega arith;
    short = let all = ap length (grown c) ∙ length-append (answer_of by_program cs) (line_of c) in omega arith;
    told = told ∙ total c m;
  }

  pub ran_out : (c : Option Command) (line : ℕ) → CommandIs bundles s.kept c
      → line ≡ counted (s.count + 1) → WantsMemory c s.world → RunsOut bundles held h part cs line
  ran_out c line is told wants = record {
    command = c;
    is = is_part c is;
    written = st.written;
    told = told ∙ numbered;
    wants = subst (λ (w : World). WantsMemory c w) st.world wants;
  }
