-- What has come of a source, and what was answered to it.
use Rattle.std.proofs.Common.{◌≡◌, ℕ, ◌+◌, ◌<◌, ◌≤◌, inl, inr, false, List, [], ◌∷◌, ◌++◌, length, take, ap, sym, subst, ◌∙◌}
use Rattle.std.specs.Prelude.{Option, ◌==◌}
use Rattle.std.specs.Io.KnownBytes.{Appends, Consumes, IsAtEnd, Keeps}
use Rattle.std.proofs.KnownBytes.{Appends-nil, Consumes-kept, Consumes-nil, Consumes-trans}
use Rattle.std.proofs.lemmas.List.{append-nil}
use Rattle.texts.specs.Lines.{line_feed}
use Rattle.processes.specs.First.{by_profile, by_program}
use Rattle.lifecycle.specs.Commands.{Command}
use Rattle.lifecycle.specs.Steps.{run}
use Rattle.lifecycle.specs.Worlds.{First}
use Rattle.lifecycle.proofs.Headline.{same_first}
use Rattle.script.specs.Lines.{lines_of}
use Rattle.session.specs.declared.bundles.Bundles.{Bundles}
use Rattle.session.specs.Answer.{answer_of, commands_of, counted}
use Rattle.session.specs.Commands.{CommandIs, CommandsAre}
use Rattle.session.specs.Scripts.{HasRead, HasReadAll, HasReadWhole, IsAnswered, StopsForMemory, StopsReading, StopsWriting, ended_lines}
use Rattle.session.specs.Wants.{WantsMemory}
use Rattle.session.specs.inner.Cuts.{IsCut, kept_of}
use Rattle.session.specs.inner.Lines.{BreaksOff, GoesOn, HasCome, RunsOut, Standing}
use Rattle.session.proofs.AnswerLaws.{are-more, by_profiles, counted-add}
use Rattle.session.proofs.KeptLaws.{kept-nil, kept-none}
use Rattle.session.proofs.CutLaws.{cut-byte, cut-line, cut_none, ended_are, first_of, lines_are, lines_are-more, more_of, parts_of}

-- What was read.

read_ended : (bundles : Bundles) (left left' : Option (List ℕ)) (text : List ℕ) (lines : List (List ℕ)) (part : List ℕ) (cs : List (Option Command))
    → Consumes left left' text → IsCut text lines part → CommandsAre bundles lines cs → HasRead bundles ended_lines left left' cs
read_ended bundles left left' text lines part cs taken cut are = record {
  text = text;
  taken = taken;
  first = first_of lines part;
  more = more_of lines part;
  parts = parts_of text lines part cut;
  each = subst (λ (ls : List (List ℕ)). CommandsAre bundles ls cs) (sym (ended_are lines part)) are;
}

read_lines : (bundles : Bundles) (left left' : Option (List ℕ)) (text : List ℕ) (lines : List (List ℕ)) (cs : List (Option Command))
    → Consumes left left' text → IsCut text lines [] → CommandsAre bundles lines cs → HasRead bundles lines_of left left' cs
read_lines bundles left left' text lines cs taken cut are = record {
  text = text;
  taken = taken;
  first = first_of lines [];
  more = more_of lines [];
  parts = parts_of text lines [] cut;
  each = subst (λ (ls : List (List ℕ)). CommandsAre bundles ls cs) (sym (lines_are lines)) are;
}

read_last : (bundles : Bundles) (left left' : Option (List ℕ)) (text : List ℕ) (lines : List (List ℕ)) (b : ℕ) (part : List ℕ) (cs : List (Option Command))
    → Consumes left left' text → IsCut text lines (b ∷ part) → CommandsAre bundles (lines ++ (b ∷ part) ∷ []) cs
    → HasRead bundles lines_of left left' cs
read_last bundles left left' text lines b part cs taken cut are = record {
  text = text;
  taken = taken;
  first = first_of lines (b ∷ part);
  more = more_of lines (b ∷ part);
  parts = parts_of text lines (b ∷ part) cut;
  each = subst (λ (ls : List (List ℕ)). CommandsAre bundles ls cs) (sym (lines_are-more lines b part)) are;
}

-- What was written.

profiled : (held held' : Option (List ℕ)) (cs : List (Option Command)) → Appends held held' (answer_of by_program cs)
    → Appends held held' (answer_of by_profile cs)
profiled held held' cs h = subst (λ (t : List ℕ). Appends held held' t) (by_profiles cs) h

writing : (bundles : Bundles) (left left' held held' : Option (List ℕ)) (part : List ℕ) (cs : List (Option Command)) (out : ℕ)
    → (b : BreaksOff bundles held held' part cs out) → HasReadWhole bundles left left' (cs ++ b.command ∷ [])
    → StopsWriting bundles left left' held held' out
writing bundles left left' held held' part cs out b whole =
    let all = cs ++ b.command ∷ [] in record {
      commands = cs;
      last = b.command;
      read = whole;
      n = b.n;
      written = subst (λ (t : List ℕ). Appends held held' (take b.n t)) (by_profiles all) b.written;
      behind = subst (λ (t : List ℕ). length t ≤ b.n) (by_profiles cs) b.behind;
      short = subst (λ (t : List ℕ). b.n < length t) (by_profiles all) b.short;
      told = b.told;
    }

lacking : (bundles : Bundles) (left left' held held' : Option (List ℕ)) (part : List ℕ) (cs : List (Option Command)) (line : ℕ)
    → (b : RunsOut bundles held held' part cs line) → HasReadWhole bundles left left' (cs ++ b.command ∷ [])
    → StopsForMemory bundles left left' held held' line
lacking bundles left left' held held' part cs line b whole =
    record {
      commands = cs;
      last = b.command;
      read = whole;
      written = profiled held held' cs b.written;
      told = b.told;
      wants = subst (λ (F : First). WantsMemory b.command (run F (commands_of cs) []).1) same_first b.wants;
    }

-- Before the first byte.
pub nothing_came : (bundles : Bundles) (s : Standing) (left held : Option (List ℕ)) → s.world ≡ [] → s.kept ≡ [] → s.count ≡ 0 → s.out ≡ 0
    → HasCome bundles s left left held held
nothing_came bundles s left held world kept count out = record {
  text = [];
  taken = Consumes-nil left;
  lines = [];
  part = [];
  cut = cut_none;
  commands = [];
  stands = record { are = tt; world = world; kept = kept; count = count; out = out; written = Appends-nil held };
}

module _ (bundles : Bundles) (s : Standing) (left left' held h : Option (List ℕ)) (come : HasCome bundles s left left' held h) where
  -- a byte of a line
  pub came_byte : (t : Standing) (left'' : Option (List ℕ)) (byte : ℕ) → Consumes left' left'' (byte ∷ []) → (byte == line_feed) ≡ false
      → t.world ≡ s.world → ((part : List ℕ) → s.kept ≡ kept_of part → t.kept ≡ kept_of (part ++ byte ∷ []))
      → t.count ≡ s.count → t.out ≡ s.out
      → HasCome bundles t left left'' held h
  came_byte t left'' byte taken other world kept count out = record {
    text = come.text ++ byte ∷ [];
    taken = Consumes-trans left left' left'' come.text (byte ∷ []) come.taken taken;
    lines = come.lines;
    part = come.part ++ byte ∷ [];
    cut = cut-byte come.text come.lines come.part byte come.cut other;
    commands = come.commands;
    stands = record {
      are = come.stands.are;
      world = world ∙ come.stands.world;
      kept = kept come.part come.stands.kept;
      count = count ∙ come.stands.count;
      out = out ∙ come.stands.out;
      written = come.stands.written;
    };
  }

  -- no byte
  pub came_no_more : (left'' : Option (List ℕ)) → Consumes left' left'' [] → HasCome bundles s left left'' held h
  came_no_more left'' taken = record {
    text = come.text;
    taken = subst (λ (t : List ℕ). Consumes left left'' t) (append-nil come.text) (Consumes-trans left left' left'' come.text [] come.taken taken);
    lines = come.lines;
    part = come.part;
    cut = come.cut;
    commands = come.commands;
    stands = come.stands;
  }

  -- a line feed
  module _ (left'' : Option (List ℕ)) (taken : Consumes left' left'' (line_feed ∷ [])) where
    all_taken : Consumes left left'' (come.text ++ line_feed ∷ [])
    all_taken = Consumes-trans left left' left'' come.text (line_feed ∷ []) come.taken taken

    pub came_line : (t : Standing) (h' : Option (List ℕ)) → GoesOn bundles t held h' come.lines come.part come.commands
        → HasCome bundles t left left'' held h'
    came_line t h' g = record {
      text = come.text ++ line_feed ∷ [];
      taken = all_taken;
      lines = come.lines ++ come.part ∷ [];
      part = [];
      cut = cut-line come.text come.lines come.part come.cut;
      commands = come.commands ++ g.command ∷ [];
      stands = g.stands;
    }

    whole : (c : Option Command) → CommandIs bundles come.part c → HasReadWhole bundles left left'' (come.commands ++ c ∷ [])
    whole c is =
        inl (read_ended bundles left left'' (come.text ++ line_feed ∷ []) (come.lines
        ++ come.part ∷ []) [] (come.commands ++ c ∷ []) all_taken
        (cut-line come.text come.lines come.part come.cut)
        (are-more bundles come.lines come.part come.commands c come.stands.are is))

    pub line_not_written : (h' : Option (List ℕ)) (out : ℕ) → BreaksOff bundles held h' come.part come.commands out
        → StopsWriting bundles left left'' held h' out
    line_not_written h' out b = writing bundles left left'' held h' come.part come.commands out b (whole b.command b.is)

    pub line_not_carried : (h' : Option (List ℕ)) (line : ℕ) → RunsOut bundles held h' come.part come.commands line
        → StopsForMemory bundles left left'' held h' line
    line_not_carried h' line b = lacking bundles left left'' held h' come.part come.commands line b (whole b.command b.is)

  -- the source failed
  pub stops_reading : (left'' : Option (List ℕ)) (line : ℕ) → Keeps left' left'' → line ≡ counted (s.count + 1)
      → StopsReading bundles left left'' held h line
  stops_reading left'' line kept told = (
    come.commands,
    read_ended bundles left left'' come.text come.lines come.part come.commands (Consumes-kept left left' left'' come.text come.taken kept) come.cut come.stands.are,
    profiled held h come.commands come.stands.written,
    told ∙ (ap (λ n. counted (n + 1)) come.stands.count ∙ counted-add (length come.commands) 1),
  )

  -- the source is at its end
  module _ (end : IsAtEnd left') where
    pub ends : length s.kept ≡ 0 → IsAnswered bundles left left' held h
    ends empty =
        let none : come.part ≡ [] = kept-none come.part (sym (ap length come.stands.kept) ∙ empty) in (
          come.commands,
          record {
            lines = read_lines bundles left left' come.text come.lines come.commands come.taken
                (subst (λ (p : List ℕ). IsCut come.text come.lines p) none come.cut) come.stands.are;
            end = end;
          },
          profiled held h come.commands come.stands.written,
        )

    -- a last line without a line feed
    last : (part : List ℕ) (cs : List (Option Command)) → IsCut come.text come.lines part → (length (kept_of part) ≡ 0 → ⊥)
        → CommandsAre bundles (come.lines ++ part ∷ []) cs → HasReadAll bundles left left' cs
    last [] cs cut some are = absurd (some kept-nil)
    last (b ∷ part) cs cut some are = record {
      lines = read_last bundles left left' come.text come.lines b part cs come.taken cut are;
      end = end;
    }

    module _ (some : length s.kept ≡ 0 → ⊥) where
      filled : length (kept_of come.part) ≡ 0 → ⊥
      filled e = some (ap length come.stands.kept ∙ e)

      all_read : (c : Option Command) → CommandIs bundles come.part c → HasReadAll bundles left left' (come.commands ++ c ∷ [])
      all_read c is =
          last come.part (come.commands ++ c ∷ []) come.cut filled
          (are-more bundles come.lines come.part come.commands c come.stands.are is)

      pub last_answered : (t : Standing) (h' : Option (List ℕ)) → GoesOn bundles t held h' come.lines come.part come.commands
          → IsAnswered bundles left left' held h'
      last_answered t h' g = (
        come.commands ++ g.command ∷ [],
        last come.part (come.commands ++ g.command ∷ []) come.cut filled g.stands.are,
        profiled held h' (come.commands ++ g.command ∷ []) g.stands.written,
      )

      pub last_not_written : (h' : Option (List ℕ)) (out : ℕ) → BreaksOff bundles held h' come.part come.commands out
          → StopsWriting bundles left left' held h' out
      last_not_written h' out b = writing bundles left left' held h' come.part come.commands out b (inr (all_read b.command b.is))

      pub last_not_carried : (h' : Option (List ℕ)) (line : ℕ) → RunsOut bundles held h' come.part come.commands line
          → StopsForMemory bundles left left' held h' line
      last_not_carried h' line b = lacking bundles left left' held h' come.part come.commands line b (inr (all_read b.command b.is))
