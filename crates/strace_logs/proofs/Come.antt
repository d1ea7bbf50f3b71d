-- A text that comes in parts, and its lines.
use Rattle.std.proofs.Common.{◌≡◌, ℕ, Bool, true, false, cond, List, [], ◌∷◌, ◌++◌, refl, sym, ap, subst, ◌∙◌, append_assoc, append-nil}
use Rattle.std.specs.Prelude.{◌==◌}
use Rattle.std.specs.List.{onto_first}
use Rattle.std.proofs.lemmas.List.Splits.{slice_split-cons_no, slice_split-cons_yes}
use Rattle.machines.specs.declared.arch.Arch.{Arch}
use Rattle.texts.specs.Lines.{line_feed}
use Rattle.wording.specs.Lines.{lines_of}
use Rattle.strace_logs.specs.declared.calls.Seen.{Seen}
use Rattle.strace_logs.specs.Taken.{AreTaken, HasCome, onto}

onto_nothing : (rest : List ℕ) → lines_of rest ≡ onto [] (lines_of rest)
onto_nothing [] = refl
onto_nothing (b ∷ rest) = by_test (b == line_feed) (lines_of rest) where
  by_test : (t : Bool) (parts : List (List ℕ)) → cond t ([] ∷ parts) (onto_first b parts) ≡ onto [] (cond t ([] ∷ parts) (onto_first b parts))
  by_test true parts = refl
  by_test false [] = refl
  by_test false (x ∷ parts) = refl

onto_byte : (part : List ℕ) (b : ℕ) (parts : List (List ℕ)) → onto part (onto_first b parts) ≡ onto (part ++ b ∷ []) parts
onto_byte part b [] = refl
onto_byte part b (x ∷ parts) = ap (λ (l : List ℕ). l ∷ parts) (sym (append_assoc part (b ∷ []) x))

-- nothing has come
pub nothing_came : (native : Arch) (before : List (List ℕ)) (part : List ℕ) (seen : List Seen) → part ≡ [] → AreTaken native before seen
    → HasCome native before [] part seen
nothing_came native before part seen e t = record {
  lines = [];
  cut = λ rest. subst (λ (l : List ℕ). lines_of rest ≡ onto l (lines_of rest)) (sym e) (onto_nothing rest);
  taken = subst (λ (l : List (List ℕ)). AreTaken native l seen) (sym (append-nil before)) t;
}

-- a byte that is no line feed
pub byte_came : (native : Arch) (before : List (List ℕ)) (text part : List ℕ) (seen : List Seen) (b : ℕ) → (b == line_feed) ≡ false
    → HasCome native before text part seen → HasCome native before (text ++ b ∷ []) (part ++ b ∷ []) seen
byte_came native before text part seen b e come = record {
  lines = come.lines;
  cut = λ rest.
      ap lines_of (append_assoc text (b ∷ []) rest) ∙ come.cut (b ∷ rest)
      ∙ ap (λ (l : List (List ℕ)). come.lines ++ onto part l) (slice_split-cons_no (λ x. x == line_feed) b rest e)
      ∙ ap (λ (l : List (List ℕ)). come.lines ++ l) (onto_byte part b (lines_of rest));
  taken = come.taken;
}

-- a line feed, once the line was taken
pub line_came : (native : Arch) (before : List (List ℕ)) (text part : List ℕ) (old new : List Seen) (come : HasCome native before text part old)
    → AreTaken native ((before ++ come.lines) ++ part ∷ []) new → HasCome native before (text ++ line_feed ∷ []) [] new
line_came native before text part old new come taken = record {
  lines = come.lines ++ part ∷ [];
  cut = λ rest.
      ap lines_of (append_assoc text (line_feed ∷ []) rest) ∙ come.cut (line_feed ∷ rest)
      ∙ ap (λ (l : List (List ℕ)). come.lines ++ onto part l) (slice_split-cons_yes (λ x. x == line_feed) line_feed rest refl)
      ∙ ap (λ (l : List ℕ). come.lines ++ (l ∷ lines_of rest)) (append-nil part)
      ∙ sym (append_assoc come.lines (part ∷ []) (lines_of rest))
      ∙ ap (λ (l : List (List ℕ)). (come.lines ++ part ∷ []) ++ l) (onto_nothing rest);
  taken = subst (λ (l : List (List ℕ)). AreTaken native l new) (append_assoc before come.lines (part ∷ [])) taken;
}

-- the end, once the last line was taken
pub all_came : (native : Arch) (before : List (List ℕ)) (text part : List ℕ) (old new : List Seen) (come : HasCome native before text part old)
    → AreTaken native ((before ++ come.lines) ++ part ∷ []) new → AreTaken native (before ++ lines_of text) new
all_came native before text part old new come taken =
    let whole : lines_of text ≡ come.lines ++ part ∷ [] =
    ap lines_of (sym (append-nil text)) ∙ come.cut [] ∙ ap (λ (l : List ℕ). come.lines ++ (l ∷ [])) (append-nil part) in
    subst (λ (l : List (List ℕ)). AreTaken native (before ++ l) new) (sym whole)
    (subst (λ (l : List (List ℕ)). AreTaken native l new) (append_assoc before come.lines (part ∷ [])) taken)
