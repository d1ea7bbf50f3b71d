-- What was gathered of lines: one line more, and the texts that have the lines.
use Rattle.std.proofs.Common.{◌≡◌, ℕ, List, [], ◌∷◌, ◌++◌, sym, ap, subst, ◌∙◌, inl, inr, append_assoc, append-nil, arith}
use Rattle.std.specs.Prelude.{Option, Some, None, IfSome}
use Rattle.std.specs.List.{All, Contains}
use Rattle.std.proofs.lemmas.List.Elements.{All-nil, All-cons, All-push, All-weaker, All-contains, All-contains_itself}
use Rattle.std.proofs.lemmas.List.Elements.{Contains-push, Contains-append_left, Contains-append_right, Contains-append_cases}
use Rattle.call_record.specs.Verdict.{allow}
use Rattle.machines.specs.declared.arch.Arch.{Arch}
use Rattle.profile.specs.Policy.{Policy, Says}
use Rattle.strace_logs.specs.Line.{CallParts, call_in, words_of_call}
use Rattle.wording.specs.Lines.{lines_of}
use Rattle.strace_logs.specs.declared.calls.Seen.{Seen}
use Rattle.strace_logs.specs.Learned.{AllowsLine, AllowsText, IsSeen}
use Rattle.strace_logs.specs.inner.Seen.{AreSeen}
use Rattle.strace_logs.specs.Taken.{AllowsEach, AreTaken, Grows, IsCovered, IsShown, LineIsCovered, lines_in}
use Rattle.strace_logs.proofs.Lines.{first_of, later_of}

if_some_weaker : (P Q : CallParts → Type 0) → ((x : CallParts) → P x → Q x) → (o : Option CallParts) → IfSome o P → IfSome o Q
if_some_weaker P Q h None p = p
if_some_weaker P Q h (Some x) p = h x p

shown_more : (native : Arch) (lines more : List (List ℕ)) (arch : Arch) (nr : ℕ) → IsShown native lines arch nr → IsShown native (lines ++ more) arch nr
shown_more native lines more arch nr s = record {
  line = s.line;
  among = Contains-append_left lines more s.line s.among;
  args = s.args;
  told = s.told;
}

covered_more : (native : Arch) (old new : List Seen) → ((s : Seen) → Contains old s → Contains new s) → (line : List ℕ)
    → LineIsCovered native old line → LineIsCovered native new line
covered_more native old new kept line =
    if_some_weaker (IsCovered old) (IsCovered new)
    (λ call c. record { by = c.by; among = kept c.by c.among; covers = c.covers; is_record = c.is_record }) (call_in native line)

all_shown_more : (native : Arch) (lines more : List (List ℕ)) (seen : List Seen) → All (λ (s : Seen). IsShown native lines s.arch s.nr) seen
    → All (λ (s : Seen). IsShown native (lines ++ more) s.arch s.nr) seen
all_shown_more native lines more seen shown =
    All-weaker (λ (s : Seen). IsShown native lines s.arch s.nr) (λ (s : Seen). IsShown native (lines ++ more) s.arch s.nr)
    (λ s. shown_more native lines more s.arch s.nr) seen shown

-- ---- one line more

-- a line that tells no call
pub taken_none : (native : Arch) (lines : List (List ℕ)) (line : List ℕ) (seen : List Seen) → call_in native line ≡ None
    → AreTaken native lines seen → AreTaken native (lines ++ line ∷ []) seen
taken_none native lines line seen e t = record {
  shown = all_shown_more native lines (line ∷ []) seen t.shown;
  covered = All-push (LineIsCovered native seen) lines line t.covered (subst (λ (o : Option CallParts). IfSome o (IsCovered seen)) (sym e) tt);
}

grown_keeps : (old new : List Seen) (arch : Arch) (nr : ℕ) → Grows old new arch nr → (s : Seen) → Contains old s → Contains new s
grown_keeps old new arch nr (inl e) s among = subst (λ (l : List Seen). Contains l s) (sym e) among
grown_keeps old new arch nr (inr (x, e, _, _)) s among =
    subst (λ (l : List Seen). Contains l s) (sym e) (Contains-append_left old (x ∷ []) s among)

grown_shown : (native : Arch) (lines : List (List ℕ)) (line : List ℕ) (old new : List Seen) (arch : Arch) (nr : ℕ) (args : List ℕ)
    → call_in native line ≡ Some (arch, nr, args) → Grows old new arch nr → All (λ (s : Seen). IsShown native lines s.arch s.nr) old
    → All (λ (s : Seen). IsShown native (lines ++ line ∷ []) s.arch s.nr) new
grown_shown native lines line old new arch nr args told (inl e) shown =
    subst (λ (l : List Seen). All (λ (s : Seen). IsShown native (lines ++ line ∷ []) s.arch s.nr) l) (sym e)
    (all_shown_more native lines (line ∷ []) old shown)
grown_shown native lines line old new arch nr args told (inr (x, e, a, n)) shown =
    let here : IsShown native (lines ++ line ∷ []) arch nr =
    record { line = line; among = Contains-push lines line; args = args; told = told } in
    let there : IsShown native (lines ++ line ∷ []) x.arch x.nr =
    subst (λ (m : Arch). IsShown native (lines ++ line ∷ []) m x.nr) a (subst (λ (k : ℕ). IsShown native (lines ++ line ∷ []) arch k) n here) in
    subst (λ (l : List Seen). All (λ (s : Seen). IsShown native (lines ++ line ∷ []) s.arch s.nr) l) (sym e)
    (All-push (λ (s : Seen). IsShown native (lines ++ line ∷ []) s.arch s.nr) old x (all_shown_more native lines (line ∷ []) old shown) there)

-- a line that tells a call, which was gathered
pub taken_more : (native : Arch) (lines : List (List ℕ)) (line : List ℕ) (old new : List Seen) (arch : Arch) (nr : ℕ) (args : List ℕ)
    → call_in native line ≡ Some (arch, nr, args) → Grows old new arch nr → IsCovered new (arch, nr, args)
    → AreTaken native lines old → AreTaken native (lines ++ line ∷ []) new
taken_more native lines line old new arch nr args told grows covered t = record {
  shown = grown_shown native lines line old new arch nr args told grows t.shown;
  covered =
      All-push (LineIsCovered native new) lines line
      (All-weaker (LineIsCovered native old) (LineIsCovered native new) (covered_more native old new (grown_keeps old new arch nr grows)) lines
      t.covered)
      (subst (λ (o : Option CallParts). IfSome o (IsCovered new)) (sym told) covered);
}

-- ---- the texts

pub lines_in-push : (texts : List (List ℕ)) (text : List ℕ) → lines_in (texts ++ text ∷ []) ≡ lines_in texts ++ lines_of text
lines_in-push [] text = append-nil (lines_of text)
lines_in-push (t ∷ texts) text =
    ap (λ (l : List (List ℕ)). lines_of t ++ l) (lines_in-push texts text) ∙ sym (append_assoc (lines_of t) (lines_in texts) (lines_of text))

in_texts : (texts : List (List ℕ)) (line : List ℕ) → Contains (lines_in texts) line
    → (text : List ℕ) × Contains texts text × Contains (lines_of text) line
in_texts [] line (k, below, _) = absurd (omega (arith, below))
in_texts (t ∷ texts) line h =
    elim (Contains-append_cases (lines_of t) (lines_in texts) line h) [
      | inl here ↦ (t, first_of t texts, here)
      | inr later ↦ let found = in_texts texts line later in (found.0, later_of t found.0 texts found.1, found.2)
    ]

all_in_texts : (P : List ℕ → Type 0) (texts : List (List ℕ)) → All P (lines_in texts) → All (λ (t : List ℕ). All P (lines_of t)) texts
all_in_texts P [] all = All-nil (λ (t : List ℕ). All P (lines_of t))
all_in_texts P (t ∷ texts) all =
    All-cons (λ (u : List ℕ). All P (lines_of u)) t texts
    (All-weaker (Contains (lines_of t)) P
    (λ line among. All-contains P (lines_of t ++ lines_in texts) line all (Contains-append_left (lines_of t) (lines_in texts) line among))
    (lines_of t) (All-contains_itself (lines_of t)))
    (all_in_texts P texts
    (All-weaker (Contains (lines_in texts)) P
    (λ line among. All-contains P (lines_of t ++ lines_in texts) line all (Contains-append_right (lines_of t) (lines_in texts) line among))
    (lines_in texts) (All-contains_itself (lines_in texts))))

-- each call is told by a line of a text
pub are_seen : (native : Arch) (texts : List (List ℕ)) (seen : List Seen) → AreTaken native (lines_in texts) seen → AreSeen native texts seen
are_seen native texts seen t =
    All-weaker (λ (s : Seen). IsShown native (lines_in texts) s.arch s.nr) (λ (s : Seen). IsSeen native texts s.arch s.nr)
    (λ s h. let found = in_texts texts h.line h.among in
    record { text = found.0; among = found.1; line = h.line; in_text = found.2; args = h.args; told = h.told }) seen t.shown

-- a profile that allows each call that was gathered allows each record of the texts
pub texts_allowed : (native : Arch) (p : Policy) (texts : List (List ℕ)) (seen : List Seen) → AreTaken native (lines_in texts) seen
    → All (AllowsEach p) seen → All (AllowsText native p) texts
texts_allowed native p texts seen t all =
    all_in_texts (AllowsLine native p) texts
    (All-weaker (LineIsCovered native seen) (AllowsLine native p)
    (λ line. if_some_weaker (IsCovered seen) (λ (call : CallParts). Says p (words_of_call call) allow)
    (λ call c. All-contains (AllowsEach p) seen c.by all c.among call c.covers c.is_record) (call_in native line))
    (lines_in texts) t.covered)
