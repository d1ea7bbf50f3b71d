-- What is told of events.
use Rattle.std.proofs.Common.{◌≡◌, ◌≢◌, ℕ, ◌+◌, ◌<◌, Bool, true, false, List, [], ◌∷◌, ◌++◌, length, get_or, take, drop, sym, ap, ◌∙◌, add-one, append_assoc}
use Rattle.std.proofs.Common.{◌⊎◌, inl, inr}
use Rattle.std.specs.Prelude.{◌↔◌, ◌==◌, ◌&&◌, count_by, not}
use Rattle.std.specs.List.{All, list_all, list_any}
use Rattle.std.proofs.lemmas.Bool.{and_parts, eq-eqb, eqb-false, eqb-true}
use Rattle.std.proofs.lemmas.List.{nil_from_length, take_more}
use Rattle.std.proofs.lemmas.List.Sums.{AllPass-from_list_all, list_all-from_AllPass}
use Rattle.std.proofs.Math.Seq.{drop-cons}
use Rattle.machines.specs.declared.arch.Family.{Family}
use Rattle.profile.specs.declared.rules.Rule.{Rule}
use Rattle.profile.specs.Policy.{Policy}
use Rattle.explain.specs.Audit.{MayBe, audit_text, count_others, event_lines, further_line, is_same, lines_behind, listed, may_be, others_line, unread_line}
use Rattle.explain.specs.declared.audited.event.Event.{Event}

-- the lines of those that are left are those of the next one, and of those behind it
pub lines_step : (family : Family) (p : Policy) (rules : List Rule) (ends : List ℕ) (all : List Event)
    (origins : List (Event × List ℕ)) (xs : List Event) (i : ℕ) (d : Event) → i < length xs
    → lines_behind family p rules ends all origins (take i xs) (drop i xs)
    ≡ event_lines family p rules ends all origins (take i xs) (get_or xs i d)
    ++ lines_behind family p rules ends all origins (take (i + 1) xs) (drop (i + 1) xs)
lines_step family p rules ends all origins xs i d below =
    let x = get_or xs i d in
    let rest : drop i xs ≡ x ∷ drop (i + 1) xs = drop-cons xs i d below ∙ ap (λ (k : ℕ). x ∷ drop k xs) (sym (add-one i)) in
    let now = event_lines family p rules ends all origins (take i xs) x in
    ap (lines_behind family p rules ends all origins (take i xs)) rest
    ∙ ap (λ (before : List Event). now ++ lines_behind family p rules ends all origins before (drop (i + 1) xs))
    (sym (take_more xs i d below))

-- it is done just where the profile may answer so to each, and each line is read
pub done_is : (p : Policy) (events : List Event) (unread : ℕ) (done : Bool) → done ≡ (unread == 0 && list_all (may_be p) events)
    → (done ≡ true) ↔ (All (MayBe p) events × (unread ≡ 0))
done_is p events unread done is = (
  λ e.
      let both = and_parts (unread == 0) (list_all (may_be p) events) (sym is ∙ e) in
      (AllPass-from_list_all (may_be p) events both.1, eqb-true unread 0 both.0),
  λ h.
      is ∙ ap (λ (t : Bool). t && list_all (may_be p) events) (eq-eqb unread 0 h.1)
      ∙ list_all-from_AllPass (may_be p) events h.0,
)

-- there are events, or lines that are not read
pub some_is : (events : List Event) (unread : ℕ) → (length events == 0 && unread == 0) ≡ false → (events ≢ []) ⊎ (unread ≢ 0)
some_is [] unread h = inr (eqb-false unread 0 h)
some_is (e ∷ es) unread h = inl (λ nothing. absurd (cc))

pub nothing_is : (events : List Event) (unread : ℕ) → (length events == 0 && unread == 0) ≡ true → (events ≡ []) × (unread ≡ 0)
nothing_is events unread h =
    let both = and_parts (length events == 0) (unread == 0) h in
    (nil_from_length events (eqb-true (length events) 0 both.0), eqb-true unread 0 both.1)

-- what is told in five parts
pub told_five : (old one two three four a b c d k : List ℕ) → one ≡ old ++ a → two ≡ one ++ b → three ≡ two ++ c → four ≡ three ++ d
    → four ++ k ≡ old ++ (a ++ b ++ c ++ d ++ k)
told_five old one two three four a b c d k e f g h =
    ap (λ (l : List ℕ). l ++ k)
    (h ∙ ap (λ (l : List ℕ). l ++ d) (g ∙ ap (λ (l : List ℕ). l ++ c) (f ∙ ap (λ (l : List ℕ). l ++ b) e)))
    ∙ simp append_assoc

-- the lines of those that are listed, how many lines tell others, how many other processes, and how many are not read
pub whole_text : (family : Family) (p : Policy) (rules : List Rule) (ends : List ℕ) (events : List Event) (origins : List (Event × List ℕ))
    (firsts seconds : List Event) (further unread n : ℕ) (new behind last put old : List ℕ) → new ≡ behind ++ unread_line unread
    → behind ≡ last ++ further_line further → last ≡ put ++ others_line n
    → n ≡ count_by (λ e. not (list_any (λ b. is_same b e) seconds)) events → seconds ≡ listed events
    → put ≡ old ++ lines_behind family p rules ends events origins [] firsts → firsts ≡ listed events → old ≡ []
    → new ≡ audit_text family p rules ends events origins further unread
whole_text family p rules ends events origins firsts seconds further unread n new behind last put old
    new_is behind_is last_is count_is seconds_are put_is firsts_are nothing =
    let lines = lines_behind family p rules ends events origins [] (listed events) in
    let front : put ≡ lines =
    put_is ∙ ap (λ (o : List ℕ). o ++ lines_behind family p rules ends events origins [] firsts) nothing
    ∙ ap (lines_behind family p rules ends events origins []) firsts_are in
    let many : n ≡ count_others events =
    count_is ∙ ap (λ (l : List Event). count_by (λ e. not (list_any (λ b. is_same b e) l)) events) seconds_are in
    let others : last ≡ lines ++ others_line (count_others events) =
    last_is ∙ ap (λ (l : List ℕ). l ++ others_line n) front ∙ ap (λ (k : ℕ). lines ++ others_line k) many in
    new_is
    ∙ ap (λ (l : List ℕ). l ++ unread_line unread) (behind_is ∙ ap (λ (l : List ℕ). l ++ further_line further) others)
    ∙ simp append_assoc

-- a line in two parts
pub told_two : (old one a b c d : List ℕ) → one ≡ old ++ (a ++ b ++ c) → one ++ d ≡ old ++ (a ++ b ++ c ++ d)
told_two old one a b c d h = ap (λ (l : List ℕ). l ++ d) h ∙ simp append_assoc
